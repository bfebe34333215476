use Rattle.std.proofs.Common.{◌-◌, ◌∙◌, arith}
use Rattle.kbind.specs.Objects.{ends_within}
use Rattle.kbind.proofs.Searching.{all_before}
use Rattle.kbind.proofs.rooms.all_rooms.Goals as goal

pub loop-n-preserved : goal.loop-n-preserved
loop-n-preserved c = λ line.
    c.in_ok-add_cell.ensures line
    ∙ all_before (ends_within c.args.size line) c.args.cells.now (c.loop-n.n - 1) c.loop-n.n c.index-cells-n.result _ (omega arith) (omega arith) c.index-cells-n.is (c.loop-n.invariant line)
