use Rattle.std.proofs.Common.{◌-◌, ◌∙◌, arith}
use Rattle.kbind.proofs.Searching.{one_before}
use Rattle.kbind.specs.Cells.{is_of}
use Rattle.kbind.proofs.mapped.all_parts.Goals as goal

pub loop-n-preserved : goal.loop-n-preserved
loop-n-preserved c = λ class name.
    c.in_ok-add_parts.ensures class name
    ∙ one_before (is_of class name) c.args.lines.now (c.loop-n.n - 1) c.loop-n.n c.index-lines-n.result _ (omega arith) (omega arith) c.index-lines-n.is (c.loop-n.invariant class name)
