use Rattle.std.proofs.Common.{◌∙◌, ◌-◌, ◌≤◌, ap, length, reverse, arith}
use Rattle.std.specs.List.{insert}
use Rattle.b_frame.proofs.FromTheTop.{inserted_two, inserted_again}
use Rattle.b_frame.proofs.operands.Operands.insert_two.Goals as goal

pub returns-clause-ok : goal.returns-clause-ok
returns-clause-ok c =
    let within : c.len.result - c.args.depth ≤ length c.self.inside.values.items = search arith in
    ap reverse (
    c.in_ok-insert-2.ensures.items
    ∙ ap (λ ys. insert ys (c.len.result - c.args.depth) c.args.second) (c.in_ok-insert.ensures.items ∙ ap (λ ys. insert ys (c.len.result - c.args.depth) c.args.first) c.reserve.ensures.items)
    ∙ inserted_again c.self.inside.values.items (c.len.result - c.args.depth) c.args.first c.args.second within
    )
    ∙ inserted_two c.self.inside.values.items c.args.self.now (c.len.result - c.args.depth) c.args.depth c.args.first c.args.second c.self.view_is (search arith) c.requires
