use Rattle.std.proofs.Common.{◌∙◌, ap, reverse, arith, ◌-◌, set}
use Rattle.b_frame.proofs.FromTheTop.{replaced}
use Rattle.b_frame.proofs.operands.Operands.replace.Goals as goal

pub returns : goal.returns
returns c =
    ap (λ ys. reverse (set ys (c.len.result - c.args.count) c.args.value)) c.truncate.ensures.items
    ∙ replaced c.self.inside.values.items c.args.self.now _ c.args.count c.args.value c.self.view_is (search arith) c.requires.some c.requires.within
