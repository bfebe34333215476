use Rattle.std.proofs.Common.{◌∙◌, ap, [], ◌∷◌, ◌++◌, reverse, arith}
use Rattle.b_frame.proofs.FromTheTop.{replaced_two}
use Rattle.b_frame.proofs.operands.Operands.replace_two.Goals as goal

pub returns : goal.returns
returns c =
    ap reverse (c.push_reserved-2.ensures.items ∙ ap (λ ys. ys ++ c.args.first ∷ []) (c.push_reserved.ensures.items ∙ ap (λ ys. ys ++ c.args.second ∷ []) c.truncate.ensures.items))
    ∙ replaced_two c.self.inside.values.items c.args.self.now _ c.args.first c.args.second c.self.view_is (search arith) c.requires
