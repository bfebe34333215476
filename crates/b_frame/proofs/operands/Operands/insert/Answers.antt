use Rattle.std.proofs.Common.{◌∙◌, ap, reverse, arith}
use Rattle.b_frame.proofs.FromTheTop.{inserted}
use Rattle.b_frame.proofs.operands.Operands.insert.Goals as goal

pub returns-clause-ok : goal.returns-clause-ok
returns-clause-ok c = ap reverse c.in_ok-insert.ensures.items ∙ inserted c.self.inside.values.items c.args.self.now _ c.args.depth c.args.value c.self.view_is (search arith) c.requires
