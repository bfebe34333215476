use Rattle.std.proofs.Common.{◌∙◌, ap, reverse, arith}
use Rattle.b_frame.proofs.FromTheTop.{discarded}
use Rattle.b_frame.proofs.operands.Operands.discard.Goals as goal

pub returns : goal.returns
returns c = ap reverse c.truncate.ensures.items ∙ discarded c.self.inside.values.items c.args.self.now c.saturating_sub-kept.result c.args.count c.self.view_is (search (arith))
