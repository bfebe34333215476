use Rattle.std.proofs.Common.{arith}
use Rattle.b_frame.proofs.FromTheTop.{topmost}
use Rattle.b_frame.proofs.operands.Operands.topmost.Goals as goal

pub returns-then-count-all : goal.returns-then-count-all
returns-then-count-all c = topmost c.deref.result.now c.args.self.now _ c.args.count (rw c.deref.ensures.value c.self.view_is) (omega arith)
