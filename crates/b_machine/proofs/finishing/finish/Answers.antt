use Rattle.std.proofs.Common.{sym, subst}
use Rattle.osek_model.specs.Plan.{Plan}
use Rattle.osek_model.specs.Call.{IsCallOf}
use Rattle.b_machine.proofs.Declared.{declared}
use Rattle.b_machine.proofs.finishing.finish.Goals as goal

pub serve-requires-clause-call : goal.serve-requires-clause-call
serve-requires-clause-call c =
    subst (λ (plan : Plan). IsCallOf plan c.in-Serve.call) (sym c.requires.next.plan) (declared c.args.program.now.bound.config c.in-Serve.call (rw c.in-Serve.is at c.requires.known))
