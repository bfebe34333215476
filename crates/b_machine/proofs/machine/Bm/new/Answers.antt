use Rattle.std.proofs.Common.{ap, ◌∙◌}
use Rattle.b_machine.specs.State.{State}
use Rattle.b_machine.proofs.machine.Bm.new.Goals as goal

pub returns-in-Ok : goal.returns-in-Ok
returns-in-Ok c = c.begun.ensures ∙ ap (λ (s : State). record { app = c.args.program; state = s }) c.in-Ok.ensures.state
