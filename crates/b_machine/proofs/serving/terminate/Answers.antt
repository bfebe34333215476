use Rattle.std.proofs.Common.{ap, ◌∙◌, true, sym, subst, Some}
use Rattle.osek_core.specs.declared.call.Call.TheVariants.{TerminateTask}
use Rattle.osek_core.specs.declared.event.Who.TheVariants.{Task}
use Rattle.b_machine.specs.Application.{tables}
use Rattle.b_machine.specs.State.{at_entry}
use Rattle.b_machine.specs.Step.{terminate}
use Rattle.b_machine.specs.Shown.{Planned, Leaves}
use Rattle.b_machine.proofs.Served.{with_system, leaves}
use Rattle.b_machine.proofs.serving.terminate.Goals as goal

pub returns : goal.returns
returns c =
    let app = c.args.program.now in
    let actor = c.args.actor.now in
    let s : Planned = record { plan = c.shared.inside.system.plan; shared = record { domains = c.shared.inside.domains.items; system = c.shared.inside.system.system } } in
    let answer = c.service-answer.result in
    let plan = sym (ap (λ (x : Planned). x.plan) c.shared.view_is ∙ c.requires.plan) in
    subst (λ (x : Planned). Leaves (terminate app (Task c.args.task) actor x.shared) x (Some c.called.result) c.end_or_refuse.new.actor (with_system s c.service-answer.new.self)) c.shared.view_is
    (leaves app c.args.task actor s TerminateTask c.in_ok-frame.frame answer.value answer.ended
    (λ may. c.in_ok-frame.ensures ∙ ap (at_entry app) c.entry.ensures) (c.service-answer.ensures.value (tables app) plan) (c.service-answer.ensures.ended (tables app) plan)
    (λ value. record actor { refused = true }) c.end_or_refuse.new.actor c.service-answer.new.self c.called.result c.end_or_refuse.ensures (c.service-answer.ensures.state (tables app) plan) c.called.ensures)
