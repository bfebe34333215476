use Rattle.std.proofs.Common.{ap, ◌∙◌, sym, subst, Some}
use Rattle.std.specs.Prelude.{if◌then◌else◌}
use Rattle.osek_core.specs.declared.event.Who.TheVariants.{Task}
use Rattle.values.specs.declared.value.Value.TheVariants.{Int}
use Rattle.b_machine.specs.Application.{tables}
use Rattle.b_machine.specs.Callers.{answered_by}
use Rattle.b_machine.specs.Serving.{begun_at}
use Rattle.b_machine.specs.State.{Actor}
use Rattle.b_machine.specs.Step.{call_kernel}
use Rattle.b_machine.specs.Shown.{Planned, Leaves}
use Rattle.b_machine.proofs.Served.{with_system, leaves}
use Rattle.b_machine.proofs.serving.serve_task.Goals as goal

pub returns : goal.returns
returns c =
    let app = c.args.program.now in
    let actor = c.args.actor.now in
    let frame = c.in_ok-frame.frame in
    let s : Planned = record { plan = c.shared.inside.system.plan; shared = record { domains = c.shared.inside.domains.items; system = c.shared.inside.system.system } } in
    let answer = c.service-answer.result in
    let plan = sym (ap (λ (x : Planned). x.plan) c.shared.view_is ∙ c.requires.next.plan) in
    subst (λ (x : Planned). Leaves (call_kernel app (Task c.args.task) actor x.shared c.args.call (λ value. answered_by c.args.next (Int value) actor)) x (Some c.called.result) c.go_on.new.actor (with_system s c.service-answer.new.self)) c.shared.view_is
    (leaves app c.args.task actor s c.args.call frame answer.value answer.ended
    c.in_ok-frame.ensures.0 (c.service-answer.ensures.value (tables app) plan) (c.service-answer.ensures.ended (tables app) plan)
    (λ value. answered_by c.args.next (Int value) actor) c.go_on.new.actor c.service-answer.new.self c.called.result
    (c.go_on.ensures ∙ ap (λ (a : Actor). if answer.ended then begun_at frame a else answered_by c.args.next (Int answer.value) a) c.in_ok-frame.ensures.1)
    (c.service-answer.ensures.state (tables app) plan) c.called.ensures)
