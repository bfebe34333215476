use Rattle.std.proofs.Common.{ap, ◌∙◌, sym}
use Rattle.b_machine.specs.Application.{tables}
use Rattle.b_machine.specs.Shown.{Planned}
use Rattle.b_machine.proofs.Served.{with_system}
use Rattle.b_machine.proofs.leaving.start_behind.Goals as goal

pub returns-in-None : goal.returns-in-None
returns-in-None c =
    let s : Planned = record { plan = c.shared.inside.system.plan; shared = record { domains = c.shared.inside.domains.items; system = c.shared.inside.system.system } } in
    rw (c.in-None.is, ← c.shared.view_is)
    (ap (with_system s) (c.start.ensures.state (tables c.args.program.now) (sym (ap (λ (x : Planned). x.plan) c.shared.view_is ∙ c.requires.plan))))
