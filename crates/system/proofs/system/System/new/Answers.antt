use Rattle.std.proofs.Common.{sym, ap, ◌∙◌}
use Rattle.osek_core.specs.Kernel.System.{start_system}
use Rattle.system.specs.Value.{PlannedSystem, first_system}
use Rattle.system.proofs.system.System.new.Goals as goal

pub returns-clause-system : goal.returns-clause-system
returns-clause-system c =
    let tables = c.args.tables.now in
    ap (λ (x : PlannedSystem). x.system) (c.start.ensures.state tables (sym c.in_ok-system.ensures.plan))
    ∙ ap (start_system tables) c.in_ok-system.ensures.system ∙ ap (first_system tables) (sym c.if-has_initialisers.false)
