use Rattle.std.proofs.Common.{◌≡◌, ◌-◌}
use Rattle.jworld.specs.Fields.{first_found}
use Rattle.jworld.specs.Methods.{inherited_method, selected_method}
use Rattle.jworld.proofs.Walking.{way_up}
use Rattle.jworld.proofs.world.World.select.Given as goal

abbrev pub invariant-loop-step : goal.invariant-loop-step
invariant-loop-step l = first_found (inherited_method l.self l.key) (way_up l.self (l._step-end - l._step) l.next) ≡ selected_method l.self l.key l.fn.class.n
