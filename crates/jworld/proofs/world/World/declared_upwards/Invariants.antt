use Rattle.std.proofs.Common.{◌≡◌, ◌-◌}
use Rattle.jworld.specs.Fields.{first_found}
use Rattle.jworld.specs.Upwards.{upwards}
use Rattle.jworld.specs.Members.{is_method, declared_method}
use Rattle.jworld.proofs.Walking.{way_up}
use Rattle.jworld.proofs.world.World.declared_upwards.Given as goal

abbrev pub invariant-loop-step : goal.invariant-loop-step
invariant-loop-step l = first_found (declared_method l.self (is_method l.key)) (way_up l.self (l._step-end - l._step) l.next) ≡ first_found (declared_method l.self (is_method l.key)) (upwards l.self l.fn.class.n)
