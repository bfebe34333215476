use Rattle.std.proofs.Common.{◌≡◌, ◌-◌, ◌==◌}
use Rattle.std.specs.List.{list_any}
use Rattle.jworld.specs.Upwards.{is_subclass}
use Rattle.jworld.proofs.Walking.{way_up}
use Rattle.jworld.proofs.classes.Classes.is_subclass.Given as goal

abbrev pub invariant-loop-step : goal.invariant-loop-step
invariant-loop-step l = list_any (λ c. c == l.of.n) (way_up l.self (l._step-end - l._step) l.next) ≡ is_subclass l.self l.fn.class.n l.of.n
