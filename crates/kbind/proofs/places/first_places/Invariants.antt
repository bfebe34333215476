use Rattle.std.proofs.Common.{map, drop}
use Rattle.kbind.specs.Places.{AreFirst}
use Rattle.kbind.proofs.places.first_places.Given as goal

abbrev pub invariant-loop-place : goal.invariant-loop-place
invariant-loop-place l = AreFirst l.places l.place (map (λ text. text.now) (drop l.place l.texts))
