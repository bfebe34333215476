use Rattle.std.proofs.Common.{◌≡◌, drop, filter, slice_get}
use Rattle.jworld.specs.Methods.{declaring}
use Rattle.jworld.proofs.Declaring.{declares}
use Rattle.jworld.proofs.world.World.first_declaring.Given as goal

abbrev pub invariant-loop-n : goal.invariant-loop-n
invariant-loop-n l = slice_get (filter (declares l.self l.key) (drop l.n-index l.n-items)) 0 ≡ slice_get (declaring l.self l.key l.fn.class.n) 0
