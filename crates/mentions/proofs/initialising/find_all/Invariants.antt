-- The initialisers of the classes before the loop's place.
use Rattle.std.proofs.Common.{◌≡◌, map}
use Rattle.std.specs.List.{range_with_len}
use Rattle.mentions.specs.Initialisers.{initialiser_of}
use Rattle.mentions.proofs.initialising.find_all.Given as goal

abbrev pub invariant-loop-n : goal.invariant-loop-n
invariant-loop-n l = l.all ≡ map (initialiser_of l.world) (range_with_len 0 l.n)
