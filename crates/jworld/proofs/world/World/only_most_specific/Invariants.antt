use Rattle.std.proofs.Common.{◌≡◌, ◌&&◌, drop, filter, is_some}
use Rattle.jworld.specs.Methods.{is_most_specific, concrete_method, most_specific, only_one}
use Rattle.jworld.proofs.Ranges.{only_of}
use Rattle.jworld.proofs.Declaring.{declares}
use Rattle.jworld.proofs.world.World.only_most_specific.Given as goal

abbrev pub invariant-loop-n : goal.invariant-loop-n
invariant-loop-n l =
    only_of l.found (filter (λ above. declares l.self l.key above && is_most_specific l.self l.key l.class.n above && is_some (concrete_method l.self l.key above)) (drop l.n-index l.n-items))
    ≡ only_one (filter (λ above. is_some (concrete_method l.self l.key above)) (most_specific l.self l.key l.class.n))
