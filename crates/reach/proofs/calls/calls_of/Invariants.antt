-- The calls of the pairs before the loop's place, and the pairs that each of them runs.
use Rattle.std.proofs.Common.{◌≡◌, map}
use Rattle.std.specs.List.{flat_map, range_with_len}
use Rattle.reach.specs.Calls.{calls_in}
use Rattle.reach.proofs.calls.calls_of.Given as goal

abbrev pub invariant-loop-number : goal.invariant-loop-number
invariant-loop-number l =
    (l.calls.items ≡ flat_map (calls_in l.s l.pairs) (range_with_len 0 l.number))
    × (l.edges ≡ map (λ number. flat_map (λ call. call.place.targets) (calls_in l.s l.pairs number)) (range_with_len 0 l.number))
