-- The pairs of the numbers before the loop's place.
use Rattle.std.proofs.Common.{◌≡◌, take, filter_map, slice_get}
use Rattle.run_input.proofs.starts.starts_of.Given as goal

abbrev pub invariant-loop-number : goal.invariant-loop-number
invariant-loop-number l = l.starts ≡ filter_map (slice_get l.pairs) (take l.number-index l.numbers)
