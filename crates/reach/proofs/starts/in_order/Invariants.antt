-- The initialisers of the pairs before the loop's place.
use Rattle.std.proofs.Common.{◌≡◌, [], fold}
use Rattle.std.specs.List.{range_with_len}
use Rattle.reach.specs.Starts.{put_start}
use Rattle.reach.proofs.starts.in_order.Given as goal

abbrev pub invariant-loop-number : goal.invariant-loop-number
invariant-loop-number l = l.starts ≡ fold (put_start l.world l.pairs) [] (range_with_len 0 l.number)
