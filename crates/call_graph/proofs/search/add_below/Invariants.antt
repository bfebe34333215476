-- Those before the loop's place are put behind the others.
use Rattle.std.proofs.Common.{◌≡◌, fold, take}
use Rattle.call_graph.specs.ReachedFrom.{put_below}
use Rattle.call_graph.proofs.search.add_below.Given as goal

abbrev pub invariant-loop-number : goal.invariant-loop-number
invariant-loop-number l = l.numbers ≡ fold (put_below l.limit) l.fn.numbers (take l.number-index l.more)
