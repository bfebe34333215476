-- The pairs before the loop's place are put behind the others.
use Rattle.std.proofs.Common.{◌≡◌, take}
use Rattle.reaching.specs.Order.{add_all}
use Rattle.reaching.proofs.pairs.Pairs.add_all.Given as goal

abbrev pub invariant-loop-pair : goal.invariant-loop-pair
invariant-loop-pair l = l.self ≡ add_all l.fn.self (take l.pair-index l.pairs)
