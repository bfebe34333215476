-- Those that were looked at have what they lead to among the numbers.
use Rattle.call_graph.proofs.Searching.{SoFar}
use Rattle.call_graph.proofs.search.reached_from.Given as goal

abbrev pub invariant-loop-place : goal.invariant-loop-place
invariant-loop-place l = SoFar l.edges l.roots l.place l.numbers
