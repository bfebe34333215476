-- No edge of the numbers before the loop's place rises.
use Rattle.std.proofs.Common.{◌≤◌, ◌<◌, ℕ, Contains}
use Rattle.jworld.specs.Edges.{graph_of}
use Rattle.call_graph.specs.Ranks.{rank}
use Rattle.call_graph.proofs.ranks.never_rise.Given as goal

abbrev pub invariant-loop-number : goal.invariant-loop-number
invariant-loop-number l = (from to : ℕ) → from < l.number → Contains (graph_of l.edges from) to → rank l.ranks to ≤ rank l.ranks from
