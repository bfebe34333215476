-- What is left to look at explores as the whole does.
use Rattle.std.proofs.Common.{◌≡◌, ◌≤◌, ◌-◌}
use Rattle.reaching.specs.Reached.{explored, reached}
use Rattle.reaching.proofs.explored.explore.Given as goal

abbrev pub invariant-loop-index : goal.invariant-loop-index
invariant-loop-index g l =
    (l.size ≤ 1048576)
    × (explored (1048577 - l.index) (g.G.Graph.mentions l.graph) (g.G.Graph.too_large l.graph) l.index (l.pairs, l.size) ≡ reached (g.G.Graph.mentions l.graph) (g.G.Graph.too_large l.graph) l.roots)
