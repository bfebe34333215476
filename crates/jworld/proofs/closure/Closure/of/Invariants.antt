use Rattle.std.proofs.Common.{◌≡◌, ◌+◌, ◌/◌, length}
use Rattle.jworld.specs.Row.{AreRows}
use Rattle.jworld.specs.Edges.{graph_of}
use Rattle.jworld.proofs.Through.{AreThrough}
use Rattle.jworld.proofs.closure.Closure.of.Given as goal

abbrev pub invariant-loop-number : goal.invariant-loop-number
invariant-loop-number l = record {
  room : AreRows (length l.edges / 64 + 1) l.rows.items;
  count : length l.rows.items ≡ length l.edges;
  through : AreThrough (graph_of l.edges) l.number l.rows.items;
}
