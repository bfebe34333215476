use Rattle.std.proofs.Common.{◌≡◌, ◌==◌, ◌<◌, ℕ, length}
use Rattle.std.specs.List.{list_any}
use Rattle.jworld.specs.Row.{reaches, AreRows}
use Rattle.jworld.specs.Edges.{graph_of}
use Rattle.jworld.proofs.closure.rows_of.Given as goal

abbrev pub invariant-loop-numbers : goal.invariant-loop-numbers
invariant-loop-numbers l = record {
  room : AreRows l.words l.rows.items;
  count : length l.rows.items ≡ l.numbers-index;
  bits : (i j : ℕ) → i < l.numbers-index → reaches l.rows.items i j ≡ list_any (λ number. j == number) (graph_of l.edges i);
}
