-- Ranks of numbers, which rise along no edge.
use Rattle.std.specs.Prelude.{ℕ, ◌≤◌, List, Contains, slice_index_or}
use Rattle.jworld.specs.Edges.{graph_of}

abbrev pub rank : List ℕ → ℕ → ℕ
rank ranks number = slice_index_or ranks number 0

abbrev pub NeverRise : List (List ℕ) → List ℕ → Type 0
NeverRise edges ranks = (from to : ℕ) → Contains (graph_of edges from) to → rank ranks to ≤ rank ranks from
