-- Graphs by lists: for each number the list of those to which it leads.
use Rattle.std.specs.Prelude.{◌↔◌, ◌≡◌, ◌<◌, ℕ, Bool, true, List, [], All, length, slice_index_or}
use Rattle.jworld.specs.Ways.{Graph, Way}

abbrev pub graph_of : List (List ℕ) → Graph
graph_of edges n = slice_index_or edges n []

-- no edge leads out of the list
abbrev pub AreWithin : List (List ℕ) → Type 0
AreWithin edges = All (λ nexts. All (λ next. next < length edges) nexts) edges

-- the test tells where ways lead
abbrev pub IsClosure : Graph → (ℕ → ℕ → Bool) → Type 0
IsClosure graph reaches = (from to : ℕ) → Way graph from to ↔ (reaches from to ≡ true)
