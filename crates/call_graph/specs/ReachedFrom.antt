-- What is reached from numbers along the edges of a graph: they themselves, and that to which a way leads from one of them.
use Rattle.std.specs.Prelude.{◌≡◌, ◌⊎◌, ◌↔◌, ℕ, ◌<◌, Bool, true, List, Contains, length, nat_eq, nat_lt, ◌==◌, ◌||◌, ◌&&◌, if◌then◌else◌}
use Rattle.std.specs.List.{list_any}
use Rattle.indexmap.specs.IndexSet.{insert_key}
use Rattle.jworld.specs.Ways.{Graph, Way, leads}
use Rattle.jworld.specs.Edges.{graph_of}

abbrev pub IsReachedFrom : Graph → List ℕ → ℕ → Type 0
IsReachedFrom graph roots number = (root : ℕ) × (Contains roots root) × ((root ≡ number) ⊎ Way graph root number)

-- the same as a test, of the numbers of a graph by lists: no way needs more steps than there are lists
unfoldable pub is_reached_from : List (List ℕ) → List ℕ → ℕ → Bool
is_reached_from edges roots number = nat_lt number (length edges) && list_any (λ root. root == number || leads (length edges) (graph_of edges) root number) roots

-- the two say the same
abbrev pub ReachedIsMeant : Type 0
ReachedIsMeant = (edges : List (List ℕ)) (roots : List ℕ) (number : ℕ) → number < length edges → IsReachedFrom (graph_of edges) roots number ↔ (is_reached_from edges roots number ≡ true)

-- numbers, each once, with one more that is below a limit
abbrev pub put_below : ℕ → List ℕ → ℕ → List ℕ
put_below limit numbers number = if nat_lt number limit then insert_key nat_eq numbers number else numbers
