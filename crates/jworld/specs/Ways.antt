-- Ways along a graph, which is given by the list of those to which each number leads directly.
use Rattle.std.specs.Prelude.{ℕ, zero, suc, Bool, false, List, Contains, ◌==◌, ◌||◌}
use Rattle.std.specs.List.{list_any}

abbrev pub Graph : Type 0
Graph = ℕ → List ℕ

-- a way has one step or more
pub data Way (graph : Graph) : ℕ → ℕ → Type 0 where
  Step : (from to : ℕ) → Contains (graph from) to → Way graph from to
  Further : (from next to : ℕ) → Contains (graph from) next → Way graph next to → Way graph from to

-- whether a way of at most so many steps leads from one number to another
unfoldable pub leads : ℕ → Graph → ℕ → ℕ → Bool
leads zero graph from to = false
leads (suc most) graph from to = list_any (λ next. next == to || leads most graph next to) (graph from)
