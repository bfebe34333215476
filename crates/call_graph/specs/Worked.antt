-- Worked examples, computed by the checker.
use Rattle.std.specs.Prelude.{◌≡◌, ℕ, true, false, List, [], ◌∷◌}
use Rattle.call_graph.specs.declared.call_place.CallPlace.{CallPlace}
use Rattle.call_graph.specs.ReachedFrom.{is_reached_from}
use Rattle.call_graph.specs.Cycles.{is_on_cycle}

-- 0 runs 1, 1 and 2 run each other, 2 runs 3, 3 runs nothing, and 4 runs itself
abbrev pub edges : List (List ℕ)
edges = (1 ∷ []) ∷ (2 ∷ []) ∷ (1 ∷ 3 ∷ []) ∷ [] ∷ (4 ∷ []) ∷ []

-- what is reached has the roots, and nothing that only leads to them
abbrev pub WaysAreFollowed : Type 0
WaysAreFollowed =
    (is_reached_from edges (1 ∷ []) 1 ≡ true) × (is_reached_from edges (1 ∷ []) 3 ≡ true) × (is_reached_from edges (3 ∷ 4 ∷ []) 4 ≡ true)
    × (is_reached_from edges (1 ∷ []) 0 ≡ false) × (is_reached_from edges (3 ∷ []) 2 ≡ false) × (is_reached_from edges [] 0 ≡ false)

abbrev call : ℕ → List ℕ → CallPlace
call pair targets = record { pair = pair; ins = 0; targets = targets }

-- a call that leads onto a cycle, or off it, doesn't lie on it; of several targets one is enough
abbrev pub CyclesAreClosed : Type 0
CyclesAreClosed =
    (is_on_cycle edges (call 1 (2 ∷ [])) ≡ true) × (is_on_cycle edges (call 2 (3 ∷ 1 ∷ [])) ≡ true) × (is_on_cycle edges (call 4 (4 ∷ [])) ≡ true)
    × (is_on_cycle edges (call 0 (1 ∷ [])) ≡ false) × (is_on_cycle edges (call 2 (3 ∷ [])) ≡ false) × (is_on_cycle edges (call 2 []) ≡ false)
