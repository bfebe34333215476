-- Calls on a cycle: from a target of the call, calls lead back to the pair in which it stands.
use Rattle.std.specs.Prelude.{ℕ, Bool, List}
use Rattle.call_graph.specs.declared.call_place.CallPlace.{CallPlace}
use Rattle.call_graph.specs.ReachedFrom.{is_reached_from}

-- by the list of the pairs that each pair runs
abbrev pub is_on_cycle : List (List ℕ) → CallPlace → Bool
is_on_cycle edges call = is_reached_from edges call.targets call.pair
