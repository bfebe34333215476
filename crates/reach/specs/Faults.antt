-- Why reached pairs are refused none of whose methods is: the first call, in reach order, of a service or a portal in a pair
-- that initialisers reach, else the first call that lies on a cycle of calls.
use Rattle.std.specs.Prelude.{ℕ, Bool, List, find, Option, Some, None, option_map, ◌==◌, ◌&&◌}
use Rattle.std.specs.List.{list_any}
use Rattle.std.specs.Option.{option_or}
use Rattle.kes_text.specs.declared.refusal.Kind.{Kind}
use Rattle.kes_text.specs.declared.refusal.Kind.TheVariants as kind
use Rattle.kes_text.specs.declared.refusal.Refusal.{Refusal}
use Rattle.call_graph.specs.ReachedFrom.{is_reached_from}
use Rattle.call_graph.specs.Cycles.{is_on_cycle}
use Rattle.reach.specs.declared.calls.Call.{Call}

-- at the opcode
abbrev pub refusal_at : Kind → Call → Refusal
refusal_at kind call = record { file = call.file; kind = kind; at = call.at }

-- by the numbers of the pairs that are reached
abbrev pub is_among : List ℕ → Call → Bool
is_among reached call = call.is_outside && list_any (λ number. call.place.pair == number) reached

-- by the pairs that each pair runs, and the initialisers
abbrev pub is_at_start : List (List ℕ) → List ℕ → Call → Bool
is_at_start edges starts call = call.is_outside && is_reached_from edges starts call.place.pair

abbrev pub at_start : List (List ℕ) → List ℕ → List Call → Option Refusal
at_start edges starts calls = option_map (refusal_at kind.AtStart) (find (is_at_start edges starts) calls)

abbrev pub recursive : List (List ℕ) → List Call → Option Refusal
recursive edges calls = option_map (refusal_at kind.Recursive) (find (λ call. is_on_cycle edges call.place) calls)

abbrev pub fault_of : List (List ℕ) → List ℕ → List Call → Option Refusal
fault_of edges starts calls = option_or (at_start edges starts calls) (recursive edges calls)
