-- Shown names of members: where each stands first, and whether it stands again.
use Rattle.std.specs.Prelude.{◌≡◌, ℕ, ◌+◌, Bool, List, [], ◌∷◌, Option, Some, None, slice_get, bytes_eq, is_some, if◌then◌else◌}
use Rattle.std.specs.Option.{option_and_then}
use Rattle.std.specs.Map.{lookup}
use Rattle.kbind.specs.declared.named.Seen.{Seen}

-- names, each with what was seen of it
abbrev pub Names : Type 0
Names = List (List ℕ × Seen)

abbrev pub seen_in : Names → List ℕ → Option Seen
seen_in names name = lookup (bytes_eq name) names

-- what is seen of a name if one more place before the others has it or hasn't
abbrev pub seen_before : Bool → ℕ → Option Seen → Option Seen
seen_before has place behind = if has then Some (record { place = place; again = is_some behind }) else behind

-- among elements from place i on, the first that passes a test, and whether another one does
abbrev pub seen_from : {A : Type 0} → (A → Bool) → ℕ → List A → Option Seen
seen_from test i [] = None
seen_from test i (x ∷ xs) = seen_before (test x) i (seen_from test (i + 1) xs)

-- one more place before the others has this name
abbrev pub AddsName : List ℕ → ℕ → Names → Names → Type 0
AddsName added place old new = (name : List ℕ) → seen_in new name ≡ seen_before (bytes_eq name added) place (seen_in old name)

-- what tables of names, one for each class, have of a name
abbrev pub seen_of : List Names → List ℕ → ℕ → Option Seen
seen_of tables name class = option_and_then (λ names. seen_in names name) (slice_get tables class)

-- the place of what was seen, if it doesn't stand again
abbrev pub only_place : Option Seen → Option ℕ
only_place None = None
only_place (Some seen) = if seen.again then None else Some seen.place
