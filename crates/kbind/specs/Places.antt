-- Texts by the place at which each stands first.
use Rattle.std.specs.Prelude.{◌≡◌, ℕ, List, Option, Some, bytes_eq, if◌then◌else◌}
use Rattle.std.specs.List.{position_from}
use Rattle.std.specs.Map.{lookup}

-- texts, each with a place
abbrev pub Places : Type 0
Places = List (List ℕ × ℕ)

abbrev pub place_in : Places → List ℕ → Option ℕ
place_in places text = lookup (bytes_eq text) places

-- a text has this place from now on, and the others have those that they had
abbrev pub HasPlace : List ℕ → ℕ → Places → Places → Type 0
HasPlace text place old new = (other : List ℕ) → place_in new other ≡ (if bytes_eq text other then Some place else place_in old other)

-- the place of each text is the first at which it stands among these, which stand from place i on
abbrev pub AreFirst : Places → ℕ → List (List ℕ) → Type 0
AreFirst places i texts = (text : List ℕ) → place_in places text ≡ position_from (bytes_eq text) i texts
