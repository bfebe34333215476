-- Places by name and descriptor.
use Rattle.std.specs.Prelude.{◌≡◌, ℕ, Bool, List, [], Option, Some, unwrap_or, bytes_eq, ◌&&◌, if◌then◌else◌}
use Rattle.std.specs.List.{position_from}
use Rattle.std.specs.Map.{lookup}

-- texts, each with a place
abbrev pub Places : Type 0
Places = List (List ℕ × ℕ)

abbrev pub place_of : Places → List ℕ → Option ℕ
place_of places text = lookup (bytes_eq text) places

-- a text has this place from now on, and the others have those that they had
abbrev pub HasText : List ℕ → ℕ → Places → Places → Type 0
HasText text place old new = (other : List ℕ) → place_of new other ≡ (if bytes_eq text other then Some place else place_of old other)

-- names, each with the places of its descriptors
abbrev pub Keyed : Type 0
Keyed = List (List ℕ × Places)

abbrev pub named_in : Keyed → List ℕ → Places
named_in keyed name = unwrap_or (lookup (bytes_eq name) keyed) []

abbrev pub place_in : Keyed → List ℕ → List ℕ → Option ℕ
place_in keyed name descriptor = place_of (named_in keyed name) descriptor

-- a name and a descriptor have this place from now on, and the others have those that they had
abbrev pub HasPlace : List ℕ → List ℕ → ℕ → Keyed → Keyed → Type 0
HasPlace name descriptor place old new = (n d : List ℕ) → place_in new n d ≡ (if bytes_eq name n && bytes_eq descriptor d then Some place else place_in old n d)

-- for a name and a descriptor, an element that passes their test has this place from now on
abbrev pub HasPlaceBy : {A : Type 0} → (List ℕ → List ℕ → A → Bool) → A → ℕ → Keyed → Keyed → Type 0
HasPlaceBy test x place old new = (n d : List ℕ) → place_in new n d ≡ (if test n d x then Some place else place_in old n d)

-- the place of a name and a descriptor is that of the first of these, which stand from place i on, that passes their test
abbrev pub AreFirst : {A : Type 0} → (List ℕ → List ℕ → A → Bool) → Keyed → ℕ → List A → Type 0
AreFirst test places i xs = (n d : List ℕ) → place_in places n d ≡ position_from (test n d) i xs
