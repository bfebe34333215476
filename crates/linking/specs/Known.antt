-- Whether the class that a name names is in a world. The name of an array is its descriptor (JVMS SE 8, 4.4.1); it counts by the
-- class of its elements, and an array of numbers always is there.
use Rattle.std.specs.Prelude.{ℕ, ◌-◌, Bool, true, false, List, [], ◌∷◌, drop, length, take_while, is_some, ◌==◌, if◌then◌else◌}
use Rattle.jworld.specs.Classes.{World, class_named}
use Rattle.jworld.specs.Subtype.{reference_in}

-- a [ begins the descriptor of an array
abbrev pub is_array : List ℕ → Bool
is_array [] = false
is_array (c ∷ rest) = c == 91

-- how many dimensions an array has: so many [ stand at the front
abbrev pub dimensions : List ℕ → ℕ
dimensions name = length (take_while (λ c. c == 91) name)

-- the descriptor of its elements
abbrev pub element_of : List ℕ → List ℕ
element_of name = drop (dimensions name) name

-- Lname; is a class
abbrev pub is_element_known : World → List ℕ → Bool
is_element_known files [] = true
is_element_known files (c ∷ rest) = if c == 76 then is_some (class_named files (reference_in (c ∷ rest))) else true

abbrev pub is_known : World → List ℕ → Bool
is_known files name = if is_array name then is_element_known files (element_of name) else is_some (class_named files name)
