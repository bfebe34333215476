-- What stands above a class: its superclasses and superinterfaces, direct and indirect (JVMS SE 8, 5.3; JLS 8.1.5).
use Rattle.std.specs.Prelude.{◌↔◌, ◌≡◌, ℕ, Bool, true, List, ◌++◌, option_to_list}
use Rattle.jworld.specs.Classes.{World, super_of, interfaces_of, count}
use Rattle.jworld.specs.Ways.{Way, leads}
use Rattle.jworld.specs.Row.{reaches}

-- the direct ones: the superclass, and the superinterfaces in the file's order
abbrev pub supers_of : World → ℕ → List ℕ
supers_of files class = option_to_list (super_of files class) ++ interfaces_of files class

-- a direct one stands above a class, and so does what stands above a direct one
abbrev pub StandsAbove : World → ℕ → ℕ → Type 0
StandsAbove files class above = Way (supers_of files) class above

-- the same as a test: where a class stands above another, no more steps are needed than there are classes
unfoldable pub is_above : World → ℕ → ℕ → Bool
is_above files class above = leads (count files) (supers_of files) class above

-- the two say the same
abbrev pub AboveIsMeant : Type 0
AboveIsMeant = (files : World) (class above : ℕ) → StandsAbove files class above ↔ (is_above files class above ≡ true)

-- rows that tell which classes stand above which
abbrev pub TellsAbove : World → List (List ℕ) → Type 0
TellsAbove files rows = (class above : ℕ) → reaches rows class above ≡ is_above files class above
