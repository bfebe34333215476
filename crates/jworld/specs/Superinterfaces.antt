-- The superinterfaces of a class, direct and indirect (JVMS SE 8, 5.4.3.3).
use Rattle.std.specs.Prelude.{◌≡◌, ℕ, Bool, List, [], filter, ◌&&◌, slice_index_or}
use Rattle.std.specs.List.{range_with_len}
use Rattle.jworld.specs.Classes.{World, is_interface, count}
use Rattle.jworld.specs.Above.{is_above}

abbrev pub is_superinterface : World → ℕ → ℕ → Bool
is_superinterface files class above = is_interface files above && is_above files class above

-- by their numbers
abbrev pub superinterfaces : World → ℕ → List ℕ
superinterfaces files class = filter (is_superinterface files class) (range_with_len 0 (count files))

-- lists of those of each class
abbrev pub TellsSuperinterfaces : World → List (List ℕ) → Type 0
TellsSuperinterfaces files lists = (class : ℕ) → slice_index_or lists class [] ≡ superinterfaces files class
