-- Classes that a search has passed: whether each is among them, by number.
use Rattle.std.specs.Prelude.{◌≡◌, ℕ, Bool, true, false, List, None, slice_index_or}
use Rattle.jnames.specs.declared.keys.FieldKey.{FieldKey}
use Rattle.jworld.specs.Classes.{World}
use Rattle.jworld.specs.Fields.{resolved_field}

abbrev pub has_passed : List Bool → ℕ → Bool
has_passed passed class = slice_index_or passed class false

-- no field of the key is found from them
abbrev pub FindNothing : World → FieldKey → List Bool → Type 0
FindNothing files key passed = (class : ℕ) → has_passed passed class ≡ true → resolved_field files key class ≡ None
