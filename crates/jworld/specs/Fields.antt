-- Resolution of a field (JVMS SE 8, 5.4.3.2): the class itself, then its direct superinterfaces, then its superclass, each with
-- what stands above it. Access is not looked at.
use Rattle.std.specs.Prelude.{ℕ, zero, suc, List, [], ◌∷◌, ◌++◌, Option, Some, None, option_to_list}
use Rattle.jnames.specs.declared.keys.FieldKey.{FieldKey}
use Rattle.jworld.specs.declared.ids.FieldId.{FieldId}
use Rattle.jworld.specs.Classes.{World, super_of, interfaces_of, count}
use Rattle.jworld.specs.Members.{declared_field}

-- one if it is there, and else another
abbrev pub or_else : {A : Type 0} → Option A → Option A → Option A
or_else None other = other
or_else (Some x) other = Some x

-- what the first of these that finds something finds
abbrev pub first_found : {A B : Type 0} → (A → Option B) → List A → Option B
first_found find [] = None
first_found find (x ∷ xs) = or_else (find x) (first_found find xs)

-- the classes that are asked behind a class itself, in their order
abbrev pub asked_after : World → ℕ → List ℕ
asked_after files class = interfaces_of files class ++ option_to_list (super_of files class)

-- the field that is found from a class, at most so many steps up
unfoldable pub found_field : ℕ → World → FieldKey → ℕ → Option FieldId
found_field zero files key class = None
found_field (suc most) files key class = or_else (declared_field files key class) (first_found (found_field most files key) (asked_after files class))

-- no way up is longer than there are classes
unfoldable pub resolved_field : World → FieldKey → ℕ → Option FieldId
resolved_field files key class = found_field (count files) files key class
