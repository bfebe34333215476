-- Mapped classes: a cell is the place of an instance field among the device bytes of an object.
use Rattle.std.specs.Prelude.{ℕ, ◌+◌, Bool, false, ◌&&◌, ◌||◌, not, ◌==◌, nat_le, List, [], drop, Option, Some, None, slice_get, position, codes, bytes_eq, is_some, if◌then◌else◌}
use Rattle.std.specs.Option.{option_and_then}
use Rattle.std.specs.List.{list_all, list_any, range_with_len}
use Rattle.kes_text.specs.Shown.{shown}
use Rattle.classfile.specs.ClassFile.{FieldInfo}
use Rattle.jworld.specs.declared.ids.FieldId.{FieldId}
use Rattle.jworld.specs.Classes.{World, is_set, is_interface, super_of, count}
use Rattle.jworld.specs.Members.{field_id, fields_of}
use Rattle.kconfig.specs.Words.{parts}
use Rattle.kconfig.specs.declared.config.CellLine.{CellLine}
use Rattle.kbind.specs.Shown.{is_shown_by, class_shown}

-- ---- the field of a cell line

abbrev pub both_of : Option (List ℕ × List ℕ) → List ℕ × List ℕ
both_of None = ([], [])
both_of (Some both) = both

-- CLASS and FIELD; in a configuration that was read each cell line has both
abbrev pub cell_parts : List ℕ → List ℕ × List ℕ
cell_parts word = both_of (parts word)

-- an instance field: ACC_STATIC (JVMS SE 8, 4.5) isn't set
abbrev pub is_instance : FieldInfo → Bool
is_instance field = not (is_set field.flags 0x0008)

-- an instance field of this FIELD
abbrev pub is_field_of : List ℕ → FieldInfo → Bool
is_field_of name field = is_instance field && is_shown_by name field.name

-- a place, if no other field of this FIELD stands behind it
abbrev pub only_at : List ℕ → List FieldInfo → Option ℕ → Option ℕ
only_at name fields None = None
only_at name fields (Some place) = if is_some (position (is_field_of name) (drop (place + 1) fields)) then None else Some place

-- the place of the one instance field of this FIELD
abbrev pub only_field : List ℕ → List FieldInfo → Option ℕ
only_field name fields = only_at name fields (position (is_field_of name) fields)

-- how many bytes a boolean, byte, char, short, int or long has; no other type has a cell
abbrev pub type_width : List ℕ → Option ℕ
type_width descriptor =
    if bytes_eq descriptor (codes "Z") then Some 1
    else if bytes_eq descriptor (codes "B") then Some 1
    else if bytes_eq descriptor (codes "C") then Some 2
    else if bytes_eq descriptor (codes "S") then Some 2
    else if bytes_eq descriptor (codes "I") then Some 4
    else if bytes_eq descriptor (codes "J") then Some 8
    else None

abbrev pub is_within : ℕ → Option ℕ → Bool
is_within width None = false
is_within width (Some most) = nat_le width most

-- a field whose type is as wide as the cell, or wider
abbrev pub holds_cell : ℕ → FieldInfo → Bool
holds_cell width field = is_within width (type_width field.descriptor)

abbrev pub cell_at : ℕ → ℕ → ℕ → Option FieldInfo → Option FieldId
cell_at width class place None = None
cell_at width class place (Some field) = if holds_cell width field then Some (field_id class place) else None

-- the one instance field of this FIELD in a class, if it is wide enough
abbrev pub cell_in : World → ℕ → List ℕ → ℕ → Option FieldId
cell_in files width name class =
    option_and_then (λ place. cell_at width class place (slice_get (fields_of files class) place)) (only_field name (fields_of files class))

-- the field of a cell line
abbrev pub cell_named : World → CellLine → Option FieldId
cell_named files line = option_and_then (cell_in files line.width (cell_parts line.field).1) (class_shown files (cell_parts line.field).0)

-- ---- the class of a cell line

-- a cell line of this CLASS
abbrev pub is_cell_of : List ℕ → CellLine → Bool
is_cell_of class line = bytes_eq class (cell_parts line.field).0

-- a cell line of this CLASS and this FIELD
abbrev pub is_of : List ℕ → List ℕ → CellLine → Bool
is_of class name line = bytes_eq class (cell_parts line.field).0 && bytes_eq name (cell_parts line.field).1

-- a field that is static, or has a cell line
abbrev pub has_cell : List CellLine → List ℕ → FieldInfo → Bool
has_cell cells class field = not (is_instance field) || list_any (is_of class (shown field.name)) cells

abbrev pub is_that : Option ℕ → ℕ → Bool
is_that None n = false
is_that (Some found) n = found == n

-- a class whose direct superclass it is
abbrev pub has_subclass : World → ℕ → Bool
has_subclass files class = list_any (λ other. is_that (super_of files other) class) (range_with_len 0 (count files))

-- a class directly below Object, which is class 0, that is no interface, has no subclass, and a cell for each instance field
abbrev pub is_mapped : World → List CellLine → List ℕ → ℕ → Bool
is_mapped files cells word class =
    ((not (is_interface files class) && is_that (super_of files class) 0) && not (has_subclass files class))
    && list_all (has_cell cells word) (fields_of files class)

abbrev pub is_mapped_class : World → List CellLine → List ℕ → Option ℕ → Bool
is_mapped_class files cells word None = false
is_mapped_class files cells word (Some class) = is_mapped files cells word class

-- line n of the cell lines, if it is the first of this CLASS, has a mapped class
abbrev pub opens_class : World → List CellLine → ℕ → List ℕ → Bool
opens_class files cells n class = not (is_that (position (is_cell_of class) cells) n) || is_mapped_class files cells class (class_shown files class)

-- the rule of line n of the cell lines
abbrev pub cell_holds : World → List CellLine → ℕ → CellLine → Bool
cell_holds files cells n line = is_some (cell_named files line) && opens_class files cells n (cell_parts line.field).0
