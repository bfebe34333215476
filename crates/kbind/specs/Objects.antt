-- The objects of mapped classes, and the native methods that hand them out.
use Rattle.std.specs.Prelude.{ℕ, ◌+◌, Bool, ◌&&◌, ◌||◌, not, ◌==◌, nat_le, List, ◌++◌, Option, Some, None, option_map, slice_get, take, codes, bytes_eq, if◌then◌else◌}
use Rattle.std.specs.Option.{option_and_then}
use Rattle.std.specs.List.{list_all, list_any}
use Rattle.kes_text.specs.Shown.{shown}
use Rattle.classfile.specs.ClassFile.{MethodInfo}
use Rattle.jworld.specs.declared.ids.ClassId.{ClassId}
use Rattle.jworld.specs.declared.ids.MethodId.{MethodId}
use Rattle.jworld.specs.Classes.{World}
use Rattle.jworld.specs.Members.{is_static}
use Rattle.kconfig.specs.declared.config.CellLine.{CellLine}
use Rattle.kconfig.specs.declared.config.ObjectLine.{ObjectLine}
use Rattle.kconfig.specs.declared.config.DeviceLine.{DeviceLine}
use Rattle.kbind.specs.Shown.{class_shown}
use Rattle.kbind.specs.Methods.{Declared, method_named, is_native}
use Rattle.kbind.specs.Cells.{is_cell_of}

-- ---- objects

abbrev pub class_id : ℕ → ClassId
class_id n = record { n = n }

-- the class of an object line
abbrev pub object_class : World → ObjectLine → Option ClassId
object_class files line = option_map class_id (class_shown files line.class)

-- an object line that gives this base to another class
abbrev pub takes_base : ObjectLine → ObjectLine → Bool
takes_base line other = other.base == line.base && not (bytes_eq other.class line.class)

-- a cell of the object's class, which ends within so many device bytes
abbrev pub ends_within : ℕ → ObjectLine → CellLine → Bool
ends_within size line cell = not (is_cell_of line.class cell) || nat_le (line.base + cell.at + cell.width) size

-- the rule of line n of the object lines: its CLASS has a cell line, no earlier line takes its base, and each cell ends within the
-- device bytes
abbrev pub object_holds : ℕ → List CellLine → List ObjectLine → ℕ → ObjectLine → Bool
object_holds size cells objects n line =
    (list_any (is_cell_of line.class) cells && not (list_any (takes_base line) (take n objects))) && list_all (ends_within size line) cells

-- ---- devices

-- a static native method without parameters that answers a class of this CLASS
abbrev pub hands_out : List ℕ → MethodInfo → Bool
hands_out class method =
    (is_static method && is_native method) && bytes_eq (shown method.descriptor) (codes "()L" ++ class ++ codes ";")

abbrev pub device_by : Declared → ObjectLine → Option MethodId
device_by found object = if hands_out object.class found.method then Some found.id else None

-- the method of a device line
abbrev pub device_named : List Declared → List ObjectLine → DeviceLine → Option MethodId
device_named methods objects line =
    option_and_then (λ found. option_and_then (device_by found) (slice_get objects line.object)) (method_named methods line.method)
