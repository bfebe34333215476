-- Which method an entry's CLASS.NAME names: the static `()V` method with code of that name, of a class that is no interface.
use Rattle.std.specs.Prelude.{ℕ, Bool, ◌&&◌, List, Option, Some, None, codes, bytes_eq, is_some, if◌then◌else◌}
use Rattle.std.specs.Option.{option_and_then}
use Rattle.classfile.specs.ClassFile.{MethodInfo}
use Rattle.jworld.specs.declared.ids.MethodId.{MethodId}
use Rattle.jworld.specs.Classes.{World, is_interface}
use Rattle.jworld.specs.Members.{declared_method, is_static}
use Rattle.kconfig.specs.Words.{parts}
use Rattle.kbind.specs.Shown.{is_shown_by, class_shown}

-- a method that may be an entry
abbrev pub may_be_entry : MethodInfo → Bool
may_be_entry method = (is_static method && is_some method.code) && bytes_eq method.descriptor (codes "()V")

-- a method that may be an entry of this NAME
abbrev pub is_entry_of : List ℕ → MethodInfo → Bool
is_entry_of name method = may_be_entry method && is_shown_by name method.name

-- an entry of this NAME in a class
abbrev pub entry_in : World → List ℕ → ℕ → Option MethodId
entry_in files name class = if is_interface files class then None else declared_method files (is_entry_of name) class

-- by the two parts of CLASS.NAME
abbrev pub entry_by : World → Option (List ℕ × List ℕ) → Option MethodId
entry_by files None = None
entry_by files (Some both) = option_and_then (entry_in files both.1) (class_shown files both.0)

unfoldable pub entry_named : World → List ℕ → Option MethodId
entry_named files word = entry_by files (parts word)
