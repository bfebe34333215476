-- The class of which a new makes an object (JVMS SE 8, 6.5).
use Rattle.std.specs.Prelude.{ℕ, Bool, not, List, Option, Some, None, Result, Ok, Err, ◌||◌, ◌&&◌, if◌then◌else◌}
use Rattle.kes_text.specs.declared.refusal.Kind.{Kind}
use Rattle.kes_text.specs.declared.refusal.Kind.TheVariants as kind
use Rattle.jworld.specs.declared.ids.ClassId.{ClassId}
use Rattle.jworld.specs.Classes.{World, class_named, file_of, flags_in, is_set, is_interface}
use Rattle.linking.specs.Known.{is_array, is_known}

-- ACC_ABSTRACT (4.1)
abbrev pub is_abstract : World → ℕ → Bool
is_abstract files class = is_set (flags_in (file_of files class)) 0x0400

-- whether a class has objects: it is neither abstract nor an interface
abbrev pub has_objects : World → ℕ → Bool
has_objects files class = not (is_abstract files class || is_interface files class)

abbrev pub made_by : World → List ℕ → Option ℕ → Result ClassId Kind
made_by files name None = Err kind.BadNew
made_by files name (Some class) = if not (is_array name) && has_objects files class then Ok (record { n = class }) else Err kind.BadNew

abbrev pub made : World → List ℕ → Result ClassId Kind
made files name = if is_known files name then made_by files name (class_named files name) else Err kind.MissingClass
