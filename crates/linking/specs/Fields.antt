-- The field that an access names (JVMS SE 8, 5.4.3.2), and what the access wants of it.
use Rattle.std.specs.Prelude.{ℕ, Bool, true, false, not, List, Option, Some, None, Result, Ok, Err, slice_get, ◌&&◌, if◌then◌else◌}
use Rattle.kes_text.specs.declared.refusal.Kind.{Kind}
use Rattle.kes_text.specs.declared.refusal.Kind.TheVariants as kind
use Rattle.classfile.specs.ClassFile.{MemberInfo, FieldInfo}
use Rattle.jnames.specs.declared.keys.FieldKey.{FieldKey}
use Rattle.jworld.specs.declared.ids.FieldId.{FieldId}
use Rattle.jworld.specs.Classes.{World, class_named, is_interface, is_set}
use Rattle.jworld.specs.Members.{fields_of}
use Rattle.jworld.specs.Upwards.{is_subclass}
use Rattle.jworld.specs.Fields.{resolved_field}
use Rattle.linking.specs.declared.named.Wanted.{Wanted}
use Rattle.linking.specs.declared.named.Wanted.TheVariants.{Static, Instance}
use Rattle.linking.specs.Known.{is_known}
use Rattle.linking.specs.Floats.{has_float}

abbrev pub field_key : MemberInfo → FieldKey
field_key named = record { name = named.name; descriptor = named.descriptor }

-- ACC_STATIC (4.5); a field that isn't there isn't static
abbrev pub is_static_in : Option FieldInfo → Bool
is_static_in None = false
is_static_in (Some field) = is_set field.flags 0x0008

abbrev pub is_static : World → FieldId → Bool
is_static files id = is_static_in (slice_get (fields_of files id.class.n) id.n)

-- the class that is named in an access of an instance's field is no interface, and is the class that declares the field, or
-- below it
abbrev pub is_wanted : World → Wanted → ℕ → FieldId → Bool
is_wanted files Static class id = is_static files id
is_wanted files Instance class id = not (is_static files id) && (not (is_interface files class) && is_subclass files class id.class.n)

abbrev pub field_of : World → Wanted → MemberInfo → ℕ → Option FieldId → Result FieldId Kind
field_of files wanted named class None = Err kind.NoMember
field_of files wanted named class (Some id) =
    if is_wanted files wanted class id then (if has_float named.descriptor then Err kind.FloatMember else Ok id) else Err kind.NoMember

abbrev pub field_in : World → Wanted → MemberInfo → Option ℕ → Result FieldId Kind
field_in files wanted named None = Err kind.NoMember
field_in files wanted named (Some class) = field_of files wanted named class (resolved_field files (field_key named) class)

abbrev pub field_named : World → Wanted → MemberInfo → Result FieldId Kind
field_named files wanted named = if is_known files named.class then field_in files wanted named (class_named files named.class) else Err kind.MissingClass
