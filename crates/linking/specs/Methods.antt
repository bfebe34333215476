-- The method that a call names (JVMS SE 8, 5.4.3.3 and 5.4.3.4), and what the call wants of it.
use Rattle.std.specs.Prelude.{ℕ, Bool, true, false, not, List, Option, Some, None, Result, Ok, Err, slice_get, ◌&&◌, if◌then◌else◌}
use Rattle.kes_text.specs.declared.refusal.Kind.{Kind}
use Rattle.kes_text.specs.declared.refusal.Kind.TheVariants as kind
use Rattle.classfile.specs.declared.member.MemberKind.{MemberKind}
use Rattle.classfile.specs.declared.member.MemberKind.TheVariants as member
use Rattle.classfile.specs.ClassFile.{MemberInfo, MethodInfo}
use Rattle.jnames.specs.declared.keys.MethodKey.{MethodKey}
use Rattle.jworld.specs.declared.ids.MethodId.{MethodId}
use Rattle.jworld.specs.Classes.{World, class_named, is_interface, is_set}
use Rattle.jworld.specs.Members.{methods_of}
use Rattle.jworld.specs.Methods.{resolved_method}
use Rattle.linking.specs.declared.named.Wanted.{Wanted}
use Rattle.linking.specs.declared.named.Wanted.TheVariants.{Static, Instance}
use Rattle.linking.specs.Known.{is_array, is_known}
use Rattle.linking.specs.Floats.{has_float}

abbrev pub method_key : MemberInfo → MethodKey
method_key named = record { name = named.name; descriptor = named.descriptor }

-- ACC_STATIC (4.6); a method that isn't there isn't static
abbrev pub is_static_in : Option MethodInfo → Bool
is_static_in None = false
is_static_in (Some method) = is_set method.flags 0x0008

abbrev pub is_static : World → MethodId → Bool
is_static files id = is_static_in (slice_get (methods_of files id.class.n) id.n)

abbrev pub is_wanted : World → Wanted → MethodId → Bool
is_wanted files Static id = is_static files id
is_wanted files Instance id = not (is_static files id)

-- an InterfaceMethodref names an interface, and a Methodref a class that is none (4.4.2)
abbrev pub is_named_as : Bool → MemberKind → Bool
is_named_as is_interface member.Interface = is_interface
is_named_as is_interface _ = not is_interface

abbrev pub method_of : World → Wanted → MemberInfo → ℕ → Option MethodId → Result MethodId Kind
method_of files wanted named class None = Err kind.NoMember
method_of files wanted named class (Some id) =
    if is_wanted files wanted id && is_named_as (is_interface files class) named.kind
    then (if has_float named.descriptor then Err kind.FloatMember else Ok id)
    else Err kind.NoMember

abbrev pub method_in : World → Wanted → MemberInfo → Option ℕ → Result MethodId Kind
method_in files wanted named None = Err kind.NoMember
method_in files wanted named (Some class) = method_of files wanted named class (resolved_method files (method_key named) class)

abbrev pub method_there : World → Wanted → MemberInfo → Result MethodId Kind
method_there files wanted named = if is_array named.class then Err kind.ArrayMethod else method_in files wanted named (class_named files named.class)

abbrev pub method_named : World → Wanted → MemberInfo → Result MethodId Kind
method_named files wanted named = if is_known files named.class then method_there files wanted named else Err kind.MissingClass
