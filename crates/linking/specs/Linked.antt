-- What the operand of an instruction names (JVMS SE 8, 6.5), or the first rule that fails.
use Rattle.std.specs.Prelude.{ℕ, List, Option, Some, None, Result, Ok, Err, if◌then◌else◌}
use Rattle.kes_text.specs.declared.refusal.Kind.{Kind}
use Rattle.kes_text.specs.declared.refusal.Kind.TheVariants as kind
use Rattle.classfile.specs.ClassFile.{ClassInfo, MemberInfo}
use Rattle.classfile.specs.Pool.{class_name, member}
use Rattle.jcode.specs.declared.op.Op.{Op}
use Rattle.jcode.specs.declared.op.Op.TheVariants as op
use Rattle.jworld.specs.declared.ids.ClassId.{ClassId}
use Rattle.jworld.specs.declared.ids.FieldId.{FieldId}
use Rattle.jworld.specs.declared.ids.MethodId.{MethodId}
use Rattle.jworld.specs.Classes.{World}
use Rattle.linking.specs.declared.named.Named.{Named}
use Rattle.linking.specs.declared.named.Named.TheVariants as named
use Rattle.linking.specs.declared.named.Wanted.{Wanted}
use Rattle.linking.specs.declared.named.Wanted.TheVariants.{Static, Instance}
use Rattle.linking.specs.Known.{is_known}
use Rattle.linking.specs.Objects.{made}
use Rattle.linking.specs.Fields.{field_named}
use Rattle.linking.specs.Methods.{method_named}

abbrev pub a_class : Result ClassId Kind → Result Named Kind
a_class (Ok class) = Ok (named.Class class)
a_class (Err rule) = Err rule

abbrev pub a_field : Result FieldId Kind → Result Named Kind
a_field (Ok field) = Ok (named.Field field)
a_field (Err rule) = Err rule

abbrev pub a_method : Result MethodId Kind → Result Named Kind
a_method (Ok method) = Ok (named.Method method)
a_method (Err rule) = Err rule

-- an index that names no class
abbrev pub object_by : World → Option (List ℕ) → Result Named Kind
object_by files None = Err kind.MissingClass
object_by files (Some name) = a_class (made files name)

abbrev pub type_by : World → Option (List ℕ) → Result Named Kind
type_by files None = Err kind.MissingClass
type_by files (Some name) = if is_known files name then Ok named.Nothing else Err kind.MissingClass

-- an index that names no member
abbrev pub field_by : World → Wanted → Option MemberInfo → Result Named Kind
field_by files wanted None = Err kind.NoMember
field_by files wanted (Some found) = a_field (field_named files wanted found)

abbrev pub method_by : World → Wanted → Option MemberInfo → Result Named Kind
method_by files wanted None = Err kind.NoMember
method_by files wanted (Some found) = a_method (method_named files wanted found)

-- of an instruction in a class of this file
unfoldable pub linked : World → ClassInfo → Op → Result Named Kind
linked files file (op.New index) = object_by files (class_name file.pool index)
linked files file (op.NewRefs index) = type_by files (class_name file.pool index)
linked files file (op.CheckCast index) = type_by files (class_name file.pool index)
linked files file (op.InstanceOf index) = type_by files (class_name file.pool index)
linked files file (op.GetStatic index) = field_by files Static (member file.pool index)
linked files file (op.PutStatic index) = field_by files Static (member file.pool index)
linked files file (op.GetField index) = field_by files Instance (member file.pool index)
linked files file (op.PutField index) = field_by files Instance (member file.pool index)
linked files file (op.InvokeStatic index) = method_by files Static (member file.pool index)
linked files file (op.InvokeVirtual index) = method_by files Instance (member file.pool index)
linked files file (op.InvokeSpecial index) = method_by files Instance (member file.pool index)
linked files file (op.InvokeInterface index) = method_by files Instance (member file.pool index)
linked files file _ = Ok named.Nothing
