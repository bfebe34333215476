-- What an instruction mentions in a domain, or the first rule of the profile that fails.
use Rattle.std.specs.Prelude.{ℕ, Bool, true, false, List, [], Option, Some, None, Result, Ok, Err, if◌then◌else◌}
use Rattle.kes_text.specs.declared.refusal.Kind.{Kind}
use Rattle.kes_text.specs.declared.refusal.Kind.TheVariants as kind
use Rattle.classfile.specs.ClassFile.{ClassInfo, MemberInfo}
use Rattle.classfile.specs.Pool.{member}
use Rattle.jcode.specs.declared.op.Op.{Op}
use Rattle.jcode.specs.declared.op.Op.TheVariants as op
use Rattle.jworld.specs.declared.ids.ClassId.{ClassId}
use Rattle.jworld.specs.declared.ids.FieldId.{FieldId}
use Rattle.jworld.specs.declared.ids.MethodId.{MethodId}
use Rattle.linking.specs.declared.named.Named.{Named}
use Rattle.linking.specs.declared.named.Named.TheVariants as named
use Rattle.linking.specs.Linked.{linked}
use Rattle.mentions.specs.declared.called.Called.{Called}
use Rattle.mentions.specs.Calls.{outside_interfaces, static_called, special_called, virtual_called}
use Rattle.mentions.specs.Initialisers.{initialisers}
use Rattle.mentions.specs.Mapped.{is_mapped}
use Rattle.mentions.specs.Setting.{Setting}

abbrev pub nothing : Called
nothing = record { initialisers = []; targets = [] }

-- a class is reached, and so are its superclasses
abbrev pub class_reached : Setting → ℕ → ℕ → Result Called Kind
class_reached s domain class = outside_interfaces s.files (initialisers s.files domain class) []

-- new makes no object of a mapped class
abbrev pub object_made : Setting → ℕ → ClassId → Result Called Kind
object_made s domain class = if is_mapped s.bound class.n then Err kind.BadNew else class_reached s domain class.n

-- an access of a static field reaches the class that declares it
abbrev pub field_accessed : Setting → ℕ → Op → FieldId → Result Called Kind
field_accessed s domain (op.GetStatic index) field = class_reached s domain field.class.n
field_accessed s domain (op.PutStatic index) field = class_reached s domain field.class.n
field_accessed s domain _ field = Ok nothing

abbrev pub special_by : Setting → ℕ → ℕ → Option MemberInfo → MethodId → Result Called Kind
special_by s domain own None id = Err kind.NoMember
special_by s domain own (Some found) id = special_called s.files domain own found id

abbrev pub virtual_by : Setting → ℕ → Option MemberInfo → MethodId → Result Called Kind
virtual_by s domain None id = Err kind.NoMember
virtual_by s domain (Some found) id = virtual_called s.files domain found id

abbrev pub method_called : Setting → ℕ → ℕ → ClassInfo → Op → MethodId → Result Called Kind
method_called s domain own file (op.InvokeStatic index) id = static_called s domain id
method_called s domain own file (op.InvokeSpecial index) id = special_by s domain own (member file.pool index) id
method_called s domain own file (op.InvokeVirtual index) id = virtual_by s domain (member file.pool index) id
method_called s domain own file (op.InvokeInterface index) id = virtual_by s domain (member file.pool index) id
method_called s domain own file _ id = Ok nothing

abbrev pub by_name : Setting → ℕ → ℕ → ClassInfo → Op → Result Named Kind → Result Called Kind
by_name s domain own file op (Err rule) = Err rule
by_name s domain own file op (Ok named.Nothing) = Ok nothing
by_name s domain own file op (Ok (named.Class class)) = object_made s domain class
by_name s domain own file op (Ok (named.Field field)) = field_accessed s domain op field
by_name s domain own file op (Ok (named.Method id)) = method_called s domain own file op id

-- of an instruction in the class of this number and file
unfoldable pub mentioned : Setting → ℕ → ℕ → ClassInfo → Op → Result Called Kind
mentioned s domain own file op = by_name s domain own file op (linked s.files file op)
