-- What the entries of a constant pool name (JVMS SE 8, 4.4).
use Rattle.std.specs.Prelude.{ℕ, ◌-◌, List, Option, Some, None, slice_get, ◌==◌, if◌then◌else◌}
use Rattle.classfile.specs.declared.pool.Entry.{Entry}
use Rattle.classfile.specs.declared.pool.Entry.TheVariants as entry
use Rattle.classfile.specs.declared.member.MemberKind.{MemberKind}
use Rattle.classfile.specs.declared.member.MemberKind.TheVariants as kind
use Rattle.classfile.specs.declared.member.Constant.{Constant}
use Rattle.classfile.specs.declared.member.Constant.TheVariants as constant
use Rattle.classfile.specs.ClassFile.{MemberInfo}

infixl 10 ◌>>=◌
abbrev pub ◌>>=◌ : {A B : Type 0} → Option A → (A → Option B) → Option B
(Some x) >>= f = f x
None >>= f = None

-- entry i; the first is number 1 (4.1)
abbrev pub entry_of : List Entry → ℕ → Option Entry
entry_of pool i = if i == 0 then None else slice_get pool (i - 1)

-- the text of a Utf8 entry (4.4.7)
abbrev pub utf8_text : Entry → Option (List ℕ)
utf8_text (entry.Utf8 text) = Some text
utf8_text _ = None

abbrev pub text : List Entry → ℕ → Option (List ℕ)
text pool i = do
  found ← entry_of pool i
  utf8_text found

-- the name of a Class entry (4.4.1)
abbrev pub class_index : Entry → Option ℕ
class_index (entry.Class name) = Some name
class_index _ = None

abbrev pub class_name : List Entry → ℕ → Option (List ℕ)
class_name pool i = do
  found ← entry_of pool i
  name ← class_index found
  text pool name

-- the name and the descriptor of a NameAndType entry (4.4.6)
abbrev pub name_and_type_indices : Entry → Option (ℕ × ℕ)
name_and_type_indices (entry.NameAndType name descriptor) = Some (name, descriptor)
name_and_type_indices _ = None

abbrev pub name_and_type : List Entry → ℕ → Option (List ℕ × List ℕ)
name_and_type pool i = do
  found ← entry_of pool i
  indices ← name_and_type_indices found
  name ← text pool indices.0
  descriptor ← text pool indices.1
  Some (name, descriptor)

-- the kind, the class and the NameAndType of a Fieldref, Methodref or InterfaceMethodref entry (4.4.2)
abbrev pub member_indices : Entry → Option (MemberKind × ℕ × ℕ)
member_indices (entry.Fieldref class name_and_type_index) = Some (kind.Field, class, name_and_type_index)
member_indices (entry.Methodref class name_and_type_index) = Some (kind.Method, class, name_and_type_index)
member_indices (entry.InterfaceMethodref class name_and_type_index) = Some (kind.Interface, class, name_and_type_index)
member_indices _ = None

abbrev pub indices_at : List Entry → ℕ → Option (MemberKind × ℕ × ℕ)
indices_at pool i = do
  found ← entry_of pool i
  member_indices found

abbrev pub member : List Entry → ℕ → Option MemberInfo
member pool i = do
  indices ← indices_at pool i
  class ← class_name pool indices.1
  named ← name_and_type pool indices.2
  Some (record { kind = indices.0; class = class; name = named.0; descriptor = named.1 })

-- the value of an Integer or a Long entry (4.4.4, 4.4.5)
abbrev pub entry_constant : Entry → Option Constant
entry_constant (entry.Integer value) = Some (constant.Int value)
entry_constant (entry.Long value) = Some (constant.Long value)
entry_constant _ = None

abbrev pub constant_of : List Entry → ℕ → Option Constant
constant_of pool i = do
  found ← entry_of pool i
  entry_constant found
