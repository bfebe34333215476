-- Fields and methods (JVMS SE 8, 4.5 and 4.6).
use Rattle.std.specs.Prelude.{ℕ, ℤ, List, [], Option, Some, None, Bool, true, false, not, is_some, Ok, unwrap_or, codes, bit_and, bytes_eq, ◌||◌, ◌==◌, if◌then◌else◌}
use Rattle.kes_text.specs.declared.refusal.Kind.TheVariants as kind
use Rattle.classfile.specs.declared.uses.Use.TheVariants as uses
use Rattle.classfile.specs.declared.uses.Wanted.{Wanted}
use Rattle.classfile.specs.declared.uses.Wanted.TheVariants as wanted
use Rattle.classfile.specs.declared.pool.Entry.{Entry}
use Rattle.classfile.specs.declared.member.Constant.{Constant}
use Rattle.classfile.specs.declared.member.Constant.TheVariants as constant
use Rattle.classfile.specs.declared.members.Head.{Head}
use Rattle.classfile.specs.ClassFile.{FieldInfo, MethodInfo, CodeInfo}
use Rattle.classfile.specs.Pool.{text, constant_of}
use Rattle.classfile.specs.Scan.{Scan, Read, ◌>>=◌, refused, number_at, noted, index_at, repeat, many}
use Rattle.classfile.specs.Attributes.{is_text, skipped_at, field_attributes_at}
use Rattle.classfile.specs.Codes.{code_attribute}

-- the text of a Utf8 entry, and no bytes where there is none
abbrev pub name_at : List Entry → ℕ → List ℕ
name_at pool i = unwrap_or (text pool i) []

abbrev pub is_set : ℕ → ℕ → Bool
is_set flags flag = not (bit_and flags flag == 0)

-- what the descriptor of a member is to be; ACC_STATIC is 0x0008
abbrev pub wanted_text : Bool → ℕ → Wanted
wanted_text is_method flags =
    if is_method then (if is_set flags 0x0008 then wanted.MethodText else wanted.InstanceText) else wanted.FieldText

-- access_flags, name_index and descriptor_index: the head of a member, which is noted with its two index fields in the file's order
abbrev pub head_at : Bool → Scan → Read Head
head_at is_method s = do
  flags ← number_at 2 s
  name ← number_at 2 flags.1
  descriptor ← number_at 2 name.1
  Ok (
    record { flags = flags.0; name = name.0; descriptor = descriptor.0 },
    noted (uses.Index name.1.place descriptor.0 (wanted_text is_method flags.0))
        (noted (uses.Index flags.1.place name.0 wanted.Text)
        (noted (uses.Member s.place is_method name.0 descriptor.0) descriptor.1)),
  )

-- the types that an int stands for
abbrev pub is_int_text : List ℕ → Bool
is_int_text descriptor =
    bytes_eq descriptor (codes "I") || bytes_eq descriptor (codes "S") || bytes_eq descriptor (codes "C")
    || bytes_eq descriptor (codes "B") || bytes_eq descriptor (codes "Z")

-- the value of a constant that fits a type
abbrev pub fitting : List ℕ → Option Constant → Option ℤ
fitting descriptor None = None
fitting descriptor (Some (constant.Int value)) = if is_int_text descriptor then Some value else None
fitting descriptor (Some (constant.Long value)) = if bytes_eq descriptor (codes "J") then Some value else None

-- the constant of a static field, whose entry fits its type (4.7.2)
abbrev pub constant_in : List Entry → ℕ → List ℕ → Option ℕ → Option ℤ
constant_in pool flags descriptor None = None
constant_in pool flags descriptor (Some index) = if is_set flags 0x0008 then fitting descriptor (constant_of pool index) else None

unfoldable pub field_at : List Entry → Scan → Read FieldInfo
field_at pool s = do
  head ← head_at false s
  constant ← field_attributes_at pool head.1
  Ok (record { at = s.place; flags = head.0.flags; name = name_at pool head.0.name; descriptor = name_at pool head.0.descriptor; constant = constant_in pool head.0.flags (name_at pool head.0.descriptor) constant.0 }, constant.1)

abbrev pub fields_at : List Entry → Scan → Read (List FieldInfo)
fields_at pool s = do
  count ← number_at 2 s
  many count.0 (field_at pool) count.1

-- a native or an abstract method has no code; ACC_NATIVE is 0x0100 and ACC_ABSTRACT 0x0400
abbrev pub is_bare : ℕ → Bool
is_bare flags = is_set flags 0x0100 || is_set flags 0x0400

-- an attribute of a method that stands at a place, where its Code is known, if there was one
abbrev pub method_attribute_at : List Entry → ℕ → Bool → Option CodeInfo × Scan → Read (Option CodeInfo)
method_attribute_at pool at bare x = do
  name ← index_at wanted.Text x.1
  if is_text pool name.0 (codes "Code")
      then (if bare || is_some x.0 then refused kind.CodeCount at else code_attribute pool name.1)
      else (skipped_at name.1 >>= λ behind. Ok (x.0, behind))

abbrev pub all_method_attributes_at : List Entry → ℕ → Bool → Scan → Read (Option CodeInfo)
all_method_attributes_at pool at bare s = do
  count ← number_at 2 s
  repeat count.0 (method_attribute_at pool at bare) (None, count.1)

-- behind them a method that is neither has had a Code
abbrev pub method_attributes_at : List Entry → ℕ → Bool → Scan → Read (Option CodeInfo)
method_attributes_at pool at bare s = do
  found ← all_method_attributes_at pool at bare s
  if bare || is_some found.0 then Ok found else refused kind.CodeCount at

unfoldable pub method_at : List Entry → Scan → Read MethodInfo
method_at pool s = do
  head ← head_at true s
  code ← method_attributes_at pool s.place (is_bare head.0.flags) head.1
  Ok (record { at = s.place; flags = head.0.flags; name = name_at pool head.0.name; descriptor = name_at pool head.0.descriptor; code = code.0 }, code.1)

abbrev pub methods_at : List Entry → Scan → Read (List MethodInfo)
methods_at pool s = do
  count ← number_at 2 s
  many count.0 (method_at pool) count.1
