-- The bytes of fields and methods (JVMS SE 8, 4.5 and 4.6).
use Rattle.std.specs.Prelude.{◌≡◌, ℕ, ◌&&◌, List, [], ◌∷◌, Option, Some, None, Bool, true, false, bytes_eq, codes}
use Rattle.classfile.specs.declared.uses.Wanted.TheVariants as wanted
use Rattle.classfile.specs.declared.pool.Entry.{Entry}
use Rattle.classfile.specs.ClassFile.{FieldInfo, MethodInfo, CodeInfo}
use Rattle.classfile.specs.Members.{name_at, wanted_text, constant_in, is_bare}
use Rattle.classfile.specs.Spelled.Pieces.{Piece, ◌▸◌, u2, index, table}
use Rattle.classfile.specs.Spelled.Attributes.{Attribute, attribute, named, first_of}
use Rattle.classfile.specs.Spelled.Codes.{IsCode}

-- access_flags, name_index and descriptor_index
abbrev pub head : Bool → List Entry → ℕ → ℕ → ℕ → Piece
head is_method pool flags name descriptor = u2 flags ▸ index pool wanted.Text name ▸ index pool (wanted_text is_method flags) descriptor

-- what the first ConstantValue gives: its contents are an index (4.7.2)
abbrev pub IsConstantOf : List Entry → Option Attribute → Option ℕ → Type 0
IsConstantOf pool None found = found ≡ None
IsConstantOf pool (Some a) found = (i : ℕ) × (found ≡ Some i) × index pool wanted.Constant i a.at a.contents

-- a field
pub record IsField (pool : List Entry) (field : FieldInfo) (at : ℕ) (bytes : List ℕ) : Type 0 where
  pub name : ℕ
  pub descriptor : ℕ
  pub attributes : List Attribute
  pub constant : Option ℕ
  pub here : field.at ≡ at
  pub items : (head false pool field.flags name descriptor ▸ table (attribute pool) attributes) at bytes
  pub called : field.name ≡ name_at pool name
  pub typed : field.descriptor ≡ name_at pool descriptor
  pub given : IsConstantOf pool (first_of (named pool (codes "ConstantValue") attributes)) constant
  pub value : field.constant ≡ constant_in pool field.flags field.descriptor constant

-- a method has exactly one Code, unless it is native or abstract and has none (4.7.3)
abbrev pub IsCodeOf : List Entry → Bool → List Attribute → Option CodeInfo → Type 0
IsCodeOf pool true [] found = found ≡ None
IsCodeOf pool true (a ∷ others) found = ⊥
IsCodeOf pool false [] found = ⊥
IsCodeOf pool false (a ∷ []) found = (code : CodeInfo) × (found ≡ Some code) × IsCode pool code a.at a.contents
IsCodeOf pool false (a ∷ b ∷ others) found = ⊥

-- a method
pub record IsMethod (pool : List Entry) (method : MethodInfo) (at : ℕ) (bytes : List ℕ) : Type 0 where
  pub name : ℕ
  pub descriptor : ℕ
  pub attributes : List Attribute
  pub here : method.at ≡ at
  pub items : (head true pool method.flags name descriptor ▸ table (attribute pool) attributes) at bytes
  pub called : method.name ≡ name_at pool name
  pub typed : method.descriptor ≡ name_at pool descriptor
  pub code : IsCodeOf pool (is_bare method.flags) (named pool (codes "Code") attributes) method.code

-- one name and one descriptor
abbrev pub is_same_field : FieldInfo → FieldInfo → Bool
is_same_field a b = bytes_eq a.name b.name && bytes_eq a.descriptor b.descriptor

abbrev pub is_same_method : MethodInfo → MethodInfo → Bool
is_same_method a b = bytes_eq a.name b.name && bytes_eq a.descriptor b.descriptor
