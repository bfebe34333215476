-- The classes of an application as plain data: JVMS SE 8, chapter 4. Names are bytes. A member that an instruction
-- names stands with it: its class, name and descriptor as the constant pool has them.
use Rattle.std.specs.Prelude.{ℕ, ℤ, Bool, List, Option, find, bit_and, nat_eq, not, bytes_eq}

-- JVMS 4.3.2: the forms of a type
pub data Shape : Type 0 where
  Boolean : Shape
  Byte : Shape
  Char : Shape
  Short : Shape
  Int : Shape
  Long : Shape
  Float : Shape
  Double : Shape
  Class : Shape
  Array : Shape

-- a type: of a class its name, of an array its whole descriptor, and else no name
pub record Param : Type 0 where
  pub shape : Shape
  pub name : List ℕ

-- JVMS 4.3.3: the types that a method takes and the one that it answers, which void lacks. The descriptor of a field
-- takes nothing and answers the field's type.
pub record Descriptor : Type 0 where
  pub parameters : List Param
  pub answer : Option Param

-- a field or a method by its class, name and descriptor
pub record Member : Type 0 where
  pub class : List ℕ
  pub name : List ℕ
  pub descriptor : Descriptor

-- JVMS 6.5, with the numbers of an instruction's operands; `wide` tells long from int
pub data Instruction : Type 0 where
  Const4 : (value : ℤ) → Instruction
  LoadI : (slot : ℕ) → Instruction
  StoreI : (slot : ℕ) → Instruction
  Pop : Instruction
  Add : (wide : Bool) → Instruction
  Sub : (wide : Bool) → Instruction
  Mul : (wide : Bool) → Instruction
  InvokeStatic : (method : Member) → Instruction
  Return : Instruction

-- an instruction at its offset in the code
pub record Located : Type 0 where
  pub pc : ℕ
  pub instruction : Instruction

-- JVMS 4.7.3
pub record Code : Type 0 where
  pub max_stack : ℕ
  pub max_locals : ℕ
  pub instructions : List Located

-- JVMS 4.5; the constant is that of a ConstantValue which counts
pub record Field : Type 0 where
  pub name : List ℕ
  pub descriptor : Descriptor
  pub flags : ℕ
  pub constant : Option ℤ

-- JVMS 4.6
pub record Method : Type 0 where
  pub name : List ℕ
  pub descriptor : Descriptor
  pub flags : ℕ
  pub code : Option Code

-- JVMS 4.1; only java/lang/Object has no superclass
pub record ClassFile : Type 0 where
  pub name : List ℕ
  pub super : Option (List ℕ)
  pub interfaces : List (List ℕ)
  pub flags : ℕ
  pub fields : List Field
  pub methods : List Method

abbrev pub World : Type 0
World = List ClassFile

-- ACC_STATIC
abbrev pub is_static : ℕ → Bool
is_static flags = not (nat_eq (bit_and flags 8) 0)

abbrev pub class_named : World → List ℕ → Option ClassFile
class_named world name = find (λ class. bytes_eq class.name name) world
