-- What a class file says (JVMS SE 8, 4.1): names are bytes, places are offsets in the file.
use Rattle.std.specs.Prelude.{ℕ, ℤ, List, Option}
use Rattle.classfile.specs.declared.pool.Entry.{Entry}
use Rattle.classfile.specs.declared.member.MemberKind.{MemberKind}

-- a field (4.5): where its access flags stand, and the constant of a ConstantValue that counts
pub record FieldInfo : Type 0 where
  pub at : ℕ
  pub flags : ℕ
  pub name : List ℕ
  pub descriptor : List ℕ
  pub constant : Option ℤ

-- the Code of a method (4.7.3): where its first byte stands; how many handlers the exception table has, and where it
-- counts them; and the first StackMapTable (4.7.4), where it begins behind its length
pub record CodeInfo : Type 0 where
  pub at : ℕ
  pub max_stack : ℕ
  pub max_locals : ℕ
  pub bytes : List ℕ
  pub handlers : ℕ
  pub handlers_at : ℕ
  pub maps : Option (ℕ × List ℕ)

-- a method (4.6): where its access flags stand
pub record MethodInfo : Type 0 where
  pub at : ℕ
  pub flags : ℕ
  pub name : List ℕ
  pub descriptor : List ℕ
  pub code : Option CodeInfo

-- a member as the constant pool names it (4.4.2)
pub record MemberInfo : Type 0 where
  pub kind : MemberKind
  pub class : List ℕ
  pub name : List ℕ
  pub descriptor : List ℕ

-- a class file (4.1); a class without a superclass has no bytes for its name. Its super_class stands at super_at, and
-- so the index of interface i, counted from 0, at super_at + 4 + 2 * i. The first entry of the pool is number 1.
pub record ClassInfo : Type 0 where
  pub version : ℕ
  pub flags : ℕ
  pub name : List ℕ
  pub super_name : List ℕ
  pub super_at : ℕ
  pub interfaces : List (List ℕ)
  pub fields : List FieldInfo
  pub methods : List MethodInfo
  pub pool : List Entry
