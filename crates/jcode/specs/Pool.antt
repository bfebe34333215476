-- What instructions ask of a class file's constant pool (JVMS 4.4).
use Rattle.std.specs.Prelude.{ℕ, Option, Some, None, Bool, true, false}
use Rattle.classfile.specs.declared.member.MemberKind.{MemberKind}
use Rattle.classfile.specs.declared.member.MemberKind.TheVariants as kind
use Rattle.classfile.specs.declared.member.Constant.{Constant}

pub record Pool : Type 0 where
  -- which kind of member the entry at an index names
  pub member : ℕ → Option MemberKind
  -- whether a class stands there
  pub is_class : ℕ → Bool
  -- the constant of int or long that stands there
  pub constant : ℕ → Option Constant

abbrev pub is_kind : MemberKind → MemberKind → Bool
is_kind kind.Field kind.Field = true
is_kind kind.Method kind.Method = true
is_kind kind.Interface kind.Interface = true
is_kind _ _ = false

-- whether a member of this kind stands at the index
abbrev pub is_member : Pool → MemberKind → ℕ → Bool
is_member pool kind index = elim (pool.member index) [ None ↦ false | Some found ↦ is_kind kind found ]
