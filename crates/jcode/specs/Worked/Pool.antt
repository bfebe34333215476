-- A constant pool for worked examples: a Fieldref at 1, a Methodref at 2, an InterfaceMethodref at 3, a Class at 4, the
-- Integer 7 at 5 and the Long -1 at 6.
use Rattle.std.specs.Prelude.{pos, negsuc, List, [], ◌∷◌, slice_get, Option, Some, None, unwrap_or, ◌==◌}
use Rattle.classfile.specs.declared.member.MemberKind.{MemberKind}
use Rattle.classfile.specs.declared.member.MemberKind.TheVariants.{Field, Method, Interface}
use Rattle.classfile.specs.declared.member.Constant.{Constant}
use Rattle.classfile.specs.declared.member.Constant.TheVariants.{Int, Long}
use Rattle.jcode.specs.Pool.{Pool}

abbrev pub members : List (Option MemberKind)
members = None ∷ Some Field ∷ Some Method ∷ Some Interface ∷ []

abbrev pub constants : List (Option Constant)
constants = None ∷ None ∷ None ∷ None ∷ None ∷ Some (Int (pos 7)) ∷ Some (Long (negsuc 0)) ∷ []

abbrev pub worked_pool : Pool
worked_pool = record {
  member = λ index. unwrap_or (slice_get members index) None;
  is_class = λ index. index == 4;
  constant = λ index. unwrap_or (slice_get constants index) None;
}
