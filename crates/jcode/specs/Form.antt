-- How the operands of an instruction are spelled, and which operation it then is (JVMS 6.5).
use Rattle.std.specs.Prelude.{ℕ, ℤ}
use Rattle.std.specs.Int.{Width}
use Rattle.jcode.specs.declared.op.Op.{Op}
use Rattle.classfile.specs.declared.member.MemberKind.{MemberKind}

-- what an entry of the constant pool has to be
pub data Wanted : Type 0 where
  member : MemberKind → Wanted
  class : Wanted

pub data Form : Type 0 where
  -- an instruction that the profile leaves out
  outside : Form
  -- the same, and it may stand behind wide
  outside_local : Form
  -- no operand
  plain : Op → Form
  -- a signed number of this width
  immediate : Width → (ℤ → Op) → Form
  -- the index, of this width, of a constant of int
  int_constant : Width → Form
  -- the index, of two bytes, of a constant of long
  long_constant : Form
  -- the number of a local variable: one byte, and behind wide two
  local : (ℕ → Op) → Form
  -- iinc: the number of a local variable and a signed number, of one byte each, and behind wide of two
  increment : Form
  -- how far behind the opcode's place the target stands, a signed number of this width
  branch : Width → (ℕ → Op) → Form
  table_switch : Form
  lookup_switch : Form
  -- the index, of two bytes, of such an entry
  entry : Wanted → (ℕ → Op) → Form
  -- invokeinterface: an index of two bytes, and two bytes that aren't looked at
  interface_call : Form
  -- newarray: one byte that names the elements' type
  array_type : Form
  -- the next opcode has its wide form
  wide : Form
