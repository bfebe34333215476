-- The instructions in the order of their opcodes, from 0 to 201 (JVMS 6.5 and 7): how the operands of each are
-- spelled, and which operation it is. The profile leaves out floating point, subroutines, monitors, invokedynamic
-- and multianewarray.
use Rattle.std.specs.Prelude.{pos, negsuc, true, false, List, [], ◌∷◌, ◌++◌}
use Rattle.std.specs.Int.{w8, w16, w32}
use Rattle.jcode.specs.Form.{Form, outside, outside_local, plain, immediate, int_constant, long_constant, local, increment, branch, table_switch, lookup_switch, entry, interface_call, array_type, wide, member, class}
use Rattle.jcode.specs.declared.op.Op.TheVariants.{Nop, Null, Const4, Const8, LoadI, LoadL, LoadA, StoreI, StoreL, StoreA, ArrayLoad, ArrayStore, Pop, Pop2, Dup, DupX1, DupX2, Dup2, Dup2X1, Dup2X2, Swap, Add, Sub, Mul, Div, Rem, Neg, Shl, Shr, Ushr, And, Or, Xor, I2L, L2I, I2B, I2C, I2S, CompareL, IfZero, IfInt, IfRef, IfNull, Goto, ReturnI, ReturnL, ReturnA, Return, GetStatic, PutStatic, GetField, PutField, InvokeVirtual, InvokeSpecial, InvokeStatic, New, NewRefs, ArrayLength, Throw, CheckCast, InstanceOf}
use Rattle.jcode.specs.declared.op.Test.TheVariants.{Eq, Ne, Lt, Ge, Gt, Le}
use Rattle.jnames.specs.declared.shape.Shape.TheVariants.{Byte, Char, Short, Int, Long, Class}
use Rattle.classfile.specs.declared.member.MemberKind.TheVariants.{Field, Method}

-- Constants: 0 to 20
abbrev pub constants : List Form
constants =
    plain Nop ∷ plain Null ∷ plain (Const4 (negsuc 0)) ∷ plain (Const4 (pos 0)) ∷ plain (Const4 (pos 1)) ∷ plain (Const4 (pos 2)) ∷  -- nop to iconst_2
    plain (Const4 (pos 3)) ∷ plain (Const4 (pos 4)) ∷ plain (Const4 (pos 5)) ∷ plain (Const8 (pos 0)) ∷ plain (Const8 (pos 1)) ∷  -- iconst_3 to lconst_1
    outside ∷ outside ∷ outside ∷ outside ∷ outside ∷ immediate w8 Const4 ∷ immediate w16 Const4 ∷ int_constant w8 ∷  -- fconst_0 to ldc
    int_constant w16 ∷ long_constant ∷ []  -- ldc_w to ldc2_w

-- Loads: 21 to 53
abbrev pub loads : List Form
loads =
    local LoadI ∷ local LoadL ∷ outside_local ∷ outside_local ∷ local LoadA ∷ plain (LoadI 0) ∷ plain (LoadI 1) ∷ plain (LoadI 2) ∷  -- iload to iload_2
    plain (LoadI 3) ∷ plain (LoadL 0) ∷ plain (LoadL 1) ∷ plain (LoadL 2) ∷ plain (LoadL 3) ∷ outside ∷ outside ∷ outside ∷ outside ∷  -- iload_3 to fload_3
    outside ∷ outside ∷ outside ∷ outside ∷ plain (LoadA 0) ∷ plain (LoadA 1) ∷ plain (LoadA 2) ∷ plain (LoadA 3) ∷  -- dload_0 to aload_3
    plain (ArrayLoad Int) ∷ plain (ArrayLoad Long) ∷ outside ∷ outside ∷ plain (ArrayLoad Class) ∷ plain (ArrayLoad Byte) ∷  -- iaload to baload
    plain (ArrayLoad Char) ∷ plain (ArrayLoad Short) ∷ []  -- caload to saload

-- Stores: 54 to 86
abbrev pub stores : List Form
stores =
    local StoreI ∷ local StoreL ∷ outside_local ∷ outside_local ∷ local StoreA ∷ plain (StoreI 0) ∷ plain (StoreI 1) ∷  -- istore to istore_1
    plain (StoreI 2) ∷ plain (StoreI 3) ∷ plain (StoreL 0) ∷ plain (StoreL 1) ∷ plain (StoreL 2) ∷ plain (StoreL 3) ∷ outside ∷  -- istore_2 to fstore_0
    outside ∷ outside ∷ outside ∷ outside ∷ outside ∷ outside ∷ outside ∷ plain (StoreA 0) ∷ plain (StoreA 1) ∷ plain (StoreA 2) ∷  -- fstore_1 to astore_2
    plain (StoreA 3) ∷ plain (ArrayStore Int) ∷ plain (ArrayStore Long) ∷ outside ∷ outside ∷ plain (ArrayStore Class) ∷  -- astore_3 to aastore
    plain (ArrayStore Byte) ∷ plain (ArrayStore Char) ∷ plain (ArrayStore Short) ∷ []  -- bastore to sastore

-- The operand stack: 87 to 95
abbrev pub stack : List Form
stack =
    plain Pop ∷ plain Pop2 ∷ plain Dup ∷ plain DupX1 ∷ plain DupX2 ∷ plain Dup2 ∷ plain Dup2X1 ∷ plain Dup2X2 ∷ plain Swap ∷ []  -- pop to swap

-- Arithmetic and conversions: 96 to 147
abbrev pub numbers : List Form
numbers =
    plain (Add false) ∷ plain (Add true) ∷ outside ∷ outside ∷ plain (Sub false) ∷ plain (Sub true) ∷ outside ∷ outside ∷  -- iadd to dsub
    plain (Mul false) ∷ plain (Mul true) ∷ outside ∷ outside ∷ plain (Div false) ∷ plain (Div true) ∷ outside ∷ outside ∷  -- imul to ddiv
    plain (Rem false) ∷ plain (Rem true) ∷ outside ∷ outside ∷ plain (Neg false) ∷ plain (Neg true) ∷ outside ∷ outside ∷  -- irem to dneg
    plain (Shl false) ∷ plain (Shl true) ∷ plain (Shr false) ∷ plain (Shr true) ∷ plain (Ushr false) ∷ plain (Ushr true) ∷  -- ishl to lushr
    plain (And false) ∷ plain (And true) ∷ plain (Or false) ∷ plain (Or true) ∷ plain (Xor false) ∷ plain (Xor true) ∷ increment ∷  -- iand to iinc
    plain I2L ∷ outside ∷ outside ∷ plain L2I ∷ outside ∷ outside ∷ outside ∷ outside ∷ outside ∷ outside ∷ outside ∷ outside ∷  -- i2l to d2f
    plain I2B ∷ plain I2C ∷ plain I2S ∷ []  -- i2b to i2s

-- Comparisons: 148 to 166
abbrev pub comparisons : List Form
comparisons =
    plain CompareL ∷ outside ∷ outside ∷ outside ∷ outside ∷ branch w16 (IfZero Eq) ∷ branch w16 (IfZero Ne) ∷  -- lcmp to ifne
    branch w16 (IfZero Lt) ∷ branch w16 (IfZero Ge) ∷ branch w16 (IfZero Gt) ∷ branch w16 (IfZero Le) ∷ branch w16 (IfInt Eq) ∷  -- iflt to if_icmpeq
    branch w16 (IfInt Ne) ∷ branch w16 (IfInt Lt) ∷ branch w16 (IfInt Ge) ∷ branch w16 (IfInt Gt) ∷ branch w16 (IfInt Le) ∷  -- if_icmpne to if_icmple
    branch w16 (IfRef true) ∷ branch w16 (IfRef false) ∷ []  -- if_acmpeq to if_acmpne

-- Control: 167 to 177
abbrev pub control : List Form
control =
    branch w16 Goto ∷ outside ∷ outside_local ∷ table_switch ∷ lookup_switch ∷ plain ReturnI ∷ plain ReturnL ∷ outside ∷ outside ∷  -- goto to dreturn
    plain ReturnA ∷ plain Return ∷ []  -- areturn to return

-- References and the rest: 178 to 201
abbrev pub references : List Form
references =
    entry (member Field) GetStatic ∷ entry (member Field) PutStatic ∷ entry (member Field) GetField ∷ entry (member Field) PutField ∷  -- getstatic to putfield
    entry (member Method) InvokeVirtual ∷ entry (member Method) InvokeSpecial ∷ entry (member Method) InvokeStatic ∷ interface_call ∷  -- invokevirtual to invokeinterface
    outside ∷ entry class New ∷ array_type ∷ entry class NewRefs ∷ plain ArrayLength ∷ plain Throw ∷ entry class CheckCast ∷  -- invokedynamic to checkcast
    entry class InstanceOf ∷ outside ∷ outside ∷ wide ∷ outside ∷ branch w16 (IfNull true) ∷ branch w16 (IfNull false) ∷  -- instanceof to ifnonnull
    branch w32 Goto ∷ outside ∷ []  -- goto_w to jsr_w

-- the row of an opcode stands at its place
unfoldable pub opcodes : List Form
opcodes = constants ++ loads ++ stores ++ stack ++ numbers ++ comparisons ++ control ++ references
