-- The text of an expression: an atom, OP(E) or OP(E, E).
use Rattle.std.specs.Prelude.{ℕ, List, ◌++◌, codes}
use Rattle.csubset.specs.declared.expression.Atom.{Atom}
use Rattle.csubset.specs.declared.expression.Atom.TheVariants.{Word, Number}
use Rattle.csubset.specs.declared.expression.OneOp.{OneOp}
use Rattle.csubset.specs.declared.expression.OneOp.TheVariants.{Lo4, Sx4, Sb4, Sh4, Zb, Zh}
use Rattle.csubset.specs.declared.expression.TwoOp.{TwoOp}
use Rattle.csubset.specs.declared.expression.TwoOp.TheVariants.{Add8, Sub8, Mul8, Add4, Sub4, Mul4, Div8, Rem8, Div4, Rem4, Shl8, Shr8, Ushr8, Shl4, Shr4, Ushr4, And, Or, Xor, Eq, Ne, Ltu, Lt8, Lt4, Cmp8}
use Rattle.csubset.specs.declared.expression.Expr.{Expr, fold-Expr}
use Rattle.csubset.specs.declared.expression.Expr.TheOpen.{Expr-F}
use Rattle.csubset.specs.Text.Names.{word_name, number_text}

abbrev pub atom_text : Atom → List ℕ
atom_text (Word n) = word_name n
atom_text (Number n) = number_text n

abbrev pub one_op_name : OneOp → List ℕ
one_op_name Lo4 = codes "LO4"
one_op_name Sx4 = codes "SX4"
one_op_name Sb4 = codes "SB4"
one_op_name Sh4 = codes "SH4"
one_op_name Zb = codes "ZB"
one_op_name Zh = codes "ZH"

abbrev pub two_op_name : TwoOp → List ℕ
two_op_name Add8 = codes "ADD8"
two_op_name Sub8 = codes "SUB8"
two_op_name Mul8 = codes "MUL8"
two_op_name Add4 = codes "ADD4"
two_op_name Sub4 = codes "SUB4"
two_op_name Mul4 = codes "MUL4"
two_op_name Div8 = codes "DIV8"
two_op_name Rem8 = codes "REM8"
two_op_name Div4 = codes "DIV4"
two_op_name Rem4 = codes "REM4"
two_op_name Shl8 = codes "SHL8"
two_op_name Shr8 = codes "SHR8"
two_op_name Ushr8 = codes "USHR8"
two_op_name Shl4 = codes "SHL4"
two_op_name Shr4 = codes "SHR4"
two_op_name Ushr4 = codes "USHR4"
two_op_name And = codes "AND"
two_op_name Or = codes "OR"
two_op_name Xor = codes "XOR"
two_op_name Eq = codes "EQ"
two_op_name Ne = codes "NE"
two_op_name Ltu = codes "LTU"
two_op_name Lt8 = codes "LT8"
two_op_name Lt4 = codes "LT4"
two_op_name Cmp8 = codes "CMP8"

-- one level of an expression, whose operands are given by their texts
abbrev pub operator_text : Expr-F (List ℕ) → List ℕ
operator_text (Expr-F.Atom atom) = atom_text atom
operator_text (Expr-F.One op a) = one_op_name op ++ codes "(" ++ a ++ codes ")"
operator_text (Expr-F.Two op a b) = two_op_name op ++ codes "(" ++ a ++ codes ", " ++ b ++ codes ")"

-- the whole expression: each operand stands as its own text
abbrev pub expression_text : Expr → List ℕ
expression_text = fold-Expr (List ℕ) operator_text
