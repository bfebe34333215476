-- The text of an expression, one level at a time.
use Rattle.std.proofs.Common.{◌≡◌, ℕ, List, ◌++◌, ap, sym, ◌∙◌}
use Rattle.std.specs.Prelude.{codes}
use Rattle.csubset.specs.declared.expression.Atom.{Atom}
use Rattle.csubset.specs.declared.expression.OneOp.{OneOp}
use Rattle.csubset.specs.declared.expression.TwoOp.{TwoOp}
use Rattle.csubset.specs.declared.expression.Expr.{Expr, fold-roll-Expr}
use Rattle.csubset.specs.declared.expression.Expr.TheOpen.{Expr-F}
use Rattle.csubset.specs.declared.expression.Expr.TheVariants as E
use Rattle.csubset.specs.declared.expression.Expr.TheVariants.{rolls-Atom, rolls-One, rolls-Two}
use Rattle.csubset.specs.Text.Expressions.{atom_text, one_op_name, two_op_name, operator_text, expression_text}

pub expression_text-One : (op : OneOp) (a : Expr) → expression_text (E.One op a) ≡ one_op_name op ++ codes "(" ++ expression_text a ++ codes ")"
expression_text-One op a = ap expression_text (sym (rolls-One op a)) ∙ fold-roll-Expr (List ℕ) operator_text (Expr-F.One op a)

pub expression_text-Two : (op : TwoOp) (a b : Expr) → expression_text (E.Two op a b) ≡ two_op_name op ++ codes "(" ++ expression_text a ++ codes ", " ++ expression_text b ++ codes ")"
expression_text-Two op a b = ap expression_text (sym (rolls-Two op a b)) ∙ fold-roll-Expr (List ℕ) operator_text (Expr-F.Two op a b)

pub expression_text-Atom : (a : Atom) → expression_text (E.Atom a) ≡ atom_text a
expression_text-Atom a = ap expression_text (sym (rolls-Atom a)) ∙ fold-roll-Expr (List ℕ) operator_text (Expr-F.Atom a)
