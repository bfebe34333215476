-- The value of an expression, one level at a time.
use Rattle.std.proofs.Common.{◌≡◌, ℕ, List, ap, sym, ◌∙◌}
use Rattle.std.specs.Prelude.{Option}
use Rattle.std.specs.Option.{option_map, option_and_then}
use Rattle.csubset.specs.declared.expression.Atom.{Atom}
use Rattle.csubset.specs.declared.expression.OneOp.{OneOp}
use Rattle.csubset.specs.declared.expression.TwoOp.{TwoOp}
use Rattle.csubset.specs.declared.expression.Expr.{Expr, fold-roll-Expr}
use Rattle.csubset.specs.declared.expression.Expr.TheOpen.{Expr-F}
use Rattle.csubset.specs.declared.expression.Expr.TheVariants as E
use Rattle.csubset.specs.declared.expression.Expr.TheVariants.{rolls-Atom, rolls-One, rolls-Two}
use Rattle.csubset.specs.Machine.Operators.{one_op, two_op}
use Rattle.csubset.specs.Machine.Expression.{atom_value, operator_value, evaluate}

pub evaluate-Atom : (words : List ℕ) (a : Atom) → evaluate words (E.Atom a) ≡ atom_value words a
evaluate-Atom words a = ap (evaluate words) (sym (rolls-Atom a)) ∙ fold-roll-Expr (Option ℕ) (operator_value words) (Expr-F.Atom a)

pub evaluate-One : (words : List ℕ) (op : OneOp) (a : Expr) → evaluate words (E.One op a) ≡ option_map (one_op op) (evaluate words a)
evaluate-One words op a = ap (evaluate words) (sym (rolls-One op a)) ∙ fold-roll-Expr (Option ℕ) (operator_value words) (Expr-F.One op a)

pub evaluate-Two : (words : List ℕ) (op : TwoOp) (a b : Expr) → evaluate words (E.Two op a b) ≡ option_and_then (λ x. option_and_then (two_op op x) (evaluate words b)) (evaluate words a)
evaluate-Two words op a b = ap (evaluate words) (sym (rolls-Two op a b)) ∙ fold-roll-Expr (Option ℕ) (operator_value words) (Expr-F.Two op a b)
