-- The value of an expression over a function's words, where it has one.
use Rattle.std.specs.Prelude.{ℕ, List, [], ◌∷◌, Option, Some, slice_get}
use Rattle.std.specs.Option.{option_map, option_and_then}
use Rattle.csubset.specs.declared.expression.Atom.{Atom}
use Rattle.csubset.specs.declared.expression.Atom.TheVariants.{Word, Number}
use Rattle.csubset.specs.declared.expression.Expr.{Expr, fold-Expr}
use Rattle.csubset.specs.declared.expression.Expr.TheOpen.{Expr-F}
use Rattle.csubset.specs.Machine.Operators.{one_op, two_op}

abbrev pub atom_value : List ℕ → Atom → Option ℕ
atom_value words (Word n) = slice_get words n
atom_value words (Number n) = Some n

-- these atoms one after another
abbrev pub atom_values : List ℕ → List Atom → Option (List ℕ)
atom_values words [] = Some []
atom_values words (a ∷ more) =
    option_and_then (λ x. option_map (λ xs. x ∷ xs) (atom_values words more)) (atom_value words a)

-- one level of an expression, whose operands are given by their values
abbrev pub operator_value : List ℕ → Expr-F (Option ℕ) → Option ℕ
operator_value words (Expr-F.Atom atom) = atom_value words atom
operator_value words (Expr-F.One op a) = option_map (one_op op) a
operator_value words (Expr-F.Two op a b) = option_and_then (λ x. option_and_then (two_op op x) b) a

abbrev pub evaluate : List ℕ → Expr → Option ℕ
evaluate words = fold-Expr (Option ℕ) (operator_value words)
