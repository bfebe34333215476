-- Label: a jump to a label that its function doesn't have, or a label that stands in the function before. The latter is
-- shown at the number of the statement behind the label's later place; behind the last statement that is their count.
use Rattle.std.specs.Prelude.{ℕ, Bool, false, ◌||◌, List, [], ◌∷◌, flat_map, take, length, nat_eq, is_none, Option, Some, None, slice_get, if◌then◌else◌}
use Rattle.std.specs.List.{list_any}
use Rattle.csubset.specs.declared.statement.Stmt.{Stmt}
use Rattle.csubset.specs.declared.program.CFunction.{CFunction}
use Rattle.csubset.specs.Machine.Application.{has, label_place}
use Rattle.csubset.specs.Form.Jump.{targets_at}

-- the labels directly before a statement
abbrev pub labels_at : CFunction → ℕ → List ℕ
labels_at function place = of_statement (slice_get function.statements place)
  where
    of_statement : Option Stmt → List ℕ
    of_statement (Some statement) = statement.labels
    of_statement None = if nat_eq place (length function.statements) then function.end_labels else []

abbrev pub labels_before : CFunction → ℕ → List ℕ
labels_before function place = flat_map (λ statement. statement.labels) (take place function.statements)

-- one of these labels stands before, or twice among them
abbrev pub repeats : List ℕ → List ℕ → Bool
repeats before [] = false
repeats before (label ∷ more) = has before label || repeats (label ∷ before) more

abbrev pub label_fault : CFunction → ℕ → Bool
label_fault function place =
    repeats (labels_before function place) (labels_at function place)
    || list_any (λ label. is_none (label_place function label)) (targets_at function place)
