-- The runs are computed, but for the first move of the division, where the expression is opened.
use Rattle.std.proofs.Common.{◌≡◌, ℕ, List, [], ◌∷◌, Option, refl, ap, ◌∙◌}
use Rattle.std.specs.Prelude.{None}
use Rattle.std.specs.Option.{option_and_then}
use Rattle.osek_core.specs.declared.event.Who.TheVariants.{Task}
use Rattle.osek_core.specs.declared.moves.Move.TheVariants.{Run}
use Rattle.osek_core.specs.Worked.Application.{runs}
use Rattle.csubset.specs.declared.expression.Atom.TheVariants.{Number}
use Rattle.csubset.specs.declared.expression.TwoOp.TheVariants.{Div8}
use Rattle.csubset.specs.declared.expression.Expr.TheVariants.{Atom, Two}
use Rattle.csubset.specs.declared.statement.Form.TheVariants as form
use Rattle.csubset.specs.Machine.Operators.{two_op}
use Rattle.csubset.specs.Machine.Expression.{evaluate}
use Rattle.csubset.specs.Machine.Application.{CApplication}
use Rattle.csubset.specs.Machine.State.{Frame, actor_of, first_state}
use Rattle.csubset.specs.Machine.Statement.{assign}
use Rattle.csubset.specs.Machine.Step.{Stepped, settle}
use Rattle.csubset.specs.Machine.Trace.{c_move, moved_by}
use Rattle.csubset.specs.Worked.Application.{program, tables, map_of}
use Rattle.csubset.proofs.Evaluation.{evaluate-Atom, evaluate-Two}
use Rattle.csubset.proofs.OneMove.{trace-move}
use Rattle.csubset.proofs.worked.meaningless_is_stuck.Goals as goal

abbrev app : CApplication
app = record {
  program = program (form.Assign 0 (Two Div8 (Atom (Number 1)) (Atom (Number 0))) ∷ form.Return (Number 0) ∷ []);
  tables = tables;
  map = map_of [];
}

abbrev words : List ℕ
words = 0 ∷ []

abbrev frame : Frame
frame = record { function = 0; place = 0; words = words }

-- the first step, by the value of its expression
abbrev first : Option ℕ → Stepped
first value = settle app (Task 0) (actor_of (first_state app) (Task 0)) (first_state app).shared frame [] (assign words 0 value)

no-quotient : evaluate words (Two Div8 (Atom (Number 1)) (Atom (Number 0))) ≡ None
no-quotient =
    evaluate-Two words Div8 (Atom (Number 1)) (Atom (Number 0))
    ∙ ap (λ a. option_and_then (λ x. option_and_then (two_op Div8 x) (evaluate words (Atom (Number 0)))) a) (evaluate-Atom words (Number 1))
    ∙ ap (λ b. option_and_then (two_op Div8 1) b) (evaluate-Atom words (Number 0))

first-move : c_move app (first_state app) Run ≡ moved_by app (first_state app) (Task 0) (first None)
first-move = ap (λ value. moved_by app (first_state app) (Task 0) (first value)) no-quotient

pub returns : goal.returns
returns c = record {
  division = trace-move app (first_state app) Run (runs 4) (moved_by app (first_state app) (Task 0) (first None)) [] first-move refl;
  outside = refl;
  over_the_end = refl;
  unaligned = refl;
  store_outside = refl;
  device_outside = refl;
  no_statement = refl;
}
