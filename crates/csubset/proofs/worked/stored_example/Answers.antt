-- The run is computed, but for its second move, where the value of an expression is opened.
use Rattle.std.proofs.Common.{◌≡◌, List, [], ◌∷◌, ◌++◌, map, replicate, Option, Some, ℕ, refl, ap, sym, ◌∙◌}
use Rattle.osek_core.specs.declared.event.Who.TheVariants.{Task}
use Rattle.osek_core.specs.declared.moves.Move.TheVariants.{Run, Tick}
use Rattle.osek_core.specs.Bytecode.Trace.{trace}
use Rattle.osek_core.specs.Worked.Application.{runs}
use Rattle.osek_core.specs.Worked.Stored.{stored}
use Rattle.csubset.specs.declared.expression.Atom.TheVariants.{Word}
use Rattle.csubset.specs.Text.Examples.{again_program}
use Rattle.csubset.specs.Machine.Application.{CApplication}
use Rattle.csubset.specs.Machine.State.{Frame, State, actor_of, first_state}
use Rattle.csubset.specs.Machine.Statement.{assign}
use Rattle.csubset.specs.Machine.Step.{Stepped, settle}
use Rattle.csubset.specs.Machine.Trace.{Moved, c_move, moved_by, after_step, owed}
use Rattle.csubset.specs.Image.{move_image}
use Rattle.csubset.specs.Worked.Stored.{again_map}
use Rattle.csubset.proofs.Evaluation.{evaluate-Atom}
use Rattle.csubset.proofs.OneMove.{trace-move, image-move}
use Rattle.csubset.proofs.worked.stored_example.Goals as goal

abbrev app : CApplication
app = record { program = again_program; tables = stored.config.tables; map = again_map }

-- behind the first move the one word has the status
abbrev first : State
first = (c_move app (first_state app) Run).state

abbrev words : List ℕ
words = 4 ∷ []

abbrev frame : Frame
frame = record { function = 0; place = 1; words = words }

-- the second step, by the value of its expression
abbrev second : Option ℕ → Stepped
second value = settle app (Task 0) (actor_of first (Task 0)) first.shared frame [] (assign words 0 value)

second-move : c_move app first Run ≡ moved_by app first (Task 0) (second (Some 4))
second-move = ap (λ value. moved_by app first (Task 0) (second value)) (evaluate-Atom words (Word 0))

second-image : move_image app first Run ≡ Run ∷ []
second-image = ap (λ value. replicate 1 Run ++ map Tick (owed (after_step first (Task 0) (second value)))) (evaluate-Atom words (Word 0))

pub returns : goal.returns
returns c =
    let moved : Moved = moved_by app first (Task 0) (second (Some 4)) in
    let events = trace-move app (first_state app) Run (runs 3) (c_move app (first_state app) Run) _ refl (trace-move app first Run (runs 2) moved _ second-move refl) in
    let image = image-move app (first_state app) Run (runs 3) (c_move app (first_state app) Run) _ _ refl refl (image-move app first Run (runs 2) moved _ _ second-image second-move refl) in
    record { events = events; stands_for = image; same = events ∙ sym (ap (trace stored) image) }
