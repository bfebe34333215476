-- Worked examples of the C text: what some small values look like when they are printed.
use Rattle.std.specs.Prelude.{◌≡◌, ℕ, List, [], ◌∷◌, codes, flat_map}
use Rattle.csubset.specs.declared.expression.Atom.TheVariants.{Word, Number}
use Rattle.csubset.specs.declared.expression.OneOp.TheVariants.{Lo4}
use Rattle.csubset.specs.declared.expression.TwoOp.TheVariants.{Add4, Ltu}
use Rattle.csubset.specs.declared.expression.Expr.{Expr}
use Rattle.csubset.specs.declared.expression.Expr.TheVariants.{Atom, One, Two}
use Rattle.csubset.specs.declared.statement.CService.TheVariants.{ActivateTask, SetEvent}
use Rattle.csubset.specs.declared.statement.Form.{Form}
use Rattle.csubset.specs.declared.statement.Form.TheVariants.{Assign, Switch, Return, Service}
use Rattle.csubset.specs.declared.program.CProgram.{CProgram}
use Rattle.csubset.specs.Text.Line.{line}
use Rattle.csubset.specs.Text.Expressions.{expression_text}
use Rattle.csubset.specs.Text.Statements.{form_text}
use Rattle.csubset.specs.Text.Program.{body_text}

-- one task, whose function activates the task again
abbrev pub again_program : CProgram
again_program = record {
  device_base = 0;
  tasks = codes "main" ∷ [];
  resources = [];
  events = [];
  alarms = [];
  regions = record { words = 8; first = [] } ∷ [];
  functions = record {
    parameters = 0;
    further = 1;
    statements = record { labels = []; form = Service 0 (ActivateTask (codes "main")) }
        ∷ record { labels = []; form = Assign 0 (Atom (Word 0)) }
        ∷ record { labels = []; form = Return (Number 0) }
        ∷ [];
    end_labels = [];
  } ∷ [];
  starts = [];
  task_lines = record { name = codes "main"; function = 0 } ∷ [];
}

abbrev pub again_lines : List (List ℕ)
again_lines = codes "#define KDEV 0ul"
    ∷ codes "DeclareTask(t_main);"
    ∷ codes "static W r0[8];"
    ∷ codes "static W f0(void);"
    ∷ codes "static W f0(void) {"
    ∷ codes "  W w0 = 0ull;"
    ∷ codes "  w0 = K_ActivateTask(t_main);"
    ∷ codes "  w0 = w0;"
    ∷ codes "  return 0ull;"
    ∷ codes "}"
    ∷ codes "void StartupHook(void) {"
    ∷ codes "}"
    ∷ codes "KTASK(t_main, f0)"
    ∷ []

-- whether the low half of a word plus ten is less than another word
abbrev pub nested : Expr
nested = Two Ltu (One Lo4 (Two Add4 (Atom (Word 3)) (Atom (Number 10)))) (Atom (Word 21))

abbrev pub two_ways : Form
two_ways = Switch (Word 1) ((1, 4) ∷ (18446744073709551615, 5) ∷ []) 6

abbrev pub two_events : Form
two_events = Service 2 (SetEvent (codes "log") (codes "full" ∷ codes "late" ∷ []))

pub record ExamplesHold : Type 0 where
  pub program : body_text again_program ≡ flat_map line again_lines
  pub expression : expression_text nested ≡ codes "LTU(LO4(ADD4(w3, 10ull)), w21)"
  pub switch : form_text two_ways ≡ codes "switch (w1) { case 1ull: goto L4; case 18446744073709551615ull: goto L5; default: goto L6; }"
  pub events : form_text two_events ≡ codes "w2 = K_SetEvent(t_log, e_full | e_late);"
