-- Programs for the worked examples: one task `x` that starts itself, whose function has one word and these statements, a
-- counter `c` with an alarm `al` that is due at each tick and activates `x`, and one region of 8 bytes.
use Rattle.std.specs.Prelude.{ℕ, true, false, List, [], ◌∷◌, map, codes}
use Rattle.osek_core.specs.declared.event.Event.{Event}
use Rattle.osek_core.specs.declared.event.FailKind.TheVariants.{DivZero}
use Rattle.osek_core.specs.declared.moves.Move.{Move}
use Rattle.osek_core.specs.declared.tables.Action.TheVariants.{Activate}
use Rattle.osek_core.specs.declared.tables.Tables.{Tables}
use Rattle.osek_core.specs.Worked.Application.{counter, task_row, each_tick}
use Rattle.csubset.specs.declared.statement.Form.{Form}
use Rattle.csubset.specs.declared.program.CProgram.{CProgram}
use Rattle.csubset.specs.declared.map.Map.{Map}
use Rattle.csubset.specs.declared.map.RegionRow.TheVariants.{Scratch}
use Rattle.csubset.specs.declared.map.FunctionKind.TheVariants.{Method}
use Rattle.csubset.specs.Machine.Trace.{c_trace}
use Rattle.csubset.specs.Image.{image}

abbrev pub program : List Form → CProgram
program forms = record {
  device_base = 0;
  tasks = codes "x" ∷ [];
  resources = [];
  events = [];
  alarms = codes "al" ∷ [];
  regions = record { words = 1; first = 513 ∷ [] } ∷ [];
  functions = record { parameters = 0; further = 1; statements = map (λ form. record { labels = []; form = form }) forms; end_labels = [] } ∷ [];
  starts = [];
  task_lines = record { name = codes "x"; function = 0 } ∷ [];
}

abbrev pub tables : Tables
tables = record {
  events = [];
  resources = [];
  counters = counter ∷ [];
  tasks = task_row (codes "x") 1 true [] [] ∷ [];
  alarms = each_tick (codes "al") (Activate 0) ∷ [];
}

-- the weights of the statements; failure 1 is a division by zero, and there are 8 device bytes
abbrev pub map_of : List ℕ → Map
map_of weights = record {
  big = false;
  devices = 8;
  domains = 1;
  methods = codes "A.x()V" ∷ [];
  regions = Scratch ∷ [];
  functions = record { domain = 0; kind = Method 0; weights = weights } ∷ [];
  fails = record { kind = DivZero; place = record { method = 0; pc = 7 } } ∷ [];
}

-- what the statements with these weights show of a list of moves
abbrev pub shown : List Form → List ℕ → List Move → List Event
shown forms weights moves = c_trace (program forms) tables (map_of weights) moves

abbrev pub image_of : List Form → List ℕ → List Move → List Move
image_of forms weights moves = image (program forms) tables (map_of weights) moves
