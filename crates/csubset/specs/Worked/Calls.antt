-- Initialisers, calls with parameters, services by names and by an alarm's numbers, and jumps.
use Rattle.std.specs.Prelude.{◌≡◌, ℕ, pos, true, List, [], ◌∷◌, ◌++◌, map, codes}
use Rattle.osek_core.specs.declared.call.Call.TheVariants.{SetEvent, ClearEvent, SetRelAlarm, TerminateTask}
use Rattle.osek_core.specs.declared.event.Who.TheVariants.{Start, Task}
use Rattle.osek_core.specs.declared.event.Event.{Event}
use Rattle.osek_core.specs.declared.event.Event.TheVariants.{Service, DevWrite, Stuck}
use Rattle.osek_core.specs.declared.moves.Move.{Move}
use Rattle.osek_core.specs.declared.moves.Move.TheVariants.{Tick}
use Rattle.osek_core.specs.declared.tables.Action.TheVariants.{Activate}
use Rattle.osek_core.specs.declared.tables.Tables.{Tables}
use Rattle.osek_core.specs.Worked.Application.{counter, named, task_row, each_tick, runs}
use Rattle.csubset.specs.declared.expression.Atom.TheVariants.{Word, Number}
use Rattle.csubset.specs.declared.statement.CService.TheVariants as service
use Rattle.csubset.specs.declared.statement.Form.TheVariants as form
use Rattle.csubset.specs.declared.statement.Form.{Form}
use Rattle.csubset.specs.declared.program.CProgram.{CProgram}
use Rattle.csubset.specs.declared.map.Map.{Map}
use Rattle.csubset.specs.Machine.Trace.{c_trace}
use Rattle.csubset.specs.Worked.Form.{at}

-- two events that the task waits for
abbrev pub tables : Tables
tables = record {
  events = named (codes "one") ∷ named (codes "two") ∷ [];
  resources = [];
  counters = counter ∷ [];
  tasks = task_row (codes "x") 1 true [] (0 ∷ 1 ∷ []) ∷ [];
  alarms = each_tick (codes "al") (Activate 0) ∷ [];
}

-- functions with so many parameters and one further word; the first is the task's, and these are the initialisers
abbrev pub program : List (ℕ × List Form) → List ℕ → CProgram
program bodies starts = record {
  device_base = 0;
  tasks = codes "x" ∷ [];
  resources = [];
  events = codes "one" ∷ codes "two" ∷ [];
  alarms = codes "al" ∷ [];
  regions = [];
  functions = map (λ body. record { parameters = body.0; further = 1; statements = map (at []) body.1; end_labels = [] }) bodies;
  starts = starts;
  task_lines = record { name = codes "x"; function = 0 } ∷ [];
}

abbrev pub big_map : Map
big_map = record { big = true; devices = 4; domains = 1; methods = []; regions = []; functions = []; fails = [] }

abbrev pub shown : List (ℕ × List Form) → List ℕ → List Move → List Event
shown bodies starts moves = c_trace (program bodies starts) tables big_map moves

-- writes its first parameter and its further word to the device, and answers its second parameter
abbrev pub writer : ℕ × List Form
writer = (2, form.DeviceStore 2 (Number 0) (Word 0) ∷ form.DeviceStore 1 (Number 2) (Word 2) ∷ form.Return (Word 1) ∷ [])

abbrev pub caller : ℕ × List Form
caller = (0, form.Call 0 1 (Number 258 ∷ Number 7 ∷ []) ∷ form.DeviceStore 1 (Number 3) (Word 0) ∷ form.Return (Number 0) ∷ [])

-- sets both of its events and clears the second one; an alarm that is in use answers 7
abbrev pub signals : ℕ × List Form
signals = (
  0,
  form.Service 0 (service.SetEvent (codes "x") (codes "two" ∷ codes "one" ∷ []))
      ∷ form.Service 0 (service.ClearEvent (codes "two" ∷ []))
      ∷ form.Service 0 (service.SetRelAlarm (codes "al") (Number 4294967299) (Word 0))
      ∷ form.Return (Number 0) ∷ [],
)

abbrev pub returns : ℕ × List Form
returns = (0, form.Return (Number 0) ∷ [])

abbrev pub initialiser : ℕ × List Form
initialiser = (0, form.DeviceStore 1 (Number 0) (Number 5) ∷ form.Return (Number 0) ∷ [])

pub record CallsHold : Type 0 where
  -- the parameters are set, the further word is 0, and the answer is stored at the return
  pub call : shown (caller ∷ writer ∷ []) [] (runs 6)
      ≡ DevWrite (Task 0) 0 2 258 ∷ DevWrite (Task 0) 2 1 0 ∷ DevWrite (Task 0) 3 1 7 ∷ []
  -- two initialisers, a tick that does nothing before the kernel's start, and then the task
  pub start : shown (returns ∷ initialiser ∷ []) (1 ∷ 1 ∷ []) (runs 2 ++ Tick 0 ∷ runs 4)
      ≡ DevWrite Start 0 1 5 ∷ DevWrite Start 0 1 5 ∷ Service (Task 0) TerminateTask (pos 0) ∷ []
  pub service_at_start : shown (signals ∷ []) (0 ∷ []) (runs 9) ≡ Stuck Start ∷ []
  pub services : shown (signals ∷ []) [] (runs 5)
      ≡ Service (Task 0) (SetEvent 0 3) (pos 0) ∷ Service (Task 0) (ClearEvent 2) (pos 0)
      ∷ Service (Task 0) (SetRelAlarm 0 3 0) (pos 7) ∷ Service (Task 0) TerminateTask (pos 0) ∷ []
