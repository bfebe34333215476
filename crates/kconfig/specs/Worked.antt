-- A small configuration, and its tables.
use Rattle.std.specs.Prelude.{◌≡◌, true, false, [], ◌∷◌, codes, Some, None}
use Rattle.osek_core.specs.declared.tables.Action.TheVariants.{Activate, Set}
use Rattle.osek_core.specs.Kernel.Rules.{ceiling}
use Rattle.kconfig.specs.declared.config.Config.{Config}
use Rattle.kconfig.specs.declared.config.TaskLine.{TaskLine}
use Rattle.kconfig.specs.Config.{first_config}
use Rattle.kconfig.specs.Tables.{name_of, tables_of}

abbrev pub low : TaskLine
low = record { line = 7; name = codes "low"; domain = 0; prio = 1; acts = 1; auto = true; full = true; entry = codes "A.low" }

abbrev pub high : TaskLine
high = record { line = 8; name = codes "high"; domain = 0; prio = 2; acts = 3; auto = false; full = false; entry = codes "A.high" }

-- Two tasks share `led`. `low` also uses `bus`, and waits for `halt`. The alarm `beat` starts with the kernel and activates
-- `high`; the alarm `late` sets `halt`.
abbrev pub two_tasks : Config
two_tasks = record (first_config (record { line = 1; big = false })) {
  events = record { line = 2; name = codes "go" } ∷ record { line = 3; name = codes "halt" } ∷ [];
  resources = record { line = 4; name = codes "bus" } ∷ record { line = 5; name = codes "led" } ∷ [];
  counters = record { line = 6; name = codes "ms"; max = 1000; base = 2; min = 5 } ∷ [];
  tasks = low ∷ high ∷ [];
  uses = record { line = 9; task = 0; resource = 1 } ∷ record { line = 10; task = 1; resource = 1 } ∷ record { line = 11; task = 0; resource = 0 } ∷ [];
  waits = record { line = 12; task = 0; event = 1 } ∷ [];
  alarms = record { line = 13; name = codes "beat"; counter = 0; action = Activate 1 } ∷ record { line = 14; name = codes "late"; counter = 0; action = Set 0 1 } ∷ [];
  starts = record { line = 15; alarm = 0; first = 10; cycle = 20 } ∷ [];
}

abbrev pub TaskRowsOfTwo : Type 0
TaskRowsOfTwo =
    (tables_of two_tasks).tasks
    ≡ record { name = name_of (codes "low"); rule = record { priority = 1; activations = 1; preemptable = true; extended = true }; auto = true; resources = 0 ∷ 1 ∷ []; events = 1 ∷ [] }
    ∷ record { name = name_of (codes "high"); rule = record { priority = 2; activations = 3; preemptable = false; extended = false }; auto = false; resources = 1 ∷ []; events = [] } ∷ []

abbrev pub AlarmRowsOfTwo : Type 0
AlarmRowsOfTwo =
    (tables_of two_tasks).alarms
    ≡ record { name = name_of (codes "beat"); counter = 0; action = Activate 1; start = Some (record { first = 10; cycle = 20 }) }
    ∷ record { name = name_of (codes "late"); counter = 0; action = Set 0 1; start = None } ∷ []

abbrev pub OtherRowsOfTwo : Type 0
OtherRowsOfTwo =
    ((tables_of two_tasks).events ≡ name_of (codes "go") ∷ name_of (codes "halt") ∷ [])
    × (((tables_of two_tasks).resources ≡ name_of (codes "bus") ∷ name_of (codes "led") ∷ [])
    × ((tables_of two_tasks).counters ≡ record { name = name_of (codes "ms"); rule = record { max = 1000; base = 2; min = 5 } } ∷ []))

-- `bus` has the priority of `low`, and `led` that of `high`
abbrev pub CeilingsOfTwo : Type 0
CeilingsOfTwo = (ceiling (tables_of two_tasks).tasks 0 ≡ 1) × (ceiling (tables_of two_tasks).tasks 1 ≡ 2)
