-- Applications for the worked examples: one class `A` with a native method for each service and an entry for each
-- task, one counter `c`, and at most one resource, event and alarm.
use Rattle.std.specs.Prelude.{ℕ, ◌+◌, Bool, true, false, List, [], ◌∷◌, ◌++◌, map, replicate, Some, None, codes}
use Rattle.osek_core.specs.declared.moves.Move.{Move}
use Rattle.osek_core.specs.declared.moves.Move.TheVariants.{Run}
use Rattle.osek_core.specs.declared.tables.Name.{Name}
use Rattle.osek_core.specs.declared.tables.TaskRow.{TaskRow}
use Rattle.osek_core.specs.declared.tables.CounterRow.{CounterRow}
use Rattle.osek_core.specs.declared.tables.AlarmRow.{AlarmRow}
use Rattle.osek_core.specs.declared.tables.Action.{Action}
use Rattle.osek_core.specs.Event.Text.{Names, event_line}
use Rattle.osek_core.specs.Bytecode.World as jvm
use Rattle.osek_core.specs.Bytecode.World.{Param, Descriptor, Member, Instruction, Located, Code, Method, ClassFile, Const4, LoadI, StoreI, Pop, Add, Sub, Mul, InvokeStatic, Return}
use Rattle.osek_core.specs.Bytecode.Application.{Application, Service}
use Rattle.osek_core.specs.Bytecode.Shown.{shown_method}
use Rattle.osek_core.specs.Bytecode.Trace.{trace}

abbrev pub int : Param
int = record { shape = jvm.Int; name = [] }

-- a native of the class, by its name, the ints that it takes and its service
pub record Bound : Type 0 where
  pub name : List ℕ
  pub takes : ℕ
  pub service : Service

-- a task: its name and row, and the instructions of its entry
pub record Job : Type 0 where
  pub name : List ℕ
  pub row : TaskRow
  pub code : List Instruction

abbrev pub native : Bound → Member
native b = record { class = codes "A"; name = b.name; descriptor = record { parameters = replicate b.takes int; answer = Some int } }

-- the call of a native
abbrev pub calls : Bound → Instruction
calls b = InvokeStatic (native b)

-- instructions one behind another, from an offset on: a call takes three bytes, and another one a byte
abbrev pub located : ℕ → List Instruction → List Located
located pc [] = []
located pc (InvokeStatic m ∷ more) = record { pc = pc; instruction = InvokeStatic m } ∷ located (pc + 3) more
located pc (instruction ∷ more) = record { pc = pc; instruction = instruction } ∷ located (pc + 1) more

-- public static native, and static
abbrev pub native_method : Bound → Method
native_method b = record { name = b.name; descriptor = (native b).descriptor; flags = 265; code = None }

abbrev pub entry_method : Job → Method
entry_method job =
    record {
      name = job.name;
      descriptor = record { parameters = []; answer = None };
      flags = 8;
      code = Some (record { max_stack = 4; max_locals = 4; instructions = located 0 job.code });
    }

abbrev pub class_of : List Bound → List Job → ClassFile
class_of natives jobs =
    record {
      name = codes "A";
      super = Some (codes "java/lang/Object");
      interfaces = [];
      flags = 32;
      fields = [];
      methods = map native_method natives ++ map entry_method jobs;
    }

abbrev pub named : List ℕ → Name
named text = record { text = text }

-- a counter up to 1000, with ticks and cycles from 1
abbrev pub counter : CounterRow
counter = record { name = named (codes "c"); rule = record { max = 1000; base = 1; min = 1 } }

-- a preemptable task with one activation, by its name, priority, whether it starts itself, its resources and events
abbrev pub task_row : List ℕ → ℕ → Bool → List ℕ → List ℕ → TaskRow
task_row name priority auto resources events =
    record {
      name = named name;
      rule = record { priority = priority; activations = 1; preemptable = true; extended = waits events };
      auto = auto;
      resources = resources;
      events = events;
    }
  where
    waits : List ℕ → Bool
    waits [] = false
    waits (event ∷ more) = true

-- an alarm that is due at each tick from the start on
abbrev pub each_tick : List ℕ → Action → AlarmRow
each_tick name action =
    record { name = named name; counter = 0; action = action; start = Some (record { first = 1; cycle = 1 }) }

-- one domain, and the names that a text shows
abbrev pub application : List Bound → List Job → List AlarmRow → List (List ℕ) → List (List ℕ) → Application
application natives jobs alarms resources events =
    record {
      world = class_of natives jobs ∷ [];
      config = record {
        tables = record {
          events = map named events;
          resources = map named resources;
          counters = counter ∷ [];
          tasks = map (λ job. job.row) jobs;
          alarms = alarms;
        };
        heaps = 64 ∷ [];
        tasks = map (λ job. record { domain = 0; entry = codes "A." ++ job.name }) jobs;
        natives = map (λ b. record { method = shown_method (native b); service = b.service }) natives;
        devices = 0;
      };
      initialisers = [];
      methods = [];
    }

abbrev pub names_of : Application → Names
names_of app =
    record {
      tasks = map (λ row. row.name.text) app.config.tables.tasks;
      resources = map (λ name. name.text) app.config.tables.resources;
      events = map (λ name. name.text) app.config.tables.events;
      alarms = map (λ row. row.name.text) app.config.tables.alarms;
      methods = map shown_method app.methods;
    }

-- the event lines of a list of moves
abbrev pub lines : Application → List Move → List (List ℕ)
lines app moves = map (event_line (names_of app)) (trace app moves)

abbrev pub runs : ℕ → List Move
runs n = replicate n Run
