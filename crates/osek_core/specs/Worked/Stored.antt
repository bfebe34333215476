-- The stored example: a task whose entry activates the task itself once more, drops the status and returns.
use Rattle.std.specs.Prelude.{◌≡◌, pos, true, false, List, [], ◌∷◌, Some, None, codes}
use Rattle.osek_core.specs.declared.call.Call.TheVariants.{ActivateTask, TerminateTask}
use Rattle.osek_core.specs.declared.event.Who.TheVariants.{Task}
use Rattle.osek_core.specs.declared.event.Event.TheVariants.{Service}
use Rattle.osek_core.specs.Bytecode.World.{Member, ClassFile, Located, Pop, InvokeStatic, Return}
use Rattle.osek_core.specs.Bytecode.Application.{Application, Whole}
use Rattle.osek_core.specs.Bytecode.Trace.{trace}
use Rattle.osek_core.specs.Worked.Application.{int, named, lines, runs}

-- class Main { static native int again(); static void run() { again(); } }
abbrev pub again : Member
again = record { class = codes "Main"; name = codes "again"; descriptor = record { parameters = []; answer = Some int } }

abbrev pub run : List Located
run =
    record { pc = 0; instruction = InvokeStatic again }
    ∷ record { pc = 3; instruction = Pop }
    ∷ record { pc = 4; instruction = Return }
    ∷ []

abbrev pub main : ClassFile
main =
    record {
      name = codes "Main";
      super = Some (codes "java/lang/Object");
      interfaces = [];
      flags = 0;
      fields = [];
      methods =
          record { name = codes "again"; descriptor = again.descriptor; flags = 265; code = None }
          ∷ record {
            name = codes "run";
            descriptor = record { parameters = []; answer = None };
            flags = 9;
            code = Some (record { max_stack = 1; max_locals = 0; instructions = run });
          }
          ∷ [];
    }

-- domain app heap 64
-- task main domain app prio 1 acts 1 auto yes sched full entry Main.run
-- native Main.again()I ActivateTask main
abbrev pub stored : Application
stored =
    record {
      world = main ∷ [];
      config = record {
        tables = record {
          events = [];
          resources = [];
          counters = [];
          tasks = record {
            name = named (codes "main");
            rule = record { priority = 1; activations = 1; preemptable = true; extended = false };
            auto = true;
            resources = [];
            events = [];
          }
              ∷ [];
          alarms = [];
        };
        heaps = 64 ∷ [];
        tasks = record { domain = 0; entry = codes "Main.run" } ∷ [];
        natives = record { method = codes "Main.again()I"; service = Whole (ActivateTask 0) } ∷ [];
        devices = 0;
      };
      initialisers = [];
      methods = record { class = codes "Main"; name = codes "run"; descriptor = record { parameters = []; answer = None } } ∷ [];
    }

-- over four Runs: the activation passes the limit, and the task ends
abbrev pub StoredEvents : Type 0
StoredEvents =
    trace stored (runs 4) ≡ Service (Task 0) (ActivateTask 0) (pos 4) ∷ Service (Task 0) TerminateTask (pos 0) ∷ []

abbrev pub StoredLines : Type 0
StoredLines = lines stored (runs 4) ≡ codes "main ActivateTask main 4" ∷ codes "main TerminateTask 0" ∷ []
