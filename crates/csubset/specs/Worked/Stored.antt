-- The stored example: a task whose function activates the task itself once more, drops the status and returns.
use Rattle.std.specs.Prelude.{◌≡◌, pos, false, [], ◌∷◌, codes}
use Rattle.osek_core.specs.declared.call.Call.TheVariants.{ActivateTask, TerminateTask}
use Rattle.osek_core.specs.declared.event.Who.TheVariants.{Task}
use Rattle.osek_core.specs.declared.event.Event.TheVariants.{Service}
use Rattle.osek_core.specs.Bytecode.Trace.{trace}
use Rattle.osek_core.specs.Worked.Application.{runs}
use Rattle.osek_core.specs.Worked.Stored.{stored}
use Rattle.csubset.specs.declared.map.Map.{Map}
use Rattle.csubset.specs.declared.map.RegionRow.TheVariants.{Heap}
use Rattle.csubset.specs.declared.map.FunctionKind.TheVariants.{Method}
use Rattle.csubset.specs.Text.Examples.{again_program}
use Rattle.csubset.specs.Machine.Trace.{c_trace}
use Rattle.csubset.specs.Image.{image}

abbrev pub again_map : Map
again_map = record {
  big = false;
  devices = 0;
  domains = 1;
  methods = codes "Main.run()V" ∷ [];
  regions = Heap 0 ∷ [];
  functions = record { domain = 0; kind = Method 0; weights = 1 ∷ 1 ∷ 1 ∷ [] } ∷ [];
  fails = [];
}

-- four Runs show the activation past the limit and the task's end, and stand for four Runs of the bytecode, which shows
-- the same
pub record StoredHolds : Type 0 where
  pub events : c_trace again_program stored.config.tables again_map (runs 4)
      ≡ Service (Task 0) (ActivateTask 0) (pos 4) ∷ Service (Task 0) TerminateTask (pos 0) ∷ []
  pub stands_for : image again_program stored.config.tables again_map (runs 4) ≡ runs 4
  pub same : c_trace again_program stored.config.tables again_map (runs 4)
      ≡ trace stored (image again_program stored.config.tables again_map (runs 4))
