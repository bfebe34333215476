-- Laws of every run, which the simulation rests on.
use Rattle.std.specs.Prelude.{◌≡◌, ◌≢◌, ℕ, List, All, length}
use Rattle.osek_core.specs.declared.call.Call.{Call}
use Rattle.osek_core.specs.declared.event.Who.{Who}
use Rattle.osek_core.specs.declared.event.Event.TheVariants.{Stuck}
use Rattle.osek_core.specs.declared.moves.Move.{Move}
use Rattle.osek_core.specs.declared.tables.Tables.{Tables}
use Rattle.osek_core.specs.Kernel.State.{Kernel}
use Rattle.osek_core.specs.Kernel.Service.{service}
use Rattle.osek_core.specs.Kernel.Start.{start_kernel}
use Rattle.osek_core.specs.Kernel.Tick.{tick}
use Rattle.osek_core.specs.Bytecode.Application.{Application}
use Rattle.osek_core.specs.Bytecode.Trace.{trace}

-- each step of the bytecode has a meaning
abbrev pub NeverStuck : Type 0
NeverStuck = (app : Application) (moves : List Move) (who : Who) → All (λ event. event ≢ Stuck who) (trace app moves)

pub record Keeps (k after : Kernel) : Type 0 where
  pub suspended : after.suspended ≡ k.suspended
  pub tasks : length after.scheduler.tasks ≡ length k.scheduler.tasks

pub record KernelKeepsTasks : Type 0 where
  pub service : (tables : Tables) (k : Kernel) (call : Call) → Keeps k (service tables k call).kernel
  pub tick : (tables : Tables) (k : Kernel) (counter : ℕ) → Keeps k (tick tables k counter).kernel
  pub start : (tables : Tables) (k : Kernel) → Keeps k (start_kernel tables k)
