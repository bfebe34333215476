-- The value of a `Kernel`: what it keeps of the tables, and the kernel's state.
use Rattle.std.specs.Prelude.{ℕ, ℤ, pos, neg_ℤ, Bool, List, Option, Result, Ok, Err}
use Rattle.std.specs.Int.{w32, cast_signed}
use Rattle.osek_core.specs.declared.tables.Action.{Action}
use Rattle.osek_core.specs.declared.tables.Start.{Start}
use Rattle.osek_core.specs.Core.Value.{Scheduled}
use Rattle.osek_time.specs.Value.{Timed}
use Rattle.osek_core.specs.Kernel.State.{Kernel}
use Rattle.osek_model.specs.Plan.{Plan}

pub record Planned : Type 0 where
  pub plan : Plan
  pub kernel : Kernel

abbrev pub planned : Scheduled → Timed → List Bool → List Action → List (Option Start) → Bool → Bool → Planned
planned core time autos actions starts suspended shut =
    record {
      plan = record { rules = core.rules; clock = time.rules; autos = autos; actions = actions; starts = starts };
      kernel = record { scheduler = core.scheduler; clock = time.clock; suspended = suspended; shut = shut };
    }

-- the int that a service which reads answers
abbrev pub read_value : Result ℕ ℕ → ℤ
read_value (Ok value) = cast_signed w32 value
read_value (Err status) = neg_ℤ (pos status)
