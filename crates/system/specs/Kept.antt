-- What holds of a `System` between calls.
use Rattle.std.specs.Prelude.{◌≡◌, ◌≤◌, false, length}
use Rattle.osek_core.specs.declared.tables.Tables.{Tables}
use Rattle.osek_core.specs.Kernel.Start.{new_kernel}
use Rattle.osek_model.specs.Plan.{plan_of}
use Rattle.system.specs.Value.{PlannedSystem}

pub record IsKept (s : PlannedSystem) : Type 0 where
  -- it was made of some tables
  pub tables : Tables
  pub plan : plan_of tables ≡ s.plan
  pub few : length s.system.kernel.clock.alarms ≤ 64
  -- until its start, nothing happens to the kernel
  pub idle : s.system.started ≡ false → s.system.kernel.shut ≡ false → s.system.kernel ≡ new_kernel tables
