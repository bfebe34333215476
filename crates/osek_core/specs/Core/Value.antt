-- The value of a `Core`: the rules of an application, and the scheduler under them.
use Rattle.osek_core.specs.Kernel.Rules.{Rules}
use Rattle.osek_core.specs.Kernel.Scheduler.{Scheduler}

pub record Scheduled : Type 0 where
  pub rules : Rules
  pub scheduler : Scheduler
