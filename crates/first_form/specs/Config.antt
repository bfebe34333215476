-- Configurations of the first form: one domain, one task, one native method bound to ActivateTask of that task, and nothing
-- else.
use Rattle.std.specs.Prelude.{Bool, false, ◌&&◌, List, [], ◌∷◌, Option, Some, None, nat_le, ◌==◌, if◌then◌else◌}
use Rattle.classfile.specs.Pool.{◌>>=◌}
use Rattle.kconfig.specs.declared.config.Config.{Config}
use Rattle.kconfig.specs.declared.config.DomainLine.{DomainLine}
use Rattle.kconfig.specs.declared.config.NativeLine.{NativeLine}
use Rattle.kconfig.specs.declared.config.Service.{Service}
use Rattle.kconfig.specs.declared.config.Service.TheVariants.{ActivateTask}
use Rattle.kconfig.specs.declared.config.TaskLine.{TaskLine}
use Rattle.first_form.specs.declared.config.FirstConfig.{FirstConfig}
use Rattle.first_form.specs.Class.{is_empty}

-- the one element of a list
abbrev pub only : {X : Type 0} → List X → Option X
only (x ∷ []) = Some x
only _ = None

-- no devices, and no line of another kind
abbrev pub has_no_more : Config → Bool
has_no_more c =
    c.devices.line == 0 && is_empty c.counters && is_empty c.events && is_empty c.resources && is_empty c.uses
    && is_empty c.waits && is_empty c.alarms && is_empty c.starts && is_empty c.cells && is_empty c.objects
    && is_empty c.device_methods && is_empty c.portals

-- ActivateTask of the first task
abbrev pub activates_first : Service → Bool
activates_first (ActivateTask task) = task == 0
activates_first _ = false

-- the bounds that a domain's and a task's numbers have
abbrev pub are_bounded : DomainLine → TaskLine → Bool
are_bounded domain task = nat_le domain.heap 8388608 && nat_le task.prio 63 && nat_le 1 task.acts && nat_le task.acts 15

abbrev pub config_with : Bool → DomainLine → TaskLine → NativeLine → FirstConfig
config_with big domain task native = record {
  big = big;
  heap = domain.heap;
  task = task.name;
  priority = task.prio;
  activations = task.acts;
  auto = task.auto;
  full = task.full;
  entry = task.entry;
  method = native.method;
}

-- the configuration of the first form that a configuration is
unfoldable pub config_of : Config → Option FirstConfig
config_of c = do
  domain ← only c.domains
  task ← only c.tasks
  native ← only c.natives
  if has_no_more c && activates_first native.service && are_bounded domain task
      then Some (config_with c.keso.big domain task native)
      else None
