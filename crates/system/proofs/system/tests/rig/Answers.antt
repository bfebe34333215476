use Rattle.std.proofs.Common.{sym, subst}
use Rattle.osek_core.specs.Tables.WellConfigured.{IsWellConfigured}
use Rattle.system.proofs.WellMade.{one-task-well}
use Rattle.system.proofs.system.tests.rig.Goals as goal

pub new-requires : goal.new-requires
new-requires c = subst IsWellConfigured (sym c.in_ok-tables.ensures) one-task-well
