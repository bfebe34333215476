use Rattle.kconfig.proofs.Ceilings.{ceilings}
use Rattle.kconfig.proofs.WellConfigured.{well_configured}
use Rattle.kconfig.proofs.kernel_tables.tables.Goals as goal

pub returns-clause-well : goal.returns-clause-well
returns-clause-well c =
    rw (c.in_ok-names_of.ensures, c.in_ok-names_of-2.ensures, c.in_ok-counter_rows.ensures, c.in_ok-task_rows.ensures, c.in_ok-alarm_rows.ensures, c.as_slice.ensures, c.as_slice-2.ensures, c.as_slice-3.ensures) (well_configured c.args.config.now c.requires)

pub returns-clause-ceilings : goal.returns-clause-ceilings
returns-clause-ceilings c = λ resource. rw c.in_ok-task_rows.ensures (ceilings c.args.config.now c.requires resource)
