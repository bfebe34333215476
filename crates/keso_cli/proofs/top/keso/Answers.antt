-- A trouble is told of, and the status says what stands.
use Rattle.keso_cli.proofs.Complete.{complete, complete_when_done}
use Rattle.keso_cli.proofs.Troubles.{stands_after}
use Rattle.keso_cli.proofs.top.keso.Goals as goal

pub returns-in-Err-clause-stands : goal.returns-in-Err-clause-stands
returns-in-Err-clause-stands g c = stands_after _ _ _ _ _ c.in-Err.ensures.stop c.report.ensures

pub returns-in-Err-clause-complete : goal.returns-in-Err-clause-complete
returns-in-Err-clause-complete g c = complete _ _ _ _ (stands_after _ _ _ _ _ c.in-Err.ensures.stop c.report.ensures)

pub returns-in-Ok-clause-complete : goal.returns-in-Ok-clause-complete
returns-in-Ok-clause-complete g c = complete_when_done _ _ _
