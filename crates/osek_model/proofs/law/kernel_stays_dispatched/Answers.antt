use Rattle.osek_model.proofs.Reached.{stays-dispatched}
use Rattle.osek_model.proofs.law.kernel_stays_dispatched.Goals as goal

pub returns : goal.returns
returns c = stays-dispatched
