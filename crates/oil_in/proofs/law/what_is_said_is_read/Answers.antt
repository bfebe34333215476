use Rattle.oil_in.proofs.RulesOfAll.{what-is-said}
use Rattle.oil_in.proofs.law.what_is_said_is_read.Goals as goal

pub returns : goal.returns
returns c = what-is-said
