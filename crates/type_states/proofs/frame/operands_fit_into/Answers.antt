use Rattle.type_states.proofs.Reversal.{places-reverse}
use Rattle.type_states.proofs.frame.operands_fit_into.Goals as goal

pub returns : goal.returns
returns c = rw (← c.stack.ensures, places-reverse c.stack.result.now) c.fit_into.ensures
