use Rattle.type_states.proofs.Reversal.{are_operands_assignable-reverse}
use Rattle.type_states.proofs.states.are_operands_assignable.Goals as goal

pub returns : goal.returns
returns c = rw (← c.stack.ensures, ← c.stack-2.ensures, are_operands_assignable-reverse c.args.world.now c.stack.result.now c.stack-2.result.now) c.are_types_assignable.ensures
