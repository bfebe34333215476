use Rattle.jcode.proofs.instruction.wide_operands_of.Goals as goal

pub returns-in-Slot : goal.returns-in-Slot
returns-in-Slot c = rw c.in-Slot.is c.wide_local_of.ensures
