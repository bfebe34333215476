use Rattle.jcode.specs.Instructions.{operands_at}
use Rattle.jcode.proofs.instruction.operands_of.Goals as goal

pub returns-in-Slot : goal.returns-in-Slot
unfolding operands_at
returns-in-Slot c = rw c.in-Slot.is c.local_of.ensures

pub returns-in-Branch : goal.returns-in-Branch
unfolding operands_at
returns-in-Branch c = rw c.in-Branch.is c.branch_of.ensures

pub returns-in-Entry : goal.returns-in-Entry
unfolding operands_at
returns-in-Entry c = rw c.in-Entry.is c.entry_of.ensures
