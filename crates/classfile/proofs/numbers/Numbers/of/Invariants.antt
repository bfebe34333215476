use Rattle.classfile.proofs.Numbering.{IsTold}
use Rattle.classfile.proofs.numbers.Numbers.of.Given as goal

abbrev pub invariant-loop-entry : goal.invariant-loop-entry
invariant-loop-entry l = IsTold l.entry-items l.numbers.items l.known l.entry-index
