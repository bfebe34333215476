-- The traces are computed; the test of an if is opened.
use Rattle.std.proofs.Common.{[], refl, ap}
use Rattle.csubset.specs.declared.expression.Atom.TheVariants.{Number}
use Rattle.csubset.specs.Machine.Statement.{defined, jump_if}
use Rattle.csubset.specs.Worked.Jumps.{three_ways}
use Rattle.csubset.proofs.Evaluation.{evaluate-Atom}
use Rattle.csubset.proofs.worked.jumps_hold.Goals as goal

pub returns : goal.returns
returns c = record {
  first_case = refl;
  second_case = refl;
  default = refl;
  zero_goes_on = ap (defined (jump_if (three_ways 0) [] 3)) (evaluate-Atom [] (Number 0));
  other_jumps = ap (defined (jump_if (three_ways 0) [] 3)) (evaluate-Atom [] (Number 2));
}
