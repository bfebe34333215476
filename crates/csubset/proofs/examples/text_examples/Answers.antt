-- Each text is computed; a number's digits and a level of an expression are opened on the way.
use Rattle.std.proofs.Common.{refl}
use Rattle.std.specs.Fmt.{digits}
use Rattle.csubset.proofs.ExpressionText.{expression_text-Atom, expression_text-One, expression_text-Two}
use Rattle.csubset.proofs.examples.text_examples.Goals as goal

pub returns : goal.returns
unfolding digits
returns c = record {
  program = simp expression_text-Atom;
  expression = simp (expression_text-Atom, expression_text-One, expression_text-Two);
  switch = refl;
  events = refl;
}
