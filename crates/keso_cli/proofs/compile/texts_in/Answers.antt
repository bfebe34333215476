-- The texts are those of what was built, if the input says something in the first form.
use Rattle.std.proofs.Common.{sym, ap, subst, ◌∙◌}
use Rattle.std.specs.Option.{option_map}
use Rattle.first_form.specs.Said.{said}
use Rattle.keso_cli.specs.Due.{AreTextsOf}
use Rattle.keso_cli.proofs.compile.texts_in.Goals as goal

pub returns-in_default : goal.returns-in_default
returns-in_default c = sym c.in_ok-first.ensures ∙ ap (option_map said) c.in_default.is

pub returns : goal.returns
returns c = (
  c.in-Some.first.config,
  c.in-Some.first.class,
  sym c.in_ok-first.ensures ∙ ap (option_map said) c.in-Some.is,
  subst (λ built. AreTextsOf built c.in_ok-texts_of.field-0) c.in_ok-built.ensures c.in_ok-texts_of.ensures,
)
