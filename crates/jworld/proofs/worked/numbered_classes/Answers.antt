use Rattle.std.proofs.Common.{refl}
use Rattle.jworld.specs.Upwards.{upwards, chain}
use Rattle.jworld.specs.Methods.{selected_method}
use Rattle.jworld.proofs.worked.numbered_classes.Goals as goal

pub returns-clause-named : goal.returns-clause-named
returns-clause-named c = (refl, refl, refl, refl, refl)

pub returns-clause-supers : goal.returns-clause-supers
unfolding upwards chain
returns-clause-supers c = (refl, refl, refl, refl, refl, refl, refl, refl, refl, refl)

pub returns-clause-selected : goal.returns-clause-selected
unfolding upwards chain selected_method
returns-clause-selected c = (refl, refl, refl, refl, refl)
