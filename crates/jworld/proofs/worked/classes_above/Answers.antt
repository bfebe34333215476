use Rattle.std.proofs.Common.{refl}
use Rattle.jworld.specs.Ways.{leads}
use Rattle.jworld.specs.Above.{is_above}
use Rattle.jworld.proofs.worked.classes_above.Goals as goal

pub returns-clause-ladder : goal.returns-clause-ladder
unfolding is_above leads
returns-clause-ladder c = (refl, refl, refl, refl, refl, refl, refl, refl, refl, refl)

pub returns-clause-interfaces : goal.returns-clause-interfaces
unfolding is_above leads
returns-clause-interfaces c = refl

pub returns-clause-classes : goal.returns-clause-classes
unfolding is_above leads
returns-clause-classes c = (refl, refl)
