use Rattle.std.proofs.Common.{refl}
use Rattle.jworld.specs.Ways.{leads}
use Rattle.jworld.specs.Above.{is_above}
use Rattle.jworld.specs.Subtype.{items_fit, is_subtype}
use Rattle.jworld.proofs.worked.reference_types.Goals as goal

pub returns-clause-classes : goal.returns-clause-classes
unfolding is_above leads items_fit is_subtype
returns-clause-classes c = (refl, refl, refl, refl, refl)

pub returns-clause-arrays : goal.returns-clause-arrays
unfolding is_above leads items_fit is_subtype
returns-clause-arrays c = (refl, refl, refl, refl, refl)

pub returns-clause-deep : goal.returns-clause-deep
unfolding is_above leads items_fit is_subtype
returns-clause-deep c = (refl, refl, refl, refl, refl, refl)
