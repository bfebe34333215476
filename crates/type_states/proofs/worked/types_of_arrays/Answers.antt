use Rattle.std.proofs.Common.{refl}
use Rattle.jworld.specs.Upwards.{upwards, chain}
use Rattle.jworld.specs.Subtype.{items_fit}
use Rattle.type_states.specs.Assignable.{typing}
use Rattle.type_states.proofs.worked.types_of_arrays.Goals as goal

pub returns-clause-items : goal.returns-clause-items
unfolding typing items_fit upwards chain
returns-clause-items c = (refl, refl, refl, refl, refl, refl, refl)

pub returns-clause-cloneable : goal.returns-clause-cloneable
unfolding typing items_fit upwards chain
returns-clause-cloneable c = (refl, refl, refl, refl, refl)

pub returns-clause-interfaces : goal.returns-clause-interfaces
unfolding typing items_fit upwards chain
returns-clause-interfaces c = (refl, refl, refl, refl)
