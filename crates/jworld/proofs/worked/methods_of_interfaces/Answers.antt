use Rattle.std.proofs.Common.{refl}
use Rattle.jworld.specs.Ways.{leads}
use Rattle.jworld.specs.Above.{is_above}
use Rattle.jworld.specs.Upwards.{upwards, chain}
use Rattle.jworld.specs.Methods.{resolved_method}
use Rattle.jworld.proofs.worked.methods_of_interfaces.Goals as goal

pub returns-clause-lower : goal.returns-clause-lower
unfolding is_above leads upwards chain resolved_method
returns-clause-lower c = (refl, refl, refl)

pub returns-clause-concrete : goal.returns-clause-concrete
unfolding is_above leads upwards chain resolved_method
returns-clause-concrete c = (refl, refl, refl)

pub returns-clause-private : goal.returns-clause-private
unfolding is_above leads upwards chain resolved_method
returns-clause-private c = (refl, refl, refl)
