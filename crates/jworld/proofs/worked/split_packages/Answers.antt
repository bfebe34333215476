use Rattle.std.proofs.Common.{refl}
use Rattle.jworld.specs.Ways.{leads}
use Rattle.jworld.specs.Above.{is_above}
use Rattle.jworld.specs.Packages.{package_of}
use Rattle.jworld.proofs.worked.split_packages.Goals as goal

pub returns-clause-packages : goal.returns-clause-packages
unfolding package_of
returns-clause-packages c = (refl, refl, refl)

pub returns-clause-other : goal.returns-clause-other
unfolding is_above leads package_of
returns-clause-other c = (refl, refl, refl)

pub returns-clause-private : goal.returns-clause-private
unfolding is_above leads package_of
returns-clause-private c = (refl, refl, refl)
