use Rattle.std.proofs.Common.{refl}
use Rattle.run_names.proofs.worked.names_of_small_world.Goals as goal

pub returns-clause-methods : goal.returns-clause-methods
returns-clause-methods c = (refl, refl, refl)
