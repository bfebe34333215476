use Rattle.std.proofs.Common.{refl}
use Rattle.jworld.specs.Ways.{leads}
use Rattle.call_graph.specs.ReachedFrom.{is_reached_from}
use Rattle.call_graph.proofs.worked.small_graph.Goals as goal

pub returns-clause-ways : goal.returns-clause-ways
unfolding is_reached_from leads
returns-clause-ways c = (refl, refl, refl, refl, refl, refl)

pub returns-clause-cycles : goal.returns-clause-cycles
unfolding is_reached_from leads
returns-clause-cycles c = (refl, refl, refl, refl, refl, refl)
