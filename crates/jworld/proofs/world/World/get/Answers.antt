use Rattle.jworld.proofs.Faultless.{small_where_found}
use Rattle.jworld.proofs.world.World.get.Goals as goal

pub returns-clause-small : goal.returns-clause-small
returns-clause-small c = small_where_found c.self.inside.classes c.args.class.n c.get.result c.self.invariant.faultless c.get.ensures
