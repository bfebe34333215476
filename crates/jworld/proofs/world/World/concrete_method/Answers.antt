use Rattle.std.proofs.Common.{◌∙◌}
use Rattle.jworld.proofs.Finding.{declared_concrete}
use Rattle.jworld.proofs.world.World.concrete_method.Goals as goal

pub returns : goal.returns
returns c = c.wanted_method.ensures ∙ declared_concrete c.args.self.now c.args.key.now c.args.class.n
