use Rattle.std.proofs.Common.{◌∙◌}
use Rattle.jworld.proofs.Finding.{declared_any}
use Rattle.jworld.proofs.world.World.declared_method.Goals as goal

pub returns : goal.returns
returns c = c.wanted_method.ensures ∙ declared_any c.args.self.now c.args.key.now c.args.class.n
