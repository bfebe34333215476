use Rattle.std.proofs.Common.{◌∙◌}
use Rattle.jworld.proofs.world.World.place_in_file.Goals as goal

pub returns : goal.returns
returns c =
    rw (← c.self.view_is) ((rw (c.as_slice.ensures, c.as_slice-2.ensures) at c.method.ensures) ∙ (c.self.invariant.found c.args.class.n).methods c.args.which c.args.key.now.name c.args.key.now.descriptor)
