use Rattle.std.proofs.Common.{◌∙◌, ap, List, ℕ, filter, slice_get}
use Rattle.jworld.proofs.Declaring.{declares, declaring_among}
use Rattle.jworld.proofs.world.World.first_declaring.Goals as goal

pub loop-n-init : goal.loop-n-init
loop-n-init c =
    ap (λ (ns : List ℕ). slice_get (filter (declares c.args.self.now c.args.key.now) ns) 0) c.superinterfaces-n-items.ensures
    ∙ ap (λ (ns : List ℕ). slice_get ns 0) (declaring_among c.args.self.now c.args.key.now c.args.class.n)
