use Rattle.std.proofs.Common.{◌∙◌, ◌&&◌, sym, ap, ℕ, Bool}
use Rattle.std.specs.List.{list_any}
use Rattle.jworld.specs.Above.{is_above}
use Rattle.jworld.specs.Superinterfaces.{superinterfaces}
use Rattle.jworld.proofs.Ranges.{list_any-filter}
use Rattle.jworld.proofs.Declaring.{declares, declaring_among}
use Rattle.jworld.proofs.world.World.is_declared_below.Goals as goal

pub returns : goal.returns
returns c =
    let below : ℕ → Bool = λ below. is_above c.args.self.now below c.args.above.n in
    let declaring : ℕ → Bool = declares c.args.self.now c.args.key.now in
    c.is_one_declaring_below.ensures ∙ ap (list_any (λ x. declaring x && below x)) c.superinterfaces.ensures
    ∙ sym (list_any-filter below declaring (superinterfaces c.args.self.now c.args.class.n))
    ∙ ap (list_any below) (declaring_among c.args.self.now c.args.key.now c.args.class.n)
