use Rattle.std.proofs.Common.{◌≡◌, ◌∙◌, sym, ap, List, ℕ, [], Option, None, unwrap_or, slice_get}
use Rattle.std.specs.Option.{option_copied}
use Rattle.std.proofs.lemmas.Option.{unwrap_or-slice_get}
use Rattle.jworld.proofs.world.World.superinterfaces.Goals as goal

pub returns-in-None : goal.returns-in-None
returns-in-None c =
    let none : slice_get c.self.inside.superinterfaces c.args.class.n ≡ None = sym c.get.ensures.value ∙ ap option_copied c.in-None.is in
    rw (← c.self.view_is)
    (sym (ap (λ (o : Option (List ℕ)). unwrap_or o []) none) ∙ unwrap_or-slice_get c.self.inside.superinterfaces c.args.class.n [] ∙ c.self.invariant.superinterfaces c.args.class.n)
