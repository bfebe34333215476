use Rattle.std.proofs.Common.{refl, sym, ap, ◌∙◌, map, nat_eq, ◌&&◌}
use Rattle.mentions.specs.Bindings.{entry_of, bound_as}
use Rattle.mentions.proofs.Keeping.{added, nothing}
use Rattle.mentions.proofs.binding.Bindings.add.Goals as goal

pub returns-in_ok-insert : goal.returns-in_ok-insert
returns-in_ok-insert c =
    let id = c.args.method in
    let none = rw (← c.self.view_is) at (sym c.get.ensures ∙ c.in-None.is) in
    rw (← c.self.view_is) (ap (map entry_of) c.in_ok-insert.ensures.entries ∙ added id c.args.binding (λ x y. nat_eq x.0 y.0 && nat_eq x.1 y.1) c.self.inside.bound.entries (λ k. refl) none)
