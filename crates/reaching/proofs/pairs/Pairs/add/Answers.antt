-- A pair that is put behind the others.
use Rattle.std.proofs.Common.{map, ap, refl, ◌∙◌, nat_eq, ◌&&◌}
use Rattle.reaching.specs.Order.{pair_of}
use Rattle.reaching.proofs.Adding.{added}
use Rattle.reaching.proofs.pairs.Pairs.add.Goals as goal

pub returns : goal.returns
returns c =
    let pair = c.args.pair in
    rw (← c.self.view_is) (ap (map pair_of) c.in_ok-insert.ensures.keys ∙ added (λ x y. (nat_eq x.0 y.0 && nat_eq x.1 y.1) && nat_eq x.2 y.2) c.self.inside.set.keys (pair.domain, pair.method.class.n, pair.method.n) (λ k. refl))
