-- The place of a pair's numbers among the keys.
use Rattle.std.proofs.Common.{nat_eq, ◌&&◌, refl, ◌∙◌}
use Rattle.reaching.proofs.Adding.{placed}
use Rattle.reaching.proofs.pairs.Pairs.number.Goals as goal

pub returns : goal.returns
returns c =
    let pair = c.args.pair in
    rw (← c.self.view_is) (c.get_index_of.ensures.index ∙ placed (λ k. (nat_eq pair.domain k.0 && nat_eq pair.method.class.n k.1) && nat_eq pair.method.n k.2) (pair.domain, pair.method.class.n, pair.method.n) c.self.inside.set.keys (λ k. refl))
