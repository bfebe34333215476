-- Whether a pair's numbers are among the keys.
use Rattle.std.proofs.Common.{nat_eq, ◌&&◌, refl, ◌∙◌}
use Rattle.reaching.proofs.Adding.{any_same}
use Rattle.reaching.proofs.pairs.Pairs.has.Goals as goal

pub returns : goal.returns
returns c =
    let pair = c.args.pair in
    rw (← c.self.view_is) (c.contains.ensures ∙ any_same (λ k. (nat_eq pair.domain k.0 && nat_eq pair.method.class.n k.1) && nat_eq pair.method.n k.2) (pair.domain, pair.method.class.n, pair.method.n) c.self.inside.set.keys (λ k. refl))
