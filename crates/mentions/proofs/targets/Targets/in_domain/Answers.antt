use Rattle.std.proofs.Common.{◌≡◌, ◌++◌, List, map, sym, ap, ◌∙◌}
use Rattle.jworld.specs.declared.ids.MethodId.{MethodId}
use Rattle.reaching.specs.declared.pair.Pair.{Pair}
use Rattle.mentions.specs.Initialisers.{in_domain}
use Rattle.mentions.proofs.Gathering.{valued}
use Rattle.mentions.proofs.targets.Targets.in_domain.Goals as goal

pub loop-method-init : goal.loop-method-init
loop-method-init c =
    let left : c.into_iter-method-iterator.result ≡ map (λ e. e.1) c.self.inside.methods.entries = c.into_iter-method-iterator.ensures.into_iter_gives ∙ c.values-method-items.ensures.rest in
    rw (← c.self.view_is)
    (ap (λ (pairs : List Pair). pairs ++ map (in_domain c.args.domain) c.into_iter-method-iterator.result) c.new-pairs.ensures
    ∙ ap (map (in_domain c.args.domain)) left ∙ valued c.args.domain c.self.inside.methods.entries)
