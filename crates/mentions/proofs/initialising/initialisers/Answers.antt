use Rattle.std.proofs.Common.{List, map, reverse, ap, ◌∙◌}
use Rattle.jworld.specs.declared.ids.MethodId.{MethodId}
use Rattle.jworld.specs.Upwards.{upwards}
use Rattle.mentions.specs.Initialisers.{in_domain}
use Rattle.mentions.proofs.ByClass.{by_class}
use Rattle.mentions.proofs.initialising.initialisers.Goals as goal

pub returns : goal.returns
returns c =
    let domain = in_domain c.args.domain in
    let found = c.as_slice.ensures.value ∙ c.in_ok-found.ensures ∙ by_class c.args.world.now c.args.all.now c.requires (upwards c.args.world.now c.args.class.n) in
    rw found at c.pairs_of.ensures
