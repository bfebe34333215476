use Rattle.std.proofs.Common.{sym, ◌∙◌}
use Rattle.kconfig.proofs.Among.{any_of_map}
use Rattle.kbind.specs.Pairs.{is_pair}
use Rattle.kbind.proofs.Keys.{Key}
use Rattle.kbind.proofs.pairs.Pairs.has.Goals as goal

pub returns : goal.returns
returns c =
    rw (← c.self.view_is) (c.contains.ensures ∙ sym (any_of_map (is_pair c.args.first.now c.args.second.items) (λ (k : Key). (k.0.now, k.1.items)) c.self.inside.set.keys))
