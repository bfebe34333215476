use Rattle.std.proofs.Common.{sym, ◌∙◌}
use Rattle.mentions.proofs.Keeping.{looked_up}
use Rattle.mentions.proofs.binding.Bindings.get.Goals as goal

pub returns : goal.returns
returns c = rw (← c.self.view_is) (c.copied.ensures ∙ c.get.ensures.value ∙ looked_up c.args.method c.self.inside.bound.entries)
