use Rattle.std.proofs.Common.{◌∙◌}
use Rattle.jworld.proofs.Placing.{seen}
use Rattle.jworld.proofs.keyed.Places.get.Goals as goal

pub returns : goal.returns
returns c = rw (← c.self.view_is) (c.copied.ensures ∙ c.get.ensures.value ∙ seen c.args.text.now c.self.inside.places.entries)
