use Rattle.std.proofs.Common.{◌∙◌}
use Rattle.kbind.proofs.Keys.{found_text}
use Rattle.kbind.proofs.places.Places.get.Goals as goal

pub returns : goal.returns
returns c = rw (← c.self.view_is) (c.copied.ensures ∙ c.get.ensures.value ∙ found_text c.args.text.now c.self.inside.places.entries)
