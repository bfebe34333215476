use Rattle.std.proofs.Common.{map, ◌∙◌}
use Rattle.kbind.proofs.Placing.{found, within}
use Rattle.kbind.proofs.places.Index.first.Goals as goal

pub returns-clause-place : goal.returns-clause-place
returns-clause-place c = rw (← c.self.view_is) (c.get.ensures ∙ found (map (λ text. text.now) c.self.inside.texts.items) c.self.inside.places c.args.text.now c.self.invariant)

pub returns-clause-within : goal.returns-clause-within
returns-clause-within c =
    rw (← c.self.view_is) (rw c.get.ensures (within (map (λ text. text.now) c.self.inside.texts.items) c.self.inside.places c.args.text.now c.self.invariant))
