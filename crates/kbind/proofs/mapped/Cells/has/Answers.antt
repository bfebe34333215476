use Rattle.std.proofs.Common.{◌∙◌}
use Rattle.kbind.proofs.mapped.Cells.has.Goals as goal

pub returns : goal.returns
returns c = rw (← c.self.view_is) (c.has.ensures ∙ c.self.invariant.pairs c.args.class.now c.args.name.items)
