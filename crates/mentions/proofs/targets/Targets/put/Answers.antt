use Rattle.std.proofs.Common.{ap, ◌∙◌}
use Rattle.mentions.proofs.Gathering.{view, put_kept}
use Rattle.mentions.proofs.targets.Targets.put.Goals as goal

pub returns : goal.returns
returns c = rw (← c.self.view_is) (ap view c.in_ok-insert.ensures.entries ∙ put_kept c.self.inside.methods.entries c.args.name c.args.method)
