use Rattle.kbind.proofs.Each.{each_of}
use Rattle.kbind.proofs.binding.bind.Goals as goal

pub returns-clause-each : goal.returns-clause-each
returns-clause-each c = each_of c.args.world.now c.args.config _ c.bind_lines.ensures
