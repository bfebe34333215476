-- What a world isn't made for is the fault of one of the files.
use Rattle.jworld.proofs.NamedFile.{names_a_file}
use Rattle.jworld.proofs.world.World.new.Goals as goal

pub returns-clause-file : goal.returns-clause-file
returns-clause-file c = names_a_file c.args.classes.items c.of_classes.result c.of_classes.ensures
