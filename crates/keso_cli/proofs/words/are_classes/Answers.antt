-- The classes that are named are as many as the words.
use Rattle.std.proofs.Common.{string_bytes}
use Rattle.keso_cli.proofs.WordLemmas.{few_names}
use Rattle.keso_cli.proofs.words.are_classes.Goals as goal

pub returns-then-words-le-MOST_CLASSES : goal.returns-then-words-le-MOST_CLASSES
returns-then-words-le-MOST_CLASSES c =
    let bounds = c.if-words-le-MOST_CLASSES.true in
    few_names string_bytes c.args.words.now c.are_names.result c.are_names.ensures bounds.0 bounds.1
