use Rattle.call_graph.proofs.Meaning.{reached_is_meant}
use Rattle.call_graph.proofs.law.reached_numbers_are_meant.Goals as goal

pub returns : goal.returns
returns c = reached_is_meant
