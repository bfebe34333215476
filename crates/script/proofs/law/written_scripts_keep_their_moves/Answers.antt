use Rattle.script.proofs.Moves.{keeps}
use Rattle.script.proofs.law.written_scripts_keep_their_moves.Goals as goal

pub returns : goal.returns
returns c = keeps
