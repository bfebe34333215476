use Rattle.std.specs.Prelude.{◌≢◌}
use Rattle.std.proofs.lemmas.List.Elements.{All-weaker}
use Rattle.osek_core.specs.declared.event.Event.TheVariants.{Stuck}
use Rattle.osek_core.specs.Bytecode.State.{first_state}
use Rattle.osek_core.specs.Bytecode.Trace.{trace}
use Rattle.simulation.proofs.NeverStuck.{NotStuck, trace_shows, not_stuck}
use Rattle.simulation.proofs.laws.bytecode_is_never_stuck.Goals as goal

pub returns : goal.returns
returns c app moves who =
    All-weaker NotStuck (λ event. event ≢ Stuck who) (not_stuck who) (trace app moves) (trace_shows app (first_state app) moves)
