-- Steps that find nobody who acts.
use Rattle.std.specs.Prelude.{◌≡◌, ℕ, Bool, false, nat_eq, [], replicate}
use Rattle.osek_core.specs.declared.moves.Move.{Move}
use Rattle.osek_core.specs.declared.moves.Move.TheVariants.{Run, Tick, Poke}
use Rattle.b_machine.specs.Application.{Application}
use Rattle.b_machine.specs.State.{State}
use Rattle.b_machine.specs.Moves.{Machine}
use Rattle.b_machine.specs.Trace.{move, trace_from}
use Rattle.replay.specs.After.{state_after}

-- a move of this weight was a step, and nobody made it
abbrev pub rests : Move → ℕ → Bool
rests Run weight = nat_eq weight 0
rests (Tick counter) weight = false
rests (Poke at bytes) weight = false

abbrev pub rests_at : Machine → Move → Bool
rests_at m step = rests step (move m.app m.state step).weight

-- then the next steps show and change nothing
pub record IsAtRest (app : Application) (s : State) (n : ℕ) : Type 0 where
  pub shows : trace_from app s (replicate n Run) ≡ []
  pub state : state_after app s (replicate n Run) ≡ s

abbrev pub NobodyActsAgain : Type 0
NobodyActsAgain = (app : Application) (s : State) (n : ℕ) → (move app s Run).weight ≡ 0 → IsAtRest app s n
