-- How long an actor may go on without a step that weighs: a run advances.
use Rattle.std.specs.Prelude.{ℕ, ◌+◌, ◌*◌, ◌≤◌, max, Bool, true, false, List, [], ◌∷◌, fold, nat_eq, Option, Some, None, if◌then◌else◌}
use Rattle.osek_core.specs.declared.event.Who.{Who}
use Rattle.osek_core.specs.declared.event.Who.TheVariants.{Start, Task}
use Rattle.osek_core.specs.declared.moves.Move.{Move}
use Rattle.osek_core.specs.declared.moves.Move.TheVariants.{Run, Tick, Poke}
use Rattle.osek_core.specs.Kernel.System.{acting}
use Rattle.csubset.specs.Machine.Application.{CApplication}
use Rattle.csubset.specs.Machine.State.{State, actor_of, first_state}
use Rattle.csubset.specs.Machine.Trace.{c_move}
use Rattle.csubset.specs.Image.{weight_of}

-- of the portals' limits, in objects, and the domains' heaps, in bytes, each by its greatest
abbrev pub bound : List ℕ → List ℕ → ℕ
bound limits heaps =
    let limit = fold max 0 limits in
    64 + 64 * limit * (limit + fold max 0 heaps)

abbrev pub same_who : Who → Who → Bool
same_who Start Start = true
same_who (Task a) (Task b) = nat_eq a b
same_who a b = false

-- how many of an actor's last steps have weighed 0 behind a move, by how many had before it
abbrev pub idle_behind : CApplication → State → Who → ℕ → Move → ℕ
idle_behind app s who n Run = of_acting (acting s.shared.system)
  where
    of_acting : Option Who → ℕ
    of_acting None = n
    of_acting (Some other) =
        if same_who who other then (if nat_eq (weight_of app.map (actor_of s who)) 0 then n + 1 else 0) else n
idle_behind app s who n (Tick counter) = n
idle_behind app s who n (Poke at bytes) = n

abbrev pub idle_steps : CApplication → State → Who → ℕ → List Move → ℕ
idle_steps app s who n [] = n
idle_steps app s who n (m ∷ moves) = idle_steps app (c_move app s m).state who (idle_behind app s who n m) moves

-- behind every list of moves, so at every moment of every run, also across the end of a job
abbrev pub AdvancesWithin : CApplication → ℕ → Type 0
AdvancesWithin app steps = (who : Who) (moves : List Move) → idle_steps app (first_state app) who 0 moves ≤ steps
