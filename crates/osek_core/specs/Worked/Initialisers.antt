-- Two initialisers before the kernel's start. The alarm is due at each tick from the start on.
use Rattle.std.specs.Prelude.{◌≡◌, true, [], ◌∷◌, ◌++◌, None, codes}
use Rattle.osek_core.specs.declared.moves.Move.TheVariants.{Tick}
use Rattle.osek_core.specs.declared.tables.Action.TheVariants.{Activate}
use Rattle.osek_core.specs.Bytecode.World.{Return}
use Rattle.osek_core.specs.Bytecode.Application.{Application, Reached}
use Rattle.osek_core.specs.Worked.Application.{task_row, each_tick, application, lines, runs}

abbrev pub initialiser : Reached
initialiser = record { domain = 0; method = record { class = codes "A"; name = codes "x"; descriptor = record { parameters = []; answer = None } } }

abbrev pub initialised : Application
initialised =
    record (application []
    (record { name = codes "x"; row = task_row (codes "x") 1 true [] []; code = Return ∷ [] } ∷ [])
    (each_tick (codes "al") (Activate 0) ∷ []) [] []) { initialisers = initialiser ∷ initialiser ∷ [] }

-- a tick before the start does nothing, and the return of the second initialiser starts the kernel: at the next tick
-- the alarm's activation is lost, since the task has started
abbrev pub InitialisersRunFirst : Type 0
InitialisersRunFirst =
    lines initialised (Tick 0 ∷ runs 1 ++ Tick 0 ∷ runs 1 ++ Tick 0 ∷ runs 2) ≡ codes "lost al" ∷ codes "x TerminateTask 0" ∷ []
