-- A task that waits for an event, and another one that sets it.
use Rattle.std.specs.Prelude.{◌≡◌, true, [], ◌∷◌, codes}
use Rattle.osek_core.specs.declared.call.Call.TheVariants.{SetEvent, ClearEvent, WaitEvent}
use Rattle.osek_core.specs.Bytecode.World.{Pop, Return}
use Rattle.osek_core.specs.Bytecode.Application.{Application, Whole}
use Rattle.osek_core.specs.Worked.Application.{Bound, calls, task_row, application, lines, runs}

abbrev pub wait : Bound
wait = record { name = codes "wait"; takes = 0; service = Whole (WaitEvent 1) }

abbrev pub clear : Bound
clear = record { name = codes "clear"; takes = 0; service = Whole (ClearEvent 1) }

abbrev pub give : Bound
give = record { name = codes "give"; takes = 0; service = Whole (SetEvent 0 1) }

abbrev pub waiting : Application
waiting =
    application (wait ∷ clear ∷ give ∷ [])
    (record { name = codes "w"; row = task_row (codes "w") 2 true [] (0 ∷ []); code = calls wait ∷ Pop ∷ calls clear ∷ Pop ∷ Return ∷ [] }
    ∷ record { name = codes "s"; row = task_row (codes "s") 1 true [] []; code = calls give ∷ Pop ∷ Return ∷ [] }
    ∷ [])
    [] [] (codes "go" ∷ [])

-- s runs while w waits, and w again as soon as its event is set
abbrev pub SetEventWakes : Type 0
SetEventWakes =
    lines waiting (runs 10)
    ≡ codes "w WaitEvent go 0" ∷ codes "s SetEvent w go 0" ∷ codes "w ClearEvent go 0" ∷ codes "w TerminateTask 0" ∷ codes "s TerminateTask 0" ∷ []
