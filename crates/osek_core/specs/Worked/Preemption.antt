-- Two tasks of one priority, and a third of a higher one that each tick activates. All entries only return.
use Rattle.std.specs.Prelude.{◌≡◌, true, false, [], ◌∷◌, ◌++◌, codes}
use Rattle.osek_core.specs.declared.moves.Move.TheVariants.{Tick}
use Rattle.osek_core.specs.declared.tables.Action.TheVariants.{Activate}
use Rattle.osek_core.specs.Bytecode.World.{Return}
use Rattle.osek_core.specs.Bytecode.Application.{Application}
use Rattle.osek_core.specs.Worked.Application.{task_row, each_tick, application, lines, runs}

abbrev pub preemption : Application
preemption =
    application []
    (record { name = codes "a"; row = task_row (codes "a") 1 true [] []; code = Return ∷ [] }
    ∷ record { name = codes "b"; row = task_row (codes "b") 1 true [] []; code = Return ∷ [] }
    ∷ record { name = codes "h"; row = task_row (codes "h") 2 false [] []; code = Return ∷ [] }
    ∷ [])
    (each_tick (codes "al") (Activate 2) ∷ []) [] []

-- the preempted job goes on before the other one of its priority
abbrev pub PreemptedStaysFirst : Type 0
PreemptedStaysFirst =
    lines preemption (runs 1 ++ Tick 0 ∷ runs 6)
    ≡ codes "h TerminateTask 0" ∷ codes "a TerminateTask 0" ∷ codes "b TerminateTask 0" ∷ []
