-- A resource: its ceiling while it is held, and a task that ends while it holds it.
use Rattle.std.specs.Prelude.{◌≡◌, true, false, [], ◌∷◌, ◌++◌, codes}
use Rattle.osek_core.specs.declared.call.Call.TheVariants.{GetResource, ReleaseResource}
use Rattle.osek_core.specs.declared.moves.Move.TheVariants.{Tick}
use Rattle.osek_core.specs.declared.tables.Action.TheVariants.{Activate}
use Rattle.osek_core.specs.Bytecode.World.{Pop, Return}
use Rattle.osek_core.specs.Bytecode.Application.{Application, Whole}
use Rattle.osek_core.specs.Worked.Application.{Bound, calls, task_row, each_tick, application, lines, runs}

abbrev pub get : Bound
get = record { name = codes "get"; takes = 0; service = Whole (GetResource 0) }

abbrev pub release : Bound
release = record { name = codes "release"; takes = 0; service = Whole (ReleaseResource 0) }

-- low gets r1 and releases it, each tick activates m, and high gives r1 its ceiling
abbrev pub ceilings : Application
ceilings =
    application (get ∷ release ∷ [])
    (record { name = codes "low"; row = task_row (codes "low") 1 true (0 ∷ []) []; code = calls get ∷ Pop ∷ calls release ∷ Pop ∷ Return ∷ [] }
    ∷ record { name = codes "m"; row = task_row (codes "m") 4 false [] []; code = Return ∷ [] }
    ∷ record { name = codes "high"; row = task_row (codes "high") 5 false (0 ∷ []) []; code = Return ∷ [] }
    ∷ [])
    (each_tick (codes "al") (Activate 1) ∷ []) (codes "r1" ∷ []) []

-- m waits for the release, and then runs at once
abbrev pub ReleasedGivesWay : Type 0
ReleasedGivesWay =
    lines ceilings (runs 1 ++ Tick 0 ∷ runs 7)
    ≡ codes "low GetResource r1 0" ∷ codes "low ReleaseResource r1 0" ∷ codes "m TerminateTask 0" ∷ codes "low TerminateTask 0" ∷ []

abbrev pub holder : Application
holder =
    application (get ∷ [])
    (record { name = codes "main"; row = task_row (codes "main") 1 true (0 ∷ []) []; code = calls get ∷ Pop ∷ Return ∷ [] } ∷ [])
    [] (codes "r1" ∷ []) []

-- TerminateTask behind the return is refused, then the run fails, and nothing more is shown
abbrev pub HeldAtEndFails : Type 0
HeldAtEndFails =
    lines holder (runs 9) ≡ codes "main GetResource r1 0" ∷ codes "main TerminateTask 6" ∷ codes "main fail HeldAtEnd" ∷ []
