-- A task with `SCHEDULE = NON`: it goes on when it activates one of a higher priority, until it gives way.
use Rattle.std.specs.Prelude.{◌≡◌, true, false, [], ◌∷◌, codes}
use Rattle.osek_core.specs.declared.call.Call.TheVariants.{ActivateTask, ChainTask, Schedule}
use Rattle.osek_core.specs.declared.tables.TaskRow.{TaskRow}
use Rattle.osek_core.specs.Bytecode.World.{Pop, Return}
use Rattle.osek_core.specs.Bytecode.Application.{Application, Whole}
use Rattle.osek_core.specs.Worked.Application.{Bound, calls, task_row, application, lines, runs}

abbrev pub raise : Bound
raise = record { name = codes "raise"; takes = 0; service = Whole (ActivateTask 1) }

abbrev pub give_way : Bound
give_way = record { name = codes "giveWay"; takes = 0; service = Whole Schedule }

abbrev pub chain : Bound
chain = record { name = codes "chain"; takes = 0; service = Whole (ChainTask 2) }

abbrev pub not_preempted : TaskRow → TaskRow
not_preempted row = record row { rule = record row.rule { preemptable = false } }

abbrev pub scheduling : Application
scheduling =
    application (raise ∷ give_way ∷ chain ∷ [])
    (record {
      name = codes "n";
      row = not_preempted (task_row (codes "n") 1 true [] []);
      code = calls raise ∷ Pop ∷ calls give_way ∷ Pop ∷ calls chain ∷ Pop ∷ Return ∷ [];
    }
    ∷ record { name = codes "h"; row = task_row (codes "h") 2 false [] []; code = Return ∷ [] }
    ∷ record { name = codes "b"; row = task_row (codes "b") 1 false [] []; code = Return ∷ [] }
    ∷ [])
    [] [] []

-- h runs at Schedule, and a job that is chained leaves nothing of its caller's
abbrev pub ScheduleGivesWay : Type 0
ScheduleGivesWay =
    lines scheduling (runs 10)
    ≡ codes "n ActivateTask h 0" ∷ codes "n Schedule 0" ∷ codes "h TerminateTask 0" ∷ codes "n ChainTask b 0" ∷ codes "b TerminateTask 0" ∷ []
