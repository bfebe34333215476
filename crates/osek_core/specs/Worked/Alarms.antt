-- An alarm that activates a task whose one activation is outstanding, and the services on it.
use Rattle.std.specs.Prelude.{◌≡◌, pos, true, None, [], ◌∷◌, codes}
use Rattle.osek_core.specs.declared.call.Call.TheVariants.{CancelAlarm, GetAlarm, GetEvent}
use Rattle.osek_core.specs.declared.moves.Move.TheVariants.{Tick}
use Rattle.osek_core.specs.declared.tables.AlarmRow.{AlarmRow}
use Rattle.osek_core.specs.declared.tables.Action.TheVariants.{Activate}
use Rattle.osek_core.specs.Bytecode.World.{Const4, Pop, Return}
use Rattle.osek_core.specs.Bytecode.Application.{Application, Whole, SetRel, SetAbs}
use Rattle.osek_core.specs.Worked.Application.{Bound, calls, task_row, each_tick, application, lines, runs}

abbrev pub cancel : Bound
cancel = record { name = codes "cancel"; takes = 0; service = Whole (CancelAlarm 0) }

abbrev pub set_again : Bound
set_again = record { name = codes "set"; takes = 2; service = SetRel 0 }

abbrev pub alarmed : Application
alarmed =
    application (cancel ∷ set_again ∷ [])
    (record {
      name = codes "x";
      row = task_row (codes "x") 1 true [] [];
      code = calls cancel ∷ Pop ∷ calls cancel ∷ Pop ∷ Const4 (pos 0) ∷ Const4 (pos 0) ∷ calls set_again ∷ Pop ∷ Return ∷ [];
    } ∷ [])
    (each_tick (codes "al") (Activate 0) ∷ []) [] []

-- the activation at the tick is lost
abbrev pub ActivationIsLost : Type 0
ActivationIsLost =
    lines alarmed (Tick 0 ∷ runs 10)
    ≡ codes "lost al" ∷ codes "x CancelAlarm al 0" ∷ codes "x CancelAlarm al 5" ∷ codes "x SetRelAlarm al 0 0 8" ∷ codes "x TerminateTask 0" ∷ []

abbrev pub get : Bound
get = record { name = codes "get"; takes = 0; service = Whole (GetAlarm 0) }

abbrev pub set_at : Bound
set_at = record { name = codes "setAt"; takes = 2; service = SetAbs 0 }

abbrev pub get_events : Bound
get_events = record { name = codes "getEvents"; takes = 0; service = Whole (GetEvent 0) }

abbrev pub idle_alarm : AlarmRow
idle_alarm = record (each_tick (codes "al") (Activate 0)) { start = None }

abbrev pub told : Application
told =
    application (get ∷ set_at ∷ get_events ∷ [])
    (record {
      name = codes "x";
      row = task_row (codes "x") 1 true [] [];
      code = calls get ∷ Pop ∷ Const4 (pos 0) ∷ Const4 (pos 2) ∷ calls set_at ∷ Pop ∷ calls get ∷ Pop ∷ calls get_events ∷ Pop ∷ Return ∷ [];
    } ∷ [])
    (idle_alarm ∷ []) [] []

-- what reads answers the status below 0; at 0 of a counter up to 1000 the value 0 is 1001 ticks away
abbrev pub ReadsTell : Type 0
ReadsTell =
    lines told (runs 12)
    ≡ codes "x GetAlarm al -5" ∷ codes "x SetAbsAlarm al 0 2 0" ∷ codes "x GetAlarm al 1001" ∷ codes "x GetEvent x -1" ∷ codes "x TerminateTask 0" ∷ []
