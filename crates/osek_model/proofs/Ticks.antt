-- A tick, as the plan tells it, is the tick of the tables.
use Rattle.std.proofs.Common.{◌≡◌, ℕ, List, [], ◌∷◌, ◌++◌, map, length, Option, Some, None, option_map, refl, sym, ap, ◌∙◌, subst, slice_get}
use Rattle.std.specs.List.{range_with_len}
use Rattle.std.proofs.lemmas.Option.{slice_get-map}
use Rattle.std.proofs.lemmas.List.{length-map}
use Rattle.std.proofs.lemmas.List.FromFn.{length-range_with_len}
use Rattle.osek_core.specs.declared.tables.Tables.{Tables}
use Rattle.osek_core.specs.declared.tables.AlarmRow.{AlarmRow}
use Rattle.osek_core.specs.declared.tables.Action.{Action}
use Rattle.osek_core.specs.Kernel.Rules.{Rules, rules_of}
use Rattle.osek_core.specs.Kernel.Scheduler.{Scheduler}
use Rattle.osek_core.specs.Kernel.Status.{Answered}
use Rattle.osek_core.specs.Kernel.Clock.{Clock, ClockRules, due, advance, clock_rules_of}
use Rattle.osek_core.specs.Kernel.Dispatch.{dispatch}
use Rattle.osek_core.specs.Kernel.State.{Kernel}
use Rattle.osek_core.specs.Kernel.Tick.{Acted, act_all, act_row, tick}
use Rattle.osek_time.specs.Value.{alarm_set}
use Rattle.osek_model.specs.Plan.{Plan, plan_of, IsPlanned}
use Rattle.osek_model.specs.Acting.{act_action, act_list, lost_of}

row-same : (rules : Rules) (s : Scheduler) (row : Option AlarmRow) → act_row rules s row ≡ act_action rules s (option_map (λ r. r.action) row)
row-same rules s None = refl
row-same rules s (Some row) = refl

pub act-same : (tables : Tables) (s : Scheduler) (alarms : List ℕ) → act_all tables s alarms ≡ act_list (rules_of tables) (map (λ row. row.action) tables.alarms) s alarms
act-same tables s [] = refl
act-same tables s (alarm ∷ later) =
    let rules = rules_of tables in
    let actions : List Action = map (λ (row : AlarmRow). row.action) tables.alarms in
    let now = act_action rules s (slice_get actions alarm) in
    let same : act_row rules s (slice_get tables.alarms alarm) ≡ now = row-same rules s (slice_get tables.alarms alarm) ∙ ap (act_action rules s) (sym (slice_get-map (λ (row : AlarmRow). row.action) tables.alarms alarm)) in
    ap (λ (f : Answered Scheduler). let a : Acted = record { scheduler = (act_all tables f.state later).scheduler; lost = lost_of f alarm ++ (act_all tables f.state later).lost } in a) same
    ∙ ap (λ (rest : Acted). let a : Acted = record { scheduler = rest.scheduler; lost = lost_of now alarm ++ rest.lost } in a) (act-same tables now.state later)

pub tick-lost : (tables : Tables) (p : Plan) (k : Kernel) (counter : ℕ) → plan_of tables ≡ p →
    alarm_set (act_list p.rules p.actions k.scheduler (due p.clock k.clock counter)).lost ≡ alarm_set (tick tables k counter).lost
tick-lost tables p k counter e =
    subst (λ (q : Plan). alarm_set (act_list q.rules q.actions k.scheduler (due q.clock k.clock counter)).lost ≡ alarm_set (tick tables k counter).lost) e
    (ap (λ (a : Acted). alarm_set a.lost) (sym (act-same tables k.scheduler (due (clock_rules_of tables) k.clock counter))))

pub tick-state : (tables : Tables) (p : Plan) (k : Kernel) (counter : ℕ) → plan_of tables ≡ p →
    record k { scheduler = dispatch p.rules (act_list p.rules p.actions k.scheduler (due p.clock k.clock counter)).scheduler; clock = advance p.clock k.clock counter } ≡ (tick tables k counter).kernel
tick-state tables p k counter e =
    subst (λ (q : Plan). record k { scheduler = dispatch q.rules (act_list q.rules q.actions k.scheduler (due q.clock k.clock counter)).scheduler; clock = advance q.clock k.clock counter } ≡ (tick tables k counter).kernel) e
    (ap (λ (a : Acted). record k { scheduler = dispatch (rules_of tables) a.scheduler; clock = advance (clock_rules_of tables) k.clock counter }) (sym (act-same tables k.scheduler (due (clock_rules_of tables) k.clock counter))))

-- the plan holds of a clock with as many alarms
pub planned-clock : (p : Plan) (k k' : Clock) → IsPlanned p k → length k'.alarms ≡ length k.alarms → IsPlanned p k'
planned-clock p k k' i e =
    record { lawful = i.lawful; autos = i.autos; actions = i.actions; starts = i.starts; few = i.few; small = i.small; acts = i.acts; started = i.started; alarms = e ∙ i.alarms }

pub advance-length : (rules : ClockRules) (k : Clock) (counter : ℕ) → length (advance rules k counter).alarms ≡ length k.alarms
advance-length rules k counter = length-map (range_with_len 0 (length k.alarms)) _ ∙ length-range_with_len 0 (length k.alarms)
