use Rattle.std.proofs.Common.{◌<◌, ◌≤◌, ℕ, List, None, length, map, All, replicate, sym, ap, ◌∙◌, subst, arith}
use Rattle.std.specs.List.{range_with_len}
use Rattle.std.proofs.lemmas.List.{length-map}
use Rattle.std.proofs.lemmas.List.FromFn.{length-map-range_with_len}
use Rattle.osek_core.specs.declared.tables.CounterRow.{CounterRow}
use Rattle.osek_core.specs.declared.tables.TaskRow.{TaskRow}
use Rattle.osek_core.specs.declared.tables.AlarmRow.{AlarmRow}
use Rattle.osek_core.specs.Kernel.Clock.{Clock, ClockRules}
use Rattle.osek_core.specs.Tables.Limits.{IsTaskRule, IsCounterRule}
use Rattle.osek_core.specs.Kernel.Rules.{Rules, ceiling}
use Rattle.osek_model.proofs.News.{each-rule, each-counter, each-counted, each-ceiling, planned-from}
use Rattle.osek_model.proofs.kernel.Kernel.new.Goals as goal

pub new-requires-clause-resources : goal.new-requires-clause-resources
new-requires-clause-resources c =
    let tables = c.args.tables.now in
    let rules = c.deref.ensures.value ∙ c.in_ok-rules.ensures ∙ ap (map (λ (row : TaskRow). row.rule)) c.as_slice-tasks.ensures in
    let ceilings = c.deref-2.ensures.value ∙ c.in_ok-ceilings.ensures ∙ ap (λ (l : List TaskRow). map (ceiling l) (range_with_len 0 c.len.result)) c.as_slice-tasks.ensures
    ∙ ap (λ n. map (ceiling tables.tasks) (range_with_len 0 n)) c.len.ensures in
    let small = c.requires.small.resources in
    omega (arith, ap length ceilings, length-map-range_with_len (ceiling tables.tasks) 0 (length tables.resources), small)

pub new-requires-clause-rules : goal.new-requires-clause-rules
new-requires-clause-rules c =
    let tables = c.args.tables.now in
    let rules = c.deref.ensures.value ∙ c.in_ok-rules.ensures ∙ ap (map (λ (row : TaskRow). row.rule)) c.as_slice-tasks.ensures in
    let ceilings = c.deref-2.ensures.value ∙ c.in_ok-ceilings.ensures ∙ ap (λ (l : List TaskRow). map (ceiling l) (range_with_len 0 c.len.result)) c.as_slice-tasks.ensures
    ∙ ap (λ n. map (ceiling tables.tasks) (range_with_len 0 n)) c.len.ensures in
    subst (All IsTaskRule) (sym rules) (each-rule tables c.requires)

pub new-requires-clause-priorities : goal.new-requires-clause-priorities
new-requires-clause-priorities c =
    let tables = c.args.tables.now in
    let rules = c.deref.ensures.value ∙ c.in_ok-rules.ensures ∙ ap (map (λ (row : TaskRow). row.rule)) c.as_slice-tasks.ensures in
    let ceilings = c.deref-2.ensures.value ∙ c.in_ok-ceilings.ensures ∙ ap (λ (l : List TaskRow). map (ceiling l) (range_with_len 0 c.len.result)) c.as_slice-tasks.ensures
    ∙ ap (λ n. map (ceiling tables.tasks) (range_with_len 0 n)) c.len.ensures in
    subst (All (λ n. n ≤ 63)) (sym ceilings) (each-ceiling tables (length tables.resources) c.requires)

pub new-requires-2-clause-rules : goal.new-requires-2-clause-rules
new-requires-2-clause-rules c =
    let tables = c.args.tables.now in
    let rules = c.deref.ensures.value ∙ c.in_ok-rules.ensures ∙ ap (map (λ (row : TaskRow). row.rule)) c.as_slice-tasks.ensures in
    let ceilings = c.deref-2.ensures.value ∙ c.in_ok-ceilings.ensures ∙ ap (λ (l : List TaskRow). map (ceiling l) (range_with_len 0 c.len.result)) c.as_slice-tasks.ensures
    ∙ ap (λ n. map (ceiling tables.tasks) (range_with_len 0 n)) c.len.ensures in
    let counters = c.deref-3.ensures.value ∙ c.in_ok-counters.ensures ∙ ap (map (λ (row : CounterRow). row.rule)) c.as_slice.ensures in
    let counted = c.deref-4.ensures.value ∙ c.in_ok-counted.ensures ∙ ap (map (λ (row : AlarmRow). row.counter)) c.as_slice-alarms.ensures in
    subst (All IsCounterRule) (sym counters) (each-counter tables c.requires)

pub new-requires-2-clause-counted : goal.new-requires-2-clause-counted
new-requires-2-clause-counted c =
    let tables = c.args.tables.now in
    let rules = c.deref.ensures.value ∙ c.in_ok-rules.ensures ∙ ap (map (λ (row : TaskRow). row.rule)) c.as_slice-tasks.ensures in
    let ceilings = c.deref-2.ensures.value ∙ c.in_ok-ceilings.ensures ∙ ap (λ (l : List TaskRow). map (ceiling l) (range_with_len 0 c.len.result)) c.as_slice-tasks.ensures
    ∙ ap (λ n. map (ceiling tables.tasks) (range_with_len 0 n)) c.len.ensures in
    let counters = c.deref-3.ensures.value ∙ c.in_ok-counters.ensures ∙ ap (map (λ (row : CounterRow). row.rule)) c.as_slice.ensures in
    let counted = c.deref-4.ensures.value ∙ c.in_ok-counted.ensures ∙ ap (map (λ (row : AlarmRow). row.counter)) c.as_slice-alarms.ensures in
    let long = ap length counters ∙ length-map tables.counters (λ (row : CounterRow). row.rule) in
    subst (λ (l : List ℕ). All (λ n. n < length c.deref-3.result.now) l) (sym counted) (subst (λ m. All (λ n. n < m) (map (λ (row : AlarmRow). row.counter) tables.alarms)) (sym long) (each-counted tables c.requires))

pub invariant_of-result : goal.invariant_of-result
invariant_of-result c =
    let tables = c.args.tables.now in
    let rules = c.deref.ensures.value ∙ c.in_ok-rules.ensures ∙ ap (map (λ (row : TaskRow). row.rule)) c.as_slice-tasks.ensures in
    let ceilings = c.deref-2.ensures.value ∙ c.in_ok-ceilings.ensures ∙ ap (λ (l : List TaskRow). map (ceiling l) (range_with_len 0 c.len.result)) c.as_slice-tasks.ensures
    ∙ ap (λ n. map (ceiling tables.tasks) (range_with_len 0 n)) c.len.ensures in
    let counters = c.deref-3.ensures.value ∙ c.in_ok-counters.ensures ∙ ap (map (λ (row : CounterRow). row.rule)) c.as_slice.ensures in
    let counted = c.deref-4.ensures.value ∙ c.in_ok-counted.ensures ∙ ap (map (λ (row : AlarmRow). row.counter)) c.as_slice-alarms.ensures in
    let core = c.in_ok-new.ensures.rules ∙ ap (λ l. let r : Rules = record { tasks = l; ceilings = c.deref-2.result.now } in r) rules
    ∙ ap (λ (l : List ℕ). let r : Rules = record { tasks = map (λ (row : TaskRow). row.rule) tables.tasks; ceilings = l } in r) ceilings in
    let time = c.in_ok-new-2.ensures.rules ∙ ap (λ l. let r : ClockRules = record { counters = l; alarms = c.deref-4.result.now } in r) counters
    ∙ ap (λ (l : List ℕ). let r : ClockRules = record { counters = map (λ (row : CounterRow). row.rule) tables.counters; alarms = l } in r) counted in
    let idle = c.in_ok-new-2.ensures.idle
    ∙ ap (λ n. let k : Clock = record { counters = replicate n 0; alarms = replicate (length c.deref-4.result.now) None } in k) (ap length counters ∙ length-map tables.counters (λ (row : CounterRow). row.rule))
    ∙ ap (λ n. let k : Clock = record { counters = replicate (length tables.counters) 0; alarms = replicate n None } in k) (ap length counted ∙ length-map tables.alarms (λ (row : AlarmRow). row.counter)) in
    planned-from tables _ _ _ _ _ _ c.requires core time
    (c.in_ok-autos.ensures ∙ ap (map (λ (row : TaskRow). row.auto)) c.as_slice-tasks.ensures)
    (c.in_ok-actions.ensures ∙ ap (map (λ (row : AlarmRow). row.action)) c.as_slice-alarms.ensures)
    (c.in_ok-starts.ensures ∙ ap (map (λ (row : AlarmRow). row.start)) c.as_slice-alarms.ensures) idle
