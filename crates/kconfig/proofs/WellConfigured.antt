-- The tables of a sound configuration are well configured.
use Rattle.std.proofs.Common.{◌≡◌, ◌≢◌, ◌<◌, ◌≤◌, ℕ, Bool, true, false, ◌&&◌, not, eqb, ◌⊎◌, inl, inr, List, [], ◌∷◌, map, length, get_or, Option, Some, None, refl, sym, ap, subst, ◌∙◌, arith, true≢false}
use Rattle.std.specs.Prelude.{All, AllPairs, Contains, slice_get, IfSome, IsTrue, ◌↔◌}
use Rattle.std.specs.List.{enumerate_from, range_with_len, find}
use Rattle.std.proofs.lemmas.Bool.{eqb-true, eq-eqb}
use Rattle.std.proofs.lemmas.List.{length-map}
use Rattle.std.proofs.lemmas.List.Elements.{All-filter, All-head, All-weaker, filter_passes}
use Rattle.std.proofs.lemmas.List.Folds.{Any-from_list_any, list_any-from_Any}
use Rattle.std.proofs.lemmas.List.Kept.{IsStrictlyIncreasing-filter}
use Rattle.osek_core.specs.declared.tables.Action.{Action}
use Rattle.osek_core.specs.declared.tables.Action.TheVariants.{Activate, Set}
use Rattle.osek_core.specs.Tables.Limits.{IsStart, IsCounterRule}
use Rattle.osek_core.specs.Tables.WellConfigured.{Differ, IsTaskOf, IsAlarmOf, IsWellConfigured, IsActionOf}
use Rattle.kconfig.specs.declared.config.Config.{Config}
use Rattle.kconfig.specs.declared.config.NameLine.{NameLine}
use Rattle.kconfig.specs.declared.config.CounterLine.{CounterLine}
use Rattle.kconfig.specs.declared.config.TaskLine.{TaskLine}
use Rattle.kconfig.specs.declared.config.WaitLine.{WaitLine}
use Rattle.kconfig.specs.declared.config.AlarmLine.{AlarmLine}
use Rattle.kconfig.specs.declared.config.StartLine.{StartLine}
use Rattle.kconfig.specs.Tasks.{use_stands, wait_stands}
use Rattle.kconfig.specs.Limits.{IsTaskSmall, IsStartSmall}
use Rattle.kconfig.specs.Sound.{IsSound, IsWaitOf, IsStartOf, rule_of, times_of}
use Rattle.kconfig.specs.Sound.{IsActionOf as IsLineActionOf, IsAlarmOf as IsLineAlarmOf}
use Rattle.kconfig.specs.Tables.{name_of, names_of, counter_row, places_where, is_extended, task_row, task_rows, start_of, alarm_row, alarm_rows, tables_of}
use Rattle.kconfig.proofs.Inversion.{both_true}
use Rattle.kconfig.proofs.Rows.{at_within, all_at, one_element, rows_of_map, rows_mapped, rows_numbered, all_rows, pairs_of_rows, range_rises, range_within, in_range, contains_filtered, found_is}

counted : {X A : Type 0} (row : ℕ × X → A) (xs : List X) → length (map row (enumerate_from 0 xs)) ≡ length xs
counted row xs = (rows_numbered row xs).len

-- a line of a task that waits
record Waits (c : Config) (task : ℕ) : Type 0 where
  line : WaitLine
  of_task : line.task ≡ task
  place : ℕ
  within : place < length c.waits
  there : get_or c.waits place line ≡ line
  is : IsWaitOf c.tasks c.events line

waits_line : (c : Config) (task : ℕ) → IsSound c → is_extended c.waits task ≡ true → Waits c task
waits_line c task s h =
    let found = Any-from_list_any (λ x. eqb x.task task) c.waits h in
    record { line = found.1; of_task = eqb-true _ _ found.4; place = found.0; within = found.2; there = found.3; is = subst (IsWaitOf c.tasks c.events) found.3 (s.each_wait found.0 found.1 found.2) }

-- what a task waits for is an event of its row
event_of : (c : Config) (task event : ℕ) → IsSound c → wait_stands c.waits task event ≡ true
    → Contains (places_where (wait_stands c.waits task) (length c.events)) event × is_extended c.waits task ≡ true
event_of c task event s h =
    let test : WaitLine → Bool = λ x. eqb x.task task && eqb x.event event in
    let found = Any-from_list_any test c.waits h in
    let both = both_true (eqb found.1.task task) (eqb found.1.event event) found.4 in
    let is_wait : IsWaitOf c.tasks c.events found.1 = subst (IsWaitOf c.tasks c.events) found.3 (s.each_wait found.0 found.1 found.2) in
    let same : found.1.event ≡ event = eqb-true _ _ both.1 in
    let within : event < length c.events = rw (← same) is_wait.event in (
      contains_filtered (wait_stands c.waits task) (range_with_len 0 (length c.events)) event (in_range (length c.events) event within) h,
      list_any-from_Any (λ x. eqb x.task task) c.waits (found.0, found.1, found.2, found.3, both.0),
    )

contains_some : {X : Type 0} (xs : List X) (x : X) → Contains xs x → xs ≢ []
contains_some [] x c = absurd (omega (arith, c.1))
contains_some (y ∷ ys) x c = λ e. let f : List _ → ℕ = length in let n : length (y ∷ ys) ≡ 0 = ap f e in absurd (omega (arith, n))

extended_has : (c : Config) (task : ℕ) → IsSound c → is_extended c.waits task ≡ true → places_where (wait_stands c.waits task) (length c.events) ≢ []
extended_has c task s h =
    let w = waits_line c task s h in
    let stands : wait_stands c.waits task w.line.event ≡ true = list_any-from_Any (λ y. eqb y.task task && eqb y.event w.line.event) c.waits
    (w.place, w.line, w.within, w.there, (rw (w.of_task, eq-eqb task task refl) (eq-eqb w.line.event w.line.event refl))) in
    contains_some _ w.line.event (event_of c task w.line.event s stands).0

has_extended : (c : Config) (task : ℕ) → IsSound c → (places : List ℕ) → places ≡ places_where (wait_stands c.waits task) (length c.events) → places ≢ [] → is_extended c.waits task ≡ true
has_extended c task s [] is some = absurd (some refl)
has_extended c task s (event ∷ events) is some =
    let P : ℕ → Type 0 = λ event. wait_stands c.waits task event ≡ true in
    let all : All P (event ∷ events) = subst (λ (events : List ℕ). All P events) (sym is) (filter_passes (wait_stands c.waits task) (range_with_len 0 (length c.events))) in
    (event_of c task event s (All-head P event events all)).1

-- whether there are events tells whether the task waits
pub extended_by : (c : Config) (task : ℕ) (none : Bool) → IsSound c → (IsTrue none ↔ (places_where (wait_stands c.waits task) (length c.events) ≡ [])) → not none ≡ is_extended c.waits task
extended_by c task true s tells = by (is_extended c.waits task) refl where
  by : (is : Bool) → is_extended c.waits task ≡ is → false ≡ is_extended c.waits task
  by true is = absurd (extended_has c task s is (tells.0 refl))
  by false is = sym is
extended_by c task false s tells = sym (has_extended c task s (places_where (wait_stands c.waits task) (length c.events)) refl (λ e. true≢false (sym (tells.1 e))))

-- the times of every start fit 31 bits
pub times_small : (c : Config) → IsSound c → All IsStartSmall c.starts
times_small c s =
    All-weaker (IsStartOf c.counters c.alarms) IsStartSmall
    (λ x is.
    let rule = all_at (λ x. IsCounterRule (rule_of x)) c.counters is.alarm.counter is.counter s.each_counter is.is_counter in
    let most : is.counter.max ≤ 2147483647 = rule.max_at_most in
    let first : x.first ≤ is.counter.max = is.times.at_most in
    record { first = omega (arith, first, most); cycle = cycle_small x.cycle is.counter.min is.counter.max is.times.cycle most }) c.starts s.each_start
  where
    cycle_small : (cycle min max : ℕ) → (cycle ≡ 0) ⊎ ((min ≤ cycle) × (cycle ≤ max)) → max ≤ 2147483647 → cycle ≤ 2147483647
    cycle_small cycle min max (inl none) most = omega (arith, none)
    cycle_small cycle min max (inr both) most = omega (arith, both.1, most)

-- a task that has events has one activation
once : (c : Config) (task : ℕ) (x : TaskLine) → IsSound c → slice_get c.tasks task ≡ Some x → is_extended c.waits task ≡ true → x.acts ≡ 1
once c task x s is h =
    let w = waits_line c task s h in
    let same : w.is.task ≡ x = one_element c.tasks w.line.task task w.is.task x w.is.is_task is w.of_task in
    let most : x.acts ≤ 1 = rw (← same) w.is.once in
    let least : 1 ≤ x.acts = all_at (λ x. 1 ≤ x.acts) c.tasks task x s.each_task is in
    omega (arith, most, least)

task_is : (c : Config) → IsSound c → (task : ℕ) (x : TaskLine) → slice_get c.tasks task ≡ Some x → IsTaskOf (tables_of c) (task_row c task x)
task_is c s task x is =
    let small = all_at IsTaskSmall c.tasks task x s.small.each_task is in
    let resources : length (names_of c.resources) ≡ length c.resources = length-map c.resources (λ (x : NameLine). name_of x.name) in
    let events : length (names_of c.events) ≡ length c.events = length-map c.events (λ (x : NameLine). name_of x.name) in
    record {
      rule = record {
        priority = small.prio;
        at_least_one = all_at (λ x. 1 ≤ x.acts) c.tasks task x s.each_task is;
        at_most = small.acts;
        extended = once c task x s is;
      };
      resources = rw resources (All-filter (use_stands c.uses task) (λ k. k < length c.resources) (range_with_len 0 (length c.resources)) (range_within (length c.resources)));
      resources_rise = IsStrictlyIncreasing-filter (use_stands c.uses task) (range_with_len 0 (length c.resources)) (range_rises (length c.resources));
      events = rw events (All-filter (wait_stands c.waits task) (λ k. k < length c.events) (range_with_len 0 (length c.events)) (range_within (length c.events)));
      events_rise = IsStrictlyIncreasing-filter (wait_stands c.waits task) (range_with_len 0 (length c.events)) (range_rises (length c.events));
      extended = (extended_has c task s, has_extended c task s (places_where (wait_stands c.waits task) (length c.events)) refl);
    }

-- the task of a line that waits is there
waiting_task : (c : Config) (task : ℕ) → IsSound c → is_extended c.waits task ≡ true → (x : TaskLine) × (slice_get c.tasks task ≡ Some x)
waiting_task c task s h =
    let w = waits_line c task s h in
    let at : ℕ → Option TaskLine = slice_get c.tasks in
    (w.is.task, ap at (sym w.of_task) ∙ w.is.is_task)

action_is : (c : Config) → IsSound c → (action : Action) → IsLineActionOf c.tasks c.waits action → IsActionOf (tables_of c) action
action_is c s (Activate task) within = omega (arith, within, counted (λ x. task_row c x.0 x.1) c.tasks)
action_is c s (Set task event) stands =
    let has = event_of c task event s stands in
    let x = waiting_task c task s has.1 in
    (task_row c task x.0, ((rows_numbered (λ x. task_row c x.0 x.1) c.tasks).at task x.0 x.1, has.0))

starts_so : (c : Config) → IsSound c → (alarm : ℕ) (x : AlarmLine) (counter : CounterLine) → slice_get c.alarms alarm ≡ Some x → slice_get c.counters x.counter ≡ Some counter
    → (found : Option StartLine) → find (λ x. eqb x.alarm alarm) c.starts ≡ found → IfSome (start_of c.starts alarm) (IsStart (rule_of counter))
starts_so c s alarm x counter is has None found = rw found tt
starts_so c s alarm x counter is has (Some start) found =
    let both = found_is (IsStartOf c.counters c.alarms) (λ x. eqb x.alarm alarm) c.starts start s.each_start found in
    let line = both.1 in
    let same : line.alarm ≡ x = one_element c.alarms start.alarm alarm line.alarm x line.is_alarm is (eqb-true _ _ both.0) in
    let place : AlarmLine → ℕ = λ x. x.counter in
    let same_counter : line.counter ≡ counter = one_element c.counters line.alarm.counter x.counter line.counter counter line.is_counter has (ap place same) in
    let times : IsStart (rule_of counter) (times_of start) = subst (λ (k : CounterLine). IsStart (rule_of k) (times_of start)) same_counter line.times in
    rw found times

alarm_is : (c : Config) → IsSound c → (alarm : ℕ) (x : AlarmLine) → slice_get c.alarms alarm ≡ Some x → IsAlarmOf (tables_of c) (alarm_row c.starts alarm x)
alarm_is c s alarm x is =
    let line = all_at (IsLineAlarmOf c.counters c.tasks c.waits) c.alarms alarm x s.each_alarm is in
    let counter = at_within c.counters x.counter line.counter in
    record {
      action = action_is c s x.action line.action;
      counter = (counter_row counter.0, ((rows_of_map counter_row c.counters).at x.counter counter.0 counter.1, starts_so c s alarm x counter.0 is counter.1 (find (λ x. eqb x.alarm alarm) c.starts) refl));
    }

named_apart : (lines : List NameLine) → AllPairs (λ a b. a.name ≢ b.name) lines → Differ (names_of lines)
named_apart lines apart =
    pairs_of_rows (λ a b. a.text ≢ b.text) (λ a b. a.name ≢ b.name) (λ i x. name_of x.name) lines (names_of lines) (rows_of_map (λ x. name_of x.name) lines) (λ i j x y differ. differ) apart

pub well_configured : (c : Config) → IsSound c → IsWellConfigured (tables_of c)
well_configured c s =
    let counters = rows_of_map counter_row c.counters in
    let tasks = rows_numbered (λ x. task_row c x.0 x.1) c.tasks in
    let alarms = rows_numbered (λ x. alarm_row c.starts x.0 x.1) c.alarms in
    record {
      small = record {
        events = rw (length-map c.events (λ (x : NameLine). name_of x.name)) s.small.events;
        resources = rw (length-map c.resources (λ (x : NameLine). name_of x.name)) s.small.resources;
        counters = rw counters.len s.small.counters;
        tasks = rw tasks.len s.small.tasks;
        alarms = rw alarms.len s.small.alarms;
      };
      events = named_apart c.events s.events;
      resources = named_apart c.resources s.resources;
      counters = pairs_of_rows (λ a b. a.text ≢ b.text) (λ a b. a.name ≢ b.name) (λ i x. name_of x.name) c.counters _ (rows_mapped (λ i x. counter_row x) (λ row. row.name) c.counters (map counter_row c.counters) counters) (λ i j x y differ. differ) s.counters;
      tasks = pairs_of_rows (λ a b. a.text ≢ b.text) (λ a b. a.name ≢ b.name) (λ i x. name_of x.name) c.tasks _ (rows_mapped (λ i x. task_row c i x) (λ row. row.name) c.tasks (task_rows c) tasks) (λ i j x y differ. differ) s.tasks;
      alarms = pairs_of_rows (λ a b. a.text ≢ b.text) (λ a b. a.name ≢ b.name) (λ i x. name_of x.name) c.alarms _ (rows_mapped (λ i x. alarm_row c.starts i x) (λ row. row.name) c.alarms (alarm_rows c) alarms) (λ i j x y differ. differ) s.alarms;
      each_counter = all_rows (λ row. IsCounterRule row.rule) (λ i x. counter_row x) c.counters (map counter_row c.counters) counters (λ i x is. all_at (λ x. IsCounterRule (rule_of x)) c.counters i x s.each_counter is);
      each_task = all_rows (IsTaskOf (tables_of c)) (λ i x. task_row c i x) c.tasks (task_rows c) tasks (task_is c s);
      each_alarm = all_rows (IsAlarmOf (tables_of c)) (λ i x. alarm_row c.starts i x) c.alarms (alarm_rows c) alarms (alarm_is c s);
    }
