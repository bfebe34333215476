-- A configuration that was read is sound.
use Rattle.std.proofs.Common.{◌≡◌, ◌≢◌, ◌<◌, ◌≤◌, ℕ, zero, suc, ◌+◌, Bool, true, false, true≢false, ◌&&◌, ◌||◌, cond, List, [], ◌∷◌, ◌++◌, length, length-append, get_or, Some, None, Result, Ok, Err, IfOk, nat_lt, refl, sym, subst, ◌∙◌, arith, bytes_eq, codes, eqb, if◌then◌else◌}
use Rattle.std.specs.Prelude.{All, AllPairs, slice_get}
use Rattle.std.specs.List.{position, position_or_len}
use Rattle.std.proofs.lemmas.Bool.{eq-eqb}
use Rattle.std.proofs.lemmas.Bool.Decides.{nat_tests}
use Rattle.std.proofs.lemmas.Slice.Eq.{bytes_eq-Decides}
use Rattle.std.proofs.lemmas.Option.{same_Some, none-some, cond_some}
use Rattle.std.proofs.lemmas.List.Elements.{All-nil, All-cons, All-push, All-append, All-weaker, All-contains}
use Rattle.std.proofs.lemmas.List.Folds.{list_any-append, position_or_len_push}
use Rattle.std.proofs.lemmas.List.Quantifiers.{all_pairs_push}
use Rattle.osek_core.specs.declared.tables.Action.{Action}
use Rattle.osek_core.specs.declared.tables.Action.TheVariants.{Activate, Set}
use Rattle.osek_core.specs.Tables.Limits.{IsCounterRule}
use Rattle.kes_text.specs.declared.refusal.Stop.{Stop}
use Rattle.kconfig.specs.declared.config.Config.{Config}
use Rattle.kconfig.specs.declared.config.NameLine.{NameLine}
use Rattle.kconfig.specs.declared.config.CounterLine.{CounterLine}
use Rattle.kconfig.specs.declared.config.TaskLine.{TaskLine}
use Rattle.kconfig.specs.declared.config.UseLine.{UseLine}
use Rattle.kconfig.specs.declared.config.WaitLine.{WaitLine}
use Rattle.kconfig.specs.declared.config.AlarmLine.{AlarmLine}
use Rattle.kconfig.specs.declared.config.StartLine.{StartLine}
use Rattle.kconfig.specs.declared.config.KesoLine.{KesoLine}
use Rattle.kconfig.specs.declared.config.Line.{Line}
use Rattle.kconfig.specs.declared.config.Line.TheVariants as line
use Rattle.text_words.specs.Said.{◌>>=◌, OrNoMemory}
use Rattle.text_words.specs.TextLines.{words}
use Rattle.kconfig.specs.Config.{Before, first_config, with_line}
use Rattle.kconfig.specs.Names.{named, task_named}
use Rattle.kconfig.specs.Limits.{IsSmall}
use Rattle.kconfig.specs.Devices.{keso_line}
use Rattle.kconfig.specs.Tasks.{wait_stands, wait_line}
use Rattle.kconfig.specs.Reading.{line_by, line_of, config_with, wait_words, waits_of, config_from}
use Rattle.kconfig.specs.Sound.{IsSound, IsUseOf, IsWaitOf, IsAlarmOf, IsActionOf, IsStartOf, rule_of}
use Rattle.kconfig.proofs.Stepping.{not_both, ok_is, next}
use Rattle.kconfig.proofs.Inversion.{bind_ok}
use Rattle.kconfig.proofs.Saying.{CounterSays, counter_ok, NameSays, name_ok, TaskSays, task_ok, use_ok, wait_by, wait_ok, IsActionToBe, AlarmSays, alarm_ok, start_ok}

pub record IsAlarmToBe (text : List (List ℕ × List ℕ)) (counters : List CounterLine) (tasks : List TaskLine) (events : List NameLine) (x : AlarmLine) : Type 0 where
  pub counter : x.counter < length counters
  pub action : IsActionToBe text tasks events x.action

-- the kernel's objects so far, in a text whose `wait` lines have these words
pub record SoFar (text : List (List ℕ × List ℕ)) (counters : List CounterLine) (events : List NameLine) (resources : List NameLine) (tasks : List TaskLine) (uses : List UseLine) (waits : List WaitLine) (alarms : List AlarmLine) (starts : List StartLine) : Type 0 where
  pub counters_apart : AllPairs (λ a b. a.name ≢ b.name) counters
  pub events_apart : AllPairs (λ a b. a.name ≢ b.name) events
  pub resources_apart : AllPairs (λ a b. a.name ≢ b.name) resources
  pub tasks_apart : AllPairs (λ a b. a.name ≢ b.name) tasks
  pub alarms_apart : AllPairs (λ a b. a.name ≢ b.name) alarms
  pub each_counter : All (λ x. IsCounterRule (rule_of x)) counters
  pub each_task : All (λ x. 1 ≤ x.acts) tasks
  pub each_use : All (IsUseOf tasks resources) uses
  pub each_wait : All (IsWaitOf tasks events) waits
  pub each_alarm : All (IsAlarmToBe text counters tasks events) alarms
  pub each_start : All (IsStartOf counters alarms) starts

abbrev SoFarOf : List (List ℕ × List ℕ) → Config → Type 0
SoFarOf text c = SoFar text c.counters c.events c.resources c.tasks c.uses c.waits c.alarms c.starts

-- what stands stays where one more comes behind
stays_at : {X : Type 0} (xs : List X) (y : X) (i : ℕ) (x : X) → slice_get xs i ≡ Some x → slice_get (xs ++ y ∷ []) i ≡ Some x
stays_at [] y i x is = absurd (none-some x is)
stays_at (z ∷ zs) y zero x is = is
stays_at (z ∷ zs) y (suc i) x is = stays_at zs y i x is

place_stays : {X : Type 0} (test : X → Bool) (xs : List X) (y : X) (i : ℕ) → position test xs ≡ Some i → position test (xs ++ y ∷ []) ≡ Some i
place_stays test xs y i is =
    let both = cond_some (nat_lt (position_or_len test xs) (length xs)) (position_or_len test xs) i is in
    let less : position_or_len test xs < length xs = grind (arith, nat_tests, both.0) in
    let other : eqb (position_or_len test xs) (length xs) ≡ false = grind (arith, nat_tests, less) in
    let pushed : position_or_len test (xs ++ y ∷ []) ≡ position_or_len test xs = rw (position_or_len_push test xs y, other) refl in
    let more : length (xs ++ y ∷ []) ≡ length xs + 1 = length-append xs (y ∷ []) in
    let within : nat_lt (position_or_len test xs) (length xs + 1) ≡ true = grind (arith, nat_tests, less) in
    rw (pushed, more, within, both.1) refl

longer : {X : Type 0} (xs : List X) (y : X) (i : ℕ) → i < length xs → i < length (xs ++ y ∷ [])
longer xs y i less = rw (length-append xs (y ∷ [])) (omega (arith, less))

-- a name that no line has
none_by : {X : Type 0} (test : X → Bool) (x : X) (xs : List X) (passes : Bool) → test x ≡ passes → length (x ∷ xs) ≤ position_or_len test (x ∷ xs)
    → (length xs ≤ position_or_len test xs → All (λ x. test x ≡ false) xs) → All (λ x. test x ≡ false) (x ∷ xs)
none_by test x xs true is past others = let first : position_or_len test (x ∷ xs) ≡ 0 = rw is refl in absurd (omega (arith, past, first))
none_by test x xs false is past others =
    let behind : position_or_len test (x ∷ xs) ≡ 1 + position_or_len test xs = rw is refl in
    All-cons (λ x. test x ≡ false) x xs is (others (omega (arith, past, behind)))

none_passes : {X : Type 0} (test : X → Bool) (xs : List X) → length xs ≤ position_or_len test xs → All (λ x. test x ≡ false) xs
none_passes test [] past = All-nil (λ x. test x ≡ false)
none_passes test (x ∷ xs) past = none_by test x xs (test x) refl past (λ past. none_passes test xs past)

past_all : (less : Bool) (place count : ℕ) → nat_lt place count ≡ less → cond less (Some place) None ≡ None → count ≤ place
past_all true place count is none = absurd (none-some place (sym none))
past_all false place count is none = grind (arith, nat_tests, is)

fresh : {X : Type 0} (name : X → List ℕ) (xs : List X) (y : X) → position (λ x. bytes_eq (name x) (name y)) xs ≡ None → (k : ℕ) (d : X) → k < length xs → name (get_or xs k d) ≢ name y
fresh name xs y none = λ k d within same.
    let test : _ → Bool = λ x. bytes_eq (name x) (name y) in
    let past = past_all (nat_lt (position_or_len test xs) (length xs)) (position_or_len test xs) (length xs) refl none in
    let fails : test (get_or xs k d) ≡ false = none_passes test xs past k d within in
    let passes : test (get_or xs k d) ≡ true = (bytes_eq-Decides _ _).1 same in
    grind (arith, fails, passes)

-- one line more of each kind
action_with_task : (text : List (List ℕ × List ℕ)) (tasks : List TaskLine) (events : List NameLine) (y : TaskLine) (action : Action) → IsActionToBe text tasks events action → IsActionToBe text (tasks ++ y ∷ []) events action
action_with_task text tasks events y (Activate task) is = longer tasks y task is
action_with_task text tasks events y (Set task event) is = (is.0, (is.1.0, (place_stays _ tasks y task is.1.1.0, is.1.1.1)))

action_with_event : (text : List (List ℕ × List ℕ)) (tasks : List TaskLine) (events : List NameLine) (y : NameLine) (action : Action) → IsActionToBe text tasks events action → IsActionToBe text tasks (events ++ y ∷ []) action
action_with_event text tasks events y (Activate task) is = is
action_with_event text tasks events y (Set task event) is = (is.0, (is.1.0, (is.1.1.0, place_stays _ events y event is.1.1.1)))

with_counter : (text : List (List ℕ × List ℕ)) (c : Config) (y : CounterLine) → SoFarOf text c → CounterSays c.counters y → SoFarOf text (with_line c (line.Counter y))
with_counter text c y s says = record {
  counters_apart = all_pairs_push (λ a b. a.name ≢ b.name) c.counters y s.counters_apart (fresh (λ x. x.name) c.counters y says.0);
  events_apart = s.events_apart;
  resources_apart = s.resources_apart;
  tasks_apart = s.tasks_apart;
  alarms_apart = s.alarms_apart;
  each_counter = All-push (λ x. IsCounterRule (rule_of x)) c.counters y s.each_counter says.1;
  each_task = s.each_task;
  each_use = s.each_use;
  each_wait = s.each_wait;
  each_alarm = All-weaker (IsAlarmToBe text c.counters c.tasks c.events) (IsAlarmToBe text (c.counters ++ y ∷ []) c.tasks c.events)
      (λ x is. record { counter = longer c.counters y x.counter is.counter; action = is.action }) c.alarms s.each_alarm;
  each_start = All-weaker (IsStartOf c.counters c.alarms) (IsStartOf (c.counters ++ y ∷ []) c.alarms)
      (λ x is. record { alarm = is.alarm; is_alarm = is.is_alarm; counter = is.counter; is_counter = stays_at c.counters y is.alarm.counter is.counter is.is_counter; times = is.times }) c.starts s.each_start;
}

with_event : (text : List (List ℕ × List ℕ)) (c : Config) (y : NameLine) → SoFarOf text c → NameSays c.events y → SoFarOf text (with_line c (line.Event y))
with_event text c y s says = record {
  counters_apart = s.counters_apart;
  events_apart = all_pairs_push (λ a b. a.name ≢ b.name) c.events y s.events_apart (fresh (λ x. x.name) c.events y says);
  resources_apart = s.resources_apart;
  tasks_apart = s.tasks_apart;
  alarms_apart = s.alarms_apart;
  each_counter = s.each_counter;
  each_task = s.each_task;
  each_use = s.each_use;
  each_wait = All-weaker (IsWaitOf c.tasks c.events) (IsWaitOf c.tasks (c.events ++ y ∷ [])) (λ x is. record { task = is.task; is_task = is.is_task; once = is.once; event = longer c.events y x.event is.event }) c.waits s.each_wait;
  each_alarm = All-weaker (IsAlarmToBe text c.counters c.tasks c.events) (IsAlarmToBe text c.counters c.tasks (c.events ++ y ∷ []))
      (λ x is. record { counter = is.counter; action = action_with_event text c.tasks c.events y x.action is.action }) c.alarms s.each_alarm;
  each_start = s.each_start;
}

with_resource : (text : List (List ℕ × List ℕ)) (c : Config) (y : NameLine) → SoFarOf text c → NameSays c.resources y → SoFarOf text (with_line c (line.Resource y))
with_resource text c y s says = record {
  counters_apart = s.counters_apart;
  events_apart = s.events_apart;
  resources_apart = all_pairs_push (λ a b. a.name ≢ b.name) c.resources y s.resources_apart (fresh (λ x. x.name) c.resources y says);
  tasks_apart = s.tasks_apart;
  alarms_apart = s.alarms_apart;
  each_counter = s.each_counter;
  each_task = s.each_task;
  each_use = All-weaker (IsUseOf c.tasks c.resources) (IsUseOf c.tasks (c.resources ++ y ∷ [])) (λ x is. record { task = is.task; resource = longer c.resources y x.resource is.resource }) c.uses s.each_use;
  each_wait = s.each_wait;
  each_alarm = s.each_alarm;
  each_start = s.each_start;
}

with_task : (text : List (List ℕ × List ℕ)) (c : Config) (y : TaskLine) → SoFarOf text c → TaskSays c.tasks y → SoFarOf text (with_line c (line.Task y))
with_task text c y s says = record {
  counters_apart = s.counters_apart;
  events_apart = s.events_apart;
  resources_apart = s.resources_apart;
  tasks_apart = all_pairs_push (λ a b. a.name ≢ b.name) c.tasks y s.tasks_apart (fresh (λ x. x.name) c.tasks y says.0);
  alarms_apart = s.alarms_apart;
  each_counter = s.each_counter;
  each_task = All-push (λ x. 1 ≤ x.acts) c.tasks y s.each_task says.1;
  each_use = All-weaker (IsUseOf c.tasks c.resources) (IsUseOf (c.tasks ++ y ∷ []) c.resources) (λ x is. record { task = longer c.tasks y x.task is.task; resource = is.resource }) c.uses s.each_use;
  each_wait = All-weaker (IsWaitOf c.tasks c.events) (IsWaitOf (c.tasks ++ y ∷ []) c.events)
      (λ x is. record { task = is.task; is_task = stays_at c.tasks y x.task is.task is.is_task; once = is.once; event = is.event }) c.waits s.each_wait;
  each_alarm = All-weaker (IsAlarmToBe text c.counters c.tasks c.events) (IsAlarmToBe text c.counters (c.tasks ++ y ∷ []) c.events)
      (λ x is. record { counter = is.counter; action = action_with_task text c.tasks c.events y x.action is.action }) c.alarms s.each_alarm;
  each_start = s.each_start;
}

with_use : (text : List (List ℕ × List ℕ)) (c : Config) (y : UseLine) → SoFarOf text c → IsUseOf c.tasks c.resources y → SoFarOf text (with_line c (line.Use y))
with_use text c y s says = record {
  counters_apart = s.counters_apart;
  events_apart = s.events_apart;
  resources_apart = s.resources_apart;
  tasks_apart = s.tasks_apart;
  alarms_apart = s.alarms_apart;
  each_counter = s.each_counter;
  each_task = s.each_task;
  each_use = All-push (IsUseOf c.tasks c.resources) c.uses y s.each_use says;
  each_wait = s.each_wait;
  each_alarm = s.each_alarm;
  each_start = s.each_start;
}

with_wait : (text : List (List ℕ × List ℕ)) (c : Config) (y : WaitLine) → SoFarOf text c → IsWaitOf c.tasks c.events y → SoFarOf text (with_line c (line.Wait y))
with_wait text c y s says = record {
  counters_apart = s.counters_apart;
  events_apart = s.events_apart;
  resources_apart = s.resources_apart;
  tasks_apart = s.tasks_apart;
  alarms_apart = s.alarms_apart;
  each_counter = s.each_counter;
  each_task = s.each_task;
  each_use = s.each_use;
  each_wait = All-push (IsWaitOf c.tasks c.events) c.waits y s.each_wait says;
  each_alarm = s.each_alarm;
  each_start = s.each_start;
}

with_alarm : (text : List (List ℕ × List ℕ)) (c : Config) (y : AlarmLine) → SoFarOf text c → AlarmSays (record { config = c; waits = text }) y → SoFarOf text (with_line c (line.Alarm y))
with_alarm text c y s says = record {
  counters_apart = s.counters_apart;
  events_apart = s.events_apart;
  resources_apart = s.resources_apart;
  tasks_apart = s.tasks_apart;
  alarms_apart = all_pairs_push (λ a b. a.name ≢ b.name) c.alarms y s.alarms_apart (fresh (λ x. x.name) c.alarms y says.fresh);
  each_counter = s.each_counter;
  each_task = s.each_task;
  each_use = s.each_use;
  each_wait = s.each_wait;
  each_alarm = All-push (IsAlarmToBe text c.counters c.tasks c.events) c.alarms y s.each_alarm (record { counter = says.counter; action = says.action });
  each_start = All-weaker (IsStartOf c.counters c.alarms) (IsStartOf c.counters (c.alarms ++ y ∷ [])) (λ x is. record { alarm = is.alarm; is_alarm = stays_at c.alarms y x.alarm is.alarm is.is_alarm; counter = is.counter; is_counter = is.is_counter; times = is.times }) c.starts s.each_start;
}

with_start : (text : List (List ℕ × List ℕ)) (c : Config) (y : StartLine) → SoFarOf text c → IsStartOf c.counters c.alarms y → SoFarOf text (with_line c (line.Start y))
with_start text c y s says = record {
  counters_apart = s.counters_apart;
  events_apart = s.events_apart;
  resources_apart = s.resources_apart;
  tasks_apart = s.tasks_apart;
  alarms_apart = s.alarms_apart;
  each_counter = s.each_counter;
  each_task = s.each_task;
  each_use = s.each_use;
  each_wait = s.each_wait;
  each_alarm = s.each_alarm;
  each_start = All-push (IsStartOf c.counters c.alarms) c.starts y s.each_start says;
}

-- a line by its first word
chosen : (P : Line → Type 0) (test : Bool) (here others : Result Line Stop) (x : Line) → (if test then here else others) ≡ Ok x → (here ≡ Ok x → P x) → (others ≡ Ok x → P x) → P x
chosen P true here others x e first second = first e
chosen P false here others x e first second = second e

made : {A : Type 0} (P : Line → Type 0) (f : A → Line) (said : Result A Stop) (x : Line) → (said >>= (λ y. Ok (f y))) ≡ Ok x → ((y : A) → said ≡ Ok y → P (f y)) → P x
made P f said x e each = let y = bind_ok said (λ y. Ok (f y)) x e in subst P (ok_is (f y.0) x y.1.1) (each y.0 y.1.0)

step_by : (text : List (List ℕ × List ℕ)) (c : Config) (n : ℕ) (first : List ℕ) (others : List (List ℕ)) (x : Line) → SoFarOf text c → line_by (record { config = c; waits = text }) n first others ≡ Ok x → SoFarOf text (with_line c x)
unfolding line_by
step_by text c n first others x s e =
    let before : Before = record { config = c; waits = text } in
    let P : Line → Type 0 = λ x. SoFarOf text (with_line c x) in
    chosen P (bytes_eq first (codes "devices")) _ _ x e (λ h. made P line.Devices _ x h (λ y is. s)) (λ e.
    chosen P (bytes_eq first (codes "domain")) _ _ x e (λ h. made P line.Domain _ x h (λ y is. s)) (λ e.
    chosen P (bytes_eq first (codes "counter")) _ _ x e (λ h. made P line.Counter _ x h (λ y is. with_counter text c y s (counter_ok before n others y is))) (λ e.
    chosen P (bytes_eq first (codes "event")) _ _ x e (λ h. made P line.Event _ x h (λ y is. with_event text c y s (name_ok c.events 31 n others y is))) (λ e.
    chosen P (bytes_eq first (codes "resource")) _ _ x e (λ h. made P line.Resource _ x h (λ y is. with_resource text c y s (name_ok c.resources 32 n others y is))) (λ e.
    chosen P (bytes_eq first (codes "task")) _ _ x e (λ h. made P line.Task _ x h (λ y is. with_task text c y s (task_ok before n others y is))) (λ e.
    chosen P (bytes_eq first (codes "use")) _ _ x e (λ h. made P line.Use _ x h (λ y is. with_use text c y s (use_ok before n others y is))) (λ e.
    chosen P (bytes_eq first (codes "wait")) _ _ x e (λ h. made P line.Wait _ x h (λ y is. with_wait text c y s (wait_ok before n others y is))) (λ e.
    chosen P (bytes_eq first (codes "alarm")) _ _ x e (λ h. made P line.Alarm _ x h (λ y is. with_alarm text c y s (alarm_ok before n others y is))) (λ e.
    chosen P (bytes_eq first (codes "start")) _ _ x e (λ h. made P line.Start _ x h (λ y is. with_start text c y s (start_ok before n others y is))) (λ e.
    chosen P (bytes_eq first (codes "native")) _ _ x e (λ h. made P line.Native _ x h (λ y is. s)) (λ e.
    chosen P (bytes_eq first (codes "cell")) _ _ x e (λ h. made P line.Cell _ x h (λ y is. s)) (λ e.
    chosen P (bytes_eq first (codes "object")) _ _ x e (λ h. made P line.Object _ x h (λ y is. s)) (λ e.
    chosen P (bytes_eq first (codes "device")) _ _ x e (λ h. made P line.Device _ x h (λ y is. s)) (λ e.
    chosen P (bytes_eq first (codes "portal")) _ _ x e (λ h. made P line.Portal _ x h (λ y is. s)) (λ e. absurd (not_both x _ (sym e)))))))))))))))))

step : (text : List (List ℕ × List ℕ)) (c : Config) (n : ℕ) (line_words : List (List ℕ)) (x : Line) → SoFarOf text c → line_of (record { config = c; waits = text }) n line_words ≡ Ok x → SoFarOf text (with_line c x)
step text c n [] x s e = absurd (not_both x _ (sym e))
step text c n (first ∷ others) x s e = step_by text c n first others x s e

-- the lines behind one
behind : (text : List (List ℕ × List ℕ)) (c d : Config) (next_line : ℕ × List ℕ) (lines : List (ℕ × List ℕ)) → config_with text c (next_line ∷ lines) ≡ Ok d
    → (x : Line) × ((line_of (record { config = c; waits = text }) next_line.0 (words next_line.1) ≡ Ok x) × (config_with text (with_line c x) lines ≡ Ok d))
behind text c d next_line lines e =
    bind_ok (line_of (record { config = c; waits = text }) next_line.0 (words next_line.1)) (λ x. config_with text (with_line c x) lines) d (sym (next text c next_line lines) ∙ e)

alone : (text : List (List ℕ × List ℕ)) (c d : Config) → config_with text c [] ≡ Ok d → c ≡ d
unfolding config_with
alone text c d e = ok_is c d e

so_far : (text : List (List ℕ × List ℕ)) (c d : Config) (lines : List (ℕ × List ℕ)) → config_with text c lines ≡ Ok d → SoFarOf text c → SoFarOf text d
so_far text c d [] e s = subst (SoFarOf text) (alone text c d e) s
so_far text c d (next_line ∷ lines) e s =
    let more = behind text c d next_line lines e in
    so_far text (with_line c more.0) d lines more.1.1 (step text c next_line.0 (words next_line.1) more.0 s more.1.0)

-- the words of a `wait` line that was read
pub record IsRead (c : Config) (wait : List ℕ × List ℕ) : Type 0 where
  pub task : ℕ
  pub event : ℕ
  pub task_is : task_named c wait.0 ≡ Some task
  pub event_is : named c.events wait.1 ≡ Some event
  pub stands : wait_stands c.waits task event ≡ true

stays_true : (a b : Bool) → a ≡ true → a || b ≡ true
stays_true true b e = refl
stays_true false b e = absurd (true≢false (sym e))

ends_true : (a b : Bool) → b ≡ true → a || (b || false) ≡ true
ends_true true b e = refl
ends_true false true e = refl
ends_true false false e = e

stays_read : (c : Config) (x : Line) (wait : List ℕ × List ℕ) → IsRead c wait → IsRead (with_line c x) wait
stays_read c (line.Devices x) wait r = record { task = r.task; event = r.event; task_is = r.task_is; event_is = r.event_is; stands = r.stands }
stays_read c (line.Domain x) wait r = record { task = r.task; event = r.event; task_is = r.task_is; event_is = r.event_is; stands = r.stands }
stays_read c (line.Counter x) wait r = record { task = r.task; event = r.event; task_is = r.task_is; event_is = r.event_is; stands = r.stands }
stays_read c (line.Event x) wait r = record { task = r.task; event = r.event; task_is = r.task_is; event_is = place_stays _ c.events x r.event r.event_is; stands = r.stands }
stays_read c (line.Resource x) wait r = record { task = r.task; event = r.event; task_is = r.task_is; event_is = r.event_is; stands = r.stands }
stays_read c (line.Task x) wait r = record { task = r.task; event = r.event; task_is = place_stays _ c.tasks x r.task r.task_is; event_is = r.event_is; stands = r.stands }
stays_read c (line.Use x) wait r = record { task = r.task; event = r.event; task_is = r.task_is; event_is = r.event_is; stands = r.stands }
stays_read c (line.Wait x) wait r =
    let test : WaitLine → Bool = λ y. eqb y.task r.task && eqb y.event r.event in
    record { task = r.task; event = r.event; task_is = r.task_is; event_is = r.event_is; stands = rw (list_any-append test c.waits (x ∷ [])) (stays_true _ _ r.stands) }
stays_read c (line.Alarm x) wait r = record { task = r.task; event = r.event; task_is = r.task_is; event_is = r.event_is; stands = r.stands }
stays_read c (line.Start x) wait r = record { task = r.task; event = r.event; task_is = r.task_is; event_is = r.event_is; stands = r.stands }
stays_read c (line.Native x) wait r = record { task = r.task; event = r.event; task_is = r.task_is; event_is = r.event_is; stands = r.stands }
stays_read c (line.Cell x) wait r = record { task = r.task; event = r.event; task_is = r.task_is; event_is = r.event_is; stands = r.stands }
stays_read c (line.Object x) wait r = record { task = r.task; event = r.event; task_is = r.task_is; event_is = r.event_is; stands = r.stands }
stays_read c (line.Device x) wait r = record { task = r.task; event = r.event; task_is = r.task_is; event_is = r.event_is; stands = r.stands }
stays_read c (line.Portal x) wait r = record { task = r.task; event = r.event; task_is = r.task_is; event_is = r.event_is; stands = r.stands }

still_read : (text : List (List ℕ × List ℕ)) (c d : Config) (lines : List (ℕ × List ℕ)) (wait : List ℕ × List ℕ) → config_with text c lines ≡ Ok d → IsRead c wait → IsRead d wait
still_read text c d [] wait e r = let P : Config → Type 0 = λ c. IsRead c wait in subst P (alone text c d e) r
still_read text c d (next_line ∷ lines) wait e r =
    let more = behind text c d next_line lines e in
    still_read text (with_line c more.0) d lines wait more.1.1 (stays_read c more.0 wait r)

read_wait : (text : List (List ℕ × List ℕ)) (c : Config) (n : ℕ) (task event : List ℕ) (x : Line) → line_by (record { config = c; waits = text }) n (codes "wait") (task ∷ event ∷ []) ≡ Ok x → IsRead (with_line c x) (task, event)
unfolding line_by
read_wait text c n task event x e =
    let before : Before = record { config = c; waits = text } in
    let P : Line → Type 0 = λ x. IsRead (with_line c x) (task, event) in
    made P line.Wait (wait_line before n (task ∷ event ∷ [])) x e (λ y is.
    let says = wait_by before n task event y is in
    let test : WaitLine → Bool = λ z. eqb z.task y.task && eqb z.event y.event in
    let passes : test y ≡ true = rw (eq-eqb y.task y.task refl) (eq-eqb y.event y.event refl) in
    record { task = y.task; event = y.event; task_is = says.task_is; event_is = says.event_is; stands = rw (list_any-append test c.waits (y ∷ [])) (ends_true _ (test y) passes) })

read_words : (text : List (List ℕ × List ℕ)) (c : Config) (n : ℕ) (line_words : List (List ℕ)) (x : Line) → line_of (record { config = c; waits = text }) n line_words ≡ Ok x → All (IsRead (with_line c x)) (wait_words line_words)
read_words text c n (first ∷ task ∷ event ∷ []) x e = by (bytes_eq first (codes "wait")) refl where
  by : (is : Bool) → bytes_eq first (codes "wait") ≡ is → All (IsRead (with_line c x)) (wait_words (first ∷ task ∷ event ∷ []))
  by true is =
      let same : first ≡ codes "wait" = (bytes_eq-Decides first (codes "wait")).0 is in
      let P : List ℕ → Type 0 = λ first. line_by (record { config = c; waits = text }) n first (task ∷ event ∷ []) ≡ Ok x in
      rw is (All-cons (IsRead (with_line c x)) (task, event) [] (read_wait text c n task event x (subst P same e)) (All-nil (IsRead (with_line c x))))
  by false is = rw is (All-nil (IsRead (with_line c x)))
read_words text c n _ x e = All-nil (IsRead (with_line c x))

all_read : (text : List (List ℕ × List ℕ)) (c d : Config) (lines : List (ℕ × List ℕ)) → config_with text c lines ≡ Ok d → All (IsRead d) (waits_of lines)
all_read text c d [] e = All-nil (IsRead d)
all_read text c d (next_line ∷ lines) e =
    let more = behind text c d next_line lines e in
    let here : All (IsRead d) (wait_words (words next_line.1)) =
    All-weaker (IsRead (with_line c more.0)) (IsRead d) (λ wait r. still_read text (with_line c more.0) d lines wait more.1.1 r) (wait_words (words next_line.1)) (read_words text c next_line.0 (words next_line.1) more.0 more.1.0) in
    All-append (IsRead d) (wait_words (words next_line.1)) (waits_of lines) here (all_read text (with_line c more.0) d lines more.1.1)

-- every `wait` line of the text was read
acts : (text : List (List ℕ × List ℕ)) (d : Config) → All (IsRead d) text → (action : Action) → IsActionToBe text d.tasks d.events action → IsActionOf d.tasks d.waits action
acts text d all (Activate task) is = is
acts text d all (Set task event) is =
    let read = All-contains (IsRead d) text is.0 all is.1.0 in
    let same_task : task ≡ read.task = same_Some task read.task (sym is.1.1.0 ∙ read.task_is) in
    let same_event : event ≡ read.event = same_Some event read.event (sym is.1.1.1 ∙ read.event_is) in
    rw (same_task, same_event) read.stands

no_pairs : {X : Type 0} (R : X → X → Type 0) → AllPairs R []
no_pairs R = λ i j d less within. absurd (omega (arith, within))

none_yet : (text : List (List ℕ × List ℕ)) (keso : KesoLine) → SoFarOf text (first_config keso)
none_yet text keso = record {
  counters_apart = no_pairs (λ a b. a.name ≢ b.name);
  events_apart = no_pairs (λ a b. a.name ≢ b.name);
  resources_apart = no_pairs (λ a b. a.name ≢ b.name);
  tasks_apart = no_pairs (λ a b. a.name ≢ b.name);
  alarms_apart = no_pairs (λ a b. a.name ≢ b.name);
  each_counter = All-nil (λ x. IsCounterRule (rule_of x));
  each_task = All-nil (λ x. 1 ≤ x.acts);
  each_use = All-nil (IsUseOf [] []);
  each_wait = All-nil (IsWaitOf [] []);
  each_alarm = All-nil (IsAlarmToBe text [] [] []);
  each_start = All-nil (IsStartOf [] []);
}

sound_from : (first : ℕ × List ℕ) (lines : List (ℕ × List ℕ)) (d : Config) → config_from first lines ≡ Ok d → IsSmall d → IsSound d
sound_from first lines d e small =
    let text = waits_of lines in
    let keso = bind_ok (keso_line first.0 (words first.1)) (λ keso. config_with text (first_config keso) lines) d e in
    let s : SoFarOf text d = so_far text (first_config keso.0) d lines keso.1.1 (none_yet text keso.0) in
    let read : All (IsRead d) text = all_read text (first_config keso.0) d lines keso.1.1 in
    record {
      small = small;
      counters = s.counters_apart;
      events = s.events_apart;
      resources = s.resources_apart;
      tasks = s.tasks_apart;
      alarms = s.alarms_apart;
      each_counter = s.each_counter;
      each_task = s.each_task;
      each_use = s.each_use;
      each_wait = s.each_wait;
      each_alarm = All-weaker (IsAlarmToBe text d.counters d.tasks d.events) (IsAlarmOf d.counters d.tasks d.waits) (λ x is. record { counter = is.counter; action = acts text d read x.action is.action }) d.alarms s.each_alarm;
      each_start = s.each_start;
    }

-- what was read is sound
pub sound : (first : ℕ × List ℕ) (lines : List (ℕ × List ℕ)) (r : Result Config Stop) → OrNoMemory r (config_from first lines) → IfOk r IsSmall → IfOk r IsSound
sound first lines (Ok d) says small = sound_from first lines d (sym says) small
sound first lines (Err e) says small = tt
