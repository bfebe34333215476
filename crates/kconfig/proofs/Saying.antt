-- What is known of a line where its words say one, over what is declared before it.
use Rattle.std.proofs.Common.{◌≡◌, ◌<◌, ◌≤◌, ℕ, Bool, true, ◌&&◌, ◌||◌, not, true≢false, List, [], ◌∷◌, ◌⊎◌, inl, inr, length, Option, Some, None, Ok, is_none, nat_lt, nat_le, refl, sym, ap, subst, ◌∙◌, arith, bytes_eq, codes, eqb}
use Rattle.std.specs.Prelude.{Contains, slice_get}
use Rattle.std.specs.List.{position}
use Rattle.std.proofs.lemmas.Bool.{eqb-true}
use Rattle.std.proofs.lemmas.Bool.Decides.{nat_tests}
use Rattle.std.proofs.lemmas.Option.{none-some}
use Rattle.std.proofs.lemmas.List.Folds.{Any-from_list_any}
use Rattle.std.proofs.lemmas.List.Quantifiers.{position-Some}
use Rattle.osek_core.specs.declared.tables.Action.{Action}
use Rattle.osek_core.specs.declared.tables.Action.TheVariants.{Activate, Set}
use Rattle.osek_core.specs.Tables.Limits.{IsCounterRule, IsStart}
use Rattle.kes_text.specs.declared.refusal.Kind.TheVariants as kind
use Rattle.kconfig.specs.declared.config.Config.{Config}
use Rattle.kconfig.specs.declared.config.NameLine.{NameLine}
use Rattle.kconfig.specs.declared.config.CounterLine.{CounterLine}
use Rattle.kconfig.specs.declared.config.TaskLine.{TaskLine}
use Rattle.kconfig.specs.declared.config.UseLine.{UseLine}
use Rattle.kconfig.specs.declared.config.WaitLine.{WaitLine}
use Rattle.kconfig.specs.declared.config.AlarmLine.{AlarmLine}
use Rattle.kconfig.specs.declared.config.StartLine.{StartLine}
use Rattle.text_words.specs.declared.number.Number.{Number}
use Rattle.text_words.specs.Said.{known}
use Rattle.text_words.specs.Numbers.{number_of, within, value, are_both_numbers}
use Rattle.kconfig.specs.Words.{is_name}
use Rattle.kconfig.specs.Config.{Before}
use Rattle.kconfig.specs.Names.{named, counter_named, task_named, alarm_named, domain_named}
use Rattle.kconfig.specs.Devices.{are_counter_words, are_numbers, counter_fits, counter_said, counter_line, name_said, name_line}
use Rattle.kconfig.specs.Tasks.{are_task_words, are_choice_words, task_form, task_fits, task_said, task_choices, task_line, use_stands, use_said, use_line, acts_once, may_wait, wait_stands, wait_said, wait_line}
use Rattle.kconfig.specs.Alarms.{is_waited, alarm_head, alarm_activates, alarm_sets, are_alarm_words, alarm_line, counter_at, start_fits, has_start, are_sized, start_said, are_start_words, start_line}
use Rattle.kconfig.specs.Sound.{IsUseOf, IsWaitOf, IsStartOf, rule_of}
use Rattle.kconfig.proofs.Stepping.{not_both, ok_is}
use Rattle.kconfig.proofs.Inversion.{both_true, either_true, same_bytes, none_there, bind_ok, checked, known_ok, within_is}
use Rattle.kconfig.proofs.Rows.{at_within}

-- the place of a name is below the number of lines
place_within : {X : Type 0} (test : X → Bool) (xs : List X) (i : ℕ) (d : X) → position test xs ≡ Some i → i < length xs
place_within test xs i d is = (position-Some test xs i d is).0

-- a counter
abbrev pub CounterSays : List CounterLine → CounterLine → Type 0
CounterSays counters x = (position (λ y. bytes_eq y.name x.name) counters ≡ None) × IsCounterRule (rule_of x)

counter_by : (before : Before) (n : ℕ) (name : List ℕ) (max base min : Number) (y : CounterLine) → counter_said before n name max base min ≡ Ok y → CounterSays before.config.counters y
unfolding counter_said
counter_by before n name max base min y e =
    let a = checked (is_name name) kind.Syntax n _ y e in
    let b = checked (are_numbers max base min) kind.Syntax n _ y a.1 in
    let c = checked (counter_fits max base min) kind.Range n _ y b.1 in
    let d = checked (nat_lt (length before.config.counters) 8) kind.Room n _ y c.1 in
    let f = checked (is_none (counter_named before.config name)) kind.Twice n _ y d.1 in
    let bounds = both_true (within 1 2147483647 max && within 1 65535 base) (within 1 (value max) min) c.0 in
    let two = both_true (within 1 2147483647 max) (within 1 65535 base) bounds.0 in
    let max_is = within_is 1 2147483647 max two.0 in
    let base_is = within_is 1 65535 base two.1 in
    let min_is = within_is 1 (value max) min bounds.1 in
    subst (CounterSays before.config.counters) (ok_is _ y f.1) (
      none_there (counter_named before.config name) f.0,
      record { max_at_least = max_is.0; max_at_most = max_is.1; base_at_least = base_is.0; base_at_most = base_is.1; min_at_least = min_is.0; min_at_most = min_is.1 },
    )

pub counter_ok : (before : Before) (n : ℕ) (words : List (List ℕ)) (y : CounterLine) → counter_line before n words ≡ Ok y → CounterSays before.config.counters y
counter_ok before n (name ∷ max_word ∷ max ∷ base_word ∷ base ∷ min_word ∷ min ∷ []) y e =
    let a = checked (are_counter_words max_word base_word min_word) kind.Syntax n _ y e in
    counter_by before n name (number_of max) (number_of base) (number_of min) y a.1
counter_ok before n _ y e = absurd (not_both y _ (sym e))

-- an event or a resource
abbrev pub NameSays : List NameLine → NameLine → Type 0
NameSays lines x = position (λ y. bytes_eq y.name x.name) lines ≡ None

name_by : (lines : List NameLine) (most n : ℕ) (name : List ℕ) (y : NameLine) → name_said lines most n name ≡ Ok y → NameSays lines y
unfolding name_said
name_by lines most n name y e =
    let a = checked (is_name name) kind.Syntax n _ y e in
    let b = checked (nat_lt (length lines) most) kind.Room n _ y a.1 in
    let c = checked (is_none (named lines name)) kind.Twice n _ y b.1 in
    subst (NameSays lines) (ok_is _ y c.1) (none_there (named lines name) c.0)

pub name_ok : (lines : List NameLine) (most n : ℕ) (words : List (List ℕ)) (y : NameLine) → name_line lines most n words ≡ Ok y → NameSays lines y
name_ok lines most n (name ∷ []) y e = name_by lines most n name y e
name_ok lines most n _ y e = absurd (not_both y _ (sym e))

-- a task
abbrev pub TaskSays : List TaskLine → TaskLine → Type 0
TaskSays tasks x = (position (λ y. bytes_eq y.name x.name) tasks ≡ None) × (1 ≤ x.acts)

task_by : (before : Before) (n : ℕ) (name domain : List ℕ) (prio acts : Number) (auto sched entry : List ℕ) (y : TaskLine) → task_said before n name domain prio acts auto sched entry ≡ Ok y
    → TaskSays before.config.tasks y
unfolding task_said
task_by before n name domain prio acts auto sched entry y e =
    let a = checked (task_form name prio acts auto sched entry) kind.Syntax n _ y e in
    let b = checked (task_fits prio acts) kind.Range n _ y a.1 in
    let c = checked (nat_lt (length before.config.tasks) 64) kind.Room n _ y b.1 in
    let d = checked (is_none (task_named before.config name)) kind.Twice n _ y c.1 in
    let f = known_ok (domain_named before.config domain) kind.Unknown n _ y d.1 in
    let bounds = both_true (within 0 63 prio) (within 1 15 acts) b.0 in
    subst (TaskSays before.config.tasks) (ok_is _ y f.1.1) (none_there (task_named before.config name) d.0, (within_is 1 15 acts bounds.1).0)

task_choices_ok : (before : Before) (n : ℕ) (name domain : List ℕ) (prio acts : Number) (words : List (List ℕ)) (y : TaskLine) → task_choices before n name domain prio acts words ≡ Ok y
    → TaskSays before.config.tasks y
unfolding task_choices
task_choices_ok before n name domain prio acts (auto_word ∷ auto ∷ sched_word ∷ sched ∷ entry_word ∷ entry ∷ []) y e =
    let a = checked (are_choice_words auto_word sched_word entry_word) kind.Syntax n _ y e in
    task_by before n name domain prio acts auto sched entry y a.1
task_choices_ok before n name domain prio acts _ y e = absurd (not_both y _ (sym e))

pub task_ok : (before : Before) (n : ℕ) (words : List (List ℕ)) (y : TaskLine) → task_line before n words ≡ Ok y → TaskSays before.config.tasks y
task_ok before n (name ∷ domain_word ∷ domain ∷ prio_word ∷ prio ∷ acts_word ∷ acts ∷ others) y e =
    let a = checked (are_task_words domain_word prio_word acts_word) kind.Syntax n _ y e in
    task_choices_ok before n name domain (number_of prio) (number_of acts) others y a.1
task_ok before n _ y e = absurd (not_both y _ (sym e))

-- a task and its resource
use_by : (before : Before) (n : ℕ) (task resource : List ℕ) (y : UseLine) → use_said before n task resource ≡ Ok y → IsUseOf before.config.tasks before.config.resources y
unfolding use_said
use_by before n task resource y e =
    let t = known_ok (task_named before.config task) kind.Unknown n _ y e in
    let r = known_ok (named before.config.resources resource) kind.Unknown n _ y t.1.1 in
    let s = checked (not (use_stands before.config.uses t.0 r.0)) kind.Twice n _ y r.1.1 in
    let P : UseLine → Type 0 = IsUseOf before.config.tasks before.config.resources in
    subst P (ok_is _ y s.1) (record {
      task = place_within _ before.config.tasks t.0 (record { line = 0; name = []; domain = 0; prio = 0; acts = 0; auto = true; full = true; entry = [] }) t.1.0;
      resource = place_within _ before.config.resources r.0 (record { line = 0; name = [] }) r.1.0;
    })

pub use_ok : (before : Before) (n : ℕ) (words : List (List ℕ)) (y : UseLine) → use_line before n words ≡ Ok y → IsUseOf before.config.tasks before.config.resources y
use_ok before n (task ∷ resource ∷ []) y e = use_by before n task resource y e
use_ok before n _ y e = absurd (not_both y _ (sym e))

-- a task and its event
pub record WaitSays (c : Config) (task event : List ℕ) (x : WaitLine) : Type 0 where
  pub is : IsWaitOf c.tasks c.events x
  pub task_is : task_named c task ≡ Some x.task
  pub event_is : named c.events event ≡ Some x.event

one_activation : (found : Option TaskLine) → acts_once found ≡ true → (x : TaskLine) → found ≡ Some x → x.acts ≤ 1
one_activation None once x is = absurd (none-some x is)
one_activation (Some task) once x is =
    let P : Option TaskLine → Type 0 = λ o. acts_once o ≡ true in
    let here : nat_le x.acts 1 ≡ true = subst P is once in
    grind (arith, nat_tests, here)

no_task : TaskLine
no_task = record { line = 0; name = []; domain = 0; prio = 0; acts = 0; auto = true; full = true; entry = [] }

pub wait_by : (before : Before) (n : ℕ) (task event : List ℕ) (y : WaitLine) → wait_said before n task event ≡ Ok y → WaitSays before.config task event y
unfolding wait_said
wait_by before n task event y e =
    let a = checked (may_wait before.config (task_named before.config task)) kind.Range n _ y e in
    let t = known_ok (task_named before.config task) kind.Unknown n _ y a.1 in
    let r = known_ok (named before.config.events event) kind.Unknown n _ y t.1.1 in
    let s = checked (not (wait_stands before.config.waits t.0 r.0)) kind.Twice n _ y r.1.1 in
    let may : Option ℕ → Type 0 = λ place. may_wait before.config place ≡ true in
    let once : acts_once (slice_get before.config.tasks t.0) ≡ true = subst may t.1.0 a.0 in
    let row = at_within before.config.tasks t.0 (place_within _ before.config.tasks t.0 no_task t.1.0) in
    subst (WaitSays before.config task event) (ok_is _ y s.1) (record {
      is = record {
        task = row.0;
        is_task = row.1;
        once = one_activation _ once row.0 row.1;
        event = place_within _ before.config.events r.0 (record { line = 0; name = [] }) r.1.0;
      };
      task_is = t.1.0;
      event_is = r.1.0;
    })

pub wait_ok : (before : Before) (n : ℕ) (words : List (List ℕ)) (y : WaitLine) → wait_line before n words ≡ Ok y → IsWaitOf before.config.tasks before.config.events y
wait_ok before n (task ∷ event ∷ []) y e = (wait_by before n task event y e).is
wait_ok before n _ y e = absurd (not_both y _ (sym e))

-- an alarm may set an event whose `wait` line is still to come
abbrev pub IsActionToBe : List (List ℕ × List ℕ) → List TaskLine → List NameLine → Action → Type 0
IsActionToBe waits tasks events (Activate task) = task < length tasks
IsActionToBe waits tasks events (Set task event) =
    (words : List ℕ × List ℕ) × (Contains waits words × ((position (λ y. bytes_eq y.name words.0) tasks ≡ Some task) × (named events words.1 ≡ Some event)))

pub record AlarmSays (before : Before) (x : AlarmLine) : Type 0 where
  pub fresh : position (λ y. bytes_eq y.name x.name) before.config.alarms ≡ None
  pub counter : x.counter < length before.config.counters
  pub action : IsActionToBe before.waits before.config.tasks before.config.events x.action

no_counter : CounterLine
no_counter = record { line = 0; name = []; max = 0; base = 0; min = 0 }

head_by : (before : Before) (n : ℕ) (name counter : List ℕ) (c : ℕ) → alarm_head before n name counter ≡ Ok c
    → (position (λ y. bytes_eq y.name name) before.config.alarms ≡ None) × (c < length before.config.counters)
unfolding alarm_head
head_by before n name counter c e =
    let a = checked (is_name name) kind.Syntax n _ c e in
    let b = checked (nat_lt (length before.config.alarms) 64) kind.Room n _ c a.1 in
    let d = checked (is_none (alarm_named before.config name)) kind.Twice n _ c b.1 in
    (none_there (alarm_named before.config name) d.0, known_within (counter_named before.config counter) refl d.1)
  where
    known_within : (o : Option ℕ) → counter_named before.config counter ≡ o → known o kind.Unknown n ≡ Ok c → c < length before.config.counters
    known_within (Some k) is e = let P : ℕ → Type 0 = λ k. k < length before.config.counters in subst P (ok_is k c e) (place_within _ before.config.counters k no_counter is)
    known_within None is e = absurd (not_both c _ (sym e))

activates_by : (before : Before) (n : ℕ) (name counter task : List ℕ) (y : AlarmLine) → alarm_activates before n name counter task ≡ Ok y → AlarmSays before y
unfolding alarm_activates
activates_by before n name counter task y e =
    let c = bind_ok (alarm_head before n name counter) _ y e in
    let head = head_by before n name counter c.0 c.1.0 in
    let t = known_ok (task_named before.config task) kind.Unknown n _ y c.1.1 in
    subst (AlarmSays before) (ok_is _ y t.1.1) (record { fresh = head.0; counter = head.1; action = place_within _ before.config.tasks t.0 no_task t.1.0 })

sets_by : (before : Before) (n : ℕ) (name counter task event : List ℕ) (y : AlarmLine) → alarm_sets before n name counter task event ≡ Ok y → AlarmSays before y
unfolding alarm_sets
sets_by before n name counter task event y e =
    let c = bind_ok (alarm_head before n name counter) _ y e in
    let head = head_by before n name counter c.0 c.1.0 in
    let t = known_ok (task_named before.config task) kind.Unknown n _ y c.1.1 in
    let v = known_ok (named before.config.events event) kind.Unknown n _ y t.1.1 in
    let w = checked (is_waited before.waits task event) kind.Unknown n _ y v.1.1 in
    let found = Any-from_list_any (λ (x : List ℕ × List ℕ). bytes_eq x.0 task && bytes_eq x.1 event) before.waits w.0 in
    let both = both_true (bytes_eq found.1.0 task) (bytes_eq found.1.1 event) found.4 in
    let task_at : List ℕ → Option ℕ = task_named before.config in
    let event_at : List ℕ → Option ℕ = named before.config.events in
    subst (AlarmSays before) (ok_is _ y w.1) (record {
      fresh = head.0;
      counter = head.1;
      action = (found.1, ((found.0, found.2, found.3), (ap task_at (same_bytes _ _ both.0) ∙ t.1.0, ap event_at (same_bytes _ _ both.1) ∙ v.1.0)));
    })

pub alarm_ok : (before : Before) (n : ℕ) (words : List (List ℕ)) (y : AlarmLine) → alarm_line before n words ≡ Ok y → AlarmSays before y
alarm_ok before n (name ∷ counter_word ∷ counter ∷ action ∷ task ∷ []) y e =
    let a = checked (are_alarm_words counter_word action (codes "activate")) kind.Syntax n _ y e in
    activates_by before n name counter task y a.1
alarm_ok before n (name ∷ counter_word ∷ counter ∷ action ∷ task ∷ event ∷ []) y e =
    let a = checked (are_alarm_words counter_word action (codes "set")) kind.Syntax n _ y e in
    sets_by before n name counter task event y a.1
alarm_ok before n _ y e = absurd (not_both y _ (sym e))

-- the start of an alarm
no_alarm : AlarmLine
no_alarm = record { line = 0; name = []; counter = 0; action = Activate 0 }

times_by : (counters : List CounterLine) (place : ℕ) (found : Option CounterLine) (first cycle : Number) → slice_get counters place ≡ found → start_fits found first cycle ≡ true
    → (counter : CounterLine) × ((slice_get counters place ≡ Some counter) × IsStart (rule_of counter) (record { first = value first; cycle = value cycle }))
times_by counters place None first cycle is fits = absurd (true≢false (sym fits))
times_by counters place (Some counter) first cycle is fits =
    let both = both_true (within 1 counter.max first) (eqb (value cycle) 0 || within counter.min counter.max cycle) fits in
    let first_is = within_is 1 counter.max first both.0 in
    let C = (value cycle ≡ 0) ⊎ ((counter.min ≤ value cycle) × (value cycle ≤ counter.max)) in
    let cycle_is : C = either_true C (eqb (value cycle) 0) (within counter.min counter.max cycle) both.1 (λ zero. inl (eqb-true _ _ zero)) (λ other. inr (within_is counter.min counter.max cycle other)) in
    (counter, (is, record { at_least = first_is.0; at_most = first_is.1; cycle = cycle_is }))

start_by : (before : Before) (n : ℕ) (alarm : List ℕ) (first cycle : Number) (y : StartLine) → start_said before n alarm first cycle ≡ Ok y → IsStartOf before.config.counters before.config.alarms y
unfolding start_said
start_by before n alarm first cycle y e =
    let a = checked (are_both_numbers first cycle) kind.Syntax n _ y e in
    let b = checked (are_sized first cycle) kind.Range n _ y a.1 in
    let k = known_ok (alarm_named before.config alarm) kind.Unknown n _ y b.1 in
    let fits = checked (start_fits (counter_at before.config (slice_get before.config.alarms k.0)) first cycle) kind.Range n _ y k.1.1 in
    let once = checked (not (has_start before.config.starts k.0)) kind.Twice n _ y fits.1 in
    let row = at_within before.config.alarms k.0 (place_within _ before.config.alarms k.0 no_alarm k.1.0) in
    let P : Option AlarmLine → Type 0 = λ o. start_fits (counter_at before.config o) first cycle ≡ true in
    let times = times_by before.config.counters row.0.counter (slice_get before.config.counters row.0.counter) first cycle refl (subst P row.1 fits.0) in
    subst (IsStartOf before.config.counters before.config.alarms) (ok_is _ y once.1) (record { alarm = row.0; is_alarm = row.1; counter = times.0; is_counter = times.1.0; times = times.1.1 })

pub start_ok : (before : Before) (n : ℕ) (words : List (List ℕ)) (y : StartLine) → start_line before n words ≡ Ok y → IsStartOf before.config.counters before.config.alarms y
start_ok before n (alarm ∷ at_word ∷ first ∷ cycle_word ∷ cycle ∷ []) y e =
    let a = checked (are_start_words at_word cycle_word) kind.Syntax n _ y e in
    start_by before n alarm (number_of first) (number_of cycle) y a.1
start_ok before n _ y e = absurd (not_both y _ (sym e))
