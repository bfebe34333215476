-- The small application is well configured.
use Rattle.std.proofs.Common.{◌≢◌, true≢false, [], ◌∷◌, inr, refl, sym, arith}
use Rattle.std.specs.Prelude.{AllPairs}
use Rattle.std.proofs.lemmas.List.Elements.{All-nil, All-cons}
use Rattle.osek_core.specs.declared.tables.CounterRow.{CounterRow}
use Rattle.osek_core.specs.Tables.Limits.{IsCounterRule}
use Rattle.osek_core.specs.Tables.WellConfigured.{IsTaskOf, IsAlarmOf, IsWellConfigured}
use Rattle.system.specs.Worked.{only_task, only_counter, only_alarm, one_task}

no-pair : {X : Type 0} (R : X → X → Type 0) → AllPairs R []
no-pair R = λ i j d less within. absurd (omega (arith, within))

alone : {X : Type 0} (R : X → X → Type 0) (x : X) → AllPairs R (x ∷ [])
alone R x = λ i j d less within. absurd (omega (arith, less, within))

task-is : IsTaskOf one_task only_task
task-is = record {
  rule = record { priority = omega arith; at_least_one = omega arith; at_most = omega arith; extended = λ e. absurd (true≢false (sym e)) };
  resources = All-nil _;
  resources_rise = λ k lt. absurd (omega (arith, lt));
  events = All-nil _;
  events_rise = λ k lt. absurd (omega (arith, lt));
  extended = (λ e. absurd (true≢false (sym e)), λ some. absurd (some refl));
}

alarm-is : IsAlarmOf one_task only_alarm
alarm-is = record {
  action = omega arith;
  counter = (only_counter, (refl, record { at_least = omega arith; at_most = omega arith; cycle = inr (omega arith, omega arith) }));
}

counter-is : IsCounterRule only_counter.rule
counter-is = record {
  max_at_least = omega arith;
  max_at_most = omega arith;
  base_at_least = omega arith;
  base_at_most = omega arith;
  min_at_least = omega arith;
  min_at_most = omega arith;
}

pub one-task-well : IsWellConfigured one_task
one-task-well = record {
  small = record { events = omega arith; resources = omega arith; counters = omega arith; tasks = omega arith; alarms = omega arith };
  events = no-pair (λ a b. a.text ≢ b.text);
  resources = no-pair (λ a b. a.text ≢ b.text);
  counters = alone (λ a b. a.text ≢ b.text) only_counter.name;
  tasks = alone (λ a b. a.text ≢ b.text) only_task.name;
  alarms = alone (λ a b. a.text ≢ b.text) only_alarm.name;
  each_counter = All-cons (λ (row : CounterRow). IsCounterRule row.rule) only_counter [] counter-is (All-nil (λ (row : CounterRow). IsCounterRule row.rule));
  each_task = All-cons (IsTaskOf one_task) only_task [] task-is (All-nil (IsTaskOf one_task));
  each_alarm = All-cons (IsAlarmOf one_task) only_alarm [] alarm-is (All-nil (IsAlarmOf one_task));
}
