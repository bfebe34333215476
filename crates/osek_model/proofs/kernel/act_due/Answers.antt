use Rattle.std.proofs.Common.{filter, length, get_or, bit_or, sym, ap, ◌∙◌, subst}
use Rattle.std.specs.List.{range_with_len, slice_get}
use Rattle.std.proofs.lemmas.Option.{slice_get-get_or}
use Rattle.osek_core.specs.declared.tables.Action.TheVariants.{Activate}
use Rattle.osek_core.specs.Core.Value.{Scheduled}
use Rattle.osek_core.specs.Kernel.Scheduler.{Scheduler}
use Rattle.osek_core.specs.Kernel.Tick.{act}
use Rattle.osek_time.specs.Value.{alarm_set, is_due}
use Rattle.osek_model.specs.Plan.{IsActionIn}
use Rattle.osek_model.specs.Acting.{act_list, act_action, lost_of}
use Rattle.osek_model.proofs.Steps.{acted-state, acted-lost, set-joins, filter-yes, filter-no}
use Rattle.osek_model.proofs.kernel.act_due.Goals.{then-is_due, else-is_due}
use Rattle.osek_model.proofs.kernel.act_due.Goals as goal

pub act_alarm-lost-requires-clause-action : goal.act_alarm-lost-requires-clause-action
act_alarm-lost-requires-clause-action c =
    let i = c.loop-alarm.alarm in
    subst (λ n. IsActionIn n (get_or c.args.actions.now i (Activate 0))) (sym (ap (λ (k : Scheduled). length k.rules.tasks) c.loop-alarm.invariant.state))
    (c.requires.acts i (Activate 0) c.loop-alarm-test.true)

pub loop-alarm-preserved : goal.loop-alarm-preserved
loop-alarm-preserved c =
    let i = c.loop-alarm.alarm in
    let old = c.args.core.now in
    let rules = old.rules in
    let actions = c.args.actions.now in
    let time = c.args.time.now in
    let v = c.loop-alarm.invariant in
    let p = is_due time.rules time.clock c.args.counter in
    let before = filter p (range_with_len 0 i) in
    let A = act_list rules actions old.scheduler before in
    let action = get_or actions i (Activate 0) in
    let there = slice_get-get_or actions i (Activate 0) c.loop-alarm-test.true in
    elim c.if-is_due.branch [
      | then-is_due w ↦
          let more = filter-yes p i (sym c.is_due.ensures ∙ w.if-is_due.true) in record {
            state = w.core-is ∙ w.act_alarm-lost.ensures.state ∙ ap (λ (k : Scheduled). record k { scheduler = (act k.rules k.scheduler action).state }) v.state
                ∙ ap (λ (s : Scheduler). record old { scheduler = s }) (sym (ap (λ l. (act_list rules actions old.scheduler l).scheduler) more
                ∙ acted-state rules actions old.scheduler before i ∙ ap (λ o. (act_action rules A.scheduler o).state) there));
            lost = w.lost-is ∙ ap (λ n. bit_or n w.act_alarm-lost.result) v.lost
                ∙ ap (bit_or (alarm_set A.lost)) (w.act_alarm-lost.ensures.lost ∙ ap (λ (k : Scheduled). alarm_set (lost_of (act k.rules k.scheduler action) i)) v.state)
                ∙ sym (ap (λ l. alarm_set (act_list rules actions old.scheduler l).lost) more ∙ ap alarm_set (acted-lost rules actions old.scheduler before i)
                ∙ set-joins (act_action rules A.scheduler (slice_get actions i)) A.lost i
                ∙ ap (λ o. bit_or (alarm_set A.lost) (alarm_set (lost_of (act_action rules A.scheduler o) i))) there);
          }
      | else-is_due w ↦
          let same = filter-no p i (sym c.is_due.ensures ∙ w.if-is_due.false) in record {
            state = w.core-is ∙ v.state ∙ ap (λ l. record old { scheduler = (act_list rules actions old.scheduler l).scheduler }) (sym same);
            lost = w.lost-is ∙ v.lost ∙ ap (λ l. alarm_set (act_list rules actions old.scheduler l).lost) (sym same);
          }
    ]
