use Rattle.std.proofs.Common.{[], ◌∷◌, ◌++◌, sym, ap, ◌∙◌, arith}
use Rattle.osek_model.proofs.Steps.{filter-yes, filter-no}
use Rattle.system.specs.Lost.{is_in}
use Rattle.system.proofs.LostAlarms.{all-listed}
use Rattle.system.proofs.lost.lost_alarms.Goals.{then-is_in+in_ok-push, else-is_in}
use Rattle.system.proofs.lost.lost_alarms.Goals as goal

pub loop-alarm-preserved : goal.loop-alarm-preserved
loop-alarm-preserved c = elim c.if-is_in.branch [
  | then-is_in+in_ok-push w ↦
      rw w.alarms-is (w.in_ok-push.ensures.items ∙ ap (λ l. l ++ c.loop-alarm.alarm ∷ []) c.loop-alarm.invariant
      ∙ sym (filter-yes (is_in c.args.set) c.loop-alarm.alarm (sym c.is_in.ensures ∙ w.if-is_in.true)))
  | else-is_in w ↦ rw w.alarms-is (c.loop-alarm.invariant ∙ sym (filter-no (is_in c.args.set) c.loop-alarm.alarm (sym c.is_in.ensures ∙ w.if-is_in.false)))
]

pub returns : goal.returns
returns c = c.loop-alarm.invariant ∙ all-listed c.args.set c.loop-alarm.alarm (omega (arith, c.loop-alarm-test.false, c.loop-alarm.auto.alarm-end))
