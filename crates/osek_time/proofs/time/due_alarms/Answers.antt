use Rattle.std.proofs.Common.{◌&&◌, ◌^◌, ◌*◌, ◌%◌, ℕ, None, nat_eq, get_or, bit_or, sym, ap, ◌∙◌, arith}
use Rattle.std.proofs.lemmas.Nat.{one_shl}
use Rattle.osek_core.specs.Kernel.Clock.{is_last_tick}
use Rattle.osek_time.specs.Kept.{shown}
use Rattle.osek_time.proofs.Alarms.{set-more, set-same}
use Rattle.osek_time.proofs.time.due_alarms.Goals.{then-is_due_of, else-is_due_of}
use Rattle.osek_time.proofs.time.due_alarms.Goals as goal

pub loop-alarm-preserved : goal.loop-alarm-preserved
loop-alarm-preserved c =
    let i = c.loop-alarm.alarm in
    let test = λ (k : ℕ). nat_eq (get_or c.args.alarms.now k 0) c.args.counter && is_last_tick (shown (get_or c.args.armed.now k None)) in
    elim c.if-is_due_of.branch [
      | then-is_due_of w ↦ w.due-is ∙ ap (λ d. bit_or d ((1 * 2 ^ i) % 2 ^ 64)) c.loop-alarm.invariant ∙ ap (bit_or _) (one_shl i 64 (omega arith)) ∙ sym (set-more test i (sym c.is_due_of.ensures ∙ w.if-is_due_of.true))
      | else-is_due_of w ↦ w.due-is ∙ c.loop-alarm.invariant ∙ sym (set-same test i (sym c.is_due_of.ensures ∙ w.if-is_due_of.false))
    ]
