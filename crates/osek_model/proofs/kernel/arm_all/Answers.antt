use Rattle.std.proofs.Common.{None, get_or, sym, ap, ◌∙◌}
use Rattle.osek_core.specs.Kernel.Clock.{Clock}
use Rattle.osek_time.specs.Value.{Timed}
use Rattle.osek_model.specs.Acting.{arm_started}
use Rattle.osek_model.proofs.Steps.{fold-more}
use Rattle.osek_model.proofs.kernel.arm_all.Goals as goal

pub loop-alarm-preserved : goal.loop-alarm-preserved
loop-alarm-preserved c =
    let i = c.loop-alarm.alarm in
    let old = c.args.time.now in
    let starts = c.args.starts.now in
    c.arm_started.ensures
    ∙ ap (λ (t : Timed). record t { clock = arm_started t.rules t.clock i (get_or starts i None) }) c.loop-alarm.invariant
    ∙ ap (λ (k : Clock). record old { clock = k }) (sym (fold-more (λ k alarm. arm_started old.rules k alarm (get_or starts alarm None)) old.clock i))
