use Rattle.std.proofs.Common.{max, ap, ◌∙◌, sym, get_or, take}
use Rattle.std.proofs.lemmas.List.{take_more}
use Rattle.osek_core.specs.declared.scheduler.Holding.{Holding}
use Rattle.osek_core.specs.Core.Held.{highest_of}
use Rattle.osek_core.proofs.Holdings.{highest-same, highest-other}
use Rattle.osek_core.proofs.scheduler.raised_priority.Goals.{then-holding-task, else-holding-task}
use Rattle.osek_core.proofs.scheduler.raised_priority.Goals as goal

pub loop-holding-preserved : goal.loop-holding-preserved
loop-holding-preserved c =
    let own = c.args.own in
    let ceilings = c.args.ceilings.now in
    let holdings = c.args.holdings.now in
    let task = c.args.task in
    let i = c.loop-holding.holding-index in
    let none : Holding = record { task = 0; resource = 0 } in
    let holding = get_or holdings i none in
    let more = ap (λ l. highest_of own ceilings l task) (take_more holdings i none c.loop-holding-test.true) in
    elim c.if-holding-task.branch [
      | then-holding-task w ↦ w.highest-is ∙ w.max-highest.ensures ∙ ap (λ n. max n (get_or ceilings holding.resource 0)) c.loop-holding.invariant
          ∙ sym (highest-same own ceilings (take i holdings) holding task w.if-holding-task.true) ∙ sym more
      | else-holding-task w ↦ w.highest-is ∙ c.loop-holding.invariant ∙ sym (highest-other own ceilings (take i holdings) holding task w.if-holding-task.false) ∙ sym more
    ]
