use Rattle.std.proofs.Common.{◌∷◌, ◌++◌, [], max, take, sym, ap, ◌∙◌}
use Rattle.std.proofs.lemmas.List.{take_more}
use Rattle.osek_core.specs.declared.tables.TaskRow.{TaskRow}
use Rattle.osek_core.specs.Kernel.Rules.{ceiling}
use Rattle.osek_model.proofs.Steps.{ceiling-yes, ceiling-no}
use Rattle.osek_model.proofs.plan.ceiling.Goals.{then-uses, else-uses}
use Rattle.osek_model.proofs.plan.ceiling.Goals as goal

pub loop-row-preserved : goal.loop-row-preserved
loop-row-preserved c =
    let i = c.loop-row.row-index in
    let tasks = c.args.tasks.now in
    let row = c.row-item.result in
    let resource = c.args.resource in
    let more = ap (λ l. ceiling l resource) (take_more tasks i row c.loop-row-test.true ∙ ap (λ (r : TaskRow). take i tasks ++ r ∷ []) (sym c.row-item.is)) in
    elim c.if-uses.branch [
      | then-uses w ↦ w.highest-is ∙ w.max-highest.ensures ∙ ap (λ n. max n row.rule.priority) c.loop-row.invariant
          ∙ sym (ceiling-yes (take i tasks) row resource (sym c.uses.ensures ∙ w.if-uses.true)) ∙ sym more
      | else-uses w ↦ w.highest-is ∙ c.loop-row.invariant ∙ sym (ceiling-no (take i tasks) row resource (sym c.uses.ensures ∙ w.if-uses.false)) ∙ sym more
    ]
