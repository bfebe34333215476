use Rattle.std.proofs.Common.{ℕ}
use Rattle.kconfig.specs.declared.config.TaskLine.{TaskLine}
use Rattle.kconfig.specs.Tables.{task_row}
use Rattle.kconfig.proofs.Filling.{rows_more, rows_all}
use Rattle.kconfig.proofs.task_rows.task_rows.Goals as goal

pub loop-at-preserved : goal.loop-at-preserved
loop-at-preserved c =
    let config = c.args.config.now in
    rows_more (λ (x : ℕ × TaskLine). task_row config x.0 x.1) config.tasks c.as_slice-line-items.result.now c.loop-at.at c.line-item.result c.loop-at.rows c.push.new.self c.in_ok-task_row.field-0
    c.as_slice-line-items.ensures c.loop-at-test.true c.line-item.is c.loop-at.invariant c.in_ok-task_row.ensures c.in_ok-push.ensures.ok

pub returns : goal.returns
returns c =
    let config = c.args.config.now in
    rows_all (λ (x : ℕ × TaskLine). task_row config x.0 x.1) config.tasks c.as_slice-line-items.result.now c.loop-at.at c.loop-at.rows c.as_slice-line-items.ensures c.loop-at-test.false c.loop-at.invariant
