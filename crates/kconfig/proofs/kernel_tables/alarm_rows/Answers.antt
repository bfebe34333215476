use Rattle.std.proofs.Common.{ℕ, List, ap, ◌∙◌}
use Rattle.osek_core.specs.declared.tables.AlarmRow.{AlarmRow}
use Rattle.kconfig.specs.declared.config.AlarmLine.{AlarmLine}
use Rattle.kconfig.specs.declared.config.StartLine.{StartLine}
use Rattle.kconfig.specs.Tables.{alarm_row}
use Rattle.kconfig.proofs.Filling.{rows_more, rows_all}
use Rattle.kconfig.proofs.WellConfigured.{times_small}
use Rattle.kconfig.proofs.kernel_tables.alarm_rows.Goals as goal

pub alarm_row-requires : goal.alarm_row-requires
alarm_row-requires c = rw c.as_slice-starts.ensures (times_small c.args.config.now c.requires)

pub loop-at-preserved : goal.loop-at-preserved
loop-at-preserved c =
    let config = c.args.config.now in
    let row : List StartLine → AlarmRow = λ starts. alarm_row starts c.loop-at.at c.line-item.result in
    rows_more (λ (x : ℕ × AlarmLine). alarm_row config.starts x.0 x.1) config.alarms c.as_slice-line-items.result.now c.loop-at.at c.line-item.result c.loop-at.rows c.push.new.self c.in_ok-alarm_row.field-0
    c.as_slice-line-items.ensures c.loop-at-test.true c.line-item.is c.loop-at.invariant (c.in_ok-alarm_row.ensures ∙ ap row c.as_slice-starts.ensures) c.in_ok-push.ensures.ok

pub returns : goal.returns
returns c =
    let config = c.args.config.now in
    rows_all (λ (x : ℕ × AlarmLine). alarm_row config.starts x.0 x.1) config.alarms c.as_slice-line-items.result.now c.loop-at.at c.loop-at.rows c.as_slice-line-items.ensures c.loop-at-test.false c.loop-at.invariant
