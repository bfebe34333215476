use Rattle.std.proofs.Common.{arith}
use Rattle.kbind.specs.Kept.{entry_seen}
use Rattle.kbind.proofs.Seeing.{table_more, all_tables, no_entries}
use Rattle.kbind.proofs.entries.entry_names.Goals as goal

pub loop-n-preserved : goal.loop-n-preserved
loop-n-preserved c = rw c.in_ok-push.ensures.items (table_more (entry_seen c.args.world.now) c.loop-n.n c.loop-n.tables.items _ c.loop-n.invariant c.in_ok-entries_in.ensures)

pub returns : goal.returns
returns c =
    all_tables (entry_seen c.args.world.now) c.args.world.now c.loop-n.n c.loop-n.tables.items (omega (arith, c.count-n-end.ensures.count)) (omega (arith, c.count-n-end.ensures.count)) (no_entries c.args.world.now) c.loop-n.invariant
