use Rattle.std.proofs.Common.{◌-◌, arith}
use Rattle.kbind.specs.Entries.{is_entry_of}
use Rattle.kbind.proofs.Seeing.{goes_on}
use Rattle.kbind.proofs.entries.entries_among.Goals as goal

pub loop-place-preserved : goal.loop-place-preserved
loop-place-preserved c =
    goes_on is_entry_of c.args.methods.now (c.loop-place.place - 1) c.loop-place.place c.index-methods-place.result c.loop-place.names _ (omega arith) (omega arith) c.index-methods-place.is c.in_ok-add_entry.ensures
    c.loop-place.invariant
