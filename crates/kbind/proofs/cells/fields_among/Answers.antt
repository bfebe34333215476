use Rattle.std.proofs.Common.{◌-◌, arith}
use Rattle.kbind.specs.Cells.{is_field_of}
use Rattle.kbind.proofs.Seeing.{goes_on}
use Rattle.kbind.proofs.cells.fields_among.Goals as goal

pub loop-place-preserved : goal.loop-place-preserved
loop-place-preserved c =
    goes_on is_field_of c.args.fields.now (c.loop-place.place - 1) c.loop-place.place c.index-fields-place.result c.loop-place.names _ (omega arith) (omega arith) c.index-fields-place.is c.in_ok-add_field.ensures
    c.loop-place.invariant
