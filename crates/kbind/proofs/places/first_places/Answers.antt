use Rattle.std.proofs.Common.{◌-◌, arith, []}
use Rattle.kbind.proofs.Placing.{goes_on}
use Rattle.kbind.proofs.places.first_places.Goals as goal

pub loop-place-preserved : goal.loop-place-preserved
loop-place-preserved c =
    goes_on c.args.texts.now (record { ref_ptr = (0, 0); now = [] }) (c.loop-place.place - 1) c.loop-place.place c.loop-place.places c.set.new.self (omega arith) c.loop-place.auto.place c.in_ok-set.ensures c.loop-place.invariant
