use Rattle.std.proofs.Common.{◌≡◌, true}
use Rattle.type_states.specs.Assignable.{is_slot_assignable, are_slots_assignable}
use Rattle.type_states.specs.Slots.{slot_at}
use Rattle.type_states.proofs.Reversal.{are_slots_assignable-next}
use Rattle.type_states.proofs.states.are_slots_assignable.Goals as goal

pub loop-at-preserved : goal.loop-at-preserved
loop-at-preserved c =
    let fits : is_slot_assignable c.args.world.now (slot_at c.args.from.now c.loop-at.at) c.index-to-at.result ≡ true = cc in
    are_slots_assignable-next c.args.world.now c.args.from.now c.args.to.now c.loop-at.at c.index-to-at.result (are_slots_assignable c.args.world.now c.args.from.now c.args.to.now) c.loop-at-test.true c.index-to-at.is fits c.loop-at.invariant
