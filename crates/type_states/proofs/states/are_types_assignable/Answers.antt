use Rattle.std.proofs.Common.{◌≢◌, length, sym, arith}
use Rattle.type_states.proofs.Reversal.{are_operands_assignable-lengths}
use Rattle.type_states.proofs.states.are_types_assignable.Goals as goal

pub returns-then-from-to : goal.returns-then-from-to
returns-then-from-to c =
    let uneven : length c.args.from.now ≢ length c.args.to.now = omega arith in
    sym (are_operands_assignable-lengths c.args.world.now c.args.from.now c.args.to.now uneven)
