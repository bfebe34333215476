use Rattle.std.proofs.Common.{◌≡◌, ◌∙◌, ◌≤◌, length, arith}
use Rattle.type_states.proofs.Putting.{put-longer}
use Rattle.type_states.proofs.slots.lengthened.Goals as goal

pub loop-slots-preserved : goal.loop-slots-preserved
loop-slots-preserved c =
    let le : length c.loop-slots.slots ≤ c.args.at = omega arith in
    λ t. rw c.in_ok-push.ensures.ok (put-longer c.loop-slots.slots c.args.at t le ∙ c.loop-slots.invariant t)
