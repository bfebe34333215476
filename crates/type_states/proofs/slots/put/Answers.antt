use Rattle.std.proofs.Common.{◌∙◌}
use Rattle.type_states.proofs.Putting.{put-within}
use Rattle.type_states.proofs.slots.put.Goals as goal

pub returns : goal.returns
returns c = rw c.set.ensures (put-within c.in_ok-slots.slots c.args.at c.args.held c.in_ok-slots.ensures.within ∙ c.in_ok-slots.ensures.same c.args.held)
