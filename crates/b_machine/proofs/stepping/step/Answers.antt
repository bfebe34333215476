use Rattle.std.proofs.Common.{refl}
use Rattle.b_machine.proofs.Settling.{steps}
use Rattle.b_machine.proofs.stepping.step.Goals as goal

pub returns-in-Some : goal.returns-in-Some
returns-in-Some c =
    steps c.args.program.now c.args.who c.args.actor.now c.args.shared.now c.args.actor.now.frames refl c.in-Some.ended c.run_top.new.actor c.run_top.new.shared
    (rw c.in-Some.is at c.in_ok-ended.ensures.runs) (rw c.in-Some.is at c.in_ok-ended.ensures.zero) c.finish.result c.finish.new.actor c.finish.new.shared c.finish.ensures
