use Rattle.b_machine.proofs.Starting.{state_is}
use Rattle.b_machine.proofs.beginning.first_parts.Goals as goal

pub returns-clause-state : goal.returns-clause-state
returns-clause-state c =
    state_is c.args.program.now c.in_ok-start.start c.in_ok-jobs.jobs.items c.in_ok-shared.shared.shared c.in_ok-start.ensures c.in_ok-jobs.ensures c.in_ok-shared.ensures.shared
