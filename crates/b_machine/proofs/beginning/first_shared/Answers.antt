use Rattle.std.proofs.Common.{ap, ◌∙◌, List}
use Rattle.osek_core.specs.Kernel.System.{System}
use Rattle.b_step.specs.declared.domain.Domain.{Domain}
use Rattle.b_machine.specs.State.{Shared, first_state}
use Rattle.b_machine.proofs.Starting.{shared_is}
use Rattle.b_machine.proofs.beginning.first_shared.Goals as goal

pub returns-clause-shared : goal.returns-clause-shared
returns-clause-shared c = shared_is c.args.program.now c.in_ok-domains.domains.items c.in_ok-system.system.system c.in_ok-domains.ensures c.in_ok-system.ensures.system
