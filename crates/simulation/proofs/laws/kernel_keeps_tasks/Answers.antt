use Rattle.simulation.proofs.Kernel.{service_keeps, tick_keeps, start_keeps}
use Rattle.simulation.proofs.laws.kernel_keeps_tasks.Goals as goal

pub returns : goal.returns
returns c = record { service = service_keeps; tick = tick_keeps; start = start_keeps }
