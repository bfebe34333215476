use Rattle.b_machine.proofs.Moved.{nobody}
use Rattle.b_machine.proofs.machine.Bm.apply.Goals as goal

pub returns-in-Poke : goal.returns-in-Poke
returns-in-Poke c = rw c.in-Poke.is (nobody c.args.self.now)
