use Rattle.std.proofs.Common.{subst, sym, ap, ◌∙◌, Option, None}
use Rattle.osek_core.specs.declared.event.Who.{Who}
use Rattle.osek_core.specs.Kernel.System.{acting}
use Rattle.b_machine.specs.Moves.{Machine, IsMoved}
use Rattle.b_machine.specs.Trace.{run}
use Rattle.b_machine.proofs.Moved.{nobody}
use Rattle.b_machine.proofs.machine.Bm.run.Goals as goal

pub returns-in-None : goal.returns-in-None
returns-in-None c =
    let m = c.args.self.now in
    subst (λ (who : Option Who). IsMoved (run m.app m.state who) m (record { event = None; lost = 0; weight = 0 }) m)
    (sym c.in-None.is ∙ c.acting.ensures ∙ ap (λ (x : Machine). acting x.state.shared.system) c.self.view_is) (nobody m)
