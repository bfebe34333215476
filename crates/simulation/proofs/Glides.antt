-- Runs of one actor that touch its own frames alone.
use Rattle.std.proofs.Common.{◌≡◌, ◌≢◌, ℕ, zero, suc, [], length, Some, refl, sym, ap, ◌∙◌, subst}
use Rattle.std.specs.Prelude.{replicate}
use Rattle.osek_core.specs.declared.event.Who.{Who}
use Rattle.osek_core.specs.declared.moves.Move.TheVariants.{Run}
use Rattle.osek_core.specs.Kernel.System.{acting}
use Rattle.osek_core.specs.Bytecode.Application.{Application}
use Rattle.osek_core.specs.Bytecode.State.{Actor, State, actor_of, set_actor}
use Rattle.osek_core.specs.Bytecode.Step.{step}
use Rattle.osek_core.specs.Bytecode.Trace.{Moved, run}
use Rattle.simulation.proofs.Along.{along, joined}
use Rattle.simulation.proofs.Actors.{IsThere, bytecode_own, bytecode_other, bytecode_jobs}
use Rattle.simulation.proofs.Lawful.{Glides}

-- what so many Runs of this actor leave and show
pub record Glided (b : State) (who : Who) (after : Actor) (moved : Moved) : Type 0 where
  pub shows : moved.events ≡ []
  pub shared : moved.state.shared ≡ b.shared
  pub jobs : length moved.state.jobs ≡ length b.jobs
  pub own : actor_of moved.state who ≡ after
  pub others : (other : Who) → other ≢ who → actor_of moved.state other ≡ actor_of b other

pub glides : (source : Application) (n : ℕ) (b : State) (who : Who) (after : Actor) (tasks : ℕ) → acting b.shared.system ≡ Some who → length b.jobs ≡ tasks → IsThere tasks who → Glides source who n (actor_of b who) b.shared after → Glided b who after (along source b (replicate n Run))
glides source zero b who after tasks acts jobs there g = record { shows = refl; shared = refl; jobs = refl; own = g; others = λ other ne. refl }
glides source (suc n) b who after tasks acts jobs there g =
    let q = step source who (actor_of b who) b.shared in
    let next : State = record (set_actor b who q.actor) { shared = q.shared } in
    let first : run source b (acting b.shared.system) ≡ record { state = next; events = [] } =
    rw acts (ap (λ e. record { state = next; events = e }) g.1) in
    let next_acts : acting next.shared.system ≡ Some who = rw g.0 acts in
    let own : actor_of next who ≡ q.actor = bytecode_own b who q.actor tasks jobs there in
    let next_jobs : length next.jobs ≡ length b.jobs = bytecode_jobs b who q.actor in
    let more = glides source n next who after tasks next_acts (next_jobs ∙ jobs) there (rw (own, g.0) g.2) in
    let rest = along source next (replicate n Run) in
    let whole : along source b (replicate (suc n) Run) ≡ rest = ap (λ m. joined m (along source m.state (replicate n Run))) first in
    subst (Glided b who after) (sym whole) (record {
      shows = more.shows;
      shared = more.shared ∙ g.0;
      jobs = more.jobs ∙ next_jobs;
      own = more.own;
      others = λ other ne. more.others other ne ∙ bytecode_other b who other q.actor ne;
    })
