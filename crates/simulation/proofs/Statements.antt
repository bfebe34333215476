-- A statement that stands for one instruction, from what the two steps are.
use Rattle.std.proofs.Common.{◌≡◌, ℕ, [], List, sym, ap, ◌∙◌, subst}
use Rattle.osek_core.specs.declared.event.Who.{Who}
use Rattle.osek_core.specs.Kernel.System.{System}
use Rattle.osek_core.specs.Bytecode.Value.{Domain}
use Rattle.osek_core.specs.Bytecode.Application.{Application}
use Rattle.osek_core.specs.Bytecode.State as bytecode
use Rattle.osek_core.specs.Bytecode.Step as bytecode_step
use Rattle.csubset.specs.Machine.Application.{CApplication}
use Rattle.csubset.specs.Machine.State as c
use Rattle.csubset.specs.Machine.Step as c_step
use Rattle.csubset.specs.Image.{weight_of}
use Rattle.simulation.proofs.Lawful as lawful
use Rattle.simulation.proofs.Lawful.{Shut, domains_under}

module _ (written : CApplication) (source : Application) (Sound : System → Type 0) (Holds : List (List ℕ) → List Domain → Type 0) (Grows : List Domain → List Domain → Type 0) (Stands : List Domain → Who → c.Actor → bytecode.Actor → Type 0) (Within : List Domain → Who → c.Actor → bytecode.Actor → List (List ℕ) → Type 0) where
  -- what is to be shown of the next statement of an actor
  abbrev pub Next : List Domain → Who → c.Actor → bytecode.Actor → c.Shared → Type 0
  Next h who f g s =
      lawful.Outside written source Sound Holds Grows Stands Within h who f g s
      (c_step.step written who f s) (bytecode_step.step source who g (domains_under h s.devices s.system))

  -- it touches the actor's own frames alone, as its instruction does
  pub private_one : (h : List Domain) (who : Who) (f : c.Actor) (g : bytecode.Actor) (s : c.Shared) (r : c_step.Stepped) (q : bytecode_step.Stepped)
      → c_step.step written who f s ≡ r → bytecode_step.step source who g (domains_under h s.devices s.system) ≡ q → weight_of written.map f ≡ 1
      → r.shared ≡ s → r.events ≡ [] → q.shared ≡ domains_under h s.devices s.system → q.events ≡ [] → Stands h who r.actor q.actor → Next h who f g s
  private_one h who f g s r q here there weight shared events shared_there events_there stands =
      lawful.Private 1 q.actor weight (ap (λ x. x.shared) here ∙ shared) (ap (λ x. x.events) here ∙ events)
      (ap (λ x. x.shared) there ∙ shared_there, ap (λ x. x.events) there ∙ events_there, ap (λ x. x.actor) there)
      (subst (λ x. Stands h who x.actor q.actor) (sym here) stands)

  -- it shows what its instruction shows, and both go on or both are shut
  pub public_one : (h : List Domain) (who : Who) (f : c.Actor) (g : bytecode.Actor) (s : c.Shared) (r : c_step.Stepped) (q : bytecode_step.Stepped)
      → c_step.step written who f s ≡ r → bytecode_step.step source who g (domains_under h s.devices s.system) ≡ q → weight_of written.map f ≡ 1
      → r.events ≡ q.events → lawful.Both written source Sound Holds Grows Stands Within h who r q → Next h who f g s
  public_one h who f g s r q here there weight events both =
      lawful.Public weight (ap (λ x. x.events) here ∙ events ∙ ap (λ x. x.events) (sym there))
      (subst (λ x. lawful.Both written source Sound Holds Grows Stands Within h who x (bytecode_step.step source who g (domains_under h s.devices s.system))) (sym here)
      (subst (λ x. lawful.Both written source Sound Holds Grows Stands Within h who r x) (sym there) both))
