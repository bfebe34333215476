-- What is to be shown of each statement, run alone, so that a program that is preempted anywhere follows the bytecode.
-- A relation between the two runs has five parts. `Sound` is said of the system. `Holds` says that regions stand for
-- domains, and `Grows` what steps may make of the domains. `Stands` says where an actor of the C is behind its actor of
-- the bytecode; `Within` says the same inside an interrupt section, in which the regions are changed already.
use Rattle.std.specs.Prelude.{◌≡◌, ℕ, zero, suc, true, false, List, [], length, Some}
use Rattle.osek_core.specs.declared.event.Who.{Who}
use Rattle.osek_core.specs.Kernel.State.{suspend}
use Rattle.osek_core.specs.Kernel.System.{System, acting, tick_system}
use Rattle.osek_core.specs.Bytecode.Value.{Domain}
use Rattle.osek_core.specs.Bytecode.Application.{Application}
use Rattle.osek_core.specs.Bytecode.State as bytecode
use Rattle.osek_core.specs.Bytecode.Step as bytecode_step
use Rattle.csubset.specs.Machine.Application.{CApplication}
use Rattle.csubset.specs.Machine.State as c
use Rattle.csubset.specs.Machine.Step as c_step
use Rattle.csubset.specs.Image.{weight_of}
use Rattle.simulation.proofs.Actors.{IsThere}

abbrev pub suspended : System → System
suspended y = record y { kernel = suspend y.kernel }

abbrev pub domains_under : List Domain → List ℕ → System → bytecode.Shared
domains_under domains devices y = record { domains = domains; devices = devices; system = y }

abbrev pub regions_under : List (List ℕ) → List ℕ → System → c.Shared
regions_under regions devices y = record { regions = regions; devices = devices; system = y }

-- so many instructions that change the actor's own frames alone and show nothing
abbrev pub Glides : Application → Who → ℕ → bytecode.Actor → bytecode.Shared → bytecode.Actor → Type 0
Glides source who zero g s after = g ≡ after
Glides source who (suc n) g s after =
    let q = bytecode_step.step source who g s in
    (q.shared ≡ s) × (q.events ≡ []) × Glides source who n q.actor s after

abbrev pub Shut : System → Type 0
Shut y = y.kernel.shut ≡ true

module _ (written : CApplication) (source : Application) (Sound : System → Type 0) (Holds : List (List ℕ) → List Domain → Type 0) (Grows : List Domain → List Domain → Type 0) (Stands : List Domain → Who → c.Actor → bytecode.Actor → Type 0) (Within : List Domain → Who → c.Actor → bytecode.Actor → List (List ℕ) → Type 0) where
  -- both have made a step and go on
  pub record Together (h : List Domain) (who : Who) (r : c_step.Stepped) (q : bytecode_step.Stepped) : Type 0 where
    pub system : r.shared.system ≡ q.shared.system
    pub devices : r.shared.devices ≡ q.shared.devices
    pub heap : Holds r.shared.regions q.shared.domains
    pub grows : Grows h q.shared.domains
    pub stands : Stands q.shared.domains who r.actor q.actor
    pub sound : Sound q.shared.system

  -- or both are shut
  pub data Both (h : List Domain) (who : Who) (r : c_step.Stepped) (q : bytecode_step.Stepped) : Type 0 where
    GoesOn : Together h who r q → Both h who r q
    Shuts : Shut r.shared.system → Shut q.shared.system → Both h who r q

  -- A step outside sections, r, from the shared part s; q is the bytecode's step. It stands for some instructions that
  -- touch the actor's own frames alone, or for one, or it opens a section.
  pub data Outside (h : List Domain) (who : Who) (f : c.Actor) (g : bytecode.Actor) (s : c.Shared) (r : c_step.Stepped) (q : bytecode_step.Stepped) : Type 0 where
    Private : (n : ℕ) (after : bytecode.Actor) → weight_of written.map f ≡ n → r.shared ≡ s → r.events ≡ []
        → Glides source who n g (domains_under h s.devices s.system) after → Stands h who r.actor after → Outside h who f g s r q
    Public : weight_of written.map f ≡ 1 → r.events ≡ q.events → Both h who r q → Outside h who f g s r q
    Begins : weight_of written.map f ≡ 0 → r.shared ≡ record s { system = suspended s.system } → r.events ≡ []
        → Within h who r.actor g s.regions → Outside h who f g s r q

  -- A step in a section, from the device bytes and the bytecode's system. It stands for nothing, or fails, or closes the
  -- section and stands for nothing or for one instruction.
  pub data Inside (h : List Domain) (who : Who) (f : c.Actor) (g : bytecode.Actor) (devices : List ℕ) (y : System) (r : c_step.Stepped) (q : bytecode_step.Stepped) : Type 0 where
    Inner : weight_of written.map f ≡ 0 → r.shared.devices ≡ devices → r.shared.system ≡ suspended y → r.events ≡ []
        → Within h who r.actor g r.shared.regions → Inside h who f g devices y r q
    Breaks : weight_of written.map f ≡ 1 → r.events ≡ q.events → Shut r.shared.system → Shut q.shared.system
        → Inside h who f g devices y r q
    Ends : weight_of written.map f ≡ 0 → r.shared.devices ≡ devices → r.shared.system ≡ y → r.events ≡ []
        → Holds r.shared.regions h → Stands h who r.actor g → Inside h who f g devices y r q
    EndsWeighted : weight_of written.map f ≡ 1 → r.events ≡ q.events → Together h who r q → Inside h who f g devices y r q

  pub record Lawful : Type 0 where
    pub same_tables : written.tables ≡ source.config.tables
    pub calm : (y : System) → Sound y → y.kernel.suspended ≡ false
    pub there : (y : System) (who : Who) → Sound y → acting y ≡ Some who → IsThere (length written.tables.tasks) who
    pub ticks : (y : System) (counter : ℕ) → Sound y → Sound (tick_system written.tables y counter).system
    pub stays : (h grown : List Domain) (who : Who) (f : c.Actor) (g : bytecode.Actor) → Grows h grown → Stands h who f g → Stands grown who f g
    pub outside : (h : List Domain) (who : Who) (f : c.Actor) (g : bytecode.Actor) (s : c.Shared)
        → acting s.system ≡ Some who → Sound s.system → Holds s.regions h → Stands h who f g
        → Outside h who f g s (c_step.step written who f s) (bytecode_step.step source who g (domains_under h s.devices s.system))
    pub inside : (h : List Domain) (who : Who) (f : c.Actor) (g : bytecode.Actor) (regions : List (List ℕ)) (devices : List ℕ) (y : System)
        → acting y ≡ Some who → Sound y → Within h who f g regions
        → Inside h who f g devices y (c_step.step written who f (regions_under regions devices (suspended y)))
        (bytecode_step.step source who g (domains_under h devices y))
