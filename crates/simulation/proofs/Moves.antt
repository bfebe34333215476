-- The state behind a step of the C, and the kept ticks that are served behind it.
use Rattle.std.proofs.Common.{◌≡◌, ℕ, ◌+◌, Bool, true, false, List, [], ◌∷◌, ◌++◌, map, refl, ap, ◌∙◌}
use Rattle.std.specs.Prelude.{◌&&◌, not, Some, None, option_map, if◌then◌else◌}
use Rattle.osek_core.specs.declared.event.Who.{Who}
use Rattle.osek_core.specs.declared.event.Who.TheVariants.{Start, Task}
use Rattle.osek_core.specs.declared.event.Event.TheVariants.{Lost}
use Rattle.osek_core.specs.declared.moves.Move.TheVariants.{Tick}
use Rattle.osek_core.specs.Kernel.Scheduler.{running}
use Rattle.osek_core.specs.Kernel.Tick.{tick}
use Rattle.csubset.specs.Image.{tick_image}
use Rattle.osek_core.specs.declared.tables.Tables.{Tables}
use Rattle.osek_core.specs.Kernel.System.{System, SystemTicked, acting, tick_system}
use Rattle.csubset.specs.Machine.Application.{CApplication}
use Rattle.csubset.specs.Machine.State.{State}
use Rattle.csubset.specs.Machine.Step.{Stepped}
use Rattle.csubset.specs.Machine.Trace.{keep, kept_from, owed, ticks, set_system, after_step, moved_by, tick_move}
use Rattle.simulation.proofs.Actors.{c_kept}
use Rattle.simulation.proofs.Lawful.{Shut}

-- no tick is kept of counters that have none
pub none_kept : (counter : ℕ) (kept : List ℕ) → kept_from counter (map (λ n. 0) kept) ≡ []
none_kept counter [] = refl
none_kept counter (n ∷ more) = none_kept (counter + 1) more

-- a tick by whether the system is started and shut: one that is shut does nothing
abbrev tick_under : Tables → System → ℕ → Bool → Bool → SystemTicked
tick_under tables y counter started is_shut =
    if started && not is_shut then record { system = record y { kernel = (tick tables y.kernel counter).kernel }; events = map Lost (tick tables y.kernel counter).lost }
    else record { system = y; events = [] }

shut_under : (tables : Tables) (y : System) (counter : ℕ) (started : Bool) → tick_under tables y counter started true ≡ record { system = y; events = [] }
shut_under tables y counter true = refl
shut_under tables y counter false = refl

pub shut_tick : (tables : Tables) (y : System) (counter : ℕ) → Shut y → tick_system tables y counter ≡ record { system = y; events = [] }
shut_tick tables y counter shut = ap (λ is_shut. tick_under tables y counter y.started is_shut) shut ∙ shut_under tables y counter y.started

pub shut_ticks : (tables : Tables) (y : System) (counters : List ℕ) → Shut y → ticks tables y counters ≡ record { system = y; events = [] }
shut_ticks tables y [] shut = refl
shut_ticks tables y (n ∷ more) shut = rw (shut_tick tables y n shut, shut_ticks tables y more shut) refl

-- nobody acts in a system that is shut
pub nobody_acts : (y : System) → Shut y → acting y ≡ None
nobody_acts y shut = ap (λ is_shut. if is_shut then None else (if y.started then option_map Task (running y.kernel.scheduler) else Some Start)) shut

-- a tick, and its image, where interrupts are suspended or not
pub tick_open : (app : CApplication) (s : State) (counter : ℕ) → s.shared.system.kernel.suspended ≡ false → tick_move app s counter ≡ record { state = set_system s (tick_system app.tables s.shared.system counter).system; events = (tick_system app.tables s.shared.system counter).events }
tick_open app s counter open_ = ap (λ held. if held then record { state = record s { kept = keep s.kept counter }; events = [] } else record { state = set_system s (tick_system app.tables s.shared.system counter).system; events = (tick_system app.tables s.shared.system counter).events }) open_

pub tick_held : (app : CApplication) (s : State) (counter : ℕ) → s.shared.system.kernel.suspended ≡ true → tick_move app s counter ≡ record { state = record s { kept = keep s.kept counter }; events = [] }
tick_held app s counter closed = ap (λ held. if held then record { state = record s { kept = keep s.kept counter }; events = [] } else record { state = set_system s (tick_system app.tables s.shared.system counter).system; events = (tick_system app.tables s.shared.system counter).events }) closed

pub tick_image_of : (s : State) (counter : ℕ) (held : Bool) → s.shared.system.kernel.suspended ≡ held → tick_image s counter ≡ (if held then [] else Tick counter ∷ [])
tick_image_of s counter held e = ap (λ x. if x then [] else Tick counter ∷ []) e

-- behind a step the interrupts aren't suspended: the kept ticks are served
abbrev pub served_by : CApplication → State → Who → Stepped → SystemTicked
served_by app s who r = ticks app.tables r.shared.system (kept_from 0 s.kept)

abbrev pub behind_ticks : CApplication → State → Who → Stepped → State
behind_ticks app s who r =
    record (after_step s who r) { shared = record r.shared { system = (served_by app s who r).system }; kept = map (λ n. 0) s.kept }

pub released_owes : (s : State) (who : Who) (r : Stepped) → r.shared.system.kernel.suspended ≡ false → owed (after_step s who r) ≡ kept_from 0 s.kept
released_owes s who r open_ = rw (open_, c_kept s who r.actor) refl

pub released_move : (app : CApplication) (s : State) (who : Who) (r : Stepped) → r.shared.system.kernel.suspended ≡ false → moved_by app s who r ≡ record { state = behind_ticks app s who r; events = r.events ++ (served_by app s who r).events }
released_move app s who r open_ = rw (open_, c_kept s who r.actor) refl

-- behind it they are: nothing is served
pub held_owes : (s : State) (who : Who) (r : Stepped) → r.shared.system.kernel.suspended ≡ true → owed (after_step s who r) ≡ []
held_owes s who r held = rw held refl

pub held_move : (app : CApplication) (s : State) (who : Who) (r : Stepped) → r.shared.system.kernel.suspended ≡ true → moved_by app s who r ≡ record { state = after_step s who r; events = r.events ++ [] }
held_move app s who r held = rw held refl

-- a step that shuts the system down
pub record ShutBehind (app : CApplication) (s : State) (who : Who) (r : Stepped) : Type 0 where
  pub events : (moved_by app s who r).events ≡ r.events ++ []
  pub shut : Shut (moved_by app s who r).state.shared.system

pub shut_move : (app : CApplication) (s : State) (who : Who) (r : Stepped) → Shut r.shared.system → ShutBehind app s who r
shut_move app s who r shut =
    let none = shut_ticks app.tables r.shared.system (owed (after_step s who r)) shut in
    record { events = rw none refl; shut = rw none shut }
