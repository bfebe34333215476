-- The relation that every move keeps, and the equality of the traces that follows, for every list of moves.
use Rattle.std.proofs.Common.{◌≡◌, ◌≢◌, ℕ, Bool, true, false, List, [], ◌∷◌, ◌++◌, map, length, Option, Some, None, refl, sym, ap, ◌∙◌, subst, append-nil}
use Rattle.std.specs.Prelude.{replicate, take}
use Rattle.osek_core.specs.declared.event.Who.{Who}
use Rattle.osek_core.specs.declared.moves.Move.{Move}
use Rattle.osek_core.specs.declared.moves.Move.TheVariants.{Run, Tick, Poke}
use Rattle.osek_core.specs.Kernel.System.{System, acting, tick_system}
use Rattle.osek_core.specs.Bytecode.Value.{Domain}
use Rattle.osek_core.specs.Bytecode.Application.{Application}
use Rattle.osek_core.specs.Bytecode.State as bytecode
use Rattle.osek_core.specs.Bytecode.Step as bytecode_step
use Rattle.osek_core.specs.Bytecode.Trace as bytecode_trace
use Rattle.csubset.specs.Machine.Application.{CApplication}
use Rattle.csubset.specs.Machine.State as c
use Rattle.csubset.specs.Machine.Step as c_step
use Rattle.csubset.specs.Machine.Trace as c_trace
use Rattle.csubset.specs.Image.{weight_of, run_image, move_image, image_from}
use Rattle.csubset.specs.Written.Isolation.{state_behind}
use Rattle.simulation.proofs.Along.{along, joined, along_append, trace_along, with_system, along_ticks}
use Rattle.simulation.proofs.Actors.{IsThere, each_actor, c_own, c_other, c_jobs, bytecode_own, bytecode_other, bytecode_jobs}
use Rattle.simulation.proofs.Lawful as lawful
use Rattle.simulation.proofs.Lawful.{Shut, suspended, domains_under}
use Rattle.simulation.proofs.Glides.{glides}
use Rattle.simulation.proofs.Moves.{none_kept, nobody_acts, tick_open, tick_held, tick_image_of, shut_tick, shut_ticks, behind_ticks, released_owes, released_move, held_owes, held_move, shut_move}

module _ (written : CApplication) (source : Application) (Sound : System → Type 0) (Holds : List (List ℕ) → List Domain → Type 0) (Grows : List Domain → List Domain → Type 0) (Stands : List Domain → Who → c.Actor → bytecode.Actor → Type 0) (Within : List Domain → Who → c.Actor → bytecode.Actor → List (List ℕ) → Type 0) where
  abbrev Lawful : Type 0
  Lawful = lawful.Lawful written source Sound Holds Grows Stands Within

  abbrev tasks : ℕ
  tasks = length written.tables.tasks

  -- what stands in and out of sections
  pub record Sized (s : c.State) (b : bytecode.State) : Type 0 where
    pub c_jobs_are : length s.jobs ≡ tasks
    pub bytecode_jobs_are : length b.jobs ≡ tasks
    pub sound : Sound b.shared.system
    pub devices : s.shared.devices ≡ b.shared.devices

  -- no actor is in a section
  pub record Apart (s : c.State) (b : bytecode.State) : Type 0 where
    pub sized : Sized s b
    pub system : s.shared.system ≡ b.shared.system
    pub none_kept : c_trace.kept_from 0 s.kept ≡ []
    pub heap : Holds s.shared.regions b.shared.domains
    pub each : (who : Who) → Stands b.shared.domains who (c.actor_of s who) (bytecode.actor_of b who)

  -- this actor is in one
  pub record InSection (s : c.State) (b : bytecode.State) (who : Who) : Type 0 where
    pub sized : Sized s b
    pub system : s.shared.system ≡ suspended b.shared.system
    pub acts : acting b.shared.system ≡ Some who
    pub within : Within b.shared.domains who (c.actor_of s who) (bytecode.actor_of b who) s.shared.regions
    pub others : (other : Who) → other ≢ who → Stands b.shared.domains other (c.actor_of s other) (bytecode.actor_of b other)

  -- the system is shut
  pub record Over (s : c.State) (b : bytecode.State) : Type 0 where
    pub here : Shut s.shared.system
    pub there : Shut b.shared.system

  pub data Related (s : c.State) (b : bytecode.State) : Type 0 where
    IsApart : Apart s b → Related s b
    IsInSection : (who : Who) → InSection s b who → Related s b
    IsOver : Over s b → Related s b

  -- a move of the C follows these moves of the bytecode
  pub record Follows (moved : c_trace.Moved) (b : bytecode.State) (image : List Move) : Type 0 where
    pub events : moved.events ≡ (along source b image).events
    pub related : Related moved.state (along source b image).state

  sound_ticks : Lawful → (y : System) (counters : List ℕ) → Sound y → Sound (c_trace.ticks written.tables y counters).system
  sound_ticks l y [] sound = sound
  sound_ticks l y (n ∷ more) sound = sound_ticks l (tick_system written.tables y n).system more (l.ticks y n sound)

  -- where a step and the Runs that it weighs have come to
  pub record Reached (s : c.State) (who : Who) (r : c_step.Stepped) (b : bytecode.State) : Type 0 where
    pub there : IsThere tasks who
    pub c_jobs_were : length s.jobs ≡ tasks
    pub bytecode_jobs_are : length b.jobs ≡ tasks
    pub sound : Sound b.shared.system
    pub devices : r.shared.devices ≡ b.shared.devices

  pub record Released (s : c.State) (who : Who) (r : c_step.Stepped) (b : bytecode.State) : Type 0 where
    pub reached : Reached s who r b
    pub system : r.shared.system ≡ b.shared.system
    pub heap : Holds r.shared.regions b.shared.domains
    pub own : Stands b.shared.domains who r.actor (bytecode.actor_of b who)
    pub others : (other : Who) → other ≢ who → Stands b.shared.domains other (c.actor_of s other) (bytecode.actor_of b other)

  -- the kept ticks are served
  released : Lawful → (s : c.State) (who : Who) (r : c_step.Stepped) (b : bytecode.State) (runs : List Move) → Released s who r (along source b runs).state → r.events ≡ (along source b runs).events → Follows (c_trace.moved_by written s who r) b (runs ++ map Tick (c_trace.owed (c_trace.after_step s who r)))
  released l s who r b runs x shows =
      let first = along source b runs in
      let open_ : r.shared.system.kernel.suspended ≡ false = rw x.system (l.calm first.state.shared.system x.reached.sound) in
      let counters = c_trace.kept_from 0 s.kept in
      let after = behind_ticks written s who r in
      let system = (c_trace.ticks written.tables first.state.shared.system counters).system in
      let image : along source b (runs ++ map Tick counters) ≡ joined first (record { state = with_system first.state system; events = (c_trace.ticks written.tables first.state.shared.system counters).events }) =
      along_append source b runs (map Tick counters) ∙ ap (λ m. joined first m) (rw l.same_tables (along_ticks source first.state counters)) in
      let apart : Apart after (with_system first.state system) = record {
        sized = record {
          c_jobs_are = c_jobs s who r.actor ∙ x.reached.c_jobs_were;
          bytecode_jobs_are = x.reached.bytecode_jobs_are;
          sound = sound_ticks l first.state.shared.system counters x.reached.sound;
          devices = x.reached.devices;
        };
        system = ap (λ y. (c_trace.ticks written.tables y counters).system) x.system;
        none_kept = none_kept 0 s.kept;
        heap = x.heap;
        each = each_actor (λ any. Stands first.state.shared.domains any (c.actor_of after any) (bytecode.actor_of first.state any)) who
            (rw (c_own s who r.actor tasks x.reached.c_jobs_were x.reached.there) x.own)
            (λ other ne. rw (c_other s who other r.actor ne) (x.others other ne));
      } in
      rw (released_move written s who r open_, released_owes s who r open_)
      (record {
        events = rw image (rw (shows, x.system) refl);
        related = rw image (IsApart apart);
      })

  -- a section is open behind the step, and the bytecode hasn't moved
  record Held (s : c.State) (who : Who) (r : c_step.Stepped) (b : bytecode.State) : Type 0 where
    pub reached : Reached s who r b
    pub system : r.shared.system ≡ suspended b.shared.system
    pub acts : acting b.shared.system ≡ Some who
    pub own : Within b.shared.domains who r.actor (bytecode.actor_of b who) r.shared.regions
    pub others : (other : Who) → other ≢ who → Stands b.shared.domains other (c.actor_of s other) (bytecode.actor_of b other)

  held : (s : c.State) (who : Who) (r : c_step.Stepped) (b : bytecode.State) → Held s who r b → r.events ≡ [] → Follows (c_trace.moved_by written s who r) b ([] ++ map Tick (c_trace.owed (c_trace.after_step s who r)))
  held s who r b x shows =
      let closed : r.shared.system.kernel.suspended ≡ true = rw x.system refl in
      let after = c_trace.after_step s who r in
      let inside : InSection after b who = record {
        sized = record {
          c_jobs_are = c_jobs s who r.actor ∙ x.reached.c_jobs_were;
          bytecode_jobs_are = x.reached.bytecode_jobs_are;
          sound = x.reached.sound;
          devices = x.reached.devices;
        };
        system = x.system;
        acts = x.acts;
        within = rw (c_own s who r.actor tasks x.reached.c_jobs_were x.reached.there) x.own;
        others = λ other ne. rw (c_other s who other r.actor ne) (x.others other ne);
      } in
      rw (held_move written s who r closed, held_owes s who r closed)
      (record { events = rw shows refl; related = IsInSection who inside })

  -- both are shut behind the step and the Runs
  shut : Lawful → (s : c.State) (who : Who) (r : c_step.Stepped) (b : bytecode.State) (runs : List Move) → Shut r.shared.system → Shut (along source b runs).state.shared.system → r.events ≡ (along source b runs).events → Follows (c_trace.moved_by written s who r) b (runs ++ map Tick (c_trace.owed (c_trace.after_step s who r)))
  shut l s who r b runs here there shows =
      let first = along source b runs in
      let counters = c_trace.owed (c_trace.after_step s who r) in
      let behind = shut_move written s who r here in
      let image : along source b (runs ++ map Tick counters) ≡ joined first (record { state = first.state; events = [] }) =
      along_append source b runs (map Tick counters)
      ∙ ap (λ m. joined first m) (along_ticks source first.state counters)
      ∙ ap (λ t. joined first (record { state = with_system first.state t.system; events = t.events })) (shut_ticks source.config.tables first.state.shared.system counters there) in
      record {
        events = rw image (behind.events ∙ rw shows refl);
        related = rw image (IsOver (record { here = behind.shut; there = there }));
      }

  -- the bytecode's shared part is the C's but for the heap
  rejoined : (s : c.State) (b : bytecode.State) → s.shared.system ≡ b.shared.system → s.shared.devices ≡ b.shared.devices → domains_under b.shared.domains s.shared.devices s.shared.system ≡ b.shared
  rejoined s b y d = ap (λ x. domains_under b.shared.domains x s.shared.system) d ∙ ap (λ x. domains_under b.shared.domains b.shared.devices x) y

  abbrev OutsideStep : c.State → bytecode.State → Who → bytecode.Shared → Type 0
  OutsideStep s b who shared =
      lawful.Outside written source Sound Holds Grows Stands Within b.shared.domains who (c.actor_of s who) (bytecode.actor_of b who) s.shared
      (c_step.step written who (c.actor_of s who) s.shared) (bytecode_step.step source who (bytecode.actor_of b who) shared)

  -- a Run of an actor outside sections
  abbrev FollowsRun : c.State → bytecode.State → Who → Type 0
  FollowsRun s b who = Follows (c_trace.run written s (Some who)) b (run_image written s (Some who))

  after_private : Lawful → (s : c.State) (b : bytecode.State) (who : Who) → Apart s b → acting b.shared.system ≡ Some who → IsThere tasks who → (n : ℕ) (after : bytecode.Actor) → weight_of written.map (c.actor_of s who) ≡ n → (c_step.step written who (c.actor_of s who) s.shared).shared ≡ s.shared → (c_step.step written who (c.actor_of s who) s.shared).events ≡ [] → lawful.Glides source who n (bytecode.actor_of b who) b.shared after → Stands b.shared.domains who (c_step.step written who (c.actor_of s who) s.shared).actor after → FollowsRun s b who
  after_private l s b who a acts there n after weight same shows glide stands =
      let g = glides source n b who after tasks acts a.sized.bytecode_jobs_are there glide in
      rw weight (released l s who (c_step.step written who (c.actor_of s who) s.shared) b (replicate n Run)
      (record {
        reached = record {
          there = there;
          c_jobs_were = a.sized.c_jobs_are;
          bytecode_jobs_are = g.jobs ∙ a.sized.bytecode_jobs_are;
          sound = rw g.shared a.sized.sound;
          devices = rw (g.shared, same) a.sized.devices;
        };
        system = rw (g.shared, same) a.system;
        heap = rw (g.shared, same) a.heap;
        own = rw (g.shared, g.own) stands;
        others = λ other ne. rw (g.shared, g.others other ne) (a.each other);
      })
      (shows ∙ sym g.shows))

  -- both have made a step, which the bytecode's Run is
  after_both : Lawful → (s : c.State) (b : bytecode.State) (who : Who) → length s.jobs ≡ tasks → length b.jobs ≡ tasks → acting b.shared.system ≡ Some who → IsThere tasks who
      → ((other : Who) → other ≢ who → Stands b.shared.domains other (c.actor_of s other) (bytecode.actor_of b other))
      → weight_of written.map (c.actor_of s who) ≡ 1
      → (c_step.step written who (c.actor_of s who) s.shared).events ≡ (bytecode_step.step source who (bytecode.actor_of b who) b.shared).events
      → lawful.Both written source Sound Holds Grows Stands Within b.shared.domains who (c_step.step written who (c.actor_of s who) s.shared) (bytecode_step.step source who (bytecode.actor_of b who) b.shared)
      → FollowsRun s b who
  after_both l s b who c_jobs_are b_jobs_are acts there others weight shows (lawful.GoesOn t) =
      let q = bytecode_step.step source who (bytecode.actor_of b who) b.shared in
      rw weight (released l s who (c_step.step written who (c.actor_of s who) s.shared) b (replicate 1 Run)
      (rw acts (record {
        reached = record {
          there = there;
          c_jobs_were = c_jobs_are;
          bytecode_jobs_are = bytecode_jobs b who q.actor ∙ b_jobs_are;
          sound = t.sound;
          devices = t.devices;
        };
        system = t.system;
        heap = t.heap;
        own = rw (bytecode_own b who q.actor tasks b_jobs_are there) t.stands;
        others = λ other ne. rw (bytecode_other b who other q.actor ne) (l.stays _ _ _ _ _ t.grows (others other ne));
      }))
      (rw acts (shows ∙ sym (append-nil q.events))))
  after_both l s b who c_jobs_are b_jobs_are acts there others weight shows (lawful.Shuts here gone) =
      let q = bytecode_step.step source who (bytecode.actor_of b who) b.shared in
      rw weight (shut l s who (c_step.step written who (c.actor_of s who) s.shared) b (replicate 1 Run) here
      (rw acts gone)
      (rw acts (shows ∙ sym (append-nil q.events))))

  outside_run : Lawful → (s : c.State) (b : bytecode.State) (who : Who) → Apart s b → acting b.shared.system ≡ Some who → IsThere tasks who → OutsideStep s b who b.shared → FollowsRun s b who
  outside_run l s b who a acts there (lawful.Private n after weight same shows glide stands) =
      after_private l s b who a acts there n after weight same shows
      (subst (λ shared. lawful.Glides source who n (bytecode.actor_of b who) shared after) (rejoined s b a.system a.sized.devices) glide) stands
  outside_run l s b who a acts there (lawful.Public weight shows both) =
      after_both l s b who a.sized.c_jobs_are a.sized.bytecode_jobs_are acts there (λ other ne. a.each other) weight shows both
  outside_run l s b who a acts there (lawful.Begins weight opened shows within) =
      rw weight (held s who (c_step.step written who (c.actor_of s who) s.shared) b
      (record {
        reached = record {
          there = there;
          c_jobs_were = a.sized.c_jobs_are;
          bytecode_jobs_are = a.sized.bytecode_jobs_are;
          sound = a.sized.sound;
          devices = rw opened a.sized.devices;
        };
        system = rw opened (ap suspended a.system);
        acts = acts;
        own = rw opened within;
        others = λ other ne. a.each other;
      })
      shows)

  abbrev InsideStep : c.State → bytecode.State → Who → c.Shared → bytecode.Shared → Type 0
  InsideStep s b who here there =
      lawful.Inside written source Sound Holds Grows Stands Within b.shared.domains who (c.actor_of s who) (bytecode.actor_of b who) s.shared.devices b.shared.system
      (c_step.step written who (c.actor_of s who) here) (bytecode_step.step source who (bytecode.actor_of b who) there)

  -- a Run of the actor that is in a section
  inside_run : Lawful → (s : c.State) (b : bytecode.State) (who : Who) → InSection s b who → IsThere tasks who → InsideStep s b who s.shared b.shared → FollowsRun s b who
  inside_run l s b who i there (lawful.Inner weight devices system shows within) =
      rw weight (held s who (c_step.step written who (c.actor_of s who) s.shared) b
      (record {
        reached = record {
          there = there;
          c_jobs_were = i.sized.c_jobs_are;
          bytecode_jobs_are = i.sized.bytecode_jobs_are;
          sound = i.sized.sound;
          devices = devices ∙ i.sized.devices;
        };
        system = system;
        acts = i.acts;
        own = within;
        others = i.others;
      })
      shows)
  inside_run l s b who i there (lawful.Breaks weight shows here gone) =
      let q = bytecode_step.step source who (bytecode.actor_of b who) b.shared in
      rw weight (shut l s who (c_step.step written who (c.actor_of s who) s.shared) b (replicate 1 Run) here
      (rw i.acts gone)
      (rw i.acts (shows ∙ sym (append-nil q.events))))
  inside_run l s b who i there (lawful.Ends weight devices system shows heap stands) =
      rw weight (released l s who (c_step.step written who (c.actor_of s who) s.shared) b []
      (record {
        reached = record {
          there = there;
          c_jobs_were = i.sized.c_jobs_are;
          bytecode_jobs_are = i.sized.bytecode_jobs_are;
          sound = i.sized.sound;
          devices = devices ∙ i.sized.devices;
        };
        system = system;
        heap = heap;
        own = stands;
        others = i.others;
      })
      shows)
  inside_run l s b who i there (lawful.EndsWeighted weight shows together) =
      after_both l s b who i.sized.c_jobs_are i.sized.bytecode_jobs_are i.acts there i.others weight shows (lawful.GoesOn together)

  -- nobody acts
  nobody_runs : (s : c.State) (b : bytecode.State) → Related s b → Follows (c_trace.run written s None) b (run_image written s None)
  nobody_runs s b r = record { events = refl; related = r }

  apart_run : Lawful → (s : c.State) (b : bytecode.State) → Apart s b → (actor : Option Who) → acting s.shared.system ≡ actor → Follows (c_trace.run written s actor) b (run_image written s actor)
  apart_run l s b a None acts = nobody_runs s b (IsApart a)
  apart_run l s b a (Some who) acts =
      let same = rejoined s b a.system a.sized.devices in
      let sound : Sound s.shared.system = rw a.system a.sized.sound in
      let acts_there : acting b.shared.system ≡ Some who = ap acting (sym a.system) ∙ acts in
      outside_run l s b who a acts_there (l.there b.shared.system who a.sized.sound acts_there)
      (subst (OutsideStep s b who) same (l.outside b.shared.domains who (c.actor_of s who) (bytecode.actor_of b who) s.shared acts sound a.heap (a.each who)))

  section_run : Lawful → (s : c.State) (b : bytecode.State) (who : Who) → InSection s b who → Follows (c_trace.run written s (Some who)) b (run_image written s (Some who))
  section_run l s b who i =
      let here : lawful.regions_under s.shared.regions s.shared.devices (suspended b.shared.system) ≡ s.shared =
      ap (λ y. lawful.regions_under s.shared.regions s.shared.devices y) (sym i.system) in
      let there : domains_under b.shared.domains s.shared.devices b.shared.system ≡ b.shared =
      ap (λ d. domains_under b.shared.domains d b.shared.system) i.sized.devices in
      inside_run l s b who i (l.there b.shared.system who i.sized.sound i.acts)
      (subst (λ x. InsideStep s b who x b.shared) here
      (subst (λ x. InsideStep s b who (lawful.regions_under s.shared.regions s.shared.devices (suspended b.shared.system)) x) there
      (l.inside b.shared.domains who (c.actor_of s who) (bytecode.actor_of b who) s.shared.regions s.shared.devices b.shared.system i.acts i.sized.sound i.within)))

  -- one move
  abbrev FollowsMove : c.State → bytecode.State → Move → Type 0
  FollowsMove s b m = Follows (c_trace.c_move written s m) b (move_image written s m)

  follows_by : {moved moved_so : c_trace.Moved} {b : bytecode.State} {image image_so : List Move} → moved ≡ moved_so → image ≡ image_so → Follows moved_so b image_so → Follows moved b image
  follows_by {moved_so = moved_so} {b = b} {image = image} m i f =
      subst (λ x. Follows x b image) (sym m) (subst (λ x. Follows moved_so b x) (sym i) f)

  apart_tick : Lawful → (s : c.State) (b : bytecode.State) (counter : ℕ) → Apart s b → FollowsMove s b (Tick counter)
  apart_tick l s b counter a =
      let open_ : s.shared.system.kernel.suspended ≡ false = rw a.system (l.calm b.shared.system a.sized.sound) in
      let here = tick_system written.tables s.shared.system counter in
      let there = tick_system source.config.tables b.shared.system counter in
      let same : here ≡ there = ap (λ y. tick_system written.tables y counter) a.system ∙ ap (λ tables. tick_system tables b.shared.system counter) l.same_tables in
      let next : Apart (c_trace.set_system s here.system) (with_system b there.system) = record {
        sized = record {
          c_jobs_are = a.sized.c_jobs_are;
          bytecode_jobs_are = a.sized.bytecode_jobs_are;
          sound = subst (λ t. Sound t.system) (ap (λ tables. tick_system tables b.shared.system counter) l.same_tables) (l.ticks b.shared.system counter a.sized.sound);
          devices = a.sized.devices;
        };
        system = ap (λ t. t.system) same;
        none_kept = a.none_kept;
        heap = a.heap;
        each = a.each;
      } in
      follows_by (tick_open written s counter open_) (tick_image_of s counter false open_)
      (record { events = ap (λ t. t.events) same ∙ sym (append-nil there.events); related = IsApart next })

  apart_poke : (s : c.State) (b : bytecode.State) (at : ℕ) (bytes : _) → Apart s b → FollowsMove s b (Poke at bytes)
  apart_poke s b at bytes a = record {
    events = refl;
    related = IsApart (record {
      sized = record { c_jobs_are = a.sized.c_jobs_are; bytecode_jobs_are = a.sized.bytecode_jobs_are; sound = a.sized.sound; devices = ap (λ d. bytecode_trace.written d at (take bytes.len bytes.bytes)) a.sized.devices };
      system = a.system;
      none_kept = a.none_kept;
      heap = a.heap;
      each = a.each;
    });
  }

  apart_move : Lawful → (s : c.State) (b : bytecode.State) (m : Move) → Apart s b → FollowsMove s b m
  apart_move l s b Run a = apart_run l s b a (acting s.shared.system) refl
  apart_move l s b (Tick counter) a = apart_tick l s b counter a
  apart_move l s b (Poke at bytes) a = apart_poke s b at bytes a

  section_move : Lawful → (s : c.State) (b : bytecode.State) (who : Who) (m : Move) → InSection s b who → FollowsMove s b m
  section_move l s b who Run i =
      let acts : acting s.shared.system ≡ Some who = ap acting i.system ∙ i.acts in
      rw acts (section_run l s b who i)
  section_move l s b who (Tick counter) i =
      let closed : s.shared.system.kernel.suspended ≡ true = rw i.system refl in
      follows_by (tick_held written s counter closed) (tick_image_of s counter true closed)
      (record {
        events = refl;
        related = IsInSection who (record {
          sized = record { c_jobs_are = i.sized.c_jobs_are; bytecode_jobs_are = i.sized.bytecode_jobs_are; sound = i.sized.sound; devices = i.sized.devices };
          system = i.system;
          acts = i.acts;
          within = i.within;
          others = i.others;
        });
      })
  section_move l s b who (Poke at bytes) i = record {
    events = refl;
    related = IsInSection who (record {
      sized = record { c_jobs_are = i.sized.c_jobs_are; bytecode_jobs_are = i.sized.bytecode_jobs_are; sound = i.sized.sound; devices = ap (λ d. bytecode_trace.written d at (take bytes.len bytes.bytes)) i.sized.devices };
      system = i.system;
      acts = i.acts;
      within = i.within;
      others = i.others;
    });
  }

  over_tick : (s : c.State) (b : bytecode.State) (counter : ℕ) → Over s b → (held : Bool) → s.shared.system.kernel.suspended ≡ held → FollowsMove s b (Tick counter)
  over_tick s b counter o true e =
      follows_by (tick_held written s counter e) (tick_image_of s counter true e)
      (record { events = refl; related = IsOver (record { here = o.here; there = o.there }) })
  over_tick s b counter o false e =
      let here = shut_tick written.tables s.shared.system counter o.here in
      let there = shut_tick source.config.tables b.shared.system counter o.there in
      follows_by (tick_open written s counter e ∙ ap (λ t. record { state = c_trace.set_system s t.system; events = t.events }) here) (tick_image_of s counter false e)
      (record {
        events = ap (λ t. t.events ++ []) (sym there);
        related = IsOver (record { here = o.here; there = subst (λ t. Shut t.system) (sym there) o.there });
      })

  over_run : (s : c.State) (b : bytecode.State) → Over s b → (actor : Option Who) → actor ≡ None → Follows (c_trace.run written s actor) b (run_image written s actor)
  over_run s b o actor none = subst (λ x. Follows (c_trace.run written s x) b (run_image written s x)) (sym none) (nobody_runs s b (IsOver o))

  over_move : (s : c.State) (b : bytecode.State) (m : Move) → Over s b → FollowsMove s b m
  over_move s b Run o = over_run s b o (acting s.shared.system) (nobody_acts s.shared.system o.here)
  over_move s b (Tick counter) o = over_tick s b counter o s.shared.system.kernel.suspended refl
  over_move s b (Poke at bytes) o = record { events = refl; related = IsOver (record { here = o.here; there = o.there }) }

  pub follows : Lawful → (s : c.State) (b : bytecode.State) (m : Move) → Related s b → FollowsMove s b m
  follows l s b m (IsApart a) = apart_move l s b m a
  follows l s b m (IsInSection who i) = section_move l s b who m i
  follows l s b m (IsOver o) = over_move s b m o

  -- from related states, preempted anywhere, for every list of moves
  pub same_trace : Lawful → (moves : List Move) (s : c.State) (b : bytecode.State) → Related s b → c_trace.c_trace_from written s moves ≡ bytecode_trace.trace_from source b (image_from written s moves)
  same_trace l [] s b r = refl
  same_trace l (m ∷ moves) s b r =
      let f = follows l s b m r in
      let next = c_trace.c_move written s m in
      rw (trace_along source b (move_image written s m) (image_from written next.state moves), f.events)
      (ap (λ e. (along source b (move_image written s m)).events ++ e) (same_trace l moves next.state _ f.related))

  -- a state of the bytecode to which the state behind a list of moves is related
  pub record Behind (s : c.State) : Type 0 where
    pub state : bytecode.State
    pub related : Related s state

  pub related_behind : Lawful → (moves : List Move) (s : c.State) (b : bytecode.State) → Related s b → Behind (state_behind written s moves)
  related_behind l [] s b r = record { state = b; related = r }
  related_behind l (m ∷ moves) s b r = related_behind l moves (c_trace.c_move written s m).state _ (follows l s b m r).related
