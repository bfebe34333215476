-- The isolation of domains: a step touches its own domain's regions alone, but for the section of a copier, which loads
-- from the caller's heap and makes copies in the server's.
use Rattle.std.specs.Prelude.{◌≡◌, ◌≤◌, ◌<◌, ◌⊎◌, ℕ, ◌+◌, List, [], ◌∷◌, All, Some, slice_get}
use Rattle.osek_core.specs.declared.event.Who.{Who}
use Rattle.osek_core.specs.declared.moves.Move.{Move}
use Rattle.osek_core.specs.Kernel.System.{acting}
use Rattle.csubset.specs.declared.map.RegionRow.TheVariants.{Heap, Statics, Scratch}
use Rattle.csubset.specs.declared.map.Map.{Map}
use Rattle.csubset.specs.Machine.Application.{CApplication}
use Rattle.csubset.specs.Machine.State.{Frame, Actor, State, actor_of, first_state}
use Rattle.csubset.specs.Machine.Trace.{c_move}
use Rattle.csubset.specs.Written.Regions.{IsInCopy}
use Rattle.csubset.specs.Written.Touched.{Access, Loads, Stores, touched, domain_of}

abbrev pub IsHeapOf : Map → ℕ → ℕ → Type 0
IsHeapOf map domain region = slice_get map.regions region ≡ Some (Heap domain)

abbrev pub IsStaticsOf : Map → ℕ → ℕ → Type 0
IsStaticsOf map domain region = slice_get map.regions region ≡ Some (Statics domain)

-- the byte is one of this domain's own
abbrev pub IsOwn : Map → ℕ → Access → Type 0
IsOwn map domain (Loads region byte) = IsHeapOf map domain region ⊎ IsStaticsOf map domain region
IsOwn map domain (Stores region byte) = IsHeapOf map domain region ⊎ IsStaticsOf map domain region

-- where a domain's fill mark, 8 bytes, stands: its region and first byte
pub record Mark : Type 0 where
  pub region : ℕ
  pub at : ℕ

abbrev pub IsOfMark : Mark → ℕ → ℕ → Type 0
IsOfMark mark region byte = (region ≡ mark.region) × ((mark.at ≤ byte) × (byte < mark.at + 8))

-- what a copy may store into, for a server with this mark
abbrev pub IsCopyTarget : Map → ℕ → Mark → ℕ → ℕ → Type 0
IsCopyTarget map server mark region byte =
    IsHeapOf map server region ⊎ (IsOfMark mark region byte ⊎ (slice_get map.regions region ≡ Some Scratch))

-- a copy loads from the caller's heap besides
abbrev pub IsOfCopy : Map → ℕ → ℕ → Mark → Access → Type 0
IsOfCopy map from server mark (Loads region byte) = IsHeapOf map from region ⊎ IsCopyTarget map server mark region byte
IsOfCopy map from server mark (Stores region byte) = IsCopyTarget map server mark region byte

-- the actor's next step is part of a copy for this portal
pub record IsCopying (app : CApplication) (portal : ℕ) (actor : Actor) : Type 0 where
  pub frame : Frame
  pub callers : List Frame
  pub stands : actor.frames ≡ frame ∷ callers
  pub inside : IsInCopy app.program app.map portal frame.function frame.place

-- by each portal's server domain, and each domain's mark
pub record StepIsApart (app : CApplication) (server : ℕ → ℕ) (mark : ℕ → Mark) (actor : Actor) (domain : ℕ) : Type 0 where
  pub own : ((portal : ℕ) → IsCopying app portal actor → ⊥) → All (IsOwn app.map domain) (touched app.program actor)
  pub copied : (portal : ℕ) → IsCopying app portal actor
      → All (IsOfCopy app.map domain (server portal) (mark (server portal))) (touched app.program actor)

-- the state behind a list of moves
abbrev pub state_behind : CApplication → State → List Move → State
state_behind app s [] = s
state_behind app s (m ∷ moves) = state_behind app (c_move app s m).state moves

-- of every step of every run
abbrev pub KeepsApart : CApplication → (ℕ → ℕ) → (ℕ → Mark) → Type 0
KeepsApart app server mark =
    (moves : List Move) (who : Who) (domain : ℕ) →
    let s = state_behind app (first_state app) moves in
    acting s.shared.system ≡ Some who → domain_of app.map (actor_of s who) ≡ Some domain → StepIsApart app server mark (actor_of s who) domain
