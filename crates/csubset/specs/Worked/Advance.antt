-- A copier's section: which bytes its steps touch, and how many of them have weighed nothing.
use Rattle.std.specs.Prelude.{◌≡◌, ℕ, List, [], ◌∷◌, ◌++◌}
use Rattle.osek_core.specs.declared.event.Who.TheVariants.{Task}
use Rattle.osek_core.specs.declared.moves.Move.{Move}
use Rattle.osek_core.specs.declared.moves.Move.TheVariants.{Tick}
use Rattle.osek_core.specs.Worked.Application.{runs}
use Rattle.csubset.specs.declared.expression.Atom.TheVariants.{Word, Number}
use Rattle.csubset.specs.declared.statement.Form.{Form}
use Rattle.csubset.specs.declared.statement.Form.TheVariants as form
use Rattle.csubset.specs.Machine.Application.{CApplication}
use Rattle.csubset.specs.Machine.State.{actor_of, first_state}
use Rattle.csubset.specs.Written.Bound.{bound, idle_steps}
use Rattle.csubset.specs.Written.Isolation.{state_behind}
use Rattle.csubset.specs.Written.Touched.{Access, Loads, Stores, touched}
use Rattle.csubset.specs.Worked.Application.{program, tables, map_of}

abbrev pub forms : List Form
forms = form.Suspend ∷ form.Load 0 2 0 (Number 0) ∷ form.Store 4 0 (Number 4) (Word 0) ∷ form.Resume ∷ form.Return (Number 0) ∷ []

abbrev pub app : CApplication
app = record { program = program forms; tables = tables; map = map_of (0 ∷ 0 ∷ 0 ∷ 1 ∷ 1 ∷ []) }

abbrev pub touched_behind : List Move → List Access
touched_behind moves = touched app.program (actor_of (state_behind app (first_state app) moves) (Task 0))

abbrev pub idle : List Move → ℕ
idle moves = idle_steps app (first_state app) (Task 0) 0 moves

pub record AdvanceHolds : Type 0 where
  pub load : touched_behind (runs 1) ≡ Loads 0 0 ∷ Loads 0 1 ∷ []
  pub store : touched_behind (runs 2) ≡ Stores 0 4 ∷ Stores 0 5 ∷ Stores 0 6 ∷ Stores 0 7 ∷ []
  pub none : touched_behind (runs 3) ≡ []
  pub idle_in_section : idle (runs 1 ++ Tick 0 ∷ runs 2) ≡ 3
  pub idle_behind : idle (runs 4) ≡ 0
  pub without_portals : bound [] (64 ∷ 128 ∷ []) ≡ 64
  pub greatest : bound (1 ∷ 4 ∷ []) (64 ∷ 128 ∷ []) ≡ 33856
