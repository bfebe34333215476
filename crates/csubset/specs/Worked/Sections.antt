-- Interrupt sections: a tick that is kept, and a failure.
use Rattle.std.specs.Prelude.{◌≡◌, pos, List, [], ◌∷◌, ◌++◌, Some}
use Rattle.osek_core.specs.declared.call.Call.TheVariants.{TerminateTask}
use Rattle.osek_core.specs.declared.event.Who.TheVariants.{Task}
use Rattle.osek_core.specs.declared.event.Event.TheVariants.{Service, Lost, Fail}
use Rattle.osek_core.specs.declared.event.FailKind.TheVariants.{DivZero}
use Rattle.osek_core.specs.declared.moves.Move.TheVariants.{Run, Tick}
use Rattle.osek_core.specs.Worked.Application.{runs}
use Rattle.csubset.specs.declared.expression.Atom.TheVariants.{Number}
use Rattle.csubset.specs.declared.statement.Form.{Form}
use Rattle.csubset.specs.declared.statement.Form.TheVariants as form
use Rattle.csubset.specs.Machine.Trace.{keep, kept_from}
use Rattle.csubset.specs.Worked.Application.{shown, image_of}

-- the tick comes in the section, and its activation is lost behind RESUME, also where no move follows
abbrev pub kept_tick : List Form
kept_tick = form.Suspend ∷ form.Resume ∷ form.Return (Number 0) ∷ []

pub record KeptTickIsServed : Type 0 where
  pub inside : shown kept_tick (0 ∷ 1 ∷ 1 ∷ []) (Run ∷ Tick 0 ∷ []) ≡ []
  pub behind : shown kept_tick (0 ∷ 1 ∷ 1 ∷ []) (Run ∷ Tick 0 ∷ Run ∷ []) ≡ Lost 0 ∷ []
  pub image : image_of kept_tick (0 ∷ 1 ∷ 1 ∷ []) (Run ∷ Tick 0 ∷ Run ∷ []) ≡ Run ∷ Tick 0 ∷ []
  -- counters in order; a tick past the greatest number of them is never served
  pub order : kept_from 0 (2 ∷ 0 ∷ 1 ∷ []) ≡ 0 ∷ 0 ∷ 2 ∷ []
  pub most : keep (18446744073709551615 ∷ 3 ∷ []) 0 ≡ 18446744073709551615 ∷ 3 ∷ []
  pub whole : shown kept_tick (0 ∷ 1 ∷ 1 ∷ []) (Run ∷ Tick 0 ∷ runs 9) ≡ Lost 0 ∷ Service (Task 0) TerminateTask (pos 0) ∷ []

-- nothing is shown behind the failure, and a later tick is kept for ever
pub record FailShutsDown : Type 0 where
  pub events : shown (form.Suspend ∷ form.Fail 1 ∷ []) (0 ∷ 1 ∷ []) (runs 3 ++ Tick 0 ∷ runs 3)
      ≡ Fail (Task 0) DivZero (Some (record { method = 0; pc = 7 })) ∷ []
  pub image : image_of (form.Suspend ∷ form.Fail 1 ∷ []) (0 ∷ 1 ∷ []) (runs 3 ++ Tick 0 ∷ runs 3) ≡ Run ∷ []
