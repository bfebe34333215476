-- Steps without a meaning: a division by zero, a load that is outside its region or not aligned, and one of the device.
-- A load inside has the bytes in the map's order.
use Rattle.std.specs.Prelude.{◌≡◌, List, [], ◌∷◌, ◌++◌}
use Rattle.osek_core.specs.declared.event.Who.TheVariants.{Task}
use Rattle.osek_core.specs.declared.event.Event.{Event}
use Rattle.osek_core.specs.declared.event.Event.TheVariants.{Stuck, DevRead, DevWrite}
use Rattle.osek_core.specs.Worked.Application.{runs}
use Rattle.csubset.specs.declared.expression.Atom.TheVariants.{Word, Number}
use Rattle.csubset.specs.declared.expression.TwoOp.TheVariants.{Div8}
use Rattle.csubset.specs.declared.expression.Expr.TheVariants.{Atom, Two}
use Rattle.csubset.specs.declared.statement.Form.{Form}
use Rattle.csubset.specs.declared.statement.Form.TheVariants as form
use Rattle.csubset.specs.Worked.Application.{shown}

-- what these statements and a return behind them show of five Runs
abbrev pub of_five : List Form → List Event
of_five forms = shown (forms ++ form.Return (Number 0) ∷ []) [] (runs 5)

abbrev pub just_stuck : List Event
just_stuck = Stuck (Task 0) ∷ []

pub record MeaninglessIsStuck : Type 0 where
  pub division : of_five (form.Assign 0 (Two Div8 (Atom (Number 1)) (Atom (Number 0))) ∷ []) ≡ just_stuck
  pub outside : of_five (form.Load 0 8 0 (Number 8) ∷ []) ≡ just_stuck
  pub over_the_end : of_five (form.Load 0 4 0 (Number 6) ∷ []) ≡ just_stuck
  pub unaligned : of_five (form.Load 0 2 0 (Number 1) ∷ []) ≡ just_stuck
  pub store_outside : of_five (form.Store 1 0 (Number 8) (Number 0) ∷ []) ≡ just_stuck
  pub device_outside : of_five (form.DeviceLoad 0 1 (Number 8) ∷ []) ≡ just_stuck
  pub no_statement : shown [] [] (runs 5) ≡ just_stuck

-- the region holds 513, and its second byte is 2; a device write shows the low bytes
abbrev pub moving : List Form
moving =
    form.Load 0 1 0 (Number 1) ∷ form.Store 4 0 (Number 4) (Word 0) ∷ form.Load 0 8 0 (Number 0)
    ∷ form.DeviceStore 2 (Number 6) (Word 0) ∷ form.DeviceLoad 0 1 (Number 7) ∷ []

abbrev pub LoadsAndStores : Type 0
LoadsAndStores = of_five moving ≡ DevWrite (Task 0) 6 2 513 ∷ DevRead (Task 0) 7 1 2 ∷ []
