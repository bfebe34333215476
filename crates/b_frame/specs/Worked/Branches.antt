-- Worked examples of branches to the instruction at 40 and of a switch. The top stands first, so a test asks of the second whether it is
-- less than the first.
use Rattle.std.specs.Prelude.{◌≡◌, ℤ, pos, negsuc, true, false, ℕ, List, [], ◌∷◌, Some, None}
use Rattle.values.specs.declared.value.Value.TheVariants.{Int, Long, Null, Object, Device}
use Rattle.jcode.specs.declared.op.Op.TheVariants as op
use Rattle.jcode.specs.declared.op.Test.TheVariants as test
use Rattle.b_frame.specs.Stepped.{Jump}
use Rattle.b_frame.specs.Worked.Setting.{frame, step, goes_on, jumps_to}

abbrev pub IntsAreTested : Type 0
IntsAreTested =
    (step (op.IfZero test.Lt 40) (Int (negsuc 0) ∷ []) ≡ jumps_to []) × (step (op.IfZero test.Lt 40) (Int (pos 0) ∷ []) ≡ goes_on [])
    × (step (op.IfZero test.Ge 40) (Int (pos 0) ∷ []) ≡ jumps_to []) × (step (op.IfZero test.Ne 40) (Int (pos 0) ∷ []) ≡ goes_on [])
    × (step (op.IfInt test.Lt 40) (Int (pos 2) ∷ Int (pos 1) ∷ []) ≡ jumps_to []) × (step (op.IfInt test.Lt 40) (Int (pos 1) ∷ Int (pos 2) ∷ []) ≡ goes_on [])
    × (step (op.IfInt test.Le 40) (Int (pos 2) ∷ Int (pos 2) ∷ Null ∷ []) ≡ jumps_to (Null ∷ [])) × (step (op.IfInt test.Gt 40) (Int (pos 2) ∷ Int (pos 2) ∷ []) ≡ goes_on [])
    × (step (op.IfInt test.Eq 40) (Int (negsuc 1) ∷ Int (negsuc 1) ∷ []) ≡ jumps_to []) × (step (op.IfInt test.Eq 40) (Long (pos 1) ∷ Int (pos 1) ∷ []) ≡ None)

abbrev pub ReferencesAreTested : Type 0
ReferencesAreTested =
    (step (op.IfRef true 40) (Object 1 ∷ Object 1 ∷ []) ≡ jumps_to []) × (step (op.IfRef true 40) (Object 1 ∷ Object 2 ∷ []) ≡ goes_on []) × (step (op.IfRef false 40) (Null ∷ Object 2 ∷ []) ≡ jumps_to [])
    × (step (op.IfRef true 40) (Device 1 ∷ Object 1 ∷ []) ≡ goes_on []) × (step (op.IfRef true 40) (Null ∷ Null ∷ []) ≡ jumps_to []) × (step (op.IfRef true 40) (Int (pos 1) ∷ Null ∷ []) ≡ None)
    × (step (op.IfNull true 40) (Null ∷ []) ≡ jumps_to []) × (step (op.IfNull false 40) (Null ∷ []) ≡ goes_on []) × (step (op.IfNull false 40) (Device 0 ∷ []) ≡ jumps_to [])

abbrev pub cases : List (ℤ × ℕ)
cases = (negsuc 0, 10) ∷ (pos 7, 20) ∷ []

abbrev pub KeysAreFound : Type 0
KeysAreFound = (step (op.Goto 40) [] ≡ jumps_to []) × (step (op.Switch cases 30) (Int (negsuc 0) ∷ []) ≡ Some (Jump (frame []) 10))
    × (step (op.Switch cases 30) (Int (pos 7) ∷ []) ≡ Some (Jump (frame []) 20)) × (step (op.Switch cases 30) (Int (pos 8) ∷ []) ≡ Some (Jump (frame []) 30))
