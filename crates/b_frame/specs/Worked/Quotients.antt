-- Worked examples of quotients and remainders.
use Rattle.std.specs.Prelude.{◌≡◌, pos, negsuc, true, false, [], ◌∷◌, Some}
use Rattle.osek_core.specs.declared.event.FailKind.TheVariants.{DivZero}
use Rattle.values.specs.declared.value.Value.TheVariants.{Int, Long}
use Rattle.jcode.specs.declared.op.Op.TheVariants as op
use Rattle.b_frame.specs.Stepped.{Fails}
use Rattle.b_frame.specs.Worked.Setting.{step, goes_on}

-- -7 / 2 is -3, and -7 % 2 is -1; 7 % -2 is 1
abbrev pub RoundsTowardZero : Type 0
RoundsTowardZero =
    (step (op.Div false) (Int (pos 2) ∷ Int (negsuc 6) ∷ []) ≡ goes_on (Int (negsuc 2) ∷ [])) × (step (op.Rem false) (Int (pos 2) ∷ Int (negsuc 6) ∷ []) ≡ goes_on (Int (negsuc 0) ∷ []))
    × (step (op.Rem true) (Long (negsuc 1) ∷ Long (pos 7) ∷ []) ≡ goes_on (Long (pos 1) ∷ []))

-- the smallest number divided by -1 is the smallest, and leaves 0
abbrev pub SmallestByMinusOne : Type 0
SmallestByMinusOne =
    (step (op.Div false) (Int (negsuc 0) ∷ Int (negsuc 2147483647) ∷ []) ≡ goes_on (Int (negsuc 2147483647) ∷ []))
    × (step (op.Rem false) (Int (negsuc 0) ∷ Int (negsuc 2147483647) ∷ []) ≡ goes_on (Int (pos 0) ∷ []))
    × (step (op.Div true) (Long (negsuc 0) ∷ Long (negsuc 9223372036854775807) ∷ []) ≡ goes_on (Long (negsuc 9223372036854775807) ∷ []))
    × (step (op.Rem true) (Long (negsuc 0) ∷ Long (negsuc 9223372036854775807) ∷ []) ≡ goes_on (Long (pos 0) ∷ []))

abbrev pub ZeroFails : Type 0
ZeroFails = (step (op.Div false) (Int (pos 0) ∷ Int (pos 1) ∷ []) ≡ Some (Fails DivZero)) × (step (op.Rem true) (Long (pos 0) ∷ Long (pos 1) ∷ []) ≡ Some (Fails DivZero))
