-- Worked examples of shifts, conversions and lcmp.
use Rattle.std.specs.Prelude.{◌≡◌, pos, negsuc, true, false, [], ◌∷◌}
use Rattle.values.specs.declared.value.Value.TheVariants.{Int, Long}
use Rattle.jcode.specs.declared.op.Op.TheVariants as op
use Rattle.b_frame.specs.Worked.Setting.{step, goes_on, int_max, long_max}

-- an int is shifted by 33 as by 1, a long by 65 as by 1 and by 33 as it says, and each by -1 as by its width less 1
abbrev pub CountsAreCut : Type 0
CountsAreCut =
    (step (op.Shl false) (Int (pos 33) ∷ Int (pos 3) ∷ []) ≡ goes_on (Int (pos 6) ∷ [])) × (step (op.Shl true) (Int (pos 65) ∷ Long (pos 3) ∷ []) ≡ goes_on (Long (pos 6) ∷ []))
    × (step (op.Shl true) (Int (pos 33) ∷ Long (pos 3) ∷ []) ≡ goes_on (Long (pos 25769803776) ∷ [])) × (step (op.Shr false) (Int (negsuc 0) ∷ Int int_max ∷ []) ≡ goes_on (Int (pos 0) ∷ []))
    × (step (op.Shl true) (Int (negsuc 0) ∷ Long (pos 1) ∷ []) ≡ goes_on (Long (negsuc 9223372036854775807) ∷ []))

-- -5 >> 1 is -3, and -5 >>> 1 a large number
abbrev pub SignsAreShifted : Type 0
SignsAreShifted =
    (step (op.Shr false) (Int (pos 1) ∷ Int (negsuc 4) ∷ []) ≡ goes_on (Int (negsuc 2) ∷ [])) × (step (op.Ushr false) (Int (pos 33) ∷ Int (negsuc 4) ∷ []) ≡ goes_on (Int (pos 2147483645) ∷ []))
    × (step (op.Ushr true) (Int (pos 65) ∷ Long (negsuc 0) ∷ []) ≡ goes_on (Long long_max ∷ [])) × (step (op.Ushr false) (Int (pos 32) ∷ Int (negsuc 0) ∷ []) ≡ goes_on (Int (negsuc 0) ∷ []))

-- of 200 a byte has -56, of -1 a char 65,535, of 40,000 a short -25,536, and of 2^32 + 7 an int 7
abbrev pub NumbersAreNarrowed : Type 0
NumbersAreNarrowed =
    (step op.I2B (Int (pos 200) ∷ []) ≡ goes_on (Int (negsuc 55) ∷ [])) × (step op.I2C (Int (negsuc 0) ∷ []) ≡ goes_on (Int (pos 65535) ∷ []))
    × (step op.I2S (Int (pos 40000) ∷ []) ≡ goes_on (Int (negsuc 25535) ∷ [])) × (step op.L2I (Long (pos 4294967303) ∷ []) ≡ goes_on (Int (pos 7) ∷ []))
    × (step op.L2I (Long long_max ∷ []) ≡ goes_on (Int (negsuc 0) ∷ [])) × (step op.I2L (Int (negsuc 2147483647) ∷ []) ≡ goes_on (Long (negsuc 2147483647) ∷ []))

-- lcmp of 1 and 2 is -1; the top stands first
abbrev pub LongsAreCompared : Type 0
LongsAreCompared =
    (step op.CompareL (Long (pos 2) ∷ Long (pos 1) ∷ []) ≡ goes_on (Int (negsuc 0) ∷ [])) × (step op.CompareL (Long (negsuc 0) ∷ Long long_max ∷ []) ≡ goes_on (Int (pos 1) ∷ []))
    × (step op.CompareL (Long (pos 2) ∷ Long (pos 2) ∷ []) ≡ goes_on (Int (pos 0) ∷ []))

-- 12 & 10, 12 | 10, 12 ^ 10, and -1 & 2^40
abbrev pub BitByBit : Type 0
BitByBit =
    (step (op.And false) (Int (pos 10) ∷ Int (pos 12) ∷ []) ≡ goes_on (Int (pos 8) ∷ [])) × (step (op.Or false) (Int (pos 10) ∷ Int (pos 12) ∷ []) ≡ goes_on (Int (pos 14) ∷ []))
    × (step (op.Xor false) (Int (pos 10) ∷ Int (pos 12) ∷ []) ≡ goes_on (Int (pos 6) ∷ []))
    × (step (op.And true) (Long (pos 1099511627776) ∷ Long (negsuc 0) ∷ []) ≡ goes_on (Long (pos 1099511627776) ∷ []))
