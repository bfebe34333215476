-- Worked examples of sums, differences, products and negations at the ends of int and long. The top stands first, so a difference takes the
-- first from the second.
use Rattle.std.specs.Prelude.{◌≡◌, pos, negsuc, true, false, [], ◌∷◌, None}
use Rattle.values.specs.declared.value.Value.TheVariants.{Int, Long, Null}
use Rattle.jcode.specs.declared.op.Op.TheVariants as op
use Rattle.b_frame.specs.Worked.Setting.{step, goes_on, int_max, long_max}

-- the greatest int and 1 give the smallest, the smallest less 1 the greatest, twice the greatest -2, and the smallest is its own negative
abbrev pub IntsWrap : Type 0
IntsWrap =
    (step (op.Add false) (Int (pos 1) ∷ Int int_max ∷ []) ≡ goes_on (Int (negsuc 2147483647) ∷ []))
    × (step (op.Sub false) (Int (pos 1) ∷ Int (negsuc 2147483647) ∷ Null ∷ []) ≡ goes_on (Int int_max ∷ Null ∷ []))
    × (step (op.Mul false) (Int (pos 2) ∷ Int int_max ∷ []) ≡ goes_on (Int (negsuc 1) ∷ [])) × (step (op.Neg false) (Int (negsuc 2147483647) ∷ []) ≡ goes_on (Int (negsuc 2147483647) ∷ []))

abbrev pub LongsWrap : Type 0
LongsWrap =
    (step (op.Add true) (Long (pos 1) ∷ Long long_max ∷ []) ≡ goes_on (Long (negsuc 9223372036854775807) ∷ []))
    × (step (op.Sub true) (Long (pos 1) ∷ Long (negsuc 9223372036854775807) ∷ []) ≡ goes_on (Long long_max ∷ []))
    × (step (op.Mul true) (Long (pos 2) ∷ Long long_max ∷ []) ≡ goes_on (Long (negsuc 1) ∷ []))
    × (step (op.Neg true) (Long (negsuc 9223372036854775807) ∷ []) ≡ goes_on (Long (negsuc 9223372036854775807) ∷ []))

-- an operation on int has no meaning on a long, on a reference or on fewer operands
abbrev pub KindsAreKept : Type 0
KindsAreKept = (step (op.Add false) (Int (pos 1) ∷ Long (pos 1) ∷ []) ≡ None) × (step (op.Add true) (Int (pos 1) ∷ Int (pos 1) ∷ []) ≡ None)
    × (step (op.Neg false) (Null ∷ []) ≡ None) × (step (op.Add false) (Int (pos 1) ∷ []) ≡ None)
