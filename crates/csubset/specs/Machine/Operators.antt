-- The operators on words. A digit says how many low bytes count; the answer of the forms with 4 is below 2 ^ 32.
use Rattle.std.specs.Prelude.{ℕ, ◌+◌, ◌-◌, ◌*◌, ◌/◌, ◌%◌, ◌^◌, not, nat_eq, nat_lt, bit_and, bit_or, bit_xor, int_lt, int_div, int_rem, Option, Some, None, if◌then◌else◌}
use Rattle.std.specs.Int.{w8, w16, cast_signed, int_shr}
use Rattle.csubset.specs.declared.expression.OneOp.{OneOp}
use Rattle.csubset.specs.declared.expression.OneOp.TheVariants.{Lo4, Sx4, Sb4, Sh4, Zb, Zh}
use Rattle.csubset.specs.declared.expression.TwoOp.{TwoOp}
use Rattle.csubset.specs.declared.expression.TwoOp.TheVariants.{Add8, Sub8, Mul8, Add4, Sub4, Mul4, Div8, Rem8, Div4, Rem4, Shl8, Shr8, Ushr8, Shl4, Shr4, Ushr4, And, Or, Xor, Eq, Ne, Ltu, Lt8, Lt4, Cmp8}
use Rattle.csubset.specs.Machine.Word.{wrapped, low4, long_of, int_of, word_of_long, word_of_int, truth}

-- conversions: to the low bits, or by the sign of a byte, a short or an int
abbrev pub one_op : OneOp → ℕ → ℕ
one_op Lo4 a = low4 a
one_op Sx4 a = word_of_long (int_of a)
one_op Sb4 a = word_of_int (cast_signed w8 (a % 2 ^ 8))
one_op Sh4 a = word_of_int (cast_signed w16 (a % 2 ^ 16))
one_op Zb a = a % 2 ^ 8
one_op Zh a = a % 2 ^ 16

-- a division has no meaning for the divisor 0
abbrev pub unless_zero : ℕ → ℕ → Option ℕ
unless_zero divisor value = if nat_eq divisor 0 then None else Some value

-- -1 as 32 bits, 0 or 1, as the first is less than the second, equal or greater
abbrev pub compare : ℕ → ℕ → ℕ
compare a b = if int_lt (long_of a) (long_of b) then 2 ^ 32 - 1 else truth (not (nat_eq a b))

-- A quotient is rounded toward zero, and a remainder has the dividend's sign. The quotient of the smallest number and
-- -1 is the smallest number. The count of a shift is taken modulo 64, or 32.
abbrev pub two_op : TwoOp → ℕ → ℕ → Option ℕ
two_op Add8 a b = Some (wrapped (a + b))
two_op Sub8 a b = Some (wrapped (a + (2 ^ 64 - b)))
two_op Mul8 a b = Some (wrapped (a * b))
two_op Add4 a b = Some (low4 (a + b))
two_op Sub4 a b = Some (low4 (a + (2 ^ 64 - b)))
two_op Mul4 a b = Some (low4 (a * b))
two_op Div8 a b = unless_zero b (word_of_long (int_div (long_of a) (long_of b)))
two_op Rem8 a b = unless_zero b (word_of_long (int_rem (long_of a) (long_of b)))
two_op Div4 a b = unless_zero (low4 b) (word_of_int (int_div (int_of a) (int_of b)))
two_op Rem4 a b = unless_zero (low4 b) (word_of_int (int_rem (int_of a) (int_of b)))
two_op Shl8 a b = Some (wrapped (a * 2 ^ (b % 64)))
two_op Shr8 a b = Some (word_of_long (int_shr (long_of a) (b % 64)))
two_op Ushr8 a b = Some (a / 2 ^ (b % 64))
two_op Shl4 a b = Some (low4 (a * 2 ^ (b % 32)))
two_op Shr4 a b = Some (word_of_int (int_shr (int_of a) (b % 32)))
two_op Ushr4 a b = Some (low4 a / 2 ^ (b % 32))
two_op And a b = Some (bit_and a b)
two_op Or a b = Some (bit_or a b)
two_op Xor a b = Some (bit_xor a b)
two_op Eq a b = Some (truth (nat_eq a b))
two_op Ne a b = Some (truth (not (nat_eq a b)))
two_op Ltu a b = Some (truth (nat_lt a b))
two_op Lt8 a b = Some (truth (int_lt (long_of a) (long_of b)))
two_op Lt4 a b = Some (truth (int_lt (int_of a) (int_of b)))
two_op Cmp8 a b = Some (compare a b)
