-- The words at which the operators are computed, and the operators on one word. The expected numbers are those that the
-- operator's C99 body in the prologue gives.
use Rattle.std.specs.Prelude.{◌≡◌, ℕ, List, [], ◌∷◌, map, Option}
use Rattle.csubset.specs.declared.expression.OneOp.TheVariants.{Lo4, Sx4, Sb4, Sh4, Zb, Zh}
use Rattle.csubset.specs.declared.expression.TwoOp.{TwoOp}
use Rattle.csubset.specs.Machine.Operators.{one_op, two_op}

-- 0, 1, the smallest long, -1 and the greatest long
abbrev pub longs : List ℕ
longs = 0 ∷ 1 ∷ 9223372036854775808 ∷ 18446744073709551615 ∷ 9223372036854775807 ∷ []

-- 0, 1, the smallest int, -1, the greatest int, and a word whose int is 0
abbrev pub ints : List ℕ
ints = 0 ∷ 1 ∷ 2147483648 ∷ 4294967295 ∷ 2147483647 ∷ 4294967296 ∷ []

-- all answers over a list of words: a row for each first operand, in the order of the second
abbrev pub answers : TwoOp → List ℕ → List (List (Option ℕ))
answers op words = map (λ a. map (two_op op a) words) words

-- around the ends of a byte, a short and an int, and the greatest word
abbrev pub ends : List ℕ
ends = 0 ∷ 1 ∷ 127 ∷ 128 ∷ 255 ∷ 32768 ∷ 65535 ∷ 2147483648 ∷ 18446744073709551615 ∷ []

pub record Conversions : Type 0 where
  pub lo4 : map (one_op Lo4) ends ≡ 0 ∷ 1 ∷ 127 ∷ 128 ∷ 255 ∷ 32768 ∷ 65535 ∷ 2147483648 ∷ 4294967295 ∷ []
  pub sx4 : map (one_op Sx4) ends ≡ 0 ∷ 1 ∷ 127 ∷ 128 ∷ 255 ∷ 32768 ∷ 65535 ∷ 18446744071562067968 ∷ 18446744073709551615 ∷ []
  pub sb4 : map (one_op Sb4) ends ≡ 0 ∷ 1 ∷ 127 ∷ 4294967168 ∷ 4294967295 ∷ 0 ∷ 4294967295 ∷ 0 ∷ 4294967295 ∷ []
  pub sh4 : map (one_op Sh4) ends ≡ 0 ∷ 1 ∷ 127 ∷ 128 ∷ 255 ∷ 4294934528 ∷ 4294967295 ∷ 0 ∷ 4294967295 ∷ []
  pub zb : map (one_op Zb) ends ≡ 0 ∷ 1 ∷ 127 ∷ 128 ∷ 255 ∷ 0 ∷ 255 ∷ 0 ∷ 255 ∷ []
  pub zh : map (one_op Zh) ends ≡ 0 ∷ 1 ∷ 127 ∷ 128 ∷ 255 ∷ 32768 ∷ 65535 ∷ 0 ∷ 65535 ∷ []
