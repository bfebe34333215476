-- Bits and comparisons of whole words.
use Rattle.std.specs.Prelude.{◌≡◌, [], ◌∷◌, Some}
use Rattle.csubset.specs.declared.expression.TwoOp.TheVariants.{And, Or, Xor, Eq, Ne, Ltu, Lt8, Cmp8}
use Rattle.csubset.specs.Worked.Samples.{answers, longs}

pub record LongBits : Type 0 where
  pub and : answers And longs
      ≡ (Some 0 ∷ Some 0 ∷ Some 0 ∷ Some 0 ∷ Some 0 ∷ [])
      ∷ (Some 0 ∷ Some 1 ∷ Some 0 ∷ Some 1 ∷ Some 1 ∷ [])
      ∷ (Some 0 ∷ Some 0 ∷ Some 9223372036854775808 ∷ Some 9223372036854775808 ∷ Some 0 ∷ [])
      ∷ (Some 0 ∷ Some 1 ∷ Some 9223372036854775808 ∷ Some 18446744073709551615 ∷ Some 9223372036854775807 ∷ [])
      ∷ (Some 0 ∷ Some 1 ∷ Some 0 ∷ Some 9223372036854775807 ∷ Some 9223372036854775807 ∷ [])
      ∷ []
  pub or : answers Or longs
      ≡ (Some 0 ∷ Some 1 ∷ Some 9223372036854775808 ∷ Some 18446744073709551615 ∷ Some 9223372036854775807 ∷ [])
      ∷ (Some 1 ∷ Some 1 ∷ Some 9223372036854775809 ∷ Some 18446744073709551615 ∷ Some 9223372036854775807 ∷ [])
      ∷ (Some 9223372036854775808 ∷ Some 9223372036854775809 ∷ Some 9223372036854775808 ∷ Some 18446744073709551615 ∷ Some 18446744073709551615 ∷ [])
      ∷ (Some 18446744073709551615 ∷ Some 18446744073709551615 ∷ Some 18446744073709551615 ∷ Some 18446744073709551615 ∷ Some 18446744073709551615 ∷ [])
      ∷ (Some 9223372036854775807 ∷ Some 9223372036854775807 ∷ Some 18446744073709551615 ∷ Some 18446744073709551615 ∷ Some 9223372036854775807 ∷ [])
      ∷ []
  pub xor : answers Xor longs
      ≡ (Some 0 ∷ Some 1 ∷ Some 9223372036854775808 ∷ Some 18446744073709551615 ∷ Some 9223372036854775807 ∷ [])
      ∷ (Some 1 ∷ Some 0 ∷ Some 9223372036854775809 ∷ Some 18446744073709551614 ∷ Some 9223372036854775806 ∷ [])
      ∷ (Some 9223372036854775808 ∷ Some 9223372036854775809 ∷ Some 0 ∷ Some 9223372036854775807 ∷ Some 18446744073709551615 ∷ [])
      ∷ (Some 18446744073709551615 ∷ Some 18446744073709551614 ∷ Some 9223372036854775807 ∷ Some 0 ∷ Some 9223372036854775808 ∷ [])
      ∷ (Some 9223372036854775807 ∷ Some 9223372036854775806 ∷ Some 18446744073709551615 ∷ Some 9223372036854775808 ∷ Some 0 ∷ [])
      ∷ []
  pub eq : answers Eq longs
      ≡ (Some 1 ∷ Some 0 ∷ Some 0 ∷ Some 0 ∷ Some 0 ∷ [])
      ∷ (Some 0 ∷ Some 1 ∷ Some 0 ∷ Some 0 ∷ Some 0 ∷ [])
      ∷ (Some 0 ∷ Some 0 ∷ Some 1 ∷ Some 0 ∷ Some 0 ∷ [])
      ∷ (Some 0 ∷ Some 0 ∷ Some 0 ∷ Some 1 ∷ Some 0 ∷ [])
      ∷ (Some 0 ∷ Some 0 ∷ Some 0 ∷ Some 0 ∷ Some 1 ∷ [])
      ∷ []
  pub ne : answers Ne longs
      ≡ (Some 0 ∷ Some 1 ∷ Some 1 ∷ Some 1 ∷ Some 1 ∷ [])
      ∷ (Some 1 ∷ Some 0 ∷ Some 1 ∷ Some 1 ∷ Some 1 ∷ [])
      ∷ (Some 1 ∷ Some 1 ∷ Some 0 ∷ Some 1 ∷ Some 1 ∷ [])
      ∷ (Some 1 ∷ Some 1 ∷ Some 1 ∷ Some 0 ∷ Some 1 ∷ [])
      ∷ (Some 1 ∷ Some 1 ∷ Some 1 ∷ Some 1 ∷ Some 0 ∷ [])
      ∷ []
  pub ltu : answers Ltu longs
      ≡ (Some 0 ∷ Some 1 ∷ Some 1 ∷ Some 1 ∷ Some 1 ∷ [])
      ∷ (Some 0 ∷ Some 0 ∷ Some 1 ∷ Some 1 ∷ Some 1 ∷ [])
      ∷ (Some 0 ∷ Some 0 ∷ Some 0 ∷ Some 1 ∷ Some 0 ∷ [])
      ∷ (Some 0 ∷ Some 0 ∷ Some 0 ∷ Some 0 ∷ Some 0 ∷ [])
      ∷ (Some 0 ∷ Some 0 ∷ Some 1 ∷ Some 1 ∷ Some 0 ∷ [])
      ∷ []
  pub lt8 : answers Lt8 longs
      ≡ (Some 0 ∷ Some 1 ∷ Some 0 ∷ Some 0 ∷ Some 1 ∷ [])
      ∷ (Some 0 ∷ Some 0 ∷ Some 0 ∷ Some 0 ∷ Some 1 ∷ [])
      ∷ (Some 1 ∷ Some 1 ∷ Some 0 ∷ Some 1 ∷ Some 1 ∷ [])
      ∷ (Some 1 ∷ Some 1 ∷ Some 0 ∷ Some 0 ∷ Some 1 ∷ [])
      ∷ (Some 0 ∷ Some 0 ∷ Some 0 ∷ Some 0 ∷ Some 0 ∷ [])
      ∷ []
  pub cmp8 : answers Cmp8 longs
      ≡ (Some 0 ∷ Some 4294967295 ∷ Some 1 ∷ Some 1 ∷ Some 4294967295 ∷ [])
      ∷ (Some 1 ∷ Some 0 ∷ Some 1 ∷ Some 1 ∷ Some 4294967295 ∷ [])
      ∷ (Some 4294967295 ∷ Some 4294967295 ∷ Some 0 ∷ Some 4294967295 ∷ Some 4294967295 ∷ [])
      ∷ (Some 4294967295 ∷ Some 4294967295 ∷ Some 1 ∷ Some 0 ∷ Some 4294967295 ∷ [])
      ∷ (Some 1 ∷ Some 1 ∷ Some 1 ∷ Some 1 ∷ Some 0 ∷ [])
      ∷ []
