-- Arithmetic and shifts on whole words.
use Rattle.std.specs.Prelude.{◌≡◌, [], ◌∷◌, Some, None}
use Rattle.csubset.specs.declared.expression.TwoOp.TheVariants.{Add8, Sub8, Mul8, Div8, Rem8, Shl8, Shr8, Ushr8}
use Rattle.csubset.specs.Worked.Samples.{answers, longs}

pub record LongArithmetic : Type 0 where
  pub add8 : answers Add8 longs
      ≡ (Some 0 ∷ Some 1 ∷ Some 9223372036854775808 ∷ Some 18446744073709551615 ∷ Some 9223372036854775807 ∷ [])
      ∷ (Some 1 ∷ Some 2 ∷ Some 9223372036854775809 ∷ Some 0 ∷ Some 9223372036854775808 ∷ [])
      ∷ (Some 9223372036854775808 ∷ Some 9223372036854775809 ∷ Some 0 ∷ Some 9223372036854775807 ∷ Some 18446744073709551615 ∷ [])
      ∷ (Some 18446744073709551615 ∷ Some 0 ∷ Some 9223372036854775807 ∷ Some 18446744073709551614 ∷ Some 9223372036854775806 ∷ [])
      ∷ (Some 9223372036854775807 ∷ Some 9223372036854775808 ∷ Some 18446744073709551615 ∷ Some 9223372036854775806 ∷ Some 18446744073709551614 ∷ [])
      ∷ []
  pub sub8 : answers Sub8 longs
      ≡ (Some 0 ∷ Some 18446744073709551615 ∷ Some 9223372036854775808 ∷ Some 1 ∷ Some 9223372036854775809 ∷ [])
      ∷ (Some 1 ∷ Some 0 ∷ Some 9223372036854775809 ∷ Some 2 ∷ Some 9223372036854775810 ∷ [])
      ∷ (Some 9223372036854775808 ∷ Some 9223372036854775807 ∷ Some 0 ∷ Some 9223372036854775809 ∷ Some 1 ∷ [])
      ∷ (Some 18446744073709551615 ∷ Some 18446744073709551614 ∷ Some 9223372036854775807 ∷ Some 0 ∷ Some 9223372036854775808 ∷ [])
      ∷ (Some 9223372036854775807 ∷ Some 9223372036854775806 ∷ Some 18446744073709551615 ∷ Some 9223372036854775808 ∷ Some 0 ∷ [])
      ∷ []
  pub mul8 : answers Mul8 longs
      ≡ (Some 0 ∷ Some 0 ∷ Some 0 ∷ Some 0 ∷ Some 0 ∷ [])
      ∷ (Some 0 ∷ Some 1 ∷ Some 9223372036854775808 ∷ Some 18446744073709551615 ∷ Some 9223372036854775807 ∷ [])
      ∷ (Some 0 ∷ Some 9223372036854775808 ∷ Some 0 ∷ Some 9223372036854775808 ∷ Some 9223372036854775808 ∷ [])
      ∷ (Some 0 ∷ Some 18446744073709551615 ∷ Some 9223372036854775808 ∷ Some 1 ∷ Some 9223372036854775809 ∷ [])
      ∷ (Some 0 ∷ Some 9223372036854775807 ∷ Some 9223372036854775808 ∷ Some 9223372036854775809 ∷ Some 1 ∷ [])
      ∷ []
  pub div8 : answers Div8 longs
      ≡ (None ∷ Some 0 ∷ Some 0 ∷ Some 0 ∷ Some 0 ∷ [])
      ∷ (None ∷ Some 1 ∷ Some 0 ∷ Some 18446744073709551615 ∷ Some 0 ∷ [])
      ∷ (None ∷ Some 9223372036854775808 ∷ Some 1 ∷ Some 9223372036854775808 ∷ Some 18446744073709551615 ∷ [])
      ∷ (None ∷ Some 18446744073709551615 ∷ Some 0 ∷ Some 1 ∷ Some 0 ∷ [])
      ∷ (None ∷ Some 9223372036854775807 ∷ Some 0 ∷ Some 9223372036854775809 ∷ Some 1 ∷ [])
      ∷ []
  pub rem8 : answers Rem8 longs
      ≡ (None ∷ Some 0 ∷ Some 0 ∷ Some 0 ∷ Some 0 ∷ [])
      ∷ (None ∷ Some 0 ∷ Some 1 ∷ Some 0 ∷ Some 1 ∷ [])
      ∷ (None ∷ Some 0 ∷ Some 0 ∷ Some 0 ∷ Some 18446744073709551615 ∷ [])
      ∷ (None ∷ Some 0 ∷ Some 18446744073709551615 ∷ Some 0 ∷ Some 18446744073709551615 ∷ [])
      ∷ (None ∷ Some 0 ∷ Some 9223372036854775807 ∷ Some 0 ∷ Some 0 ∷ [])
      ∷ []
  pub shl8 : answers Shl8 longs
      ≡ (Some 0 ∷ Some 0 ∷ Some 0 ∷ Some 0 ∷ Some 0 ∷ [])
      ∷ (Some 1 ∷ Some 2 ∷ Some 1 ∷ Some 9223372036854775808 ∷ Some 9223372036854775808 ∷ [])
      ∷ (Some 9223372036854775808 ∷ Some 0 ∷ Some 9223372036854775808 ∷ Some 0 ∷ Some 0 ∷ [])
      ∷ (Some 18446744073709551615 ∷ Some 18446744073709551614 ∷ Some 18446744073709551615 ∷ Some 9223372036854775808 ∷ Some 9223372036854775808 ∷ [])
      ∷ (Some 9223372036854775807 ∷ Some 18446744073709551614 ∷ Some 9223372036854775807 ∷ Some 9223372036854775808 ∷ Some 9223372036854775808 ∷ [])
      ∷ []
  pub shr8 : answers Shr8 longs
      ≡ (Some 0 ∷ Some 0 ∷ Some 0 ∷ Some 0 ∷ Some 0 ∷ [])
      ∷ (Some 1 ∷ Some 0 ∷ Some 1 ∷ Some 0 ∷ Some 0 ∷ [])
      ∷ (Some 9223372036854775808 ∷ Some 13835058055282163712 ∷ Some 9223372036854775808 ∷ Some 18446744073709551615 ∷ Some 18446744073709551615 ∷ [])
      ∷ (Some 18446744073709551615 ∷ Some 18446744073709551615 ∷ Some 18446744073709551615 ∷ Some 18446744073709551615 ∷ Some 18446744073709551615 ∷ [])
      ∷ (Some 9223372036854775807 ∷ Some 4611686018427387903 ∷ Some 9223372036854775807 ∷ Some 0 ∷ Some 0 ∷ [])
      ∷ []
  pub ushr8 : answers Ushr8 longs
      ≡ (Some 0 ∷ Some 0 ∷ Some 0 ∷ Some 0 ∷ Some 0 ∷ [])
      ∷ (Some 1 ∷ Some 0 ∷ Some 1 ∷ Some 0 ∷ Some 0 ∷ [])
      ∷ (Some 9223372036854775808 ∷ Some 4611686018427387904 ∷ Some 9223372036854775808 ∷ Some 1 ∷ Some 1 ∷ [])
      ∷ (Some 18446744073709551615 ∷ Some 9223372036854775807 ∷ Some 18446744073709551615 ∷ Some 1 ∷ Some 1 ∷ [])
      ∷ (Some 9223372036854775807 ∷ Some 4611686018427387903 ∷ Some 9223372036854775807 ∷ Some 0 ∷ Some 0 ∷ [])
      ∷ []
