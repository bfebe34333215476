-- The operators on the low 32 bits.
use Rattle.std.specs.Prelude.{◌≡◌, [], ◌∷◌, Some, None}
use Rattle.csubset.specs.declared.expression.TwoOp.TheVariants.{Add4, Sub4, Mul4, Div4, Rem4, Shl4, Shr4, Ushr4, Lt4}
use Rattle.csubset.specs.Worked.Samples.{answers, ints}

pub record IntOperators : Type 0 where
  pub add4 : answers Add4 ints
      ≡ (Some 0 ∷ Some 1 ∷ Some 2147483648 ∷ Some 4294967295 ∷ Some 2147483647 ∷ Some 0 ∷ [])
      ∷ (Some 1 ∷ Some 2 ∷ Some 2147483649 ∷ Some 0 ∷ Some 2147483648 ∷ Some 1 ∷ [])
      ∷ (Some 2147483648 ∷ Some 2147483649 ∷ Some 0 ∷ Some 2147483647 ∷ Some 4294967295 ∷ Some 2147483648 ∷ [])
      ∷ (Some 4294967295 ∷ Some 0 ∷ Some 2147483647 ∷ Some 4294967294 ∷ Some 2147483646 ∷ Some 4294967295 ∷ [])
      ∷ (Some 2147483647 ∷ Some 2147483648 ∷ Some 4294967295 ∷ Some 2147483646 ∷ Some 4294967294 ∷ Some 2147483647 ∷ [])
      ∷ (Some 0 ∷ Some 1 ∷ Some 2147483648 ∷ Some 4294967295 ∷ Some 2147483647 ∷ Some 0 ∷ [])
      ∷ []
  pub sub4 : answers Sub4 ints
      ≡ (Some 0 ∷ Some 4294967295 ∷ Some 2147483648 ∷ Some 1 ∷ Some 2147483649 ∷ Some 0 ∷ [])
      ∷ (Some 1 ∷ Some 0 ∷ Some 2147483649 ∷ Some 2 ∷ Some 2147483650 ∷ Some 1 ∷ [])
      ∷ (Some 2147483648 ∷ Some 2147483647 ∷ Some 0 ∷ Some 2147483649 ∷ Some 1 ∷ Some 2147483648 ∷ [])
      ∷ (Some 4294967295 ∷ Some 4294967294 ∷ Some 2147483647 ∷ Some 0 ∷ Some 2147483648 ∷ Some 4294967295 ∷ [])
      ∷ (Some 2147483647 ∷ Some 2147483646 ∷ Some 4294967295 ∷ Some 2147483648 ∷ Some 0 ∷ Some 2147483647 ∷ [])
      ∷ (Some 0 ∷ Some 4294967295 ∷ Some 2147483648 ∷ Some 1 ∷ Some 2147483649 ∷ Some 0 ∷ [])
      ∷ []
  pub mul4 : answers Mul4 ints
      ≡ (Some 0 ∷ Some 0 ∷ Some 0 ∷ Some 0 ∷ Some 0 ∷ Some 0 ∷ [])
      ∷ (Some 0 ∷ Some 1 ∷ Some 2147483648 ∷ Some 4294967295 ∷ Some 2147483647 ∷ Some 0 ∷ [])
      ∷ (Some 0 ∷ Some 2147483648 ∷ Some 0 ∷ Some 2147483648 ∷ Some 2147483648 ∷ Some 0 ∷ [])
      ∷ (Some 0 ∷ Some 4294967295 ∷ Some 2147483648 ∷ Some 1 ∷ Some 2147483649 ∷ Some 0 ∷ [])
      ∷ (Some 0 ∷ Some 2147483647 ∷ Some 2147483648 ∷ Some 2147483649 ∷ Some 1 ∷ Some 0 ∷ [])
      ∷ (Some 0 ∷ Some 0 ∷ Some 0 ∷ Some 0 ∷ Some 0 ∷ Some 0 ∷ [])
      ∷ []
  pub div4 : answers Div4 ints
      ≡ (None ∷ Some 0 ∷ Some 0 ∷ Some 0 ∷ Some 0 ∷ None ∷ [])
      ∷ (None ∷ Some 1 ∷ Some 0 ∷ Some 4294967295 ∷ Some 0 ∷ None ∷ [])
      ∷ (None ∷ Some 2147483648 ∷ Some 1 ∷ Some 2147483648 ∷ Some 4294967295 ∷ None ∷ [])
      ∷ (None ∷ Some 4294967295 ∷ Some 0 ∷ Some 1 ∷ Some 0 ∷ None ∷ [])
      ∷ (None ∷ Some 2147483647 ∷ Some 0 ∷ Some 2147483649 ∷ Some 1 ∷ None ∷ [])
      ∷ (None ∷ Some 0 ∷ Some 0 ∷ Some 0 ∷ Some 0 ∷ None ∷ [])
      ∷ []
  pub rem4 : answers Rem4 ints
      ≡ (None ∷ Some 0 ∷ Some 0 ∷ Some 0 ∷ Some 0 ∷ None ∷ [])
      ∷ (None ∷ Some 0 ∷ Some 1 ∷ Some 0 ∷ Some 1 ∷ None ∷ [])
      ∷ (None ∷ Some 0 ∷ Some 0 ∷ Some 0 ∷ Some 4294967295 ∷ None ∷ [])
      ∷ (None ∷ Some 0 ∷ Some 4294967295 ∷ Some 0 ∷ Some 4294967295 ∷ None ∷ [])
      ∷ (None ∷ Some 0 ∷ Some 2147483647 ∷ Some 0 ∷ Some 0 ∷ None ∷ [])
      ∷ (None ∷ Some 0 ∷ Some 0 ∷ Some 0 ∷ Some 0 ∷ None ∷ [])
      ∷ []
  pub shl4 : answers Shl4 ints
      ≡ (Some 0 ∷ Some 0 ∷ Some 0 ∷ Some 0 ∷ Some 0 ∷ Some 0 ∷ [])
      ∷ (Some 1 ∷ Some 2 ∷ Some 1 ∷ Some 2147483648 ∷ Some 2147483648 ∷ Some 1 ∷ [])
      ∷ (Some 2147483648 ∷ Some 0 ∷ Some 2147483648 ∷ Some 0 ∷ Some 0 ∷ Some 2147483648 ∷ [])
      ∷ (Some 4294967295 ∷ Some 4294967294 ∷ Some 4294967295 ∷ Some 2147483648 ∷ Some 2147483648 ∷ Some 4294967295 ∷ [])
      ∷ (Some 2147483647 ∷ Some 4294967294 ∷ Some 2147483647 ∷ Some 2147483648 ∷ Some 2147483648 ∷ Some 2147483647 ∷ [])
      ∷ (Some 0 ∷ Some 0 ∷ Some 0 ∷ Some 0 ∷ Some 0 ∷ Some 0 ∷ [])
      ∷ []
  pub shr4 : answers Shr4 ints
      ≡ (Some 0 ∷ Some 0 ∷ Some 0 ∷ Some 0 ∷ Some 0 ∷ Some 0 ∷ [])
      ∷ (Some 1 ∷ Some 0 ∷ Some 1 ∷ Some 0 ∷ Some 0 ∷ Some 1 ∷ [])
      ∷ (Some 2147483648 ∷ Some 3221225472 ∷ Some 2147483648 ∷ Some 4294967295 ∷ Some 4294967295 ∷ Some 2147483648 ∷ [])
      ∷ (Some 4294967295 ∷ Some 4294967295 ∷ Some 4294967295 ∷ Some 4294967295 ∷ Some 4294967295 ∷ Some 4294967295 ∷ [])
      ∷ (Some 2147483647 ∷ Some 1073741823 ∷ Some 2147483647 ∷ Some 0 ∷ Some 0 ∷ Some 2147483647 ∷ [])
      ∷ (Some 0 ∷ Some 0 ∷ Some 0 ∷ Some 0 ∷ Some 0 ∷ Some 0 ∷ [])
      ∷ []
  pub ushr4 : answers Ushr4 ints
      ≡ (Some 0 ∷ Some 0 ∷ Some 0 ∷ Some 0 ∷ Some 0 ∷ Some 0 ∷ [])
      ∷ (Some 1 ∷ Some 0 ∷ Some 1 ∷ Some 0 ∷ Some 0 ∷ Some 1 ∷ [])
      ∷ (Some 2147483648 ∷ Some 1073741824 ∷ Some 2147483648 ∷ Some 1 ∷ Some 1 ∷ Some 2147483648 ∷ [])
      ∷ (Some 4294967295 ∷ Some 2147483647 ∷ Some 4294967295 ∷ Some 1 ∷ Some 1 ∷ Some 4294967295 ∷ [])
      ∷ (Some 2147483647 ∷ Some 1073741823 ∷ Some 2147483647 ∷ Some 0 ∷ Some 0 ∷ Some 2147483647 ∷ [])
      ∷ (Some 0 ∷ Some 0 ∷ Some 0 ∷ Some 0 ∷ Some 0 ∷ Some 0 ∷ [])
      ∷ []
  pub lt4 : answers Lt4 ints
      ≡ (Some 0 ∷ Some 1 ∷ Some 0 ∷ Some 0 ∷ Some 1 ∷ Some 0 ∷ [])
      ∷ (Some 0 ∷ Some 0 ∷ Some 0 ∷ Some 0 ∷ Some 1 ∷ Some 0 ∷ [])
      ∷ (Some 1 ∷ Some 1 ∷ Some 0 ∷ Some 1 ∷ Some 1 ∷ Some 1 ∷ [])
      ∷ (Some 1 ∷ Some 1 ∷ Some 0 ∷ Some 0 ∷ Some 1 ∷ Some 1 ∷ [])
      ∷ (Some 0 ∷ Some 0 ∷ Some 0 ∷ Some 0 ∷ Some 0 ∷ Some 0 ∷ [])
      ∷ (Some 0 ∷ Some 1 ∷ Some 0 ∷ Some 0 ∷ Some 1 ∷ Some 0 ∷ [])
      ∷ []
