-- What stands where a piece of a definition has answered.
use Rattle.std.proofs.Common.{◌≡◌, ℕ, Bool, true, false, Option, Some, None, refl, ap, arith, sym}
use Rattle.std.specs.Prelude.{List, is_some, bytes_eq, ◌&&◌, if◌then◌else◌}
use Rattle.std.specs.Option.{option_and_then}
use Rattle.std.proofs.lemmas.Slice.Eq.{bytes_eq-Decides}
use Rattle.classfile.specs.Pool.{◌>>=◌}

pub none_is_some : {A : Type 0} (y : A) → None ≡ Some y → ⊥
none_is_some y e = grind (arith, ap is_some e)

pub true_is_false : true ≡ false → ⊥
true_is_false e = grind (arith, e)

pub both_true : (a b : Bool) → a && b ≡ true → (a ≡ true) × (b ≡ true)
both_true true b e = (refl, e)
both_true false b e = absurd (true_is_false (sym e))

pub bytes_eq_same : (xs : List ℕ) → bytes_eq xs xs ≡ true
bytes_eq_same xs = (bytes_eq-Decides xs xs).1 refl

pub and_then_some : {A B : Type 0} (f : A → Option B) (o : Option A) (y : B) → option_and_then f o ≡ Some y → (x : A) × (o ≡ Some x) × (f x ≡ Some y)
and_then_some f None y e = absurd (none_is_some y e)
and_then_some f (Some x) y e = (x, refl, e)

pub if_some : {A : Type 0} (b : Bool) (o : Option A) (y : A) → (if b then o else None) ≡ Some y → (b ≡ true) × (o ≡ Some y)
if_some true o y e = (refl, e)
if_some false o y e = absurd (none_is_some y e)

pub bind_some : {A B : Type 0} (f : A → Option B) (o : Option A) (y : B) → (o >>= f) ≡ Some y → (x : A) × (o ≡ Some x) × (f x ≡ Some y)
bind_some f None y e = absurd (none_is_some y e)
bind_some f (Some x) y e = (x, refl, e)
