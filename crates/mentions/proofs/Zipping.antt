-- Two lists side by side, as far as a loop has come.
use Rattle.std.proofs.Common.{◌≡◌, ℕ, zero, suc, ◌<◌, ◌≤◌, List, [], ◌∷◌, ◌++◌, length, take, get_or, slice_get, Some, refl, ap, arith}
use Rattle.std.specs.Prelude.{zip}
use Rattle.std.proofs.lemmas.Option.{none-some, same_Some}

module _ {A B : Type 0} where
  -- the first list ends
  pub first_ends : (xs : List A) (ys : List B) (n : ℕ) → length xs ≤ n → zip (take n xs) (take n ys) ≡ zip xs ys
  first_ends [] ys zero le = refl
  first_ends [] ys (suc n) le = refl
  first_ends (x ∷ xs) ys zero le = absurd (omega (le, arith))
  first_ends (x ∷ xs) [] (suc n) le = refl
  first_ends (x ∷ xs) (y ∷ ys) (suc n) le = ap (λ (zs : List (A × B)). (x, y) ∷ zs) (first_ends xs ys n (omega (le, arith)))

  -- the second list ends
  pub second_ends : (xs : List A) (ys : List B) (n : ℕ) → length ys ≤ n → zip (take n xs) (take n ys) ≡ zip xs ys
  second_ends [] ys zero le = refl
  second_ends [] ys (suc n) le = refl
  second_ends (x ∷ xs) [] zero le = refl
  second_ends (x ∷ xs) [] (suc n) le = refl
  second_ends (x ∷ xs) (y ∷ ys) zero le = absurd (omega (le, arith))
  second_ends (x ∷ xs) (y ∷ ys) (suc n) le = ap (λ (zs : List (A × B)). (x, y) ∷ zs) (second_ends xs ys n (omega (le, arith)))

  -- one more of both
  pub one_more : (xs : List A) (ys : List B) (n : ℕ) (x : A) (other : B) → slice_get xs n ≡ Some x → n < length ys
      → zip (take (suc n) xs) (take (suc n) ys) ≡ zip (take n xs) (take n ys) ++ (x, get_or ys n other) ∷ []
  one_more [] ys n x other is lt = absurd (none-some x is)
  one_more (first ∷ xs) [] n x other is lt = absurd (omega (lt, arith))
  one_more (first ∷ xs) (y ∷ ys) zero x other is lt = ap (λ (l : A). (l, y) ∷ []) (same_Some first x is)
  one_more (first ∷ xs) (y ∷ ys) (suc n) x other is lt = ap (λ (zs : List (A × B)). (first, y) ∷ zs) (one_more xs ys n x other is (omega (lt, arith)))
