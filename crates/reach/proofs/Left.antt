-- What is left of a list from a place on.
use Rattle.std.proofs.Common.{◌≡◌, ℕ, zero, suc, ◌+◌, ◌<◌, ◌≤◌, Bool, true, false, cond, List, [], ◌∷◌, ◌++◌, length, drop, get_or, Option, Some, None, refl, sym, ap, ◌∙◌, arith, append-nil}
use Rattle.std.specs.List.{find, flat_map, range_with_len}
use Rattle.std.proofs.lemmas.Grind.{flat_map-append}

left_from : {A : Type 0} (xs : List A) (n : ℕ) (x : A) → n < length xs → x ≡ get_or xs n x → drop n xs ≡ x ∷ drop (suc n) xs
left_from [] n x lt is = absurd (omega (lt, arith))
left_from (first ∷ xs) zero x lt is = ap (λ y. y ∷ xs) (sym is)
left_from (first ∷ xs) (suc n) x lt is = left_from xs n x (omega (lt, arith)) is

pub left : {A : Type 0} (xs : List A) (n : ℕ) (x : A) → n < length xs → x ≡ get_or xs n x → drop n xs ≡ x ∷ drop (n + 1) xs
left xs n x lt is =
    let next : suc n ≡ n + 1 = omega arith in
    left_from xs n x lt is ∙ ap (λ (k : ℕ). x ∷ drop k xs) next

pub none_behind : {A : Type 0} (xs : List A) (n : ℕ) → length xs ≤ n → drop n xs ≡ []
none_behind [] zero le = refl
none_behind [] (suc n) le = refl
none_behind (first ∷ xs) zero le = absurd (omega (le, arith))
none_behind (first ∷ xs) (suc n) le = none_behind xs n (omega (le, arith))

-- ---- the first that passes a test

-- tests that say the same find the same
pub same_found : {A : Type 0} (p q : A → Bool) → ((x : A) → p x ≡ q x) → (xs : List A) → find p xs ≡ find q xs
same_found p q same [] = refl
same_found p q same (x ∷ xs) = ap (λ (b : Bool). cond b (Some x) (find p xs)) (same x) ∙ ap (cond (q x) (Some x)) (same_found p q same xs)

module _ {A : Type 0} (p : A → Bool) (xs : List A) where
  pub passed_over : (n : ℕ) (x : A) → n < length xs → x ≡ get_or xs n x → p x ≡ false → find p (drop n xs) ≡ find p (drop (n + 1) xs)
  passed_over n x lt is fails = ap (find p) (left xs n x lt is) ∙ ap (λ (b : Bool). cond b (Some x) (find p (drop (n + 1) xs))) fails

  pub is_found : (n : ℕ) (x : A) → n < length xs → x ≡ get_or xs n x → p x ≡ true → find p (drop n xs) ≡ Some x
  is_found n x lt is passes = ap (find p) (left xs n x lt is) ∙ ap (λ (b : Bool). cond b (Some x) (find p (drop (n + 1) xs))) passes

  pub none_found : (n : ℕ) → length xs ≤ n → find p (drop n xs) ≡ None
  none_found n le = ap (find p) (none_behind xs n le)

-- ---- one number more

range_from : (a n : ℕ) → range_with_len a (suc n) ≡ range_with_len a n ++ (a + n) ∷ []
range_from a zero = let e : a ≡ a + 0 = omega arith in ap (λ (x : ℕ). x ∷ []) e
range_from a (suc n) =
    let e : (a + 1) + n ≡ a + suc n = omega arith in
    ap (λ (xs : List ℕ). a ∷ xs) (range_from (a + 1) n ∙ ap (λ (x : ℕ). range_with_len (a + 1) n ++ x ∷ []) e)

pub range_more : (n : ℕ) → range_with_len 0 (n + 1) ≡ range_with_len 0 n ++ n ∷ []
range_more n =
    let next : n + 1 ≡ suc n = omega arith in
    let last : 0 + n ≡ n = omega arith in
    ap (range_with_len 0) next ∙ range_from 0 n ∙ ap (λ (x : ℕ). range_with_len 0 n ++ x ∷ []) last

pub flat_map_range_more : {A : Type 0} (f : ℕ → List A) (n : ℕ) → flat_map f (range_with_len 0 (n + 1)) ≡ flat_map f (range_with_len 0 n) ++ f n
flat_map_range_more f n =
    ap (flat_map f) (range_more n) ∙ flat_map-append f (range_with_len 0 n) (n ∷ []) ∙ ap (λ xs. flat_map f (range_with_len 0 n) ++ xs) (append-nil (f n))
