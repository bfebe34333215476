-- The numbers of the classes, one after the other.
use Rattle.std.proofs.Common.{◌≡◌, ℕ, ◌+◌, Bool, true, false, ◌||◌, List, [], ◌∷◌, ◌++◌, map-id, refl, sym, ap, ◌∙◌, arith}
use Rattle.std.specs.List.{list_any, range_with_len}
use Rattle.std.proofs.lemmas.List.FromFn.{map-range_with_len_more}
use Rattle.std.proofs.lemmas.List.Folds.{list_any-append}

or-false : (b : Bool) → (b || false) ≡ b
or-false true = refl
or-false false = refl

zero_more : (n : ℕ) → 0 + n ≡ n
zero_more n = omega arith

pub range-more : (n : ℕ) → range_with_len 0 (n + 1) ≡ range_with_len 0 n ++ n ∷ []
range-more n = sym (map-id (range_with_len 0 (n + 1))) ∙ map-range_with_len_more (λ (k : ℕ). k) 0 n n (zero_more n) ∙ ap (λ (ks : List ℕ). ks ++ n ∷ []) (map-id (range_with_len 0 n))

pub list_any-range-more : (test : ℕ → Bool) (n : ℕ) → list_any test (range_with_len 0 (n + 1)) ≡ (list_any test (range_with_len 0 n) || test n)
list_any-range-more test n =
    ap (list_any test) (range-more n) ∙ list_any-append test (range_with_len 0 n) (n ∷ []) ∙ ap (λ (b : Bool). list_any test (range_with_len 0 n) || b) (or-false (test n))
