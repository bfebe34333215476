-- Searches over lists.
use Rattle.std.proofs.Common.{◌≡◌, ℕ, zero, suc, ◌+◌, ◌<◌, Bool, true, false, ◌&&◌, ◌||◌, cond, List, [], ◌∷◌, length, take, drop, get_or, Some, is_some, position, refl, sym, ap, ◌∙◌, arith, add-one}
use Rattle.std.specs.List.{list_all, list_any, position_from}
use Rattle.std.proofs.lemmas.Iterator.Adapters.{position_from-zero}
use Rattle.kbind.proofs.Declaring.{left}

-- an element passes where a place is found
any_from : {A : Type 0} (test : A → Bool) (xs : List A) (i : ℕ) → is_some (position_from test i xs) ≡ list_any test xs
any_from test [] i = refl
any_from test (x ∷ xs) i = by_test (test x) (any_from test xs (i + 1))
  where
    by_test : (b : Bool) → is_some (position_from test (i + 1) xs) ≡ list_any test xs → is_some (cond b (Some i) (position_from test (i + 1) xs)) ≡ (b || list_any test xs)
    by_test true h = refl
    by_test false h = h

pub any_found : {A : Type 0} (test : A → Bool) (xs : List A) → is_some (position test xs) ≡ list_any test xs
any_found test xs = ap is_some (position_from-zero test xs) ∙ any_from test xs 0

-- an element more, before the others
pub one_before : {A : Type 0} (test : A → Bool) (xs : List A) (i next : ℕ) (x : A) (answer : Bool) → next ≡ i + 1 → i < length xs → x ≡ get_or xs i x → answer ≡ list_any test (drop next xs) → (test x || answer) ≡ list_any test (drop i xs)
one_before {A} test xs i next x answer e within is so_far =
    ap (λ (b : Bool). test x || b) (so_far ∙ ap (λ (n : ℕ). list_any test (drop n xs)) e) ∙ ap (list_any test) (sym (left xs i x within is))

-- the same where all have to pass
pub all_before : {A : Type 0} (test : A → Bool) (xs : List A) (i next : ℕ) (x : A) (answer : Bool) → next ≡ i + 1 → i < length xs → x ≡ get_or xs i x → answer ≡ list_all test (drop next xs) → (test x && answer) ≡ list_all test (drop i xs)
all_before {A} test xs i next x answer e within is so_far =
    ap (λ (b : Bool). test x && b) (so_far ∙ ap (λ (n : ℕ). list_all test (drop n xs)) e) ∙ ap (list_all test) (sym (left xs i x within is))

-- an element more, behind the others
any_next : {A : Type 0} (test : A → Bool) (xs : List A) (i : ℕ) (x : A) → i < length xs → x ≡ get_or xs i x → (test x || list_any test (take i xs)) ≡ list_any test (take (suc i) xs)
any_next test [] i x within is = absurd (omega arith)
any_next test (y ∷ ys) zero x within is = ap (λ z. test z || false) is
any_next test (y ∷ ys) (suc i) x within is =
    let inside : i < length ys = omega arith in
    swapped (test x) (test y) (list_any test (take i ys)) ∙ ap (λ (b : Bool). test y || b) (any_next test ys i x inside is)
  where
    swapped : (a b c : Bool) → (a || (b || c)) ≡ (b || (a || c))
    swapped true true c = refl
    swapped true false c = refl
    swapped false b c = refl

pub one_behind : {A : Type 0} (test : A → Bool) (xs : List A) (i : ℕ) (x : A) → i < length xs → x ≡ get_or xs i x → (test x || list_any test (take i xs)) ≡ list_any test (take (i + 1) xs)
one_behind test xs i x within is = rw add-one (any_next test xs i x within is)
