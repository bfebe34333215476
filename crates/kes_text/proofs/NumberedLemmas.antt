-- What loops over numbered elements keep.
use Rattle.std.proofs.Common.{◌≡◌, ℕ, ◌+◌, ◌<◌, List, [], ◌∷◌, ◌++◌, length, take, get_or, append_assoc, ap, refl, arith}
use Rattle.std.proofs.lemmas.Grind.{common_steps, flat_map-append}
use Rattle.std.proofs.lemmas.List.{take_more, append-nil}
use Rattle.std.specs.List.{enumerate_from}
use Rattle.kes_text.specs.Numbered.{numbered}

-- one element more has the next number
enumerate_from-more : {X : Type 0} (n : ℕ) (xs : List X) (x : X) (number : ℕ) → number ≡ n + length xs
    → enumerate_from n (xs ++ x ∷ []) ≡ enumerate_from n xs ++ (number, x) ∷ []
enumerate_from-more n [] x number is = let e : n ≡ number = omega arith in rw e refl
enumerate_from-more n (y ∷ ys) x number is =
    let e : number ≡ (n + 1) + length ys = omega arith in
    ap (λ ps. (n, y) ∷ ps) (enumerate_from-more (n + 1) ys x number e)

-- the step of a loop at its next element, whose index is i and whose number is n + i
pub numbered_step : {X : Type 0} (text : ℕ → X → List ℕ) (n : ℕ) (xs : List X) (i number : ℕ) (x d : X) (old before after : List ℕ)
    → i < length xs → x ≡ get_or xs i d → number ≡ n + i
    → before ≡ old ++ numbered text n (take i xs) → after ≡ before ++ text number x
    → after ≡ old ++ numbered text n (take (i + 1) xs)
numbered_step {X} text n xs i number x d old before after within is counted so_far next =
    let taken = take_more xs i d within in
    let more : take (i + 1) xs ≡ take i xs ++ x ∷ [] = cc in
    let count : number ≡ n + length (take i xs) = grind (arith, common_steps) in
    let pairs = enumerate_from-more n (take i xs) x number count in
    let f : ℕ × X → List ℕ = λ p. text p.0 p.1 in
    rw (next, so_far, more, pairs, flat_map-append f (enumerate_from n (take i xs)) ((number, x) ∷ []), append-nil (text number x)) (append_assoc old _ _)
