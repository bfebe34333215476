-- Lists that are seen by a view, from one element on.
use Rattle.std.proofs.Common.{◌≡◌, ℕ, suc, ◌+◌, ◌<◌, ◌≤◌, List, [], ◌∷◌, map, length, drop, get_or, ap, arith}
use Rattle.std.proofs.Math.Seq.{drop-cons}
use Rattle.std.proofs.lemmas.List.{drop_all}

-- what is seen of the elements from one on
pub seen_from : {A B : Type 0} (f : A → B) (xs : List A) (i : ℕ) (d : A) → i < length xs → map f (drop i xs) ≡ f (get_or xs i d) ∷ map f (drop (i + 1) xs)
seen_from f xs i d within =
    let e : suc i ≡ i + 1 = omega arith in
    let one : drop i xs ≡ get_or xs i d ∷ drop (i + 1) xs = rw (← e) (drop-cons xs i d within) in
    ap (map f) one

pub none_left : {A B : Type 0} (f : A → B) (xs : List A) (i : ℕ) → length xs ≤ i → map f (drop i xs) ≡ []
none_left f xs i past = let none : drop i xs ≡ [] = drop_all i xs past in ap (map f) none
