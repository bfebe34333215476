-- Lists from their end.
use Rattle.std.proofs.Common.{◌≡◌, ◌∙◌, ℕ, ◌+◌, ◌<◌, Bool, true, false, ◌||◌, List, [], ◌∷◌, ◌++◌, map, reverse, length, take, get_or, refl, sym, ap, append_assoc}
use Rattle.std.specs.List.{list_any}
use Rattle.std.proofs.lemmas.List.{reverse-append, map-append, take_more}
use Rattle.std.proofs.lemmas.List.Folds.{list_any-append}

pub reverse-cons : {X : Type 0} (x : X) (xs : List X) → reverse (x ∷ xs) ≡ reverse xs ++ x ∷ []
reverse-cons x xs = reverse-append (x ∷ []) xs

pub map-reverse : {X Y : Type 0} (f : X → Y) (xs : List X) → map f (reverse xs) ≡ reverse (map f xs)
map-reverse f [] = refl
map-reverse f (x ∷ xs) =
    ap (map f) (reverse-cons x xs) ∙ map-append f (reverse xs) (x ∷ []) ∙ ap (λ ys. ys ++ f x ∷ []) (map-reverse f xs) ∙ sym (reverse-cons (f x) (map f xs))

or_last : (a b : Bool) → (a || (b || false)) ≡ (b || a)
or_last true true = refl
or_last true false = refl
or_last false true = refl
or_last false false = refl

pub list_any-reverse : {X : Type 0} (p : X → Bool) (xs : List X) → list_any p (reverse xs) ≡ list_any p xs
list_any-reverse p [] = refl
list_any-reverse p (x ∷ xs) =
    ap (list_any p) (reverse-cons x xs) ∙ list_any-append p (reverse xs) (x ∷ []) ∙ ap (λ b. b || (p x || false)) (list_any-reverse p xs) ∙ or_last (list_any p xs) (p x)

-- what a loop from the end has read, one element further
pub read_back : {X Y : Type 0} (f : X → Y) (xs : List X) (done total : List Y) (i : ℕ) (d : X) → i < length xs → done ++ reverse (map f (take (i + 1) xs)) ≡ total
    → (done ++ f (get_or xs i d) ∷ []) ++ reverse (map f (take i xs)) ≡ total
read_back f xs done total i d lt so_far =
    let more : reverse (map f (take (i + 1) xs)) ≡ f (get_or xs i d) ∷ reverse (map f (take i xs)) =
    ap (λ ys. reverse (map f ys)) (take_more xs i d lt) ∙ ap reverse (map-append f (take i xs) (get_or xs i d ∷ [])) ∙ reverse-append (map f (take i xs)) (f (get_or xs i d) ∷ []) in
    append_assoc done (f (get_or xs i d) ∷ []) (reverse (map f (take i xs))) ∙ ap (λ ys. done ++ ys) (sym more) ∙ so_far
