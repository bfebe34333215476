-- Lists that are made from the last element to the first.
use Rattle.std.proofs.Common.{◌≡◌, List, [], ◌∷◌, ◌++◌, map, reverse, sym, ap, ◌∙◌, append_assoc}
use Rattle.std.proofs.lemmas.List.{map-append, reverse-append}

-- the last of those that are left comes behind the others
pub one_more : {A B : Type 0} (f : A → B) (made more : List B) (left before : List A) (x : A) (whole : List B) → before ≡ left ++ x ∷ [] → more ≡ made ++ f x ∷ []
    → made ++ reverse (map f before) ≡ whole → more ++ reverse (map f left) ≡ whole
one_more f made more left before x whole taken put kept =
    let turned : reverse (map f before) ≡ f x ∷ reverse (map f left) = ap (λ xs. reverse (map f xs)) taken ∙ ap reverse (map-append f left (x ∷ [])) ∙ reverse-append (map f left) (f x ∷ []) in
    ap (λ ys. ys ++ reverse (map f left)) put
    ∙ append_assoc made (f x ∷ []) (reverse (map f left))
    ∙ ap (λ ys. made ++ ys) (sym turned)
    ∙ kept
