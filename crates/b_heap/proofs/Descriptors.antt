-- Items by the descriptors that types have.
use Rattle.std.proofs.Common.{◌≡◌, ℕ, ◌+◌, ◌-◌, false, List, [], ◌∷◌, ◌++◌, length, take, bytes_eq, ◌==◌, ◌&&◌, refl, ap, arith}
use Rattle.std.proofs.lemmas.List.{take_at, length_push}
use Rattle.jworld.specs.Subtype.{Rule, is_reference, reference_in, class_fits, items_fit}

pub letter_items : (rule : Rule) (letter : ℕ) (to : List ℕ) → (letter == 91) ≡ false → (letter == 76) ≡ false → items_fit rule (letter ∷ []) to ≡ bytes_eq (letter ∷ []) to
unfolding items_fit
letter_items rule letter to array class = rw (array, class) refl

named : (name : List ℕ) → take (length (name ++ 59 ∷ []) - 1) (name ++ 59 ∷ []) ≡ name
named name =
    let one : length name ≡ length (name ++ 59 ∷ []) - 1 = omega (arith, length_push name 59) in
    take_at name (59 ∷ []) (length (name ++ 59 ∷ []) - 1) one

pub object_items : (rule : Rule) (name to : List ℕ) → items_fit rule (76 ∷ (name ++ 59 ∷ [])) to ≡ (is_reference to && class_fits rule name (reference_in to))
unfolding items_fit
object_items rule name to = ap (λ from. is_reference to && class_fits rule from (reference_in to)) (named name)
