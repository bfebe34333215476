-- Searches of a list that was made of another one element by element.
use Rattle.std.proofs.Common.{◌≡◌, ◌+◌, Bool, not, cond, ◌||◌, List, [], ◌∷◌, map, position, refl, ap}
use Rattle.std.proofs.lemmas.List.{length-map}
use Rattle.std.specs.List.{list_any, position_or_len}

module _ {A B : Type 0} (test : B → Bool) (f : A → B) where
  pub list_any-map : (xs : List A) → list_any test (map f xs) ≡ list_any (λ x. test (f x)) xs
  list_any-map [] = refl
  list_any-map (x ∷ xs) = ap (λ b. test (f x) || b) (list_any-map xs)

  pub position_or_len-map : (xs : List A) → position_or_len test (map f xs) ≡ position_or_len (λ x. test (f x)) xs
  position_or_len-map [] = refl
  position_or_len-map (x ∷ xs) = ap (λ n. cond (not (test (f x))) (1 + n) 0) (position_or_len-map xs)

  pub position-map : (xs : List A) → position test (map f xs) ≡ position (λ x. test (f x)) xs
  position-map xs = rw (position_or_len-map xs, length-map xs f)
