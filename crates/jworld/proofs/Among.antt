-- Whether one of a list passes a test, and which.
use Rattle.std.proofs.Common.{◌≡◌, suc, Bool, true, false, List, [], ◌∷◌, Contains, refl, ap, ◌∙◌, ⊎_elim, arith}
use Rattle.std.specs.List.{list_any}
use Rattle.std.proofs.lemmas.Bool.{or_cases, both_ways}
use Rattle.std.proofs.lemmas.List.Folds.{list_any_at}

-- the first of a list, and those behind it
pub Contains-first : {A : Type 0} (x : A) (xs : List A) → Contains (x ∷ xs) x
Contains-first x xs = (0, omega arith, refl)

pub Contains-behind : {A : Type 0} (y : A) (xs : List A) (x : A) → Contains xs x → Contains (y ∷ xs) x
Contains-behind y xs x (k, within, is) = (suc k, omega arith, is)

-- one that passes
pub found : {A : Type 0} (p : A → Bool) (xs : List A) → list_any p xs ≡ true → (x : A) × (Contains xs x) × (p x ≡ true)
found p [] h = absurd (both_ways false refl h)
found p (x ∷ xs) h =
    ⊎_elim (λ here. (x, Contains-first x xs, here))
    (λ behind. let (y, in', passes) = found p xs behind in (y, Contains-behind x xs y in', passes))
    (or_cases (p x) (list_any p xs) h)

pub among : {A : Type 0} (p : A → Bool) (xs : List A) (x : A) → Contains xs x → p x ≡ true → list_any p xs ≡ true
among p xs x (k, within, is) passes = list_any_at p xs k x within (ap p is ∙ passes)

-- where each that passes one test passes another
pub weaker : {A : Type 0} (p q : A → Bool) (xs : List A) → ((x : A) → p x ≡ true → q x ≡ true) → list_any p xs ≡ true → list_any q xs ≡ true
weaker p q xs implies h = let (x, in', passes) = found p xs h in among q xs x in' (implies x passes)
