-- What fits what, where it is known whether a name is that of an array.
use Rattle.std.proofs.Common.{◌≡◌, ◌∙◌, ℕ, Bool, true, false, List, [], ◌∷◌, Option, Some, None, refl, ap, cond, ◌==◌, ◌&&◌, if◌then◌else◌, bytes_eq}
use Rattle.jworld.specs.Subtype.{Rule, is_reference, reference_in, class_fits, array_fits, items_fit, fits}
use Rattle.type_states.specs.Assignable.{items_in, plain_items_fit}

if_some : {X : Type 0} (b : Bool) (rest items : List ℕ) (f : List ℕ → X) (y : X) → (if b then Some rest else None) ≡ Some items → (if b then f rest else y) ≡ f items
if_some true rest items f y e = let same : rest ≡ items = cc in rw same refl
if_some false rest items f y e = cc

if_none : {X : Type 0} (b : Bool) (rest : List ℕ) (x y : X) → (if b then Some rest else None) ≡ None → (if b then x else y) ≡ y
if_none true rest x y e = cc
if_none false rest x y e = refl

items_fit-some : (rule : Rule) (from items to : List ℕ) → items_in from ≡ Some items → items_fit rule from to ≡ (is_reference to && array_fits rule (items_fit rule items) (reference_in to))
unfolding items_fit
items_fit-some rule [] items to e = cc
items_fit-some rule (c ∷ rest) items to e = if_some (c == 91) rest items (λ i. is_reference to && array_fits rule (items_fit rule i) (reference_in to)) (plain_items_fit rule (c ∷ rest) to) e

pub items_fit-array : (rule : Rule) (from items to : List ℕ) → items_in from ≡ Some items → is_reference to ≡ true → items_fit rule from to ≡ array_fits rule (items_fit rule items) (reference_in to)
items_fit-array rule from items to e reference = items_fit-some rule from items to e ∙ ap (λ b. b && array_fits rule (items_fit rule items) (reference_in to)) reference

pub items_fit-number : (rule : Rule) (from items to : List ℕ) → items_in from ≡ Some items → is_reference to ≡ false → items_fit rule from to ≡ false
items_fit-number rule from items to e none = items_fit-some rule from items to e ∙ ap (λ b. b && array_fits rule (items_fit rule items) (reference_in to)) none

pub items_fit-plain : (rule : Rule) (from to : List ℕ) → items_in from ≡ None → items_fit rule from to ≡ plain_items_fit rule from to
unfolding items_fit
items_fit-plain rule [] to e = refl
items_fit-plain rule (c ∷ rest) to e = if_none (c == 91) rest (is_reference to && array_fits rule (items_fit rule rest) (reference_in to)) (plain_items_fit rule (c ∷ rest) to) e

pub array_fits-array : (rule : Rule) (fit : List ℕ → Bool) (to items : List ℕ) → items_in to ≡ Some items → array_fits rule fit to ≡ fit items
array_fits-array rule fit [] items e = cc
array_fits-array rule fit (c ∷ rest) items e = if_some (c == 91) rest items fit (rule.array (c ∷ rest)) e

pub array_fits-class : (rule : Rule) (fit : List ℕ → Bool) (to : List ℕ) → items_in to ≡ None → array_fits rule fit to ≡ rule.array to
array_fits-class rule fit [] e = refl
array_fits-class rule fit (c ∷ rest) e = if_none (c == 91) rest (fit rest) (rule.array (c ∷ rest)) e

pub class_fits-array : (rule : Rule) (from to items : List ℕ) → items_in to ≡ Some items → class_fits rule from to ≡ false
class_fits-array rule from [] items e = cc
class_fits-array rule from (c ∷ rest) items e = if_some (c == 91) rest items (λ _. false) (rule.class from (c ∷ rest)) e

pub class_fits-class : (rule : Rule) (from to : List ℕ) → items_in to ≡ None → class_fits rule from to ≡ rule.class from to
class_fits-class rule from [] e = refl
class_fits-class rule from (c ∷ rest) e = if_none (c == 91) rest false (rule.class from (c ∷ rest)) e

pub fits-array : (rule : Rule) (from items to : List ℕ) → items_in from ≡ Some items → fits rule from to ≡ array_fits rule (items_fit rule items) to
fits-array rule [] items to e = cc
fits-array rule (c ∷ rest) items to e = if_some (c == 91) rest items (λ i. array_fits rule (items_fit rule i) to) (class_fits rule (c ∷ rest) to) e

pub fits-class : (rule : Rule) (from to : List ℕ) → items_in from ≡ None → fits rule from to ≡ class_fits rule from to
fits-class rule [] to e = refl
fits-class rule (c ∷ rest) to e = if_none (c == 91) rest (array_fits rule (items_fit rule rest) to) (class_fits rule (c ∷ rest) to) e
