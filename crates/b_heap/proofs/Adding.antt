-- What objects have and take, added up along superclasses.
use Rattle.std.proofs.Common.{◌≡◌, ℕ, zero, suc, ◌+◌, ◌-◌, ◌*◌, ◌^◌, ◌<◌, ◌≤◌, List, [], ◌∷◌, ◌++◌, length, map, reverse, Option, Some, None, option_to_list, slice_index, refl, sym, ap, ◌∙◌, arith}
use Rattle.std.specs.Prelude.{sum_by, Result, Ok, Err, IfOk}
use Rattle.std.specs.List.{flat_map}
use Rattle.std.proofs.lemmas.List.{length-append, length-map, map-append, reverse-append}
use Rattle.std.proofs.lemmas.List.Concat.{flat_map-append}
use Rattle.std.proofs.lemmas.List.Sums.{sum_by-cons}
use Rattle.jworld.specs.Classes.{World, count, super_of, interfaces_of}
use Rattle.jworld.specs.Upwards.{upwards, chain, on_some}
use Rattle.jworld.specs.declared.ids.ClassId.{ClassId}
use Rattle.jworld.proofs.Walking.{number}
use Rattle.values.specs.declared.value.Value.{Value}
use Rattle.values.specs.Values.{zero_of}
use Rattle.jworld.proofs.NoSupers.{supers_past}
use Rattle.b_heap.specs.Shapes.{instance_shapes}
use Rattle.b_heap.specs.Objects.{own_shapes, object_shapes, object_cost, level_cost}
use Rattle.b_heap.specs.Held.{TellsNumbers, AreFew}
use Rattle.b_heap.proofs.Told.{fields_past}

-- ---- sums of equal numbers, and of at most so much each

pub same_sums : (f g : ℕ → ℕ) → ((c : ℕ) → f c ≡ g c) → (xs : List ℕ) → sum_by f xs ≡ sum_by g xs
same_sums f g e [] = refl
same_sums f g e (x ∷ xs) = sum_by-cons f x xs ∙ omega (arith, e x, same_sums f g e xs) ∙ sym (sum_by-cons g x xs)

most_sums : (f : ℕ → ℕ) (most : ℕ) → ((c : ℕ) → f c ≤ most) → (xs : List ℕ) → sum_by f xs ≤ most * length xs
most_sums f most h [] = omega arith
most_sums f most h (x ∷ xs) = omega (arith, sum_by-cons f x xs, h x, most_sums f most h xs)

one_few : (f : ℕ → List ℕ) (most class : ℕ) → ((c : ℕ) → length (f c) ≤ most) → (above : Option ℕ) → length (class ∷ on_some f above) ≤ suc most
one_few f most class h None = omega arith
one_few f most class h (Some above) = omega (arith, h above)

chain_few : (files : World) (most class : ℕ) → length (chain most files class) ≤ most
unfolding chain
chain_few files zero class = omega arith
chain_few files (suc most) class = one_few (chain most files) most class (chain_few files most) (super_of files class)

-- ---- how many fields objects have

length_flat : {X : Type 0} (f : ℕ → List X) (xs : List ℕ) → length (flat_map f (reverse xs)) ≡ sum_by (λ x. length (f x)) xs
length_flat f [] = refl
length_flat f (x ∷ xs) =
    let turned : reverse (x ∷ xs) ≡ reverse xs ++ x ∷ [] = reverse-append (x ∷ []) xs in
    let parts : flat_map f (reverse xs ++ x ∷ []) ≡ flat_map f (reverse xs) ++ flat_map f (x ∷ []) = flat_map-append f (reverse xs) (x ∷ []) in
    let last : length (flat_map f (x ∷ [])) ≡ length (f x) = length-append (f x) [] ∙ omega arith in
    ap (λ ys. length (flat_map f ys)) turned ∙ ap length parts ∙ length-append (flat_map f (reverse xs)) (flat_map f (x ∷ []))
    ∙ omega (arith, length_flat f xs, last, sum_by-cons (λ y. length (f y)) x xs)

pub length_shapes : (files : World) (class : ℕ) → length (object_shapes files class) ≡ sum_by (λ c. length (own_shapes files c)) (upwards files class)
unfolding object_shapes
length_shapes files class = length_flat (own_shapes files) (upwards files class)

pub length_above : (files : World) (next : Option ℕ) → length (on_some (object_shapes files) next) ≡ sum_by (λ c. length (own_shapes files c)) (on_some (upwards files) next)
length_above files None = refl
length_above files (Some class) = length_shapes files class

upwards_few : (files : World) (class : ℕ) → length (upwards files class) ≤ count files
unfolding upwards
upwards_few files class = chain_few files (count files) class

pub are_few : (files : World) → count files ≤ 2052 → ((class : ℕ) → length (own_shapes files class) ≤ 65536) → AreFew files
are_few files classes own class =
    let sum = most_sums (λ c. length (own_shapes files c)) 65536 own (upwards files class) in
    omega (arith, length_shapes files class, sum, upwards_few files class, classes)

-- ---- what the objects of no class would take

no_super : (files : World) (class : ℕ) (above : Option ℕ) → option_to_list above ++ interfaces_of files class ≡ [] → above ≡ None
no_super files class None e = refl
no_super files class (Some above) e = cc

chain_step : (files : World) (most class : ℕ) → chain (suc most) files class ≡ class ∷ on_some (chain most files) (super_of files class)
unfolding chain
chain_step files most class = refl

alone : (files : World) (class : ℕ) → count files ≤ class → upwards files class ≡ class ∷ []
unfolding upwards
alone files class past =
    let some : count files ≡ suc (3 + length files) = omega arith in
    ap (λ (most : ℕ). chain most files class) some ∙ chain_step files (3 + length files) class
    ∙ ap (λ above. class ∷ on_some (chain (3 + length files) files) above) (no_super files class (super_of files class) (supers_past files class past))

pub cost_past : (files : World) (class : ℕ) → count files ≤ class → object_cost files class ≡ 8
unfolding object_cost
cost_past files class past =
    ap (λ xs. 8 + sum_by (λ c. level_cost (own_shapes files c)) xs) (alone files class past)
    ∙ ap (λ fields. 8 + (0 + level_cost (instance_shapes fields))) (fields_past files class past)

pub cost_is : (files : World) (levels : List ℕ) → TellsNumbers (λ c. level_cost (own_shapes files c)) levels → (class : ℕ)
    → 8 + sum_by (λ c. slice_index levels c) (upwards files class) ≡ object_cost files class
unfolding object_cost
cost_is files levels tells class = ap (λ n. 8 + n) (same_sums (λ c. slice_index levels c) (λ c. level_cost (own_shapes files c)) tells (upwards files class))

-- ---- what new objects hold

turned : {X Y : Type 0} (f : X → Y) (xs : List X) → map f (reverse xs) ≡ reverse (map f xs)
turned f [] = refl
turned f (x ∷ xs) =
    ap (map f) (reverse-append (x ∷ []) xs) ∙ map-append f (reverse xs) (x ∷ []) ∙ ap (λ ys. ys ++ f x ∷ []) (turned f xs) ∙ sym (reverse-append (f x ∷ []) (map f xs))

pub zeros_are : (files : World) (class : ℕ) (classes : List ClassId) → map number classes ≡ upwards files class
    → map zero_of (flat_map (own_shapes files) (map number (reverse classes))) ≡ map zero_of (object_shapes files class)
unfolding object_shapes
zeros_are files class classes e = ap (λ ns. map zero_of (flat_map (own_shapes files) ns)) (turned number classes ∙ ap reverse e)

pub zeros_few : (files : World) (class : ℕ) (values : List Value) → AreFew files → values ≡ map zero_of (object_shapes files class) → length values < 2 ^ 31
zeros_few files class values few e = omega (arith, few class, length-map (object_shapes files class) zero_of, ap length e)

pub weaker : {A E : Type 0} (P Q : A → Type 0) → ((v : A) → P v → Q v) → (r : Result A E) → IfOk r P → IfOk r Q
weaker P Q h (Ok v) p = h v p
weaker P Q h (Err e) p = p
