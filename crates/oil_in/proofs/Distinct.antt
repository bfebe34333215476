-- The names of one kind: each is new behind those before it, and what has it is found by it.
use Rattle.std.proofs.Common.{◌≡◌, ◌≢◌, ℕ, ◌<◌, ◌++◌, ◌∷◌, [], List, Bool, true, false, length, get_or, map, All, AllPairs, Some, refl, ap, sym, subst, ◌∙◌, arith, length-append, lt-ltb, true≢false}
use Rattle.std.proofs.Math.Seq.{get_or-append_seam}
use Rattle.std.specs.Prelude.{bytes_eq, position, slice_get}
use Rattle.std.specs.List.{list_any, position_or_len}
use Rattle.std.proofs.lemmas.List.{get_or-map, get_or_append_left, length-map}
use Rattle.std.proofs.lemmas.List.Folds.{list_any_none, list_any_at}
use Rattle.std.proofs.lemmas.List.Quantifiers.{position-Some}
use Rattle.std.proofs.lemmas.List.Sums.{position_or_len_is}
use Rattle.std.proofs.lemmas.Option.{none-some, slice_get_within, get_or_from_slice_get}
use Rattle.std.proofs.lemmas.Slice.Eq.{bytes_eq-Decides}
use Rattle.osek_core.specs.declared.tables.Name.{Name}
use Rattle.osek_core.specs.Tables.WellConfigured.{Differ}
use Rattle.oil_in.specs.Objects.{is_named}
use Rattle.oil_in.specs.Says.{IsName}
use Rattle.oil_in.proofs.InTurn.{at_place, InTurn, at_split}

-- names of one kind differ
abbrev pub Distinct : {X : Type 0} → (X → Name) → List X → Type 0
Distinct name xs = AllPairs (λ a b. (name a).text ≢ (name b).text) xs

pub distinct_of : {X : Type 0} (name : X → Name) (xs : List X) → Differ (map name xs) → Distinct name xs
distinct_of name xs differ i j d lt within same =
    let text : (k : ℕ) → k < length xs → (get_or (map name xs) k (name d)).text ≡ (name (get_or xs k d)).text = λ k before. ap (λ (n : Name). n.text) (get_or-map name xs k d (name d) before) in
    differ i j (name d) lt (omega (arith, length-map xs name)) (text i (omega arith) ∙ same ∙ sym (text j within))

pub differ_of : {X : Type 0} (name : X → Name) (xs : List X) → Distinct name xs → Differ (map name xs)
differ_of {X} name xs distinct i j d lt within same =
    let last : j < length xs = omega (arith, length-map xs name) in
    let there = at_place xs j last in
    let text : (k : ℕ) → k < length xs → (get_or (map name xs) k d).text ≡ (name (get_or xs k there.0)).text = λ k before. ap (λ (n : Name). n.text) (get_or-map name xs k there.0 d before) in
    distinct i j there.0 lt last (sym (text i (omega arith)) ∙ same ∙ text j last)

not_true : (b : Bool) → (b ≡ true → ⊥) → b ≡ false
not_true true h = absurd (h refl)
not_true false h = refl

pub bytes-differ : (xs ys : List ℕ) → xs ≢ ys → bytes_eq xs ys ≡ false
bytes-differ xs ys ne = not_true (bytes_eq xs ys) (λ same. ne ((bytes_eq-Decides xs ys).0 same))

-- no element before has its name, which has the form of one
abbrev pub IsNew : {X : Type 0} → (X → Name) → List X → X → Type 0
IsNew name xs x = (list_any (λ y. is_named (name x).text (name y)) xs ≡ false) × IsName (name x)

new_behind : {X : Type 0} (name : X → Name) (before : List X) (x : X) (after : List X) → Distinct name (before ++ x ∷ after) → list_any (λ y. is_named (name x).text (name y)) before ≡ false
new_behind {X} name before x after distinct =
    list_any_none (λ y. is_named (name x).text (name y)) before (λ k d lt.
    let within : length before < length (before ++ x ∷ after) = omega (arith, length-append before (x ∷ after)) in
    let text : X → List ℕ = λ y. (name y).text in
    let one = ap text (get_or_append_left before (x ∷ after) d k lt) in
    let other = ap text (get_or-append_seam before x after d) in
    bytes-differ (text (get_or before k d)) (text x) (λ same. distinct k (length before) d lt within (one ∙ same ∙ sym other)))

pub new_in_turn : {X : Type 0} (name : X → Name) (all : List X) → Distinct name all → All (λ x. IsName (name x)) all → InTurn (IsNew name) all
new_in_turn {X} name all distinct names before x after e =
    let Apart : List X → Type 0 = λ ys. Distinct name ys in
    (new_behind name before x after (subst Apart e distinct), at_split (λ y. IsName (name y)) all before x after names e)

-- an element that has a new name, and of which something holds
pub both_in_turn : {X : Type 0} (name : X → Name) (P : X → Type 0) (all : List X) → Distinct name all → All (λ x. IsName (name x)) all → All P all → InTurn (λ xs x. IsNew name xs x × P x) all
both_in_turn name P all distinct names each before x after e = (new_in_turn name all distinct names before x after e, at_split P all before x after each e)

pub others_differ : {X : Type 0} (name : X → Name) (xs : List X) (x : X) → list_any (λ y. is_named (name x).text (name y)) xs ≡ false → (k : ℕ) (d : X) → k < length xs → (name (get_or xs k d)).text ≢ (name x).text
others_differ name xs x new k d lt same =
    true≢false (sym (list_any_at (λ y. is_named (name x).text (name y)) xs k d lt ((bytes_eq-Decides (name (get_or xs k d)).text (name x).text).1 same)) ∙ new)

-- what stands at a place is found by its name
pub position-found : {X : Type 0} (name : X → Name) (xs : List X) (k : ℕ) (x : X) → Distinct name xs → slice_get xs k ≡ Some x → position (λ y. is_named (name x).text (name y)) xs ≡ Some k
position-found {X} name xs k x distinct at =
    let within : k < length xs = slice_get_within xs k x at in
    let here : get_or xs k x ≡ x = get_or_from_slice_get xs k x x at in
    let text : X → List ℕ = λ y. (name y).text in
    let first : position_or_len (λ y. is_named (name x).text (name y)) xs ≡ k = position_or_len_is (λ y. is_named (name x).text (name y)) xs k x (omega arith)
    (λ j lt. bytes-differ (text (get_or xs j x)) (text x) (λ same. distinct j k x lt within (same ∙ sym (ap text here))))
    (λ _. (bytes_eq-Decides (text (get_or xs k x)) (text x)).1 (ap text here)) in
    rw (first, lt-ltb k (length xs) within) refl

-- what is found stands at its place
pub stands_there : {X : Type 0} (passes : X → Bool) (xs : List X) (k : ℕ) → position passes xs ≡ Some k → (x : X) × (slice_get xs k ≡ Some x)
stands_there passes [] k h = absurd (none-some k h)
stands_there passes (d ∷ xs) k h = at_place (d ∷ xs) k (position-Some passes (d ∷ xs) k d h).0
