-- Texts get their first places from the last to the first.
use Rattle.std.proofs.Common.{◌≡◌, ℕ, ◌+◌, ◌<◌, ◌≤◌, Bool, true, false, cond, Bor, List, [], ◌∷◌, length, map, drop, get_or, Option, Some, None, IfSome, bytes_eq, not, nat_lt, position, refl, sym, ap, subst, ◌∙◌, arith, add-one, drop-cons}
use Rattle.std.specs.List.{position_from, position_or_len, prefix_len}
use Rattle.std.proofs.lemmas.List.{length-map}
use Rattle.std.proofs.lemmas.Iterator.Adapters.{position_from-zero}
use Rattle.kconfig.proofs.Among.{bytes_eq_swap}
use Rattle.kbind.specs.Places.{Places, place_in, HasPlace, AreFirst}

-- one text more before others
one_before : (x : List ℕ) (rest : List (List ℕ)) (i : ℕ) (old new : Places) → HasPlace x i old new → AreFirst old (i + 1) rest → AreFirst new i (x ∷ rest)
one_before x rest i old new has so_far = λ text.
    has text ∙ ap (λ (b : Bool). cond b (Some i) (place_in old text)) (bytes_eq_swap x text)
    ∙ ap (λ (o : Option ℕ). cond (bytes_eq text x) (Some i) o) (so_far text)

pub goes_on : (texts : List (Bor (List ℕ))) (d : Bor (List ℕ)) (i next : ℕ) (old new : Places) → next ≡ i + 1 → next ≤ length texts → HasPlace (get_or texts i d).now i old new
    → AreFirst old next (map (λ t. t.now) (drop next texts)) → AreFirst new i (map (λ t. t.now) (drop i texts))
goes_on texts d i next old new e within has so_far =
    let first : drop i texts ≡ get_or texts i d ∷ drop (i + 1) texts = rw add-one (drop-cons texts i d (omega arith)) in
    let behind : AreFirst old (i + 1) (map (λ t. t.now) (drop (i + 1) texts)) = subst (λ n. AreFirst old n (map (λ t. t.now) (drop n texts))) e so_far in
    subst (λ (ts : List (Bor (List ℕ))). AreFirst new i (map (λ t. t.now) ts)) (sym first) (one_before (get_or texts i d).now (map (λ t. t.now) (drop (i + 1) texts)) i old new has behind)

-- the place that is found
pub found : (texts : List (List ℕ)) (places : Places) (text : List ℕ) → AreFirst places 0 texts → place_in places text ≡ position (bytes_eq text) texts
found texts places text first = first text ∙ sym (position_from-zero (bytes_eq text) texts)

some_within : (test : List ℕ → Bool) (i : ℕ) (texts : List (List ℕ)) → IfSome (position_from test i texts) (λ place. place < i + length texts)
some_within test i [] = tt
some_within test i (x ∷ texts) = by_test (test x) (some_within test (i + 1) texts)
  where
    further : (o : Option ℕ) → IfSome o (λ place. place < (i + 1) + length texts) → IfSome o (λ place. place < i + length (x ∷ texts))
    further None h = h
    further (Some place) h = omega arith

    by_test : (b : Bool) → IfSome (position_from test (i + 1) texts) (λ place. place < (i + 1) + length texts) → IfSome (cond b (Some i) (position_from test (i + 1) texts)) (λ place. place < i + length (x ∷ texts))
    by_test true h = omega arith
    by_test false h = further (position_from test (i + 1) texts) h

-- it is among them
pub within : (texts : List (List ℕ)) (places : Places) (text : List ℕ) → AreFirst places 0 texts → IfSome (place_in places text) (λ place. place < length texts)
within texts places text first =
    subst (λ (o : Option ℕ). IfSome o (λ place. place < length texts)) (sym (first text)) (subst (λ (n : ℕ). IfSome (position_from (bytes_eq text) 0 texts) (λ place. place < n)) (omega arith) (some_within (bytes_eq text) 0 texts))

-- ---- a search among what a list's elements are mapped to

pub prefix_of_map : {A B : Type 0} (p : B → Bool) (f : A → B) (xs : List A) → prefix_len p (map f xs) ≡ prefix_len (λ x. p (f x)) xs
prefix_of_map p f [] = refl
prefix_of_map p f (x ∷ xs) = ap (λ (n : ℕ). cond (p (f x)) (1 + n) 0) (prefix_of_map p f xs)

pub position_of_map : {A B : Type 0} (p : B → Bool) (f : A → B) (xs : List A) → position p (map f xs) ≡ position (λ x. p (f x)) xs
position_of_map p f xs =
    ap (λ (n : ℕ). cond (nat_lt n (length (map f xs))) (Some n) None) (prefix_of_map (λ y. not (p y)) f xs)
    ∙ ap (λ (l : ℕ). cond (nat_lt (position_or_len (λ x. p (f x)) xs) l) (Some (position_or_len (λ x. p (f x)) xs)) None) (length-map xs f)
