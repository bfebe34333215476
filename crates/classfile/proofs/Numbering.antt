-- How each text of a pool gets its number, entry by entry.
use Rattle.std.proofs.Common.{◌≡◌, ℕ, ◌+◌, ◌-◌, ◌<◌, ◌≤◌, ◌==◌, ◌⊎◌, inl, inr, Bool, true, false, cond, List, [], ◌∷◌, ◌++◌, length, map, get_or, Option, Some, None, slice_get, unwrap_or, bytes_eq, if◌then◌else◌, refl, sym, ap, subst, ◌∙◌, arith, length-append}
use Rattle.std.specs.Map.{lookup}
use Rattle.std.proofs.Math.ListN.{get_or-append}
use Rattle.std.proofs.Math.Seq.{get_or-append_seam}
use Rattle.std.proofs.lemmas.Option.{slice_get-get_or, slice_get_past}
use Rattle.std.proofs.lemmas.Bool.{eqb-true}
use Rattle.std.proofs.lemmas.Slice.Eq.{bytes_eq-Decides}
use Rattle.classfile.specs.declared.pool.Entry.{Entry}
use Rattle.classfile.specs.Pool.{◌>>=◌, utf8_text, text}
use Rattle.classfile.specs.Numbers.{Known, number_in, HasNumber, IsNumbered, IsNumbering}

-- a look-up among what a view shows
pub lookup_of_map : {K L X : Type 0} (test : L → Bool) (f : K → L) (es : List (K × X)) → lookup test (map (λ e. (f e.0, e.1)) es) ≡ lookup (λ k. test (f k)) es
lookup_of_map test f [] = refl
lookup_of_map {X = X} test f (e ∷ es) = ap (λ (r : Option X). cond (test (f e.0)) (Some e.1) r) (lookup_of_map test f es)

-- a look-up by another test that says the same
pub lookup_same : {K X : Type 0} (f g : K → Bool) → ((k : K) → f k ≡ g k) → (es : List (K × X)) → lookup f es ≡ lookup g es
lookup_same f g same [] = refl
lookup_same {X = X} f g same (e ∷ es) = rw (same e.0) (ap (λ (r : Option X). cond (g e.0) (Some e.1) r) (lookup_same f g same es))

-- the text of the entry at a place, from 0
abbrev pub text_in : List Entry → ℕ → Option (List ℕ)
text_in pool j = slice_get pool j >>= utf8_text

-- the entries before i have the numbers of their texts, and a number is a place where its text stands
pub record IsTold (pool : List Entry) (numbers : List ℕ) (known : Known) (i : ℕ) : Type 0 where
  pub told : (j : ℕ) (a : List ℕ) → j < i → text_in pool j ≡ Some a → number_in known a ≡ Some (get_or numbers j 0)
  pub first : (a : List ℕ) (n : ℕ) → number_in known a ≡ Some n → text_in pool n ≡ Some a
  pub count : length numbers ≡ i

some_is : {A : Type 0} (a b : A) → Some a ≡ Some b → a ≡ b
some_is a b e = cc

same_text : (a b : List ℕ) → bytes_eq a b ≡ true → a ≡ b
same_text a b e = (bytes_eq-Decides a b).0 e

equal_text : (a : List ℕ) → bytes_eq a a ≡ true
equal_text a = (bytes_eq-Decides a a).1 refl

-- one place more: before i, or i
place_of : (j i : ℕ) → j < i + 1 → (j < i) ⊎ (j ≡ i)
place_of j i lt = grind arith

-- a number that stood stays
kept : (numbers : List ℕ) (n j i : ℕ) → length numbers ≡ i → j < i → get_or (numbers ++ n ∷ []) j 0 ≡ get_or numbers j 0
kept numbers n j i count lt = get_or-append numbers (n ∷ []) 0 j (let e : j < length numbers = omega arith in e)

added : (numbers : List ℕ) (n i : ℕ) → length numbers ≡ i → get_or (numbers ++ n ∷ []) i 0 ≡ n
added numbers n i count = subst (λ k. get_or (numbers ++ n ∷ []) k 0 ≡ n) count (get_or-append_seam numbers n [] 0)

one_more : (numbers : List ℕ) (n i : ℕ) → length numbers ≡ i → length (numbers ++ n ∷ []) ≡ i + 1
one_more numbers n i count = rw (length-append numbers (n ∷ [])) (omega arith)

-- an entry without a text
no_text : (pool : List Entry) (numbers : List ℕ) (old new : Known) (i n : ℕ) → text_in pool i ≡ None
    → ((other : List ℕ) → number_in new other ≡ number_in old other) → IsTold pool numbers old i → IsTold pool (numbers ++ n ∷ []) new (i + 1)
no_text pool numbers old new i n none same so_far = record {
  told = λ j a lt is. elim (place_of j i lt) [
    | inl before ↦ same a ∙ so_far.told j a before is ∙ ap (λ (k : ℕ). Some k) (sym (kept numbers n j i so_far.count before))
    | inr here ↦ let bad : None ≡ Some a = sym none ∙ ap (text_in pool) (sym here) ∙ is in absurd cc
  ];
  first = λ a m is. so_far.first a m (sym (same a) ∙ is);
  count = one_more numbers n i so_far.count;
}

-- what the look-up of a text gives behind another that has a number now
given : (t a : List ℕ) (n : ℕ) (old new : Known) → HasNumber t n old new → bytes_eq t a ≡ true → number_in new a ≡ Some n
given t a n old new has e = has a ∙ ap (λ (b : Bool). cond b (Some n) (number_in old a)) e

other_given : (t a : List ℕ) (n : ℕ) (old new : Known) → HasNumber t n old new → bytes_eq t a ≡ false → number_in new a ≡ number_in old a
other_given t a n old new has e = has a ∙ ap (λ (b : Bool). cond b (Some n) (number_in old a)) e

-- an entry with a text that had a number, or has its place for one
told_before : (pool : List Entry) (numbers : List ℕ) (t : List ℕ) (old new : Known) (i n j : ℕ) (a : List ℕ) (same : Bool) → bytes_eq t a ≡ same
    → HasNumber t n old new → n ≡ unwrap_or (number_in old t) i → number_in old a ≡ Some (get_or numbers j 0) → number_in new a ≡ Some (get_or numbers j 0)
told_before pool numbers t old new i n j a true e has is was =
    let one : t ≡ a = same_text t a e in
    let had : number_in old t ≡ Some (get_or numbers j 0) = ap (number_in old) one ∙ was in
    let value : n ≡ get_or numbers j 0 = is ∙ ap (λ (o : Option ℕ). unwrap_or o i) had in
    given t a n old new has e ∙ ap (λ (k : ℕ). Some k) value
told_before pool numbers t old new i n j a false e has is was = other_given t a n old new has e ∙ was

stands_at : (pool : List Entry) (t : List ℕ) (old : Known) (i : ℕ) (found : Option ℕ) → found ≡ number_in old t → text_in pool i ≡ Some t
    → ((b : List ℕ) (m : ℕ) → number_in old b ≡ Some m → text_in pool m ≡ Some b) → text_in pool (unwrap_or found i) ≡ Some t
stands_at pool t old i None e here first = here
stands_at pool t old i (Some m) e here first = first t m (sym e)

first_of : (pool : List Entry) (t : List ℕ) (old new : Known) (i n : ℕ) (a : List ℕ) (m : ℕ) (same : Bool) → bytes_eq t a ≡ same
    → HasNumber t n old new → n ≡ unwrap_or (number_in old t) i → text_in pool i ≡ Some t
    → ((b : List ℕ) (k : ℕ) → number_in old b ≡ Some k → text_in pool k ≡ Some b) → number_in new a ≡ Some m → text_in pool m ≡ Some a
first_of pool t old new i n a m true e has is here first found =
    let value : n ≡ m = some_is n m (sym (given t a n old new has e) ∙ found) in
    let stands : text_in pool n ≡ Some t = ap (text_in pool) is ∙ stands_at pool t old i (number_in old t) refl here first in
    ap (text_in pool) (sym value) ∙ stands ∙ ap (λ (b : List ℕ). Some b) (same_text t a e)
first_of pool t old new i n a m false e has is here first found = first a m (sym (other_given t a n old new has e) ∙ found)

a_text : (pool : List Entry) (numbers : List ℕ) (t : List ℕ) (old new : Known) (i n : ℕ) → text_in pool i ≡ Some t
    → n ≡ unwrap_or (number_in old t) (length numbers) → HasNumber t n old new → IsTold pool numbers old i → IsTold pool (numbers ++ n ∷ []) new (i + 1)
a_text pool numbers t old new i n here value has so_far =
    let is : n ≡ unwrap_or (number_in old t) i = value ∙ ap (unwrap_or (number_in old t)) so_far.count in
    record {
      told = λ j a lt stands. elim (place_of j i lt) [
        | inl before ↦ told_before pool numbers t old new i n j a (bytes_eq t a) refl has is (so_far.told j a before stands) ∙ ap (λ (k : ℕ). Some k) (sym (kept numbers n j i so_far.count before))
        | inr at ↦
            let one : t ≡ a = some_is t a (sym here ∙ ap (text_in pool) (sym at) ∙ stands) in
            given t a n old new has ((bytes_eq-Decides t a).1 one) ∙ ap (λ (k : ℕ). Some k) (sym (ap (λ (k : ℕ). get_or (numbers ++ n ∷ []) k 0) at ∙ added numbers n i so_far.count))
      ];
      first = λ a m found. first_of pool t old new i n a m (bytes_eq t a) refl has is here so_far.first found;
      count = one_more numbers n i so_far.count;
    }

by_text : (pool : List Entry) (numbers : List ℕ) (found : Option (List ℕ)) (old new : Known) (i n : ℕ) → text_in pool i ≡ found
    → IsNumbered found (length numbers) n old new → IsTold pool numbers old i → IsTold pool (numbers ++ n ∷ []) new (i + 1)
by_text pool numbers None old new i n here is so_far = no_text pool numbers old new i n here is so_far
by_text pool numbers (Some t) old new i n here is so_far = a_text pool numbers t old new i n here is.0 is.1 so_far

-- an entry more
pub goes_on : (pool : List Entry) (numbers : List ℕ) (one : Entry) (old new : Known) (i n : ℕ) → i < length pool → one ≡ get_or pool i one
    → IsNumbered (utf8_text one) (length numbers) n old new → IsTold pool numbers old i → IsTold pool (numbers ++ n ∷ []) new (i + 1)
goes_on pool numbers one old new i n within is numbered so_far =
    let here : text_in pool i ≡ utf8_text one = ap (λ (o : Option Entry). o >>= utf8_text) (slice_get-get_or pool i one within) ∙ ap utf8_text (sym is) in
    by_text pool numbers (utf8_text one) old new i n here numbered so_far

-- none yet
pub begins : (pool : List Entry) → IsTold pool [] [] 0
begins pool = record {
  told = λ j a lt is. absurd (omega arith);
  first = λ a n is. absurd cc;
  count = refl;
}

-- a text stands within the pool
within : (pool : List Entry) (j : ℕ) (a : List ℕ) (found : Option Entry) → slice_get pool j ≡ found → (found >>= utf8_text) ≡ Some a → (length pool ≤ j → ⊥)
within pool j a None is e past = absurd cc
within pool j a (Some one) is e past = let none = slice_get_past pool j past in let bad : Some one ≡ None = sym is ∙ none in absurd cc

below : (n j : ℕ) → (n ≤ j → ⊥) → j < n
below n j not_past = grind arith

equal_number : (n : ℕ) → (n == n) ≡ true
equal_number n = grind arith

same_number : (pool : List Entry) (numbers : List ℕ) (known : Known) (all i j : ℕ) (a b : List ℕ) → length pool ≤ all → IsTold pool numbers known all → text_in pool i ≡ Some a → text_in pool j ≡ Some b
    → (get_or numbers i 0 == get_or numbers j 0) ≡ bytes_eq a b
same_number pool numbers known all i j a b over so_far one two =
    let lt_i : i < length pool = below (length pool) i (within pool i a (slice_get pool i) refl one) in
    let lt_j : j < length pool = below (length pool) j (within pool j b (slice_get pool j) refl two) in
    let of_a = so_far.told i a (omega (arith, lt_i, over)) one in
    let of_b = so_far.told j b (omega (arith, lt_j, over)) two in
    by_answer a b (get_or numbers i 0) (get_or numbers j 0) (bytes_eq a b) (get_or numbers i 0 == get_or numbers j 0) refl refl of_a of_b (so_far.first a (get_or numbers i 0) of_a) (so_far.first b (get_or numbers j 0) of_b)
  where
    by_answer : (a b : List ℕ) (m n : ℕ) (same equal : Bool) → bytes_eq a b ≡ same → (m == n) ≡ equal → number_in known a ≡ Some m → number_in known b ≡ Some n → text_in pool m ≡ Some a → text_in pool n ≡ Some b → equal ≡ same
    by_answer a b m n true true e f of_a of_b first_a first_b = refl
    by_answer a b m n false false e f of_a of_b first_a first_b = refl
    by_answer a b m n true false e f of_a of_b first_a first_b =
        let one : a ≡ b = same_text a b e in
        let value : m ≡ n = some_is m n (sym of_a ∙ ap (number_in known) one ∙ of_b) in
        let yes : (m == n) ≡ true = rw value (equal_number n) in
        let bad : true ≡ false = sym yes ∙ f in absurd cc
    by_answer a b m n false true e f of_a of_b first_a first_b =
        let value : m ≡ n = eqb-true m n f in
        let one : a ≡ b = some_is a b (sym first_a ∙ ap (text_in pool) value ∙ first_b) in
        let bad : true ≡ false = sym ((bytes_eq-Decides a b).1 one) ∙ e in absurd cc

-- entry i, from 1, is the one at the place before
at_place : (pool : List Entry) (i : ℕ) (a : List ℕ) → text pool i ≡ Some a → text_in pool (i - 1) ≡ Some a
at_place pool i a e = by_zero pool i a (i == 0) refl e
  where
    by_zero : (pool : List Entry) (i : ℕ) (a : List ℕ) (none : Bool) → (i == 0) ≡ none → ((if none then None else slice_get pool (i - 1)) >>= utf8_text) ≡ Some a → text_in pool (i - 1) ≡ Some a
    by_zero pool i a true is e = absurd cc
    by_zero pool i a false is e = e

pub all_told : (pool : List Entry) (numbers : List ℕ) (known : Known) (all : ℕ) → length pool ≤ all → IsTold pool numbers known all → IsNumbering pool numbers
all_told pool numbers known all over so_far = λ i j a b one two.
    same_number pool numbers known all (i - 1) (j - 1) a b over so_far (at_place pool i a one) (at_place pool j b two)
