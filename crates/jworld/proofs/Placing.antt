-- Names and descriptors get their first places from the last to the first.
use Rattle.std.proofs.Common.{◌≡◌, ℕ, ◌+◌, ◌≤◌, Bool, true, false, ◌&&◌, cond, Bor, List, [], ◌∷◌, map, length, drop, get_or, Option, Some, None, unwrap_or, bytes_eq, nat_cmp, if◌then◌else◌, refl, sym, ap, subst, ◌∙◌, arith, add-one, drop-cons}
use Rattle.std.specs.Map.{lookup}
use Rattle.std.specs.Cmp.Lexicographic.{slice_cmp}
use Rattle.std.specs.BTreeMap.{is_at}
use Rattle.std.proofs.lemmas.Map.Text.{is_eq-slice_cmp}
use Rattle.std.proofs.lemmas.Slice.Eq.{bytes_eq-Decides}
use Rattle.classfile.proofs.Numbering.{lookup_of_map, lookup_same}
use Rattle.jworld.specs.Keyed.{Places, place_of, HasText, Keyed, named_in, place_in, HasPlace, HasPlaceBy, AreFirst}

abbrev pub shown : {V : Type 0} → List (Bor (List ℕ) × V) → List (List ℕ × V)
shown es = map (λ e. (e.0.now, e.1)) es

-- what a look-up in order finds
pub seen : {V : Type 0} (text : List ℕ) (es : List (Bor (List ℕ) × V)) → lookup (is_at (λ (k : Bor (List ℕ)). slice_cmp nat_cmp text k.now)) es ≡ lookup (bytes_eq text) (shown es)
seen text es =
    lookup_same (is_at (λ (k : Bor (List ℕ)). slice_cmp nat_cmp text k.now)) (λ k. bytes_eq text k.now) (λ k. is_eq-slice_cmp text k.now) es
    ∙ sym (lookup_of_map (bytes_eq text) (λ (k : Bor (List ℕ)). k.now) es)

-- what is found of a name, taken out and put in again with one place more
module _ (name descriptor : List ℕ) (place : ℕ) (old without new : Keyed) (list : Places) where
  pub placed : ((n : List ℕ) → lookup (bytes_eq n) without ≡ cond (bytes_eq name n) None (lookup (bytes_eq n) old)) → ((n : List ℕ) → lookup (bytes_eq n) new ≡ cond (bytes_eq name n) (Some list) (lookup (bytes_eq n) without))
      → HasText descriptor place (named_in old name) list → HasPlace name descriptor place old new
  placed out in' has n d = by (bytes_eq name n) (bytes_eq-Decides name n).0 (in' n ∙ ap (λ (o : Option Places). cond (bytes_eq name n) (Some list) o) (out n))
    where
      by : (b : Bool) → (b ≡ true → name ≡ n) → lookup (bytes_eq n) new ≡ cond b (Some list) (cond b None (lookup (bytes_eq n) old))
          → place_in new n d ≡ (if b && bytes_eq descriptor d then Some place else place_in old n d)
      by true same is =
          ap (λ (o : Option Places). place_of (unwrap_or o []) d) is ∙ has d
          ∙ ap (λ (m : List ℕ). cond (bytes_eq descriptor d) (Some place) (place_of (named_in old m) d)) (same refl)
      by false same is = ap (λ (o : Option Places). place_of (unwrap_or o []) d) is

module _ {A : Type 0} (test : List ℕ → List ℕ → A → Bool) where
  one_before : (x : A) (rest : List A) (i : ℕ) (old new : Keyed) → HasPlaceBy test x i old new → AreFirst test old (i + 1) rest → AreFirst test new i (x ∷ rest)
  one_before x rest i old new has so_far = λ n d. has n d ∙ ap (λ (o : Option ℕ). cond (test n d x) (Some i) o) (so_far n d)

  pub goes_on : (xs : List A) (d : A) (i next : ℕ) (old new : Keyed) → next ≡ i + 1 → next ≤ length xs → HasPlaceBy test (get_or xs i d) i old new → AreFirst test old next (drop next xs)
      → AreFirst test new i (drop i xs)
  goes_on xs d i next old new e within has so_far =
      let first : drop i xs ≡ get_or xs i d ∷ drop (i + 1) xs = rw add-one (drop-cons xs i d (omega arith)) in
      let behind : AreFirst test old (i + 1) (drop (i + 1) xs) = subst (λ (n : ℕ). AreFirst test old n (drop n xs)) e so_far in
      subst (λ (ys : List A). AreFirst test new i ys) (sym first) (one_before (get_or xs i d) (drop (i + 1) xs) i old new has behind)
