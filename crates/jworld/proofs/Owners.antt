-- The classes that are kept for a name and a descriptor, in a map from both.
use Rattle.std.proofs.Common.{◌≡◌, ℕ, Bool, true, false, ◌&&◌, cond, List, [], ◌∷◌, ◌++◌, map, Option, Some, None, unwrap_or, bytes_eq, Bor, BTreeMap, Ordering, Less, Equal, Greater, nat_cmp, is_eq, if◌then◌else◌, refl, sym, ap, ◌∙◌, subst, append-nil}
use Rattle.std.specs.Map.{lookup}
use Rattle.std.specs.Ordering.{ordering_then}
use Rattle.std.specs.Cmp.Lexicographic.{slice_cmp}
use Rattle.std.specs.BTreeMap.{is_at, get_by, UpdatesBy}
use Rattle.std.proofs.lemmas.Map.Text.{is_eq-slice_cmp}
use Rattle.std.proofs.lemmas.Bool.{and_parts}
use Rattle.std.proofs.lemmas.Slice.Eq.{bytes_eq-Decides}
use Rattle.classfile.proofs.Numbering.{lookup_of_map, lookup_same}
use Rattle.jworld.specs.Alone.{Alone, is_key, owners}

abbrev pub Key : Type 0
Key = Bor (List ℕ) × Bor (List ℕ)

abbrev pub text : Key → List ℕ × List ℕ
text key = (key.0.now, key.1.now)

abbrev pub shown : List (Key × List ℕ) → Alone
shown es = map (λ e. (text e.0, e.1)) es

abbrev pub compared : List ℕ → List ℕ → Key → Ordering
compared name descriptor key = ordering_then (slice_cmp nat_cmp name key.0.now) (slice_cmp nat_cmp descriptor key.1.now)

equal_both : (a b : Ordering) → is_eq (ordering_then a b) ≡ (is_eq a && is_eq b)
equal_both Less b = refl
equal_both Equal b = refl
equal_both Greater b = refl

equal_key : (name descriptor : List ℕ) (key : Key) → is_at (compared name descriptor) key ≡ is_key name descriptor (text key)
equal_key name descriptor key =
    equal_both (slice_cmp nat_cmp name key.0.now) (slice_cmp nat_cmp descriptor key.1.now) ∙ rw (is_eq-slice_cmp name key.0.now, is_eq-slice_cmp descriptor key.1.now) refl

-- what a look-up in order finds
pub seen : (name descriptor : List ℕ) (es : List (Key × List ℕ)) → lookup (is_at (compared name descriptor)) es ≡ lookup (is_key name descriptor) (shown es)
seen name descriptor es =
    lookup_same (is_at (compared name descriptor)) (λ key. is_key name descriptor (text key)) (equal_key name descriptor) es ∙ sym (lookup_of_map (is_key name descriptor) text es)

key_of : List ℕ → List ℕ → Key
key_of name descriptor = (record { ref_ptr = (0, 0); now = name }, record { ref_ptr = (0, 0); now = descriptor })

one_key : (name descriptor n d : List ℕ) → is_key name descriptor (n, d) ≡ true → (name ≡ n) × (descriptor ≡ d)
one_key name descriptor n d same = let (a, b) = and_parts (bytes_eq name n) (bytes_eq descriptor d) same in ((bytes_eq-Decides name n).0 a, (bytes_eq-Decides descriptor d).0 b)

chosen : (b : Bool) (new old : Option (List ℕ)) (list extra : List ℕ) → new ≡ cond b (Some list) (cond b None old) → (b ≡ true → list ≡ unwrap_or old [] ++ extra)
    → unwrap_or new [] ≡ unwrap_or old [] ++ (if b then extra else [])
chosen true new old list extra is more = ap (λ (o : Option (List ℕ)). unwrap_or o []) is ∙ more refl
chosen false new old list extra is more = ap (λ (o : Option (List ℕ)). unwrap_or o []) is ∙ sym (append-nil (unwrap_or old []))

-- an entry that is taken out and put in again with one more class
module _ (name descriptor : List ℕ) (class : ℕ) (list : List ℕ) (old without new : BTreeMap Key (List ℕ)) where
  pub owners_more : UpdatesBy (λ x y. compared x.0.now x.1.now y) (compared name descriptor) old without None
      → UpdatesBy (λ x y. compared x.0.now x.1.now y) (compared name descriptor) without new (Some list)
      → list ≡ unwrap_or (get_by (compared name descriptor) old) [] ++ class ∷ []
      → (n d : List ℕ) → owners (shown new.entries) n d ≡ owners (shown old.entries) n d ++ (if is_key name descriptor (n, d) then class ∷ [] else [])
  unfolding key_of
  owners_more out in' list_is n d =
      let key : Key = key_of n d in
      let same : Bool = is_key name descriptor (n, d) in
      let test : is_at (compared name descriptor) key ≡ same = equal_key name descriptor key in
      let taken : get_by (compared n d) without ≡ cond same None (get_by (compared n d) old) = out.0 key ∙ ap (λ (b : Bool). cond b None (get_by (compared n d) old)) test in
      let after : get_by (compared n d) new ≡ cond same (Some list) (cond same None (get_by (compared n d) old)) =
      in'.0 key ∙ ap (λ (b : Bool). cond b (Some list) (get_by (compared n d) without)) test ∙ ap (λ (o : Option (List ℕ)). cond same (Some list) o) taken in
      let Says : Option (List ℕ) → Option (List ℕ) → Type 0 = λ a b. unwrap_or a [] ≡ unwrap_or b [] ++ (if same then class ∷ [] else []) in
      let same_list : same ≡ true → list ≡ unwrap_or (get_by (compared n d) old) [] ++ class ∷ [] =
      λ e. let (a, b) = one_key name descriptor n d e in subst (λ (x : List ℕ). list ≡ unwrap_or (get_by (compared n x) old) [] ++ class ∷ []) b (subst (λ (x : List ℕ). list ≡ unwrap_or (get_by (compared x descriptor) old) [] ++ class ∷ []) a list_is) in
      let says : Says (get_by (compared n d) new) (get_by (compared n d) old) = chosen same (get_by (compared n d) new) (get_by (compared n d) old) list (class ∷ []) after same_list in
      subst (λ b. Says (lookup (is_key n d) (shown new.entries)) b) (seen n d old.entries) (subst (λ a. Says a (get_by (compared n d) old)) (seen n d new.entries) says)
