-- Texts as keys: what a look-up finds, and what a change at one leaves at the others.
use Rattle.std.proofs.Common.{◌≡◌, ℕ, Bool, true, false, ◌&&◌, ◌||◌, cond, List, map, Vec, Bor, BTreeMap, Option, bytes_eq, nat_cmp, is_eq, refl, sym, ap, subst, ◌∙◌}
use Rattle.std.specs.declared.alloc.Global.{Global}
use Rattle.std.specs.List.{list_any}
use Rattle.std.specs.Map.{lookup, KeepsOthers}
use Rattle.std.specs.Set as set
use Rattle.std.specs.BTreeMap.{is_at, get_by, UpdatesBy}
use Rattle.std.specs.HashSet as hash
use Rattle.std.specs.Cmp.Lexicographic.{slice_cmp}
use Rattle.std.proofs.lemmas.Map.Text.{is_eq-slice_cmp}
use Rattle.std.proofs.lemmas.Bool.{and_parts}
use Rattle.std.proofs.lemmas.Slice.Eq.{bytes_eq-Decides}
use Rattle.classfile.proofs.Numbering.{lookup_of_map, lookup_same}
use Rattle.kconfig.proofs.Among.{bytes_eq_swap}
use Rattle.kbind.specs.Pairs.{is_pair}

-- what a look-up in order finds of a text is what is found by its bytes
pub found_text : {X : Type 0} (text : List ℕ) (es : List (Bor (List ℕ) × X)) → lookup (is_at (λ (k : Bor (List ℕ)). slice_cmp nat_cmp text k.now)) es ≡ lookup (bytes_eq text) (map (λ e. (e.0.now, e.1)) es)
found_text text es =
    lookup_same (is_at (λ (k : Bor (List ℕ)). slice_cmp nat_cmp text k.now)) (λ k. bytes_eq text k.now) (λ k. is_eq-slice_cmp text k.now) es
    ∙ sym (lookup_of_map (bytes_eq text) (λ (k : Bor (List ℕ)). k.now) es)

-- ---- owned texts

abbrev pub Text : Type 0
Text = Vec ℕ Global

other_text : (bs cs ks : List ℕ) → bytes_eq bs cs ≡ false → bytes_eq bs ks ≡ true → bytes_eq cs ks ≡ false
other_text bs cs ks n y =
    let same : bs ≡ ks = (bytes_eq-Decides bs ks).0 y in
    subst (λ (x : List ℕ). bytes_eq cs x ≡ false) same (bytes_eq_swap cs bs ∙ n)

module _ {X : Type 0} (bs : List ℕ) (old new : BTreeMap Text X) (w : Option X) where
  pub updates_text : UpdatesBy (λ x y. slice_cmp nat_cmp x.items y.items) (λ (k : Text). slice_cmp nat_cmp bs k.items) old new w
      → (cs : List ℕ) → get_by (λ (k : Text). slice_cmp nat_cmp cs k.items) new ≡ cond (bytes_eq bs cs) w (get_by (λ (k : Text). slice_cmp nat_cmp cs k.items) old)
  unfolding KeepsOthers
  updates_text h cs = by_test (bytes_eq bs cs) refl
    where
      by_test : (b : Bool) → bytes_eq bs cs ≡ b → get_by (λ (k : Text). slice_cmp nat_cmp cs k.items) new ≡ cond b w (get_by (λ (k : Text). slice_cmp nat_cmp cs k.items) old)
      by_test true e = subst (λ (ds : List ℕ). get_by (λ (k : Text). slice_cmp nat_cmp ds k.items) new ≡ w) ((bytes_eq-Decides bs cs).0 e) h.1
      by_test false e =
          h.3 (λ k. is_eq (slice_cmp nat_cmp cs k.items))
          (λ x y t. let same : cs ≡ x.items = (bytes_eq-Decides cs x.items).0 (sym (is_eq-slice_cmp cs x.items) ∙ t) in ap (λ (l : List ℕ). is_eq (slice_cmp nat_cmp l y.items)) same)
          (λ k t. is_eq-slice_cmp cs k.items ∙ other_text bs cs k.items e (sym (is_eq-slice_cmp bs k.items) ∙ t))

-- ---- pairs of texts, of which the second is owned

abbrev pub Key : Type 0
Key = Bor (List ℕ) × Text

abbrev pub is_key : List ℕ → List ℕ → Key → Bool
is_key a b key = bytes_eq a key.0.now && bytes_eq b key.1.items

one_key : (a b : List ℕ) (key : Key) → is_key a b key ≡ true → (a ≡ key.0.now) × (b ≡ key.1.items)
one_key a b key t =
    let parts = and_parts (bytes_eq a key.0.now) (bytes_eq b key.1.items) t in
    ((bytes_eq-Decides a key.0.now).0 parts.0, (bytes_eq-Decides b key.1.items).0 parts.1)

one_pair : (a b c d : List ℕ) → is_pair a b (c, d) ≡ true → (c ≡ a) × (d ≡ b)
one_pair a b c d t =
    let parts = and_parts (bytes_eq a c) (bytes_eq b d) t in
    (sym ((bytes_eq-Decides a c).0 parts.0), sym ((bytes_eq-Decides b d).0 parts.1))

module _ {S : Type 0} (first second : List ℕ) (old new : hash.HashSet Key S) where
  pub adds_pair : hash.UpdatesBy (λ (x y : Key). is_key x.0.now x.1.items y) (is_key first second) old new true
      → (a b : List ℕ) → list_any (is_key a b) new.keys ≡ (is_pair a b (first, second) || list_any (is_key a b) old.keys)
  unfolding set.KeepsOthers
  adds_pair h a b = by_test (is_pair a b (first, second)) refl
    where
      by_test : (is : Bool) → is_pair a b (first, second) ≡ is → list_any (is_key a b) new.keys ≡ (is || list_any (is_key a b) old.keys)
      by_test true e =
          let same = one_pair a b first second e in
          subst (λ (y : List ℕ). list_any (is_key a y) new.keys ≡ true) same.1 (subst (λ (x : List ℕ). list_any (is_key x second) new.keys ≡ true) same.0 h.1)
      by_test false e =
          h.3 (is_key a b)
          (λ x y t. let same = one_key a b x t in ap (λ (l : List ℕ). is_key l b y) same.0 ∙ ap (λ (l : List ℕ). is_key x.0.now l y) same.1)
          (λ k t. let same = one_key first second k t in subst (λ (y : List ℕ). (bytes_eq a k.0.now && bytes_eq b y) ≡ false) same.1 (subst (λ (x : List ℕ). (bytes_eq a x && bytes_eq b second) ≡ false) same.0 e))
