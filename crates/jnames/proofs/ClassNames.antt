-- Names of classes as parts with a / between them.
use Rattle.std.proofs.Common.{◌≡◌, ℕ, List, [], ◌∷◌, ◌++◌, length, Bool, true, false, not, ◌&&◌, ◌||◌, eqb, refl, sym, ap, subst, ◌∙◌, arith}
use Rattle.std.specs.List.{list_all, slice_split, join_with_byte, AllByRecursion}
use Rattle.std.proofs.lemmas.List.Splits.{join_with_byte-slice_split, slice_split_none, slice_split_at, length-slice_split}
use Rattle.std.proofs.lemmas.List.Elements.{All-from_recursion}
use Rattle.jnames.specs.Names.{is_name_byte, is_unqualified_name, is_class_name}
use Rattle.jnames.specs.Spelled.{IsClassName}

both_true : (a b : Bool) → a && b ≡ true → (a ≡ true) × (b ≡ true)
both_true true b e = (refl, e)
both_true false b e = absurd cc

none_of : (w x y z : Bool) → not (w || x || y || z) ≡ true → (x ≡ false) × (z ≡ false)
none_of true x y z e = absurd cc
none_of false true y z e = absurd cc
none_of false false true z e = absurd cc
none_of false false false true e = absurd cc
none_of false false false false e = (refl, refl)

-- a byte of a name is neither ; nor /
no_semicolon : (b : ℕ) → is_name_byte b ≡ true → eqb b 59 ≡ false
no_semicolon b e = (none_of (eqb b 46) (eqb b 59) (eqb b 91) (eqb b 47) e).0

no_slash : (b : ℕ) → is_name_byte b ≡ true → eqb b 47 ≡ false
no_slash b e = (none_of (eqb b 46) (eqb b 59) (eqb b 91) (eqb b 47) e).1

abbrev pub Lacks : ℕ → List ℕ → Type 0
Lacks c bytes = AllByRecursion (λ b. eqb b c ≡ false) bytes

bytes_lack : (c : ℕ) → ((b : ℕ) → is_name_byte b ≡ true → eqb b c ≡ false) → (bytes : List ℕ) → list_all is_name_byte bytes ≡ true → Lacks c bytes
bytes_lack c other [] e = tt
bytes_lack c other (b ∷ bytes) e =
    let h = both_true (is_name_byte b) (list_all is_name_byte bytes) e in
    (other b h.0, bytes_lack c other bytes h.1)

name_lacks : (c : ℕ) → ((b : ℕ) → is_name_byte b ≡ true → eqb b c ≡ false) → (name : List ℕ) → is_unqualified_name name ≡ true → Lacks c name
name_lacks c other name e = bytes_lack c other name (both_true (not (eqb (length name) 0)) (list_all is_name_byte name) e).1

both_lack : (c : ℕ) (front behind : List ℕ) → Lacks c front → Lacks c behind → Lacks c (front ++ behind)
both_lack c [] behind p q = q
both_lack c (b ∷ front) behind p q = (p.0, both_lack c front behind p.1 q)

abbrev AreNames : List (List ℕ) → Type 0
AreNames parts = AllByRecursion (λ name. is_unqualified_name name ≡ true) parts

-- parts without a / that are joined are cut there again
splits : (first : List ℕ) (others : List (List ℕ)) → AreNames (first ∷ others) → slice_split (λ b. eqb b 47) (join_with_byte 47 (first ∷ others)) ≡ first ∷ others
splits first [] h = slice_split_none (λ b. eqb b 47) first (All-from_recursion (λ b. eqb b 47 ≡ false) first (name_lacks 47 no_slash first h.0))
splits first (second ∷ others) h =
    slice_split_at (λ b. eqb b 47) first 47 (join_with_byte 47 (second ∷ others)) (All-from_recursion (λ b. eqb b 47 ≡ false) first (name_lacks 47 no_slash first h.0)) refl
    ∙ ap (λ (parts : List (List ℕ)). first ∷ parts) (splits second others h.1)

all_pass : (parts : List (List ℕ)) → AreNames parts → list_all is_unqualified_name parts ≡ true
all_pass [] h = refl
all_pass (part ∷ parts) h = rw h.0 (all_pass parts h.1)

are_names : (parts : List (List ℕ)) → list_all is_unqualified_name parts ≡ true → AreNames parts
are_names [] e = tt
are_names (part ∷ parts) e = let h = both_true (is_unqualified_name part) (list_all is_unqualified_name parts) e in (h.0, are_names parts h.1)

pub name_is_read : (text : List ℕ) → IsClassName text → is_class_name text ≡ true
name_is_read text h =
    let cut : slice_split (λ b. eqb b 47) text ≡ h.0 ∷ h.1 = ap (slice_split (λ b. eqb b 47)) h.3 ∙ splits h.0 h.1 h.2 in
    ap (list_all is_unqualified_name) cut ∙ all_pass (h.0 ∷ h.1) h.2

joined : (text : List ℕ) (parts : List (List ℕ)) → slice_split (λ b. eqb b 47) text ≡ parts → list_all is_unqualified_name parts ≡ true → IsClassName text
joined text [] e h = absurd (omega (arith, length-slice_split (λ b. eqb b 47) text, ap length e))
joined text (first ∷ others) e h =
    let whole : text ≡ join_with_byte 47 (first ∷ others) = sym (join_with_byte-slice_split 47 text) ∙ ap (join_with_byte 47) e in
    (first, others, are_names (first ∷ others) h, whole)

pub name_is_joined : (text : List ℕ) → is_class_name text ≡ true → IsClassName text
name_is_joined text h = joined text (slice_split (λ b. eqb b 47) text) refl h

join_lacks : (first : List ℕ) (others : List (List ℕ)) → AreNames (first ∷ others) → Lacks 59 (join_with_byte 47 (first ∷ others))
join_lacks first [] h = name_lacks 59 no_semicolon first h.0
join_lacks first (second ∷ others) h = both_lack 59 first (47 ∷ join_with_byte 47 (second ∷ others)) (name_lacks 59 no_semicolon first h.0) (refl, join_lacks second others h.1)

-- a class's name has no ;
pub lacks_semicolon : (text : List ℕ) → IsClassName text → Lacks 59 text
lacks_semicolon text h = subst (Lacks 59) (sym h.3) (join_lacks h.0 h.1 h.2)
