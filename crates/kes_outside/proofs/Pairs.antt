-- The contents of pairs: where the first pair of a name stands, and what they are when it is replaced or added.
use Rattle.std.proofs.Common.{◌≡◌, ◌≢◌, ℕ, suc, ◌+◌, ◌<◌, ◌≤◌, Bool, true, false, cond, not, List, [], ◌∷◌, ◌++◌, map, length, get_or, slice_set, String, Vec, string_bytes, Option, Some, None, position, nat_lt, refl, sym, ap, ◌∙◌, arith}
use Rattle.std.specs.declared.alloc.Global.{Global}
use Rattle.std.specs.List.{position_or_len}
use Rattle.std.specs.Str.{bytes_eq}
use Rattle.std.specs.Ordering.{nat_cmp}
use Rattle.std.specs.Cmp.Lexicographic.{slice_cmp, nat_list_cmp_total, texts_ties, same_text, other_text}
use Rattle.std.specs.FinMap.{find, get, insert, from_entries, get-from_entries, get-insert, same_map, from_entries_push, slice_cmp-IsAntisymmetric, nat_cmp-IsAntisymmetric}
use Rattle.std.proofs.lemmas.List.{map-append}
use Rattle.std.proofs.lemmas.Grind.{common_steps}
use Rattle.kes_outside.specs.FilesInMemory.{contents_of}

abbrev pub Pair : Type 0
Pair = String Global × Vec ℕ Global

abbrev entries_of : List Pair → List (List ℕ × List ℕ)
entries_of pairs = map (λ pair. (string_bytes pair.0, pair.1.items)) pairs

abbrev pub is_named : List ℕ → Pair → Bool
is_named name pair = bytes_eq name (string_bytes pair.0)

-- where the first pair of the name stands
abbrev place : List ℕ → List Pair → ℕ
place name pairs = position_or_len (is_named name) pairs

-- the bytes of the first pair of the name
abbrev first_bytes : List ℕ → List Pair → Option (List ℕ)
first_bytes name [] = None
first_bytes name (pair ∷ pairs) = cond (is_named name pair) (Some pair.1.items) (first_bytes name pairs)

find-entries_of : (name : List ℕ) (pairs : List Pair) → find (slice_cmp nat_cmp) name (entries_of pairs) ≡ first_bytes name pairs
find-entries_of name [] = refl
find-entries_of name (pair ∷ pairs) = λ i. cond (sym (texts_ties name (string_bytes pair.0)) i) (Some pair.1.items) (find-entries_of name pairs i)

get-contents_of : (pairs : List Pair) (name : List ℕ) → get (contents_of pairs) name ≡ first_bytes name pairs
get-contents_of pairs name = get-from_entries nat_list_cmp_total (entries_of pairs) name ∙ find-entries_of name pairs

first_bytes-within : (name : List ℕ) (pairs : List Pair) (d : Pair) → place name pairs < length pairs → first_bytes name pairs ≡ Some (get_or pairs (place name pairs) d).1.items
first_bytes-within name [] d = λ h. absurd (omega arith)
first_bytes-within name (pair ∷ pairs) d =
    elim (is_named name pair) as (λ b. cond (not b) (1 + place name pairs) 0 < length (pair ∷ pairs)
    → cond b (Some pair.1.items) (first_bytes name pairs) ≡ Some (get_or (pair ∷ pairs) (cond (not b) (1 + place name pairs) 0) d).1.items) [
      | true ↦ λ h. refl
      | false ↦ λ h.
          let next : suc (place name pairs) ≡ 1 + place name pairs = omega arith in
          first_bytes-within name pairs d (omega arith) ∙ ap (λ k. Some (get_or (pair ∷ pairs) k d).1.items) next
    ]

first_bytes-past : (name : List ℕ) (pairs : List Pair) → length pairs ≤ place name pairs → first_bytes name pairs ≡ None
first_bytes-past name [] = λ h. refl
first_bytes-past name (pair ∷ pairs) =
    elim (is_named name pair) as (λ b. length (pair ∷ pairs) ≤ cond (not b) (1 + place name pairs) 0
    → cond b (Some pair.1.items) (first_bytes name pairs) ≡ None) [
      | true ↦ λ h. absurd (omega arith)
      | false ↦ λ h. first_bytes-past name pairs (omega arith)
    ]

-- a test that is repeated: the inner branch is never reached
shadowed : {A : Type 0} (b : Bool) (x y z : A) → cond b x z ≡ cond b x (cond b y z)
shadowed true x y z = refl
shadowed false x y z = refl

-- no text is equal to two that differ
swapped : (q name other : List ℕ) (x y z : Option (List ℕ)) → name ≢ other → cond (bytes_eq q other) y (cond (bytes_eq q name) x z) ≡ cond (bytes_eq q name) x (cond (bytes_eq q other) y z)
swapped q name other x y z apart =
    elim (bytes_eq q other) as (λ a. a ≡ bytes_eq q other → cond a y (cond (bytes_eq q name) x z) ≡ cond (bytes_eq q name) x (cond a y z)) [
      | false ↦ λ _. refl
      | true ↦ λ is. elim (bytes_eq q name) as (λ b. b ≡ bytes_eq q name → y ≡ cond b x y) [
        | false ↦ λ _. refl
        | true ↦ λ also. absurd (apart (sym (same_text q name also) ∙ same_text q other is))
      ] refl
    ] refl

first_bytes-set : (name : List ℕ) (pairs : List Pair) (d : Pair) (bytes : Vec ℕ Global) (q : List ℕ) → place name pairs < length pairs
    → first_bytes q (slice_set pairs (place name pairs) ((get_or pairs (place name pairs) d).0, bytes)) ≡ cond (bytes_eq q name) (Some bytes.items) (first_bytes q pairs)
first_bytes-set name [] d bytes q = λ h. absurd (omega arith)
first_bytes-set name (pair ∷ pairs) d bytes q =
    elim (is_named name pair) as (λ b. b ≡ is_named name pair → cond (not b) (1 + place name pairs) 0 < length (pair ∷ pairs)
    → first_bytes q (slice_set (pair ∷ pairs) (cond (not b) (1 + place name pairs) 0) ((get_or (pair ∷ pairs) (cond (not b) (1 + place name pairs) 0) d).0, bytes))
    ≡ cond (bytes_eq q name) (Some bytes.items) (first_bytes q (pair ∷ pairs))) [
      | true ↦ λ is h. shadowed (is_named q pair) (Some bytes.items) (Some pair.1.items) (first_bytes q pairs)
          ∙ ap (λ n. cond (bytes_eq q n) (Some bytes.items) (first_bytes q (pair ∷ pairs))) (sym (same_text name (string_bytes pair.0) is))
      | false ↦ λ is h.
          let next : suc (place name pairs) ≡ 1 + place name pairs = omega arith in
          let rest : place name pairs < length pairs = omega arith in
          ap (λ k. first_bytes q (slice_set (pair ∷ pairs) k ((get_or (pair ∷ pairs) k d).0, bytes))) (sym next)
          ∙ ap (cond (is_named q pair) (Some pair.1.items)) (first_bytes-set name pairs d bytes q rest)
          ∙ swapped q name (string_bytes pair.0) (Some bytes.items) (Some pair.1.items) (first_bytes q pairs) (other_text name (string_bytes pair.0) is)
    ] refl

found : (i n most : ℕ) → Some i ≡ cond (nat_lt n most) (Some n) None → (i ≡ n) × (n < most)
found i n most is = grind (arith, common_steps)

not_found : (n most : ℕ) → ◌≡◌ {A = Option ℕ} None (cond (nat_lt n most) (Some n) None) → most ≤ n
not_found n most is = grind (arith, common_steps)

pub get-contents_of-found : (name : List ℕ) (pairs : List Pair) (i : ℕ) (d : Pair) → Some i ≡ position (is_named name) pairs → get (contents_of pairs) name ≡ Some (get_or pairs i d).1.items
get-contents_of-found name pairs i d is =
    let (same, within) = found i (place name pairs) (length pairs) is in
    get-contents_of pairs name ∙ first_bytes-within name pairs d within ∙ ap (λ k. Some (get_or pairs k d).1.items) (sym same)

pub get-contents_of-absent : (name : List ℕ) (pairs : List Pair) → None ≡ position (is_named name) pairs → get (contents_of pairs) name ≡ None
get-contents_of-absent name pairs is = get-contents_of pairs name ∙ first_bytes-past name pairs (not_found _ _ is)

pub contents_of-set : (name : List ℕ) (pairs : List Pair) (i : ℕ) (d : Pair) (bytes : Vec ℕ Global) → Some i ≡ position (is_named name) pairs
    → contents_of (slice_set pairs i ((get_or pairs i d).0, bytes)) ≡ insert (contents_of pairs) name bytes.items
contents_of-set name pairs i d bytes is =
    let (same, within) = found i (place name pairs) (length pairs) is in
    ap (λ k. contents_of (slice_set pairs k ((get_or pairs k d).0, bytes))) same
    ∙ same_map nat_list_cmp_total (slice_cmp-IsAntisymmetric nat_cmp-IsAntisymmetric) _ _ (λ q.
    get-contents_of _ q ∙ first_bytes-set name pairs d bytes q within
    ∙ sym (get-insert nat_list_cmp_total (contents_of pairs) name bytes.items q
    ∙ λ j. cond (sym (texts_ties q name) j) (Some bytes.items) (get-contents_of pairs q j)))

pub contents_of-push : (name : List ℕ) (pairs : List Pair) (pair : Pair) → None ≡ position (is_named name) pairs → string_bytes pair.0 ≡ name
    → contents_of (pairs ++ pair ∷ []) ≡ insert (contents_of pairs) name pair.1.items
contents_of-push name pairs pair is named =
    ap from_entries (map-append (λ p. (string_bytes p.0, p.1.items)) pairs (pair ∷ []))
    ∙ from_entries_push nat_list_cmp_total (slice_cmp-IsAntisymmetric nat_cmp-IsAntisymmetric) (entries_of pairs) (string_bytes pair.0) pair.1.items
    (find-entries_of _ pairs ∙ ap (λ n. first_bytes n pairs) named ∙ first_bytes-past name pairs (not_found _ _ is))
    ∙ ap (λ n. insert (contents_of pairs) n pair.1.items) named
