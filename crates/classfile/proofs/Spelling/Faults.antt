-- There is no fault exactly where each index field names what it is to name and no two members are the same.
use Rattle.std.proofs.Common.{◌≡◌, ℕ, ◌||◌, Bool, true, false, List, [], ◌∷◌, ◌++◌, Option, Some, None, is_none, flat_map, if◌then◌else◌, append-nil, refl, sym, ap, subst, ◌∙◌}
use Rattle.std.specs.List.{AllByRecursion, IsDistinct, list_any, cons_option}
use Rattle.std.proofs.lemmas.List.Folds.{list_any-append}
use Rattle.kes_text.specs.declared.refusal.Kind.{Kind}
use Rattle.kes_text.specs.declared.refusal.Kind.TheVariants as kind
use Rattle.classfile.specs.declared.uses.Use.{Use}
use Rattle.classfile.specs.declared.uses.Use.TheVariants as uses
use Rattle.classfile.specs.declared.pool.Entry.{Entry}
use Rattle.classfile.specs.ClassFile.{FieldInfo, MethodInfo}
use Rattle.classfile.specs.Seen.{Key, is_same}
use Rattle.classfile.specs.Faults.{index_fault, key_of, is_key, has_key, repeats, fault_at, place_of, fault_of_index, fault, first_fault}
use Rattle.classfile.specs.Spelled.Members.{is_same_field, is_same_method}
use Rattle.classfile.proofs.Backing.{passes, both}
use Rattle.classfile.proofs.Soundness.{fits, none_first}
use Rattle.classfile.proofs.Spelling.Calculus.{all_fit, keys_in, keys-append}
use Rattle.classfile.proofs.Spelling.Members.{field_key, method_key}

neither : (a b : Bool) → (a || b) ≡ false → (a ≡ false) × (b ≡ false)
neither true b e = absurd cc
neither false b e = (refl, e)

no_or : (a b : Bool) → a ≡ false → b ≡ false → (a || b) ≡ false
no_or a b e f = rw (e, f) refl

abbrev is_in : List Key → Key → Bool
is_in seen k = list_any (λ (other : Key). is_same other k) seen

-- each is none of those before it
abbrev pub Fresh : List Key → List Key → Type 0
Fresh seen [] = Unit {0}
Fresh seen (k ∷ others) = (is_in seen k ≡ false) × Fresh (seen ++ k ∷ []) others

module _ (pool : List Entry) where
  same_any : (k : Option Key) (key : Key) (others : List Key) (rest : Bool) → rest ≡ is_in others key → (is_key key k || rest) ≡ is_in (cons_option k others) key
  same_any None key others rest e = e
  same_any (Some other) key others rest e = ap (λ (b : Bool). is_same other key || b) e

  has_is : (before : List Use) (key : Key) → has_key pool before key ≡ is_in (keys_in pool before) key
  has_is [] key = refl
  has_is (one ∷ before) key = same_any (key_of pool one) key (keys_in pool before) (has_key pool before key) (has_is before key)

  one_more : (before : List Use) (one : Use) → keys_in pool (before ++ one ∷ []) ≡ keys_in pool before ++ cons_option (key_of pool one) []
  one_more before one = keys-append pool before (one ∷ [])

  fresh_by : (k : Option Key) (before : List Use) (others : List Key) → repeats pool before k ≡ false → Fresh (keys_in pool before ++ cons_option k []) others → Fresh (keys_in pool before) (cons_option k others)
  fresh_by None before others e h = subst (λ (seen : List Key). Fresh seen others) (append-nil (keys_in pool before)) h
  fresh_by (Some key) before others e h = (sym (has_is before key) ∙ e, h)

  by_fresh : (k : Option Key) (before : List Use) (others : List Key) → Fresh (keys_in pool before) (cons_option k others) → (repeats pool before k ≡ false) × Fresh (keys_in pool before ++ cons_option k []) others
  by_fresh None before others h = (refl, subst (λ (seen : List Key). Fresh seen others) (sym (append-nil (keys_in pool before))) h)
  by_fresh (Some key) before others h = (has_is before key ∙ h.0, h.1)

  unless_two : (b : Bool) (at : ℕ) → (if b then fault_at at (Some kind.TwoMembers) else None) ≡ None → b ≡ false
  unless_two true at e = absurd cc
  unless_two false at e = refl

  pub are_fresh : (before all : List Use) → first_fault pool before all ≡ None → Fresh (keys_in pool before) (keys_in pool all)
  unfolding first_fault
  are_fresh before [] e = tt
  are_fresh before (one ∷ others) e =
      let here = none_first (fault pool before one) (first_fault pool (before ++ one ∷ []) others) e in
      let alone = none_first (fault_of_index pool one) (if repeats pool before (key_of pool one) then fault_at (place_of one) (Some kind.TwoMembers) else None) here.0 in
      let more = are_fresh (before ++ one ∷ []) others here.1 in
      fresh_by (key_of pool one) before (keys_in pool others) (unless_two (repeats pool before (key_of pool one)) (place_of one) alone.1) (subst (λ (seen : List Key). Fresh seen (keys_in pool others)) (one_more before one) more)

  no_kind : (at : ℕ) (found : Option Kind) → is_none found ≡ true → fault_at at found ≡ None
  no_kind at None e = refl
  no_kind at (Some k) e = absurd cc

  no_index_fault : (one : Use) → passes (fits pool) one ≡ true → fault_of_index pool one ≡ None
  no_index_fault (uses.Index at index names) e = no_kind at (index_fault pool names index) e
  no_index_fault (uses.Member at is_method name descriptor) e = refl

  no_fault_at : (before : List Use) (one : Use) → passes (fits pool) one ≡ true → repeats pool before (key_of pool one) ≡ false → fault pool before one ≡ None
  no_fault_at before one e f = rw (no_index_fault one e, f) refl

  pub no_first : (before all : List Use) → all_fit pool all ≡ true → Fresh (keys_in pool before) (keys_in pool all) → first_fault pool before all ≡ None
  unfolding first_fault
  no_first before [] fit fresh = refl
  no_first before (one ∷ others) fit fresh =
      let parts = both (passes (fits pool) one) (all_fit pool others) fit in
      let apart = by_fresh (key_of pool one) before (keys_in pool others) fresh in
      let more = no_first (before ++ one ∷ []) others parts.1 (subst (λ (seen : List Key). Fresh seen (keys_in pool others)) (sym (one_more before one)) apart.1) in
      rw (no_fault_at before one parts.0 apart.0) more

-- ---- fresh keys are distinct

abbrev NotIn : List Key → List Key → Type 0
NotIn seen keys = AllByRecursion (λ (k : Key). is_in seen k ≡ false) keys

abbrev Differ : Key → List Key → Type 0
Differ k keys = AllByRecursion (λ (other : Key). is_same k other ≡ false) keys

one_in : (seen : List Key) (k j : Key) → is_in (seen ++ k ∷ []) j ≡ (is_in seen j || (is_same k j || false))
one_in seen k j = list_any-append (λ (other : Key). is_same other j) seen (k ∷ [])

split_seen : (seen : List Key) (k : Key) (keys : List Key) → NotIn (seen ++ k ∷ []) keys → NotIn seen keys × Differ k keys
split_seen seen k [] h = (tt, tt)
split_seen seen k (j ∷ keys) h =
    let two = neither (is_in seen j) (is_same k j || false) (sym (one_in seen k j) ∙ h.0) in
    let more = split_seen seen k keys h.1 in
    ((two.0, more.0), ((neither (is_same k j) false two.1).0, more.1))

join_seen : (seen : List Key) (k : Key) (keys : List Key) → NotIn seen keys → Differ k keys → NotIn (seen ++ k ∷ []) keys
join_seen seen k [] h d = tt
join_seen seen k (j ∷ keys) h d = (one_in seen k j ∙ no_or (is_in seen j) (is_same k j || false) h.0 (no_or (is_same k j) false d.0 refl), join_seen seen k keys h.1 d.1)

distinct_by : (seen keys : List Key) → Fresh seen keys → NotIn seen keys × IsDistinct is_same keys
unfolding IsDistinct
distinct_by seen [] h = (tt, tt)
distinct_by seen (k ∷ keys) h =
    let more = distinct_by (seen ++ k ∷ []) keys h.1 in
    let parts = split_seen seen k keys more.0 in
    ((h.0, parts.0), (parts.1, more.1))

by_distinct : (seen keys : List Key) → NotIn seen keys → IsDistinct is_same keys → Fresh seen keys
unfolding IsDistinct
by_distinct seen [] h d = tt
by_distinct seen (k ∷ keys) h d = (h.0, by_distinct (seen ++ k ∷ []) keys (join_seen seen k keys h.1 d.0) d.1)

none_seen : (keys : List Key) → NotIn [] keys
none_seen [] = tt
none_seen (k ∷ keys) = (refl, none_seen keys)

-- ---- keys of fields and of methods

abbrev pub member_keys : List FieldInfo → List MethodInfo → List Key
member_keys fields methods = flat_map field_key fields ++ flat_map method_key methods

abbrev MethodsDiffer : MethodInfo → List MethodInfo → Type 0
MethodsDiffer m methods = AllByRecursion (λ (other : MethodInfo). is_same_method m other ≡ false) methods

abbrev FieldsDiffer : FieldInfo → List FieldInfo → Type 0
FieldsDiffer f fields = AllByRecursion (λ (other : FieldInfo). is_same_field f other ≡ false) fields

methods_differ : (m : MethodInfo) (methods : List MethodInfo) → Differ (true, m.name, m.descriptor) (flat_map method_key methods) → MethodsDiffer m methods
methods_differ m [] h = tt
methods_differ m (other ∷ methods) h = (h.0, methods_differ m methods h.1)

differ_methods : (m : MethodInfo) (methods : List MethodInfo) → MethodsDiffer m methods → Differ (true, m.name, m.descriptor) (flat_map method_key methods)
differ_methods m [] h = tt
differ_methods m (other ∷ methods) h = (h.0, differ_methods m methods h.1)

fields_differ : (f : FieldInfo) (fields : List FieldInfo) (methods : List MethodInfo) → Differ (false, f.name, f.descriptor) (member_keys fields methods) → FieldsDiffer f fields
fields_differ f [] methods h = tt
fields_differ f (other ∷ fields) methods h = (h.0, fields_differ f fields methods h.1)

no_method_is : (f : FieldInfo) (methods : List MethodInfo) → Differ (false, f.name, f.descriptor) (flat_map method_key methods)
no_method_is f [] = tt
no_method_is f (m ∷ methods) = (refl, no_method_is f methods)

differ_fields : (f : FieldInfo) (fields : List FieldInfo) (methods : List MethodInfo) → FieldsDiffer f fields → Differ (false, f.name, f.descriptor) (member_keys fields methods)
differ_fields f [] methods h = no_method_is f methods
differ_fields f (other ∷ fields) methods h = (h.0, differ_fields f fields methods h.1)

methods_distinct : (methods : List MethodInfo) → IsDistinct is_same (flat_map method_key methods) → IsDistinct is_same_method methods
unfolding IsDistinct
methods_distinct [] h = tt
methods_distinct (m ∷ methods) h = (methods_differ m methods h.0, methods_distinct methods h.1)

distinct_methods : (methods : List MethodInfo) → IsDistinct is_same_method methods → IsDistinct is_same (flat_map method_key methods)
unfolding IsDistinct
distinct_methods [] h = tt
distinct_methods (m ∷ methods) h = (differ_methods m methods h.0, distinct_methods methods h.1)

members_distinct : (fields : List FieldInfo) (methods : List MethodInfo) → IsDistinct is_same (member_keys fields methods) → IsDistinct is_same_field fields × IsDistinct is_same_method methods
unfolding IsDistinct
members_distinct [] methods h = (tt, methods_distinct methods h)
members_distinct (f ∷ fields) methods h =
    let more = members_distinct fields methods h.1 in
    ((fields_differ f fields methods h.0, more.0), more.1)

distinct_members : (fields : List FieldInfo) (methods : List MethodInfo) → IsDistinct is_same_field fields → IsDistinct is_same_method methods → IsDistinct is_same (member_keys fields methods)
unfolding IsDistinct
distinct_members [] methods h d = distinct_methods methods d
distinct_members (f ∷ fields) methods h d = (differ_fields f fields methods h.0, distinct_members fields methods h.1 d)

pub fresh_members : (fields : List FieldInfo) (methods : List MethodInfo) → IsDistinct is_same_field fields → IsDistinct is_same_method methods → Fresh [] (member_keys fields methods)
fresh_members fields methods h d = by_distinct [] (member_keys fields methods) (none_seen (member_keys fields methods)) (distinct_members fields methods h d)

pub members_fresh : (fields : List FieldInfo) (methods : List MethodInfo) → Fresh [] (member_keys fields methods) → IsDistinct is_same_field fields × IsDistinct is_same_method methods
members_fresh fields methods h = members_distinct fields methods (distinct_by [] (member_keys fields methods) h).1
