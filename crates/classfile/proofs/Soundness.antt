-- No index of an accepted constant pool is broken.
use Rattle.std.proofs.Common.{◌≡◌, ℕ, ◌-◌, inl, inr, ◌==◌, Bool, true, false, List, [], ◌∷◌, ◌++◌, get_or, slice_get, Option, Some, None, is_some, is_none, if◌then◌else◌, refl, sym, ap, ◌∙◌}
use Rattle.std.specs.List.{list_all}
use Rattle.std.proofs.lemmas.List.Folds.{list_all_at}
use Rattle.std.proofs.lemmas.Option.{slice_get_cases}
use Rattle.kes_text.specs.declared.refusal.Kind.{Kind}
use Rattle.kes_text.specs.declared.refusal.Kind.TheVariants as kind
use Rattle.kes_text.specs.declared.refusal.Refusal.{Refusal}
use Rattle.classfile.specs.declared.uses.Use.{Use}
use Rattle.classfile.specs.declared.uses.Use.TheVariants as uses
use Rattle.classfile.specs.declared.uses.Wanted.{Wanted}
use Rattle.classfile.specs.declared.uses.Wanted.TheVariants as wanted
use Rattle.classfile.specs.declared.pool.Entry.{Entry}
use Rattle.classfile.specs.declared.pool.Entry.TheVariants as entry
use Rattle.classfile.specs.declared.member.MemberKind.{MemberKind}
use Rattle.classfile.specs.declared.member.MemberKind.TheVariants as member_kind
use Rattle.classfile.specs.ClassFile.{MemberInfo}
use Rattle.classfile.specs.Pool.{◌>>=◌, entry_of, text, class_index, class_name, name_and_type_indices, name_and_type, member_indices}
use Rattle.classfile.specs.Faults.{text_fault, type_fault, type_indices, entry_fault, index_fault, fault_at, or_else, fault_of_index, place_of, repeats, key_of, fault, first_fault}
use Rattle.classfile.specs.Sound.{is_class, IsSound}
use Rattle.classfile.proofs.Backing.{Test, passes, backed, both, and_true}

-- an index has no fault
abbrev pub fits : List Entry → Test
fits pool names i = is_none (index_fault pool names i)

pub none_first : (a b : Option Refusal) → or_else a b ≡ None → (a ≡ None) × (b ≡ None)
none_first (Some x) b e = absurd cc
none_first None b e = (refl, e)

no_kind : (at : ℕ) (found : Option Kind) → fault_at at found ≡ None → is_none found ≡ true
no_kind at None e = refl
no_kind at (Some k) e = absurd cc

passes_one : (pool : List Entry) (one : Use) → fault_of_index pool one ≡ None → passes (fits pool) one ≡ true
passes_one pool (uses.Index at index names) e = no_kind at (index_fault pool names index) e
passes_one pool (uses.Member at is_method name descriptor) e = refl

-- where no fault is found, each index field passes
pub all_pass : (pool : List Entry) (before all : List Use) → first_fault pool before all ≡ None → list_all (passes (fits pool)) all ≡ true
unfolding first_fault
all_pass pool before [] e = refl
all_pass pool before (one ∷ others) e =
    let here = none_first (fault pool before one) (first_fault pool (before ++ one ∷ []) others) e in
    let alone = none_first (fault_of_index pool one) (if repeats pool before (key_of pool one) then fault_at (place_of one) (Some kind.TwoMembers) else None) here.0 in
    and_true (passes (fits pool) one) (list_all (passes (fits pool)) others) (passes_one pool one alone.0) (all_pass pool (before ++ one ∷ []) others here.1)

-- an entry of a pool whose entries are all backed is backed
stands : {X : Type 0} (p : X → Bool) (xs : List X) (j : ℕ) (x : X) (found : Bool) → p x ≡ found → list_all p xs ≡ true → slice_get xs j ≡ Some x → p x ≡ true
stands p xs j x true is all here = is
stands p xs j x false is all here = elim ((slice_get_cases xs j).1) [
  | inl (y, within, at, read) ↦
      let same : x ≡ y = (let e : Some x ≡ Some y = sym here ∙ at in cc) in
      let bad : p (get_or xs j y) ≡ false = ap p (read ∙ sym same) ∙ is in
      let no_all = list_all_at p xs j y within bad in
      absurd (let e : true ≡ false = sym all ∙ no_all in cc)
  | inr (past, missing) ↦ absurd (let e : Some x ≡ None = sym here ∙ missing in cc)
]

entry_stands : (pool : List Entry) (test : Test) (i : ℕ) (one : Entry) → list_all (backed test) pool ≡ true → entry_of pool i ≡ Some one → backed test one ≡ true
entry_stands pool test i one all here = by_zero (i == 0) refl here
  where
    by_zero : (none : Bool) → (i == 0) ≡ none → (if none then None else slice_get pool (i - 1)) ≡ Some one → backed test one ≡ true
    by_zero true e at = absurd cc
    by_zero false e at = stands (backed test) pool (i - 1) one (backed test one) refl all at

text_stands : (names : Wanted) (found : Option (List ℕ)) → is_none (text_fault names found) ≡ true → is_some found ≡ true
text_stands names None e = absurd cc
text_stands names (Some t) e = refl

class_stands : (found : Option Entry) → is_none (entry_fault wanted.Class found) ≡ true → is_some (found >>= class_index) ≡ true
class_stands None e = absurd cc
class_stands (Some (entry.Class name)) e = refl
class_stands (Some _) e = absurd cc

two_stand : {A B C : Type 0} (a : Option A) (b : Option B) (make : A → B → C) → is_some a ≡ true → is_some b ≡ true → is_some (a >>= λ x. b >>= λ y. Some (make x y)) ≡ true
two_stand (Some x) (Some y) make e f = refl
two_stand None b make e f = absurd cc
two_stand (Some x) None make e f = absurd cc

module _ (pool : List Entry) (all : list_all (backed (fits pool)) pool ≡ true) where
  class_named : (i : ℕ) (found : Option Entry) → entry_of pool i ≡ found → is_some (found >>= λ one. class_index one >>= text pool) ≡ is_some (found >>= class_index)
  class_named i None e = refl
  class_named i (Some (entry.Class name)) e = text_stands wanted.ClassText (text pool name) (entry_stands pool (fits pool) i (entry.Class name) all e)
  class_named i (Some _) e = refl

  classes : (i : ℕ) → is_some (class_name pool i) ≡ is_class pool i
  classes i = class_named i (entry_of pool i) refl

  type_named : (of_method : Bool) (i : ℕ) (found : Option Entry) → entry_of pool i ≡ found → is_none (type_fault of_method pool (type_indices found)) ≡ true
      → is_some {T = List ℕ × List ℕ} (found >>= λ one. name_and_type_indices one >>= λ indices. text pool indices.0 >>= λ name. text pool indices.1 >>= λ descriptor. Some (name, descriptor)) ≡ true
  type_named of_method i None e f = absurd cc
  type_named of_method i (Some (entry.NameAndType name descriptor)) e f =
      let parts = both (fits pool wanted.Text name) (fits pool wanted.AnyText descriptor) (entry_stands pool (fits pool) i (entry.NameAndType name descriptor) all e) in
      two_stand {C = List ℕ × List ℕ} (text pool name) (text pool descriptor) (λ a b. (a, b)) (text_stands wanted.Text (text pool name) parts.0) (text_stands wanted.AnyText (text pool descriptor) parts.1)
  type_named of_method i (Some _) e f = absurd cc

  parts_stand : (of : MemberKind) (of_method : Bool) (class named : ℕ) → fits pool wanted.Class class ≡ true → is_none (type_fault of_method pool (type_indices (entry_of pool named))) ≡ true
      → is_some {T = MemberInfo} (class_name pool class >>= λ c. name_and_type pool named >>= λ n. Some (record { kind = of; class = c; name = n.0; descriptor = n.1 })) ≡ true
  parts_stand of of_method class named e f =
      two_stand {C = MemberInfo} (class_name pool class) (name_and_type pool named) (λ c n. record { kind = of; class = c; name = n.0; descriptor = n.1 })
      (classes class ∙ class_stands (entry_of pool class) e) (type_named of_method named (entry_of pool named) refl f)

  member_named : (i : ℕ) (found : Option Entry) → entry_of pool i ≡ found
      → is_some {T = MemberInfo} ((found >>= member_indices) >>= λ indices. class_name pool indices.1 >>= λ c. name_and_type pool indices.2 >>= λ n. Some (record { kind = indices.0; class = c; name = n.0; descriptor = n.1 }))
      ≡ is_some (found >>= member_indices)
  member_named i None e = refl
  member_named i (Some (entry.Fieldref class named)) e =
      let parts = both (fits pool wanted.Class class) (fits pool wanted.FieldType named) (entry_stands pool (fits pool) i (entry.Fieldref class named) all e) in
      parts_stand member_kind.Field false class named parts.0 parts.1
  member_named i (Some (entry.Methodref class named)) e =
      let parts = both (fits pool wanted.Class class) (fits pool wanted.MethodType named) (entry_stands pool (fits pool) i (entry.Methodref class named) all e) in
      parts_stand member_kind.Method true class named parts.0 parts.1
  member_named i (Some (entry.InterfaceMethodref class named)) e =
      let parts = both (fits pool wanted.Class class) (fits pool wanted.MethodType named) (entry_stands pool (fits pool) i (entry.InterfaceMethodref class named) all e) in
      parts_stand member_kind.Interface true class named parts.0 parts.1
  member_named i (Some _) e = refl

  -- a pool whose entries are backed by indices without a fault
  pub sound : IsSound pool
  sound = record {
    classes = classes;
    members = λ i. member_named i (entry_of pool i) refl;
  }
