-- What holds of class files that have no fault.
use Rattle.std.specs.Option.{option_copied}
use Rattle.std.proofs.Common.{◌≡◌, Bor, IfSome, ℕ, zero, suc, ◌+◌, ◌-◌, ◌≤◌, Bool, true, false, if◌then◌else◌, nat_lt, List, [], ◌∷◌, length, take, slice_get, get_or, Option, Some, None, refl, sym, ap, ◌∙◌, arith}
use Rattle.std.proofs.lemmas.Grind.{common_steps}
use Rattle.std.proofs.lemmas.Option.{slice_get_within, get_or_from_slice_get}
use Rattle.std.proofs.lemmas.List.Sums.{sum_by_more}
use Rattle.kes_text.specs.declared.refusal.Refusal.{Refusal}
use Rattle.kes_text.specs.declared.refusal.Kind.TheVariants as kind
use Rattle.classfile.specs.ClassFile.{ClassInfo}
use Rattle.jworld.specs.Classes.{World, file_of}
use Rattle.jworld.specs.Fields.{or_else}
use Rattle.jworld.specs.Faults.{first_from, first_of_files, duplicate_fault, supers_fault, cycle_fault, split_fault, large_fault, members, refused_if, refusal, world_fault}

pub record IsFaultless (files : World) : Type 0 where
  pub duplicate : first_of_files duplicate_fault files ≡ None
  pub supers : first_of_files supers_fault files ≡ None
  pub cycle : first_of_files cycle_fault files ≡ None
  pub split : first_of_files split_fault files ≡ None
  pub large : first_of_files large_fault files ≡ None

module _ {A : Type 0} where
  pub first_none : (a b : Option A) → or_else a b ≡ None → a ≡ None
  first_none None b h = refl
  first_none (Some x) b h = h

  pub other_none : (a b : Option A) → or_else a b ≡ None → b ≡ None
  other_none None b h = h
  other_none (Some x) b h = cc

pub faultless : (files : World) → world_fault files ≡ None → IsFaultless files
unfolding world_fault
faultless files h =
    let h2 = other_none (first_of_files duplicate_fault files) _ h in
    let h3 = other_none (first_of_files supers_fault files) _ h2 in
    let h4 = other_none (first_of_files cycle_fault files) _ h3 in
    record {
      duplicate = first_none (first_of_files duplicate_fault files) _ h;
      supers = first_none (first_of_files supers_fault files) _ h2;
      cycle = first_none (first_of_files cycle_fault files) _ h3;
      split = first_none (first_of_files split_fault files) _ h4;
      large = other_none (first_of_files split_fault files) _ h4;
    }

module _ (fault : ℕ → ClassInfo → Option Refusal) where
  -- where no file has a fault, none has
  pub none_at : (i : ℕ) (files : List ClassInfo) (j : ℕ) (file : ClassInfo) → slice_get files j ≡ Some file → first_from fault i files ≡ None → fault (i + j) file ≡ None
  none_at i [] j file at h = cc
  none_at i (f ∷ files) zero file at h =
      let e : file ≡ f = cc in
      let place : i + 0 ≡ i = omega arith in
      rw (place, e) (first_none (fault i f) (first_from fault (i + 1) files) h)
  none_at i (f ∷ files) (suc j) file at h =
      let place : i + suc j ≡ (i + 1) + j = omega arith in
      rw place (none_at (i + 1) files j file at (other_none (fault i f) (first_from fault (i + 1) files) h))

pub not_refused : (holds : Bool) (r : Refusal) → refused_if holds r ≡ None → holds ≡ false
not_refused true r h = cc
not_refused false r h = refl

in_order : (a b : ℕ) → nat_lt a b ≡ false → b ≤ a
in_order a b h = grind (arith, common_steps)

file_behind : (b : Bool) (found : Option ClassInfo) (file : ClassInfo) → (if b then None else found) ≡ Some file → found ≡ Some file
file_behind true found file h = cc
file_behind false found file h = h

abbrev weight : ClassInfo → ℕ
weight file = length file.fields + length file.methods

-- a class has at most 65,536 fields and methods
pub is_small : (files : World) (class : ℕ) (file : ClassInfo) → world_fault files ≡ None → file_of files class ≡ Some file → length file.fields + length file.methods ≤ 65536
is_small files class file h is =
    let j = class - 4 in
    let at = file_behind (nat_lt class 4) (slice_get files j) file is in
    let within = slice_get_within files j file at in
    let e = get_or_from_slice_get files j file file at in
    let none = none_at (large_fault files) 0 files j file at (faultless files h).large in
    let few = in_order 65536 (members (take (0 + j + 1) files)) (not_refused (nat_lt 65536 (members (take (0 + j + 1) files))) (refusal (0 + j) kind.Large 0) none) in
    let start : 0 + j + 1 ≡ j + 1 = omega arith in
    let few' : members (take (j + 1) files) ≤ 65536 = rw start at few in
    let more : members (take (j + 1) files) ≡ members (take j files) + weight (get_or files j file) = sum_by_more weight files j file within in
    let more' : members (take (j + 1) files) ≡ members (take j files) + weight file = more ∙ ap (λ f. members (take j files) + weight f) e in
    omega arith

pub small_where_found : (files : World) (class : ℕ) (found : Option (Bor ClassInfo)) → world_fault files ≡ None → option_copied found ≡ file_of files class
    → IfSome found (λ file. length file.now.fields + length file.now.methods ≤ 65536)
small_where_found files class None h is = tt
small_where_found files class (Some file) h is = is_small files class file.now h (sym is)
