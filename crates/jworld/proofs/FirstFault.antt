-- The first of the files that has a fault, file after file.
use Rattle.std.proofs.Common.{◌≡◌, ℕ, suc, ◌+◌, ◌<◌, List, [], ◌∷◌, length, drop, get_or, Option, Some, None, sym, ap, ◌∙◌, arith, drop-cons}
use Rattle.kes_text.specs.declared.refusal.Refusal.{Refusal}
use Rattle.classfile.specs.ClassFile.{ClassInfo}
use Rattle.jworld.specs.Fields.{or_else}
use Rattle.jworld.specs.Faults.{first_from}

first_of_list : {A : Type 0} (xs : List A) → 0 < length xs → A
first_of_list [] some = absurd (omega arith)
first_of_list (x ∷ xs) some = x

some_item : {A : Type 0} (xs : List A) (i : ℕ) → i < length xs → A
some_item xs i within = let some : 0 < length xs = omega arith in first_of_list xs some

module _ (fault : ℕ → ClassInfo → Option Refusal) (files : List ClassInfo) (i : ℕ) (within : i < length files) (whole : Option Refusal) (so_far : first_from fault i (drop i files) ≡ whole) where
  step : (d : ClassInfo) → or_else (fault i (get_or files i d)) (first_from fault (i + 1) (drop (i + 1) files)) ≡ whole
  step d =
      let next : drop i files ≡ get_or files i d ∷ drop (i + 1) files = let e : suc i ≡ i + 1 = omega arith in rw (← e) (drop-cons files i d within) in
      sym (ap (first_from fault i) next) ∙ so_far

  -- this file has one
  pub fault_here : (d : ClassInfo) (refusal : Refusal) → fault i (get_or files i d) ≡ Some refusal → Some refusal ≡ whole
  fault_here d refusal here = rw here at (step d)

  -- this one has none
  pub fault_later : (d : ClassInfo) → fault i (get_or files i d) ≡ None → first_from fault (i + 1) (drop (i + 1) files) ≡ whole
  fault_later d none = rw none at (step d)

  -- the same where it is known of any file at this place
  pub fault_at_place : (refusal : Refusal) → ((file : ClassInfo) → fault i file ≡ Some refusal) → Some refusal ≡ whole
  fault_at_place refusal here = let d = some_item files i within in fault_here d refusal (here (get_or files i d))

  pub no_fault_at_place : ((file : ClassInfo) → fault i file ≡ None) → first_from fault (i + 1) (drop (i + 1) files) ≡ whole
  no_fault_at_place none = let d = some_item files i within in fault_later d (none (get_or files i d))
