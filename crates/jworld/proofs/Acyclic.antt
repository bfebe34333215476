-- In a world no class stands above itself, so fewer stand above what stands above a class.
use Rattle.std.proofs.Common.{◌≡◌, ℕ, zero, suc, ◌+◌, ◌-◌, ◌<◌, ◌≤◌, true, false, List, [], ◌∷◌, length, Some, None, Contains, slice_get, refl, sym, subst, ⊎_elim, arith}
use Rattle.std.proofs.lemmas.List.Elements.{All-contains}
use Rattle.std.proofs.lemmas.Bool.{cases_Bool, cases_lt}
use Rattle.classfile.specs.ClassFile.{ClassInfo}
use Rattle.kes_text.specs.declared.refusal.Kind.TheVariants as kind
use Rattle.jworld.specs.Classes.{World, count}
use Rattle.jworld.specs.Ways.{Way}
use Rattle.jworld.specs.Ways.Way.{Step, Further}
use Rattle.jworld.specs.Above.{supers_of, is_above}
use Rattle.jworld.specs.Faults.{world_fault, cycle_fault, refusal}
use Rattle.jworld.proofs.Ways.{Way-is_leads}
use Rattle.jworld.proofs.NoSupers.{supers_past}
use Rattle.jworld.proofs.Supering.{All-supers}
use Rattle.jworld.proofs.Counting.{number_below, fewer_below, not_all_below}
use Rattle.jworld.proofs.Faultless.{faultless, none_at, not_refused}

pub is_above-from_way : (files : World) (class above : ℕ) → Way (supers_of files) class above → is_above files class above ≡ true
unfolding is_above
is_above-from_way files class above way = (Way-is_leads (supers_of files) (count files) (supers_past files) class above).0 way

pub Way-from_is_above : (files : World) (class above : ℕ) → is_above files class above ≡ true → Way (supers_of files) class above
unfolding is_above
Way-from_is_above files class above h = (Way-is_leads (supers_of files) (count files) (supers_past files) class above).1 h

-- ---- above a built-in class stand those before it

only : (x y : ℕ) → Contains (x ∷ []) y → y ≡ x
only x y (zero, within, is) = sym is
only x y (suc k, within, is) = absurd (omega arith)

no_member : (y : ℕ) → Contains {X = ℕ} [] y → ⊥
no_member y (k, within, is) = omega arith

steps_down : (files : World) (from to : ℕ) → from < 4 → Contains (supers_of files from) to → to < from
steps_down files zero to small step = absurd (no_member to step)
steps_down files (suc zero) to small step = omega (arith, only 0 to step)
steps_down files (suc (suc zero)) to small step = omega (arith, only 1 to step)
steps_down files (suc (suc (suc zero))) to small step = omega (arith, only 2 to step)
steps_down files (suc (suc (suc (suc n)))) to small step = absurd (omega arith)

goes_down : (files : World) (from to : ℕ) → from < 4 → Way (supers_of files) from to → to < from
goes_down files from to small (Step from' to' step) = steps_down files from to small step
goes_down files from to small (Further from' next to' step way) =
    let first : next < from = steps_down files from next small step in
    let rest : to < next = goes_down files next to (omega arith) way in
    omega arith

-- ---- how many stand above a class

abbrev pub rank : World → ℕ → ℕ
rank files class = number_below (is_above files class) (count files)

-- ---- the others are those of files

file_there : (files : List ClassInfo) (j : ℕ) → j < length files → (file : ClassInfo) × (slice_get files j ≡ Some file)
file_there [] j within = absurd (omega arith)
file_there (file ∷ files) zero within = (file, refl)
file_there (file ∷ files) (suc j) within = file_there files j (omega arith)

module _ (files : World) (none : world_fault files ≡ None) where
  of_file : (j : ℕ) → j < length files → is_above files (4 + j) (4 + j) ≡ false
  of_file j within =
      let (file, is) = file_there files j within in
      let start : 0 + j ≡ j = omega arith in
      not_refused (is_above files (4 + j) (4 + j)) (refusal j kind.SuperCycle 0) (rw start at (none_at (cycle_fault files) 0 files j file is (faultless files none).cycle))

  pub from_within : (from to : ℕ) → Contains (supers_of files from) to → from < count files
  from_within from to step =
      ⊎_elim (λ within. within) (λ past. absurd (no_member to (subst (λ (xs : List ℕ). Contains xs to) (supers_past files from past) step))) (cases_lt from (count files))

  a_way : (from to : ℕ) → Way (supers_of files) from to → from < count files
  a_way from to (Step from' to' step) = from_within from to step
  a_way from to (Further from' next to' step way) = from_within from next step

  behind : (class : ℕ) → 4 ≤ class → is_above files class class ≡ true → is_above files class class ≡ false
  behind class past above =
      let within : class < count files = a_way class class (Way-from_is_above files class class above) in
      let e : 4 + (class - 4) ≡ class = omega arith in
      rw e at (of_file (class - 4) (omega arith))

  pub not_above_itself : (class : ℕ) → is_above files class class ≡ false
  not_above_itself class =
      ⊎_elim
      (λ yes.
      ⊎_elim
      (λ small. let down = goes_down files class class small (Way-from_is_above files class class yes) in absurd (omega arith))
      (λ past. behind class past yes)
      (cases_lt class 4))
      (λ none'. none') (cases_Bool (is_above files class class))

  to_within : (from to : ℕ) → Contains (supers_of files from) to → to < count files
  to_within from to step = All-contains (λ n. n < count files) (supers_of files from) to (All-supers files from) step

  pub rank_falls : (from to : ℕ) → Contains (supers_of files from) to → rank files to < rank files from
  rank_falls from to step =
      fewer_below (is_above files to) (is_above files from)
      (λ above h. is_above-from_way files from above (Further from to above step (Way-from_is_above files to above h)))
      (count files) to (to_within from to step) (not_above_itself to) (is_above-from_way files from to (Step from to step))

  pub rank_within : (from to : ℕ) → Contains (supers_of files from) to → rank files from < count files
  rank_within from to step = not_all_below (is_above files from) (count files) from (from_within from to step) (not_above_itself from)
