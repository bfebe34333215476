-- Marks of the classes that are superclasses, from the last class to the first.
use Rattle.std.proofs.Common.{◌≡◌, ◌≢◌, ℕ, suc, ◌+◌, ◌-◌, ◌<◌, ◌≤◌, Bool, true, false, ◌||◌, List, ◌++◌, length, get_or, set, Option, Some, None, IfSome, option_map, option_to_list, eqb, refl, sym, ap, subst, ◌∙◌, arith, get_or-set_same, get_or-set_other}
use Rattle.std.specs.List.{list_any, range_with_len, All}
use Rattle.std.proofs.lemmas.Bool.{eqb-true, eqb-false}
use Rattle.jworld.specs.declared.ids.ClassId.{ClassId}
use Rattle.jworld.specs.Classes.{World, count, super_of, interfaces_of}
use Rattle.jworld.proofs.Supering.{All-supers}

pub marked : (old : List Bool) (i k : ℕ) → i < length old → get_or (set old i true) k false ≡ (eqb i k || get_or old k false)
marked old i k within = by_test (eqb i k) refl
  where
    by_test : (b : Bool) → eqb i k ≡ b → get_or (set old i true) k false ≡ (b || get_or old k false)
    by_test true e = subst (λ (j : ℕ). get_or (set old i true) j false ≡ true) (eqb-true i k e) (rw get_or-set_same refl)
    by_test false e = let other : k ≢ i = λ h. eqb-false i k e (sym h) in rw get_or-set_other refl

pub one_more : (test : ℕ → Bool) (n end : ℕ) → 0 < n → n ≤ end → (test (n - 1) || list_any test (range_with_len n (end - n))) ≡ list_any test (range_with_len (n - 1) (end - (n - 1)))
one_more test n end some within =
    let one : end - (n - 1) ≡ suc (end - n) = omega arith in
    let next : n - 1 + 1 ≡ n = omega arith in
    sym (ap (λ (k : ℕ). list_any test (range_with_len (n - 1) k)) one ∙ ap (λ (s : ℕ). test (n - 1) || list_any test (range_with_len s (end - n))) next)

above_first : (above : Option ℕ) (others : List ℕ) (bound n : ℕ) → above ≡ Some n → All (λ k. k < bound) (option_to_list above ++ others) → n < bound
above_first None others bound n is all = absurd cc
above_first (Some m) others bound n is all =
    let first : m < bound = all 0 0 (omega arith) in
    let same : m ≡ n = cc in
    subst (λ (k : ℕ). k < bound) same first

pub super_within : (files : World) (class len : ℕ) (found : Option ClassId) → option_map (λ c. c.n) found ≡ super_of files class → len ≡ count files → IfSome found (λ c. c.n < len)
super_within files class len None is all = tt
super_within files class len (Some above) is all =
    let below : above.n < count files = above_first (super_of files class) (interfaces_of files class) (count files) above.n (sym is) (All-supers files class) in
    omega (arith, below, all)
