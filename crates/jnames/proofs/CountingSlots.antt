-- Counting the slots of parameter types one after the other, as a loop does.
use Rattle.std.proofs.Common.{◌≡◌, ℕ, zero, suc, ◌-◌, ◌+◌, ◌<◌, ◌⊎◌, inl, inr, List, [], ◌∷◌, Bool, true, false, cond, Option, Some, None, drop, refl, sym, ap, ◌∙◌, arith}
use Rattle.jnames.specs.declared.param.Param.{Param}
use Rattle.jnames.specs.Bytes.{◌>>=◌, begins_with}
use Rattle.jnames.specs.Types.{type_at}
use Rattle.jnames.specs.Descriptors.{slots_of, slots, parameters_at}
use Rattle.jnames.proofs.OneByOne.{Read, more, step}

-- the slots of what is still read, with those of the types before
abbrev pub with_slots : ℕ → Read → Option (ℕ × List ℕ)
with_slots taken read = read >>= λ x. Some (taken + slots x.0, x.1)

abbrev pub closing : ℕ → List ℕ → Option (ℕ × List ℕ)
closing taken bytes = cond (begins_with 41 bytes) (Some (drop 1 bytes)) None >>= λ rest. Some (taken, rest)

regroup : (taken : ℕ) (p : Param) (read : Read) → with_slots taken (read >>= λ x. Some (p ∷ x.0, x.1)) ≡ with_slots (taken + slots_of p.shape) read
regroup taken p None = refl
regroup taken p (Some x) = let e : taken + (slots_of p.shape + slots x.0) ≡ (taken + slots_of p.shape) + slots x.0 = omega arith in ap (λ (n : ℕ). Some (n, x.1)) e

pub none_before : (read : Read) → with_slots 0 read ≡ (read >>= λ x. Some (slots x.0, x.1))
none_before None = refl
none_before (Some x) = let e : 0 + slots x.0 ≡ slots x.0 = omega arith in ap (λ (n : ℕ). Some (n, x.1)) e

closed : (taken : ℕ) (b : Bool) (behind : List ℕ) → with_slots taken (cond b (Some ([], behind)) None) ≡ (cond b (Some behind) None >>= λ rest. Some (taken, rest))
closed taken true behind = let z : taken + 0 ≡ taken = omega arith in ap (λ (n : ℕ). Some (n, behind)) z
closed taken false behind = refl

closed_here : (taken : ℕ) (b : Bool) (behind : List ℕ) (other : Read) → b ≡ true → with_slots taken (cond b (Some ([], behind)) other) ≡ (cond b (Some behind) None >>= λ rest. Some (taken, rest))
closed_here taken true behind other e = let z : taken + 0 ≡ taken = omega arith in ap (λ (n : ℕ). Some (n, behind)) z
closed_here taken false behind other e = absurd cc

pub finished : (taken n : ℕ) (bytes : List ℕ) (total : Option (ℕ × List ℕ)) → (begins_with 41 bytes ≡ true) ⊎ (n ≡ 0) → with_slots taken (parameters_at n bytes) ≡ total → closing taken bytes ≡ total
unfolding parameters_at
finished taken zero bytes total h e = sym (closed taken (begins_with 41 bytes) (drop 1 bytes)) ∙ e
finished taken (suc n) bytes total (inl t) e = sym (closed_here taken (begins_with 41 bytes) (drop 1 bytes) (more n bytes) t) ∙ e
finished taken (suc n) bytes total (inr z) e = absurd cc

pub goes_on : (taken count i : ℕ) (bytes : List ℕ) (p : Param) (after : List ℕ) (total : Option (ℕ × List ℕ)) → i < count → begins_with 41 bytes ≡ false → Some (p, after) ≡ type_at bytes
    → with_slots taken (parameters_at (count - i) bytes) ≡ total → with_slots (taken + slots_of p.shape) (parameters_at (count - (i + 1)) after) ≡ total
goes_on taken count i bytes p after total lt e h so_far =
    let one : with_slots taken (parameters_at (count - i) bytes) ≡ with_slots (taken + slots_of p.shape) (parameters_at (count - (i + 1)) after) =
    rw (step count i bytes lt e, ← h) (regroup taken p (parameters_at (count - (i + 1)) after)) in
    sym one ∙ so_far

pub ends : (taken count i : ℕ) (bytes : List ℕ) (total : Option (ℕ × List ℕ)) → i < count → begins_with 41 bytes ≡ false → None ≡ type_at bytes
    → with_slots taken (parameters_at (count - i) bytes) ≡ total → None ≡ total
ends taken count i bytes total lt e h so_far =
    let one : with_slots taken (parameters_at (count - i) bytes) ≡ None = rw (step count i bytes lt e, ← h) refl in
    sym one ∙ so_far
