-- Reading parameter types one after the other, as a loop does.
use Rattle.std.proofs.Common.{◌≡◌, ℕ, zero, suc, ◌-◌, ◌+◌, ◌<◌, ◌⊎◌, inl, inr, List, [], ◌∷◌, ◌++◌, Bool, true, false, cond, Option, Some, None, drop, refl, sym, ap, ◌∙◌, append_assoc, arith}
use Rattle.std.proofs.lemmas.List.{append-nil}
use Rattle.jnames.specs.declared.param.Param.{Param}
use Rattle.jnames.specs.Bytes.{◌>>=◌, begins_with}
use Rattle.jnames.specs.Types.{type_at}
use Rattle.jnames.specs.Descriptors.{parameters_at}

abbrev pub Read : Type 0
Read = Option (List Param × List ℕ)

-- the types before, and those that are still read
abbrev pub with_front : List Param → Read → Read
with_front front read = read >>= λ x. Some (front ++ x.0, x.1)

-- the types before, where a ) stands behind them
abbrev pub closing : List Param → List ℕ → Read
closing front bytes = cond (begins_with 41 bytes) (Some (drop 1 bytes)) None >>= λ rest. Some (front, rest)

abbrev pub more : ℕ → List ℕ → Read
more n bytes = type_at bytes >>= λ first. parameters_at n first.1 >>= λ others. Some (first.0 ∷ others.0, others.1)

regroup : (front : List Param) (p : Param) (read : Read) → with_front front (read >>= λ x. Some (p ∷ x.0, x.1)) ≡ with_front (front ++ p ∷ []) read
regroup front p None = refl
regroup front p (Some x) = ap (λ (ps : List Param). Some (ps, x.1)) (simp append_assoc)

closed : (front : List Param) (b : Bool) (behind : List ℕ) → with_front front (cond b (Some ([], behind)) None) ≡ (cond b (Some behind) None >>= λ rest. Some (front, rest))
closed front true behind = ap (λ (ps : List Param). Some (ps, behind)) (append-nil front)
closed front false behind = refl

closed_here : (front : List Param) (b : Bool) (behind : List ℕ) (other : Read) → b ≡ true → with_front front (cond b (Some ([], behind)) other) ≡ (cond b (Some behind) None >>= λ rest. Some (front, rest))
closed_here front true behind other e = ap (λ (ps : List Param). Some (ps, behind)) (append-nil front)
closed_here front false behind other e = absurd cc

pub finished : (front : List Param) (n : ℕ) (bytes : List ℕ) (total : Read) → (begins_with 41 bytes ≡ true) ⊎ (n ≡ 0) → with_front front (parameters_at n bytes) ≡ total → closing front bytes ≡ total
unfolding parameters_at
finished front zero bytes total h e = sym (closed front (begins_with 41 bytes) (drop 1 bytes)) ∙ e
finished front (suc n) bytes total (inl t) e = sym (closed_here front (begins_with 41 bytes) (drop 1 bytes) (more n bytes) t) ∙ e
finished front (suc n) bytes total (inr z) e = absurd cc

opened : {A : Type 0} (b : Bool) (x y : A) → b ≡ false → cond b x y ≡ y
opened true x y e = absurd cc
opened false x y e = refl

pub step : (count i : ℕ) (bytes : List ℕ) → i < count → begins_with 41 bytes ≡ false → parameters_at (count - i) bytes ≡ more (count - (i + 1)) bytes
unfolding parameters_at
step count i bytes lt e =
    let k : count - i ≡ suc (count - (i + 1)) = omega arith in
    rw k (opened (begins_with 41 bytes) (Some ([], drop 1 bytes)) (more (count - (i + 1)) bytes) e)

pub goes_on : (front : List Param) (count i : ℕ) (bytes : List ℕ) (p : Param) (after : List ℕ) (total : Read) → i < count → begins_with 41 bytes ≡ false → Some (p, after) ≡ type_at bytes
    → with_front front (parameters_at (count - i) bytes) ≡ total → with_front (front ++ p ∷ []) (parameters_at (count - (i + 1)) after) ≡ total
goes_on front count i bytes p after total lt e h so_far =
    let one : with_front front (parameters_at (count - i) bytes) ≡ with_front (front ++ p ∷ []) (parameters_at (count - (i + 1)) after) =
    rw (step count i bytes lt e, ← h) (regroup front p (parameters_at (count - (i + 1)) after)) in
    sym one ∙ so_far

pub ends : (front : List Param) (count i : ℕ) (bytes : List ℕ) (total : Read) → i < count → begins_with 41 bytes ≡ false → None ≡ type_at bytes
    → with_front front (parameters_at (count - i) bytes) ≡ total → None ≡ total
ends front count i bytes total lt e h so_far =
    let one : with_front front (parameters_at (count - i) bytes) ≡ None = rw (step count i bytes lt e, ← h) refl in
    sym one ∙ so_far
