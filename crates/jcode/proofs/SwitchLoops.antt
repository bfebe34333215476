-- Reading the cases of a switch one after the other, as a loop does.
use Rattle.std.proofs.Common.{◌≡◌, ℕ, suc, ◌-◌, ◌+◌, ◌≤◌, ◌<◌, ℤ, pos, ◌+ℤ◌, List, [], ◌∷◌, ◌++◌, Result, Ok, Err, refl, sym, ap, ◌∙◌, append_assoc, arith}
use Rattle.std.proofs.lemmas.List.{append-nil}
use Rattle.std.proofs.lemmas.Int.{ints}
use Rattle.jcode.specs.declared.fault.Fault.{Fault}
use Rattle.jcode.specs.declared.fault.Flaw.{Flaw}
use Rattle.jcode.specs.declared.fault.Flaw.TheVariants as flaws
use Rattle.jcode.specs.Reading.{◌>>=◌, Fails}
use Rattle.jcode.specs.Switches.{case_at, table_at, pair_at, pairs_at}

-- what was read before, and what is still read
abbrev pub with_front : List (ℤ × ℕ) → Result (List (ℤ × ℕ) × List ℕ) Fault → Result (List (ℤ × ℕ) × List ℕ) Fault
with_front front read = read >>= λ x. Ok (front ++ x.0, x.1)

regroup : (front : List (ℤ × ℕ)) (one : ℤ × ℕ) (read : Result (List (ℤ × ℕ) × List ℕ) Fault) → with_front front (read >>= λ x. Ok (one ∷ x.0, x.1)) ≡ with_front (front ++ one ∷ []) read
regroup front one (Ok x) = ap (λ (cases : List (ℤ × ℕ)). Ok (cases, x.1)) (simp append_assoc)
regroup front one (Err fault) = refl

pub pairs_go_on : (front : List (ℤ × ℕ)) (pc count i : ℕ) (bytes : List ℕ) (one : ℤ × ℕ) (after : List ℕ) (total : Result (List (ℤ × ℕ) × List ℕ) Fault) → i < count
    → pair_at pc bytes ≡ Ok (one, after)
    → with_front front (pairs_at pc (count - i) bytes) ≡ total → with_front (front ++ one ∷ []) (pairs_at pc (count - (i + 1)) after) ≡ total
unfolding pairs_at
pairs_go_on front pc count i bytes one after total lt h so_far =
    let k : count - i ≡ suc (count - (i + 1)) = omega arith in
    let step : with_front front (pairs_at pc (count - i) bytes) ≡ with_front (front ++ one ∷ []) (pairs_at pc (count - (i + 1)) after) = rw (k, h) (regroup front one (pairs_at pc (count - (i + 1)) after)) in
    sym step ∙ so_far

pub pairs_end : (flaw : Flaw) (front : List (ℤ × ℕ)) (pc count i : ℕ) (bytes : List ℕ) (total : Result (List (ℤ × ℕ) × List ℕ) Fault) → i < count → Fails flaw (pair_at pc bytes)
    → with_front front (pairs_at pc (count - i) bytes) ≡ total → Fails flaw total
unfolding pairs_at
pairs_end flaws.NoMemory front pc count i bytes total lt h so_far = tt
pairs_end (flaws.Fault f) front pc count i bytes total lt h so_far =
    let k : count - i ≡ suc (count - (i + 1)) = omega arith in
    let step : with_front front (pairs_at pc (count - i) bytes) ≡ Err f = rw (k, h) refl in
    sym so_far ∙ step

pub pairs_done : (front : List (ℤ × ℕ)) (pc count i : ℕ) (bytes : List ℕ) (total : Result (List (ℤ × ℕ) × List ℕ) Fault) → count ≤ i → with_front front (pairs_at pc (count - i) bytes) ≡ total → total ≡ Ok (front, bytes)
unfolding pairs_at
pairs_done front pc count i bytes total le so_far =
    let k : count - i ≡ 0 = omega arith in
    let step : with_front front (pairs_at pc (count - i) bytes) ≡ Ok (front, bytes) = rw k (ap (λ (cases : List (ℤ × ℕ)). Ok (cases, bytes)) (append-nil front)) in
    sym so_far ∙ step

next_key : (low : ℤ) (i : ℕ) → (low +ℤ pos i) +ℤ pos 1 ≡ low +ℤ pos (i + 1)
next_key low i = omega (arith, ints)

pub first_key : (low : ℤ) → low +ℤ pos 0 ≡ low
first_key low = omega (arith, ints)

pub table_goes_on : (front : List (ℤ × ℕ)) (pc count i : ℕ) (low : ℤ) (bytes : List ℕ) (one : ℤ × ℕ) (after : List ℕ) (total : Result (List (ℤ × ℕ) × List ℕ) Fault) → i < count
    → case_at pc (low +ℤ pos i) bytes ≡ Ok (one, after)
    → with_front front (table_at pc (count - i) (low +ℤ pos i) bytes) ≡ total → with_front (front ++ one ∷ []) (table_at pc (count - (i + 1)) (low +ℤ pos (i + 1)) after) ≡ total
unfolding table_at
table_goes_on front pc count i low bytes one after total lt h so_far =
    let k : count - i ≡ suc (count - (i + 1)) = omega arith in
    let n = next_key low i in
    let step : with_front front (table_at pc (count - i) (low +ℤ pos i) bytes) ≡ with_front (front ++ one ∷ []) (table_at pc (count - (i + 1)) (low +ℤ pos (i + 1)) after) =
    rw (k, h, ← n) (regroup front one (table_at pc (count - (i + 1)) ((low +ℤ pos i) +ℤ pos 1) after)) in
    sym step ∙ so_far

pub table_ends : (flaw : Flaw) (front : List (ℤ × ℕ)) (pc count i : ℕ) (key : ℤ) (bytes : List ℕ) (total : Result (List (ℤ × ℕ) × List ℕ) Fault) → i < count → Fails flaw (case_at pc key bytes)
    → with_front front (table_at pc (count - i) key bytes) ≡ total → Fails flaw total
unfolding table_at
table_ends flaws.NoMemory front pc count i key bytes total lt h so_far = tt
table_ends (flaws.Fault f) front pc count i key bytes total lt h so_far =
    let k : count - i ≡ suc (count - (i + 1)) = omega arith in
    let step : with_front front (table_at pc (count - i) key bytes) ≡ Err f = rw (k, h) refl in
    sym so_far ∙ step

pub table_done : (front : List (ℤ × ℕ)) (pc count i : ℕ) (key : ℤ) (bytes : List ℕ) (total : Result (List (ℤ × ℕ) × List ℕ) Fault) → count ≤ i
    → with_front front (table_at pc (count - i) key bytes) ≡ total → total ≡ Ok (front, bytes)
unfolding table_at
table_done front pc count i key bytes total le so_far =
    let k : count - i ≡ 0 = omega arith in
    let step : with_front front (table_at pc (count - i) key bytes) ≡ Ok (front, bytes) = rw k (ap (λ (cases : List (ℤ × ℕ)). Ok (cases, bytes)) (append-nil front)) in
    sym so_far ∙ step
