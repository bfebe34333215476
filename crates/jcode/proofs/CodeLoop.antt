-- Reading one instruction after the other, as a loop does.
use Rattle.std.proofs.Common.{◌≡◌, ℕ, zero, suc, ◌+◌, ◌≤◌, ◌<◌, List, [], ◌∷◌, ◌++◌, length, drop, get_or, Result, Ok, Err, refl, sym, ap, ◌∙◌, append_assoc, add-one, arith}
use Rattle.std.proofs.Math.Seq.{drop-cons}
use Rattle.std.proofs.lemmas.List.{append-nil, drop-drop, drop_all}
use Rattle.kes_text.specs.declared.refusal.Stop.{Stop}
use Rattle.kes_text.specs.declared.refusal.Stop.TheVariants as stop
use Rattle.jcode.specs.declared.op.Ins.{Ins}
use Rattle.jcode.specs.Code.{Stops, next_at, instructions_from}
use Rattle.jcode.specs.Pool.{Pool}
use Rattle.jcode.specs.Reading.{◌>>=◌}

-- what was read before, and what is still read
abbrev pub with_code : List Ins → Result (List Ins) Stop → Result (List Ins) Stop
with_code front read = read >>= λ code. Ok (front ++ code)

regroup : (front : List Ins) (one : Ins) (read : Result (List Ins) Stop) → with_code front (read >>= λ code. Ok (one ∷ code)) ≡ with_code (front ++ one ∷ []) read
regroup front one (Ok code) = ap (λ (all : List Ins). Ok all) (simp append_assoc)
regroup front one (Err stop) = refl

-- the operands that still belong to the instruction before are passed over
pub skip : (pool : Pool) (base pc n : ℕ) (bytes : List ℕ) → n ≤ length bytes → instructions_from pool base pc n bytes ≡ instructions_from pool base (pc + n) 0 (drop n bytes)
unfolding instructions_from
skip pool base pc zero bytes le = let e : pc ≡ pc + 0 = omega arith in ap (λ p. instructions_from pool base p 0 bytes) e
skip pool base pc (suc n) [] le = absurd (omega arith)
skip pool base pc (suc n) (byte ∷ bytes) le =
    let le' : n ≤ length bytes = omega arith in
    let e : (pc + 1) + n ≡ pc + suc n = omega arith in
    skip pool base (pc + 1) n bytes le' ∙ ap (λ p. instructions_from pool base p 0 (drop n bytes)) e

pub goes_on : (front : List Ins) (pool : Pool) (base place operands : ℕ) (code : List ℕ) (one : Ins) (total : Result (List Ins) Stop) → place < length code
    → next_at pool base place (get_or code place 0) (drop (place + 1) code) ≡ Ok (one, operands) → operands ≤ length (drop (place + 1) code)
    → with_code front (instructions_from pool base place 0 (drop place code)) ≡ total
    → with_code (front ++ one ∷ []) (instructions_from pool base (place + (1 + operands)) 0 (drop (place + (1 + operands)) code)) ≡ total
unfolding instructions_from
goes_on front pool base place operands code one total lt h le so_far =
    let parts : drop place code ≡ get_or code place 0 ∷ drop (place + 1) code = rw (add-one, drop-cons code place 0) refl in
    let e : (place + 1) + operands ≡ place + (1 + operands) = omega arith in
    let passed : instructions_from pool base (place + 1) operands (drop (place + 1) code) ≡ instructions_from pool base (place + (1 + operands)) 0 (drop (place + (1 + operands)) code) =
    skip pool base (place + 1) operands (drop (place + 1) code) le
    ∙ ap (instructions_from pool base ((place + 1) + operands) 0) (drop-drop operands (place + 1) code)
    ∙ ap (λ p. instructions_from pool base p 0 (drop p code)) e in
    let step : with_code front (instructions_from pool base place 0 (drop place code)) ≡ with_code (front ++ one ∷ []) (instructions_from pool base (place + 1) operands (drop (place + 1) code)) =
    rw (parts, h) (regroup front one (instructions_from pool base (place + 1) operands (drop (place + 1) code))) in
    ap (with_code (front ++ one ∷ [])) (sym passed) ∙ sym step ∙ so_far

pub ends : (s : Stop) (front : List Ins) (pool : Pool) (base place : ℕ) (code : List ℕ) (total : Result (List Ins) Stop) → place < length code
    → Stops s (next_at pool base place (get_or code place 0) (drop (place + 1) code))
    → with_code front (instructions_from pool base place 0 (drop place code)) ≡ total → Stops s total
unfolding instructions_from
ends stop.NoMemory front pool base place code total lt h so_far = tt
ends (stop.Refused refusal) front pool base place code total lt h so_far =
    let parts : drop place code ≡ get_or code place 0 ∷ drop (place + 1) code = rw (add-one, drop-cons code place 0) refl in
    let step : with_code front (instructions_from pool base place 0 (drop place code)) ≡ Err (stop.Refused refusal) = rw (parts, h) refl in
    sym so_far ∙ step

pub is_done : (front : List Ins) (pool : Pool) (base place : ℕ) (code : List ℕ) (total : Result (List Ins) Stop) → length code ≤ place
    → with_code front (instructions_from pool base place 0 (drop place code)) ≡ total → total ≡ Ok front
unfolding instructions_from
is_done front pool base place code total le so_far =
    let none : drop place code ≡ [] = drop_all place code le in
    let step : with_code front (instructions_from pool base place 0 (drop place code)) ≡ Ok front = rw none (ap (λ (all : List Ins). Ok all) (append-nil front)) in
    sym so_far ∙ step
