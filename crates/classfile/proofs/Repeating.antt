-- Steps one after the other, as a loop does them.
use Rattle.std.proofs.Common.{◌≡◌, ℕ, suc, ◌-◌, ◌+◌, ◌≤◌, ◌<◌, List, [], ◌∷◌, ◌++◌, Result, Ok, Err, refl, sym, ◌∙◌, arith}
use Rattle.kes_text.specs.declared.refusal.Stop.{Stop}
use Rattle.kes_text.specs.declared.refusal.Stop.TheVariants.{Refused, NoMemory}
use Rattle.classfile.specs.Scan.{Scan, Read, ◌>>=◌, OrNoMemory, repeat, collect}

-- the step at i, and those behind it
next : {A : Type 0} (step : A → Result A Stop) (count i : ℕ) (a : A) → i < count
    → repeat (count - i) step a ≡ (step a >>= repeat (count - (i + 1)) step)
unfolding repeat
next step count i a lt =
    let k : count - i ≡ suc (count - (i + 1)) = omega arith in
    rw k refl

pub goes_on : {A : Type 0} (step : A → Result A Stop) (count i : ℕ) (a b : A) (total : Result A Stop) → i < count → Ok b ≡ step a
    → repeat (count - i) step a ≡ total → repeat (count - (i + 1)) step b ≡ total
goes_on step count i a b total lt h so_far =
    let one : repeat (count - i) step a ≡ repeat (count - (i + 1)) step b = rw (next step count i a lt, ← h) refl in
    sym one ∙ so_far

refused : {A : Type 0} (step : A → Result A Stop) (count i : ℕ) (a : A) (e : Stop) (total : Result A Stop) → i < count → Err e ≡ step a
    → repeat (count - i) step a ≡ total → Err e ≡ total
refused step count i a e total lt h so_far =
    let one : repeat (count - i) step a ≡ Err e = rw (next step count i a lt, ← h) refl in
    sym one ∙ so_far

-- a step that is refused ends them all
pub ends : {A : Type 0} (step : A → Result A Stop) (count i : ℕ) (a : A) (e : Stop) (total : Result A Stop) → i < count → OrNoMemory (Err e) (step a)
    → repeat (count - i) step a ≡ total → OrNoMemory (Err e) total
ends step count i a (Refused r) total lt h so_far = refused step count i a (Refused r) total lt h so_far
ends step count i a NoMemory total lt h so_far = tt

pub done : {A : Type 0} (step : A → Result A Stop) (count i : ℕ) (a : A) (total : Result A Stop) → count ≤ i
    → repeat (count - i) step a ≡ total → Ok a ≡ total
unfolding repeat
done step count i a total le so_far =
    let k : count - i ≡ 0 = omega arith in
    let one : repeat (count - i) step a ≡ Ok a = rw k refl in
    sym one ∙ so_far

-- one more element
pub collected : {A : Type 0} (one : Scan → Read A) (before : List A) (s : Scan) (x : A) (behind : Scan) → Ok (x, behind) ≡ one s
    → Ok (before ++ x ∷ [], behind) ≡ collect one (before, s)
collected one before s x behind h = rw (← h) refl

-- an element that is refused, or for which there is no memory
pub not_collected : {A : Type 0} (one : Scan → Read A) (before : List A) (s : Scan) (e : Stop) → OrNoMemory (Err e) (one s)
    → OrNoMemory (Err e) (collect one (before, s))
not_collected one before s (Refused r) h = rw (← h) refl
not_collected one before s NoMemory h = tt

-- what comes behind an error is the error
pub behind_err : {A B : Type 0} (r : Result A Stop) (f : A → Result B Stop) (e : Stop) → OrNoMemory (Err e) r → OrNoMemory (Err e) (r >>= f)
behind_err r f (Refused d) h = rw (← h) refl
behind_err r f NoMemory h = tt
