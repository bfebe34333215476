-- Counting the instructions of methods one after the other, as a loop does.
use Rattle.std.proofs.Common.{◌≡◌, ℕ, suc, ◌+◌, ◌^◌, ◌<◌, ◌≤◌, min, List, ◌∷◌, length, get_or, drop, Result, Ok, Err, refl, sym, ap, ◌∙◌, arith, add-one, drop-cons, drop_of_length-le}
use Rattle.kes_text.specs.declared.refusal.Stop.{Stop}
use Rattle.kes_text.specs.declared.refusal.Stop.TheVariants.{Refused, NoMemory}
use Rattle.classfile.specs.ClassFile.{ClassInfo, MethodInfo}
use Rattle.classfile.specs.Scan.{◌>>=◌, OrNoMemory}
use Rattle.class_census.specs.Counted.{instructions_of, all_instructions, standing_still}

-- the count so far, with that of what is left
abbrev pub with_total : ℕ → Result ℕ Stop → Result ℕ Stop
with_total total left = left >>= λ n. Ok (min (total + n) 18446744073709551615)

pub starts : (left : Result ℕ Stop) → with_total 0 left ≡ standing_still left
starts (Ok n) = let e : min (0 + n) 18446744073709551615 ≡ min n 18446744073709551615 = omega arith in ap Ok e
starts (Err stop) = refl

-- the next method, and those behind it
next : (class : ClassInfo) (methods : List MethodInfo) (i : ℕ) (method : MethodInfo) → i < length methods → method ≡ get_or methods i method
    → all_instructions class (drop i methods) ≡ (instructions_of class method.code >>= λ here. all_instructions class (drop (i + 1) methods) >>= λ others. Ok (here + others))
next class methods i method lt is =
    let cons : drop i methods ≡ method ∷ drop (i + 1) methods = rw add-one (drop-cons methods i method lt ∙ ap (λ (m : MethodInfo). m ∷ drop (suc i) methods) (sym is)) in
    ap (all_instructions class) cons

added : (total here : ℕ) (left : Result ℕ Stop) → with_total total (left >>= λ others. Ok (here + others)) ≡ with_total (min (total + here) 18446744073709551615) left
added total here (Ok n) =
    let e : min (total + (here + n)) 18446744073709551615 ≡ min (min (total + here) 18446744073709551615 + n) 18446744073709551615 = omega arith in
    ap Ok e
added total here (Err stop) = refl

pub goes_on : (class : ClassInfo) (methods : List MethodInfo) (i : ℕ) (method : MethodInfo) (total here : ℕ) (whole : Result ℕ Stop) → i < length methods → method ≡ get_or methods i method
    → Ok here ≡ instructions_of class method.code → with_total total (all_instructions class (drop i methods)) ≡ whole
    → with_total (min (total + here) 18446744073709551615) (all_instructions class (drop (i + 1) methods)) ≡ whole
goes_on class methods i method total here whole lt is h so_far =
    let one : with_total total (all_instructions class (drop i methods)) ≡ with_total (min (total + here) 18446744073709551615) (all_instructions class (drop (i + 1) methods)) =
    rw (next class methods i method lt is, ← h) (added total here (all_instructions class (drop (i + 1) methods))) in
    sym one ∙ so_far

refused : (class : ClassInfo) (methods : List MethodInfo) (i : ℕ) (method : MethodInfo) (total : ℕ) (stop : Stop) (whole : Result ℕ Stop) → i < length methods → method ≡ get_or methods i method
    → Err stop ≡ instructions_of class method.code → with_total total (all_instructions class (drop i methods)) ≡ whole → Err stop ≡ whole
refused class methods i method total stop whole lt is h so_far =
    let one : with_total total (all_instructions class (drop i methods)) ≡ Err stop = rw (next class methods i method lt is, ← h) refl in
    sym one ∙ so_far

-- a method that is refused ends the count
pub ends : (class : ClassInfo) (methods : List MethodInfo) (i : ℕ) (method : MethodInfo) (total : ℕ) (stop : Stop) (whole : Result ℕ Stop) → i < length methods → method ≡ get_or methods i method
    → OrNoMemory (Err stop) (instructions_of class method.code) → with_total total (all_instructions class (drop i methods)) ≡ whole → OrNoMemory (Err stop) whole
ends class methods i method total (Refused r) whole lt is h so_far = refused class methods i method total (Refused r) whole lt is h so_far
ends class methods i method total NoMemory whole lt is h so_far = tt

pub is_done : (class : ClassInfo) (methods : List MethodInfo) (i total : ℕ) (whole : Result ℕ Stop) → length methods ≤ i → total < 2 ^ 64
    → with_total total (all_instructions class (drop i methods)) ≡ whole → Ok total ≡ whole
is_done class methods i total whole le small so_far =
    let one : with_total total (all_instructions class (drop i methods)) ≡ Ok total =
    let e : min (total + 0) 18446744073709551615 ≡ total = omega arith in
    rw (drop_of_length-le methods le) (ap Ok e) in
    sym one ∙ so_far
