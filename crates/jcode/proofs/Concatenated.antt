-- What is read is a concatenation of spellings, and what is one is read.
use Rattle.std.proofs.Common.{◌≡◌, ℕ, zero, suc, ◌-◌, ◌+◌, ◌≤◌, ◌<◌, Bool, true, false, cond, ltb, List, [], ◌∷◌, ◌++◌, length, drop, Option, Some, None, Result, Ok, Err, refl, sym, ap, subst, ◌∙◌, arith}
use Rattle.std.specs.List.{AllByRecursion}
use Rattle.std.proofs.lemmas.Bool.{lt-ltb, ltb-true}
use Rattle.std.proofs.lemmas.List.{length-append}
use Rattle.kes_text.specs.declared.refusal.Kind.TheVariants as kind
use Rattle.kes_text.specs.declared.refusal.Stop.{Stop}
use Rattle.jcode.specs.declared.op.Op.{Op}
use Rattle.jcode.specs.declared.op.Ins.{Ins}
use Rattle.jcode.specs.declared.fault.Fault.{Fault}
use Rattle.std.specs.Prelude.{IfOk}
use Rattle.jcode.specs.Code.{Answers, refused, placed, next_at, instructions_from}
use Rattle.jcode.specs.Decoded.{begins_at, lands, first_wild, landed, decoded}
use Rattle.jcode.specs.Instructions.{instruction_at}
use Rattle.jcode.specs.Pool.{Pool}
use Rattle.jcode.specs.Reading.{◌>>=◌}
use Rattle.jcode.specs.Spelling.{Spelled, Ends, Begins, IsCode}
use Rattle.jcode.proofs.CodeLoop.{skip}
use Rattle.jcode.proofs.Leaves.{Leaves, instruction_leaves}

-- the value of a step that did not fail
bind_ok : {A B : Type 0} (r : Result A Stop) (f : A → Result B Stop) (y : B) → (r >>= f) ≡ Ok y → (x : A) × (r ≡ Ok x) × (f x ≡ Ok y)
bind_ok (Ok x) f y e = (x, refl, e)
bind_ok (Err stop) f y e = absurd cc

-- what the next instruction is, and the bytes behind it
pub record Next (pool : Pool) (pc opcode : ℕ) (bytes : List ℕ) (next : Ins × ℕ) : Type 0 where
  pub low : pc < 65535
  pub op : Op
  pub operands : List ℕ
  pub rest : List ℕ
  pub parts : bytes ≡ operands ++ rest
  pub reads : instruction_at pool pc opcode bytes ≡ Ok (op, rest)
  pub is : next ≡ (record { pc = pc; op = op }, length operands)

placed_ok : (pool : Pool) (base pc opcode : ℕ) (bytes : List ℕ) (next : Ins × ℕ) (r : Result (Op × List ℕ) Fault) → pc < 65535 → instruction_at pool pc opcode bytes ≡ r → Leaves bytes r → placed base pc bytes r ≡ Ok next → Next pool pc opcode bytes next
placed_ok pool base pc opcode bytes next (Ok read) lt reads leaves e =
    let made : (record { pc = pc; op = read.0 }, length bytes - length read.1) ≡ next = cc in
    let long : length bytes - length read.1 ≡ length leaves.0 = rw leaves.1 (simp length-append (omega arith)) in
    record { low = lt; op = read.0; operands = leaves.0; rest = read.1; parts = leaves.1; reads = reads; is = sym made ∙ ap (λ (n : ℕ). (record { pc = pc; op = read.0 }, n)) long }
placed_ok pool base pc opcode bytes next (Err fault) lt reads leaves e = absurd cc

tested : (pool : Pool) (base pc opcode : ℕ) (bytes : List ℕ) (next : Ins × ℕ) (b : Bool) → ltb pc 65535 ≡ b
    → cond b (placed base pc bytes (instruction_at pool pc opcode bytes)) (refused base kind.Opcode pc) ≡ Ok next → Next pool pc opcode bytes next
tested pool base pc opcode bytes next true low e = placed_ok pool base pc opcode bytes next (instruction_at pool pc opcode bytes) (ltb-true pc 65535 low) refl (instruction_leaves pool pc opcode bytes) e
tested pool base pc opcode bytes next false low e = absurd cc

next_ok : (pool : Pool) (base pc opcode : ℕ) (bytes : List ℕ) (next : Ins × ℕ) → next_at pool base pc opcode bytes ≡ Ok next → Next pool pc opcode bytes next
unfolding next_at
next_ok pool base pc opcode bytes next e = tested pool base pc opcode bytes next (ltb pc 65535) refl e

drop_front : (front rest : List ℕ) → drop (length front) (front ++ rest) ≡ rest
drop_front [] rest = refl
drop_front (byte ∷ front) rest = drop_front front rest

within : (pool : Pool) (pc opcode : ℕ) (bytes : List ℕ) (next : Ins × ℕ) → Next pool pc opcode bytes next → next.1 ≤ length bytes
within pool pc opcode bytes next n =
    let long : next.1 ≡ length n.operands = ap (λ (x : Ins × ℕ). x.1) n.is in
    let all : length bytes ≡ length n.operands + length n.rest = ap length n.parts ∙ length-append n.operands n.rest in
    omega arith

assemble : (pool : Pool) (pc opcode : ℕ) (bytes : List ℕ) (next : Ins × ℕ) (others code : List Ins) → Next pool pc opcode bytes next → next.0 ∷ others ≡ code
    → Spelled pool ((pc + 1) + next.1) (drop next.1 bytes) others → Spelled pool (pc + 0) (opcode ∷ bytes) code
assemble pool pc opcode bytes next others code n e s =
    let counted : Spelled pool ((pc + 1) + length n.operands) (drop (length n.operands) bytes) others = subst (λ (x : Ins × ℕ). Spelled pool ((pc + 1) + x.1) (drop x.1 bytes) others) n.is s in
    let dropped : drop (length n.operands) bytes ≡ n.rest = ap (drop (length n.operands)) n.parts ∙ drop_front n.operands n.rest in
    let behind : Spelled pool ((pc + 1) + length n.operands) n.rest others = subst (λ (t : List ℕ). Spelled pool ((pc + 1) + length n.operands) t others) dropped counted in
    let reads : instruction_at pool pc opcode (n.operands ++ n.rest) ≡ Ok (n.op, n.rest) = ap (instruction_at pool pc opcode) (sym n.parts) ∙ n.reads in
    let whole = Begins pc opcode n.operands n.rest n.op others n.low reads behind in
    let one : Ins = record { pc = pc; op = n.op } in
    let all : one ∷ others ≡ code = ap (λ (x : Ins × ℕ). x.0 ∷ others) (sym n.is) ∙ e in
    let place : pc ≡ pc + 0 = omega arith in
    let spelled : Spelled pool pc (opcode ∷ bytes) code = subst (λ (t : List ℕ). Spelled pool pc (opcode ∷ t) code) (sym n.parts) (subst (λ (c : List Ins). Spelled pool pc (opcode ∷ (n.operands ++ n.rest)) c) all whole) in
    subst (λ (p : ℕ). Spelled pool p (opcode ∷ bytes) code) place spelled

-- from a place within an instruction on
spelled_within : (pool : Pool) (base pc operands : ℕ) (bytes : List ℕ) (code : List Ins) → operands ≤ length bytes → instructions_from pool base pc operands bytes ≡ Ok code → Spelled pool (pc + operands) (drop operands bytes) code
unfolding instructions_from
spelled_within pool base pc zero [] code le e =
    let none : [] ≡ code = cc in
    subst (λ (all : List Ins). Spelled pool (pc + 0) [] all) none (Ends (pc + 0))
spelled_within pool base pc (suc operands) [] code le e = absurd (omega arith)
spelled_within pool base pc (suc operands) (byte ∷ bytes) code le e =
    let le' : operands ≤ length bytes = omega arith in
    let place : (pc + 1) + operands ≡ pc + suc operands = omega arith in
    subst (λ (p : ℕ). Spelled pool p (drop operands bytes) code) place (spelled_within pool base (pc + 1) operands bytes code le' e)
spelled_within pool base pc zero (opcode ∷ bytes) code le e =
    let a = bind_ok (next_at pool base pc opcode bytes) (λ next. instructions_from pool base (pc + 1) next.1 bytes >>= λ more. Ok (next.0 ∷ more)) code e in
    let b = bind_ok (instructions_from pool base (pc + 1) a.0.1 bytes) (λ more. Ok (a.0.0 ∷ more)) code a.2 in
    let n = next_ok pool base pc opcode bytes a.0 a.1 in
    let all : a.0.0 ∷ b.0 ≡ code = cc (b.2) in
    assemble pool pc opcode bytes a.0 b.0 code n all (spelled_within pool base (pc + 1) a.0.1 bytes b.0 (within pool pc opcode bytes a.0 n) b.1)

next_is : (pool : Pool) (base pc opcode : ℕ) (operands rest : List ℕ) (op : Op) → pc < 65535 → instruction_at pool pc opcode (operands ++ rest) ≡ Ok (op, rest)
    → next_at pool base pc opcode (operands ++ rest) ≡ Ok (record { pc = pc; op = op }, length operands)
unfolding next_at
next_is pool base pc opcode operands rest op low reads =
    let one : Ins = record { pc = pc; op = op } in
    let long : length (operands ++ rest) - length rest ≡ length operands = omega (arith, length-append operands rest) in
    rw (lt-ltb pc 65535 low, reads) (ap (λ (n : ℕ). Ok (one, n)) long)

-- what is spelled is read
read_spelled : (pool : Pool) (base pc : ℕ) (bytes : List ℕ) (code : List Ins) → Spelled pool pc bytes code → instructions_from pool base pc 0 bytes ≡ Ok code
unfolding instructions_from
read_spelled pool base pc bytes code (Ends place) = refl
read_spelled pool base pc bytes code (Begins place opcode operands rest op others low reads s) =
    let le : length operands ≤ length (operands ++ rest) = omega (arith, length-append operands rest) in
    let passed = skip pool base (place + 1) (length operands) (operands ++ rest) le in
    rw (next_is pool base place opcode operands rest op low reads, passed, drop_front operands rest, read_spelled pool base (place + 1 + length operands) rest others s) refl

chosen : (b : Bool) (x : Option ℕ) (pc : ℕ) → cond b x (Some pc) ≡ None → (b ≡ true) × (x ≡ None)
chosen true x pc e = (refl, e)
chosen false x pc e = absurd cc

all_land : (begins : ℕ → Bool) (code : List Ins) → first_wild begins code ≡ None → AllByRecursion (λ ins. lands begins ins.op ≡ true) code
all_land begins [] e = tt
all_land begins (ins ∷ code) e =
    let h = chosen (lands begins ins.op) (first_wild begins code) ins.pc e in
    (h.0, all_land begins code h.1)

none_wild : (begins : ℕ → Bool) (code : List Ins) → AllByRecursion (λ ins. lands begins ins.op ≡ true) code → first_wild begins code ≡ None
none_wild begins [] h = refl
none_wild begins (ins ∷ code) h = rw h.0 (none_wild begins code h.1)

landed_ok : (base : ℕ) (code found : List Ins) (wild : Option ℕ) → landed base found wild ≡ Ok code → (wild ≡ None) × (found ≡ code)
landed_ok base code found None e = (refl, cc)
landed_ok base code found (Some pc) e = absurd cc

pub is_code : (pool : Pool) (base : ℕ) (bytes : List ℕ) (code : List Ins) → decoded pool base bytes ≡ Ok code → IsCode pool bytes code
unfolding decoded
is_code pool base bytes code e =
    let a = bind_ok (instructions_from pool base 0 0 bytes) (λ found. landed base found (first_wild (begins_at found) found)) code e in
    let l = landed_ok base code a.0 (first_wild (begins_at a.0) a.0) a.2 in
    subst (λ (c : List Ins). IsCode pool bytes c) l.1 (spelled_within pool base 0 0 bytes a.0 (omega arith) a.1, all_land (begins_at a.0) a.0 l.0)

pub code_is_read : (pool : Pool) (base : ℕ) (bytes : List ℕ) (code : List Ins) → IsCode pool bytes code → decoded pool base bytes ≡ Ok code
unfolding decoded
code_is_read pool base bytes code h = rw (read_spelled pool base 0 bytes code h.0, none_wild (begins_at code) code h.1) refl

-- by what a call answers
pub found : {X : Type 0} (view : X → List Ins) (pool : Pool) (base : ℕ) (bytes : List ℕ) (r : Result X Stop) → Answers view r (decoded pool base bytes) → IfOk r (λ x. IsCode pool bytes (view x))
found view pool base bytes (Ok x) e = is_code pool base bytes (view x) e
found view pool base bytes (Err stop) e = tt

pub only : {X : Type 0} (view : X → List Ins) (pool : Pool) (base : ℕ) (bytes : List ℕ) (code : List Ins) (r : Result X Stop) → IsCode pool bytes code → Answers view r (decoded pool base bytes) → Answers view r (Ok code)
only view pool base bytes code r h e = subst (λ (d : Result (List Ins) Stop). Answers view r d) (code_is_read pool base bytes code h) e
