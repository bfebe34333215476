-- What a class of the first form says: its code rises, ends, keeps to its stack, and is small.
use Rattle.std.proofs.Common.{◌∙◌, ◌≡◌, ◌≤◌, ℕ, zero, suc, Bool, true, false, List, [], ◌∷◌, length, Some, None, Result, Ok, Err, refl, sym, ap, subst, arith}
use Rattle.std.specs.Prelude.{not, ◌<◌, ◌^◌, ◌-◌, nat_le, replicate, unwrap_or, ◌&&◌, ◌==◌, ◌+◌, position, if◌then◌else◌}
use Rattle.std.specs.Result.{result_ok}
use Rattle.std.proofs.Math.ListN.{get_or}
use Rattle.std.proofs.lemmas.List.Quantifiers.{position-Some}
use Rattle.std.proofs.lemmas.Bool.Decides.{nat_tests}
use Rattle.classfile.specs.ClassFile.{ClassInfo, CodeInfo, MethodInfo}
use Rattle.classfile.specs.Pool.{◌>>=◌}
use Rattle.classfile.specs.Reading.{class_file}
use Rattle.jcode.specs.declared.op.Ins.{Ins}
use Rattle.jcode.specs.Decoded.{decoded}
use Rattle.jcode.specs.Pool.{Pool}
use Rattle.jcode.specs.PoolOf.{pool_of}
use Rattle.jcode.specs.Spelling.{Spelled, Ends, Begins}
use Rattle.jcode.proofs.Concatenated.{is_code}
use Rattle.first_form.specs.declared.first_class.FirstClass.{FirstClass}
use Rattle.first_form.specs.declared.first_class.Op.{Op}
use Rattle.first_form.specs.declared.first_class.Op.TheVariants.{Pop}
use Rattle.first_form.specs.declared.first_class.Placed.{Placed}
use Rattle.first_form.specs.Class.{is_plain_class, class_with, class_of}
use Rattle.first_form.specs.Code.{is_call, op_of, placed, operations_of, operations_in, is_return, returns_at_end, is_lawful_code, is_plain_code}
use Rattle.first_form.specs.Fits.{class_in}
use Rattle.first_form.specs.Methods.{native_and_entry}
use Rattle.first_form.specs.Operands.{runs}
use Rattle.first_form.proofs.Headline.Code.{ends, front, Rises, has_true}
use Rattle.first_form.proofs.Headline.Input.{nothing_held}
use Rattle.first_form.proofs.Headline.Inversion.{none_is_some, both_true, if_some, bind_some}

ok_some : {A E : Type 0} (r : Result A E) (x : A) → result_ok r ≡ Some x → r ≡ Ok x
ok_some (Ok y) x e = ap (λ o. Ok (unwrap_or o y)) e
ok_some (Err stop) x e = absurd (none_is_some x e)

-- from this place on, one behind the other
abbrev pub RisesFrom : ℕ → List Placed → Type 0
RisesFrom low [] = Unit {0}
RisesFrom low (p ∷ more) = (low ≤ p.pc) × RisesFrom (p.pc + 1) more

from_lower : (low high : ℕ) (code : List Placed) → low ≤ high → RisesFrom high code → RisesFrom low code
from_lower low high [] le r = tt
from_lower low high (p ∷ more) le r = (let at = r.0 in omega (arith, le, at), r.1)

rises : (low : ℕ) (code : List Placed) → RisesFrom low code → Rises code
rises low [] r = tt
rises low (p ∷ []) r = tt
rises low (p ∷ next ∷ more) r = (let at = r.1.0 in omega (arith, at), rises (p.pc + 1) (next ∷ more) r.1)

-- an instruction of the form, and the others
record Split (calls : ℕ → Bool) (ins : Ins) (more : List Ins) (code : List Placed) : Type 0 where
  pub op : Op
  pub others : List Placed
  pub rest : operations_of calls more ≡ Some others
  pub is : record { pc = ins.pc; op = op } ∷ others ≡ code

split : (calls : ℕ → Bool) (ins : Ins) (more : List Ins) (code : List Placed) → operations_of calls (ins ∷ more) ≡ Some code → Split calls ins more code
split calls ins more code e =
    let first = bind_some (λ first. operations_of calls more >>= λ others. Some (first ∷ others)) (placed calls ins) code e in
    let others = bind_some (λ others. Some (first.0 ∷ others)) (operations_of calls more) code first.2 in
    let one = bind_some (λ op. Some (record { pc = ins.pc; op = op })) (op_of calls ins.op) first.0 first.1 in
    record {
      op = one.0;
      others = others.0;
      rest = others.1;
      is = ap (λ o. unwrap_or o first.0 ∷ others.0) one.2 ∙ ap (λ o. unwrap_or o code) others.2;
    }

pub record CodeRises (low : ℕ) (code : List Placed) : Type 0 where
  pub from : RisesFrom low code
  pub count : length code ≤ 65535 - low

-- each instruction has an opcode, and none stands at 65535 or behind
places : (pool : Pool) (calls : ℕ → Bool) (pc : ℕ) (bytes : List ℕ) (instructions : List Ins) → Spelled pool pc bytes instructions → (code : List Placed) → operations_of calls instructions ≡ Some code → CodeRises pc code
places pool calls pc bytes instructions (Ends place) code e =
    subst (CodeRises place) (ap (λ o. unwrap_or o code) e) (record { from = tt; count = omega arith })
places pool calls pc bytes instructions (Begins place opcode operands rest op others low reads more) code e =
    let s = split calls (record { pc = place; op = op }) others code e in
    let behind = places pool calls (place + 1 + length operands) rest others more s.others s.rest in
    let count = behind.count in
    subst (CodeRises place) s.is (record {
      from = (omega arith, from_lower (place + 1) (place + 1 + length operands) s.others (omega arith) behind.from);
      count = omega (arith, low, count);
    })

begins : (pool : Pool) (calls : ℕ → Bool) (pc : ℕ) (bytes : List ℕ) (instructions : List Ins) → Spelled pool pc bytes instructions → (code : List Placed) → operations_of calls instructions ≡ Some code → pc ≡ 0 → 0 ≡ front code
begins pool calls pc bytes instructions (Ends place) code e zero_is = ap (λ o. front (unwrap_or o code)) e
begins pool calls pc bytes instructions (Begins place opcode operands rest op others low reads more) code e zero_is =
    let s = split calls (record { pc = place; op = op }) others code e in
    sym zero_is ∙ ap front s.is

pub record CodeFits (class : FirstClass) : Type 0 where
  pub first : 0 ≡ front class.code
  pub rises : Rises class.code
  pub returns : returns_at_end class.code ≡ true
  pub fits : runs class.max_stack (nothing_held class) class.code ≡ true
  pub stack : class.max_stack ≤ 65535
  pub locals : class.max_locals ≤ 65535
  pub count : length class.code < 2 ^ 16

-- what lawful code has
lawful : (stack locals : ℕ) (code : List Placed) → is_lawful_code stack locals code ≡ true
    → (stack ≤ 65535) × (locals ≤ 65535) × (returns_at_end code ≡ true) × (runs stack (record { depth = 0; stored = replicate locals false }) code ≡ true)
lawful stack locals code e =
    let last = both_true (nat_le stack 65535 && nat_le locals 65535 && returns_at_end code) (runs stack (record { depth = 0; stored = replicate locals false }) code) e in
    let ending = both_true (nat_le stack 65535 && nat_le locals 65535) (returns_at_end code) last.0 in
    let sizes = both_true (nat_le stack 65535) (nat_le locals 65535) ending.0 in
    (grind (arith, nat_tests, sizes.0), grind (arith, nat_tests, sizes.1), ending.1, last.1)

with_fits : (info : ClassInfo) (native entry : List ℕ) (code : CodeInfo) (class : FirstClass) → class_with info native entry code ≡ Some class → CodeFits class
with_fits info native entry code class e =
    let made : List Placed → FirstClass =
    λ operations. record { name = info.name; native = native; entry = entry; max_stack = code.max_stack; max_locals = code.max_locals; code = operations } in
    let passes : List Placed → Bool = λ operations. is_plain_class info && is_plain_code code && is_lawful_code code.max_stack code.max_locals operations in
    let operations = bind_some (λ operations. if passes operations then Some (made operations) else None) (operations_in info native code) class e in
    let instructions = bind_some (operations_of (is_call info native)) (result_ok (decoded (pool_of info) code.at code.bytes)) operations.0 operations.1 in
    let is_lawful = if_some (passes operations.0) (Some (made operations.0)) class operations.2 in
    let all = both_true (is_plain_class info && is_plain_code code) (is_lawful_code code.max_stack code.max_locals operations.0) is_lawful.0 in
    let code_is = lawful code.max_stack code.max_locals operations.0 all.1 in
    let spelled = is_code (pool_of info) code.at code.bytes instructions.0 (ok_some (decoded (pool_of info) code.at code.bytes) instructions.0 instructions.1) in
    let stand = places (pool_of info) (is_call info native) 0 code.bytes instructions.0 spelled.0 operations.0 instructions.2 in
    let count = stand.count in
    subst CodeFits (ap (λ o. unwrap_or o class) is_lawful.1)
    (record {
      first = begins (pool_of info) (is_call info native) 0 code.bytes instructions.0 spelled.0 operations.0 instructions.2 refl;
      rises = rises 0 operations.0 stand.from;
      returns = code_is.2;
      fits = code_is.3;
      stack = code_is.0;
      locals = code_is.1;
      count = omega (arith, count);
    })

of_fits : (info : ClassInfo) (class : FirstClass) → class_of info ≡ Some class → CodeFits class
unfolding class_of
of_fits info class e =
    let methods = bind_some (λ (methods : MethodInfo × MethodInfo). methods.1.code >>= λ code. class_with info methods.0.name methods.1.name code) (native_and_entry info.methods) class e in
    let code = bind_some (λ code. class_with info methods.0.0.name methods.0.1.name code) methods.0.1.code class methods.2 in
    with_fits info methods.0.0.name methods.0.1.name code.0 class code.2

pub class_fits : (bytes : List ℕ) (class : FirstClass) → class_in bytes ≡ Some class → CodeFits class
class_fits bytes class e = let info = bind_some class_of (result_ok (class_file bytes)) class e in of_fits info.0 class info.2

-- the first return is the last instruction
ends_by : (code : List Placed) (place : ℕ) (none : Placed) → place + 1 ≡ length code → is_return (get_or code place none).op ≡ true → ((k : ℕ) → k < place → is_return (get_or code k none).op ≡ false) → ends code ≡ true
ends_by [] place none e last earlier = absurd (omega (arith, e))
ends_by (s ∷ []) zero none e last earlier = last
ends_by (s ∷ []) (suc place) none e last earlier = absurd (omega (arith, e))
ends_by (s ∷ next ∷ more) zero none e last earlier = absurd (omega (arith, e))
ends_by (s ∷ next ∷ more) (suc place) none e last earlier =
    ap (λ b. not b && ends (next ∷ more)) (earlier 0 (omega arith))
    ∙ ends_by (next ∷ more) place none (omega (arith, e)) last (λ k lt. earlier (suc k) (omega (arith, lt)))

pub ends_from : (code : List Placed) → returns_at_end code ≡ true → ends code ≡ true
ends_from code e =
    let none : Placed = record { pc = 0; op = Pop } in
    let first = has_true (λ place. place + 1 == length code) (position (λ s. is_return s.op) code) e in
    let at = position-Some (λ s. is_return s.op) code first.0 none first.1 in
    ends_by code first.0 none (grind (arith, nat_tests, first.2)) at.1 at.2
