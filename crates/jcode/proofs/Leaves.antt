-- What reading an instruction leaves are the bytes behind those that it took.
use Rattle.std.proofs.Common.{◌≡◌, ℕ, zero, suc, Bool, true, false, cond, ltb, ℤ, pos, ◌+ℤ◌, List, [], ◌∷◌, ◌++◌, length, take, drop, Option, Some, None, Result, Ok, Err, refl, sym, ap, ◌∙◌, append_assoc, slice_get}
use Rattle.std.specs.Prelude.{int_lt, unsigned_abs}
use Rattle.std.specs.Int.{Width, w8, w16, w32, byte_len, from_be_bytes, cast_signed}
use Rattle.std.proofs.lemmas.List.{take-append-drop}
use Rattle.classfile.specs.declared.member.MemberKind.TheVariants as kind
use Rattle.jcode.specs.declared.op.Op.{Op}
use Rattle.jcode.specs.declared.op.Op.TheVariants.{InvokeInterface}
use Rattle.jcode.specs.declared.fault.Fault.{Fault}
use Rattle.jcode.specs.declared.fault.Fault.TheVariants as faults
use Rattle.jcode.specs.Form.{Form, Wanted, outside, outside_local, plain, immediate, int_constant, long_constant, local, increment, branch, table_switch, lookup_switch, entry, interface_call, array_type, wide, member}
use Rattle.jcode.specs.Instructions.{wide_operands_at, widened, wide_at, operands_at, formed, instruction_at}
use Rattle.jcode.specs.Opcodes.{opcodes}
use Rattle.jcode.specs.Operands.{wanted_value, array_shape, immediate_at, local_at, increment_at, branch_at, int_of, long_of, int_constant_at, long_constant_at, stands, entry_at, interface_call_at, array_type_at}
use Rattle.jcode.specs.Pool.{Pool}
use Rattle.jcode.specs.Reading.{◌>>=◌, number_at, signed_at, behind}
use Rattle.jcode.specs.Switches.{padding, case_at, table_at, key_count, bounded_table_at, keys_at, table_switch_at, pair_at, pairs_at, keys_rise, rising_pairs_at, lookup_switch_at}
use Rattle.jcode.specs.Targets.{target}

abbrev pub Behind : List ℕ → List ℕ → Type 0
Behind bytes rest = (front : List ℕ) × (bytes ≡ front ++ rest)

abbrev pub Leaves : {A : Type 0} → List ℕ → Result (A × List ℕ) Fault → Type 0
Leaves bytes (Ok x) = Behind bytes x.1
Leaves bytes (Err fault) = Unit {0}

here : (bytes : List ℕ) → Behind bytes bytes
here bytes = ([], refl)

further : {A : Type 0} (a b : List ℕ) (r : Result (A × List ℕ) Fault) → Behind a b → Leaves b r → Leaves a r
further a b (Ok x) p q = (p.0 ++ q.0, p.1 ∙ ap (λ (t : List ℕ). p.0 ++ t) q.1 ∙ sym (append_assoc p.0 q.0 x.1))
further a b (Err fault) p q = tt

then : {A B : Type 0} (bytes : List ℕ) (r : Result (A × List ℕ) Fault) (f : A × List ℕ → Result (B × List ℕ) Fault) → Leaves bytes r → ((x : A × List ℕ) → Leaves x.1 (f x)) → Leaves bytes (r >>= f)
then bytes (Ok x) f p q = further bytes x.1 (f x) p (q x)
then bytes (Err fault) f p q = tt

then_value : {A B : Type 0} (bytes : List ℕ) (r : Result A Fault) (f : A → Result (B × List ℕ) Fault) → ((x : A) → Leaves bytes (f x)) → Leaves bytes (r >>= f)
then_value bytes (Ok x) f q = q x
then_value bytes (Err fault) f q = tt

either : {A : Type 0} (bytes : List ℕ) (b : Bool) (x y : Result (A × List ℕ) Fault) → Leaves bytes x → Leaves bytes y → Leaves bytes (cond b x y)
either bytes true x y p q = p
either bytes false x y p q = q

front : (n : ℕ) (bytes : List ℕ) → Behind bytes (drop n bytes)
front n bytes = (take n bytes, sym (take-append-drop n bytes))

number : (w : Width) (bytes : List ℕ) → Leaves bytes (number_at w bytes)
number w bytes = either bytes (ltb (length bytes) (byte_len w)) (Err faults.Operand) (Ok (from_be_bytes w (take (byte_len w) bytes), drop (byte_len w) bytes)) tt (front (byte_len w) bytes)

signed : (w : Width) (bytes : List ℕ) → Leaves bytes (signed_at w bytes)
signed w bytes = then bytes (number_at w bytes) (λ x. Ok (cast_signed w x.0, x.1)) (number w bytes) (λ x. here x.1)

skipped : {B : Type 0} (n : ℕ) (bytes : List ℕ) (f : List ℕ → Result (B × List ℕ) Fault) → ((rest : List ℕ) → Leaves rest (f rest)) → Leaves bytes (behind n bytes >>= f)
skipped n bytes f q = elim (ltb (length bytes) n) as (λ b. Leaves bytes (cond b (Err faults.Operand) (Ok (drop n bytes)) >>= f)) [ true ↦ tt | false ↦ further bytes (drop n bytes) (f (drop n bytes)) (front n bytes) (q (drop n bytes)) ]

immediates : (w : Width) (make : ℤ → Op) (bytes : List ℕ) → Leaves bytes (immediate_at w make bytes)
unfolding immediate_at
immediates w make bytes = then bytes (signed_at w bytes) (λ x. Ok (make x.0, x.1)) (signed w bytes) (λ x. here x.1)

locals : (w : Width) (make : ℕ → Op) (bytes : List ℕ) → Leaves bytes (local_at w make bytes)
unfolding local_at
locals w make bytes = then bytes (number_at w bytes) (λ x. Ok (make x.0, x.1)) (number w bytes) (λ x. here x.1)

increments : (w : Width) (bytes : List ℕ) → Leaves bytes (increment_at w bytes)
unfolding increment_at
increments w bytes = then bytes (number_at w bytes) _ (number w bytes) (λ x. then x.1 (signed_at w x.1) _ (signed w x.1) (λ y. here y.1))

branches : (pc : ℕ) (w : Width) (make : ℕ → Op) (bytes : List ℕ) → Leaves bytes (branch_at pc w make bytes)
unfolding branch_at
branches pc w make bytes = then bytes (signed_at w bytes) (λ x. Ok (make (target pc x.0), x.1)) (signed w bytes) (λ x. here x.1)

int_constants : (pool : Pool) (w : Width) (bytes : List ℕ) → Leaves bytes (int_constant_at pool w bytes)
unfolding int_constant_at
int_constants pool w bytes = then bytes (number_at w bytes) _ (number w bytes) (λ x. then_value x.1 (wanted_value (int_of (pool.constant x.0))) _ (λ value. here x.1))

long_constants : (pool : Pool) (bytes : List ℕ) → Leaves bytes (long_constant_at pool bytes)
unfolding long_constant_at
long_constants pool bytes = then bytes (number_at w16 bytes) _ (number w16 bytes) (λ x. then_value x.1 (wanted_value (long_of (pool.constant x.0))) _ (λ value. here x.1))

entries : (pool : Pool) (wanted : Wanted) (make : ℕ → Op) (bytes : List ℕ) → Leaves bytes (entry_at pool wanted make bytes)
unfolding entry_at
entries pool wanted make bytes = then bytes (number_at w16 bytes) _ (number w16 bytes) (λ x. either x.1 (stands pool wanted x.0) (Ok (make x.0, x.1)) (Err faults.Operand) (here x.1) tt)

interface_calls : (pool : Pool) (bytes : List ℕ) → Leaves bytes (interface_call_at pool bytes)
unfolding interface_call_at
interface_calls pool bytes = then bytes (entry_at pool (member kind.Interface) InvokeInterface bytes) _ (entries pool (member kind.Interface) InvokeInterface bytes) (λ x. skipped 2 x.1 _ here)

array_types : (bytes : List ℕ) → Leaves bytes (array_type_at bytes)
unfolding array_type_at
array_types bytes = then bytes (number_at w8 bytes) _ (number w8 bytes) (λ x. then_value x.1 (wanted_value (array_shape x.0)) _ (λ shape. here x.1))

cases : (pc : ℕ) (key : ℤ) (bytes : List ℕ) → Leaves bytes (case_at pc key bytes)
unfolding case_at
cases pc key bytes = then bytes (signed_at w32 bytes) (λ x. Ok ((key, target pc x.0), x.1)) (signed w32 bytes) (λ x. here x.1)

tables : (pc count : ℕ) (key : ℤ) (bytes : List ℕ) → Leaves bytes (table_at pc count key bytes)
unfolding table_at
tables pc zero key bytes = here bytes
tables pc (suc count) key bytes = then bytes (case_at pc key bytes) _ (cases pc key bytes) (λ x. then x.1 (table_at pc count (key +ℤ pos 1) x.1) _ (tables pc count (key +ℤ pos 1) x.1) (λ y. here y.1))

bounded_tables : (pc : ℕ) (low high : ℤ) (bytes : List ℕ) → Leaves bytes (bounded_table_at pc low high bytes)
unfolding bounded_table_at
bounded_tables pc low high bytes = either bytes (int_lt high low) (Err faults.SwitchTable) (table_at pc (key_count low high) low bytes) tt (tables pc (key_count low high) low bytes)

keys : (pc : ℕ) (bytes : List ℕ) → Leaves bytes (keys_at pc bytes)
unfolding keys_at
keys pc bytes = then bytes (signed_at w32 bytes) _ (signed w32 bytes) (λ x. then x.1 (signed_at w32 x.1) _ (signed w32 x.1) (λ y. bounded_tables pc x.0 y.0 y.1))

table_switches : (pc : ℕ) (bytes : List ℕ) → Leaves bytes (table_switch_at pc bytes)
unfolding table_switch_at
table_switches pc bytes = skipped (padding pc) bytes _ (λ rest. then rest (signed_at w32 rest) _ (signed w32 rest) (λ x. then x.1 (keys_at pc x.1) _ (keys pc x.1) (λ y. here y.1)))

pairs : (pc : ℕ) (bytes : List ℕ) → Leaves bytes (pair_at pc bytes)
unfolding pair_at
pairs pc bytes = then bytes (signed_at w32 bytes) _ (signed w32 bytes) (λ x. cases pc x.0 x.1)

many_pairs : (pc count : ℕ) (bytes : List ℕ) → Leaves bytes (pairs_at pc count bytes)
unfolding pairs_at
many_pairs pc zero bytes = here bytes
many_pairs pc (suc count) bytes = then bytes (pair_at pc bytes) _ (pairs pc bytes) (λ x. then x.1 (pairs_at pc count x.1) _ (many_pairs pc count x.1) (λ y. here y.1))

rising_pairs : (pc : ℕ) (count : ℤ) (bytes : List ℕ) → Leaves bytes (rising_pairs_at pc count bytes)
unfolding rising_pairs_at
rising_pairs pc count bytes =
    then bytes (cond (int_lt count (pos 0)) (Err faults.SwitchTable) (pairs_at pc (unsigned_abs count) bytes)) _
    (either bytes (int_lt count (pos 0)) (Err faults.SwitchTable) (pairs_at pc (unsigned_abs count) bytes) tt (many_pairs pc (unsigned_abs count) bytes))
    (λ x. either x.1 (keys_rise x.0) (Ok x) (Err faults.SwitchTable) (here x.1) tt)

lookup_switches : (pc : ℕ) (bytes : List ℕ) → Leaves bytes (lookup_switch_at pc bytes)
unfolding lookup_switch_at
lookup_switches pc bytes = skipped (padding pc) bytes _ (λ rest. then rest (signed_at w32 rest) _ (signed w32 rest) (λ x. then x.1 (signed_at w32 x.1) _ (signed w32 x.1) (λ y. then y.1 (rising_pairs_at pc y.0 y.1) _ (rising_pairs pc y.0 y.1) (λ z. here z.1))))

wide_operands : (form : Form) (bytes : List ℕ) → Leaves bytes (wide_operands_at form bytes)
wide_operands outside_local bytes = tt
wide_operands (local make) bytes = locals w16 make bytes
wide_operands increment bytes = increments w16 bytes
wide_operands _ bytes = tt

behind_wide : (form : Option Form) (bytes : List ℕ) → Leaves bytes (widened form bytes)
behind_wide None bytes = tt
behind_wide (Some form) bytes = wide_operands form bytes

wides : (bytes : List ℕ) → Leaves bytes (wide_at bytes)
unfolding wide_at
wides [] = tt
wides (opcode ∷ bytes) = further (opcode ∷ bytes) bytes (widened (slice_get opcodes opcode) bytes) (opcode ∷ [], refl) (behind_wide (slice_get opcodes opcode) bytes)

operands : (pool : Pool) (pc : ℕ) (form : Form) (bytes : List ℕ) → Leaves bytes (operands_at pool pc form bytes)
unfolding operands_at
operands pool pc outside bytes = tt
operands pool pc outside_local bytes = tt
operands pool pc (plain op) bytes = here bytes
operands pool pc (immediate w make) bytes = immediates w make bytes
operands pool pc (int_constant w) bytes = int_constants pool w bytes
operands pool pc long_constant bytes = long_constants pool bytes
operands pool pc (local make) bytes = locals w8 make bytes
operands pool pc increment bytes = increments w8 bytes
operands pool pc (branch w make) bytes = branches pc w make bytes
operands pool pc table_switch bytes = table_switches pc bytes
operands pool pc lookup_switch bytes = lookup_switches pc bytes
operands pool pc (entry wanted make) bytes = entries pool wanted make bytes
operands pool pc interface_call bytes = interface_calls pool bytes
operands pool pc array_type bytes = array_types bytes
operands pool pc wide bytes = wides bytes

formed_leaves : (pool : Pool) (pc : ℕ) (form : Option Form) (bytes : List ℕ) → Leaves bytes (formed pool pc form bytes)
formed_leaves pool pc None bytes = tt
formed_leaves pool pc (Some form) bytes = operands pool pc form bytes

pub instruction_leaves : (pool : Pool) (pc opcode : ℕ) (bytes : List ℕ) → Leaves bytes (instruction_at pool pc opcode bytes)
unfolding instruction_at
instruction_leaves pool pc opcode bytes = formed_leaves pool pc (slice_get opcodes opcode) bytes
