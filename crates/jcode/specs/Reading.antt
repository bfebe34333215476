-- Reading from the front: a piece answers its value and the bytes behind it, or what is wrong.
use Rattle.std.specs.Prelude.{◌≡◌, ℕ, ℤ, List, length, take, drop, Result, Ok, Err, nat_lt, if◌then◌else◌}
use Rattle.std.specs.Int.{Width, byte_len, from_be_bytes, cast_signed}
use Rattle.jcode.specs.declared.fault.Fault.{Fault}
use Rattle.jcode.specs.declared.fault.Fault.TheVariants as faults
use Rattle.jcode.specs.declared.fault.Flaw.{Flaw}
use Rattle.jcode.specs.declared.fault.Flaw.TheVariants as flaws

infixl 10 ◌>>=◌
abbrev pub ◌>>=◌ : {A B F : Type 0} → Result A F → (A → Result B F) → Result B F
(Ok x) >>= f = f x
(Err e) >>= f = Err e

-- what a function answers, seen by view, is what reading gives, unless memory runs out
abbrev pub Fails : {Y : Type 0} → Flaw → Result Y Fault → Type 0
Fails flaws.NoMemory read = Unit {0}
Fails (flaws.Fault fault) read = read ≡ Err fault

abbrev pub Gives : {X Y : Type 0} → (X → Y) → Result X Flaw → Result Y Fault → Type 0
Gives view (Ok x) read = read ≡ Ok (view x)
Gives view (Err flaw) read = Fails flaw read

-- a number of this width, the highest byte first (JVMS 4)
abbrev pub number_at : Width → List ℕ → Result (ℕ × List ℕ) Fault
number_at w bytes =
    if nat_lt (length bytes) (byte_len w) then Err faults.Operand else Ok (from_be_bytes w (take (byte_len w) bytes), drop (byte_len w) bytes)

abbrev pub signed_at : Width → List ℕ → Result (ℤ × List ℕ) Fault
signed_at w bytes = do
  number ← number_at w bytes
  Ok (cast_signed w number.0, number.1)

-- what is behind so many bytes
abbrev pub behind : ℕ → List ℕ → Result (List ℕ) Fault
behind n bytes = if nat_lt (length bytes) n then Err faults.Operand else Ok (drop n bytes)
