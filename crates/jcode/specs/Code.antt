-- A method's code is one instruction after the other, each standing at its place (JVMS 4.9). A code that isn't has a
-- first fault.
use Rattle.std.specs.Prelude.{◌≡◌, ℕ, zero, suc, ◌+◌, ◌-◌, ◌^◌, min, List, [], ◌∷◌, length, Result, Ok, Err, nat_lt, if◌then◌else◌}
use Rattle.kes_text.specs.declared.refusal.Kind.{Kind}
use Rattle.kes_text.specs.declared.refusal.Kind.TheVariants as kind
use Rattle.kes_text.specs.declared.refusal.Stop.{Stop}
use Rattle.kes_text.specs.declared.refusal.Stop.TheVariants as stop
use Rattle.jcode.specs.declared.op.Op.{Op}
use Rattle.jcode.specs.declared.op.Ins.{Ins}
use Rattle.jcode.specs.declared.fault.Fault.{Fault}
use Rattle.jcode.specs.declared.fault.Fault.TheVariants as faults
use Rattle.jcode.specs.Instructions.{instruction_at}
use Rattle.jcode.specs.Pool.{Pool}
use Rattle.jcode.specs.Reading.{◌>>=◌}

-- what an answer is, but for want of memory
abbrev pub Stops : {Y : Type 0} → Stop → Result Y Stop → Type 0
Stops stop.NoMemory defined = Unit {0}
Stops (stop.Refused refusal) defined = defined ≡ Err (stop.Refused refusal)

abbrev pub Answers : {X Y : Type 0} → (X → Y) → Result X Stop → Result Y Stop → Type 0
Answers view (Ok x) defined = defined ≡ Ok (view x)
Answers view (Err stop) defined = Stops stop defined

abbrev pub kind_of : Fault → Kind
kind_of faults.Opcode = kind.Opcode
kind_of faults.WideOpcode = kind.Opcode
kind_of faults.Unsupported = kind.Unsupported
kind_of faults.Operand = kind.Operand
kind_of faults.SwitchTable = kind.SwitchTable

-- where a fault of the instruction at a place stands: at its opcode, which for a wide form is wide itself, or at the
-- byte behind wide that has no wide form
abbrev pub fault_place : ℕ → Fault → ℕ
fault_place pc faults.WideOpcode = pc + 1
fault_place pc _ = pc

-- the file is refused at this place of the code, which begins at base; a number of 64 bits stands still at its end
abbrev pub refused : {A : Type 0} → ℕ → Kind → ℕ → Result A Stop
refused base kind place = Err (stop.Refused (record { file = 0; kind = kind; at = min (base + place) (2 ^ 64 - 1) }))

-- an instruction, and how many bytes its operands are
abbrev pub placed : ℕ → ℕ → List ℕ → Result (Op × List ℕ) Fault → Result (Ins × ℕ) Stop
placed base pc bytes (Ok read) = Ok (record { pc = pc; op = read.0 }, length bytes - length read.1)
placed base pc bytes (Err fault) = refused base (kind_of fault) (fault_place pc fault)

-- the instruction at a place; a code has at most 65535 bytes (JVMS 4.7.3), and behind them no instruction begins
unfoldable pub next_at : Pool → ℕ → ℕ → ℕ → List ℕ → Result (Ins × ℕ) Stop
next_at pool base pc opcode bytes =
    if nat_lt pc 65535 then placed base pc bytes (instruction_at pool pc opcode bytes) else refused base kind.Opcode pc

-- the instructions of the bytes from a place on, of which so many still belong to the instruction before
unfoldable pub instructions_from : Pool → ℕ → ℕ → ℕ → List ℕ → Result (List Ins) Stop
instructions_from pool base pc operands [] = Ok []
instructions_from pool base pc (suc operands) (byte ∷ bytes) = instructions_from pool base (pc + 1) operands bytes
instructions_from pool base pc zero (opcode ∷ bytes) = do
  next ← next_at pool base pc opcode bytes
  more ← instructions_from pool base (pc + 1) next.1 bytes
  Ok (next.0 ∷ more)
