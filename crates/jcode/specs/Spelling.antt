-- A code as the concatenation of the spellings of its instructions.
use Rattle.std.specs.Prelude.{◌≡◌, ℕ, ◌+◌, ◌<◌, true, List, [], ◌∷◌, ◌++◌, length, Ok}
use Rattle.std.specs.List.{AllByRecursion}
use Rattle.jcode.specs.declared.op.Op.{Op}
use Rattle.jcode.specs.declared.op.Ins.{Ins}
use Rattle.jcode.specs.Decoded.{begins_at, lands}
use Rattle.jcode.specs.Instructions.{instruction_at}
use Rattle.jcode.specs.Pool.{Pool}

-- The bytes from a place on spell these instructions: nothing, or an opcode, its operands, and from the place behind
-- them on the others.
pub data Spelled (pool : Pool) : ℕ → List ℕ → List Ins → Type 0 where
  Ends : (pc : ℕ) → Spelled pool pc [] []
  Begins : (pc opcode : ℕ) (operands rest : List ℕ) (op : Op) (others : List Ins) → pc < 65535
      → instruction_at pool pc opcode (operands ++ rest) ≡ Ok (op, rest)
      → Spelled pool (pc + 1 + length operands) rest others
      → Spelled pool pc (opcode ∷ (operands ++ rest)) (record { pc = pc; op = op } ∷ others)

-- each jump leads to the beginning of an instruction
abbrev pub AllLand : List Ins → Type 0
AllLand code = AllByRecursion (λ ins. lands (begins_at code) ins.op ≡ true) code

-- the bytes are the code of these instructions
abbrev pub IsCode : Pool → List ℕ → List Ins → Type 0
IsCode pool bytes code = Spelled pool 0 bytes code × AllLand code
