-- Worked examples of first faults, in codes that begin at 100.
use Rattle.std.specs.Prelude.{◌≡◌, ℕ, List, [], ◌∷◌}
use Rattle.kes_text.specs.declared.refusal.Kind.{Kind}
use Rattle.kes_text.specs.declared.refusal.Kind.TheVariants as kind
use Rattle.jcode.specs.Code.{refused}
use Rattle.jcode.specs.Decoded.{decoded}
use Rattle.jcode.specs.Worked.Pool.{worked_pool}

-- the code has this first fault, so many bytes behind its first
abbrev pub HasFault : List ℕ → Kind → ℕ → Type 0
HasFault code kind place = decoded worked_pool 100 code ≡ refused 100 kind place

-- behind a nop: 202 and 255 are no instructions, and nop has no wide form
abbrev pub OpcodesAreUnknown : Type 0
OpcodesAreUnknown = HasFault (0 ∷ 202 ∷ []) kind.Opcode 1 × HasFault (0 ∷ 255 ∷ []) kind.Opcode 1 × HasFault (0 ∷ 196 ∷ 0 ∷ []) kind.Opcode 2 × HasFault (0 ∷ 196 ∷ 196 ∷ []) kind.Opcode 2

-- fconst_0, invokedynamic without its operands, and fload behind wide
abbrev pub InstructionsAreOutside : Type 0
InstructionsAreOutside = HasFault (0 ∷ 11 ∷ []) kind.Unsupported 1 × HasFault (0 ∷ 186 ∷ []) kind.Unsupported 1 × HasFault (0 ∷ 196 ∷ 23 ∷ []) kind.Unsupported 1

-- bipush and iinc that pass the end, wide at the end
abbrev pub OperandsPassTheEnd : Type 0
OperandsPassTheEnd = HasFault (0 ∷ 16 ∷ []) kind.Operand 1 × HasFault (0 ∷ 132 ∷ 1 ∷ []) kind.Operand 1 × HasFault (0 ∷ 196 ∷ []) kind.Operand 1 × HasFault (0 ∷ 196 ∷ 21 ∷ 1 ∷ []) kind.Operand 1 × HasFault (185 ∷ 0 ∷ 3 ∷ 1 ∷ []) kind.Operand 0

-- ldc of a Long, ldc2_w of an Integer, getstatic of a Methodref, invokestatic and invokespecial of an
-- InterfaceMethodref, invokeinterface of a Methodref, new of a Fieldref and of index 0, newarray of float
abbrev pub OperandsNameNothing : Type 0
OperandsNameNothing =
    HasFault (18 ∷ 6 ∷ []) kind.Operand 0 × HasFault (20 ∷ 0 ∷ 5 ∷ []) kind.Operand 0 × HasFault (178 ∷ 0 ∷ 2 ∷ []) kind.Operand 0 × HasFault (184 ∷ 0 ∷ 3 ∷ []) kind.Operand 0
    × HasFault (183 ∷ 0 ∷ 3 ∷ []) kind.Operand 0 × HasFault (185 ∷ 0 ∷ 2 ∷ 1 ∷ 0 ∷ []) kind.Operand 0 × HasFault (187 ∷ 0 ∷ 1 ∷ []) kind.Operand 0 × HasFault (187 ∷ 0 ∷ 0 ∷ []) kind.Operand 0 × HasFault (188 ∷ 6 ∷ []) kind.Operand 0

-- a goto into itself, before the code and to its end; an opcode's fault behind it comes first
abbrev pub JumpsLeadNowhere : Type 0
JumpsLeadNowhere = HasFault (0 ∷ 167 ∷ 0 ∷ 1 ∷ []) kind.Jump 1 × HasFault (0 ∷ 167 ∷ 255 ∷ 254 ∷ []) kind.Jump 1 × HasFault (0 ∷ 167 ∷ 0 ∷ 3 ∷ []) kind.Jump 1 × HasFault (0 ∷ 167 ∷ 0 ∷ 3 ∷ 203 ∷ []) kind.Opcode 4
