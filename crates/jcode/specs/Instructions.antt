-- One instruction: its opcode, and its operands by the opcode's form (JVMS 6.5).
use Rattle.std.specs.Prelude.{ℕ, List, [], ◌∷◌, slice_get, Option, Some, None, Result, Ok, Err}
use Rattle.std.specs.Int.{w8, w16}
use Rattle.jcode.specs.declared.op.Op.{Op}
use Rattle.jcode.specs.declared.fault.Fault.{Fault}
use Rattle.jcode.specs.declared.fault.Fault.TheVariants as faults
use Rattle.jcode.specs.Form.{Form, outside, outside_local, plain, immediate, int_constant, long_constant, local, increment, branch, table_switch, lookup_switch, entry, interface_call, array_type, wide}
use Rattle.jcode.specs.Opcodes.{opcodes}
use Rattle.jcode.specs.Operands.{immediate_at, local_at, increment_at, branch_at, int_constant_at, long_constant_at, entry_at, interface_call_at, array_type_at}
use Rattle.jcode.specs.Pool.{Pool}
use Rattle.jcode.specs.Switches.{table_switch_at, lookup_switch_at}

-- the operands of a form behind wide
abbrev pub wide_operands_at : Form → List ℕ → Result (Op × List ℕ) Fault
wide_operands_at outside_local bytes = Err faults.Unsupported
wide_operands_at (local make) bytes = local_at w16 make bytes
wide_operands_at increment bytes = increment_at w16 bytes
wide_operands_at _ bytes = Err faults.WideOpcode

abbrev pub widened : Option Form → List ℕ → Result (Op × List ℕ) Fault
widened None bytes = Err faults.WideOpcode
widened (Some form) bytes = wide_operands_at form bytes

unfoldable pub wide_at : List ℕ → Result (Op × List ℕ) Fault
wide_at [] = Err faults.Operand
wide_at (opcode ∷ bytes) = widened (slice_get opcodes opcode) bytes

-- the operands of a form, of the instruction at a place
unfoldable pub operands_at : Pool → ℕ → Form → List ℕ → Result (Op × List ℕ) Fault
operands_at pool pc outside bytes = Err faults.Unsupported
operands_at pool pc outside_local bytes = Err faults.Unsupported
operands_at pool pc (plain op) bytes = Ok (op, bytes)
operands_at pool pc (immediate w make) bytes = immediate_at w make bytes
operands_at pool pc (int_constant w) bytes = int_constant_at pool w bytes
operands_at pool pc long_constant bytes = long_constant_at pool bytes
operands_at pool pc (local make) bytes = local_at w8 make bytes
operands_at pool pc increment bytes = increment_at w8 bytes
operands_at pool pc (branch w make) bytes = branch_at pc w make bytes
operands_at pool pc table_switch bytes = table_switch_at pc bytes
operands_at pool pc lookup_switch bytes = lookup_switch_at pc bytes
operands_at pool pc (entry wanted make) bytes = entry_at pool wanted make bytes
operands_at pool pc interface_call bytes = interface_call_at pool bytes
operands_at pool pc array_type bytes = array_type_at bytes
operands_at pool pc wide bytes = wide_at bytes

-- the instruction at a place, whose opcode is known, and the bytes behind it
abbrev pub formed : Pool → ℕ → Option Form → List ℕ → Result (Op × List ℕ) Fault
formed pool pc None bytes = Err faults.Opcode
formed pool pc (Some form) bytes = operands_at pool pc form bytes

unfoldable pub instruction_at : Pool → ℕ → ℕ → List ℕ → Result (Op × List ℕ) Fault
instruction_at pool pc opcode bytes = formed pool pc (slice_get opcodes opcode) bytes
