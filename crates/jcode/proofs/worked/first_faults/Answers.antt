use Rattle.std.proofs.Common.{refl}
use Rattle.jcode.specs.Opcodes.{opcodes}
use Rattle.jcode.specs.Operands.{immediate_at, local_at, increment_at, branch_at, int_constant_at, long_constant_at, entry_at, interface_call_at, array_type_at}
use Rattle.jcode.specs.Switches.{case_at, table_at, bounded_table_at, keys_at, table_switch_at, pair_at, pairs_at, rising_pairs_at, lookup_switch_at}
use Rattle.jcode.specs.Instructions.{wide_at, operands_at, instruction_at}
use Rattle.jcode.specs.Code.{next_at, instructions_from}
use Rattle.jcode.specs.Decoded.{decoded}
use Rattle.jcode.proofs.worked.first_faults.Goals as goal

pub returns-clause-unknown : goal.returns-clause-unknown
unfolding opcodes immediate_at local_at increment_at branch_at int_constant_at long_constant_at entry_at interface_call_at array_type_at case_at table_at bounded_table_at keys_at table_switch_at pair_at pairs_at rising_pairs_at lookup_switch_at wide_at operands_at instruction_at next_at instructions_from decoded
returns-clause-unknown c = (refl, refl, refl, refl)

pub returns-clause-outside : goal.returns-clause-outside
unfolding opcodes immediate_at local_at increment_at branch_at int_constant_at long_constant_at entry_at interface_call_at array_type_at case_at table_at bounded_table_at keys_at table_switch_at pair_at pairs_at rising_pairs_at lookup_switch_at wide_at operands_at instruction_at next_at instructions_from decoded
returns-clause-outside c = (refl, refl, refl)

pub returns-clause-short : goal.returns-clause-short
unfolding opcodes immediate_at local_at increment_at branch_at int_constant_at long_constant_at entry_at interface_call_at array_type_at case_at table_at bounded_table_at keys_at table_switch_at pair_at pairs_at rising_pairs_at lookup_switch_at wide_at operands_at instruction_at next_at instructions_from decoded
returns-clause-short c = (refl, refl, refl, refl, refl)

pub returns-clause-nothing : goal.returns-clause-nothing
unfolding opcodes immediate_at local_at increment_at branch_at int_constant_at long_constant_at entry_at interface_call_at array_type_at case_at table_at bounded_table_at keys_at table_switch_at pair_at pairs_at rising_pairs_at lookup_switch_at wide_at operands_at instruction_at next_at instructions_from decoded
returns-clause-nothing c = (refl, refl, refl, refl, refl, refl, refl, refl, refl)

pub returns-clause-jumps : goal.returns-clause-jumps
unfolding opcodes immediate_at local_at increment_at branch_at int_constant_at long_constant_at entry_at interface_call_at array_type_at case_at table_at bounded_table_at keys_at table_switch_at pair_at pairs_at rising_pairs_at lookup_switch_at wide_at operands_at instruction_at next_at instructions_from decoded
returns-clause-jumps c = (refl, refl, refl, refl)
