use Rattle.std.proofs.Common.{refl}
use Rattle.jcode.specs.Opcodes.{opcodes}
use Rattle.jcode.proofs.table.row_of.Goals as goal

-- each row of the code is the definition's
pub row_at-requires : goal.row_at-requires
unfolding opcodes
row_at-requires c = refl
