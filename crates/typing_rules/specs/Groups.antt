-- The operations by groups, of which each has rules of one kind.
use Rattle.std.specs.Prelude.{Bool, true, false, not, ◌||◌}
use Rattle.jcode.specs.declared.op.Op.{Op}
use Rattle.jcode.specs.declared.op.Op.TheVariants as op

-- nop, constants, loads, stores and iinc
abbrev pub is_load_or_store : Op → Bool
is_load_or_store op.Nop = true
is_load_or_store op.Null = true
is_load_or_store (op.Const4 value) = true
is_load_or_store (op.Const8 value) = true
is_load_or_store (op.LoadI slot) = true
is_load_or_store (op.LoadL slot) = true
is_load_or_store (op.LoadA slot) = true
is_load_or_store (op.StoreI slot) = true
is_load_or_store (op.StoreL slot) = true
is_load_or_store (op.StoreA slot) = true
is_load_or_store (op.Inc slot by) = true
is_load_or_store _ = false

-- pop, dup and swap and their forms
abbrev pub is_stack_form : Op → Bool
is_stack_form op.Pop = true
is_stack_form op.Pop2 = true
is_stack_form op.Dup = true
is_stack_form op.DupX1 = true
is_stack_form op.DupX2 = true
is_stack_form op.Dup2 = true
is_stack_form op.Dup2X1 = true
is_stack_form op.Dup2X2 = true
is_stack_form op.Swap = true
is_stack_form _ = false

-- arithmetic, conversions and lcmp
abbrev pub is_on_numbers : Op → Bool
is_on_numbers (op.Add wide) = true
is_on_numbers (op.Sub wide) = true
is_on_numbers (op.Mul wide) = true
is_on_numbers (op.Div wide) = true
is_on_numbers (op.Rem wide) = true
is_on_numbers (op.Neg wide) = true
is_on_numbers (op.Shl wide) = true
is_on_numbers (op.Shr wide) = true
is_on_numbers (op.Ushr wide) = true
is_on_numbers (op.And wide) = true
is_on_numbers (op.Or wide) = true
is_on_numbers (op.Xor wide) = true
is_on_numbers op.I2L = true
is_on_numbers op.L2I = true
is_on_numbers op.I2B = true
is_on_numbers op.I2C = true
is_on_numbers op.I2S = true
is_on_numbers op.CompareL = true
is_on_numbers _ = false

-- branches, returns and athrow
abbrev pub is_jump : Op → Bool
is_jump (op.IfZero test to) = true
is_jump (op.IfInt test to) = true
is_jump (op.IfRef equal to) = true
is_jump (op.IfNull null to) = true
is_jump (op.Goto to) = true
is_jump (op.Switch cases other) = true
is_jump op.ReturnI = true
is_jump op.ReturnL = true
is_jump op.ReturnA = true
is_jump op.Return = true
is_jump op.Throw = true
is_jump _ = false

-- accesses of fields, and calls
abbrev pub is_of_member : Op → Bool
is_of_member (op.GetStatic index) = true
is_of_member (op.PutStatic index) = true
is_of_member (op.GetField index) = true
is_of_member (op.PutField index) = true
is_of_member (op.InvokeVirtual index) = true
is_of_member (op.InvokeSpecial index) = true
is_of_member (op.InvokeStatic index) = true
is_of_member (op.InvokeInterface index) = true
is_of_member _ = false

-- objects and arrays: the others
abbrev pub is_of_object : Op → Bool
is_of_object x = not (is_load_or_store x || is_stack_form x || is_on_numbers x || is_jump x || is_of_member x)
