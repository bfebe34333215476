-- Frames, and what a step makes of operands.
use Rattle.std.specs.Prelude.{ℤ, pos, List, [], ◌∷◌, Option, Some}
use Rattle.values.specs.declared.value.Value.{Value}
use Rattle.values.specs.declared.value.Value.TheVariants.{Int, Long, Null}
use Rattle.jcode.specs.declared.op.Op.{Op}
use Rattle.b_frame.specs.declared.frame.Frame.{Frame}
use Rattle.b_frame.specs.LocalStep.{local_step}
use Rattle.b_frame.specs.Stepped.{Stepped, Next, Jump}

-- a frame of three locals: an int, a long's first slot and null
abbrev pub frame : List Value → Frame
frame operands = record { locals = Int (pos 5) ∷ Long (pos 6) ∷ Null ∷ []; operands = operands }

abbrev pub step : Op → List Value → Option Stepped
step op operands = local_step op (frame operands)

-- goes on behind the instruction, with these operands
abbrev pub goes_on : List Value → Option Stepped
goes_on operands = Some (Next (frame operands))

abbrev pub jumps_to : List Value → Option Stepped
jumps_to operands = Some (Jump (frame operands) 40)

-- the ends of int and of long
abbrev pub int_max : ℤ
int_max = pos 2147483647

abbrev pub long_max : ℤ
long_max = pos 9223372036854775807
