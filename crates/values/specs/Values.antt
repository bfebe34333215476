-- What fields and items hold at first, and what they keep of a stored value (JVMS SE 8, 2.3, 2.4 and 6.5).
use Rattle.std.specs.Prelude.{ℕ, ◌%◌, ◌^◌, ℤ, pos}
use Rattle.std.specs.Int.{w8, w16, w32, cast_signed, cast_unsigned}
use Rattle.jnames.specs.declared.shape.Shape.{Shape}
use Rattle.jnames.specs.declared.shape.Shape.TheVariants as shape
use Rattle.values.specs.declared.value.Value.{Value}
use Rattle.values.specs.declared.value.Value.TheVariants as value

-- numbers are zero at first, a boolean is false, and a reference is null (2.3 and 2.4)
abbrev pub zero_of : Shape → Value
zero_of shape.Long = value.Long (pos 0)
zero_of shape.Double = value.Long (pos 0)
zero_of shape.Class = value.Null
zero_of shape.Array = value.Null
zero_of _ = value.Int (pos 0)

-- the low bits of an int
abbrev pub low : ℕ → ℤ → ℕ
low bits number = cast_unsigned w32 number % 2 ^ bits

-- of an int: a boolean keeps the low bit, a byte and a short their low bits with a sign, a char without (6.5 putfield, bastore,
-- castore and sastore)
abbrev pub kept_int : Shape → ℤ → ℤ
kept_int shape.Bool number = pos (low 1 number)
kept_int shape.Byte number = cast_signed w8 (low 8 number)
kept_int shape.Char number = pos (low 16 number)
kept_int shape.Short number = cast_signed w16 (low 16 number)
kept_int _ number = number

-- every other value is kept as it is
abbrev pub kept_as : Shape → Value → Value
kept_as shape (value.Int number) = value.Int (kept_int shape number)
kept_as _ other = other
