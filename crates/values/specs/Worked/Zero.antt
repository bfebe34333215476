-- Worked examples of what fields and items hold at first.
use Rattle.std.specs.Prelude.{◌≡◌, pos}
use Rattle.jnames.specs.declared.shape.Shape.TheVariants as shape
use Rattle.values.specs.declared.value.Value.TheVariants as value
use Rattle.values.specs.Values.{zero_of}

-- false, '\0', 0 and 0L, and null for objects and arrays
abbrev pub ZerosAreByShape : Type 0
ZerosAreByShape = (zero_of shape.Bool ≡ value.Int (pos 0)) × (zero_of shape.Char ≡ value.Int (pos 0)) × (zero_of shape.Int ≡ value.Int (pos 0)) × (zero_of shape.Long ≡ value.Long (pos 0))
    × (zero_of shape.Class ≡ value.Null) × (zero_of shape.Array ≡ value.Null)
