-- Worked examples of what fields and items keep.
use Rattle.std.specs.Prelude.{◌≡◌, pos, negsuc}
use Rattle.jnames.specs.declared.shape.Shape.TheVariants as shape
use Rattle.values.specs.declared.value.Value.TheVariants as value
use Rattle.values.specs.Values.{kept_as}

-- of 511 a boolean keeps 1 and a byte -1; of -1 a char keeps 65,535
abbrev pub BitsAreKept : Type 0
BitsAreKept = (kept_as shape.Bool (value.Int (pos 511)) ≡ value.Int (pos 1)) × (kept_as shape.Byte (value.Int (pos 511)) ≡ value.Int (negsuc 0)) × (kept_as shape.Char (value.Int (negsuc 0)) ≡ value.Int (pos 65535))

-- of 200 a byte keeps -56, of -129 it keeps 127; of 40,000 a char keeps all, and a short -25,536
abbrev pub SignsAreKept : Type 0
SignsAreKept = (kept_as shape.Byte (value.Int (pos 200)) ≡ value.Int (negsuc 55)) × (kept_as shape.Byte (value.Int (negsuc 128)) ≡ value.Int (pos 127))
    × (kept_as shape.Char (value.Int (pos 40000)) ≡ value.Int (pos 40000)) × (kept_as shape.Short (value.Int (pos 40000)) ≡ value.Int (negsuc 25535))

-- an int keeps 70,000, a long its number, and a reference its place
abbrev pub OthersAreKeptWhole : Type 0
OthersAreKeptWhole = (kept_as shape.Int (value.Int (pos 70000)) ≡ value.Int (pos 70000)) × (kept_as shape.Long (value.Long (negsuc 9)) ≡ value.Long (negsuc 9))
    × (kept_as shape.Class (value.Object 7) ≡ value.Object 7) × (kept_as shape.Array value.Null ≡ value.Null) × (kept_as shape.Class (value.Device 64) ≡ value.Device 64)
