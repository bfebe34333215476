-- Names as they are shown.
use Rattle.std.specs.Prelude.{ℕ, Bool, not, ◌&&◌, ◌==◌, nat_le, List, [], ◌∷◌, if◌then◌else◌}
use Rattle.std.specs.List.{flat_map}
use Rattle.percent_encoding.specs.Percent.{percent_sign, percent_encode_byte}

-- the byte is a printing ASCII character other than the space and `%`
abbrev pub stands_as_it_is : ℕ → Bool
stands_as_it_is b = (nat_le 0x21 b && nat_le b 0x7E) && not (b == percent_sign)

-- such a byte, or else `%` and the byte's two upper-case hexadecimal digits
abbrev pub shown_byte : ℕ → List ℕ
shown_byte b = if stands_as_it_is b then b ∷ [] else percent_encode_byte b

-- each byte of the name as it is shown
abbrev pub shown : List ℕ → List ℕ
shown name = flat_map shown_byte name
