-- Regions and the device as lists of bytes. A cell is 1, 2, 4 or 8 bytes at a multiple of their number.
use Rattle.std.specs.Prelude.{ℕ, ◌+◌, ◌-◌, ◌*◌, ◌%◌, Bool, true, false, ◌&&◌, ◌||◌, List, [], ◌∷◌, ◌++◌, reverse, length, take, drop, replicate, flat_map, nat_eq, nat_le, Option, Some, None, if◌then◌else◌}
use Rattle.std.specs.Int.{bytes_low_first, bytes_high_first}
use Rattle.csubset.specs.declared.program.CRegion.{CRegion}
use Rattle.osek_core.specs.Bytecode.Trace.{written}

-- the low bytes of a number, so many; where `big` is true the highest of them comes first
abbrev pub bytes_of : Bool → ℕ → ℕ → List ℕ
bytes_of true width value = bytes_high_first width value
bytes_of false width value = bytes_low_first 0 width value

-- the number of some bytes of which the lowest comes first
abbrev pub number_low_first : List ℕ → ℕ
number_low_first [] = 0
number_low_first (b ∷ more) = b + 256 * number_low_first more

abbrev pub number_of : Bool → List ℕ → ℕ
number_of true bytes = number_low_first (reverse bytes)
number_of false bytes = number_low_first bytes

abbrev pub is_width : ℕ → Bool
is_width n = nat_eq n 1 || nat_eq n 2 || nat_eq n 4 || nat_eq n 8

-- the cell lies inside and is aligned
abbrev pub is_cell : List ℕ → ℕ → ℕ → Bool
is_cell bytes width at = is_width width && nat_eq (at % width) 0 && nat_le (at + width) (length bytes)

-- the number in a cell, filled with zeros
abbrev pub load : Bool → List ℕ → ℕ → ℕ → Option ℕ
load big bytes width at =
    if is_cell bytes width at then Some (number_of big (take width (drop at bytes))) else None

-- the bytes after the low bytes of a number were put into a cell
abbrev pub store : Bool → List ℕ → ℕ → ℕ → ℕ → Option (List ℕ)
store big bytes width at value =
    if is_cell bytes width at then Some (written bytes at (bytes_of big width value)) else None

-- a region at first: the words of its line, 8 bytes each, and zeros behind them
abbrev pub first_bytes : Bool → CRegion → List ℕ
first_bytes big region =
    flat_map (bytes_of big 8) region.first ++ replicate (8 * (region.words - length region.first)) 0
