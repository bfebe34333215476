-- Bytes as pairs of hexadecimal digits.
use Rattle.std.specs.Prelude.{ℕ, ◌+◌, ◌*◌, ◌/◌, ◌%◌, nat_le, Bool, ◌&&◌, ◌==◌, List, [], ◌∷◌, map, length, Option, Some, None, is_some, slice_get, if◌then◌else◌}
use Rattle.std.specs.List.{list_all}
use Rattle.osek_core.specs.declared.moves.PokeBytes.{PokeBytes}
use Rattle.text_words.specs.Numbers.{digit}

abbrev pub is_digit : ℕ → Bool
is_digit c = is_some (digit 16 c)

-- one to eight pairs of digits
abbrev pub is_hex : List ℕ → Bool
is_hex word = ((nat_le 1 (length word) && nat_le (length word) 16) && (length word % 2 == 0)) && list_all is_digit word

abbrev pub or_zero : Option ℕ → ℕ
or_zero None = 0
or_zero (Some n) = n

abbrev pub digit_of : Option ℕ → ℕ
digit_of None = 0
digit_of (Some c) = or_zero (digit 16 c)

-- what the digit at a place says, and 0 behind the last
abbrev pub digit_at : List ℕ → ℕ → ℕ
digit_at word place = digit_of (slice_get word place)

-- the byte of a pair, the higher digit first
abbrev pub byte_at : List ℕ → ℕ → ℕ
byte_at word pair = 16 * digit_at word (2 * pair) + digit_at word (2 * pair + 1)

-- the bytes of a poke: those of the pairs, and zeros behind them
abbrev pub poke_bytes : List ℕ → PokeBytes
poke_bytes word = record { len = length word / 2; bytes = map (byte_at word) (0 ∷ 1 ∷ 2 ∷ 3 ∷ 4 ∷ 5 ∷ 6 ∷ 7 ∷ []) }

-- `0` to `9` and `a` to `f`
abbrev pub hex_digit : ℕ → ℕ
hex_digit n = if nat_le n 9 then 48 + n else 87 + n

abbrev pub hex_byte : ℕ → List ℕ
hex_byte byte = hex_digit (byte / 16) ∷ hex_digit (byte % 16) ∷ []
