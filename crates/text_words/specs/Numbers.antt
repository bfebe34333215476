-- The numbers of a configuration: decimal, or `0x` and 1 to 16 hexadecimal digits.
use Rattle.std.specs.Prelude.{ℕ, ◌+◌, ◌-◌, ◌*◌, ◌^◌, ◌==◌, nat_le, nat_lt, Bool, true, false, ◌&&◌, List, [], ◌∷◌, length, Option, Some, None, if◌then◌else◌}
use Rattle.std.specs.Option.{option_and_then}
use Rattle.text_words.specs.declared.number.Number.{Number}
use Rattle.text_words.specs.declared.number.Number.TheVariants.{Malformed, Large, Value}

-- `0` to `9`, `a` to `f` and `A` to `F`
abbrev pub digit_value : ℕ → Option ℕ
digit_value c =
    if nat_le 48 c && nat_le c 57 then Some (c - 48)
    else if nat_le 97 c && nat_le c 102 then Some (c - 87)
    else if nat_le 65 c && nat_le c 70 then Some (c - 55)
    else None

abbrev pub digit_below : ℕ → Option ℕ → Option ℕ
digit_below base None = None
digit_below base (Some d) = if nat_lt d base then Some d else None

-- a digit to the base
abbrev pub digit : ℕ → ℕ → Option ℕ
digit base c = digit_below base (digit_value c)

-- the number that the digits say, going on from one
abbrev pub numeral : ℕ → ℕ → List ℕ → Option ℕ
numeral base number [] = Some number
numeral base number (c ∷ cs) = option_and_then (λ d. numeral base (number * base + d) cs) (digit base c)

-- numbers end at 64 bits
abbrev pub sized : Option ℕ → Number
sized None = Malformed
sized (Some n) = if nat_lt n (2 ^ 64) then Value n else Large

-- a number below 2^64, while there is one, and with one digit more
abbrev pub capped : ℕ → Option ℕ
capped n = if nat_lt n (2 ^ 64) then Some n else None

abbrev pub with_digit : ℕ → Option ℕ → ℕ → Option ℕ
with_digit base number d = option_and_then (λ n. capped (n * base + d)) number

-- `0x`
abbrev pub is_marked : ℕ → ℕ → Bool
is_marked c d = c == 48 && d == 120

abbrev pub hexadecimal : List ℕ → Number
hexadecimal digits = if nat_le 1 (length digits) && nat_le (length digits) 16 then sized (numeral 16 0 digits) else Malformed

abbrev pub number_of : List ℕ → Number
number_of [] = Malformed
number_of (c ∷ []) = sized (numeral 10 0 (c ∷ []))
number_of (c ∷ d ∷ digits) = if is_marked c d then hexadecimal digits else sized (numeral 10 0 (c ∷ d ∷ digits))

-- the word is a number
abbrev pub is_number : Number → Bool
is_number Malformed = false
is_number _ = true

abbrev pub are_both_numbers : Number → Number → Bool
are_both_numbers first second = is_number first && is_number second

-- the number is from low to high
abbrev pub within : ℕ → ℕ → Number → Bool
within low high (Value n) = nat_le low n && nat_le n high
within low high _ = false

-- the number, where there is one below 2^64
abbrev pub value : Number → ℕ
value (Value n) = n
value _ = 0
