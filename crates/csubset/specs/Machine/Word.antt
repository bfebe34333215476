-- Words: natural numbers below 2 ^ 64, as C99's uint64_t holds them. An int is the low 32 bits of a word.
use Rattle.std.specs.Prelude.{ℕ, ◌%◌, ◌^◌, ℤ, Bool, if◌then◌else◌}
use Rattle.std.specs.Int.{w32, w64, cast_signed, cast_unsigned}

-- what a word keeps of a number
abbrev pub wrapped : ℕ → ℕ
wrapped n = n % 2 ^ 64

-- the low 32 bits of a word
abbrev pub low4 : ℕ → ℕ
low4 n = n % 2 ^ 32

-- two's complement
abbrev pub long_of : ℕ → ℤ
long_of = cast_signed w64

abbrev pub int_of : ℕ → ℤ
int_of n = cast_signed w32 (low4 n)

-- a long's 64 bits, and an int's 32
abbrev pub word_of_long : ℤ → ℕ
word_of_long = cast_unsigned w64

abbrev pub word_of_int : ℤ → ℕ
word_of_int = cast_unsigned w32

abbrev pub truth : Bool → ℕ
truth b = if b then 1 else 0
