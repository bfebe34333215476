-- What a line is made of: fixed text, names and numbers. A piece at the front of the bytes answers its value and the bytes
-- behind it, or nothing where it isn't there.
use Rattle.std.specs.Prelude.{◌≡◌, ℕ, ◌^◌, ◌+◌, ◌*◌, ◌-◌, List, [], ◌∷◌, length, take, drop, Option, Some, None, Bool, false, ◌==◌, ◌&&◌, ◌||◌, nat_le, nat_lt, bytes_eq, decimal, if◌then◌else◌}
use Rattle.std.specs.List.{prefix_len}
use Rattle.oil_in.specs.declared.pieces.Number.{Number}
use Rattle.oil_in.specs.declared.pieces.Number.TheVariants.{Large, Value}

infixl 10 ◌>>=◌
abbrev pub ◌>>=◌ : {A B : Type 0} → Option A → (A → Option B) → Option B
(Some x) >>= f = f x
None >>= f = None

-- what a function answers, seen by view, is what the definition gives
abbrev pub Finds : {X Y : Type 0} → (X → Y) → Option X → Option Y → Type 0
Finds view (Some x) defined = defined ≡ Some (view x)
Finds view None defined = defined ≡ None

-- the bytes behind a text
unfoldable pub behind : List ℕ → List ℕ → Option (List ℕ)
behind [] bytes = Some bytes
behind (c ∷ text) [] = None
behind (c ∷ text) (byte ∷ bytes) = if c == byte then behind text bytes else None

abbrev pub is_digit : ℕ → Bool
is_digit c = nat_le 48 c && nat_le c 57

abbrev pub is_letter : ℕ → Bool
is_letter c = (nat_le 65 c && nat_le c 90) || (nat_le 97 c && nat_le c 122)

-- a letter, a digit or `_`
abbrev pub is_name_byte : ℕ → Bool
is_name_byte c = (is_letter c || is_digit c) || (c == 95)

abbrev pub begins_with_letter : List ℕ → Bool
begins_with_letter [] = false
begins_with_letter (c ∷ more) = is_letter c

abbrev pub begins_with_zero : List ℕ → Bool
begins_with_zero [] = false
begins_with_zero (c ∷ more) = c == 48

-- the longest front all of whose bytes pass, and what is behind it
abbrev pub run : (ℕ → Bool) → List ℕ → List ℕ × List ℕ
run passes bytes = (take (prefix_len passes bytes) bytes, drop (prefix_len passes bytes) bytes)

-- a run of such bytes that begins with a letter and has at most 32 of them
abbrev pub named : List ℕ × List ℕ → Option (List ℕ × List ℕ)
named word = if begins_with_letter word.0 && nat_le (length word.0) 32 then Some word else None

unfoldable pub name_at : List ℕ → Option (List ℕ × List ℕ)
name_at bytes = named (run is_name_byte bytes)

-- the number that digits say, going on from one
abbrev pub value : ℕ → List ℕ → ℕ
value n [] = n
value n (c ∷ digits) = value (n * 10 + (c - 48)) digits

-- a number below 2^64, while there is one, and with one digit more
abbrev pub capped : ℕ → Option ℕ
capped n = if nat_lt n (2 ^ 64) then Some n else None

abbrev pub with_digit : Option ℕ → ℕ → Option ℕ
with_digit number digit = number >>= λ n. capped (n * 10 + digit)

-- A number is written in one way, as it is printed, so without a needless 0 in front.
abbrev pub sized : List ℕ → ℕ → Option Number
sized digits n =
    if nat_lt n (2 ^ 64)
    then (if bytes_eq digits (decimal n) then Some (Value n) else None)
    else (if begins_with_zero digits then None else Some Large)

abbrev pub numeral : List ℕ → Option Number
numeral digits = sized digits (value 0 digits)

-- digits, up to the first byte that is none
unfoldable pub number_at : List ℕ → Option (Number × List ℕ)
number_at bytes = do
  number ← numeral (run is_digit bytes).0
  Some (number, (run is_digit bytes).1)
