-- The kit's percent-encoding by the set of bytes that are not shown gives a name as it is shown.
use Rattle.std.proofs.Common.{◌≡◌, ℕ, ◌<◌, true, not, List, [], ◌∷◌, refl, arith}
use Rattle.std.proofs.lemmas.Bool.{agree_below, agree_below_at}
use Rattle.std.proofs.lemmas.Bool.Decides.{nat_tests}
use Rattle.percent_encoding.specs.AsciiSet.{contains, should_percent_encode}
use Rattle.percent_encoding.specs.Percent.{percent_encode, encode_byte}
use Rattle.kes_text.specs.declared.shown.TheConstants.{ESCAPED}
use Rattle.kes_text.specs.Shown.{stands_as_it_is, shown_byte, shown}

-- below 128 the set has the bytes that are not shown as they are
table : agree_below (contains ESCAPED) (λ b. not (stands_as_it_is b)) 128 ≡ true
table = refl

-- an ASCII byte is in the set just where it is not shown as it is
contains_is : (b : ℕ) → b < 128 → contains ESCAPED b ≡ not (stands_as_it_is b)
contains_is b ascii = agree_below_at (contains ESCAPED) (λ b. not (stands_as_it_is b)) 128 b table ascii

-- a byte is escaped just where it is not shown as it is
escaped_is : (b : ℕ) → should_percent_encode ESCAPED b ≡ not (stands_as_it_is b)
unfolding should_percent_encode
escaped_is b = grind (arith, nat_tests, contains_is)

-- the kit and the definition write the same for a byte
byte_is : (b : ℕ) → encode_byte ESCAPED b ≡ shown_byte b
byte_is b = rw escaped_is (grind (arith, nat_tests))

-- and for a name
pub percent_encode_is : (name : List ℕ) → percent_encode ESCAPED name ≡ shown name
unfolding percent_encode
percent_encode_is [] = refl
percent_encode_is (b ∷ bs) = rw (byte_is b, percent_encode_is bs) refl
