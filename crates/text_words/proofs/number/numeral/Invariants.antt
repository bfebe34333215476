-- The number so far, as it is and as it is kept.
use Rattle.std.proofs.Common.{◌≡◌, ℕ, drop}
use Rattle.text_words.specs.Numbers.{numeral, capped}
use Rattle.text_words.proofs.number.numeral.Given as goal

abbrev pub invariant-loop-byte : goal.invariant-loop-byte
invariant-loop-byte l =
    (n : ℕ) × (l.number ≡ capped n) × (numeral l.base n (drop l.byte-index l.digits) ≡ numeral l.base 0 l.digits)
