-- The number so far, as it is and as it is kept.
use Rattle.std.proofs.Common.{◌≡◌, ℕ, drop}
use Rattle.oil_in.specs.Pieces.{value, capped}
use Rattle.oil_in.proofs.pieces.value_of.Given as goal

abbrev pub invariant-loop-byte : goal.invariant-loop-byte
invariant-loop-byte l =
    (n : ℕ) × (l.number ≡ capped n) × (value n (drop l.byte-index l.digits) ≡ value 0 l.digits)
