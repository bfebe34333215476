-- A writer and the faults of the calls on it.
use Rattle.std.specs.Prelude.{ℕ, List, take, Option, Result, Ok, Err}
use Rattle.std.specs.Io.KnownBytes.{Appends, Keeps}
use Rattle.kes_outside.specs.declared.sink.SinkFault.{SinkFault}
use Rattle.kes_outside.specs.declared.sink.SinkFault.TheVariants.{Failed, NoMemory}

pub record CountedWriter (W : Type 0) : Type 0 where
  pub writer : W
  -- how many calls have failed
  pub faults : ℕ

-- What the bytes of a writer are after it was handed a piece, where it tells them: they grew by the
-- whole piece, or failed after its first bytes, or had no memory for any of it.
abbrev pub HandedOver : Option (List ℕ) → Option (List ℕ) → List ℕ → Result (Unit {0}) SinkFault → Type 0
HandedOver before now piece (Ok _) = Appends before now piece
HandedOver before now piece (Err Failed) = (n : ℕ) × Appends before now (take n piece)
HandedOver before now piece (Err NoMemory) = Keeps before now
