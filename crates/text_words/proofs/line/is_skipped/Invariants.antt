use Rattle.std.proofs.Common.{◌≡◌, drop}
use Rattle.text_words.specs.TextLines.{is_skipped}
use Rattle.text_words.proofs.line.is_skipped.Given as goal

abbrev pub invariant-loop-byte : goal.invariant-loop-byte
invariant-loop-byte l = is_skipped (drop l.byte-index l.line) ≡ is_skipped l.line
