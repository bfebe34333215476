use Rattle.std.proofs.Common.{◌≡◌, ℕ, List, drop}
use Rattle.kbind.specs.Named.{seen_in, seen_from}
use Rattle.kbind.specs.Entries.{is_entry_of}
use Rattle.kbind.proofs.entries.entries_among.Given as goal

abbrev pub invariant-loop-place : goal.invariant-loop-place
invariant-loop-place l = (name : List ℕ) → seen_in l.names name ≡ seen_from (is_entry_of name) l.place (drop l.place l.methods)
