use Rattle.std.proofs.Common.{◌≡◌, ℕ, List, drop}
use Rattle.kbind.specs.Named.{seen_in, seen_from}
use Rattle.kbind.specs.Cells.{is_field_of}
use Rattle.kbind.proofs.cells.fields_among.Given as goal

abbrev pub invariant-loop-place : goal.invariant-loop-place
invariant-loop-place l = (name : List ℕ) → seen_in l.names name ≡ seen_from (is_field_of name) l.place (drop l.place l.fields)
