use Rattle.std.proofs.Common.{drop}
use Rattle.jworld.specs.Keyed.{AreFirst}
use Rattle.jworld.specs.Found.{is_field_named}
use Rattle.jworld.proofs.found.first_fields.Given as goal

abbrev pub invariant-loop-place : goal.invariant-loop-place
invariant-loop-place l = AreFirst is_field_named l.places l.place (drop l.place l.fields)
