use Rattle.std.proofs.Common.{◌≡◌, ◌+◌, ◌-◌, ◌≤◌, length}
use Rattle.oil_in.specs.Forms.{reference}
use Rattle.oil_in.specs.Scan.{many}
use Rattle.oil_in.specs.Tasks.{least, place_at, places_at}
use Rattle.oil_in.proofs.tasks.places_at.Given as goal

abbrev pub invariant-loop-name : goal.invariant-loop-name
invariant-loop-name l = record {
  few : length l.places ≤ least l.places;
  within : least l.places ≤ length l.names;
  so_far : many (reference l.front) (place_at l.may l.names) ((length l.names + 1) - length l.places) l.places l.scan ≡ places_at l.front l.may l.names l.fn.start;
}

abbrev pub decreases-loop-name : goal.decreases-loop-name
decreases-loop-name l = (length l.names + 1) - length l.places
