use Rattle.std.proofs.Common.{◌≡◌, ℕ, take, length, false, get_or}
use Rattle.jcode.specs.Decoded.{begins_at}
use Rattle.typing_rules.proofs.starts.begins_by_place.Given as goal

abbrev pub invariant-loop-ins : goal.invariant-loop-ins
invariant-loop-ins l = record {
  long : length l.begins.items ≡ l.places;
  so_far : (k : ℕ) → get_or l.begins.items k false ≡ begins_at (take l.ins-index l.code) k;
}
