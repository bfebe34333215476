use Rattle.std.proofs.Common.{◌≡◌, ℕ, take, length, None, get_or}
use Rattle.typing_rules.specs.Environment.{made_at}
use Rattle.typing_rules.proofs.instructions.made_by_place.Given as goal

abbrev pub invariant-loop-ins : goal.invariant-loop-ins
invariant-loop-ins l = record {
  long : length l.made.items ≡ l.places;
  so_far : (k : ℕ) → get_or l.made.items k None ≡ made_at (take l.ins-index l.code) k;
}
