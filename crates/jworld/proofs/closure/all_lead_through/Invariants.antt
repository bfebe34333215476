use Rattle.std.proofs.Common.{◌≡◌, ◌||◌, ◌&&◌, ◌<◌, ◌≤◌, ℕ, length}
use Rattle.jworld.specs.Row.{has_bit, reaches, AreRows}
use Rattle.jworld.proofs.closure.all_lead_through.Given as goal

abbrev pub invariant-loop-row : goal.invariant-loop-row
invariant-loop-row l = record {
  room : AreRows (length l.through) l.rows;
  done : (i j : ℕ) → i < l.row-index → reaches l.rows i j ≡ (reaches l.initial.rows i j || (reaches l.initial.rows i l.number && has_bit l.through j));
  left : (i j : ℕ) → l.row-index ≤ i → reaches l.rows i j ≡ reaches l.initial.rows i j;
}
