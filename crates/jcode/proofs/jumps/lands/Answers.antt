use Rattle.std.proofs.Common.{ℤ, ℕ, false, get_or, sym}
use Rattle.std.proofs.lemmas.List.Folds.{list_all-map}
use Rattle.jcode.proofs.jumps.lands.Goals as goal

pub returns-then-begins_there : goal.returns-then-begins_there
returns-then-begins_there c =
    rw (c.in-Switch.is, ← c.if-begins_there.ensures, c.cases_land.ensures, c.as_slice.ensures) (sym (list_all-map (λ (k : ℕ). get_or c.args.begins.now k false) (λ (case : ℤ × ℕ). case.1) c.in-Switch.cases))
