use Rattle.std.proofs.Common.{◌≡◌, ℕ, false, replicate, get_or, ⊎_elim, arith}
use Rattle.std.proofs.lemmas.Bool.{cases_lt}
use Rattle.std.proofs.lemmas.List.{get_or-replicate, get_or_past, length-replicate}
use Rattle.jworld.proofs.passed.Passed.new.Goals as goal

none_passed : (most n : ℕ) → get_or (replicate most false) n false ≡ false
none_passed most n = ⊎_elim (λ h. get_or-replicate most n false false h) (λ h. get_or_past (replicate most false) n false (omega (arith, length-replicate most false))) (cases_lt n most)

pub returns : goal.returns
returns c n = none_passed 2052 n
