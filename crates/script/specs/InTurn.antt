-- Steps in turn, one for each element of a list, until one stops.
use Rattle.std.specs.Prelude.{List, [], ◌∷◌, Result, Ok}
use Rattle.kes_text.specs.declared.refusal.Stop.{Stop}
use Rattle.kes_text.specs.Answers.{◌>>=◌}

unfoldable pub in_turn : {S X : Type 0} → (S → X → Result S Stop) → S → List X → Result S Stop
in_turn step s [] = Ok s
in_turn step s (x ∷ xs) = step s x >>= λ t. in_turn step t xs
