-- One more element behind those before, as a loop reads it.
use Rattle.std.proofs.Common.{◌≡◌, ℕ, List, [], ◌∷◌, ◌++◌, Result, Ok, Err, ap}
use Rattle.kes_text.specs.declared.refusal.Stop.{Stop}
use Rattle.kes_text.specs.declared.refusal.Stop.TheVariants.{Refused, NoMemory}
use Rattle.classfile.specs.Scan.{◌>>=◌, OrNoMemory}

abbrev pub grown : {A : Type 0} → List A → A × List ℕ → Result (List A × List ℕ) Stop
grown before x = Ok (before ++ x.0 ∷ [], x.1)

pub another : {A : Type 0} (before : List A) (one : A) (rest : List ℕ) (read : Result (A × List ℕ) Stop) → Ok (one, rest) ≡ read → grown before (one, rest) ≡ (read >>= grown before)
another before one rest read e = ap (λ r. r >>= grown before) e

pub no_other : {A : Type 0} (before : List A) (stop : Stop) (read : Result (A × List ℕ) Stop) → OrNoMemory (Err stop) read → OrNoMemory (Err stop) (read >>= grown before)
no_other before (Refused r) read e = ap (λ r. r >>= grown before) e
no_other before NoMemory read e = tt
