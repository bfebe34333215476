-- The least place that rises above those so far.
use Rattle.std.proofs.Common.{◌≡◌, ℕ, ◌+◌, ◌-◌, List, [], ◌∷◌, ◌++◌, length, Some, refl, ap, ◌∙◌, length-append, arith}
use Rattle.std.specs.Prelude.{slice_get}
use Rattle.std.specs.Option.{option_map_or}
use Rattle.oil_in.specs.Tasks.{least}

at_end : (xs : List ℕ) (k : ℕ) → slice_get (xs ++ k ∷ []) (length xs) ≡ Some k
at_end [] k = refl
at_end (x ∷ xs) k = at_end xs k

pub least-append : (xs : List ℕ) (k : ℕ) → least (xs ++ k ∷ []) ≡ k + 1
least-append xs k =
    let n : length (xs ++ k ∷ []) - 1 ≡ length xs = omega (arith, length-append xs (k ∷ [])) in
    ap (λ i. option_map_or (λ j. j + 1) (slice_get (xs ++ k ∷ []) i) 0) n ∙ ap (λ o. option_map_or (λ j. j + 1) o 0) (at_end xs k)
