-- Texts of lists whose elements are numbered.
use Rattle.std.specs.Prelude.{ℕ, List, flat_map}
use Rattle.std.specs.List.{enumerate_from}

-- the text of each element with its number; the first has the number n
abbrev pub numbered : {X : Type 0} → (ℕ → X → List ℕ) → ℕ → List X → List ℕ
numbered text n xs = flat_map (λ p. text p.0 p.1) (enumerate_from n xs)
