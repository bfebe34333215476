-- Reading from the front: a piece answers its value and the bytes behind it, or nothing.
use Rattle.std.specs.Prelude.{ℕ, ◌+◌, ◌-◌, List, [], ◌∷◌, length, take, drop, Option, Some, None, Bool, false, ◌==◌}
use Rattle.std.specs.List.{position}

infixl 10 ◌>>=◌
abbrev pub ◌>>=◌ : {A B : Type 0} → Option A → (A → Option B) → Option B
(Some x) >>= f = f x
None >>= f = None

abbrev pub begins_with : ℕ → List ℕ → Bool
begins_with c [] = false
begins_with c (b ∷ rest) = b == c

-- the bytes before the first c, and those behind it
abbrev pub up_to : ℕ → List ℕ → Option (List ℕ × List ℕ)
up_to c bytes = do
  place ← position (λ b. b == c) bytes
  Some (take place bytes, drop (place + 1) bytes)

-- the bytes before the rest, which is their end
abbrev pub before : List ℕ → List ℕ → List ℕ
before bytes rest = take (length bytes - length rest) bytes
