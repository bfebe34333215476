-- Superclasses (JVMS SE 8, 4.1 and 5.3).
use Rattle.std.specs.Prelude.{ℕ, zero, suc, Bool, List, [], ◌∷◌, Option, Some, None, ◌==◌}
use Rattle.std.specs.List.{list_any}
use Rattle.jworld.specs.Classes.{World, super_of, count}

abbrev pub on_some : {A B : Type 0} → (A → List B) → Option A → List B
on_some next None = []
on_some next (Some x) = next x

-- a class and those above it, one superclass after the other, at most so many
unfoldable pub chain : ℕ → World → ℕ → List ℕ
chain zero files class = []
chain (suc most) files class = class ∷ on_some (chain most files) (super_of files class)

-- a class and all of its superclasses, upwards; no way up is longer than there are classes
unfoldable pub upwards : World → ℕ → List ℕ
upwards files class = chain (count files) files class

-- whether a class is another, or below it along superclasses
abbrev pub is_subclass : World → ℕ → ℕ → Bool
is_subclass files class of = list_any (λ c. c == of) (upwards files class)
