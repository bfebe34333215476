-- Descriptors of fields and methods (JVMS SE 8, 4.3).
use Rattle.std.specs.Prelude.{ℕ, zero, suc, ◌+◌, List, [], ◌∷◌, length, drop, Option, Some, None, Bool, true, false, nat_le, ◌==◌, if◌then◌else◌}
use Rattle.jnames.specs.declared.shape.Shape.{Shape}
use Rattle.jnames.specs.declared.shape.Shape.TheVariants.{Long, Double}
use Rattle.jnames.specs.declared.param.Param.{Param}
use Rattle.jnames.specs.Bytes.{◌>>=◌, begins_with}
use Rattle.jnames.specs.Types.{type_at}

-- what a descriptor says: whether it is a method's, the types that the method takes, and the one that it answers, which
-- void lacks. A field's takes none, and answers the field's type.
pub record Signature : Type 0 where
  pub is_method : Bool
  pub parameters : List Param
  pub answer : Option Param

-- how many slots a type takes (4.3.3)
abbrev pub slots_of : Shape → ℕ
slots_of Long = 2
slots_of Double = 2
slots_of _ = 1

-- how many slots types take in all
abbrev pub slots : List Param → ℕ
slots [] = 0
slots (first ∷ others) = slots_of first.shape + slots others

-- at most n types, and a ) behind them
unfoldable pub parameters_at : ℕ → List ℕ → Option (List Param × List ℕ)
parameters_at zero bytes = if begins_with 41 bytes then Some ([], drop 1 bytes) else None
parameters_at (suc n) bytes =
    if begins_with 41 bytes then Some ([], drop 1 bytes)
    else (do
      first ← type_at bytes
      others ← parameters_at n first.1
      Some (first.0 ∷ others.0, others.1))

-- V for no value, or a type (4.3.3)
abbrev pub answer_at : List ℕ → Option (Option Param × List ℕ)
answer_at bytes = if begins_with 86 bytes then Some (None, drop 1 bytes) else (type_at bytes >>= λ found. Some (Some found.0, found.1))

-- the value, if nothing stands behind it
abbrev pub whole : {A : Type 0} → A × List ℕ → Option A
whole x = if length x.1 == 0 then Some x.0 else None

-- the parameters behind a (; each takes at least one slot, and all take at most 255, so they are at most 255 (4.3.3)
abbrev pub parameters_of : List ℕ → Option (List Param × List ℕ)
parameters_of bytes = do
  found ← parameters_at 255 bytes
  if nat_le (slots found.0) 255 then Some found else None

-- a (, the parameters, a ) and the answer
abbrev pub method_of : List ℕ → Option Signature
method_of bytes =
    if begins_with 40 bytes
    then (do
      parameters ← parameters_of (drop 1 bytes)
      answer ← answer_at parameters.1
      found ← whole answer
      Some (record { is_method = true; parameters = parameters.0; answer = found }))
    else None

-- one type
abbrev pub field_of : List ℕ → Option Signature
field_of bytes = do
  answer ← type_at bytes
  found ← whole answer
  Some (record { is_method = false; parameters = []; answer = Some found })

-- no text is both, since no type begins with a (
unfoldable pub signature_of : List ℕ → Option Signature
signature_of bytes = if begins_with 40 bytes then method_of bytes else field_of bytes

-- the slots of at most n types with a ) behind them
abbrev pub slots_at : ℕ → List ℕ → Option (ℕ × List ℕ)
slots_at n bytes = do
  found ← parameters_at n bytes
  Some (slots found.0, found.1)

-- how many slots the parameters of a method descriptor take
unfoldable pub method_slots : List ℕ → Option ℕ
method_slots bytes = do
  found ← method_of bytes
  Some (slots found.parameters)
