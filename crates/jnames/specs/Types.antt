-- Types as descriptors spell them (JVMS SE 8, 4.3.2).
use Rattle.std.specs.Prelude.{ℕ, List, [], ◌∷◌, length, drop, Option, Some, None, nat_le, ◌==◌, if◌then◌else◌}
use Rattle.std.specs.List.{take_while}
use Rattle.jnames.specs.declared.shape.Shape.{Shape}
use Rattle.jnames.specs.declared.shape.Shape.TheVariants as shape
use Rattle.jnames.specs.declared.param.Param.{Param}
use Rattle.jnames.specs.Bytes.{◌>>=◌, up_to, before}
use Rattle.jnames.specs.Names.{is_class_name}

-- the base types: B, C, D, F, I, J, S and Z
abbrev pub base_shape : ℕ → Option Shape
base_shape b =
    if b == 66 then Some shape.Byte
    else if b == 67 then Some shape.Char
    else if b == 68 then Some shape.Double
    else if b == 70 then Some shape.Float
    else if b == 73 then Some shape.Int
    else if b == 74 then Some shape.Long
    else if b == 83 then Some shape.Short
    else if b == 90 then Some shape.Bool
    else None

-- a base type has no name
abbrev pub base_type : ℕ → Option Param
base_type b = do
  found ← base_shape b
  Some (record { shape = found; name = [] })

-- a class's name and a ; behind it
abbrev pub class_type_at : List ℕ → Option (Param × List ℕ)
class_type_at bytes = do
  name ← up_to 59 bytes
  if is_class_name name.0 then Some (record { shape = shape.Class; name = name.0 }, name.1) else None

-- a base type, or L and a class
abbrev pub element_at : List ℕ → Option (Param × List ℕ)
element_at [] = None
element_at (b ∷ rest) = if b == 76 then class_type_at rest else (base_type b >>= λ base. Some (base, rest))

-- how many [ stand at the front
abbrev pub dimensions : List ℕ → ℕ
dimensions bytes = length (take_while (λ b. b == 91) bytes)

-- a type; an array has at most 255 dimensions, and its name is its whole descriptor
abbrev pub type_at : List ℕ → Option (Param × List ℕ)
type_at bytes = do
  element ← element_at (drop (dimensions bytes) bytes)
  if dimensions bytes == 0 then Some element
      else if nat_le (dimensions bytes) 255 then Some (record { shape = shape.Array; name = before bytes element.1 }, element.1)
      else None
