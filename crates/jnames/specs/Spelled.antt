-- How bytes spell a descriptor (JVMS SE 8, 4.3.2 and 4.3.3). Nothing here is read: each definition says of a value which
-- bytes spell it.
use Rattle.std.specs.Prelude.{◌≡◌, ℕ, suc, ◌≤◌, List, [], ◌∷◌, ◌++◌, Option, Some, None, true, false}
use Rattle.std.specs.List.{AllByRecursion, join_with_byte}
use Rattle.jnames.specs.declared.shape.Shape.{Shape}
use Rattle.jnames.specs.declared.shape.Shape.TheVariants as shape
use Rattle.jnames.specs.declared.param.Param.{Param}
use Rattle.jnames.specs.Names.{is_unqualified_name}
use Rattle.jnames.specs.Types.{base_shape}
use Rattle.jnames.specs.Descriptors.{Signature, slots}

-- a class's name: one unqualified name or several, with a / between each and the next (4.2.1)
abbrev pub IsClassName : List ℕ → Type 0
IsClassName text = (first : List ℕ) × (others : List (List ℕ)) × AllByRecursion (λ name. is_unqualified_name name ≡ true) (first ∷ others) × (text ≡ join_with_byte 47 (first ∷ others))

-- A type of so many dimensions: a base type's letter, or L, a class's name and ;, or [ and the components' type, which
-- has a dimension less. The name of an array's type is its whole spelling.
pub data SpelledType : ℕ → List ℕ → Param → Type 0 where
  Base : (letter : ℕ) (base : Shape) → base_shape letter ≡ Some base → SpelledType 0 (letter ∷ []) (record { shape = base; name = [] })
  Class : (name : List ℕ) → IsClassName name → SpelledType 0 (76 ∷ (name ++ 59 ∷ [])) (record { shape = shape.Class; name = name })
  Array : (dimensions : ℕ) (text : List ℕ) (component : Param) → SpelledType dimensions text component
      → SpelledType (suc dimensions) (91 ∷ text) (record { shape = shape.Array; name = 91 ∷ text })

-- a type of at most 255 dimensions
abbrev pub IsType : List ℕ → Param → Type 0
IsType text type = (dimensions : ℕ) × (dimensions ≤ 255) × SpelledType dimensions text type

-- types one after the other
pub data AreTypes : List ℕ → List Param → Type 0 where
  Nothing : AreTypes [] []
  First : (text behind : List ℕ) (type : Param) (others : List Param) → IsType text type → AreTypes behind others
      → AreTypes (text ++ behind) (type ∷ others)

-- what a method answers: V for nothing, or a type
abbrev pub IsAnswer : List ℕ → Option Param → Type 0
IsAnswer text None = text ≡ 86 ∷ []
IsAnswer text (Some type) = IsType text type

-- A descriptor: a field's is its type; a method's is (, the types of its parameters, which take at most 255 slots, ) and
-- what it answers.
pub data Spells : List ℕ → Signature → Type 0 where
  Field : (text : List ℕ) (type : Param) → IsType text type → Spells text (record { is_method = false; parameters = []; answer = Some type })
  Method : (taken answered : List ℕ) (parameters : List Param) (answer : Option Param) → AreTypes taken parameters → slots parameters ≤ 255 → IsAnswer answered answer
      → Spells (40 ∷ (taken ++ 41 ∷ answered)) (record { is_method = true; parameters = parameters; answer = answer })
