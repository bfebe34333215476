-- A descriptor determines its spelling.
use Rattle.std.proofs.Common.{◌≡◌, ℕ, List, [], ◌∷◌, ◌++◌, Bool, true, false, cond, eqb, Option, Some, None, refl, sym, ap, ap₂, ◌∙◌, eqb-true}
use Rattle.jnames.specs.declared.shape.Shape.{Shape}
use Rattle.jnames.specs.declared.shape.Shape.TheVariants as shape
use Rattle.jnames.specs.declared.param.Param.{Param}
use Rattle.jnames.specs.Types.{base_shape}
use Rattle.jnames.specs.Descriptors.{Signature}
use Rattle.jnames.specs.Spelled.{SpelledType, Base, Class, Array, AreTypes, Nothing, First, IsAnswer, Spells, Field, Method}
use Rattle.jnames.specs.SpellingLaw.{SpellingsAreUnique}

abbrev spelling_of : Shape → List ℕ → List ℕ
spelling_of shape.Byte name = 66 ∷ []
spelling_of shape.Char name = 67 ∷ []
spelling_of shape.Double name = 68 ∷ []
spelling_of shape.Float name = 70 ∷ []
spelling_of shape.Int name = 73 ∷ []
spelling_of shape.Long name = 74 ∷ []
spelling_of shape.Short name = 83 ∷ []
spelling_of shape.Bool name = 90 ∷ []
spelling_of shape.Class name = 76 ∷ (name ++ 59 ∷ [])
spelling_of shape.Array name = name

-- the letter is this one, or the shape is found behind
by_test : (b c : ℕ) (this base : Shape) (others : Option Shape) (test : Bool) → eqb b c ≡ test → spelling_of this [] ≡ c ∷ [] → cond test (Some this) others ≡ Some base
    → (others ≡ Some base → b ∷ [] ≡ spelling_of base []) → b ∷ [] ≡ spelling_of base []
by_test b c this base others true same letter e otherwise =
    let is : this ≡ base = cc in
    ap (λ (x : ℕ). x ∷ []) (eqb-true b c same) ∙ sym letter ∙ ap (λ (s : Shape). spelling_of s []) is
by_test b c this base others false same letter e otherwise = otherwise e

tried : (b c : ℕ) (this base : Shape) (others : Option Shape) → spelling_of this [] ≡ c ∷ [] → cond (eqb b c) (Some this) others ≡ Some base
    → (others ≡ Some base → b ∷ [] ≡ spelling_of base []) → b ∷ [] ≡ spelling_of base []
tried b c this base others letter e otherwise = by_test b c this base others (eqb b c) refl letter e otherwise

base_spelled : (b : ℕ) (base : Shape) → base_shape b ≡ Some base → b ∷ [] ≡ spelling_of base []
base_spelled b base e =
    tried b 66 shape.Byte base _ refl e (λ e1. tried b 67 shape.Char base _ refl e1 (λ e2. tried b 68 shape.Double base _ refl e2 (λ e3.
    tried b 70 shape.Float base _ refl e3 (λ e4. tried b 73 shape.Int base _ refl e4 (λ e5. tried b 74 shape.Long base _ refl e5 (λ e6.
    tried b 83 shape.Short base _ refl e6 (λ e7. tried b 90 shape.Bool base _ refl e7 (λ none. absurd cc))))))))

abbrev type_spelling : Param → List ℕ
type_spelling type = spelling_of type.shape type.name

type_spelled : (n : ℕ) (text : List ℕ) (type : Param) → SpelledType n text type → text ≡ type_spelling type
type_spelled n text type (Base letter base e) = base_spelled letter base e
type_spelled n text type (Class name h) = refl
type_spelled n text type (Array m inner component s) = refl

abbrev types_spelling : List Param → List ℕ
types_spelling [] = []
types_spelling (type ∷ types) = type_spelling type ++ types_spelling types

types_spelled : (text : List ℕ) (types : List Param) → AreTypes text types → text ≡ types_spelling types
types_spelled text types Nothing = refl
types_spelled text types (First one behind type others it them) = ap₂ (λ (x y : List ℕ). x ++ y) (type_spelled it.0 one type it.2) (types_spelled behind others them)

abbrev answer_spelling : Option Param → List ℕ
answer_spelling None = 86 ∷ []
answer_spelling (Some type) = type_spelling type

answer_spelled : (text : List ℕ) (answer : Option Param) → IsAnswer text answer → text ≡ answer_spelling answer
answer_spelled text None h = h
answer_spelled text (Some type) h = type_spelled h.0 text type h.2

abbrev spelling : Signature → List ℕ
spelling d = cond d.is_method (40 ∷ (types_spelling d.parameters ++ 41 ∷ answer_spelling d.answer)) (answer_spelling d.answer)

spelled : (text : List ℕ) (d : Signature) → Spells text d → text ≡ spelling d
spelled text d (Field own type h) = type_spelled h.0 own type h.2
spelled text d (Method taken answered parameters answer them le it) =
    ap₂ (λ (x y : List ℕ). 40 ∷ (x ++ 41 ∷ y)) (types_spelled taken parameters them) (answer_spelled answered answer it)

pub unique : SpellingsAreUnique
unique one other d p q = spelled one d p ∙ sym (spelled other d q)
