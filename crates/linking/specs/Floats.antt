-- Whether float, double or an array of one is among the types of a descriptor (JVMS SE 8, 4.3).
use Rattle.std.specs.Prelude.{ℕ, Bool, true, false, List, [], ◌∷◌, Option, Some, None, ◌==◌, ◌||◌}
use Rattle.std.specs.List.{list_any}
use Rattle.jnames.specs.declared.param.Param.{Param}
use Rattle.jnames.specs.declared.shape.Shape.{Shape}
use Rattle.jnames.specs.declared.shape.Shape.TheVariants as shape
use Rattle.jnames.specs.Descriptors.{Signature, signature_of}
use Rattle.linking.specs.Known.{element_of}

-- F and D
abbrev pub is_float_element : List ℕ → Bool
is_float_element (c ∷ []) = c == 70 || c == 68
is_float_element _ = false

abbrev pub is_float_by : Shape → List ℕ → Bool
is_float_by shape.Float name = true
is_float_by shape.Double name = true
is_float_by shape.Array name = is_float_element (element_of name)
is_float_by _ name = false

abbrev pub is_float : Param → Bool
is_float param = is_float_by param.shape param.name

abbrev pub answers_float : Option Param → Bool
answers_float None = false
answers_float (Some answer) = is_float answer

abbrev pub float_in : Option Signature → Bool
float_in None = false
float_in (Some signature) = list_any is_float signature.parameters || answers_float signature.answer

abbrev pub has_float : List ℕ → Bool
has_float descriptor = float_in (signature_of descriptor)
