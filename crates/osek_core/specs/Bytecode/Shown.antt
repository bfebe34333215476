-- Names as texts show them, and the equality of members, which goes by their bytes.
use Rattle.std.specs.Prelude.{ℕ, Bool, ◌&&◌, ◌==◌, not, List, [], ◌∷◌, ◌++◌, flat_map, Option, Some, None, nat_le, if◌then◌else◌, bytes_eq, codes}
use Rattle.percent_encoding.specs.Percent.{percent_sign, percent_encode_byte}
use Rattle.osek_core.specs.Bytecode.World.{Shape, Boolean, Byte, Char, Short, Int, Long, Float, Double, Class, Array, Param, Descriptor, Member}

-- JVMS 4.3.2: a field descriptor
abbrev pub param_text : Param → List ℕ
param_text param = spelled param.shape
  where
    spelled : Shape → List ℕ
    spelled Boolean = codes "Z"
    spelled Byte = codes "B"
    spelled Char = codes "C"
    spelled Short = codes "S"
    spelled Int = codes "I"
    spelled Long = codes "J"
    spelled Float = codes "F"
    spelled Double = codes "D"
    spelled Class = codes "L" ++ param.name ++ codes ";"
    spelled Array = param.name

abbrev pub answer_text : Option Param → List ℕ
answer_text None = codes "V"
answer_text (Some param) = param_text param

-- JVMS 4.3.3: a method descriptor
abbrev pub descriptor_text : Descriptor → List ℕ
descriptor_text d = codes "(" ++ flat_map param_text d.parameters ++ codes ")" ++ answer_text d.answer

abbrev pub same_member : Member → Member → Bool
same_member a b =
    bytes_eq a.class b.class && bytes_eq a.name b.name && bytes_eq (descriptor_text a.descriptor) (descriptor_text b.descriptor)

-- a byte from `!` to `~` but `%` stands for itself, and another one is `%` and its two upper-case hexadecimal digits
abbrev pub shown_byte : ℕ → List ℕ
shown_byte b =
    if (nat_le 0x21 b && nat_le b 0x7E) && not (b == percent_sign) then b ∷ [] else percent_encode_byte b

abbrev pub shown : List ℕ → List ℕ
shown name = flat_map shown_byte name

-- as `Class/Name.method(desc)ret`
abbrev pub shown_method : Member → List ℕ
shown_method m = shown m.class ++ codes "." ++ shown m.name ++ shown (descriptor_text m.descriptor)
