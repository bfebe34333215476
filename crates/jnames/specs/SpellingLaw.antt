-- Reading a descriptor and spelling it are one.
use Rattle.std.specs.Prelude.{◌≡◌, ◌↔◌, ℕ, List, Option, Some, true, is_some}
use Rattle.jnames.specs.declared.param.Param.{Param}
use Rattle.jnames.specs.Descriptors.{Signature, signature_of, field_of, method_slots, slots}
use Rattle.jnames.specs.Spelled.{IsType, Spells}

-- a text is read as a descriptor exactly where it spells that descriptor
abbrev pub ReadsWhatIsSpelled : Type 0
ReadsWhatIsSpelled = (text : List ℕ) (descriptor : Signature) → (signature_of text ≡ Some descriptor) ↔ Spells text descriptor

-- a text is a field descriptor exactly where it spells a type
abbrev pub FieldsSpellTypes : Type 0
FieldsSpellTypes = (text : List ℕ) → (is_some (field_of text) ≡ true) ↔ ((type : Param) × IsType text type)

-- a method's parameters take so many slots exactly where the text spells a method with parameters of so many
abbrev pub SlotsAreSpelled : Type 0
SlotsAreSpelled = (text : List ℕ) (n : ℕ) → (method_slots text ≡ Some n)
    ↔ ((parameters : List Param) × (answer : Option Param) × Spells text (record { is_method = true; parameters = parameters; answer = answer }) × (slots parameters ≡ n))

-- no descriptor has two spellings
abbrev pub SpellingsAreUnique : Type 0
SpellingsAreUnique = (one other : List ℕ) (descriptor : Signature) → Spells one descriptor → Spells other descriptor → one ≡ other
