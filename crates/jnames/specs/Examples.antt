-- Worked examples of descriptors.
use Rattle.std.specs.Prelude.{◌≡◌, [], ◌∷◌, Some, None, true, false, codes}
use Rattle.jnames.specs.declared.shape.Shape.TheVariants as shape
use Rattle.jnames.specs.Descriptors.{Signature, signature_of, method_slots}
use Rattle.jnames.specs.Spelled.{Spells}

-- (I[JLa/B;)V takes an int, an array of long and an a/B, in three slots, and answers nothing
abbrev pub MethodIsRead : Type 0
MethodIsRead = (signature_of (codes "(I[JLa/B;)V") ≡ Some (record {
  is_method = true;
  parameters = record { shape = shape.Int; name = [] } ∷ record { shape = shape.Array; name = codes "[J" } ∷ record { shape = shape.Class; name = codes "a/B" } ∷ [];
  answer = None;
})) × (method_slots (codes "(I[JLa/B;)V") ≡ Some 3)

-- [[La/B; is an array's type, whose name is the whole descriptor
abbrev pub FieldIsRead : Type 0
FieldIsRead = signature_of (codes "[[La/B;") ≡ Some (record { is_method = false; parameters = []; answer = Some (record { shape = shape.Array; name = codes "[[La/B;" }) })

-- void is no field's type, a type ends where it ends, and each part of a class's name has a byte
abbrev pub FaultsAreFound : Type 0
FaultsAreFound = (signature_of (codes "V") ≡ None) × (signature_of (codes "II") ≡ None) × (signature_of (codes "La//b;") ≡ None) × (signature_of (codes "()") ≡ None) × (signature_of [] ≡ None)

-- ([IJ)La/B; spells a method that takes an array of int and a long and answers an a/B
abbrev pub MethodIsSpelled : Type 0
MethodIsSpelled = Spells (codes "([IJ)La/B;") (record {
  is_method = true;
  parameters = record { shape = shape.Array; name = codes "[I" } ∷ record { shape = shape.Long; name = [] } ∷ [];
  answer = Some (record { shape = shape.Class; name = codes "a/B" });
})

-- [[Z spells an array's type
abbrev pub FieldIsSpelled : Type 0
FieldIsSpelled = Spells (codes "[[Z") (record { is_method = false; parameters = []; answer = Some (record { shape = shape.Array; name = codes "[[Z" }) })

-- void alone, a type with a byte behind it, and a class with an empty part spell nothing
abbrev pub NothingIsSpelled : Type 0
NothingIsSpelled = (descriptor : Signature) → (¬ Spells (codes "V") descriptor) × (¬ Spells (codes "II") descriptor) × (¬ Spells (codes "La//b;") descriptor)
