-- Worked examples of where fields stand, and what static fields hold at first.
use Rattle.std.specs.Prelude.{◌≡◌, [], ◌∷◌, Some, None, false, pos}
use Rattle.jnames.specs.declared.shape.Shape.TheVariants as shape
use Rattle.jworld.specs.Members.{field_id}
use Rattle.values.specs.declared.value.Value.TheVariants as value
use Rattle.b_heap.specs.Places.{place_of}
use Rattle.b_heap.specs.Statics.{first_statics, static_value}
use Rattle.b_heap.specs.Worked.Files.{files}

-- in a Q the fields of P stand first
abbrev pub SuperclassComesFirst : Type 0
SuperclassComesFirst =
    (place_of files (field_id 5 1) ≡ Some (record { at = 0; shape = shape.Bool; is_static = false })) × (place_of files (field_id 5 2) ≡ Some (record { at = 1; shape = shape.Int; is_static = false }))
    × (place_of files (field_id 4 0) ≡ Some (record { at = 2; shape = shape.Long; is_static = false })) × (place_of files (field_id 4 2) ≡ Some (record { at = 3; shape = shape.Char; is_static = false }))
    × (place_of files (field_id 4 3) ≡ None)

-- the byte s keeps 44 of its constant 300
abbrev pub ConstantsAreKept : Type 0
ConstantsAreKept =
    (first_statics files ≡ value.Null ∷ value.Int (pos 44) ∷ []) × (static_value files (first_statics files) (field_id 5 0) ≡ Some (value.Int (pos 44)))
    × (static_value files (first_statics files) (field_id 5 1) ≡ None)
