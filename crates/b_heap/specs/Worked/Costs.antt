-- Worked examples of what objects take.
use Rattle.std.specs.Prelude.{◌≡◌, [], ◌∷◌, Some, None}
use Rattle.jnames.specs.declared.shape.Shape.TheVariants as shape
use Rattle.b_heap.specs.Objects.{object_cost, array_cost}
use Rattle.b_heap.specs.Heap.{allocated, instance_of}
use Rattle.b_heap.specs.Worked.Files.{files}

-- the boolean and the int of P take 5 bytes, which count as 8; the long and the char of Q take 10, which count as 16
abbrev pub LevelsAreRounded : Type 0
LevelsAreRounded = (object_cost files 0 ≡ 8) × (object_cost files 5 ≡ 16) × (object_cost files 4 ≡ 32)

abbrev pub ArraysAreRounded : Type 0
ArraysAreRounded = (array_cost shape.Int 0 ≡ 8) × (array_cost shape.Byte 3 ≡ 16) × (array_cost shape.Long 2 ≡ 24) × (array_cost shape.Class 3 ≡ 24)

-- in a heap of 16 bytes there is room for one P and nothing more
abbrev pub RoomEnds : Type 0
RoomEnds =
    (allocated (record { left = 16; objects = [] }) (object_cost files 5) (instance_of files 5) ≡ Some (0, record { left = 0; objects = instance_of files 5 ∷ [] }))
    × (allocated (record { left = 15; objects = [] }) (object_cost files 5) (instance_of files 5) ≡ None)
