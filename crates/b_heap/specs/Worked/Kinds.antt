-- Worked examples of the types of objects.
use Rattle.std.specs.Prelude.{◌≡◌, [], ◌∷◌, codes, true, false}
use Rattle.jnames.specs.declared.shape.Shape.TheVariants as shape
use Rattle.values.specs.declared.value.Value.TheVariants as value
use Rattle.b_heap.specs.Heap.{HeapInfo, instance_of, array_of}
use Rattle.b_heap.specs.Types.{is_instance, may_hold}
use Rattle.b_heap.specs.Worked.Files.{files}

-- a P, a Q, and arrays of one Q and of one P
abbrev pub heap : HeapInfo
heap = record {
  left = 0;
  objects = instance_of files 5 ∷ instance_of files 4 ∷ array_of (record { shape = shape.Class; name = codes "Q" }) 1 ∷ array_of (record { shape = shape.Class; name = codes "P" }) 1 ∷ [];
}

abbrev pub ObjectsHaveTypes : Type 0
ObjectsHaveTypes =
    (is_instance files heap 1 (codes "P") ≡ true) × (is_instance files heap 0 (codes "Q") ≡ false) × (is_instance files heap 2 (codes "[LP;") ≡ true) × (is_instance files heap 3 (codes "[LQ;") ≡ false)
    × (is_instance files heap 3 (codes "java/lang/Cloneable") ≡ true) × (is_instance files heap 4 (codes "java/lang/Object") ≡ false)

-- a Q goes into an array of P, a P not into one of Q, and null into each
abbrev pub ArraysHoldWhatFits : Type 0
ArraysHoldWhatFits =
    (may_hold files heap 3 (value.Object 1) ≡ true) × (may_hold files heap 2 (value.Object 0) ≡ false) × (may_hold files heap 2 (value.Object 1) ≡ true) × (may_hold files heap 2 value.Null ≡ true)
    × (may_hold files heap 0 (value.Object 1) ≡ false) × (may_hold files heap 3 (value.Object 2) ≡ false)
