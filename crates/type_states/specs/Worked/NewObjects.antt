-- Worked examples of a new, at place 7.
use Rattle.std.specs.Prelude.{◌≡◌, [], ◌∷◌, Some, None}
use Rattle.stackmap.specs.declared.vtype.VType.TheVariants.{Top, Integer, Uninit}
use Rattle.type_states.specs.Uninit.{object_made}

-- where the new of a loop is come to again, what it made before is no operand, and in a local it is forgotten
abbrev pub OneOfEachNew : Type 0
OneOfEachNew =
    (object_made 7 (record { slots = Uninit 7 ∷ Uninit 3 ∷ Integer ∷ []; operands = Uninit 3 ∷ [] }) ≡ Some (record { slots = Top ∷ Uninit 3 ∷ Integer ∷ []; operands = Uninit 7 ∷ Uninit 3 ∷ [] }))
    × (object_made 7 (record { slots = []; operands = Integer ∷ Uninit 7 ∷ [] }) ≡ None)
