-- Worked examples of reference types.
use Rattle.std.specs.Prelude.{◌≡◌, codes, true, false}
use Rattle.jworld.specs.Subtype.{is_subtype}
use Rattle.jworld.specs.Worked.Files.{ladder}

abbrev pub ClassesFit : Type 0
ClassesFit =
    (is_subtype ladder (codes "q/B") (codes "p/I") ≡ true) × (is_subtype ladder (codes "p/I") (codes "java/lang/Object") ≡ true) × (is_subtype ladder (codes "p/A") (codes "p/A") ≡ true)
    × (is_subtype ladder (codes "p/A") (codes "q/B") ≡ false) × (is_subtype ladder (codes "p/A") (codes "[I") ≡ false)

-- an array is an Object, and one of what its items are
abbrev pub ArraysFit : Type 0
ArraysFit =
    (is_subtype ladder (codes "[Lq/B;") (codes "[Lp/I;") ≡ true) × (is_subtype ladder (codes "[Lp/I;") (codes "[Lq/B;") ≡ false) × (is_subtype ladder (codes "[I") (codes "java/lang/Object") ≡ true)
    × (is_subtype ladder (codes "[I") (codes "java/lang/Cloneable") ≡ true) × (is_subtype ladder (codes "[I") (codes "p/I") ≡ false)

-- an array of int is no Object's array, but an array of such arrays is
abbrev pub ArraysOfArraysFit : Type 0
ArraysOfArraysFit =
    (is_subtype ladder (codes "[I") (codes "[I") ≡ true) × (is_subtype ladder (codes "[I") (codes "[J") ≡ false) × (is_subtype ladder (codes "[I") (codes "[Ljava/lang/Object;") ≡ false)
    × (is_subtype ladder (codes "[[I") (codes "[Ljava/lang/Object;") ≡ true) × (is_subtype ladder (codes "[[Lq/B;") (codes "[[Lp/A;") ≡ true) × (is_subtype ladder (codes "[Lq/B;") (codes "[[Lq/B;") ≡ false)
