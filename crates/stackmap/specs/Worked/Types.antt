-- Worked examples of verification types (JVMS SE 8, 4.7.4).
use Rattle.std.specs.Prelude.{◌≡◌, List, [], ◌∷◌, codes}
use Rattle.stackmap.specs.declared.vtype.VType.TheVariants.{Top, Integer, Float, Double, Long, Null, UninitThis, Object, Uninit}
use Rattle.stackmap.specs.Worked.Tables.{Says, declared}

-- tags from 0 to 8
abbrev pub EachTagHasItsType : Type 0
EachTagHasItsType =
    Says (0 ∷ 1 ∷ 255 ∷ 0 ∷ 0 ∷ 0 ∷ 9 ∷ 0 ∷ 1 ∷ 2 ∷ 3 ∷ 4 ∷ 5 ∷ 6 ∷ 7 ∷ 0 ∷ 2 ∷ 8 ∷ 1 ∷ 3 ∷ 0 ∷ 0 ∷ [])
    (declared 102 0 (Top ∷ Integer ∷ Float ∷ Double ∷ Long ∷ Null ∷ UninitThis ∷ Object (codes "C") ∷ Uninit 259 ∷ []) [] ∷ [])
