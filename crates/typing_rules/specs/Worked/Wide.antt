-- Worked examples of longs, which take two places and two slots.
use Rattle.std.specs.Prelude.{◌≡◌, [], ◌∷◌, Some, None}
use Rattle.jcode.specs.declared.op.Op.TheVariants as op
use Rattle.stackmap.specs.declared.vtype.VType.TheVariants.{Top, Integer, Long}
use Rattle.typing_rules.specs.Outcome.{outcome}
use Rattle.typing_rules.specs.Worked.Setting.{run, state}

-- a pop of one place, or of two that end within a long, is refused; so is a swap with a long
abbrev pub LongsAreNotSplit : Type 0
LongsAreNotSplit =
    (outcome run 0 op.Pop (state [] (Long ∷ [])) ≡ None) × (outcome run 0 op.Pop2 (state [] (Integer ∷ Long ∷ [])) ≡ None) × (outcome run 0 op.Swap (state [] (Integer ∷ Long ∷ [])) ≡ None)
    × (outcome run 0 op.Pop2 (state [] (Long ∷ [])) ≡ Some (state [] [])) × (outcome run 0 op.Pop2 (state [] (Integer ∷ Integer ∷ [])) ≡ Some (state [] []))
    × (outcome run 0 op.Dup2X1 (state [] (Long ∷ Integer ∷ [])) ≡ Some (state [] (Long ∷ Integer ∷ Long ∷ [])))

-- a store into one slot of a long takes the other with it, so that the long is loaded no more
abbrev pub HalvesAreLost : Type 0
HalvesAreLost =
    (outcome run 0 (op.StoreI 1) (state (Long ∷ Top ∷ []) (Integer ∷ [])) ≡ Some (state (Top ∷ Integer ∷ []) []))
    × (outcome run 0 (op.StoreI 0) (state (Long ∷ Top ∷ []) (Integer ∷ [])) ≡ Some (state (Integer ∷ Top ∷ []) []))
    × (outcome run 0 (op.StoreL 0) (state (Integer ∷ Long ∷ Top ∷ []) (Long ∷ [])) ≡ Some (state (Long ∷ Top ∷ Top ∷ []) []))
    × (outcome run 0 (op.LoadL 0) (state (Long ∷ Top ∷ []) []) ≡ Some (state (Long ∷ Top ∷ []) (Long ∷ []))) × (outcome run 0 (op.LoadL 0) (state (Top ∷ Integer ∷ []) []) ≡ None)
