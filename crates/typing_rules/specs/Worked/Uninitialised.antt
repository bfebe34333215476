-- Worked examples of objects that aren't initialised yet.
use Rattle.std.specs.Prelude.{◌≡◌, [], ◌∷◌, Some, None}
use Rattle.jcode.specs.declared.op.Op.TheVariants as op
use Rattle.stackmap.specs.declared.vtype.VType.TheVariants.{Null, UninitThis, Uninit}
use Rattle.typing_rules.specs.Outcome.{outcome}
use Rattle.typing_rules.specs.Worked.Setting.{run, constructor, state, an_a}

-- where an A is wanted, one that isn't initialised is refused
abbrev pub UninitialisedIsNotPassed : Type 0
UninitialisedIsNotPassed =
    (outcome run 3 (op.InvokeStatic 6) (state [] (Uninit 0 ∷ [])) ≡ None) × (outcome constructor 3 (op.InvokeStatic 6) (state [] (UninitThis ∷ [])) ≡ None)
    × (outcome run 3 (op.InvokeStatic 6) (state [] (an_a ∷ [])) ≡ Some (state [] [])) × (outcome run 3 (op.InvokeStatic 6) (state [] (Null ∷ [])) ≡ Some (state [] []))

-- its constructor initialises it wherever it stands, and no constructor of another class does
abbrev pub ConstructorsInitialise : Type 0
ConstructorsInitialise =
    (outcome run 3 (op.InvokeSpecial 10) (state (Uninit 0 ∷ []) (Uninit 0 ∷ Uninit 0 ∷ [])) ≡ Some (state (an_a ∷ []) (an_a ∷ [])))
    × (outcome run 3 (op.InvokeSpecial 13) (state [] (Uninit 0 ∷ [])) ≡ None) × (outcome run 3 (op.InvokeSpecial 10) (state [] (an_a ∷ [])) ≡ None)

-- a constructor that calls no other doesn't return
abbrev pub ThisIsInitialised : Type 0
ThisIsInitialised =
    (outcome constructor 3 op.Return (state (UninitThis ∷ []) []) ≡ None)
    × (outcome constructor 3 (op.InvokeSpecial 13) (state (UninitThis ∷ []) (UninitThis ∷ [])) ≡ Some (state (an_a ∷ []) []))
    × (outcome constructor 3 op.Return (state (an_a ∷ []) []) ≡ Some (state (an_a ∷ []) []))
