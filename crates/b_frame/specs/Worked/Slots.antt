-- Worked examples of locals: an int is in slot 0, a long in slot 1 and null in slot 2.
use Rattle.std.specs.Prelude.{◌≡◌, pos, negsuc, [], ◌∷◌, Some, None}
use Rattle.values.specs.declared.value.Value.TheVariants.{Int, Long, Null, Object}
use Rattle.jcode.specs.declared.op.Op.TheVariants as op
use Rattle.b_frame.specs.Frames.{entered, called}
use Rattle.b_frame.specs.Stepped.{Next}
use Rattle.b_frame.specs.Worked.Setting.{frame, step, goes_on}

abbrev pub SlotsAreLoaded : Type 0
SlotsAreLoaded =
    (step (op.LoadI 0) [] ≡ goes_on (Int (pos 5) ∷ [])) × (step (op.LoadL 1) [] ≡ goes_on (Long (pos 6) ∷ [])) × (step (op.LoadA 2) [] ≡ goes_on (Null ∷ []))
    × (step (op.LoadI 1) [] ≡ None) × (step (op.LoadI 3) [] ≡ None) × (step op.ArrayLength (Null ∷ []) ≡ None)

-- a long is stored in its first slot alone, and an increment wraps
abbrev pub SlotsAreStored : Type 0
SlotsAreStored =
    (step (op.StoreL 0) (Long (pos 9) ∷ []) ≡ Some (Next (record { locals = Long (pos 9) ∷ Long (pos 6) ∷ Null ∷ []; operands = [] })))
    × (step (op.StoreA 2) (Object 4 ∷ Null ∷ []) ≡ Some (Next (record { locals = Int (pos 5) ∷ Long (pos 6) ∷ Object 4 ∷ []; operands = Null ∷ [] })))
    × (step (op.Inc 0 (negsuc 6)) [] ≡ Some (Next (record { locals = Int (negsuc 1) ∷ Long (pos 6) ∷ Null ∷ []; operands = [] }))) × (step (op.StoreI 3) (Int (pos 1) ∷ []) ≡ None)

-- of the topmost three operands a method with five slots has these; the first pushed is the first
abbrev pub ArgumentsTakeSlots : Type 0
ArgumentsTakeSlots =
    (called 3 5 (frame (Object 4 ∷ Long (pos 9) ∷ Int (pos 1) ∷ Null ∷ [])) ≡ Some (entered 5 (Int (pos 1) ∷ Long (pos 9) ∷ Object 4 ∷ [])))
    × (entered 5 (Int (pos 1) ∷ Long (pos 9) ∷ Object 4 ∷ []) ≡ record { locals = Int (pos 1) ∷ Long (pos 9) ∷ Int (pos 0) ∷ Object 4 ∷ Int (pos 0) ∷ []; operands = [] })
    × (called 2 2 (frame (Null ∷ [])) ≡ None)
