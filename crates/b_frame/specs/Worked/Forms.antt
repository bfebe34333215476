-- Worked examples of pop, dup and swap: each form of the standard (JVMS SE 8, 6.5). The top stands first; a, b, c and d are no longs.
use Rattle.std.specs.Prelude.{◌≡◌, pos, [], ◌∷◌, None}
use Rattle.values.specs.declared.value.Value.{Value}
use Rattle.values.specs.declared.value.Value.TheVariants.{Int, Long, Null, Object}
use Rattle.jcode.specs.declared.op.Op.TheVariants as op
use Rattle.b_frame.specs.Worked.Setting.{step, goes_on}

abbrev pub a : Value
a = Int (pos 1)

abbrev pub b : Value
b = Null

abbrev pub c : Value
c = Object 3

abbrev pub d : Value
d = Int (pos 4)

abbrev pub l : Value
l = Long (pos 5)

abbrev pub m : Value
m = Long (pos 6)

abbrev pub Pops : Type 0
Pops =
    (step op.Pop (a ∷ b ∷ []) ≡ goes_on (b ∷ [])) × (step op.Pop2 (a ∷ b ∷ c ∷ []) ≡ goes_on (c ∷ [])) × (step op.Pop2 (l ∷ a ∷ []) ≡ goes_on (a ∷ []))
    × (step op.Pop (l ∷ []) ≡ None) × (step op.Pop2 (a ∷ l ∷ []) ≡ None)

abbrev pub Singles : Type 0
Singles =
    (step op.Dup (a ∷ b ∷ []) ≡ goes_on (a ∷ a ∷ b ∷ [])) × (step op.DupX1 (a ∷ b ∷ c ∷ []) ≡ goes_on (a ∷ b ∷ a ∷ c ∷ []))
    × (step op.DupX2 (a ∷ b ∷ c ∷ d ∷ []) ≡ goes_on (a ∷ b ∷ c ∷ a ∷ d ∷ [])) × (step op.DupX2 (a ∷ l ∷ b ∷ []) ≡ goes_on (a ∷ l ∷ a ∷ b ∷ []))
    × (step op.Swap (a ∷ b ∷ c ∷ []) ≡ goes_on (b ∷ a ∷ c ∷ [])) × (step op.Dup (l ∷ []) ≡ None) × (step op.DupX1 (a ∷ l ∷ []) ≡ None) × (step op.Swap (a ∷ l ∷ []) ≡ None)

abbrev pub Pairs : Type 0
Pairs =
    (step op.Dup2 (a ∷ b ∷ c ∷ []) ≡ goes_on (a ∷ b ∷ a ∷ b ∷ c ∷ [])) × (step op.Dup2 (l ∷ a ∷ []) ≡ goes_on (l ∷ l ∷ a ∷ []))
    × (step op.Dup2X1 (a ∷ b ∷ c ∷ d ∷ []) ≡ goes_on (a ∷ b ∷ c ∷ a ∷ b ∷ d ∷ [])) × (step op.Dup2X1 (l ∷ a ∷ b ∷ []) ≡ goes_on (l ∷ a ∷ l ∷ b ∷ []))
    × (step op.Dup2 (a ∷ l ∷ []) ≡ None) × (step op.Dup2X1 (l ∷ m ∷ []) ≡ None)

-- dup2_x2, forms 1 to 4
abbrev pub PairsUnderPairs : Type 0
PairsUnderPairs =
    (step op.Dup2X2 (a ∷ b ∷ c ∷ d ∷ []) ≡ goes_on (a ∷ b ∷ c ∷ d ∷ a ∷ b ∷ [])) × (step op.Dup2X2 (l ∷ a ∷ b ∷ []) ≡ goes_on (l ∷ a ∷ b ∷ l ∷ []))
    × (step op.Dup2X2 (a ∷ b ∷ l ∷ []) ≡ goes_on (a ∷ b ∷ l ∷ a ∷ b ∷ [])) × (step op.Dup2X2 (l ∷ m ∷ []) ≡ goes_on (l ∷ m ∷ l ∷ [])) × (step op.Dup2X2 (a ∷ b ∷ c ∷ []) ≡ None)
