-- What a code decodes to. Its first fault is the first in code order that an instruction has by itself, and if there is
-- none the first jump in code order that has a target where no instruction begins.
use Rattle.std.specs.Prelude.{ℕ, Bool, List, [], ◌∷◌, map, Option, Some, None, Result, Ok, ◌==◌, if◌then◌else◌}
use Rattle.std.specs.List.{list_all, list_any}
use Rattle.kes_text.specs.declared.refusal.Kind.TheVariants as kind
use Rattle.kes_text.specs.declared.refusal.Stop.{Stop}
use Rattle.jcode.specs.declared.op.Op.{Op}
use Rattle.jcode.specs.declared.op.Op.TheVariants.{IfZero, IfInt, IfRef, IfNull, Goto, Switch}
use Rattle.jcode.specs.declared.op.Ins.{Ins}
use Rattle.jcode.specs.Code.{refused, instructions_from}
use Rattle.jcode.specs.Pool.{Pool}
use Rattle.jcode.specs.Reading.{◌>>=◌}

-- where an operation may jump to
abbrev pub targets : Op → List ℕ
targets (IfZero test to) = to ∷ []
targets (IfInt test to) = to ∷ []
targets (IfRef equal to) = to ∷ []
targets (IfNull null to) = to ∷ []
targets (Goto to) = to ∷ []
targets (Switch cases other) = other ∷ map (λ case. case.1) cases
targets _ = []

-- whether an instruction begins at a place
abbrev pub begins_at : List Ins → ℕ → Bool
begins_at code place = list_any (λ ins. ins.pc == place) code

-- whether an operation jumps to beginnings of instructions alone
abbrev pub lands : (ℕ → Bool) → Op → Bool
lands begins op = list_all begins (targets op)

-- the first instruction that doesn't
abbrev pub first_wild : (ℕ → Bool) → List Ins → Option ℕ
first_wild begins [] = None
first_wild begins (ins ∷ code) = if lands begins ins.op then first_wild begins code else Some ins.pc

abbrev pub landed : ℕ → List Ins → Option ℕ → Result (List Ins) Stop
landed base code None = Ok code
landed base code (Some pc) = refused base kind.Jump pc

unfoldable pub decoded : Pool → ℕ → List ℕ → Result (List Ins) Stop
decoded pool base bytes = do
  code ← instructions_from pool base 0 0 bytes
  landed base code (first_wild (begins_at code) code)
