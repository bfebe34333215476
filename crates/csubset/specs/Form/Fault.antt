-- The faults of a program's form, in their order: by function, then by statement, then by kind.
use Rattle.std.specs.Prelude.{◌≡◌, ◌<◌, ◌≤◌, ◌⊎◌, ℕ, Bool, true, length, Some}
use Rattle.csubset.specs.declared.program.CFunction.{CFunction}
use Rattle.csubset.specs.declared.program.CProgram.{CProgram}
use Rattle.csubset.specs.Machine.Application.{function_at}
use Rattle.csubset.specs.Form.Label.{label_fault}
use Rattle.csubset.specs.Form.Word.{word_fault}
use Rattle.csubset.specs.Form.Callee.{callee_fault, last_callee_fault}
use Rattle.csubset.specs.Form.Region.{region_fault}
use Rattle.csubset.specs.Form.Section.{section_fault}
use Rattle.csubset.specs.Form.Falls.{falls_fault}
use Rattle.csubset.specs.Form.Cycle.{CycleFault}

pub data FormKind : Type 0 where
  Label : FormKind
  Word : FormKind
  Callee : FormKind
  Region : FormKind
  Section : FormKind
  Falls : FormKind
  Cycle : FormKind

-- the kinds' order within one statement
abbrev pub rank : FormKind → ℕ
rank Label = 0
rank Word = 1
rank Callee = 2
rank Region = 3
rank Section = 4
rank Falls = 5
rank Cycle = 6

-- a function of this number is there, and the test stands of it
abbrev pub InFunction : CProgram → ℕ → (CFunction → Bool) → Type 0
InFunction program n test = (function : CFunction) × ((function_at program n ≡ Some function) × (test function ≡ true))

-- the program shows a fault of this kind at this statement of function n
abbrev pub Shows : CProgram → FormKind → ℕ → ℕ → Type 0
Shows program Label n place = InFunction program n (λ function. label_fault function place)
Shows program Word n place = InFunction program n (λ function. word_fault function place)
Shows program Callee n place =
    InFunction program n (λ function. callee_fault program function place)
    ⊎ ((n ≡ length program.functions) × (last_callee_fault program place ≡ true))
Shows program Region n place = InFunction program n (λ function. region_fault program function place)
Shows program Section n place = InFunction program n (λ function. section_fault function place)
Shows program Falls n place = InFunction program n (λ function. falls_fault function place)
Shows program Cycle n place = CycleFault program n place

-- a program in form shows no fault
abbrev pub IsInForm : CProgram → Type 0
IsInForm program = (kind : FormKind) (n place : ℕ) → Shows program kind n place → ⊥

-- one fault stands before another one, or is the same
abbrev pub NotBehind : FormKind → ℕ → ℕ → FormKind → ℕ → ℕ → Type 0
NotBehind kind n place other m at =
    (n < m) ⊎ ((n ≡ m) × ((place < at) ⊎ ((place ≡ at) × (rank kind ≤ rank other))))

pub record IsFirstFault (program : CProgram) (kind : FormKind) (n place : ℕ) : Type 0 where
  pub shows : Shows program kind n place
  pub first : (other : FormKind) (m at : ℕ) → Shows program other m at → NotBehind kind n place other m at
