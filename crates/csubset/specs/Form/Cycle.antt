-- Cycle: a call from whose callee calls lead back to the function that it stands in.
use Rattle.std.specs.Prelude.{◌≡◌, ℕ, List, Some}
use Rattle.csubset.specs.declared.expression.Atom.{Atom}
use Rattle.csubset.specs.declared.statement.Form.TheVariants.{Call}
use Rattle.csubset.specs.declared.program.CProgram.{CProgram}
use Rattle.csubset.specs.Machine.Application.{form_at}

-- the statement at a place calls this function
pub record CallsAt (program : CProgram) (n place callee : ℕ) : Type 0 where
  pub to : ℕ
  pub arguments : List Atom
  pub call : form_at program n place ≡ Some (Call to callee arguments)

-- calls lead from one function to another, or it is the same
pub data CallsLead (program : CProgram) : ℕ → ℕ → Type 0 where
  Here : (n : ℕ) → CallsLead program n n
  Through : (n place callee m : ℕ) → CallsAt program n place callee → CallsLead program callee m → CallsLead program n m

abbrev pub CycleFault : CProgram → ℕ → ℕ → Type 0
CycleFault program n place = (callee : ℕ) × (CallsAt program n place callee × CallsLead program callee n)
