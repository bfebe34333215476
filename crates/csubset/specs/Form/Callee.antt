-- Callee: a call of a function that isn't there or takes another number of arguments. StartupHook's calls and the KTASK
-- lines call without arguments, and count as the statements of one more function behind the others.
use Rattle.std.specs.Prelude.{ℕ, Bool, false, not, List, ◌++◌, map, length, nat_eq, Option, Some, None, slice_get}
use Rattle.csubset.specs.declared.statement.Form.{Form}
use Rattle.csubset.specs.declared.statement.Form.TheVariants.{Call}
use Rattle.csubset.specs.declared.program.CFunction.{CFunction}
use Rattle.csubset.specs.declared.program.CProgram.{CProgram}
use Rattle.csubset.specs.Machine.Application.{function_at}
use Rattle.csubset.specs.Form.Jump.{at_form}

-- the function is there and takes so many arguments
abbrev pub takes : CProgram → ℕ → ℕ → Bool
takes program n arguments = given (function_at program n)
  where
    given : Option CFunction → Bool
    given None = false
    given (Some function) = nat_eq function.parameters arguments

abbrev pub callee_fault : CProgram → CFunction → ℕ → Bool
callee_fault program function place = at_form function place false of_form
  where
    of_form : Form → Bool
    of_form (Call to n arguments) = not (takes program n (length arguments))
    of_form form = false

-- the functions that are called by StartupHook, and then those of the KTASK lines
abbrev pub last_calls : CProgram → List ℕ
last_calls program = program.starts ++ map (λ line. line.function) program.task_lines

abbrev pub last_callee_fault : CProgram → ℕ → Bool
last_callee_fault program k = of_call (slice_get (last_calls program) k)
  where
    of_call : Option ℕ → Bool
    of_call None = false
    of_call (Some n) = not (takes program n 0)
