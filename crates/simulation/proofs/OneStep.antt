-- A step of either run, where the innermost frame is the only one, is that of its statement or instruction.
use Rattle.std.proofs.Common.{◌≡◌, [], ◌∷◌, Some, refl}
use Rattle.osek_core.specs.declared.event.Who.{Who}
use Rattle.osek_core.specs.Bytecode.World as world
use Rattle.osek_core.specs.Bytecode.Application.{Application, code_of}
use Rattle.osek_core.specs.Bytecode.State as bytecode
use Rattle.osek_core.specs.Bytecode.Step as bytecode_step
use Rattle.osek_core.specs.Bytecode.Instruction as instruction
use Rattle.csubset.specs.declared.statement.Form.{Form}
use Rattle.csubset.specs.declared.program.CFunction.{CFunction}
use Rattle.csubset.specs.Machine.Application.{CApplication, function_at, form_in}
use Rattle.csubset.specs.Machine.State as c
use Rattle.csubset.specs.Machine.Statement as statement
use Rattle.csubset.specs.Machine.Step as c_step

pub c_step_is : (app : CApplication) (who : Who) (actor : c.Actor) (s : c.Shared) (f : c.Frame) (function : CFunction) (form : Form) → actor.frames ≡ f ∷ [] → function_at app.program f.function ≡ Some function → form_in function f.place ≡ Some form → c_step.step app who actor s ≡ c_step.settle app who actor s f [] (statement.execute app function s f.words form)
c_step_is app who actor s f function form frames there stands = rw (frames, there, stands) refl

pub bytecode_step_is : (app : Application) (who : Who) (actor : bytecode.Actor) (s : bytecode.Shared) (f : bytecode.Frame) (code : world.Code) (i : world.Instruction) → actor.frames ≡ f ∷ [] → code_of app.world f.method ≡ Some code → bytecode_step.instruction_at code.instructions f.pc ≡ Some i → bytecode_step.step app who actor s ≡ bytecode_step.settle app who actor s code.instructions f [] (instruction.execute app s f i)
bytecode_step_is app who actor s f code i frames there stands = rw (frames, there, stands) refl

-- behind the return of its entry
pub c_end_is : (app : CApplication) (who : Who) (actor : c.Actor) (s : c.Shared) → actor.frames ≡ [] → c_step.step app who actor s ≡ c_step.end_of_job app who actor s actor.refused
c_end_is app who actor s frames = rw frames refl

pub bytecode_end_is : (app : Application) (who : Who) (actor : bytecode.Actor) (s : bytecode.Shared) → actor.frames ≡ [] → bytecode_step.step app who actor s ≡ bytecode_step.end_of_job app who actor s actor.refused
bytecode_end_is app who actor s frames = rw frames refl
