-- Which methods run: the least set of pairs of a domain and a method with code that has the initialisers and the tasks'
-- entries, and with a method the targets of its calls in the same domain.
use Rattle.std.specs.Prelude.{◌≡◌, ◌&&◌, List, [], Option, Some, None, Contains, is_some, is_none, if◌then◌else◌}
use Rattle.osek_core.specs.Bytecode.World.{Instruction, InvokeStatic, Located, Member}
use Rattle.osek_core.specs.Bytecode.Application.{Application, TaskPlace, Reached, code_of, entry_of, service_of}

-- the target of a call: a method with code, which is bound to no service
abbrev pub target_of : Application → Instruction → Option Member
target_of app (InvokeStatic method) =
    if is_none (service_of app.config method) && is_some (code_of app.world method) then Some method else None
target_of app other = None

abbrev pub instructions_of : Application → Member → List Located
instructions_of app method = elim (code_of app.world method) [ None ↦ [] | Some code ↦ code.instructions ]

pub data IsReached (app : Application) : Reached → Type 0 where
  Initialiser : (method : Reached) → Contains app.initialisers method → IsReached app method
  Entry : (task : TaskPlace) (method : Reached) → Contains app.config.tasks task → entry_of app.world task ≡ Some method → IsReached app method
  Target : (caller : Reached) (call : Located) (method : Member) → IsReached app caller
      → Contains (instructions_of app caller.method) call → target_of app call.instruction ≡ Some method
      → IsReached app (record { domain = caller.domain; method = method })
