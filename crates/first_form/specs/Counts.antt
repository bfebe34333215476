-- What the four lines count of the methods that are reached.
use Rattle.std.specs.Prelude.{◌≡◌, ◌≢◌, ◌↔◌, ℕ, List, Contains, AllPairs, length, map, count_by, sum_by, is_some}
use Rattle.osek_core.specs.Bytecode.World.{Member}
use Rattle.osek_core.specs.Bytecode.Application.{Application, Reached}
use Rattle.first_form.specs.declared.counts.Summary.{Summary}
use Rattle.first_form.specs.Reach.{IsReached, instructions_of, target_of}

-- calls with a target
abbrev pub direct_calls_in : Application → Member → ℕ
direct_calls_in app method = count_by (λ located. is_some (target_of app located.instruction)) (instructions_of app method)

-- The list has what is reached and nothing else, each once.
pub record AreReached (app : Application) (reached : List Reached) : Type 0 where
  pub are : (method : Reached) → IsReached app method ↔ Contains reached method
  pub once : AllPairs (λ one another. one ≢ another) reached

pub record CountsReached (app : Application) (summary : Summary) : Type 0 where
  pub reached : List Reached
  pub all : AreReached app reached
  -- the methods that events name by their number
  pub named : app.methods ≡ map (λ r. r.method) reached
  pub methods : summary.methods ≡ length reached
  pub direct_calls : summary.direct_calls ≡ sum_by (λ r. direct_calls_in app r.method) reached

-- one method, no check, and no call of a method
abbrev pub first_summary : Summary
first_summary = record { methods = 1; checks_kept = 0; checks_removed = 0; direct_calls = 0 }
