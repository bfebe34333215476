-- Completeness: what is asked for of an input that can be read and for which there is no refusal, where no count of faults
-- rose, is done, or memory was wanting.
use Rattle.std.specs.Prelude.{◌≡◌, ◌⊎◌, ℕ, List, Option, Some, None, map, ⊤}
use Rattle.std.specs.FinMap.{get}
use Rattle.kes_outside.specs.Contents.{Contents}
use Rattle.kes_outside.specs.Count.{Rose}
use Rattle.keso_cli.specs.declared.status.Status.{Status}
use Rattle.keso_cli.specs.declared.status.Status.TheVariants.{Ok, NoMemory}
use Rattle.keso_cli.specs.Refusals.{refusal_of}
use Rattle.keso_cli.specs.Request.{Request, Build, Trace}
use Rattle.keso_cli.specs.Seen.{FilesSeen}
use Rattle.keso_cli.specs.Stands.{Outside}
use Rattle.keso_cli.specs.TraceEnds.{TraceNames, trace_names}
use Rattle.keso_cli.specs.Traced.{trace_refusal}

-- It is told that the named files hold a configuration and classes for which there is no refusal.
pub record IsGiven (config : List ℕ) (classes : List (List ℕ)) (files : FilesSeen) : Type 0 where
  pub held : Contents
  pub told : files.contents ≡ Some held
  pub text : List ℕ
  pub bytes : List (List ℕ)
  pub config_is : get held config ≡ Some text
  pub classes_are : map (get held) classes ≡ map Some bytes
  pub accepted : refusal_of text bytes ≡ None

-- It is told that the named files hold a configuration, a script and classes for which there is no refusal.
pub record IsGivenToTrace (names : TraceNames) (files : FilesSeen) : Type 0 where
  pub held : Contents
  pub told : files.contents ≡ Some held
  pub text : List ℕ
  pub script : List ℕ
  pub bytes : List (List ℕ)
  pub config_is : get held names.config ≡ Some text
  pub script_is : get held names.script ≡ Some script
  pub classes_are : map (get held) names.classes ≡ map Some bytes
  pub accepted : trace_refusal names.config names.script names.classes text script bytes ≡ None

pub record NoneRose (before after : Outside) : Type 0 where
  pub files : Rose before.files.faults after.files.faults → ⊥
  pub out : Rose before.out.faults after.out.faults → ⊥

abbrev pub IsComplete : Status → Option Request → Outside → Outside → Type 0
IsComplete answer None before after = ⊤
IsComplete answer (Some (Build config classes base)) before after =
    IsGiven config classes before.files → NoneRose before after → (answer ≡ Ok) ⊎ (answer ≡ NoMemory)
IsComplete answer (Some (Trace config script classes)) before after =
    IsGivenToTrace (trace_names config script classes) before.files → NoneRose before after → (answer ≡ Ok) ⊎ (answer ≡ NoMemory)
