-- What an input of the first form has, as the proof of the headline uses it.
use Rattle.std.proofs.Common.{◌≡◌, true, false, Some, map}
use Rattle.std.specs.Prelude.{replicate}
use Rattle.osek_core.specs.declared.call.Call.TheVariants.{ActivateTask}
use Rattle.osek_core.specs.Bytecode.Application.{Whole, entry_of, code_of, service_of}
use Rattle.first_form.specs.declared.config.FirstConfig.{FirstConfig}
use Rattle.first_form.specs.declared.first_class.FirstClass.{FirstClass}
use Rattle.first_form.specs.Application.{application_of, world_of, located, native_member, entry_member}
use Rattle.first_form.specs.declared.first_class.held.Held.{Held}
use Rattle.first_form.specs.Operands.{runs}
use Rattle.first_form.proofs.Headline.Code.{ends, front, Rises}

-- at the entry
abbrev pub nothing_held : FirstClass → Held
nothing_held class = record { depth = 0; stored = replicate class.max_locals false }

pub record IsInput (config : FirstConfig) (class : FirstClass) : Type 0 where
  pub first : 0 ≡ front class.code
  pub rises : Rises class.code
  pub returns : ends class.code ≡ true
  pub fits : runs class.max_stack (nothing_held class) class.code ≡ true
  pub entry : entry_of (world_of class) (record { domain = 0; entry = config.entry }) ≡ Some (record { domain = 0; method = entry_member class })
  pub code : code_of (world_of class) (entry_member class) ≡ Some (record {
    max_stack = class.max_stack;
    max_locals = class.max_locals;
    instructions = map (located class) class.code;
  })
  pub service : service_of (application_of config class).config (native_member class) ≡ Some (Whole (ActivateTask 0))
