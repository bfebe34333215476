-- A world is made where its classes have no fault.
use Rattle.std.proofs.Common.{◌≡◌, Option, Some, None, Result, Ok, Err, refl, sym, ap, ◌∙◌}
use Rattle.kes_text.specs.declared.refusal.Refusal.{Refusal}
use Rattle.kes_text.specs.declared.refusal.Stop.{Stop}
use Rattle.kes_text.specs.declared.refusal.Stop.TheVariants.{Refused, NoMemory}
use Rattle.kes_text.specs.Answers.{OrNoMemory}
use Rattle.jworld.specs.Classes.{World}
use Rattle.jworld.specs.Fields.{or_else}
use Rattle.jworld.specs.Faults.{unless, first_of_files, duplicate_fault, misfit, world_fault, world_of}

module _ (files : World) where
  abbrev pub numbered : Result World Stop
  numbered = unless (first_of_files duplicate_fault files) files

  ended : (a b : Option Refusal) (stop : Stop) → OrNoMemory {A = World} (Err stop) (unless a files) → OrNoMemory {A = World} (Err stop) (unless (or_else a b) files)
  ended None b (Refused r) h = cc
  ended (Some x) b (Refused r) h = h
  ended a b NoMemory h = tt

  pub duplicate_ends : (stop : Stop) → OrNoMemory {A = World} (Err stop) numbered → OrNoMemory {A = World} (Err stop) (world_of files)
  unfolding world_fault
  duplicate_ends stop h = ended (first_of_files duplicate_fault files) (misfit files) stop h

  no_fault : (a : Option Refusal) (classes : World) → Ok classes ≡ unless a files → a ≡ None
  no_fault None classes h = refl
  no_fault (Some x) classes h = cc

  same_files : (a : Option Refusal) (classes : World) → Ok classes ≡ unless a files → classes ≡ files
  same_files None classes h = cc
  same_files (Some x) classes h = cc

  module _ (classes : World) (are : Ok classes ≡ numbered) where
    pub are_files : classes ≡ files
    are_files = same_files (first_of_files duplicate_fault files) classes are

    pub fault_is_misfit : (fault : Option Refusal) → fault ≡ misfit classes → fault ≡ world_fault files
    unfolding world_fault
    fault_is_misfit fault is = is ∙ ap misfit are_files ∙ sym (ap (λ f. or_else f (misfit files)) (no_fault (first_of_files duplicate_fault files) classes are))

    pub is_refused : (fault : Refusal) → Some fault ≡ misfit classes → Err (Refused fault) ≡ world_of files
    is_refused fault is = ap (λ f. unless f files) (fault_is_misfit (Some fault) is)

    pub is_world : None ≡ misfit classes → Ok classes ≡ world_of files
    is_world is = ap Ok are_files ∙ ap (λ f. unless f files) (fault_is_misfit None is)

    pub is_faultless : None ≡ misfit classes → world_fault classes ≡ None
    is_faultless is = ap world_fault are_files ∙ sym (fault_is_misfit None is)
