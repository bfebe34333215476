-- What was made of classes and a configuration: a world, and the configuration bound to it.
use Rattle.std.proofs.Common.{◌≡◌, true, false, true≢false, List, Option, Some, None, Result, Ok, Err, refl, sym, ap}
use Rattle.std.specs.Result.{is_err}
use Rattle.classfile.specs.ClassFile.{ClassInfo}
use Rattle.jworld.specs.Classes.{World}
use Rattle.jworld.specs.Faults.{unless, world_fault, world_of}
use Rattle.kes_text.specs.declared.refusal.Refusal.{Refusal}
use Rattle.kes_text.specs.declared.refusal.Stop.{Stop}
use Rattle.kes_text.specs.declared.refusal.Stop.TheVariants.{Refused}

abbrev world_in : Result World Stop → World → World
world_in (Ok world) other = world
world_in (Err stop) other = other

abbrev refused_for : Result World Stop → Refusal → Refusal
refused_for (Err (Refused fault)) other = fault
refused_for _ other = other

is_world_of : (files : List ClassInfo) (fault : Option Refusal) (world : World) → Ok world ≡ unless fault files → (world ≡ files) × (fault ≡ None)
is_world_of files None world e = (ap (λ answer. world_in answer world) e, refl)
is_world_of files (Some fault) world e = absurd (true≢false (ap is_err (sym e)))

is_fault_of : (files : List ClassInfo) (fault : Option Refusal) (r : Refusal) → Err (Refused r) ≡ unless fault files → fault ≡ Some r
is_fault_of files None r e = absurd (true≢false (ap is_err e))
is_fault_of files (Some fault) r e = ap Some (sym (ap (λ answer. refused_for answer r) e))

pub is_world : (files : List ClassInfo) (world : World) → Ok world ≡ world_of files → world ≡ files
is_world files world e = (is_world_of files (world_fault files) world e).0

pub is_faultless : (files : List ClassInfo) (world : World) → Ok world ≡ world_of files → world_fault files ≡ None
is_faultless files world e = (is_world_of files (world_fault files) world e).1

pub is_fault : (files : List ClassInfo) (r : Refusal) → Err (Refused r) ≡ world_of files → world_fault files ≡ Some r
is_fault files r e = is_fault_of files (world_fault files) r e
