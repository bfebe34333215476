-- An input that is taken: a configuration that is bound to a world of classes, in which nothing that is reached is refused.
use Rattle.std.specs.Prelude.{◌≡◌, ℕ, List, map, None, Ok}
use Rattle.classfile.specs.ClassFile.{ClassInfo}
use Rattle.classfile.specs.Reading.{class_file}
use Rattle.jworld.specs.Faults.{world_fault}
use Rattle.kbind.specs.declared.bound.Bound.{Bound}
use Rattle.kbind.specs.Bound.{bound_of}
use Rattle.first_form.specs.Configuration.{configuration}
use Rattle.keso_cli.specs.Refusals.{reach_refusal}

-- a configuration and classes without a fault, which are a world to which it is bound
pub record IsBoundTo (text : List ℕ) (files : List (List ℕ)) (bound : Bound) (classes : List ClassInfo) : Type 0 where
  pub config_is : configuration text ≡ Ok bound.config
  pub classes_are : map class_file files ≡ map Ok classes
  pub are_world : world_fault classes ≡ None
  pub is_bound : bound_of classes bound.config ≡ Ok bound

pub record IsTaken (text : List ℕ) (files : List (List ℕ)) (bound : Bound) (classes : List ClassInfo) : Type 0 where
  pub bound_to : IsBoundTo text files bound classes
  -- neither a method that is reached nor a call
  pub are_reached : reach_refusal classes bound ≡ None
