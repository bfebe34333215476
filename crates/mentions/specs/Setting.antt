-- What is looked at: a configuration that is bound to a world of classes.
use Rattle.jworld.specs.Classes.{World}
use Rattle.kbind.specs.declared.bound.Bound.{Bound}

pub record Setting : Type 0 where
  pub files : World
  pub bound : Bound
