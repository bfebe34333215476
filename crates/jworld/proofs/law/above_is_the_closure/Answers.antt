use Rattle.jworld.specs.Classes.{count}
use Rattle.jworld.specs.Above.{supers_of, is_above}
use Rattle.jworld.proofs.Ways.{Way-is_leads}
use Rattle.jworld.proofs.NoSupers.{supers_past}
use Rattle.jworld.proofs.law.above_is_the_closure.Goals as goal

pub returns : goal.returns
unfolding is_above
returns c = λ files class above. Way-is_leads (supers_of files) (count files) (supers_past files) class above
