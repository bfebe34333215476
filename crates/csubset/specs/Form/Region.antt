-- Region: an access of a region that isn't there.
use Rattle.std.specs.Prelude.{ℕ, Bool, false, length, nat_le}
use Rattle.csubset.specs.declared.statement.Form.{Form}
use Rattle.csubset.specs.declared.statement.Form.TheVariants.{Load, Store}
use Rattle.csubset.specs.declared.program.CFunction.{CFunction}
use Rattle.csubset.specs.declared.program.CProgram.{CProgram}
use Rattle.csubset.specs.Form.Jump.{at_form}

abbrev pub region_fault : CProgram → CFunction → ℕ → Bool
region_fault program function place = at_form function place false of_form
  where
    of_form : Form → Bool
    of_form (Load to width region at) = nat_le (length program.regions) region
    of_form (Store width region at value) = nat_le (length program.regions) region
    of_form form = false
