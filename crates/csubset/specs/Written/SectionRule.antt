-- The weights in interrupt sections: from SUSPEND to RESUME only FAIL weighs, and RESUME at most 1.
use Rattle.std.specs.Prelude.{◌≡◌, ℕ, Bool, true, not, ◌||◌, nat_eq, nat_le, Some}
use Rattle.csubset.specs.declared.statement.Form.{Form}
use Rattle.csubset.specs.declared.statement.Form.TheVariants.{Fail, Suspend, Resume}
use Rattle.csubset.specs.declared.program.CFunction.{CFunction}
use Rattle.csubset.specs.declared.program.CProgram.{CProgram}
use Rattle.csubset.specs.declared.map.Map.{Map}
use Rattle.csubset.specs.Machine.Application.{function_at, form_in}
use Rattle.csubset.specs.Form.Section.{in_section}
use Rattle.csubset.specs.Image.{weight_at}

-- a FAIL weighs 1 wherever it stands
abbrev pub weighs_rightly : CFunction → ℕ → ℕ → Form → Bool
weighs_rightly function place weight (Fail number) = nat_eq weight 1
weighs_rightly function place weight Suspend = nat_eq weight 0
weighs_rightly function place weight Resume = nat_le weight 1
weighs_rightly function place weight form = not (in_section function place) || nat_eq weight 0

abbrev pub MeetsSectionRule : CProgram → Map → Type 0
MeetsSectionRule program map =
    (n place : ℕ) (function : CFunction) (form : Form) → function_at program n ≡ Some function → form_in function place ≡ Some form
    → weighs_rightly function place (weight_at map n place) form ≡ true
