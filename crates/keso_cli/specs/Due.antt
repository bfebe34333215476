-- The texts of a build as the code has them.
use Rattle.std.specs.Prelude.{◌≡◌, ℕ, List, Option, Some, None}
use Rattle.keso_cli.specs.declared.compile.Texts.{Texts}
use Rattle.first_form.specs.declared.built.Built.{Built}
use Rattle.first_form.specs.declared.config.FirstConfig.{FirstConfig}
use Rattle.first_form.specs.declared.first_class.FirstClass.{FirstClass}
use Rattle.first_form.specs.Program.{built_of}
use Rattle.keso_cli.specs.Texts.{Text, named}
use Rattle.csubset.specs.Text.Program.{program_text}
use Rattle.mapfile.specs.MapText.{map_text}
use Rattle.oil_out.specs.OilText.{oil_text}

-- each text with its file's name, in the order in which they are written
abbrev pub due : List ℕ → Texts → List Text
due base texts = named base texts.c.items texts.oil.items texts.map.items

pub record AreTextsOf (built : Built) (texts : Texts) : Type 0 where
  pub c : texts.c.items ≡ program_text built.program
  pub oil : texts.oil.items ≡ oil_text built.tables
  pub map : texts.map.items ≡ map_text built.map

-- the texts of an input, by what it says in the first form: there are some where it is of this form
abbrev pub AreMadeOf : Option (FirstConfig × FirstClass) → Option Texts → Type 0
AreMadeOf form None = form ≡ None
AreMadeOf form (Some texts) = (config : FirstConfig) × (class : FirstClass) × (form ≡ Some (config, class)) × AreTextsOf (built_of config class) texts
