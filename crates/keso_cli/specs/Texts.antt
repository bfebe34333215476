-- The texts that a build writes.
use Rattle.std.specs.Prelude.{ℕ, List, [], ◌∷◌, ◌++◌, codes}
use Rattle.std.specs.FinMap.{insert}
use Rattle.kes_outside.specs.Contents.{Contents}
use Rattle.first_form.specs.declared.built.Built.{Built}
use Rattle.csubset.specs.Text.Program.{program_text}
use Rattle.mapfile.specs.MapText.{map_text}
use Rattle.oil_out.specs.OilText.{oil_text}

-- a text, and the name of the file that it goes to
pub record Text : Type 0 where
  pub name : List ℕ
  pub bytes : List ℕ

-- three texts with their names, in the order in which they are written
abbrev pub named : List ℕ → List ℕ → List ℕ → List ℕ → List Text
named base c oil map =
    record { name = base ++ codes ".c"; bytes = c }
    ∷ record { name = base ++ codes ".oil"; bytes = oil }
    ∷ record { name = base ++ codes ".map"; bytes = map }
    ∷ []

-- BASE.c, BASE.oil and BASE.map
unfoldable pub texts_of : List ℕ → Built → List Text
texts_of base built = named base (program_text built.program) (oil_text built.tables) (map_text built.map)

-- the files once these texts are written, one after another
abbrev pub written : List Text → Contents → Contents
written [] files = files
written (text ∷ texts) files = written texts (insert files text.name text.bytes)
