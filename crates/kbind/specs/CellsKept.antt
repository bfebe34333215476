-- What binding keeps beside the cell lines: their CLASSes, and their CLASSes with their FIELDs.
use Rattle.std.specs.Prelude.{◌≡◌, ℕ, List, map}
use Rattle.std.specs.List.{list_any}
use Rattle.kconfig.specs.declared.config.CellLine.{CellLine}
use Rattle.kbind.specs.Pairs.{is_among}
use Rattle.kbind.specs.Cells.{cell_parts, is_of}

-- the CLASS and the FIELD of each of these lines are among the pairs, and no others
abbrev pub ArePairs : List CellLine → List (List ℕ × List ℕ) → Type 0
ArePairs lines pairs = (class name : List ℕ) → is_among class name pairs ≡ list_any (is_of class name) lines

pub record AreCells (lines : List CellLine) (words : List (List ℕ)) (parts : List (List ℕ × List ℕ)) : Type 0 where
  pub classes : words ≡ map (λ line. (cell_parts line.field).0) lines
  pub pairs : ArePairs lines parts
