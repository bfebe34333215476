-- How a build leaves the files.
use Rattle.std.specs.Prelude.{◌≡◌, ℕ, List, ◌∷◌, ◌++◌, Some, None, IfSome, IsSomeAnd, ◌⊎◌}
use Rattle.std.specs.FinMap.{get, insert}
use Rattle.kes_outside.specs.Contents.{OthersStay}
use Rattle.kes_outside.specs.Count.{Rose}
use Rattle.keso_cli.specs.Texts.{Text, written}
use Rattle.keso_cli.specs.Seen.{FilesSeen}

-- The file cannot be read: a fault was counted, or it is told that there is no such file.
abbrev pub CannotBeRead : List ℕ → FilesSeen → FilesSeen → Type 0
CannotBeRead name before after = Rose before.faults after.faults ⊎ IsSomeAnd before.contents (λ files. get files name ≡ None)

-- The text stands in its file, and no other file has changed.
abbrev pub Writes : Text → FilesSeen → FilesSeen → Type 0
Writes text before after = IfSome before.contents (λ files. after.contents ≡ Some (insert files text.name text.bytes))

-- These texts stand whole in their files, and no other file has changed.
abbrev pub Written : List Text → FilesSeen → FilesSeen → Type 0
Written texts before after = IfSome before.contents (λ files. after.contents ≡ Some (written texts files))

-- The first of the texts stand whole, and all other files are untouched.
pub record WrittenInPart (due : List Text) (before after : FilesSeen) : Type 0 where
  pub whole : List Text
  pub later : List Text
  pub parts : due ≡ whole ++ later
  pub stands : Written whole before after

-- A write failed: the texts before it stand whole, nothing is told of its own file, and all other files
-- are untouched.
pub record WriteFailed (due : List Text) (name : List ℕ) (before after : FilesSeen) : Type 0 where
  pub whole : List Text
  pub failed : Text
  pub later : List Text
  pub parts : due ≡ whole ++ failed ∷ later
  pub name_is : failed.name ≡ name
  pub stands : IfSome before.contents (λ files. IsSomeAnd after.contents (OthersStay name (written whole files)))
  pub counted : Rose before.faults after.faults
