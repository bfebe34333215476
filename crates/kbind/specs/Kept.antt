-- What binding keeps beside a world: the shown name of each class; for each class the names of the methods that may be entries, and
-- those of the instance fields; and which classes have subclasses.
use Rattle.std.specs.Prelude.{◌≡◌, ◌≤◌, ℕ, Bool, false, List, Option, map, length, slice_index_or}
use Rattle.kes_text.specs.Shown.{shown}
use Rattle.jworld.specs.Classes.{World, names}
use Rattle.jworld.specs.Members.{fields_of, methods_of}
use Rattle.kbind.specs.declared.named.Seen.{Seen}
use Rattle.kbind.specs.Named.{Names, seen_from, seen_of}
use Rattle.kbind.specs.Entries.{is_entry_of}
use Rattle.kbind.specs.Cells.{is_field_of, has_subclass}

pub record AreShown (files : World) (texts : List (List ℕ)) : Type 0 where
  pub shown : texts ≡ map (λ name. shown name) (names files)
  pub few : length texts ≤ 2052

-- the methods of a class that may be entries of this NAME, and its instance fields of this FIELD
abbrev pub entry_seen : World → List ℕ → ℕ → Option Seen
entry_seen files name class = seen_from (is_entry_of name) 0 (methods_of files class)

abbrev pub field_seen : World → List ℕ → ℕ → Option Seen
field_seen files name class = seen_from (is_field_of name) 0 (fields_of files class)

-- tables that have what is seen of each name in each class
abbrev pub AreTables : (List ℕ → ℕ → Option Seen) → List Names → Type 0
AreTables seen tables = (name : List ℕ) (class : ℕ) → seen_of tables name class ≡ seen name class

-- whether each class is the direct superclass of another
abbrev pub HaveSubclasses : World → List Bool → Type 0
HaveSubclasses files parents = (class : ℕ) → slice_index_or parents class false ≡ has_subclass files class

-- what is kept to look up classes and their members
pub record AreKept (files : World) (shown_names : List (List ℕ)) (entry_names : List Names) (field_names : List Names) (are_parents : List Bool) : Type 0 where
  pub texts : AreShown files shown_names
  pub entries : AreTables (entry_seen files) entry_names
  pub fields : AreTables (field_seen files) field_names
  pub parents : HaveSubclasses files are_parents
