-- Which tables an OIL text says (OIL 2.5, section 3): those of which it is the text, where they are well configured and their
-- names have the form of a name.
use Rattle.std.specs.Prelude.{◌≡◌, ◌≤◌, ◌↔◌, ℕ, true, List, length, All, Ok}
use Rattle.osek_core.specs.declared.tables.Name.{Name}
use Rattle.osek_core.specs.declared.tables.Tables.{Tables}
use Rattle.osek_core.specs.Tables.WellConfigured.{IsWellConfigured}
use Rattle.oil_out.specs.OilText.{oil_text}
use Rattle.oil_in.specs.Pieces.{begins_with_letter, is_name_byte}
use Rattle.oil_in.specs.Reading.{oil_read}

-- the form of a name: a letter, and then letters, digits or `_`, at most 32 bytes in all
pub record IsName (name : Name) : Type 0 where
  pub begins : begins_with_letter name.text ≡ true
  pub each : All (λ byte. is_name_byte byte ≡ true) name.text
  pub short : length name.text ≤ 32

-- each name has that form
pub record HasNames (tables : Tables) : Type 0 where
  pub events : All IsName tables.events
  pub resources : All IsName tables.resources
  pub counters : All (λ row. IsName row.name) tables.counters
  pub tasks : All (λ row. IsName row.name) tables.tasks
  pub alarms : All (λ row. IsName row.name) tables.alarms

-- the text says the tables
pub record Says (text : List ℕ) (tables : Tables) : Type 0 where
  pub configured : IsWellConfigured tables
  pub names : HasNames tables
  pub printed : text ≡ oil_text tables

-- What is printed of such tables is read as these tables.
abbrev pub ComesBack : Type 0
ComesBack = (tables : Tables) → IsWellConfigured tables → HasNames tables → oil_read (oil_text tables) ≡ Ok tables

-- A text is read as the tables that it says, and as no others.
abbrev pub ReadsWhatIsSaid : Type 0
ReadsWhatIsSaid = (text : List ℕ) (tables : Tables) → (oil_read text ≡ Ok tables) ↔ Says text tables
