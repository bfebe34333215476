-- What the reader keeps beside the configuration: which METHODs and cells stand.
use Rattle.std.specs.Prelude.{◌≡◌, ℕ, List, bytes_eq}
use Rattle.std.specs.List.{list_any}
use Rattle.kconfig.specs.declared.config.Config.{Config}
use Rattle.kconfig.specs.Names.{is_bound, has_cell}
use Rattle.kconfig.specs.Limits.{IsSmall}

pub record Keeps (c : Config) (bound : List (List ℕ)) (placed : List (List ℕ)) : Type 0 where
  pub small : IsSmall c
  pub methods : (key : List ℕ) → list_any (bytes_eq key) bound ≡ is_bound c key
  pub fields : (key : List ℕ) → list_any (bytes_eq key) placed ≡ has_cell c key
