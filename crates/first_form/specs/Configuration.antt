-- What the text of a configuration says, as one word: the definition of reading it is long, and nothing here looks into it.
use Rattle.std.specs.Prelude.{ℕ, List, Result}
use Rattle.kconfig.specs.declared.config.Config.{Config}
use Rattle.kconfig.specs.Reading.{config_of}
use Rattle.kes_text.specs.declared.refusal.Stop.{Stop}

unfoldable pub configuration : List ℕ → Result Config Stop
configuration text = config_of text
