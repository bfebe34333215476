use Rattle.kconfig.proofs.Soundness.{sound}
use Rattle.kconfig.proofs.reading.read_config.Goals as goal

pub returns-in-len1-up-clause-sound : goal.returns-in-len1-up-clause-sound
returns-in-len1-up-clause-sound c = search (sound, c.config_with.ensures.says, c.config_with.ensures.small)
