-- What an input of the code says.
use Rattle.first_form.specs.declared.fitting.FirstInput.{FirstInput}
use Rattle.first_form.specs.declared.config.FirstConfig.{FirstConfig}
use Rattle.first_form.specs.declared.first_class.FirstClass.{FirstClass}

abbrev pub said : FirstInput → FirstConfig × FirstClass
said input = (input.config, input.class)
