use Rattle.std.proofs.Common.{sym, ◌∙◌, bytes_eq}
use Rattle.kconfig.proofs.Among.{any_of_map}
use Rattle.kconfig.proofs.word_set.WordSet.contains.Goals as goal

pub returns : goal.returns
returns c = rw (← c.self.view_is) (c.contains.ensures ∙ sym (any_of_map (bytes_eq c.args.word.now) (λ word. word.now) c.self.inside.words.keys))
