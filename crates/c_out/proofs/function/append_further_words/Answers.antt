use Rattle.csubset.specs.Text.Program.{further_word}
use Rattle.c_out.proofs.Lists.{range_step}
use Rattle.c_out.proofs.function.append_further_words.Goals as goal

pub loop-word-preserved : goal.loop-word-preserved
loop-word-preserved c = range_step further_word c.from-first.result c.loop-word.word c.args.out.now.items c.loop-word.out.items c.append_further_word.new.out.items c.loop-word.auto.word c.loop-word.invariant c.in_ok-append_further_word.ensures
