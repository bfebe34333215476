-- The pieces of the split that aren't empty, collected.
use Rattle.std.proofs.Common.{nat_lt, length, rules, tests}
use Rattle.std.proofs.lemmas.Iterator.Consumers.{map_from_collect, YieldsList-from_filter, YieldsList-at}
use Rattle.std.proofs.lemmas.Iterator.Splits.{YieldsList-from_slice_split}
use Rattle.text_words.specs.TextLines.{is_space}
use Rattle.text_words.proofs.word.words.Goals as goal

pub returns : goal.returns
returns c =
    map_from_collect _ c.collect.ensures.ran
    (YieldsList-from_filter _ (λ word. nat_lt 0 (length word))
    (YieldsList-at c.filter.ensures.source (YieldsList-from_slice_split _ is_space c.args.line.now c.split.ensures.rest c.split.ensures.done c.split.ensures.closure (λ x b q h. search rules)))
    c.filter.ensures.closure (λ x b q h. search (rules, tests)))
