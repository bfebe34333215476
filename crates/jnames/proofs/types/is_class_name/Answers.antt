use Rattle.std.proofs.Common.{rules, eqb}
use borrow.Author.Tests.{tests}
use Rattle.std.proofs.lemmas.Iterator.Search.{all_from_yields_List}
use Rattle.std.proofs.lemmas.Iterator.Splits.{YieldsList-from_slice_split}
use Rattle.jnames.specs.Names.{is_unqualified_name}
use Rattle.jnames.proofs.types.is_class_name.Goals as goal

pub returns : goal.returns
returns c =
    all_from_yields_List is_unqualified_name _ _ _ c.all.ensures.ran
    (YieldsList-from_slice_split _ (λ b. eqb b 47) c.args.name.now c.split.ensures.rest c.split.ensures.done c.split.ensures.closure (λ x b q k. search (rules, tests)))
    (λ x b q k. search (rules, tests))
