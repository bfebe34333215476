-- What is explored from the entries of the tasks.
use Rattle.reach.specs.Pairs.{pairs_of}
use Rattle.reach.proofs.pairs.pairs_of.Goals as goal

pub returns : goal.returns
unfolding pairs_of
returns c =
    rw (c.as_slice-2.ensures, c.in_ok-add_all.ensures, c.as_slice.ensures, c.new-entries.ensures, c.in_ok-roots.ensures) at c.explore.ensures
