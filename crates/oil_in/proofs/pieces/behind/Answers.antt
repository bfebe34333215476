use Rattle.std.proofs.lemmas.Bool.Decides.{Decides-eqb}
use Rattle.std.proofs.lemmas.Slice.Eq.{strip_prefix_is}
use Rattle.oil_in.proofs.PieceLemmas.{finds-behind}
use Rattle.oil_in.proofs.pieces.behind.Goals as goal

pub returns : goal.returns
returns c =
    rw (← c.as_bytes.ensures.value) (finds-behind c.as_bytes.result.now c.args.bytes.now c.strip_prefix.result (strip_prefix_is Decides-eqb c.args.bytes.now c.as_bytes.result.now c.strip_prefix.result c.strip_prefix.ensures.cases))
