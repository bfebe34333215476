use Rattle.std.proofs.lemmas.Result.{IfOk-weaker}
use Rattle.jworld.specs.Above.{TellsAbove}
use Rattle.jworld.specs.Row.{reaches}
use Rattle.jworld.specs.Edges.{graph_of, IsClosure}
use Rattle.jworld.proofs.Supering.{AreWithin-from_supers, TellsAbove-from_closure}
use Rattle.jworld.proofs.above.above_of.Goals as goal

pub of-requires-clause-within : goal.of-requires-clause-within
of-requires-clause-within c =
    rw c.as_slice.ensures (AreWithin-from_supers c.args.classes.now c.in_ok-supers.supers c.in_ok-supers.ensures.supers c.in_ok-supers.ensures.count)

pub returns : goal.returns
returns c =
    IfOk-weaker c.of.result (λ closure. IsClosure (graph_of c.as_slice.result.now) (reaches closure)) (λ closure. TellsAbove c.args.classes.now closure)
    (λ closure is. TellsAbove-from_closure c.args.classes.now c.in_ok-supers.supers c.in_ok-supers.ensures.supers closure (rw c.as_slice.ensures at is)) c.of.ensures
