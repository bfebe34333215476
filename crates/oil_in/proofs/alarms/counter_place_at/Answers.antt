use Rattle.oil_in.specs.Alarms.{counter_place_at}
use Rattle.oil_in.proofs.alarms.counter_place_at.Goals as goal

pub returns : goal.returns
unfolding counter_place_at
returns c =
    let e = rw c.text.ensures at c.in-Some.ensures in
    rw (e, ← c.counter_place.ensures) c.known.ensures
