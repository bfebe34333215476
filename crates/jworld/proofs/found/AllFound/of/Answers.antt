use Rattle.std.proofs.Common.{◌≡◌, [], ◌∷◌, ◌++◌, arith}
use Rattle.jworld.proofs.Finding.{longer, one_more, tells_all}
use Rattle.jworld.proofs.found.AllFound.of.Goals as goal

pub loop-n-preserved : goal.loop-n-preserved
loop-n-preserved c =
    let items : c.push.new.self.items ≡ c.loop-n.all.items ++ c.in_ok-found_of.field-0 ∷ [] = c.in_ok-push.ensures.items in
    rw items
    (record {
      count = longer c.loop-n.all.items c.in_ok-found_of.field-0 c.loop-n.n c.loop-n.invariant.count;
      below = one_more c.args.classes.now c.loop-n.n c.loop-n.all.items c.in_ok-found_of.field-0 c.loop-n.invariant.count c.loop-n.invariant.below c.in_ok-found_of.ensures;
    })

pub returns : goal.returns
returns c = tells_all c.args.classes.now c.loop-n.n c.loop-n.all.items c.loop-n.invariant.count (omega (arith, c.count-n-end.ensures.count)) c.loop-n.invariant.below
