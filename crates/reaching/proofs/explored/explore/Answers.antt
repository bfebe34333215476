-- The pairs are those that are reached, or the first that is refused stops.
use Rattle.std.proofs.Common.{◌≡◌, suc, ◌+◌, ◌-◌, Err, sym, ap, subst, ◌∙◌, arith}
use Rattle.std.proofs.lemmas.Result.{err_from_is_err_and}
use Rattle.reaching.specs.Order.{add_all}
use Rattle.reaching.specs.Reached.{Known, explored, reached}
use Rattle.reaching.proofs.Exploring.{answered, goes_on, ends, is_too_large, look_stops}
use Rattle.reaching.proofs.explored.explore.Goals as goal

pub loop-index-init : goal.loop-index-init
loop-index-init g c = (
  omega arith,
  ap (λ pairs. explored 1048577 (g.G.Graph.mentions c.args.graph.now) (g.G.Graph.too_large c.args.graph.now) 0 (pairs, 0)) (c.in_ok-add_all.ensures ∙ ap (λ pairs. add_all pairs c.args.roots.now) c.new-pairs.ensures),
)

pub returns-in_default : goal.returns-in_default
returns-in_default g c =
    let known : Known = (c.loop-index.pairs, c.loop-index.size) in
    sym (ends (g.G.Graph.mentions c.args.graph.now) (g.G.Graph.too_large c.args.graph.now) (1048577 - c.loop-index.index) c.loop-index.index known (sym c.get.ensures ∙ c.in_default.is)) ∙ c.loop-index.invariant.1

pub look_at-requires : goal.look_at-requires
look_at-requires g c = c.loop-index.invariant.0

pub returns-in_err-size : goal.returns-in_err-size
returns-in_err-size g c =
    let p = err_from_is_err_and c.from_residual-in_err-size.result c.from_residual-in_err-size.ensures.1 in
    let mentions = g.G.Graph.mentions c.args.graph.now in
    let large = g.G.Graph.too_large c.args.graph.now in
    let known : Known = (c.loop-index.pairs, c.loop-index.size) in
    let left : 1048577 - c.loop-index.index ≡ suc (1048577 - (c.loop-index.index + 1)) = omega (c.loop-index-test.true, arith) in
    rw (p.1, p.2)
    (look_stops mentions large (1048577 - (c.loop-index.index + 1)) c.loop-index.index known c.in-Some.pair c.in_err-size.field-0.0 c.look_at.new.pairs (reached mentions large c.args.roots.now)
    (sym c.get.ensures ∙ c.in-Some.is) c.in_err-size.ensures.looks (subst (λ n. explored n mentions large c.loop-index.index known ≡ reached mentions large c.args.roots.now) left c.loop-index.invariant.1))

pub loop-index-preserved : goal.loop-index-preserved
loop-index-preserved g c =
    let mentions = g.G.Graph.mentions c.args.graph.now in
    let large = g.G.Graph.too_large c.args.graph.now in
    let known : Known = (c.loop-index.pairs, c.loop-index.size) in
    let left : 1048577 - c.loop-index.index ≡ suc (1048577 - (c.loop-index.index + 1)) = omega (c.loop-index-test.true, arith) in (
      c.in_ok-size.ensures.within,
      sym (goes_on mentions large (1048577 - (c.loop-index.index + 1)) c.loop-index.index known (c.look_at.new.pairs, c.in_ok-size.size) c.in-Some.pair (sym c.get.ensures ∙ c.in-Some.is) (sym c.in_ok-size.ensures.looks))
          ∙ subst (λ n. explored n mentions large c.loop-index.index known ≡ reached mentions large c.args.roots.now) left c.loop-index.invariant.1,
    )

pub returns-in-Some-get : goal.returns-in-Some-get
returns-in-Some-get g c =
    let mentions = g.G.Graph.mentions c.args.graph.now in
    let large = g.G.Graph.too_large c.args.graph.now in
    let known : Known = (c.loop-index.pairs, c.loop-index.size) in
    let at : c.loop-index.index ≡ 1048577 = omega (c.loop-index-test.false, c.loop-index.auto.index-end, arith) in
    let whole = subst (λ n. explored (1048577 - n) mentions large n known ≡ reached mentions large c.args.roots.now) at c.loop-index.invariant.1 in
    answered c.large.result (reached mentions large c.args.roots.now)
    (ap Err c.large.ensures ∙ sym (is_too_large mentions large 1048577 known c.in-Some-get.pair (sym c.get-2.ensures ∙ c.in-Some-get.is)) ∙ whole)

pub returns-in-None : goal.returns-in-None
returns-in-None g c =
    let mentions = g.G.Graph.mentions c.args.graph.now in
    let large = g.G.Graph.too_large c.args.graph.now in
    let known : Known = (c.loop-index.pairs, c.loop-index.size) in
    let at : c.loop-index.index ≡ 1048577 = omega (c.loop-index-test.false, c.loop-index.auto.index-end, arith) in
    let whole = subst (λ n. explored (1048577 - n) mentions large n known ≡ reached mentions large c.args.roots.now) at c.loop-index.invariant.1 in
    sym (ends mentions large 0 1048577 known (sym c.get-2.ensures ∙ c.in-None.is)) ∙ whole
