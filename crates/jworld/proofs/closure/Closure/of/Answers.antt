use Rattle.std.proofs.Common.{◌≡◌, ◌++◌, ◌+◌, ◌/◌, ℕ, length, take, drop, subst, arith}
use Rattle.jworld.specs.Edges.{graph_of}
use Rattle.jworld.proofs.Through.{AreThrough, AreThrough-zero, AreThrough-round, IsClosure-from_through, written_whole}
use Rattle.jworld.proofs.closure.Closure.of.Goals as goal

pub loop-number-init : goal.loop-number-init
loop-number-init c = record { room = c.in_ok-rows.ensures.room; count = c.in_ok-rows.ensures.count; through = AreThrough-zero _ _ c.in_ok-rows.ensures.bits }

pub loop-number-preserved : goal.loop-number-preserved
loop-number-preserved c =
    let whole : take c.loop-number.rows.len (c.all_lead_through.new.rows ++ drop (length c.all_lead_through.new.rows) c.loop-number.rows.items) ≡ c.all_lead_through.new.rows =
    written_whole _ _ c.loop-number.rows.items (omega arith) (omega (arith, c.loop-number.rows.ok)) in
    let wide : length c.in_ok-through.through ≡ length c.args.edges.now / 64 + 1 =
    rw (c.in_ok-through.ensures, c.index.ensures) (c.loop-number.invariant.room c.loop-number.number _ (omega (arith, c.in_ok-rows.rows.ok, c.in_ok-rows.ensures.count))) in
    rw whole
    (record {
      room = rw wide at c.all_lead_through.ensures.room;
      count = omega arith;
      through =
          AreThrough-round _ _ c.loop-number.rows.items _ _ _ _ c.deref_mut.ensures.value c.index.ensures c.in_ok-through.ensures
          (omega (arith, c.in_ok-rows.rows.ok, c.in_ok-rows.ensures.count)) c.all_lead_through.ensures.bits c.loop-number.invariant.through;
    })

pub returns : goal.returns
returns c =
    let all : c.loop-number.number ≡ length c.args.edges.now = omega (arith, c.in_ok-rows.rows.ok, c.in_ok-rows.ensures.count) in
    let through : AreThrough (graph_of c.args.edges.now) (length c.args.edges.now) c.loop-number.rows.items =
    subst (λ (n : ℕ). AreThrough (graph_of c.args.edges.now) n c.loop-number.rows.items) all c.loop-number.invariant.through in
    IsClosure-from_through c.args.edges.now c.loop-number.rows.items c.requires.within through
