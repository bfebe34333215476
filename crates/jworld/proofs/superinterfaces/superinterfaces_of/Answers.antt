use Rattle.std.proofs.Common.{◌∙◌, ◌+◌, ◌-◌, ◌++◌, ℕ, Bool, List, sym, append_assoc}
use Rattle.std.specs.List.{range_with_len}
use Rattle.jworld.specs.Superinterfaces.{is_superinterface, superinterfaces}
use Rattle.jworld.proofs.Ranges.{range_from, passes_here, passes_later}
use Rattle.jworld.proofs.superinterfaces.superinterfaces_of.Goals.{then-is_superinterface+in_ok-push, else-is_superinterface}
use Rattle.jworld.proofs.superinterfaces.superinterfaces_of.Goals as goal

pub loop-n-preserved : goal.loop-n-preserved
loop-n-preserved c =
    let test : ℕ → Bool = is_superinterface c.args.classes.now c.args.class.n in
    let here : List ℕ = range_with_len c.loop-n.n (c.count-n-end.result - c.loop-n.n) in
    let later : List ℕ = range_with_len (c.loop-n.n + 1) (c.count-n-end.result - (c.loop-n.n + 1)) in
    let so_far : List ℕ → List ℕ = λ ns. c.loop-n.found ++ ns in
    let all : List ℕ = superinterfaces c.args.classes.now c.args.class.n in
    elim c.if-is_superinterface.branch [
      | then-is_superinterface+in_ok-push w ↦
          rw (w.found-is, w.in_ok-push.ensures.ok, append_assoc)
          (passes_here test c.loop-n.n here later (range_from c.count-n-end.result c.loop-n.n c.loop-n-test.true) so_far all c.loop-n.invariant (sym c.is_superinterface.ensures ∙ w.if-is_superinterface.true))
      | else-is_superinterface w ↦
          rw w.found-is
          (passes_later test c.loop-n.n here later (range_from c.count-n-end.result c.loop-n.n c.loop-n-test.true) so_far all c.loop-n.invariant (sym c.is_superinterface.ensures ∙ w.if-is_superinterface.false))
    ]
