use Rattle.std.proofs.Common.{ℕ, ◌-◌, ◌||◌, Bool, false, get_or, Option, ap, ◌∙◌, arith}
use Rattle.jworld.specs.Classes.{count, super_of}
use Rattle.kbind.specs.Cells.{is_that}
use Rattle.kbind.proofs.Marking.{one_more, super_within}
use Rattle.kbind.proofs.parents.all_parents.Goals as goal

pub mark-requires : goal.mark-requires
mark-requires c = super_within c.args.world.now (c.loop-n.n - 1) _ c.super_of.result c.super_of.ensures c.loop-n.invariant.all

pub loop-n-preserved : goal.loop-n-preserved
loop-n-preserved c = record {
  all = c.mark.ensures.len ∙ c.loop-n.invariant.all;
  marks = λ k.
      c.mark.ensures.marks k ∙ ap (λ (above : Option ℕ). is_that above k || get_or c.loop-n.parents.items k false) c.super_of.ensures
      ∙ ap (λ (others : Bool). is_that (super_of c.args.world.now (c.loop-n.n - 1)) k || others) (c.loop-n.invariant.marks k)
      ∙ one_more (λ other. is_that (super_of c.args.world.now other) k) c.loop-n.n (count c.args.world.now) c.loop-n-test.true (omega (arith, c.loop-n.auto.n, c.count-n.ensures.count));
}
