use Rattle.std.proofs.Common.{◌≡◌, ◌<◌, None, sym, ◌∙◌, ap, subst, ⊎_elim, arith}
use Rattle.jworld.specs.Classes.{World}
use Rattle.jworld.specs.Faults.{world_fault}
use Rattle.jworld.specs.Fields.{resolved_field}
use Rattle.jworld.proofs.Acyclic.{rank}
use Rattle.jworld.proofs.Searching.{found_in_class, found_in_interfaces, found_nowhere, found_in_super, found_not, super_falls, interface_falls}
use Rattle.jworld.proofs.world.World.+fields.Goals as goal

same_fault : (a b : World) → a ≡ b → world_fault a ≡ None → world_fault b ≡ None
same_fault a b e h = subst (λ (files : World). world_fault files ≡ None) e h

pub search_field-returns-then-is_some-clause-found : goal.search_field-returns-then-is_some-clause-found
search_field-returns-then-is_some-clause-found t c =
    let none : world_fault c.args.self.now ≡ None = same_fault c.self.inside.classes c.args.self.now c.self.view_is c.self.invariant.faultless in
    found_in_class c.args.self.now none c.args.key.now c.args.class.n c.declared_field-found.result c.declared_field-found.ensures (sym c.is_some.ensures ∙ c.if-is_some.true)

pub search_field-returns-then-is_some-2-clause-found : goal.search_field-returns-then-is_some-2-clause-found
search_field-returns-then-is_some-2-clause-found t c =
    let none : world_fault c.args.self.now ≡ None = same_fault c.self.inside.classes c.args.self.now c.self.view_is c.self.invariant.faultless in
    found_in_interfaces c.args.self.now none c.args.key.now c.args.class.n c.declared_field-found.result c.declared_field-found.ensures (sym c.is_some.ensures ∙ c.if-is_some.false)
    c.search_interfaces-found.result c.search_interfaces-found.ensures.found (sym c.is_some-2.ensures ∙ c.if-is_some-2.true)

pub search_field-returns-in_default-clause-found : goal.search_field-returns-in_default-clause-found
search_field-returns-in_default-clause-found t c =
    let none : world_fault c.args.self.now ≡ None = same_fault c.self.inside.classes c.args.self.now c.self.view_is c.self.invariant.faultless in
    found_nowhere c.args.self.now none c.args.key.now c.args.class.n c.declared_field-found.result c.declared_field-found.ensures (sym c.is_some.ensures ∙ c.if-is_some.false)
    c.search_interfaces-found.result c.search_interfaces-found.ensures.found (sym c.is_some-2.ensures ∙ c.if-is_some-2.false) (rw c.self.view_is at c.in_default.ensures)

pub search_field-search_field-found-requires : goal.search_field-search_field-found-requires
search_field-search_field-found-requires t c =
    let none : world_fault c.args.self.now ≡ None = same_fault c.self.inside.classes c.args.self.now c.self.view_is c.self.invariant.faultless in
    let falls : rank c.args.self.now c.in-Some.above.n < rank c.args.self.now c.args.class.n = super_falls c.args.self.now none c.args.key.now c.args.class.n c.in-Some.above.n (rw c.self.view_is at c.in-Some.ensures) in
    (omega (arith, c.decreases), c.search_interfaces-found.ensures.passed)

pub search_field-returns-then-is_some-3-clause-found : goal.search_field-returns-then-is_some-3-clause-found
search_field-returns-then-is_some-3-clause-found t c =
    let none : world_fault c.args.self.now ≡ None = same_fault c.self.inside.classes c.args.self.now c.self.view_is c.self.invariant.faultless in
    found_in_super c.args.self.now none c.args.key.now c.args.class.n c.declared_field-found.result c.declared_field-found.ensures (sym c.is_some.ensures ∙ c.if-is_some.false)
    c.search_interfaces-found.result c.search_interfaces-found.ensures.found (sym c.is_some-2.ensures ∙ c.if-is_some-2.false) c.in-Some.above.n c.search_field-found.result
    (rw c.self.view_is at c.in-Some.ensures) c.search_field-found.ensures.found

pub search_field-returns-clause-found : goal.search_field-returns-clause-found
search_field-returns-clause-found t c =
    let none : world_fault c.args.self.now ≡ None = same_fault c.self.inside.classes c.args.self.now c.self.view_is c.self.invariant.faultless in
    found_not c.args.self.now none c.args.key.now c.args.class.n c.declared_field-found.result c.declared_field-found.ensures (sym c.is_some.ensures ∙ c.if-is_some.false)
    c.search_interfaces-found.result c.search_interfaces-found.ensures.found (sym c.is_some-2.ensures ∙ c.if-is_some-2.false) c.in-Some.above.n c.search_field-found.result
    (rw c.self.view_is at c.in-Some.ensures) c.search_field-found.ensures.found (sym c.is_some-3.ensures ∙ c.if-is_some-3.false)

pub search_field-returns-clause-passed : goal.search_field-returns-clause-passed
search_field-returns-clause-passed t c class passed =
    let none : world_fault c.args.self.now ≡ None = same_fault c.self.inside.classes c.args.self.now c.self.view_is c.self.invariant.faultless in
    ⊎_elim
    (λ here.
    ap (resolved_field c.args.self.now c.args.key.now) here
    ∙ sym (found_not c.args.self.now none c.args.key.now c.args.class.n c.declared_field-found.result c.declared_field-found.ensures (sym c.is_some.ensures ∙ c.if-is_some.false)
    c.search_interfaces-found.result c.search_interfaces-found.ensures.found (sym c.is_some-2.ensures ∙ c.if-is_some-2.false) c.in-Some.above.n c.search_field-found.result
    (rw c.self.view_is at c.in-Some.ensures) c.search_field-found.ensures.found (sym c.is_some-3.ensures ∙ c.if-is_some-3.false)))
    (λ before. c.search_field-found.ensures.passed class before)
    (c.add.ensures class passed)

pub search_interfaces-search_field-found-requires : goal.search_interfaces-search_field-found-requires
search_interfaces-search_field-found-requires t c =
    let none : world_fault c.args.self.now ≡ None = same_fault c.self.inside.classes c.args.self.now c.self.view_is c.self.invariant.faultless in
    let falls : rank c.args.self.now c.in-Some-class.above.n < rank c.args.self.now c.args.class.n =
    interface_falls c.args.self.now none c.args.key.now c.args.class.n c.in-Some.file c.interfaces-name-items.result.now c.loop-name.name-index _ c.in-Some-class.above.n (rw c.self.view_is at c.in-Some.ensures)
    c.interfaces-name-items.ensures c.loop-name-test.true (rw c.self.view_is at c.in-Some-class.ensures)
    in
    (omega (arith, c.decreases), c.loop-name.invariant.nothing)
