use Rattle.std.proofs.Common.{ℕ, List, ◌∙◌, subst}
use Rattle.classfile.specs.declared.pool.Entry.{Entry}
use Rattle.classfile.specs.Pool.{utf8_text}
use Rattle.classfile.specs.Numbers.{IsNumbered, IsNumbering}
use Rattle.classfile.proofs.Numbering.{goes_on, all_told}
use Rattle.classfile.proofs.numbers.Numbers.of.Goals as goal

pub loop-entry-preserved : goal.loop-entry-preserved
loop-entry-preserved c =
    let P : ℕ → Type 0 = λ k. IsNumbered (utf8_text c.entry-item.result) k c.in_ok-number.number c.loop-entry.known c.number_of.new.self in
    let numbered = subst P (c.len.ensures ∙ c.loop-entry.numbers.ok.0) c.in_ok-number.ensures in
    rw c.in_ok-push.ensures.items
    (goes_on c.entries-entry-items.result.now c.loop-entry.numbers.items c.entry-item.result c.loop-entry.known c.number_of.new.self c.loop-entry.entry-index c.in_ok-number.number
    c.loop-entry-test.true c.entry-item.is numbered c.loop-entry.invariant)

pub returns : goal.returns
returns c =
    let P : List Entry → Type 0 = λ pool. IsNumbering pool c.loop-entry.numbers.items in
    subst P c.entries-entry-items.ensures (all_told c.entries-entry-items.result.now c.loop-entry.numbers.items c.loop-entry.known c.loop-entry.entry-index c.loop-entry-test.false c.loop-entry.invariant)
