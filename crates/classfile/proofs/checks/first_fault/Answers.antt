use Rattle.std.proofs.Common.{[], sym, ◌∙◌}
use Rattle.classfile.specs.declared.uses.Use.TheVariants as uses
use Rattle.classfile.specs.declared.uses.Wanted.TheVariants as wanted
use Rattle.classfile.specs.Faults.{first_fault}
use Rattle.classfile.proofs.Checking.{index_ends, member_ends, goes_on, more_seen, ended}
use Rattle.classfile.proofs.checks.first_fault.Goals as goal

pub returns-then-is_some : goal.returns-then-is_some
returns-then-is_some c =
    index_ends c.args.pool.now c.args.uses.now c.loop-one.one-index (uses.Index 0 0 wanted.Text) c.fault_of_index-fault.result (first_fault c.args.pool.now [] c.args.uses.now)
    c.loop-one-test.true c.fault_of_index-fault.ensures (sym c.is_some.ensures ∙ c.if-is_some.true) c.loop-one.invariant.faults

pub returns-then-not-branch : goal.returns-then-not-branch
returns-then-not-branch c =
    rw c.place_of-at.ensures
    (member_ends c.args.pool.now c.args.numbers.now c.args.uses.now c.loop-one.one-index (uses.Index 0 0 wanted.Text) c.fault_of_index-fault.result c.loop-one.seen c.in_ok-note.field-0 (first_fault c.args.pool.now [] c.args.uses.now)
    c.requires c.loop-one-test.true c.fault_of_index-fault.ensures (sym c.is_some.ensures ∙ c.if-is_some.false) c.loop-one.invariant.seen c.in_ok-note.ensures.fresh c.if-not-branch.true c.loop-one.invariant.faults)

pub loop-one-preserved : goal.loop-one-preserved
loop-one-preserved c = record {
  seen = more_seen c.args.pool.now c.args.numbers.now c.args.uses.now c.loop-one.one-index (uses.Index 0 0 wanted.Text) c.loop-one.seen c.note.new.self c.loop-one-test.true c.loop-one.invariant.seen c.in_ok-note.ensures.members;
  faults = goes_on c.args.pool.now c.args.numbers.now c.args.uses.now c.loop-one.one-index (uses.Index 0 0 wanted.Text) c.fault_of_index-fault.result c.loop-one.seen c.in_ok-note.field-0 (first_fault c.args.pool.now [] c.args.uses.now)
      c.requires c.loop-one-test.true c.fault_of_index-fault.ensures (sym c.is_some.ensures ∙ c.if-is_some.false) c.loop-one.invariant.seen c.in_ok-note.ensures.fresh c.if-not-branch.false c.loop-one.invariant.faults;
}

pub returns : goal.returns
returns c =
    ended c.args.pool.now c.args.uses.now c.loop-one.one-index (first_fault c.args.pool.now [] c.args.uses.now) c.loop-one-test.false c.loop-one.invariant.faults
