use Rattle.std.proofs.Common.{◌≡◌, drop}
use Rattle.first_form.specs.Code.{is_call, operations_of}
use Rattle.first_form.proofs.OneByOne.{with_operations}
use Rattle.first_form.proofs.first_class.code.all_placed.Given as goal

abbrev pub invariant-loop-ins : goal.invariant-loop-ins
invariant-loop-ins l =
    with_operations l.operations (operations_of (is_call l.class l.native) (drop l.ins-index l.code)) ≡ operations_of (is_call l.class l.native) l.code
