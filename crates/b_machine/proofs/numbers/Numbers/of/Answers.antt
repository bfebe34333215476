use Rattle.std.proofs.Common.{ℕ, sym, ap, ◌∙◌, Some, None, take, arith}
use Rattle.std.specs.Prelude.{if◌then◌else◌, position}
use Rattle.jworld.specs.Fields.{or_else}
use Rattle.mentions.specs.Bindings.{is_method}
use Rattle.method_code.specs.Method.{Method}
use Rattle.method_code.proofs.Positions.{one_more_taken}
use Rattle.b_machine.proofs.numbers.Numbers.of.Goals as goal

pub loop-n-preserved : goal.loop-n-preserved
loop-n-preserved c = λ id.
    c.in_ok-add.ensures id ∙ rw (c.loop-n.invariant id, c.id.ensures) (sym (one_more_taken (λ (m : Method). is_method id m.id) c.args.methods.now c.loop-n.n c.index-methods-n.result (omega arith)
    ∙ ap (λ (m : Method). or_else (position (λ (x : Method). is_method id x.id) (take c.loop-n.n c.args.methods.now)) (if is_method id m.id then Some c.loop-n.n else None)) (sym c.index-methods-n.is)))
