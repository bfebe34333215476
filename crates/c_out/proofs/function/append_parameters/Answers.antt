use Rattle.std.proofs.Common.{◌≡◌, ◌<◌, ◌++◌, codes, arith}
use Rattle.csubset.specs.Text.Names.{word_name}
use Rattle.c_out.proofs.Lists.{range_step, parameters-appended}
use Rattle.c_out.proofs.function.append_parameters.Goals as goal

pub loop-word-preserved : goal.loop-word-preserved
loop-word-preserved c = range_step (λ k. codes ", " ++ (codes "W " ++ word_name k)) 1 c.loop-word.word c.append_parameter.new.out.items c.loop-word.out.items c.append_parameter-in-loop-word.new.out.items c.loop-word.auto.word c.loop-word.invariant c.in_ok-append_parameter-2.ensures

pub returns : goal.returns
returns c =
    let some : 0 < c.args.parameters = grind (arith, c.if-parameters-eq0.false) in
    let all : c.loop-word.word ≡ c.args.parameters = omega arith in
    parameters-appended c.args.parameters c.args.out.now.items c.append_parameter.new.out.items c.loop-word.out.items some c.in_ok-append_parameter.ensures (rw all at c.loop-word.invariant)
