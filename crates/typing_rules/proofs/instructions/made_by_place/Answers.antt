use Rattle.std.proofs.Common.{◌≡◌, ◌∙◌, ◌<◌, length, get_or, set, None, ap, sym, arith}
use Rattle.std.proofs.lemmas.List.{length-set}
use Rattle.jworld.specs.Fields.{or_else}
use Rattle.typing_rules.specs.Environment.{made_index}
use Rattle.typing_rules.proofs.Made.{noted, get_or-within}
use Rattle.typing_rules.proofs.instructions.made_by_place.Goals as goal

pub loop-ins-preserved : goal.loop-ins-preserved
loop-ins-preserved c =
    let within : c.ins-item.result.pc < length c.loop-ins.made.items = omega (arith, c.loop-ins.invariant.long, c.from-place.ensures) in
    let before : c.index.result.now ≡ get_or c.loop-ins.made.items c.ins-item.result.pc None =
    c.index.ensures ∙ ap (λ p. get_or c.loop-ins.made.items p c.index.result.now) c.from-place.ensures ∙ get_or-within c.loop-ins.made.items c.ins-item.result.pc c.index.result.now within in
    let now : c.first_made.result ≡ or_else (get_or c.loop-ins.made.items c.ins-item.result.pc None) (made_index c.ins-item.result.op) =
    c.first_made.ensures ∙ ap (λ b. or_else b (made_index c.ins-item.result.op)) before in
    record {
      long = length-set c.loop-ins.made.items c.from-place.result c.first_made.result ∙ c.loop-ins.invariant.long;
      so_far = rw (now, c.from-place.ensures) (noted c.loop-ins.made.items c.args.code.now c.loop-ins.ins-index c.ins-item.result c.loop-ins-test.true c.ins-item.is within c.loop-ins.invariant.so_far);
    }
