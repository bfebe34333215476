use Rattle.std.proofs.Common.{arith, refl}
use Rattle.std.proofs.lemmas.List.Elements.{All-from_get_or}
use Rattle.percent_encoding.proofs.PercentLemmas.{round_trip, IsByte}
use Rattle.kes_text.specs.declared.shown.TheConstants.{ESCAPED}
use Rattle.kes_text.proofs.ShownLemmas.{percent_encode_is}
use Rattle.kes_text.proofs.shown.escape.Goals as goal

pub returns-clause-text : goal.returns-clause-text
returns-clause-text c =
    rw (c.into_bytes.ensures.value, c.in_ok-append_to.ensures.ok, c.new-text.ensures.bytes, c.percent_encode.ensures.text)
    (percent_encode_is c.args.name.now)

pub returns-clause-back : goal.returns-clause-back
returns-clause-back c =
    let bytes = All-from_get_or IsByte c.args.name.now 0 (λ i within. omega (arith, c.type_inv.name i)) in
    rw (c.into_bytes.ensures.value, c.in_ok-append_to.ensures.ok, c.new-text.ensures.bytes, c.percent_encode.ensures.text)
    (round_trip ESCAPED c.args.name.now refl bytes)
