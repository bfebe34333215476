use Rattle.std.proofs.Common.{◌≡◌, map, drop}
use Rattle.oil_in.specs.Reading.{fixed_lines}
use Rattle.oil_in.proofs.reading.fixed_lines.Given as goal

abbrev pub invariant-loop-text : goal.invariant-loop-text
invariant-loop-text l = fixed_lines (map (λ text. text.now) (drop l.text-index l.texts)) l.scan ≡ fixed_lines (map (λ text. text.now) l.texts) l.fn.start
