use Rattle.std.proofs.Common.{◌≡◌, map, drop}
use Rattle.kconfig.specs.Reading.{waits_of, config_with, config_from}
use Rattle.kconfig.proofs.reading.config_with.Given as goal

abbrev pub invariant-loop-next : goal.invariant-loop-next
invariant-loop-next l = record {
  waits : l.reader.waits ≡ waits_of (map (λ line. (line.number, line.text.now)) l.fn.others);
  rest : config_with l.reader.waits l.reader.config (map (λ line. (line.number, line.text.now)) (drop l.next-index l.fn.others))
      ≡ config_from (l.fn.first.number, l.fn.first.text.now) (map (λ line. (line.number, line.text.now)) l.fn.others);
}
