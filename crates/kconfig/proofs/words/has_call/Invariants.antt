-- A `(` is to come behind a `.` that was passed, or a `.` and then a `(`.
use Rattle.std.proofs.Common.{◌≡◌, ◌==◌, ◌&&◌, ◌||◌, drop}
use Rattle.std.specs.List.{list_any}
use Rattle.kconfig.specs.Words.{has_call}
use Rattle.kconfig.proofs.words.has_call.Given as goal

abbrev pub invariant-loop-byte : goal.invariant-loop-byte
invariant-loop-byte l =
    ((l.dot && list_any (λ c. c == 40) (drop l.byte-index l.word)) || has_call (drop l.byte-index l.word)) ≡ has_call l.word
