use Rattle.std.proofs.Common.{◌≡◌, None, fold, slice_index_or}
use Rattle.std.specs.List.{range_with_len}
use Rattle.osek_model.specs.Acting.{arm_started}
use Rattle.osek_model.proofs.kernel.arm_all.Given as goal

-- the alarms so far were set
abbrev pub invariant-loop-alarm : goal.invariant-loop-alarm
invariant-loop-alarm l = l.time ≡ record l.fn.time { clock = fold (λ c alarm. arm_started l.fn.time.rules c alarm (slice_index_or l.starts alarm None)) l.fn.time.clock (range_with_len 0 l.alarm) }
