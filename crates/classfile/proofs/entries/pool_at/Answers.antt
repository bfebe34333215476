use Rattle.std.proofs.Common.{◌-◌, ◌≤◌, ◌<◌, ◌∷◌, ◌++◌, [], Ok, refl, arith}
use Rattle.std.proofs.lemmas.Result.{err_from_is_err_and}
use Rattle.classfile.specs.Entries.{next_place, places_at}
use Rattle.classfile.proofs.Repeating.{goes_on, ends, done, behind_err}
use Rattle.classfile.proofs.Places.{read_place, no_place}
use Rattle.classfile.proofs.entries.pool_at.Goals as goal

pub returns-in_err-entry : goal.returns-in_err-entry
returns-in_err-entry c =
    let p = err_from_is_err_and c.from_residual-in_err-entry.result c.from_residual-in_err-entry.ensures.1 in
    let lt : c.loop.counter < c.in_ok-count.count - 1 = omega arith in
    let one = no_place c.args.version c.loop.entries.items c.loop.wide c.loop.scan c.in_err-entry.field-0.0 c.in_err-entry.ensures in
    let all = ends (next_place c.args.version) (c.in_ok-count.count - 1) c.loop.counter (c.loop.entries.items, c.loop.wide, c.loop.scan) c.in_err-entry.field-0.0 (places_at c.args.version c.args.start) lt one c.loop.invariant in
    rw (p.1, p.2) (behind_err (places_at c.args.version c.args.start) (λ found. Ok (found.0, found.2)) c.in_err-entry.field-0.0 all)

pub loop-preserved : goal.loop-preserved
loop-preserved c =
    let lt : c.loop.counter < c.in_ok-count.count - 1 = omega arith in
    let one = read_place c.args.version c.loop.entries.items c.loop.wide c.loop.scan c.in_ok-entry.entry c.in_ok-entry.is_wide c.in_ok-entry.behind c.in_ok-entry.ensures in
    rw c.in_ok-push.ensures.items (goes_on (next_place c.args.version) (c.in_ok-count.count - 1) c.loop.counter (c.loop.entries.items, c.loop.wide, c.loop.scan) (c.loop.entries.items ++ c.in_ok-entry.entry ∷ [], c.in_ok-entry.is_wide, c.in_ok-entry.behind) (places_at c.args.version c.args.start) lt one c.loop.invariant)

pub returns : goal.returns
returns c =
    let over : c.in_ok-count.count - 1 ≤ c.loop.counter = omega arith in
    let all = done (next_place c.args.version) (c.in_ok-count.count - 1) c.loop.counter (c.loop.entries.items, c.loop.wide, c.loop.scan) (places_at c.args.version c.args.start) over c.loop.invariant in
    rw (c.new.ensures, ← all) refl
