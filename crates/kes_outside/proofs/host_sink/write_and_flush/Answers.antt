use Rattle.std.proofs.Common.{length, take_all, sym, subst, arith}
use Rattle.std.specs.Io.KnownBytes.{Appends}
use Rattle.std.proofs.KnownBytes.{Appends-kept}
use Rattle.kes_outside.proofs.host_sink.write_and_flush.Goals as goal

-- the whole piece was taken before the flush failed
pub returns-in-Err : goal.returns-in-Err
returns-in-Err g c =
    let contents = g.W.Write.contents in
    let bytes = c.args.bytes.now in
    let all = take_all (length bytes) bytes (omega arith) in
    let taken = Appends-kept _ _ _ bytes c.in_ok-write_whole.ensures c.flush.ensures.bytes in
    (length bytes, subst (Appends (contents c.args.writer.now) (contents c.flush.new.self)) (sym all) taken)
