use Rattle.std.proofs.Common.{◌≡◌, ◌≤◌, ◌+◌, ◌-◌, ℕ, List, ◌++◌, length, take, drop, sym, ap, ◌∙◌, subst, arith, length-drop}
use Rattle.std.proofs.Math.Seq.{take-add}
use Rattle.std.proofs.lemmas.List.{take_rest}
use Rattle.std.specs.Io.KnownBytes.{Appends}
use Rattle.std.proofs.KnownBytes.{Appends-trans, Appends-kept}
use Rattle.kes_outside.proofs.streams.write_whole.Goals as goal
use Rattle.kes_outside.proofs.streams.write_whole.Goals.{in-Ok, in-Err+else-taken-eq0+else-not-is_interrupted}

-- the bytes taken before, and then the first of those that were left
more_taken : (taken count : ℕ) (bytes : List ℕ) → take taken bytes ++ take count (take (length bytes - taken) (drop taken bytes)) ≡ take (taken + count) bytes
more_taken taken count bytes =
    ap (λ rest. take taken bytes ++ take count rest) (take_rest bytes taken) ∙ sym (take-add taken count bytes)

pub loop-preserved : goal.loop-preserved
loop-preserved g c =
    let contents = g.W.Write.contents in
    let bytes = c.args.bytes.now in
    let before = c.loop.invariant in
    elim c.match-write.branch [
      | in-Ok w ↦
          let now = more_taken c.loop.taken w.in-Ok.count bytes ∙ ap (λ n. take n bytes) (sym w.taken-is) in
          let bound = simp take_rest at w.in-Ok.ensures.bound in
          record {
            within = omega (arith, length-drop c.loop.taken bytes);
            appended = subst (Appends _ _) now (Appends-trans _ _ _ _ _ before.appended w.in-Ok.ensures.bytes);
          }
      | in-Err+else-taken-eq0+else-not-is_interrupted w ↦
          record {
            within = subst (λ n. n ≤ length bytes) (sym w.taken-is) before.within;
            appended = subst (λ n. Appends (contents c.args.writer.now) (contents c.write.new.self) (take n bytes)) (sym w.taken-is) (Appends-kept _ _ _ _ before.appended w.in-Err.ensures.bytes);
          }
    ]
