use Rattle.std.proofs.Common.{◌≡◌, ◌∙◌, ℕ, List, ap, false, get_or}
use Rattle.jcode.specs.declared.op.Ins.{Ins}
use Rattle.jcode.specs.Decoded.{begins_at}
use Rattle.jcode.specs.PoolOf.{pool_of}
use Rattle.jcode.proofs.Landing.{decoded_by_table}
use Rattle.jcode.proofs.decoding.decoded_of.Goals as goal

pub returns : goal.returns
returns c =
    let begins : (k : ℕ) → get_or c.in_ok-begins.begins.items k false ≡ begins_at c.in_ok-found.found.items k =
    λ k. c.in_ok-begins.ensures k ∙ ap (λ (code : List Ins). begins_at code k) c.deref.ensures.value in
    rw (decoded_by_table (pool_of c.args.class.now) c.args.base c.args.code.now c.in_ok-found.found.items c.in_ok-begins.begins.items c.in_ok-found.ensures.code begins, ← c.deref-2.ensures.value) c.landed.ensures
