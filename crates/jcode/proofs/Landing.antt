-- A table of beginnings tells where instructions begin.
use Rattle.std.proofs.Common.{◌≡◌, ℕ, Bool, false, List, get_or, Ok, refl}
use Rattle.std.proofs.Math.Path.{fun_ext}
use Rattle.jcode.specs.declared.op.Ins.{Ins}
use Rattle.jcode.specs.Code.{instructions_from}
use Rattle.jcode.specs.Decoded.{begins_at, first_wild, landed, decoded}
use Rattle.jcode.specs.Pool.{Pool}

pub decoded_by_table : (pool : Pool) (base : ℕ) (bytes : List ℕ) (code : List Ins) (begins : List Bool) → instructions_from pool base 0 0 bytes ≡ Ok code
    → ((k : ℕ) → get_or begins k false ≡ begins_at code k) → decoded pool base bytes ≡ landed base code (first_wild (λ k. get_or begins k false) code)
unfolding decoded
decoded_by_table pool base bytes code begins h same =
    let tests : (λ (k : ℕ). get_or begins k false) ≡ begins_at code = fun_ext same in
    rw (h, tests) refl
