use Rattle.std.proofs.Common.{◌≡◌, ◌≤◌, ◌<◌, ◌+◌, ℕ, List, length, take, Option, Some, None, IfSome, Result, Ok, Err, IfOk, MatchResult, Vec, vec_len, subst, sym, take_all, arith}
use Rattle.std.specs.declared.alloc.Global.{Global}
use Rattle.std.specs.Option.{option_map}
use Rattle.kes_outside.specs.declared.files.FileFault.{FileFault}
use Rattle.kes_outside.specs.declared.files.FileFault.TheVariants.{Failed}
use Rattle.kes_outside.specs.declared.host_files.TheConstants.{MOST_BYTES}
use Rattle.std.proofs.lemmas.Grind.{common_steps}
use Rattle.kes_outside.proofs.host_files.read_whole.Goals as goal

-- a read that is given one byte more than the limit, and stays within it, has read all
read_all : (left : Option (List ℕ)) (limit : ℕ) (bytes : List ℕ) → IfSome (option_map (take (limit + 1)) left) (λ given. bytes ≡ given) → length bytes ≤ limit → IfSome left (λ all. bytes ≡ all)
read_all None limit bytes given within = tt
read_all (Some all) limit bytes given within = grind (arith, common_steps, take_all (limit + 1) all)

within_all : (r : Result (Vec ℕ Global) FileFault) (bytes : Vec ℕ Global) (left : Option (List ℕ)) → MatchResult r (λ kept. (kept ≡ bytes) × (vec_len bytes ≤ MOST_BYTES)) (λ fault. (fault ≡ Failed) × (MOST_BYTES < vec_len bytes))
    → IfSome (option_map (take (MOST_BYTES + 1)) left) (λ given. bytes.items ≡ given) → IfOk r (λ kept. IfSome left (λ all. kept.items ≡ all))
within_all (Ok kept) bytes left within given =
    subst (λ (v : Vec ℕ Global). IfSome left (λ all. v.items ≡ all)) (sym within.0) (read_all left MOST_BYTES bytes.items given (omega (arith, bytes.ok.0, within.1)))
within_all (Err fault) bytes left within given = tt

pub returns-in-Ok-clause-ok : goal.returns-in-Ok-clause-ok
returns-in-Ok-clause-ok g c =
    let given = rw (c.take.ensures.limit, c.take.ensures.inner, c.new-bytes.ensures.items) at c.in-Ok.ensures.bytes in
    within_all c.within_limit.result c.read_to_end.new.buf (g.S.Read.remaining c.args.source) c.within_limit.ensures given
