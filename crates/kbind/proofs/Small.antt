-- Each class of a world has at most 65,536 methods.
use Rattle.std.proofs.Common.{◌≡◌, ℕ, ◌+◌, ◌-◌, ◌<◌, ◌≤◌, Bool, false, length, get_or, None, slice_get, nat_lt, if◌then◌else◌, ap, ◌∙◌, arith}
use Rattle.std.proofs.lemmas.Bool.{le-ltb}
use Rattle.std.proofs.lemmas.Option.{slice_get-get_or}
use Rattle.classfile.specs.ClassFile.{ClassInfo}
use Rattle.jworld.specs.Classes.{World, file_of}
use Rattle.jworld.specs.Faults.{world_fault}
use Rattle.jworld.proofs.Faultless.{is_small}

file_at : (files : World) (k : ℕ) → file_of files (k + 4) ≡ slice_get files k
file_at files k =
    let built_in : nat_lt (k + 4) 4 ≡ false = le-ltb (k + 4) 4 (omega arith) in
    let place : k + 4 - 4 ≡ k = omega arith in
    ap (λ (b : Bool). if b then None else slice_get files (k + 4 - 4)) built_in ∙ ap (slice_get files) place

pub has_few_methods : (files : World) → world_fault files ≡ None → (k : ℕ) (d : ClassInfo) → k < length files → length (get_or files k d).methods ≤ 65536
has_few_methods files faultless k d within =
    let few = is_small files (k + 4) (get_or files k d) faultless (file_at files k ∙ slice_get-get_or files k d within) in
    omega (arith, few)
