-- The constant pool of an accepted class file is sound.
use Rattle.std.proofs.Common.{◌≡◌, ℕ, List, [], Option, Some, None, Result, Ok, Err, true, IfOk, refl, sym, ap, subst, ◌∙◌}
use Rattle.std.specs.List.{list_all}
use Rattle.kes_text.specs.declared.refusal.Refusal.{Refusal}
use Rattle.kes_text.specs.declared.refusal.Stop.{Stop}
use Rattle.classfile.specs.declared.uses.Wanted.TheVariants as wanted
use Rattle.classfile.specs.declared.pool.Entry.{Entry}
use Rattle.classfile.specs.ClassFile.{ClassInfo}
use Rattle.classfile.specs.Scan.{Scan, OrNoMemory, ◌>>=◌, number_at, anew, index_at}
use Rattle.classfile.specs.Entries.{pool_at}
use Rattle.classfile.specs.Attributes.{attributes_at}
use Rattle.classfile.specs.Members.{fields_at, methods_at}
use Rattle.classfile.specs.Faults.{or_else, first_fault}
use Rattle.classfile.specs.Reading.{version_at, class_named, super_at, interfaces_at, ended, body_at, structure_at, unless, class_file}
use Rattle.classfile.specs.Sound.{IsSound}
use Rattle.classfile.proofs.Backing.{bound, ok_is, backed, pool_backs}
use Rattle.classfile.proofs.Soundness.{fits, all_pass, sound}

-- what holds of every answer
record Always {B : Type 0} (P : B → Type 0) (r : Result B Stop) : Type 0 where
  always : (b : B) → Ok b ≡ r → P b

behind : {A B : Type 0} (P : B → Type 0) (r : Result A Stop) {f : A → Result B Stop} → ((a : A) → Always P (f a)) → Always P (r >>= f)
behind P r {f = f} later = record { always = λ b e. let a = bound r f b e in (later a.0).always b a.2 }

with_pool : (pool : List Entry) (class : ClassInfo) (s : Scan) → class.pool ≡ pool → Always (λ (z : ClassInfo × Scan). z.0.pool ≡ pool) (Ok (class, s))
with_pool pool class s is = record { always = λ z known. ap (λ (x : ClassInfo × Scan). x.0.pool) (ok_is z (class, s) _ refl known) ∙ is }

-- the class has the pool that it was read with
pub keeps_pool : (version : ℕ) (pool : List Entry) (s : Scan) (y : ClassInfo × Scan) → Ok y ≡ body_at version pool s → y.0.pool ≡ pool
unfolding body_at
keeps_pool version pool s y e =
    let P : ClassInfo × Scan → Type 0 = λ z. z.0.pool ≡ pool in
    let all : Always P (body_at version pool s) =
    behind P (number_at 2 s) (λ flags.
    behind P (index_at wanted.Class flags.1) (λ this.
    behind P (super_at (class_named pool this.0) this.1) (λ super.
    behind P (interfaces_at pool super.1) (λ interfaces.
    behind P (fields_at pool interfaces.1) (λ fields.
    behind P (methods_at pool fields.1) (λ methods.
    behind P (attributes_at methods.1) (λ attributes.
    behind P (ended attributes) (λ end.
    with_pool pool (record { version = version; flags = flags.0; name = class_named pool this.0; super_name = class_named pool super.0; super_at = this.1.place; interfaces = interfaces.0; fields = fields.0; methods = methods.0; pool = pool }) end refl)))))))) in
    all.always y e

pub no_fault : (first second : Option Refusal) (made class : ClassInfo) → Ok class ≡ unless (or_else first second) made → (first ≡ None) × (class ≡ made)
no_fault (Some x) second made class e = absurd cc
no_fault None (Some x) made class e = absurd cc
no_fault None None made class e = (refl, ok_is class made _ refl e)

pub pool_is_sound : (bytes : List ℕ) (class : ClassInfo) → Ok class ≡ class_file bytes → IsSound class.pool
unfolding structure_at
pool_is_sound bytes class e =
    let start : Scan = record { input = bytes; place = 0; uses = [] } in
    let a = bound (structure_at start) (λ read. unless (or_else (first_fault read.0.pool [] read.1.uses) (first_fault read.0.pool [] read.2.uses)) read.0) class e in
    let fine = no_fault (first_fault a.0.0.pool [] a.0.1.uses) (first_fault a.0.0.pool [] a.0.2.uses) a.0.0 class a.2 in
    let b = bound (version_at start) (λ version. pool_at version.0 version.1 >>= λ pool. body_at version.0 pool.0 (anew pool.1) >>= λ class. Ok (class.0, pool.1, class.1)) a.0 a.1 in
    let c = bound (pool_at b.0.0 b.0.1) (λ pool. body_at b.0.0 pool.0 (anew pool.1) >>= λ class. Ok (class.0, pool.1, class.1)) a.0 b.2 in
    let d = bound (body_at b.0.0 c.0.0 (anew c.0.1)) (λ class. Ok (class.0, c.0.1, class.1)) a.0 c.2 in
    let is : a.0 ≡ (d.0.0, c.0.1, d.0.1) = ok_is a.0 (d.0.0, c.0.1, d.0.1) _ refl d.2 in
    let same : a.0.0.pool ≡ c.0.0 = ap (λ (z : ClassInfo × Scan × Scan). z.0.pool) is ∙ keeps_pool b.0.0 c.0.0 (anew c.0.1) d.0 d.1 in
    let noted : a.0.1 ≡ c.0.1 = ap (λ (z : ClassInfo × Scan × Scan). z.1) is in
    let passed : first_fault c.0.0 [] c.0.1.uses ≡ None = ap (λ (p : List Entry). first_fault p [] c.0.1.uses) (sym same) ∙ ap (λ (t : Scan). first_fault a.0.0.pool [] t.uses) (sym noted) ∙ fine.0 in
    let backing : list_all (backed (fits c.0.0)) c.0.0 ≡ true = pool_backs (fits c.0.0) b.0.0 b.0.1 c.0 c.1 (all_pass c.0.0 [] c.0.1.uses passed) in
    let pool_is : class.pool ≡ c.0.0 = ap (λ (z : ClassInfo). z.pool) fine.1 ∙ same in
    subst IsSound (sym pool_is) (sound c.0.0 backing)

-- whatever the reading answers
pub sound_of : (bytes : List ℕ) (r : Result ClassInfo Stop) → OrNoMemory r (class_file bytes) → IfOk r (λ class. IsSound class.pool)
sound_of bytes (Ok class) e = pool_is_sound bytes class e
sound_of bytes (Err stop) e = tt
