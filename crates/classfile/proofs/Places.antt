-- The places of a constant pool, one after the other, as a loop reads them.
use Rattle.std.proofs.Common.{◌≡◌, ℕ, List, [], ◌∷◌, ◌++◌, Bool, Ok, Err, refl}
use Rattle.kes_text.specs.declared.refusal.Stop.{Stop}
use Rattle.kes_text.specs.declared.refusal.Stop.TheVariants.{Refused, NoMemory}
use Rattle.classfile.specs.declared.pool.Entry.{Entry}
use Rattle.classfile.specs.Scan.{Scan, OrNoMemory}
use Rattle.classfile.specs.Entries.{place_at, next_place}

-- a place that is read
pub read_place : (version : ℕ) (before : List Entry) (wide : Bool) (s : Scan) (found : Entry) (next : Bool) (behind : Scan) → Ok (found, next, behind) ≡ place_at version wide s
    → Ok (before ++ found ∷ [], next, behind) ≡ next_place version (before, wide, s)
read_place version before wide s found next behind h = rw (← h) refl

-- a place that is refused, or for which there is no memory
pub no_place : (version : ℕ) (before : List Entry) (wide : Bool) (s : Scan) (e : Stop) → OrNoMemory (Err e) (place_at version wide s)
    → OrNoMemory (Err e) (next_place version (before, wide, s))
no_place version before wide s (Refused r) h = rw (← h) refl
no_place version before wide s NoMemory h = tt
