-- Classes from their count on have no supers.
use Rattle.std.proofs.Common.{◌≡◌, ℕ, ◌-◌, ◌≤◌, ltb, false, [], None, slice_get, refl, arith, le-ltb}
use Rattle.std.proofs.lemmas.Option.{slice_get_past}
use Rattle.jworld.specs.Classes.{World, count}
use Rattle.jworld.specs.Above.{supers_of}

pub supers_past : (files : World) (class : ℕ) → count files ≤ class → supers_of files class ≡ []
supers_past files class past =
    let is_file : ltb class 4 ≡ false = le-ltb class 4 (omega arith) in
    let no_file : slice_get files (class - 4) ≡ None = slice_get_past files (class - 4) (omega arith) in
    rw (is_file, no_file) refl
