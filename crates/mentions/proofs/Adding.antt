-- Entries that are added one behind the other.
use Rattle.std.proofs.Common.{◌≡◌, List, [], ◌∷◌, ◌++◌, refl}
use Rattle.mentions.specs.Bindings.{Entry, add, add_all}

pub add_last : (more entries : List Entry) (entry : Entry) → add_all entries (more ++ entry ∷ []) ≡ add (add_all entries more) entry
add_last [] entries entry = refl
add_last (e ∷ more) entries entry = add_last more (add entries e) entry
