-- A method that is inherited is split exactly where a class above, of another package, is among those that declare it alone.
use Rattle.std.proofs.Common.{◌≡◌, ℕ, Bool, true, ◌&&◌, not, bytes_eq, ap, ◌∙◌}
use Rattle.classfile.specs.ClassFile.{MethodInfo}
use Rattle.jworld.specs.Classes.{World, count}
use Rattle.jworld.specs.Above.{is_above}
use Rattle.jworld.specs.Members.{is_inherited}
use Rattle.jworld.specs.Packages.{package_at, is_split}
use Rattle.jworld.specs.Alone.{alone_among}

abbrev pub is_apart : World → ℕ → ℕ → Bool
is_apart files class other = is_above files class other && not (bytes_eq (package_at files other) (package_at files class))

pub split_from : (files : World) (class : ℕ) (method : MethodInfo) (b : Bool) → true ≡ is_inherited method → b ≡ alone_among files (count files) (is_apart files class) method.name method.descriptor
    → b ≡ is_split files class method
split_from files class method b inherited is =
    is ∙ ap (λ (i : Bool). i && alone_among files (count files) (is_apart files class) method.name method.descriptor) inherited
