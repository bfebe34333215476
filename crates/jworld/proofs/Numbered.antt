-- The tables of numbered classes.
use Rattle.std.proofs.Common.{◌≡◌, ℕ, zero, suc, ◌-◌, false, nat_lt, Option, Some, None, option_and_then, option_map, slice_get, refl, arith}
use Rattle.std.proofs.lemmas.Grind.{common_steps}
use Rattle.std.proofs.lemmas.Option.{slice_get-map}
use Rattle.classfile.specs.ClassFile.{ClassInfo}
use Rattle.jworld.specs.Classes.{World, class_named, super_of}
use Rattle.jworld.specs.Held.{supers_in}

joined : {A B : Type 0} (f : A → Option B) (x : Option A) → option_and_then (λ (y : Option B). y) (option_map f x) ≡ option_and_then f x
joined f None = refl
joined f (Some x) = refl

four_more : (n : ℕ) → nat_lt (suc (suc (suc (suc n)))) 4 ≡ false
four_more n = grind (arith, common_steps)

four_less : (n : ℕ) → suc (suc (suc (suc n))) - 4 ≡ n
four_less n = omega arith

-- the table has what a file says
pub super_of-supers_in : (files : World) (n : ℕ) → option_and_then (λ (above : Option ℕ). above) (slice_get (supers_in files) n) ≡ super_of files n
super_of-supers_in files zero = refl
super_of-supers_in files (suc zero) = refl
super_of-supers_in files (suc (suc zero)) = refl
super_of-supers_in files (suc (suc (suc zero))) = refl
super_of-supers_in files (suc (suc (suc (suc n)))) =
    rw (slice_get-map (λ (file : ClassInfo). class_named files file.super_name) files n, joined (λ (file : ClassInfo). class_named files file.super_name) (slice_get files n), four_more n, four_less n) refl
