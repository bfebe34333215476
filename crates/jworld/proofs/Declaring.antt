-- The lists of superinterfaces.
use Rattle.std.proofs.Common.{◌≡◌, ℕ, suc, ◌+◌, ◌≤◌, Bool, true, false, ◌&&◌, ◌||◌, ◌==◌, cond, List, [], ◌∷◌, filter, length, is_some, refl, ap, subst, ◌∙◌, arith}
use Rattle.std.specs.List.{list_any, range_with_len}
use Rattle.jnames.specs.declared.keys.MethodKey.{MethodKey}
use Rattle.jworld.specs.Classes.{World, count, is_interface}
use Rattle.jworld.specs.Above.{supers_of, is_above}
use Rattle.jworld.specs.Ways.{leads}
use Rattle.jworld.specs.Superinterfaces.{is_superinterface, superinterfaces}
use Rattle.jworld.specs.Methods.{inherited_method, declaring}
use Rattle.jworld.proofs.NoSupers.{supers_past}
use Rattle.jworld.proofs.Ranges.{filter-filter}

-- whether a class declares a method that is inherited
abbrev pub declares : World → MethodKey → ℕ → Bool
declares files key above = is_some (inherited_method files key above)

pub declaring_among : (files : World) (key : MethodKey) (class : ℕ) → filter (declares files key) (superinterfaces files class) ≡ declaring files key class
declaring_among files key class = filter-filter (declares files key) (is_superinterface files class) (range_with_len 0 (count files))

-- ---- a number from their count on has none

leads_nowhere : (files : World) (most class above : ℕ) → count files ≤ class → leads (suc most) (supers_of files) class above ≡ false
unfolding leads
leads_nowhere files most class above past =
    ap (λ (nexts : List ℕ). list_any (λ next. next == above || leads most (supers_of files) next above) nexts) (supers_past files class past)

not_above : (files : World) (class above : ℕ) → count files ≤ class → is_above files class above ≡ false
unfolding is_above
not_above files class above past =
    let e : suc (3 + length files) ≡ count files = omega arith in
    subst (λ (most : ℕ). leads most (supers_of files) class above ≡ false) e (leads_nowhere files (3 + length files) class above past)

and_false : (a : Bool) → (a && false) ≡ false
and_false true = refl
and_false false = refl

no_superinterface : (files : World) (class above : ℕ) → count files ≤ class → is_superinterface files class above ≡ false
no_superinterface files class above past =
    ap (λ (b : Bool). is_interface files above && b) (not_above files class above past) ∙ and_false (is_interface files above)

filter_none : (test : ℕ → Bool) (xs : List ℕ) → ((x : ℕ) → test x ≡ false) → filter test xs ≡ []
filter_none test [] none = refl
filter_none test (x ∷ xs) none = ap (λ (b : Bool). cond b (x ∷ filter test xs) (filter test xs)) (none x) ∙ filter_none test xs none

pub superinterfaces_past : (files : World) (class : ℕ) → count files ≤ class → superinterfaces files class ≡ []
superinterfaces_past files class past = filter_none (is_superinterface files class) (range_with_len 0 (count files)) (λ above. no_superinterface files class above past)
