-- The classes of a way up, one by one.
use Rattle.std.proofs.Common.{◌≡◌, ℕ, suc, ◌+◌, ◌-◌, ◌<◌, ◌≤◌, [], ◌∷◌, Option, Some, None, option_map, refl, sym, ap, ◌∙◌, arith}
use Rattle.jworld.specs.declared.ids.ClassId.{ClassId}
use Rattle.jworld.specs.Classes.{World, super_of}
use Rattle.jworld.specs.Upwards.{on_some, chain}
use Rattle.jworld.proofs.Walking.{way_up, number}

chain_step : (files : World) (most class : ℕ) → chain (suc most) files class ≡ class ∷ on_some (chain most files) (super_of files class)
unfolding chain
chain_step files most class = refl

chain_end : (files : World) (class : ℕ) → chain 0 files class ≡ []
unfolding chain
chain_end files class = refl

no_way : (files : World) (next : Option ClassId) → way_up files 0 next ≡ []
no_way files None = refl
no_way files (Some class) = chain_end files class.n

module _ (files : World) (end i : ℕ) where
  pub way_ended : (next : Option ClassId) → end ≤ i → way_up files (end - i) next ≡ []
  way_ended next le =
      let e : end - i ≡ 0 = omega (le, arith) in
      ap (λ (most : ℕ). way_up files most next) e ∙ no_way files next

  -- one class more
  pub climbed : (class : ClassId) (above : Option ClassId) → i < end → option_map number above ≡ super_of files class.n
      → way_up files (end - i) (Some class) ≡ class.n ∷ way_up files (end - (i + 1)) above
  climbed class above lt e =
      let left : end - i ≡ suc (end - (i + 1)) = omega (lt, arith) in
      ap (λ (most : ℕ). chain most files class.n) left ∙ chain_step files (end - (i + 1)) class.n
      ∙ ap (λ (next : Option ℕ). class.n ∷ on_some (chain (end - (i + 1)) files) next) (sym e)
