-- What the classes of a way up give, as a loop goes up along them.
use Rattle.std.proofs.Common.{◌≡◌, ℕ, zero, suc, ◌+◌, ◌-◌, ◌<◌, ◌≤◌, List, [], ◌∷◌, ◌++◌, Option, Some, None, option_map, option_to_list, filter_map, refl, sym, ap, ◌∙◌, append-nil, arith}
use Rattle.std.specs.List.{cons_option}
use Rattle.jworld.specs.declared.ids.ClassId.{ClassId}
use Rattle.jworld.specs.declared.ids.MethodId.{MethodId}
use Rattle.jworld.specs.Classes.{World, super_of}
use Rattle.jworld.specs.Upwards.{on_some, chain}
use Rattle.jworld.proofs.Walking.{way_up}

chain_step : (files : World) (most class : ℕ) → chain (suc most) files class ≡ class ∷ on_some (chain most files) (super_of files class)
unfolding chain
chain_step files most class = refl

chain_end : (files : World) (class : ℕ) → chain 0 files class ≡ []
unfolding chain
chain_end files class = refl

no_way : (files : World) (next : Option ClassId) → way_up files 0 next ≡ []
no_way files None = refl
no_way files (Some class) = chain_end files class.n

pub way_ended : (files : World) (end i : ℕ) (next : Option ClassId) → end ≤ i → way_up files (end - i) next ≡ []
way_ended files end i next le =
    let e : end - i ≡ 0 = omega (le, arith) in
    ap (λ (most : ℕ). way_up files most next) e ∙ no_way files next

module _ (files : World) (end i : ℕ) (find : ℕ → Option MethodId) where
  -- one class more
  pub climbed : (class : ClassId) (above : Option ClassId) → i < end → option_map (λ (c : ClassId). c.n) above ≡ super_of files class.n
      → filter_map find (way_up files (end - i) (Some class)) ≡ cons_option (find class.n) (filter_map find (way_up files (end - (i + 1)) above))
  climbed class above lt e =
      let left : end - i ≡ suc (end - (i + 1)) = omega (lt, arith) in
      ap (λ (most : ℕ). filter_map find (chain most files class.n)) left
      ∙ ap (filter_map find) (chain_step files (end - (i + 1)) class.n)
      ∙ ap (λ (next : Option ℕ). cons_option (find class.n) (filter_map find (on_some (chain (end - (i + 1)) files) next))) (sym e)

-- where a class gives a method, and where it gives none
pub with_one : (found rest : List MethodId) (method : Option MethodId) → (found ++ option_to_list method) ++ rest ≡ found ++ cons_option method rest
with_one [] rest None = refl
with_one [] rest (Some method) = refl
with_one (m ∷ found) rest method = ap (λ (ms : List MethodId). m ∷ ms) (with_one found rest method)
