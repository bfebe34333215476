-- Initialisers, kept in the order of their keys.
use Rattle.std.proofs.Common.{◌≡◌, ℕ, suc, ◌+◌, ◌-◌, ◌<◌, List, [], ◌∷◌, map, length, Option, Some, None, option_map, refl, sym, ap, ◌∙◌, arith}
use Rattle.std.proofs.Common.{Bor}
use Rattle.std.specs.Ordering.{nat_cmp, match_ordering, ordering_then}
use Rattle.std.specs.declared.cmp.Ordering.{Ordering}
use Rattle.std.specs.declared.cmp.Ordering.TheVariants.{Less, Equal, Greater}
use Rattle.std.specs.BTreeMap.{insert_entry}
use Rattle.std.specs.Cmp.Lexicographic.{slice_cmp}
use Rattle.jworld.specs.declared.ids.ClassId.{ClassId}
use Rattle.jworld.specs.Classes.{World, super_of}
use Rattle.jworld.specs.Upwards.{on_some, chain}
use Rattle.jworld.proofs.Walking.{way_up}
use Rattle.reach.specs.Starts.{Key, Starts, comes_before}

abbrev pub KeptKey : Type 0
KeptKey = ℕ × ℕ × Bor (List ℕ)

abbrev pub Kept : Type 0
Kept = List (KeptKey × ℕ)

abbrev pub seen : KeptKey → Key
seen key = (key.0, key.1, key.2.now)

abbrev pub view : Kept → Starts
view kept = map (λ e. ((e.0.0, e.0.1, e.0.2.now), e.1)) kept

abbrev pub kept_before : KeptKey → KeptKey → Ordering
kept_before one other = ordering_then (ordering_then (nat_cmp one.0 other.0) (nat_cmp one.1 other.1)) (slice_cmp nat_cmp one.2.now other.2.now)

pub put_kept : (kept : Kept) (key : KeptKey) (number : ℕ) → view (insert_entry kept_before kept key number) ≡ insert_entry comes_before (view kept) (seen key) number
put_kept [] key number = refl
put_kept (e ∷ kept) key number = by_order (put_kept kept key number) (kept_before key e.0)
  where
    by_order : view (insert_entry kept_before kept key number) ≡ insert_entry comes_before (view kept) (seen key) number → (o : Ordering)
        → view (match_ordering o ((key, number) ∷ e ∷ kept) ((e.0, number) ∷ kept) (e ∷ insert_entry kept_before kept key number))
        ≡ match_ordering o ((seen key, number) ∷ (seen e.0, e.1) ∷ view kept) ((seen e.0, number) ∷ view kept) ((seen e.0, e.1) ∷ insert_entry comes_before (view kept) (seen key) number)
    by_order behind Less = refl
    by_order behind Equal = refl
    by_order behind Greater = ap (λ (starts : Starts). (seen e.0, e.1) ∷ starts) behind

pub valued : (kept : Kept) → map (λ e. e.1) kept ≡ map (λ start. start.1) (view kept)
valued [] = refl
valued (e ∷ kept) = ap (λ (numbers : List ℕ). e.1 ∷ numbers) (valued kept)

-- ---- one class more on the way up

chain_step : (files : World) (most class : ℕ) → chain (suc most) files class ≡ class ∷ on_some (chain most files) (super_of files class)
unfolding chain
chain_step files most class = refl

pub higher : (files : World) (end i : ℕ) (class : ClassId) (above : Option ClassId) → i < end → option_map (λ (c : ClassId). c.n) above ≡ super_of files class.n
    → length (way_up files (end - i) (Some class)) ≡ suc (length (way_up files (end - (i + 1)) above))
higher files end i class above lt e =
    let left : end - i ≡ suc (end - (i + 1)) = omega (lt, arith) in
    ap (λ (most : ℕ). length (chain most files class.n)) left
    ∙ ap length (chain_step files (end - (i + 1)) class.n)
    ∙ ap (λ (next : Option ℕ). suc (length (on_some (chain (end - (i + 1)) files) next))) (sym e)
