-- What holds of the names and numbers that are read.
use Rattle.std.proofs.Common.{◌≡◌, ℕ, ◌<◌, ◌≤◌, List, Bool, true, length, take, All, Some, Ok, ap, subst, ◌∙◌, arith, leb-true, get_or-take, length-take}
use Rattle.std.specs.Prelude.{nat_le, ◌&&◌}
use Rattle.std.specs.List.{prefix_len}
use Rattle.std.proofs.lemmas.List.Sums.{prefix_len_passes}
use Rattle.std.proofs.lemmas.Option.{none-some, same_Some}
use Rattle.oil_in.specs.declared.pieces.Number.{Number}
use Rattle.oil_in.specs.declared.pieces.Number.TheVariants.{Large, Value}
use Rattle.oil_in.specs.Pieces.{is_name_byte, begins_with_letter, run, behind, name_at}
use Rattle.oil_in.specs.Forms.{name_in, number_line}
use Rattle.oil_in.specs.Scan.{Scan, line, within, number_between}
use Rattle.oil_in.specs.Says.{IsName}
use Rattle.oil_in.proofs.PieceLemmas.{if_some}
use Rattle.oil_in.proofs.Inversion.{bind_some, bind_ok, ranged_ok, both_true}

run_passes : (passes : ℕ → Bool) (bytes : List ℕ) → All (λ c. passes c ≡ true) (take (prefix_len passes bytes) bytes)
run_passes passes bytes k d lt =
    let n = prefix_len passes bytes in
    let within : k < n = omega (arith, length-take n bytes) in
    ap passes (get_or-take n bytes k d within) ∙ prefix_len_passes passes bytes k d within

is_name : (bytes : List ℕ) (x : List ℕ × List ℕ) → name_at bytes ≡ Some x → IsName (record { text = x.0 })
unfolding name_at
is_name bytes x h =
    let w = run is_name_byte bytes in
    let p = if_some (begins_with_letter w.0 && nat_le (length w.0) 32) (Some w) x h in
    let b = both_true (begins_with_letter w.0) (nat_le (length w.0) 32) p.0 in
    let P : List ℕ × List ℕ → Type 0 = λ y. IsName (record { text = y.0 }) in
    subst P (same_Some w x p.1) (record { begins = b.0; each = run_passes is_name_byte bytes; short = leb-true (length w.0) 32 b.1 })

pub named_in : (front back bytes : List ℕ) (x : List ℕ × List ℕ) → name_in front back bytes ≡ Some x → IsName (record { text = x.0 })
unfolding name_in
named_in front back bytes x h =
    let word = bind_some (behind front bytes) _ x h in
    let name = bind_some (name_at word.0) _ x word.2 in
    let rest = bind_some (behind back name.0.1) _ x name.2 in
    let P : List ℕ × List ℕ → Type 0 = λ y. IsName (record { text = y.0 }) in
    subst P (same_Some (name.0.0, rest.0) x rest.2) (is_name word.0 name.0 name.1)

within_bounds : (low high : ℕ) (number : Number) (n : ℕ) → within low high number ≡ Some n → (low ≤ n) × (n ≤ high)
within_bounds low high Large n h = absurd (none-some n h)
within_bounds low high (Value m) n h =
    let p = if_some (nat_le low m && nat_le m high) (Some m) n h in
    let b = both_true (nat_le low m) (nat_le m high) p.0 in
    let P : ℕ → Type 0 = λ k. (low ≤ k) × (k ≤ high) in
    subst P (same_Some m n p.1) (leb-true low m b.0, leb-true m high b.1)

pub is_between : (front : List ℕ) (low high : ℕ) (s : Scan) (y : ℕ × Scan) → number_between front low high s ≡ Ok y → (low ≤ y.0) × (y.0 ≤ high)
unfolding number_between
is_between front low high s y h =
    let p = bind_ok (line (number_line front s.text) s) _ y h in
    let r = ranged_ok (within low high p.0.0) s p.0.1 y p.2 in
    let P : ℕ × Scan → Type 0 = λ z. (low ≤ z.0) × (z.0 ≤ high) in
    subst P r.2 (within_bounds low high p.0.0 r.0 r.1)
