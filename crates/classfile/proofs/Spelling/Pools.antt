-- The reader of a constant pool spells one.
use Rattle.std.proofs.Common.{◌≡◌, ℕ, ◌-◌, Bool, true, false, List, [], ◌∷◌, ◌++◌, append_assoc, append-nil, refl, sym, ap, subst, ◌∙◌}
use Rattle.classfile.specs.declared.pool.Entry.{Entry}
use Rattle.classfile.specs.declared.pool.Entry.TheVariants as entry
use Rattle.classfile.specs.Scan.{Scan}
use Rattle.classfile.specs.Entries.{is_wide, place_at, next_place, places_at, pool_at}
use Rattle.classfile.specs.Spelled.Pieces.{Piece, Then, number}
use Rattle.classfile.specs.Spelled.Pool.{entry_piece, is_behind, ArePlaced, pool_piece}
use Rattle.classfile.proofs.Spelling.Calculus.{Spells, none, pair, in_turn, ending, pure, same}
use Rattle.classfile.proofs.Spelling.Items.{number_spells}
use Rattle.classfile.proofs.Spelling.Repeating.{Steps, Row, repeat_spells, quiet}
use Rattle.classfile.proofs.Spelling.Entries.{entry_spells}

behind_only : (e : Entry) → is_behind e ≡ true → e ≡ entry.Behind
behind_only entry.Behind h = refl
behind_only _ h = absurd cc

-- the places so far, and whether the last is that of a Long or a Double
abbrev State : Type 0
State = List Entry × Bool

abbrev Placing : State → Entry → State → Type 0
Placing x e y = (y.0 ≡ x.0 ++ e ∷ []) × (is_behind e ≡ x.1) × (y.1 ≡ is_wide e)

placed : (x : State) (entries : List Entry) (z : State) → Steps Placing x entries z → (z.0 ≡ x.0 ++ entries) × ArePlaced x.1 entries
placed x [] z h = (ap (λ (y : State). y.0) h ∙ sym (append-nil x.0), tt)
placed x (e ∷ others) z h =
    let y = h.0 in
    let more = placed y others z h.2 in
    (more.0 ∙ ap (λ (l : List Entry). l ++ others) h.1.0 ∙ append_assoc x.0 (e ∷ []) others, (h.1.1, subst (λ (b : Bool). ArePlaced b others) h.1.2 more.1))

place_all : (before entries : List Entry) (wide : Bool) → ArePlaced wide entries → (last : Bool) × Steps Placing (before, wide) entries (before ++ entries, last)
place_all before [] wide h = (wide, ap (λ (l : List Entry). (l, wide)) (append-nil before))
place_all before (e ∷ others) wide h =
    let more = place_all (before ++ e ∷ []) others (is_wide e) h.1 in
    let all : Steps Placing (before ++ e ∷ [], is_wide e) others (before ++ e ∷ others, more.0) = subst (λ (l : List Entry). Steps Placing (before ++ e ∷ [], is_wide e) others (l, more.0)) (append_assoc before (e ∷ []) others) more.1 in
    (more.0, ((before ++ e ∷ [], is_wide e), (refl, h.0, refl), all))

module _ (pool : List Entry) (version : ℕ) where
  abbrev out : State → Scan → List Entry × Bool × Scan
  out x s = (x.0, x.1, s)

  abbrev at_place : Entry × Bool → Scan → Entry × Bool × Scan
  at_place p s = (p.0, p.1, s)

  abbrev Place : Bool → Entry × Bool → Piece
  Place wide p = λ at bytes. entry_piece version pool p.0 at bytes × (is_behind p.0 ≡ wide) × (p.1 ≡ is_wide p.0)

  second_place : (p : Entry × Bool) (at : ℕ) (bytes : List ℕ) → Place true p at bytes → (p ≡ (entry.Behind, false)) × (bytes ≡ [])
  second_place p at bytes h =
      let e = behind_only p.0 h.1 in
      let w : p.1 ≡ false = h.2 ∙ ap is_wide e in
      (ap (λ (x : Entry). (x, p.1)) e ∙ ap (λ (b : Bool). (entry.Behind, b)) w, subst (λ (x : Entry). entry_piece version pool x at bytes) e h.0)

  place_spells : (wide : Bool) → Spells pool at_place (place_at version wide) (Place wide) none
  place_spells true =
      same pool (λ p at bytes h. subst (λ (x : Entry × Bool). Place true x at bytes) (sym h.0) (h.1, refl, refl)) second_place
      (pure pool at_place (entry.Behind, false))
  place_spells false =
      ending pool _ at_place (Place false) none (λ (e : Entry). (e, is_wide e)) (λ e s. refl)
      (λ e at bytes h. ((h.1, h.0, refl), refl))
      (λ p at bytes h. (p.0, ap (λ (b : Bool). (p.0, b)) (sym h.2), (h.1, h.0)))
      (entry_spells pool version)

  next_spells : (x : State) → Spells pool (λ (p : Entry × State) (t : Scan). out p.1 t) (λ s. next_place version (out x s)) (λ p at bytes. entry_piece version pool p.0 at bytes × Placing x p.0 p.1) none
  next_spells x =
      ending pool _ (λ (p : Entry × State) (t : Scan). out p.1 t) (λ p at bytes. entry_piece version pool p.0 at bytes × Placing x p.0 p.1) none (λ (p : Entry × Bool). (p.0, (x.0 ++ p.0 ∷ [], p.1))) (λ p s. refl)
      (λ p at bytes h. ((h.0, (refl, h.1, h.2)), refl))
      (λ p at bytes h. ((p.0, p.1.1), ap (λ (l : List Entry). (p.0, (l, p.1.1))) (sym h.1.0), (h.0, h.1.1, h.1.2)))
      (place_spells x.1)

  abbrev Places : List Entry × State → Piece
  Places p = λ at bytes. (n : ℕ) × Then (number 2 n) (Row pool (entry_piece version pool) Placing (λ e. []) out (next_place version) (n - 1) ([], false) p) at bytes

  places_spells : Spells pool (λ (p : List Entry × State) (t : Scan). out p.1 t) (places_at version) Places none
  places_spells = in_turn pool _ (number_spells pool 2) (λ n. quiet pool (repeat_spells pool (entry_piece version pool) Placing none out (next_place version) next_spells (n - 1) ([], false)))

  pub pool_spells : Spells pool pair (pool_at version) (pool_piece version pool) none
  pool_spells =
      ending pool _ pair (pool_piece version pool) none (λ (p : List Entry × State). p.1.0) (λ p s. refl)
      (λ p at bytes h.
      let t = h.1 in
      let r = t.second in
      let all = placed ([], false) p.0 p.1 r.2 in
      let P : List Entry → Type 0 = λ entries. pool_piece version pool entries at bytes in
      (subst P (sym all.0) (h.0, sym r.0, all.1, record { front = t.front; back = t.back; whole = t.whole; first = t.first; second = r.1 }), refl))
      (λ entries at bytes h.
      let t = h.3 in
      let all = place_all [] entries false h.2 in
      ((entries, (entries, all.0)), refl, (h.0, record { front = t.front; back = t.back; whole = t.whole; first = t.first; second = (sym h.1, t.second, all.1) })))
      places_spells
