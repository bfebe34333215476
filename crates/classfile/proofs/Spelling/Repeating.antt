-- Readers that repeat spell tables.
use Rattle.std.proofs.Common.{◌≡◌, ℕ, zero, suc, List, [], ◌∷◌, ◌++◌, length, flat_map, Result, append_assoc, append-nil, refl, sym, ap, subst, ◌∙◌, arith}
use Rattle.kes_text.specs.declared.refusal.Stop.{Stop}
use Rattle.classfile.specs.declared.pool.Entry.{Entry}
use Rattle.classfile.specs.Seen.{Key}
use Rattle.classfile.specs.Scan.{Scan, Read, ◌>>=◌, number_at, repeat, collect, many}
use Rattle.classfile.specs.Spelled.Pieces.{Piece, Then, number, each, table}
use Rattle.classfile.proofs.Spelling.Calculus.{Spells, none, pair, keyed_in_turn, ending, told_as, pure, same}
use Rattle.classfile.proofs.Spelling.Items.{number_spells}

-- a state that goes on with each element
abbrev pub Steps : {X A : Type 0} → (X → A → X → Type 0) → X → List A → X → Type 0
Steps step x [] z = z ≡ x
Steps {X} step x (a ∷ others) z = (y : X) × step x a y × Steps step y others z

tail : {A : Type 0} → List A → List A
tail [] = []
tail (a ∷ others) = others

module _ (pool : List Entry) {A S X : Type 0} (one : A → Piece) (St : X → A → X → Type 0) (k : A → List Key) (out : X → Scan → S) (step : S → Result S Stop) where
  -- so many, from a state to a state
  abbrev pub Row : ℕ → X → List A × X → Piece
  Row n x p = λ at bytes. (length p.0 ≡ n) × each one p.0 at bytes × Steps St x p.0 p.1

  -- the first, and those behind it
  abbrev Behind : ℕ → A × X → List A × X → Piece
  Behind n a c = λ at bytes. (others : List A) × (c.0 ≡ a.0 ∷ others) × (length others ≡ n) × each one others at bytes × Steps St a.1 others c.1

  abbrev First : X → A × X → Piece
  First x a = λ at bytes. one a.0 at bytes × St x a.0 a.1

  empty : (x : X) (w : List A × X) (at : ℕ) (bytes : List ℕ) → Row zero x w at bytes → (w ≡ ([], x)) × (bytes ≡ [])
  empty x ([], z) at bytes h = (ap (λ (y : X). ([], y)) h.2, h.1)
  empty x (a ∷ others, z) at bytes h = absurd (omega arith)

  more_keys : (a : A × X) (c : List A × X) (others : List A) → c.0 ≡ a.0 ∷ others → k a.0 ++ flat_map k (tail c.0) ≡ flat_map k c.0
  unfolding tail
  more_keys a c others e = ap (λ (l : List A). k a.0 ++ flat_map k (tail l)) e ∙ ap (flat_map k) (sym e)

  joined : (n : ℕ) (x : X) (c : List A × X) (at : ℕ) (bytes : List ℕ) → (a : A × X) × Then (First x a) (Behind n a c) at bytes → Row (suc n) x c at bytes
  joined n x c at bytes h =
      let a = h.0 in
      let t = h.1 in
      let b = t.second in
      let all : Row (suc n) x (a.0 ∷ b.0, c.1) at bytes = (ap suc b.2, record { front = t.front; back = t.back; whole = t.whole; first = t.first.0; second = b.3 }, (a.1, t.first.1, b.4)) in
      subst (λ (l : List A). Row (suc n) x (l, c.1) at bytes) (sym b.1) all

  cut : (n : ℕ) (x : X) (c : List A × X) (at : ℕ) (bytes : List ℕ) → Row (suc n) x c at bytes → (a : A × X) × Then (First x a) (Behind n a c) at bytes
  cut n x ([], z) at bytes h = absurd (omega arith)
  cut n x (a ∷ others, z) at bytes h =
      let t = h.1 in
      let s = h.2 in
      let long : length others ≡ n = omega arith in
      ((a, s.0), record { front = t.front; back = t.back; whole = t.whole; first = (t.first, s.1); second = (others, refl, long, t.second, s.2) })

  pub repeat_spells : ((x : X) → Spells pool (λ (p : A × X) (t : Scan). out p.1 t) (λ s. step (out x s)) (First x) (λ p. k p.0)) → (n : ℕ) (x : X)
      → Spells pool (λ (p : List A × X) (t : Scan). out p.1 t) (λ s. repeat n step (out x s)) (Row n x) (λ p. flat_map k p.0)
  unfolding repeat tail
  repeat_spells each_step zero x =
      told_as pool (λ (p : List A × X) (t : Scan). out p.1 t) (Row zero x) (λ p. flat_map k p.0) (λ (w : List A × X). w) (λ a s. refl)
      (λ w at bytes h. (subst (λ (v : List A × X). Row zero x v at bytes) (sym h.0) (refl, h.1, refl), ap (λ (v : List A × X). flat_map k v.0) (sym h.0)))
      (λ w at bytes h. (w, refl, empty x w at bytes h))
      (pure pool (λ (p : List A × X) (t : Scan). out p.1 t) ([], x))
  repeat_spells each_step (suc n) x =
      same pool (joined n x) (cut n x)
      (keyed_in_turn pool {Q = Behind n} {L = λ a c. flat_map k (tail c.0)} (repeat n step) (λ a c at bytes b. more_keys a c b.0 b.1) (each_step x) (λ a. behind n a (repeat_spells each_step n a.1)))
    where
      behind : (n : ℕ) (a : A × X) → Spells pool (λ (p : List A × X) (t : Scan). out p.1 t) (λ s. repeat n step (out a.1 s)) (Row n a.1) (λ p. flat_map k p.0)
          → Spells pool (λ (p : List A × X) (t : Scan). out p.1 t) (λ s. repeat n step (out a.1 s)) (Behind n a) (λ p. flat_map k (tail p.0))
      behind n a h =
          told_as pool (λ (p : List A × X) (t : Scan). out p.1 t) (Behind n a) (λ p. flat_map k (tail p.0)) (λ (p : List A × X). (a.0 ∷ p.0, p.1)) (λ p s. refl)
          (λ p at bytes r. ((p.0, refl, r.0, r.1, r.2), refl))
          (λ c at bytes b. ((b.0, c.1), ap (λ (l : List A). (l, c.1)) (sym b.1), (b.2, b.3, b.4)))
          h

  -- their count in two bytes, and each of them
  pub table_spells : ((x : X) → Spells pool (λ (p : A × X) (t : Scan). out p.1 t) (λ s. step (out x s)) (First x) (λ p. k p.0)) → (x : X)
      → Spells pool (λ (p : List A × X) (t : Scan). out p.1 t) (λ s. number_at 2 s >>= λ count. repeat count.0 step (out x count.1)) (λ p at bytes. table one p.0 at bytes × Steps St x p.0 p.1) (λ p. flat_map k p.0)
  table_spells each_step x =
      same pool forth back
      (keyed_in_turn pool _ (λ a c at bytes r. refl) (number_spells pool 2) (λ n. repeat_spells each_step n x))
    where
      forth : (p : List A × X) (at : ℕ) (bytes : List ℕ) → (n : ℕ) × Then (number 2 n) (Row n x p) at bytes → table one p.0 at bytes × Steps St x p.0 p.1
      forth p at bytes h =
          let t = h.1 in
          let r = t.second in
          (record { front = t.front; back = t.back; whole = t.whole; first = (t.first.0, t.first.1 ∙ sym r.0); second = r.1 }, r.2)

      back : (p : List A × X) (at : ℕ) (bytes : List ℕ) → table one p.0 at bytes × Steps St x p.0 p.1 → (n : ℕ) × Then (number 2 n) (Row n x p) at bytes
      back p at bytes h =
          let t = h.0 in
          (length p.0, record { front = t.front; back = t.back; whole = t.whole; first = t.first; second = (refl, t.second, h.1) })

-- elements that are no members
pub no_keys : {A : Type 0} (all : List A) → flat_map (none {A = A}) all ≡ []
no_keys [] = refl
no_keys (a ∷ others) = no_keys others

pub quiet : (pool : List Entry) {A B X : Type 0} {out : List A × X → Scan → B} {r : Scan → Result B Stop} {P : List A × X → Piece} → Spells pool out r P (λ p. flat_map (none {A = A}) p.0) → Spells pool out r P none
quiet pool {A} {B} {X} {out} {r} {P} h = told_as pool out P none (λ (p : List A × X). p) (λ p s. refl) (λ p at bytes q. (q, no_keys p.0)) (λ p at bytes q. (p, refl, q)) h

-- ---- elements that are collected

abbrev Appends : {A : Type 0} → List A → A → List A → Type 0
Appends before a all = all ≡ before ++ a ∷ []

appended : {A : Type 0} (before others all : List A) → Steps Appends before others all → all ≡ before ++ others
appended {A} before [] all h = h ∙ sym (append-nil before)
appended {A} before (a ∷ others) all h =
    let y = h.0 in
    appended y others all h.2 ∙ ap (λ (l : List A). l ++ others) h.1 ∙ append_assoc before (a ∷ []) others

append_all : {A : Type 0} (before others : List A) → Steps Appends before others (before ++ others)
append_all before [] = append-nil before
append_all {A} before (a ∷ others) =
    let more = append_all (before ++ a ∷ []) others in
    (before ++ a ∷ [], refl, subst (λ (l : List A). Steps Appends (before ++ a ∷ []) others l) (append_assoc before (a ∷ []) others) more)

module _ (pool : List Entry) {A : Type 0} (one : A → Piece) (k : A → List Key) (r : Scan → Read A) (h : Spells pool pair r one k) where
  collect_spells : (before : List A) → Spells pool (λ (p : A × List A) (t : Scan). (p.1, t)) (λ s. collect r (before, s)) (λ p at bytes. one p.0 at bytes × Appends before p.0 p.1) (λ p. k p.0)
  collect_spells before =
      ending pool _ (λ (p : A × List A) (t : Scan). (p.1, t)) (λ p at bytes. one p.0 at bytes × Appends before p.0 p.1) (λ p. k p.0) (λ (a : A). (a, before ++ a ∷ [])) (λ a s. refl)
      (λ a at bytes p. ((p, refl), refl))
      (λ c at bytes q. (c.0, ap (λ (l : List A). (c.0, l)) (sym q.1), q.0))
      h

  pub many_spells : Spells pool pair (λ s. number_at 2 s >>= λ count. many count.0 r count.1) (table one) (flat_map k)
  many_spells =
      told_as pool pair (table one) (flat_map k) (λ (p : List A × List A). p.1) (λ p s. refl)
      (λ p at bytes q.
      let e : p.1 ≡ p.0 = appended [] p.0 p.1 q.1 in
      (subst (λ (l : List A). table one l at bytes) (sym e) q.0, ap (flat_map k) (sym e)))
      (λ all at bytes t. ((all, all), refl, (t, append_all [] all)))
      (table_spells pool one Appends k pair (collect r) collect_spells [])
