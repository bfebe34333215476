-- Reading one object after the other, as a loop does.
use Rattle.std.proofs.Common.{◌≡◌, ℕ, zero, suc, ◌+◌, ◌-◌, ◌<◌, List, [], ◌∷◌, ◌++◌, length, Option, Some, None, Ok, Err, refl, sym, ap, subst, ◌∙◌, length-append, arith}
use Rattle.kes_text.specs.declared.refusal.Kind.TheVariants as kind
use Rattle.kes_text.specs.declared.refusal.Stop.{Stop}
use Rattle.kes_text.specs.declared.refusal.Stop.TheVariants.{Refused, NoMemory}
use Rattle.oil_in.specs.Scan.{Scan, Read, ◌>>=◌, Stops, refused, where_formed, many}
use Rattle.oil_in.proofs.Inversion.{err-ok, same_Ok, bind_ok}

abbrev pub Form : Type 0
Form = List ℕ → Option (List ℕ × List ℕ)

abbrev pub ObjectOf : Type 0 → Type 0
ObjectOf X = List X → List ℕ × List ℕ → Scan → Read X

-- one object more, with room for it
pub one_more : {X : Type 0} (form : Form) (object : ObjectOf X) (room : ℕ) (xs : List X) (s : Scan) (h : List ℕ × List ℕ) → form s.text ≡ Some h → 0 < room
    → many form object room xs s ≡ (object xs h s >>= λ x. many form object (room - 1) (xs ++ x.0 ∷ []) x.1)
unfolding many
one_more form object zero xs s h e lt = absurd (omega arith)
one_more form object (suc room) xs s h e lt =
    let k : suc room - 1 ≡ room = omega arith in
    rw (e, k) refl

shorter : {X : Type 0} (limit : ℕ) (xs : List X) (x : X) → (limit - length xs) - 1 ≡ limit - length (xs ++ x ∷ [])
shorter limit xs x =
    let l : length (xs ++ x ∷ []) ≡ length xs + 1 = length-append xs (x ∷ []) in
    omega (arith, l)

pub goes_on : {X : Type 0} (form : Form) (object : ObjectOf X) (limit : ℕ) (xs : List X) (s : Scan) (h : List ℕ × List ℕ) (x : X) (behind : Scan) (total : Read (List X))
    → form s.text ≡ Some h → object xs h s ≡ Ok (x, behind) → length xs < limit → many form object (limit - length xs) xs s ≡ total
    → many form object (limit - length (xs ++ x ∷ [])) (xs ++ x ∷ []) behind ≡ total
goes_on form object limit xs s h x behind total e o lt so_far =
    let room : 0 < limit - length xs = omega arith in
    let one : many form object (limit - length xs) xs s ≡ many form object ((limit - length xs) - 1) (xs ++ x ∷ []) behind = rw (one_more form object (limit - length xs) xs s h e room, o) refl in
    ap (λ n. many form object n (xs ++ x ∷ []) behind) (sym (shorter limit xs x)) ∙ sym one ∙ so_far

pub ends : {X : Type 0} (form : Form) (object : ObjectOf X) (limit : ℕ) (xs : List X) (s : Scan) (h : List ℕ × List ℕ) (stop : Stop) (total : Read (List X))
    → form s.text ≡ Some h → Stops stop (object xs h s) → length xs < limit → many form object (limit - length xs) xs s ≡ total
    → Stops stop total
ends form object limit xs s h NoMemory total e o lt so_far = tt
ends form object limit xs s h (Refused r) total e o lt so_far =
    let room : 0 < limit - length xs = omega arith in
    let one : many form object (limit - length xs) xs s ≡ Err (Refused r) = rw (one_more form object (limit - length xs) xs s h e room, o) refl in
    sym so_far ∙ one

-- no room is left
pub is_full : {X : Type 0} (form : Form) (object : ObjectOf X) (limit : ℕ) (xs : List X) (s : Scan) (h : List ℕ × List ℕ) (total : Read (List X))
    → form s.text ≡ Some h → length xs ≡ limit → many form object (limit - length xs) xs s ≡ total
    → total ≡ refused kind.Room s
unfolding many
is_full form object limit xs s h total e full so_far =
    let none : limit - length xs ≡ 0 = omega arith in
    let one : many form object (limit - length xs) xs s ≡ refused kind.Room s = rw (none, e) refl in
    sym so_far ∙ one

pub done_at : {X : Type 0} (form : Form) (object : ObjectOf X) (room : ℕ) (xs : List X) (s : Scan) → form s.text ≡ None → many form object room xs s ≡ Ok (xs, s)
unfolding many
done_at form object zero xs s e = rw e refl
done_at form object (suc room) xs s e = rw e refl

pub is_done : {X : Type 0} (form : Form) (object : ObjectOf X) (room : ℕ) (xs : List X) (s : Scan) (total : Read (List X))
    → form s.text ≡ None → many form object room xs s ≡ total → total ≡ Ok (xs, s)
is_done form object room xs s total e so_far = sym so_far ∙ done_at form object room xs s e

-- What holds with each object more, as long as there is room for it, holds when none follows.
pub keeps : {X : Type 0} (form : Form) (object : ObjectOf X) (Holds : ℕ → List X → Scan → Type 0)
    → ((room : ℕ) (xs : List X) (s : Scan) (h : List ℕ × List ℕ) (x : X) (behind : Scan) → Holds (suc room) xs s → form s.text ≡ Some h → object xs h s ≡ Ok (x, behind) → Holds room (xs ++ x ∷ []) behind)
    → (room : ℕ) (xs : List X) (s : Scan) (y : List X × Scan) → Holds room xs s → many form object room xs s ≡ Ok y → (left : ℕ) × Holds left y.0 y.1
unfolding many
keeps {X} form object Holds step zero xs s y now h =
    elim (form s.text) as (λ o. where_formed o (λ (g : List ℕ × List ℕ). refused kind.Room s) (Ok (xs, s)) ≡ Ok y → (left : ℕ) × Holds left y.0 y.1) [
      | Some g ↦ λ e. absurd (err-ok _ y e)
      | None ↦ λ e.
          let Now : List X × Scan → Type 0 = λ z. Holds zero z.0 z.1 in
          (zero, subst Now (same_Ok (xs, s) y e) now)
    ] h
keeps {X} form object Holds step (suc room) xs s y now h =
    elim (form s.text) as (λ o. form s.text ≡ o → where_formed o (λ (g : List ℕ × List ℕ). object xs g s >>= λ x. many form object room (xs ++ x.0 ∷ []) x.1) (Ok (xs, s)) ≡ Ok y → (left : ℕ) × Holds left y.0 y.1) [
      | Some g ↦ λ f e.
          let one = bind_ok (object xs g s) (λ x. many form object room (xs ++ x.0 ∷ []) x.1) y e in
          keeps form object Holds step room (xs ++ one.0.0 ∷ []) one.0.1 y (step room xs s g one.0.0 one.0.1 now f one.1) one.2
      | None ↦ λ f e.
          let Now : List X × Scan → Type 0 = λ z. Holds (suc room) z.0 z.1 in
          (suc room, subst Now (same_Ok (xs, s) y e) now)
    ] refl h
