-- Operands from the top and from the bottom.
use Rattle.std.proofs.Common.{◌≡◌, ◌∙◌, ℕ, zero, suc, ◌+◌, ◌<◌, Bool, true, false, ◌&&◌, List, [], ◌∷◌, ◌++◌, length, reverse, drop, get_or, refl, sym, ap, arith, ◌≢◌}
use Rattle.std.proofs.Math.Bool.{and-false, and-true, and_comm}
use Rattle.std.proofs.Math.Numerals.{add-one}
use Rattle.std.proofs.Math.Seq.{drop-nil}
use Rattle.stackmap.specs.declared.vtype.VType.{VType}
use Rattle.jworld.specs.Classes.{World}
use Rattle.type_states.specs.Assignable.{is_assignable, is_slot_assignable, are_slots_assignable, are_operands_assignable}
use Rattle.type_states.specs.Slots.{slot_at}
use Rattle.type_states.specs.TypeStates.{size_of, places}
use Rattle.type_states.proofs.Reversed.{reverse-cons}

places-push : (types : List VType) (t : VType) → places (types ++ t ∷ []) ≡ size_of t + places types
places-push [] t = refl
places-push (s ∷ types) t = let more : places (types ++ t ∷ []) ≡ size_of t + places types = places-push types t in omega arith

pub places-reverse : (types : List VType) → places (reverse types) ≡ places types
places-reverse [] = refl
places-reverse (t ∷ types) = rw (reverse-cons t types, places-push (reverse types) t, places-reverse types) refl

nothing-push : (files : World) (types : List VType) (t : VType) → are_operands_assignable files [] (types ++ t ∷ []) ≡ false
nothing-push files [] t = refl
nothing-push files (s ∷ types) t = refl

push-nothing : (files : World) (types : List VType) (t : VType) → are_operands_assignable files (types ++ t ∷ []) [] ≡ false
push-nothing files [] t = refl
push-nothing files (s ∷ types) t = refl

and-assoc : (a b c : Bool) → (a && (b && c)) ≡ ((a && b) && c)
and-assoc true b c = refl
and-assoc false b c = refl

are_operands_assignable-push : (files : World) (from to : List VType) (f t : VType)
    → are_operands_assignable files (from ++ f ∷ []) (to ++ t ∷ []) ≡ (are_operands_assignable files from to && is_assignable files f t)
are_operands_assignable-push files [] [] f t = and-true (is_assignable files f t)
are_operands_assignable-push files [] (s ∷ to) f t = ap (λ b. is_assignable files f s && b) (nothing-push files to t) ∙ and-false (is_assignable files f s)
are_operands_assignable-push files (s ∷ from) [] f t = ap (λ b. is_assignable files s t && b) (push-nothing files from f) ∙ and-false (is_assignable files s t)
are_operands_assignable-push files (s ∷ from) (u ∷ to) f t =
    ap (λ b. is_assignable files s u && b) (are_operands_assignable-push files from to f t) ∙ and-assoc (is_assignable files s u) (are_operands_assignable files from to) (is_assignable files f t)

pub are_operands_assignable-reverse : (files : World) (from to : List VType) → are_operands_assignable files (reverse from) (reverse to) ≡ are_operands_assignable files from to
are_operands_assignable-reverse files [] [] = refl
are_operands_assignable-reverse files [] (t ∷ to) = ap (are_operands_assignable files []) (reverse-cons t to) ∙ nothing-push files (reverse to) t
are_operands_assignable-reverse files (f ∷ from) [] = ap (λ types. are_operands_assignable files types []) (reverse-cons f from) ∙ push-nothing files (reverse from) f
are_operands_assignable-reverse files (f ∷ from) (t ∷ to) =
    rw (reverse-cons f from, reverse-cons t to, are_operands_assignable-push files (reverse from) (reverse to) f t, are_operands_assignable-reverse files from to)
    (and_comm (are_operands_assignable files from to) (is_assignable files f t))

pub are_operands_assignable-lengths : (files : World) (from to : List VType) → length from ≢ length to → are_operands_assignable files from to ≡ false
are_operands_assignable-lengths files [] [] ne = absurd (ne refl)
are_operands_assignable-lengths files [] (t ∷ to) ne = refl
are_operands_assignable-lengths files (f ∷ from) [] ne = refl
are_operands_assignable-lengths files (f ∷ from) (t ∷ to) ne =
    let ne' : length from ≢ length to = λ e. ne (ap suc e) in
    ap (λ b. is_assignable files f t && b) (are_operands_assignable-lengths files from to ne') ∙ and-false (is_assignable files f t)

-- one operand further
pub are_operands_assignable-at : (files : World) (from to : List VType) (i : ℕ) (f t : VType) → i < length from → i < length to → f ≡ get_or from i f → t ≡ get_or to i t
    → are_operands_assignable files (drop i from) (drop i to) ≡ (is_assignable files f t && are_operands_assignable files (drop (suc i) from) (drop (suc i) to))
are_operands_assignable-at files [] to i f t lt lt' e e' = absurd (omega arith)
are_operands_assignable-at files (x ∷ from) [] i f t lt lt' e e' = absurd (omega arith)
are_operands_assignable-at files (x ∷ from) (y ∷ to) zero f t lt lt' e e' = rw (e, e') refl
are_operands_assignable-at files (x ∷ from) (y ∷ to) (suc i) f t lt lt' e e' =
    let less : i < length from = omega arith in
    let less' : i < length to = omega arith in
    are_operands_assignable-at files from to i f t less less' e e'

-- one slot further
pub are_slots_assignable-at : (files : World) (from to : List VType) (i : ℕ) (t : VType) → i < length to → t ≡ get_or to i t
    → are_slots_assignable files (drop i from) (drop i to) ≡ (is_slot_assignable files (slot_at from i) t && are_slots_assignable files (drop (suc i) from) (drop (suc i) to))
are_slots_assignable-at files from [] i t lt e = absurd (omega arith)
are_slots_assignable-at files [] (y ∷ to) zero t lt e = rw e refl
are_slots_assignable-at files (x ∷ from) (y ∷ to) zero t lt e = rw e refl
are_slots_assignable-at files [] (y ∷ to) (suc i) t lt e =
    let less : i < length to = omega arith in
    ap (λ types. are_slots_assignable files types (drop i to)) (sym (drop-nil {A = VType} i)) ∙ are_slots_assignable-at files [] to i t less e
are_slots_assignable-at files (x ∷ from) (y ∷ to) (suc i) t lt e =
    let less : i < length to = omega arith in
    are_slots_assignable-at files from to i t less e

pub are_slots_assignable-next : (files : World) (from to : List VType) (i : ℕ) (t : VType) (total : Bool) → i < length to → t ≡ get_or to i t
    → is_slot_assignable files (slot_at from i) t ≡ true → are_slots_assignable files (drop i from) (drop i to) ≡ total → are_slots_assignable files (drop (i + 1) from) (drop (i + 1) to) ≡ total
are_slots_assignable-next files from to i t total lt e fits so_far =
    ap (λ n. are_slots_assignable files (drop n from) (drop n to)) (add-one i)
    ∙ sym (ap (λ b. b && are_slots_assignable files (drop (suc i) from) (drop (suc i) to)) fits)
    ∙ sym (are_slots_assignable-at files from to i t lt e)
    ∙ so_far
