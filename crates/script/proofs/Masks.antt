-- The events of a mask, one number after the other.
use Rattle.std.proofs.Common.{◌≡◌, nat_eq, ℕ, ◌+◌, ◌<◌, Bool, true, false, true≢false, List, [], ◌∷◌, ◌++◌, map, filter, length, get_or, append_assoc, refl, sym, ap, ◌∙◌, arith, if◌then◌else◌}
use Rattle.std.proofs.lemmas.Bool.Decides.{nat_tests}
use Rattle.std.proofs.lemmas.Grind.{common_steps}
use Rattle.std.proofs.lemmas.List.{append-nil}
use Rattle.std.proofs.lemmas.List.Elements.{filter-append}
use Rattle.std.proofs.lemmas.List.FromFn.{map-range_with_len_more}
use Rattle.std.specs.List.{join_with_byte, range_with_len}
use Rattle.osek_core.specs.Event.Text.{name_at}
use Rattle.script.specs.Spaced.{is_in}

map_same : (ns : List ℕ) → map (λ n. n) ns ≡ ns
map_same [] = refl
map_same (n ∷ ns) = ap (λ ms. n ∷ ms) (map_same ns)

range_more : (n : ℕ) → range_with_len 0 (n + 1) ≡ range_with_len 0 n ++ n ∷ []
range_more n =
    let more = map-range_with_len_more (λ (k : ℕ). k) 0 n n (omega arith) in
    sym (map_same (range_with_len 0 (n + 1))) ∙ more ∙ ap (λ ms. ms ++ n ∷ []) (map_same (range_with_len 0 n))

-- the events of a mask below a number
abbrev pub below : ℕ → ℕ → List ℕ
below mask n = filter (is_in mask) (range_with_len 0 n)

below_more : (mask n : ℕ) → below mask (n + 1) ≡ below mask n ++ filter (is_in mask) (n ∷ [])
below_more mask n = ap (filter (is_in mask)) (range_more n) ∙ filter-append (is_in mask) (range_with_len 0 n) (n ∷ [])

pub in_more : (mask n : ℕ) → is_in mask n ≡ true → below mask (n + 1) ≡ below mask n ++ n ∷ []
in_more mask n h =
    let last : filter (is_in mask) (n ∷ []) ≡ n ∷ [] = rw h refl in
    below_more mask n ∙ ap (λ ms. below mask n ++ ms) last

pub out_more : (mask n : ℕ) → is_in mask n ≡ false → below mask (n + 1) ≡ below mask n
out_more mask n h =
    let last : filter (is_in mask) (n ∷ []) ≡ [] = rw h refl in
    below_more mask n ∙ ap (λ ms. below mask n ++ ms) last ∙ append-nil (below mask n)

-- one piece more, behind a `+`
join_next : (first : List ℕ) (others : List (List ℕ)) (piece : List ℕ)
    → join_with_byte 43 ((first ∷ others) ++ piece ∷ []) ≡ join_with_byte 43 (first ∷ others) ++ 43 ∷ piece
join_next first [] piece = refl
join_next first (second ∷ others) piece =
    rw (join_next second others piece) (sym (append_assoc first (43 ∷ join_with_byte 43 (second ∷ others)) (43 ∷ piece)))

-- and the first without one
pub join_more : (pieces : List (List ℕ)) (piece : List ℕ) (is_first : Bool) → is_first ≡ nat_eq (length pieces) 0
    → join_with_byte 43 (pieces ++ piece ∷ []) ≡ join_with_byte 43 pieces ++ (if is_first then piece else 43 ∷ piece)
join_more [] piece true h = refl
join_more [] piece false h = absurd (true≢false (sym h))
join_more (first ∷ others) piece true h = absurd (grind (arith, nat_tests, h))
join_more (first ∷ others) piece false h = join_next first others piece

-- the names of the events of a mask below a number
abbrev pub pieces : List (List ℕ) → ℕ → ℕ → List (List ℕ)
pieces names mask n = map (name_at names) (below mask n)

map_more : (f : ℕ → List ℕ) (ns : List ℕ) (n : ℕ) → map f (ns ++ n ∷ []) ≡ map f ns ++ f n ∷ []
map_more f [] n = refl
map_more f (m ∷ ns) n = ap (λ ps. f m ∷ ps) (map_more f ns n)

pub pieces_more : (names : List (List ℕ)) (mask n : ℕ) (name : List ℕ) → n < length names → name ≡ get_or names n name → is_in mask n ≡ true
    → pieces names mask (n + 1) ≡ pieces names mask n ++ name ∷ []
pieces_more names mask n name within is h =
    let here : name_at names n ≡ name = grind (arith, common_steps) in
    ap (map (name_at names)) (in_more mask n h) ∙ map_more (name_at names) (below mask n) n ∙ ap (λ p. pieces names mask n ++ p ∷ []) here

pub some_pieces : (names : List (List ℕ)) (mask n : ℕ) (name : List ℕ) → n < length names → name ≡ get_or names n name → is_in mask n ≡ true
    → false ≡ nat_eq (length (pieces names mask (n + 1))) 0
some_pieces names mask n name within is h =
    let more = pieces_more names mask n name within is h in
    rw more (grind (arith, common_steps))

pub text_more : (names : List (List ℕ)) (mask n : ℕ) (name : List ℕ) (is_first : Bool) (old before after : List ℕ)
    → n < length names → name ≡ get_or names n name → is_in mask n ≡ true → is_first ≡ nat_eq (length (pieces names mask n)) 0
    → before ≡ old ++ join_with_byte 43 (pieces names mask n) → after ≡ before ++ (if is_first then name else 43 ∷ name)
    → after ≡ old ++ join_with_byte 43 (pieces names mask (n + 1))
text_more names mask n name is_first old before after within is h first so_far next =
    rw (next, so_far, pieces_more names mask n name within is h, join_more (pieces names mask n) name is_first first)
    (append_assoc old (join_with_byte 43 (pieces names mask n)) (if is_first then name else 43 ∷ name))
