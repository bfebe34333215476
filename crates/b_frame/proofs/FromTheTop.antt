-- Lists whose end is the top.
use Rattle.std.proofs.Common.{◌≡◌, ◌∙◌, ℕ, ◌+◌, ◌-◌, ◌<◌, ◌≤◌, min, List, [], ◌∷◌, ◌++◌, length, reverse, take, drop, get_or, set, sym, ap, append_assoc, arith}
use Rattle.std.proofs.lemmas.List.{reverse-append, reverse-reverse, length-reverse, length-take, length-drop, take-append-drop, take_at, drop_at, take_more, take_rest, set_at, drop_min}

reverse_split : {X : Type 0} (xs : List X) (k : ℕ) → reverse xs ≡ reverse (drop k xs) ++ reverse (take k xs)
reverse_split xs k = ap reverse (sym (take-append-drop k xs)) ∙ reverse-append (take k xs) (drop k xs)

length_above : {X : Type 0} (xs : List X) (k n : ℕ) → k + n ≡ length xs → length (reverse (drop k xs)) ≡ n
length_above xs k n e = simp (length-reverse, length-drop) (omega arith)

above : {X : Type 0} (xs : List X) (k n : ℕ) → k + n ≡ length xs → take n (reverse xs) ≡ reverse (drop k xs)
above xs k n e = ap (take n) (reverse_split xs k) ∙ take_at (reverse (drop k xs)) (reverse (take k xs)) n (length_above xs k n e)

below : {X : Type 0} (xs : List X) (k n : ℕ) → k + n ≡ length xs → drop n (reverse xs) ≡ reverse (take k xs)
below xs k n e = ap (drop n) (reverse_split xs k) ∙ drop_at (reverse (drop k xs)) (reverse (take k xs)) n (length_above xs k n e)

length_from : {X : Type 0} (xs tops : List X) → reverse xs ≡ tops → length tops ≡ length xs
length_from xs tops view = ap length (sym view) ∙ length-reverse xs

-- without n of the topmost, or all
pub discarded : {X : Type 0} (xs tops : List X) (k n : ℕ) → reverse xs ≡ tops → k ≡ length xs - n → reverse (take k xs) ≡ drop n tops
discarded xs tops k n view is =
    let lengths : length tops ≡ length xs = length_from xs tops view in
    let parts : k + min n (length tops) ≡ length xs = omega arith in
    sym (below xs k (min n (length tops)) parts) ∙ ap (drop (min n (length tops))) view ∙ drop_min n tops

-- a value in place of n of the topmost
pub replaced : {X : Type 0} (xs tops : List X) (k n : ℕ) (y : X) → reverse xs ≡ tops → k ≡ length xs - n → 0 < n → n ≤ length tops → reverse (set (take (k + 1) xs) k y) ≡ y ∷ drop n tops
replaced xs tops k n y view is some enough =
    let lengths : length tops ≡ length xs = length_from xs tops view in
    let parts : k + n ≡ length xs = omega arith in
    let within : k < length xs = omega arith in
    let size : length (take k xs) ≡ k = simp length-take (omega arith) in
    ap (λ ys. reverse (set ys k y)) (take_more xs k y within)
    ∙ ap reverse (set_at (take k xs) (get_or xs k y) [] y k size)
    ∙ reverse-append (take k xs) (y ∷ [])
    ∙ ap (λ ys. y ∷ ys) (sym (below xs k n parts) ∙ ap (drop n) view)

-- a value below n of the topmost
pub inserted : {X : Type 0} (xs tops : List X) (k n : ℕ) (y : X) → reverse xs ≡ tops → k ≡ length xs - n → n ≤ length tops → reverse (take k xs ++ y ∷ drop k xs) ≡ take n tops ++ y ∷ drop n tops
inserted xs tops k n y view is enough =
    let lengths : length tops ≡ length xs = length_from xs tops view in
    let parts : k + n ≡ length xs = omega arith in
    reverse-append (take k xs) (y ∷ drop k xs)
    ∙ ap (λ ys. ys ++ reverse (take k xs)) (reverse-append (y ∷ []) (drop k xs))
    ∙ append_assoc (reverse (drop k xs)) (y ∷ []) (reverse (take k xs))
    ∙ ap (λ ys. ys ++ y ∷ reverse (take k xs)) (sym (above xs k n parts) ∙ ap (take n) view)
    ∙ ap (λ ys. take n tops ++ y ∷ ys) (sym (below xs k n parts) ∙ ap (drop n) view)

-- n of the topmost, the topmost last
pub topmost : {X : Type 0} (xs tops : List X) (k n : ℕ) → reverse xs ≡ tops → k + n ≡ length xs → (n ≤ length tops) × (take (length xs - k) (drop k xs) ≡ reverse (take n tops))
topmost xs tops k n view parts =
    let lengths : length tops ≡ length xs = length_from xs tops view in
    (omega arith, take_rest xs k ∙ sym (reverse-reverse (drop k xs)) ∙ ap reverse (sym (above xs k n parts) ∙ ap (take n) view))

-- two values in place of the two topmost
pub replaced_two : {X : Type 0} (xs tops : List X) (k : ℕ) (first second : X) → reverse xs ≡ tops → k ≡ length xs - 2 → 2 ≤ length tops
    → reverse ((take k xs ++ second ∷ []) ++ first ∷ []) ≡ first ∷ second ∷ drop 2 tops
replaced_two xs tops k first second view is enough =
    let lengths : length tops ≡ length xs = length_from xs tops view in
    let parts : k + 2 ≡ length xs = omega arith in
    reverse-append (take k xs ++ second ∷ []) (first ∷ [])
    ∙ ap (λ ys. first ∷ ys) (reverse-append (take k xs) (second ∷ []) ∙ ap (λ ys. second ∷ ys) (sym (below xs k 2 parts) ∙ ap (drop 2) view))

-- two values below n of the topmost, the second under the first
pub inserted_two : {X : Type 0} (xs tops : List X) (k n : ℕ) (first second : X) → reverse xs ≡ tops → k ≡ length xs - n → n ≤ length tops
    → reverse (take k xs ++ second ∷ first ∷ drop k xs) ≡ take n tops ++ first ∷ second ∷ drop n tops
inserted_two xs tops k n first second view is enough =
    let lengths : length tops ≡ length xs = length_from xs tops view in
    let parts : k + n ≡ length xs = omega arith in
    ap reverse (sym (append_assoc (take k xs) (second ∷ []) (first ∷ drop k xs)))
    ∙ reverse-append (take k xs ++ second ∷ []) (first ∷ drop k xs)
    ∙ ap (λ ys. reverse (first ∷ drop k xs) ++ ys) (reverse-append (take k xs) (second ∷ []))
    ∙ ap (λ ys. ys ++ second ∷ reverse (take k xs)) (reverse-append (first ∷ []) (drop k xs))
    ∙ append_assoc (reverse (drop k xs)) (first ∷ []) (second ∷ reverse (take k xs))
    ∙ ap (λ ys. ys ++ first ∷ second ∷ reverse (take k xs)) (sym (above xs k n parts) ∙ ap (take n) view)
    ∙ ap (λ ys. take n tops ++ first ∷ second ∷ ys) (sym (below xs k n parts) ∙ ap (drop n) view)

-- one inserted above the other
pub inserted_again : {X : Type 0} (xs : List X) (k : ℕ) (first second : X) → k ≤ length xs
    → take k (take k xs ++ first ∷ drop k xs) ++ second ∷ drop k (take k xs ++ first ∷ drop k xs) ≡ take k xs ++ second ∷ first ∷ drop k xs
inserted_again xs k first second within =
    let size : length (take k xs) ≡ k = simp length-take (omega arith) in
    ap (λ ys. ys ++ second ∷ drop k (take k xs ++ first ∷ drop k xs)) (take_at (take k xs) (first ∷ drop k xs) k size)
    ∙ ap (λ ys. take k xs ++ second ∷ ys) (drop_at (take k xs) (first ∷ drop k xs) k size)
