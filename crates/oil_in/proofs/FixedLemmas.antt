-- Reading the lines that stand in each text, as a loop does.
use Rattle.std.proofs.Common.{◌≡◌, ℕ, ◌+◌, ◌<◌, ◌≤◌, List, [], ◌∷◌, length, map, drop, get_or, Bor, Result, Ok, Err, refl, sym, ◌∙◌, add-one, drop-cons}
use Rattle.std.proofs.lemmas.List.{drop_all}
use Rattle.kes_text.specs.declared.refusal.Stop.{Stop}
use Rattle.kes_text.specs.declared.refusal.Stop.TheVariants.{Refused, NoMemory}
use Rattle.oil_in.specs.Pieces.{behind}
use Rattle.oil_in.specs.Scan.{Scan, Stops, fixed}
use Rattle.oil_in.specs.Reading.{fixed_lines}

abbrev pub texts_of : List (Bor (List ℕ)) → List (List ℕ)
texts_of texts = map (λ text. text.now) texts

pub goes_on : (texts : List (Bor (List ℕ))) (i : ℕ) (d : Bor (List ℕ)) (s next : Scan) (total : Result Scan Stop) → i < length texts
    → fixed (behind (get_or texts i d).now s.text) s ≡ Ok next → fixed_lines (texts_of (drop i texts)) s ≡ total
    → fixed_lines (texts_of (drop (i + 1) texts)) next ≡ total
unfolding fixed_lines
goes_on texts i d s next total lt e so_far =
    let parts : drop i texts ≡ get_or texts i d ∷ drop (i + 1) texts = rw (add-one, drop-cons texts i d) refl in
    let one : fixed_lines (texts_of (drop i texts)) s ≡ fixed_lines (texts_of (drop (i + 1) texts)) next = rw (parts, e) refl in
    sym one ∙ so_far

pub ends : (texts : List (Bor (List ℕ))) (i : ℕ) (d : Bor (List ℕ)) (s : Scan) (stop : Stop) (total : Result Scan Stop) → i < length texts
    → Stops stop (fixed (behind (get_or texts i d).now s.text) s) → fixed_lines (texts_of (drop i texts)) s ≡ total
    → Stops stop total
unfolding fixed_lines
ends texts i d s NoMemory total lt e so_far = tt
ends texts i d s (Refused r) total lt e so_far =
    let parts : drop i texts ≡ get_or texts i d ∷ drop (i + 1) texts = rw (add-one, drop-cons texts i d) refl in
    let one : fixed_lines (texts_of (drop i texts)) s ≡ Err (Refused r) = rw (parts, e) refl in
    sym so_far ∙ one

pub is_done : (texts : List (Bor (List ℕ))) (i : ℕ) (s : Scan) (total : Result Scan Stop) → length texts ≤ i
    → fixed_lines (texts_of (drop i texts)) s ≡ total → total ≡ Ok s
unfolding fixed_lines
is_done texts i s total le so_far =
    let none : drop i texts ≡ [] = drop_all i texts le in
    let one : fixed_lines (texts_of (drop i texts)) s ≡ Ok s = rw none refl in
    sym so_far ∙ one
