-- The line that is being written, and the lines behind it.
use Rattle.std.proofs.Common.{◌≡◌, ℕ, suc, ◌+◌, ◌<◌, List, [], ◌∷◌, ◌++◌, drop, length, get_or, Option, Some, None, append_assoc, refl, sym, ap, ◌∙◌, arith}
use Rattle.std.proofs.Math.Seq.{drop-cons}
use Rattle.std.proofs.lemmas.List.{append-nil}
use Rattle.std.proofs.lemmas.Grind.{flat_map-append}
use Rattle.std.specs.List.{flat_map}
use Rattle.script.specs.declared.line.Line.{Line}
use Rattle.script.specs.Writing.{both, written, going_on, joined_from}

cut : (lines : List Line) (i : ℕ) (d : Line) → i < length lines → drop i lines ≡ get_or lines i d ∷ drop (i + 1) lines
cut lines i d within = let e : suc i ≡ i + 1 = omega arith in rw (← e) (drop-cons lines i d within)

at_next : (text : Line → List ℕ) (lines : List Line) (i : ℕ) (last next d : Line) (one : Option Line) → i < length lines → next ≡ get_or lines i d
    → one ≡ both last.times next.times last.step next.step
    → flat_map text (joined_from last (drop i lines)) ≡ flat_map text (written last one) ++ flat_map text (joined_from (going_on next one) (drop (i + 1) lines))
at_next text lines i last next d one within is joins =
    let here : drop i lines ≡ next ∷ drop (i + 1) lines = rw is (cut lines i d within) in
    let f : List Line → List ℕ = λ ls. flat_map text (joined_from last ls) in
    let opened : joined_from last (next ∷ drop (i + 1) lines) ≡ written last one ++ joined_from (going_on next one) (drop (i + 1) lines) = rw joins refl in
    ap f here ∙ ap (flat_map text) opened ∙ flat_map-append text (written last one) (joined_from (going_on next one) (drop (i + 1) lines))

-- the next line is added to the one that is being written
pub added : (text : Line → List ℕ) (lines : List Line) (i : ℕ) (last next d one : Line) (out total : List ℕ) → i < length lines → next ≡ get_or lines i d
    → Some one ≡ both last.times next.times last.step next.step
    → out ++ flat_map text (joined_from last (drop i lines)) ≡ total → out ++ flat_map text (joined_from one (drop (i + 1) lines)) ≡ total
added text lines i last next d one out total within is joins so_far =
    let e = at_next text lines i last next d (Some one) within is joins in
    let f : List ℕ → List ℕ = λ ls. out ++ ls in
    sym (ap f e) ∙ so_far

-- the line is written, and the next one is being written
pub put : (text : Line → List ℕ) (lines : List Line) (i : ℕ) (last next d : Line) (out behind total : List ℕ) → i < length lines → next ≡ get_or lines i d
    → None ≡ both last.times next.times last.step next.step → behind ≡ out ++ text last
    → out ++ flat_map text (joined_from last (drop i lines)) ≡ total → behind ++ flat_map text (joined_from next (drop (i + 1) lines)) ≡ total
put text lines i last next d out behind total within is joins more so_far =
    let e = at_next text lines i last next d None within is joins in
    let f : List ℕ → List ℕ = λ ls. out ++ ls in
    let alone : flat_map text (last ∷ []) ≡ text last = append-nil (text last) in
    rw (more, append_assoc out (text last) (flat_map text (joined_from next (drop (i + 1) lines))))
    (sym (ap f (rw (← alone) e)) ∙ so_far)
