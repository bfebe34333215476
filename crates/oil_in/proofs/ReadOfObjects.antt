-- What is read where lines and objects stand.
use Rattle.std.proofs.Common.{◌≡◌, ℕ, zero, suc, ◌+◌, ◌<◌, ◌≤◌, ◌^◌, ◌++◌, ◌∷◌, [], List, codes, decimal, length, Option, Some, None, Result, Ok, refl, ap, sym, ◌∙◌, arith, le-leb, lt-ltb, append_assoc, append-nil, length-append, eq-eqb, pow_mono}
use Rattle.kes_text.specs.Numbered.{numbered}
use Rattle.kes_text.specs.declared.refusal.Stop.{Stop}
use Rattle.oil_out.specs.OilText.{attribute, object, mask, event_text}
use Rattle.oil_in.specs.declared.pieces.Number.TheVariants.{Value}
use Rattle.oil_in.specs.Pieces.{behind}
use Rattle.oil_in.specs.Forms.{header, number_in, number_line}
use Rattle.oil_in.specs.Scan.{Scan, Read, next, line, fixed, number_between, many}
use Rattle.oil_in.specs.Objects.{object_end, mask_at, event_at}
use Rattle.oil_in.proofs.PieceLemmas.{behind-front}
use Rattle.oil_in.proofs.ManyLemmas.{Form, ObjectOf, done_at}
use Rattle.oil_in.proofs.InTurn.{InTurn}
use Rattle.oil_in.proofs.Distinct.{IsNew}
use Rattle.oil_in.proofs.TextOfForms.{attribute-whole}
use Rattle.oil_in.proofs.ReadOfForms.{number_in-front, object-front}

-- a part of the text is read as the value, and the rest is left
pub record Gives {X : Type 0} (r : Read X) (x : X) (rest : List ℕ) : Type 0 where
  pub after : Scan
  pub read : r ≡ Ok (x, after)
  pub left : after.text ≡ rest

-- a part of the text that says nothing is read
pub record Passes (r : Result Scan Stop) (rest : List ℕ) : Type 0 where
  pub after : Scan
  pub read : r ≡ Ok after
  pub left : after.text ≡ rest

pub line-read : {X : Type 0} (o : Option (X × List ℕ)) (s : Scan) (x : X) (rest : List ℕ) → o ≡ Some (x, rest) → Gives (line o s) x rest
line-read {X} o s x rest e = record { after = next s rest; read = ap (λ (p : Option (X × List ℕ)). line p s) e; left = refl }

pub fixed-read : (text : List ℕ) (s : Scan) (rest : List ℕ) → s.text ≡ text ++ rest → Passes (fixed (behind text s.text) s) rest
fixed-read text s rest e =
    record { after = next s rest; read = ap (λ (o : Option (List ℕ)). fixed o s) (ap (behind text) e ∙ behind-front text rest); left = refl }

pub end-read : (s : Scan) (rest : List ℕ) → s.text ≡ codes "  };\n" ++ rest → Passes (object_end s) rest
unfolding object_end
end-read s rest e = fixed-read (codes "  };\n") s rest e

number_line-read : (name : List ℕ) (n : ℕ) (s : Scan) (rest : List ℕ) → n < 2 ^ 64 → s.text ≡ attribute name (decimal n) ++ rest
    → number_line (codes "    " ++ name ++ codes " = ") s.text ≡ Some (Value n, rest)
number_line-read name n s rest small e =
    ap (number_in (codes "    " ++ name ++ codes " = ") (codes ";\n")) (e ∙ sym (attribute-whole name (decimal n) rest))
    ∙ number_in-front (codes "    " ++ name ++ codes " = ") (codes ";\n") n rest small refl

pub number_between-read : (name : List ℕ) (low high n : ℕ) (s : Scan) (rest : List ℕ) → low ≤ n → n ≤ high → high < 2 ^ 64 → s.text ≡ attribute name (decimal n) ++ rest
    → Gives (number_between (codes "    " ++ name ++ codes " = ") low high s) n rest
unfolding number_between
number_between-read name low high n s rest least most small e =
    record { after = next s rest; read = rw (number_line-read name n s rest (omega arith) e, le-leb low n least, le-leb n high most) refl; left = refl }

mask_fits : (k : ℕ) → k < 31 → mask k < 2 ^ 64
mask_fits k lt =
    let below : 2 ^ k ≤ 2 ^ 31 = pow_mono {i = k} {j = 31} (omega arith) in
    rw (lt-ltb k 64 (omega arith)) (omega (arith, below))

mask-read : (k : ℕ) (s : Scan) (rest : List ℕ) → k < 31 → s.text ≡ attribute (codes "MASK") (decimal (mask k)) ++ rest → Passes (mask_at k s) rest
unfolding mask_at
mask-read k s rest lt e =
    record { after = next s rest; read = rw (number_line-read (codes "MASK") (mask k) s rest (mask_fits k lt) e, eq-eqb (mask k) (mask k) refl) refl; left = refl }

-- Objects of one kind, each where its lines stand behind those before it, if what is asked of it beside these holds.
abbrev pub Reads : {X : Type 0} → Form → ObjectOf X → (ℕ → X → List ℕ) → (List X → X → Type 0) → Type 0
Reads {X} form object text Fits = (xs : List X) (x : X) (s : Scan) (rest : List ℕ) → Fits xs x → s.text ≡ text (length xs) x ++ rest
    → (h : List ℕ × List ℕ) × (form s.text ≡ Some h) × Gives (object xs h s) x rest

pub many-read : {X : Type 0} (form : Form) (object : ObjectOf X) (text : ℕ → X → List ℕ) (Fits : List X → X → Type 0) → Reads form object text Fits
    → (all : List X) → InTurn Fits all → (end : List ℕ) → form end ≡ None
    → (room : ℕ) (xs new : List X) (s : Scan) → length new ≤ room → all ≡ xs ++ new → s.text ≡ numbered text (length xs) new ++ end → Gives (many form object room xs s) all end
unfolding many
many-read {X} form object text Fits reads all turn end none room xs [] s fit e at =
    record { after = s; read = done_at form object room xs s (ap form at ∙ none) ∙ ap (λ (ys : List X). Ok (ys, s)) (sym (e ∙ append-nil xs)); left = at }
many-read form object text Fits reads all turn end none zero xs (x ∷ new) s fit e at = absurd (omega arith)
many-read form object text Fits reads all turn end none (suc room) xs (x ∷ new) s fit e at =
    let one = reads xs x s (numbered text (length xs + 1) new ++ end) (turn xs x new e) (at ∙ append_assoc (text (length xs) x) (numbered text (length xs + 1) new) end) in
    let n : length xs + 1 ≡ length (xs ++ x ∷ []) = sym (length-append xs (x ∷ [])) in
    let more = many-read form object text Fits reads all turn end none room (xs ++ x ∷ []) new one.2.after (omega arith) (e ∙ sym (append_assoc xs (x ∷ []) new)) (one.2.left ∙ ap (λ (k : ℕ). numbered text k new ++ end) n) in
    record { after = more.after; read = rw (one.1, one.2.read) more.read; left = more.left }

pub event-read : Reads (header (codes "  EVENT e_")) event_at event_text (λ events name. IsNew (λ n. n) events name × (length events < 31))
unfolding event_at event_text
event-read events name s rest fits e =
    let attributes = attribute (codes "MASK") (decimal (mask (length events))) in
    let body = attributes ++ (codes "  };\n" ++ rest) in
    let first = object-front (codes "EVENT") (codes "e_") name attributes s.text rest fits.0.1 e in
    let masked = mask-read (length events) (next s body) (codes "  };\n" ++ rest) fits.1 refl in
    let ended = end-read masked.after rest masked.left in
    ((name.text, body), first, record { after = ended.after; read = rw (fits.0.0, masked.read, ended.read) refl; left = ended.left })
