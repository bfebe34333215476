-- The readers of bytes, numbers and index fields spell items.
use Rattle.std.proofs.Common.{◌≡◌, ◌⊎◌, inl, inr, ℕ, ◌+◌, ◌≤◌, Bool, true, false, List, [], ◌∷◌, ◌++◌, length, take, drop, Result, Ok, Option, Some, None, is_none, IsNone, nat_lt, if◌then◌else◌, refl, sym, ap, ◌∙◌, arith, append-nil, length-append, take-append-drop, ltb-false, le-ltb, length-take-le}
use Rattle.std.proofs.Math.Seq.{drop-append_seam, take-append_seam}
use Rattle.byteorder.specs.Endian.{big_number}
use Rattle.kes_text.specs.declared.refusal.Stop.{Stop}
use Rattle.kes_text.specs.declared.refusal.Kind.{Kind}
use Rattle.kes_text.specs.declared.refusal.Kind.TheVariants as kind
use Rattle.classfile.specs.declared.uses.Use.{Use}
use Rattle.classfile.specs.declared.uses.Use.TheVariants as uses
use Rattle.classfile.specs.declared.uses.Wanted.{Wanted}
use Rattle.classfile.specs.declared.pool.Entry.{Entry}
use Rattle.classfile.specs.Scan.{Scan, ◌>>=◌, refused, bytes_at, number_at, noted, index_at}
use Rattle.classfile.specs.Faults.{index_fault}
use Rattle.classfile.specs.Spelled.Pieces.{number, index}
use Rattle.classfile.proofs.Backing.{ok_is, both, and_true}
use Rattle.classfile.proofs.Soundness.{fits}
use Rattle.classfile.proofs.Spelling.Calculus.{Stands, moved, all_fit, keys_in, Found, Spells, none, pair, ending, noting, here}

-- so many bytes
abbrev pub Bytes : ℕ → List ℕ → List ℕ → Type 0
Bytes n found bytes = (length bytes ≡ n) × (bytes ≡ found)

standing : (s : Scan) (rest : List ℕ) → Stands s rest → drop s.place s.input ≡ rest
standing s rest h = ap (λ (n : ℕ). drop n s.input) h.place ∙ ap (drop (length h.before)) h.input ∙ drop-append_seam h.before rest

at_same : (s : Scan) (n : ℕ) (front : List ℕ) → n ≡ length front → record { input = s.input; place = s.place + n; uses = s.uses } ≡ moved s front []
at_same s n front e =
    ap (λ (k : ℕ). record { input = s.input; place = s.place + k; uses = s.uses }) e
    ∙ ap (λ (us : List Use). record { input = s.input; place = s.place + length front; uses = us }) (sym (append-nil s.uses))

module _ (pool : List Entry) where
  bytes_by : (n : ℕ) (s : Scan) (bytes : List ℕ) (short : Bool) (y : List ℕ × Scan) → nat_lt (length bytes) n ≡ short
      → Ok y ≡ (if short then refused kind.Truncated (length s.input) else Ok (take n bytes, record s { place = s.place + n })) → Found pool pair (λ found at front. Bytes n found front) none s bytes y
  bytes_by n s bytes true y e h = absurd cc
  bytes_by n s bytes false y e h =
      let le : n ≤ length bytes = ltb-false (length bytes) n e in
      let long : length (take n bytes) ≡ n = length-take-le n bytes le in
      let t : record { input = s.input; place = s.place + n; uses = s.uses } ≡ moved s (take n bytes) [] = at_same s n (take n bytes) (sym long) in
      record {
        value = take n bytes;
        front = take n bytes;
        rest = drop n bytes;
        more = [];
        is = ok_is y (take n bytes, record s { place = s.place + n }) _ refl h ∙ ap (λ (u : Scan). (take n bytes, u)) t;
        whole = sym (take-append-drop n bytes);
        spelled = λ fit. ((long, refl), refl);
      }

  pub bytes_spells : (n : ℕ) → Spells pool pair (bytes_at n) (λ found at bytes. Bytes n found bytes) none
  bytes_spells n = record {
    sound = λ s bytes y stands e.
        let known : bytes_at n s ≡ (if nat_lt (length bytes) n then refused kind.Truncated (length s.input) else Ok (take n bytes, record s { place = s.place + n })) = rw (standing s bytes stands) refl in
        bytes_by n s bytes (nat_lt (length bytes) n) y refl (e ∙ known);
    complete = λ s front rest found stands h.
        let enough : nat_lt (length (front ++ rest)) n ≡ false = le-ltb (length (front ++ rest)) n (omega (arith, h.0, length-append front rest)) in
        let taken : take n (front ++ rest) ≡ found = ap (λ (k : ℕ). take k (front ++ rest)) (sym h.0) ∙ take-append_seam front rest ∙ h.1 in
        let known : bytes_at n s ≡ Ok (found, record { input = s.input; place = s.place + n; uses = s.uses }) = rw (standing s (front ++ rest) stands, enough, taken) refl in
        record {
          more = [];
          is = known ∙ ap (λ (t : Scan). Ok (found, t)) (at_same s n front (sym h.0));
          fit = refl;
          keys = refl;
        };
  }

  pub number_spells : (n : ℕ) → Spells pool pair (number_at n) (number n) none
  number_spells n =
      ending pool _ pair (number n) none (λ (found : List ℕ). big_number n found) (λ a s. refl)
      (λ a at bytes p. ((p.0, ap (big_number n) p.1), refl))
      (λ c at bytes q. (bytes, q.1, (q.0, refl)))
      (bytes_spells n)

  -- ---- index fields

  pub fault_none : (found : Option Kind) → is_none found ≡ true → IsNone found
  fault_none None e = refl
  fault_none (Some k) e = absurd cc

  pub none_fault : (found : Option Kind) → IsNone found → is_none found ≡ true
  none_fault None e = refl
  none_fault (Some k) e = absurd cc

  one_fits : (p i : ℕ) (names : Wanted) → all_fit pool (uses.Index p i names ∷ []) ≡ true → IsNone (index_fault pool names i)
  one_fits p i names e = fault_none (index_fault pool names i) (both (fits pool names i) true e).0

  fits_one : (p i : ℕ) (names : Wanted) → IsNone (index_fault pool names i) → all_fit pool (uses.Index p i names ∷ []) ≡ true
  fits_one p i names e = and_true (fits pool names i) true (none_fault (index_fault pool names i) e) refl

  -- a number of two bytes that is noted as an index field of this place
  pub noted_spells : (names : Wanted) (p : ℕ) → Spells pool pair (λ s. number_at 2 s >>= λ i. Ok (i.0, noted (uses.Index p i.0 names) i.1)) (index pool names) none
  noted_spells names p =
      noting pool _ pair (index pool names) none (λ (i : ℕ). i) (λ i. uses.Index p i names ∷ []) (λ i s. refl)
      (λ i at bytes q fit. ((q, one_fits p i names fit), refl))
      (λ i at bytes q. (i, refl, q.0, fits_one p i names q.1))
      (number_spells 2)

  pub index_spells : (names : Wanted) → Spells pool pair (index_at names) (index pool names) none
  index_spells names = here pool (λ p s. number_at 2 s >>= λ i. Ok (i.0, noted (uses.Index p i.0 names) i.1)) (λ p. index pool names) (noted_spells names)

  -- a number of two bytes that is noted as an index field of this place, unless it is free
  pub unless_spells : {D : Type 0} (free : ℕ → Bool) (p : ℕ) (names : Wanted) (next : ℕ → Scan → D) (f : ℕ × Scan → Result D Stop)
      → ((i : ℕ) (s : Scan) → f (i, s) ≡ (if free i then Ok (next i s) else Ok (next i (noted (uses.Index p i names) s))))
      → Spells pool next (λ s. number_at 2 s >>= f) (λ i at bytes. number 2 i at bytes × (free i ≡ true ⊎ index pool names i at bytes)) none
  unless_spells {D} free p names next f answer =
      noting pool f next (λ i at bytes. number 2 i at bytes × (free i ≡ true ⊎ index pool names i at bytes)) none (λ (i : ℕ). i) more
      (λ i s. answer i s ∙ by_answer (free i) i s)
      (λ i at bytes q fit. by_fit (free i) i refl at bytes q fit)
      (λ i at bytes h. (i, refl, h.0, elim h.1 [ inl e ↦ free_fits (free i) i e | inr q ↦ index_fits (free i) i q.1 ]))
      (number_spells 2)
    where
      more_by : Bool → ℕ → List Use
      more_by true i = []
      more_by false i = uses.Index p i names ∷ []

      more : ℕ → List Use
      more i = more_by (free i) i

      by_answer : (b : Bool) (i : ℕ) (s : Scan) → ◌≡◌ {A = Result D Stop} (if b then Ok (next i s) else Ok (next i (noted (uses.Index p i names) s))) (Ok (next i (record { input = s.input; place = s.place; uses = s.uses ++ more_by b i })))
      by_answer true i s = ap (λ (us : List Use). Ok (next i (record { input = s.input; place = s.place; uses = us }))) (sym (append-nil s.uses))
      by_answer false i s = refl

      by_fit : (b : Bool) (i : ℕ) → free i ≡ b → (at : ℕ) (bytes : List ℕ) → number 2 i at bytes → all_fit pool (more_by b i) ≡ true → (number 2 i at bytes × (free i ≡ true ⊎ index pool names i at bytes)) × (keys_in pool (more_by b i) ≡ [])
      by_fit true i e at bytes q fit = ((q, inl e), refl)
      by_fit false i e at bytes q fit = ((q, inr (q, one_fits p i names fit)), refl)

      free_fits : (b : Bool) (i : ℕ) → b ≡ true → all_fit pool (more_by b i) ≡ true
      free_fits true i e = refl
      free_fits false i e = absurd cc

      index_fits : (b : Bool) (i : ℕ) → IsNone (index_fault pool names i) → all_fit pool (more_by b i) ≡ true
      index_fits true i e = refl
      index_fits false i e = fits_one p i names e
