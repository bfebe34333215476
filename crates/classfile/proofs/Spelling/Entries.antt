-- The reader of a constant pool spells one.
use Rattle.std.proofs.Common.{◌≡◌, ℕ, ◌+◌, ◌==◌, Bool, true, false, List, ◌++◌, length, Ok, MatchBool, refl, sym, ap, subst, ◌∙◌, eqb-true}
use Rattle.std.specs.Int.{w32, w64, cast_signed}
use Rattle.byteorder.specs.Endian.{big_number}
use Rattle.kes_text.specs.declared.refusal.Kind.TheVariants as kind
use Rattle.classfile.specs.declared.uses.Wanted.{Wanted}
use Rattle.classfile.specs.declared.uses.Wanted.TheVariants as wanted
use Rattle.classfile.specs.declared.pool.Entry.{Entry}
use Rattle.classfile.specs.declared.pool.Entry.TheVariants as entry
use Rattle.classfile.specs.Scan.{Scan, Read, ◌>>=◌, number_at, index_at}
use Rattle.classfile.specs.Entries.{utf8_at, integer_at, long_at, opaque_at, class_at, one_index_at, referred, method_handle_at, invoke_dynamic_at, body_at, entry_at}
use Rattle.classfile.specs.Spelled.Pieces.{Piece, Then, ◌▸◌, any, number, u1, u2, index}
use Rattle.classfile.specs.Spelled.Pool.{int, long, some_index, handle, entry_piece, is_behind}
use Rattle.classfile.proofs.Spelling.Calculus.{Spells, none, pair, in_turn, ending, never, same, here, by_test}
use Rattle.classfile.proofs.Spelling.Items.{bytes_spells, number_spells, index_spells}

-- an entry that is made of a value, which these bytes spell
abbrev pub Is : {V : Type 0} → (V → Entry) → (V → Piece) → Entry → Piece
Is {V} make P e = λ at bytes. (v : V) × (e ≡ make v) × P v at bytes

module _ (pool : List Entry) (version : ℕ) where
  made : {V : Type 0} {r : Scan → Read V} {P : V → Piece} (make : V → Entry) → Spells pool pair r P none → Spells pool pair (λ s. r s >>= λ v. Ok (make v.0, v.1)) (Is make P) none
  made {V} {r} {P} make h = ending pool _ pair (Is make P) none make (λ a s. refl) (λ a at bytes p. ((a, refl, p), refl)) (λ e at bytes q. (q.0, sym q.1, q.2)) h

  abbrev text_piece : List ℕ → Piece
  text_piece t = u2 (length t) ▸ (λ at bytes. bytes ≡ t)

  utf8_spells : Spells pool pair utf8_at (Is entry.Utf8 text_piece) none
  utf8_spells =
      same pool
      (λ e at bytes h.
      let t = h.1 in
      let x = t.second in
      let long : h.0 ≡ length x.0 = sym x.2.0 ∙ ap length x.2.1 in
      (x.0, x.1, record { front = t.front; back = t.back; whole = t.whole; first = (t.first.0, t.first.1 ∙ long); second = x.2.1 }))
      (λ e at bytes h.
      let t = h.2 in
      (length h.0, record { front = t.front; back = t.back; whole = t.whole; first = t.first; second = (h.0, h.1, (ap length t.second, t.second)) }))
      (in_turn pool _ (number_spells pool 2) (λ n. made entry.Utf8 (bytes_spells pool n)))

  integer_spells : Spells pool pair integer_at (Is entry.Integer int) none
  integer_spells =
      same pool (λ e at bytes h. (cast_signed w32 h.0, h.1, (h.0, h.2, refl))) (λ e at bytes h. (h.2.0, h.1 ∙ ap entry.Integer (sym h.2.2), h.2.1))
      (made (λ k. entry.Integer (cast_signed w32 k)) (number_spells pool 4))

  long_spells : Spells pool pair long_at (Is entry.Long long) none
  long_spells =
      same pool (λ e at bytes h. (cast_signed w64 h.0, h.1, (h.0, h.2, refl))) (λ e at bytes h. (h.2.0, h.1 ∙ ap entry.Long (sym h.2.2), h.2.1))
      (made (λ k. entry.Long (cast_signed w64 k)) (number_spells pool 8))

  -- an entry that tells nothing
  abbrev Only : Entry → Piece → Entry → Piece
  Only kept P = Is (λ (u : Unit {0}). kept) (λ u. P)

  opaque_spells : (kept : Entry) (n : ℕ) → Spells pool pair (opaque_at kept n) (Only kept (any n)) none
  opaque_spells kept n =
      same pool (λ e at bytes h. (tt, h.1, h.2.0)) (λ e at bytes h. (bytes, h.1, (h.2, refl)))
      (made (λ (t : List ℕ). kept) (bytes_spells pool n))

  class_spells : Spells pool pair class_at (Is entry.Class (index pool wanted.ClassText)) none
  class_spells = made entry.Class (index_spells pool wanted.ClassText)

  one_index_spells : (kept : Entry) (names : Wanted) → Spells pool pair (one_index_at kept names) (Only kept (some_index pool names)) none
  one_index_spells kept names =
      same pool (λ e at bytes h. (tt, h.1, (h.0, h.2))) (λ e at bytes h. (h.2.0, h.1, h.2.1))
      (made (λ (i : ℕ). kept) (index_spells pool names))

  -- two indices
  abbrev Two : (ℕ → ℕ → Entry) → Wanted → Wanted → Entry → Piece
  Two kept first second = Is (λ (p : ℕ × ℕ). kept p.0 p.1) (λ p. index pool first p.0 ▸ index pool second p.1)

  two_spells : (kept : ℕ → ℕ → Entry) (first second : Wanted) → Spells pool pair (λ s. index_at first s >>= λ one. index_at second one.1 >>= λ other. Ok (kept one.0 other.0, other.1)) (Two kept first second) none
  two_spells kept first second =
      same pool
      (λ e at bytes h. let t = h.1 in ((h.0, t.second.0), t.second.1, record { front = t.front; back = t.back; whole = t.whole; first = t.first; second = t.second.2 }))
      (λ e at bytes h. let t = h.2 in (h.0.0, record { front = t.front; back = t.back; whole = t.whole; first = t.first; second = (h.0.1, h.1, t.second) }))
      (in_turn pool _ (index_spells pool first) (λ i. made (kept i) (index_spells pool second)))

  handle_spells : Spells pool pair (method_handle_at version) (Only entry.MethodHandle (handle version pool)) none
  handle_spells =
      same pool
      (λ e at bytes h. let t = h.1 in (tt, t.second.1, (h.0, record { front = t.front; back = t.back; whole = t.whole; first = t.first; second = t.second.2 })))
      (λ e at bytes h. let t = h.2.1 in (h.2.0, record { front = t.front; back = t.back; whole = t.whole; first = t.first; second = (tt, h.1, t.second) }))
      (in_turn pool _ (number_spells pool 1) (λ k. one_index_spells entry.MethodHandle (referred version k)))

  dynamic_spells : Spells pool pair invoke_dynamic_at (Only entry.InvokeDynamic (any 2 ▸ some_index pool wanted.MethodType)) none
  dynamic_spells =
      same pool
      (λ e at bytes h. let t = h.1 in (tt, t.second.1, record { front = t.front; back = t.back; whole = t.whole; first = t.first.0; second = t.second.2 }))
      (λ e at bytes h. let t = h.2 in (big_number 2 t.front, record { front = t.front; back = t.back; whole = t.whole; first = (t.first, refl); second = (tt, h.1, t.second) }))
      (in_turn pool _ (number_spells pool 2) (λ k. one_index_spells entry.InvokeDynamic wanted.MethodType))

  -- what stands behind a tag
  abbrev Chain : ℕ → Entry → Piece
  Chain tag e = λ at bytes.
      MatchBool (tag == 1) (Is entry.Utf8 text_piece e at bytes)
      (MatchBool (tag == 3) (Is entry.Integer int e at bytes)
      (MatchBool (tag == 4) (Only entry.Float (any 4) e at bytes)
      (MatchBool (tag == 5) (Is entry.Long long e at bytes)
      (MatchBool (tag == 6) (Only entry.Double (any 8) e at bytes)
      (MatchBool (tag == 7) (Is entry.Class (index pool wanted.ClassText) e at bytes)
      (MatchBool (tag == 8) (Only entry.String (some_index pool wanted.Text) e at bytes)
      (MatchBool (tag == 9) (Two entry.Fieldref wanted.Class wanted.FieldType e at bytes)
      (MatchBool (tag == 10) (Two entry.Methodref wanted.Class wanted.MethodType e at bytes)
      (MatchBool (tag == 11) (Two entry.InterfaceMethodref wanted.Class wanted.MethodType e at bytes)
      (MatchBool (tag == 12) (Two entry.NameAndType wanted.Text wanted.AnyText e at bytes)
      (MatchBool (tag == 15) (Only entry.MethodHandle (handle version pool) e at bytes)
      (MatchBool (tag == 16) (Only entry.MethodType (some_index pool wanted.MethodText) e at bytes)
      (MatchBool (tag == 18) (Only entry.InvokeDynamic (any 2 ▸ some_index pool wanted.MethodType) e at bytes) ⊥)))))))))))))

  body_spells : (place tag : ℕ) → Spells pool pair (body_at version place tag) (Chain tag) none
  body_spells place tag =
      by_test pool (tag == 1) utf8_spells
      (by_test pool (tag == 3) integer_spells
      (by_test pool (tag == 4) (opaque_spells entry.Float 4)
      (by_test pool (tag == 5) long_spells
      (by_test pool (tag == 6) (opaque_spells entry.Double 8)
      (by_test pool (tag == 7) class_spells
      (by_test pool (tag == 8) (one_index_spells entry.String wanted.Text)
      (by_test pool (tag == 9) (two_spells entry.Fieldref wanted.Class wanted.FieldType)
      (by_test pool (tag == 10) (two_spells entry.Methodref wanted.Class wanted.MethodType)
      (by_test pool (tag == 11) (two_spells entry.InterfaceMethodref wanted.Class wanted.MethodType)
      (by_test pool (tag == 12) (two_spells entry.NameAndType wanted.Text wanted.AnyText)
      (by_test pool (tag == 15) handle_spells
      (by_test pool (tag == 16) (one_index_spells entry.MethodType wanted.MethodText)
      (by_test pool (tag == 18) dynamic_spells (never pool pair none kind.PoolTag place))))))))))))))

  -- an entry with bytes of its own
  abbrev pub EntryPiece : Entry → Piece
  EntryPiece e = λ at bytes. (is_behind e ≡ false) × entry_piece version pool e at bytes

  -- by a test of the tag: what it wants, or else another
  picked : {V : Type 0} (make : V → Entry) (P : V → Piece) (k tag : ℕ) (e : Entry) (at : ℕ) (bytes front back : List ℕ) (Other : Type 0) → bytes ≡ front ++ back → number 1 tag at front
      → ((v : V) → (u1 k ▸ P v) at bytes → EntryPiece (make v) at bytes) → (Other → EntryPiece e at bytes)
      → (b : Bool) → (tag == k) ≡ b → MatchBool b (Is make P e (at + length front) back) Other → EntryPiece e at bytes
  picked {V} make P k tag e at bytes front back Other whole first is_piece other true is h =
      let same_tag : tag ≡ k = eqb-true tag k is in
      subst (λ (x : Entry). EntryPiece x at bytes) (sym h.1) (is_piece h.0 (record { front = front; back = back; whole = whole; first = (first.0, first.1 ∙ same_tag); second = h.2 }))
  picked make P k tag e at bytes front back Other whole first is_piece other false is h = other h

  told : (e : Entry) (at : ℕ) (bytes : List ℕ) → (tag : ℕ) × Then (number 1 tag) (Chain tag e) at bytes → EntryPiece e at bytes
  told e at bytes h =
      let tag = h.0 in
      let t = h.1 in
      let f = t.front in
      let b = t.back in
      let w = t.whole in
      let n = t.first in
      picked entry.Utf8 text_piece 1 tag e at bytes f b _ w n (λ v p. (refl, p))
      (picked entry.Integer int 3 tag e at bytes f b _ w n (λ v p. (refl, p))
      (picked (λ (u : Unit {0}). entry.Float) (λ u. (any 4)) 4 tag e at bytes f b _ w n (λ v p. (refl, p))
      (picked entry.Long long 5 tag e at bytes f b _ w n (λ v p. (refl, p))
      (picked (λ (u : Unit {0}). entry.Double) (λ u. (any 8)) 6 tag e at bytes f b _ w n (λ v p. (refl, p))
      (picked entry.Class (index pool wanted.ClassText) 7 tag e at bytes f b _ w n (λ v p. (refl, p))
      (picked (λ (u : Unit {0}). entry.String) (λ u. (some_index pool wanted.Text)) 8 tag e at bytes f b _ w n (λ v p. (refl, p))
      (picked (λ (p : ℕ × ℕ). entry.Fieldref p.0 p.1) (λ p. index pool wanted.Class p.0 ▸ index pool wanted.FieldType p.1) 9 tag e at bytes f b _ w n (λ v p. (refl, p))
      (picked (λ (p : ℕ × ℕ). entry.Methodref p.0 p.1) (λ p. index pool wanted.Class p.0 ▸ index pool wanted.MethodType p.1) 10 tag e at bytes f b _ w n (λ v p. (refl, p))
      (picked (λ (p : ℕ × ℕ). entry.InterfaceMethodref p.0 p.1) (λ p. index pool wanted.Class p.0 ▸ index pool wanted.MethodType p.1) 11 tag e at bytes f b _ w n (λ v p. (refl, p))
      (picked (λ (p : ℕ × ℕ). entry.NameAndType p.0 p.1) (λ p. index pool wanted.Text p.0 ▸ index pool wanted.AnyText p.1) 12 tag e at bytes f b _ w n (λ v p. (refl, p))
      (picked (λ (u : Unit {0}). entry.MethodHandle) (λ u. (handle version pool)) 15 tag e at bytes f b _ w n (λ v p. (refl, p))
      (picked (λ (u : Unit {0}). entry.MethodType) (λ u. (some_index pool wanted.MethodText)) 16 tag e at bytes f b _ w n (λ v p. (refl, p))
      (picked (λ (u : Unit {0}). entry.InvokeDynamic) (λ u. (any 2 ▸ some_index pool wanted.MethodType)) 18 tag e at bytes f b _ w n (λ v p. (refl, p)) (λ no. absurd no) (tag == 18) refl)
      (tag == 16) refl) (tag == 15) refl) (tag == 12) refl) (tag == 11) refl) (tag == 10) refl) (tag == 9) refl) (tag == 8) refl) (tag == 7) refl) (tag == 6) refl) (tag == 5) refl) (tag == 4) refl) (tag == 3) refl) (tag == 1) refl t.second

  -- the tag of an entry, and what it wants
  untold : (e : Entry) (at : ℕ) (bytes : List ℕ) → EntryPiece e at bytes → (tag : ℕ) × Then (number 1 tag) (Chain tag e) at bytes
  untold (entry.Utf8 v) at bytes h = let t = h.1 in (1, record { front = t.front; back = t.back; whole = t.whole; first = t.first; second = (v, refl, t.second) })
  untold (entry.Integer v) at bytes h = let t = h.1 in (3, record { front = t.front; back = t.back; whole = t.whole; first = t.first; second = (v, refl, t.second) })
  untold entry.Float at bytes h = let t = h.1 in (4, record { front = t.front; back = t.back; whole = t.whole; first = t.first; second = (tt, refl, t.second) })
  untold (entry.Long v) at bytes h = let t = h.1 in (5, record { front = t.front; back = t.back; whole = t.whole; first = t.first; second = (v, refl, t.second) })
  untold entry.Double at bytes h = let t = h.1 in (6, record { front = t.front; back = t.back; whole = t.whole; first = t.first; second = (tt, refl, t.second) })
  untold entry.Behind at bytes h = absurd (let e : true ≡ false = h.0 in cc)
  untold (entry.Class v) at bytes h = let t = h.1 in (7, record { front = t.front; back = t.back; whole = t.whole; first = t.first; second = (v, refl, t.second) })
  untold entry.String at bytes h = let t = h.1 in (8, record { front = t.front; back = t.back; whole = t.whole; first = t.first; second = (tt, refl, t.second) })
  untold (entry.Fieldref a b) at bytes h = let t = h.1 in (9, record { front = t.front; back = t.back; whole = t.whole; first = t.first; second = ((a, b), refl, t.second) })
  untold (entry.Methodref a b) at bytes h = let t = h.1 in (10, record { front = t.front; back = t.back; whole = t.whole; first = t.first; second = ((a, b), refl, t.second) })
  untold (entry.InterfaceMethodref a b) at bytes h = let t = h.1 in (11, record { front = t.front; back = t.back; whole = t.whole; first = t.first; second = ((a, b), refl, t.second) })
  untold (entry.NameAndType a b) at bytes h = let t = h.1 in (12, record { front = t.front; back = t.back; whole = t.whole; first = t.first; second = ((a, b), refl, t.second) })
  untold entry.MethodHandle at bytes h = let t = h.1 in (15, record { front = t.front; back = t.back; whole = t.whole; first = t.first; second = (tt, refl, t.second) })
  untold entry.MethodType at bytes h = let t = h.1 in (16, record { front = t.front; back = t.back; whole = t.whole; first = t.first; second = (tt, refl, t.second) })
  untold entry.InvokeDynamic at bytes h = let t = h.1 in (18, record { front = t.front; back = t.back; whole = t.whole; first = t.first; second = (tt, refl, t.second) })

  pub entry_spells : Spells pool pair (entry_at version) EntryPiece none
  unfolding entry_at
  entry_spells =
      here pool (λ p s. number_at 1 s >>= λ tag. body_at version p tag.0 tag.1) (λ p. EntryPiece)
      (λ p. same pool told untold (in_turn pool _ (number_spells pool 1) (λ tag. body_spells p tag)))
