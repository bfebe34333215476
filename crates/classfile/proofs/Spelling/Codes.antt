-- The reader of a Code spells one.
use Rattle.std.proofs.Common.{◌≡◌, ◌⊎◌, inl, inr, ℕ, ◌+◌, ◌≤◌, ◌&&◌, ◌==◌, Bool, true, false, List, [], ◌∷◌, length, Option, Some, None, is_none, Result, Ok, MatchBool, if◌then◌else◌, nat_le, codes, refl, sym, ap, subst, ◌∙◌, eqb-true, eq-eqb, leb-true, le-leb}
use Rattle.kes_text.specs.declared.refusal.Stop.{Stop}
use Rattle.kes_text.specs.declared.refusal.Kind.TheVariants as kind
use Rattle.classfile.specs.declared.uses.Use.TheVariants as uses
use Rattle.classfile.specs.declared.uses.Wanted.TheVariants as wanted
use Rattle.classfile.specs.declared.pool.Entry.{Entry}
use Rattle.classfile.specs.ClassFile.{CodeInfo}
use Rattle.classfile.specs.Scan.{Scan, ◌>>=◌, refused, bytes_at, number_at, noted}
use Rattle.classfile.specs.Attributes.{is_text}
use Rattle.classfile.specs.Codes.{code_bytes_at, handler_at, handlers_at, maps_at, code_attribute_at, code_attributes_at, code_at}
use Rattle.classfile.specs.Spelled.Pieces.{Piece, Then, ◌▸◌, number, u2, u4, held, index, table}
use Rattle.classfile.specs.Spelled.Attributes.{Attribute, info, attribute, named, first_of}
use Rattle.classfile.specs.Spelled.Codes.{handler, maps_of, IsCode}
use Rattle.classfile.proofs.Backing.{both, and_true}
use Rattle.classfile.proofs.Spelling.Calculus.{Spells, none, pair, in_turn, ending, told_as, never, same, here, by_test}
use Rattle.classfile.proofs.Spelling.Items.{Bytes, bytes_spells, number_spells, unless_spells}
use Rattle.classfile.proofs.Spelling.Repeating.{Steps, Row, repeat_spells, quiet, table_spells}
use Rattle.classfile.proofs.Spelling.Attributes.{passed_spells, step_spells, IsFirst, found_first, taken_first}

-- where a code begins, and its bytes
abbrev Code : ℕ × List ℕ → Piece
Code v = λ at bytes. (u4 (length v.1) ▸ held v.0 v.1) at bytes × (1 ≤ length v.1) × (length v.1 ≤ 65535)

module _ (pool : List Entry) where
  -- ---- the bytes of a code

  abbrev Held : ℕ → ℕ → ℕ × List ℕ → Piece
  Held n place v = λ at bytes. (v.0 ≡ place) × Bytes n v.1 bytes

  abbrev Bounded : ℕ → Bool
  Bounded n = nat_le 1 n && nat_le n 65535

  code_told : (v : ℕ × List ℕ) (at : ℕ) (bytes : List ℕ) → (n : ℕ) × Then (number 4 n) (λ place back. MatchBool (Bounded n) (Held n place v place back) ⊥) at bytes → Code v at bytes
  code_told v at bytes h = by_bound (Bounded h.0) refl h.1.second
    where
      by_bound : (b : Bool) → Bounded h.0 ≡ b → MatchBool b (Held h.0 (at + length h.1.front) v (at + length h.1.front) h.1.back) ⊥ → Code v at bytes
      by_bound true e q =
          let t = h.1 in
          let long : h.0 ≡ length v.1 = sym q.1.0 ∙ ap length q.1.1 in
          let parts = both (nat_le 1 h.0) (nat_le h.0 65535) e in (
            record { front = t.front; back = t.back; whole = t.whole; first = (t.first.0, t.first.1 ∙ long); second = (sym q.0, q.1.1) },
            subst (λ (k : ℕ). 1 ≤ k) long (leb-true 1 h.0 parts.0),
            subst (λ (k : ℕ). k ≤ 65535) long (leb-true h.0 65535 parts.1),
          )
      by_bound false e q = absurd q

  code_untold : (v : ℕ × List ℕ) (at : ℕ) (bytes : List ℕ) → Code v at bytes → (n : ℕ) × Then (number 4 n) (λ place back. MatchBool (Bounded n) (Held n place v place back) ⊥) at bytes
  code_untold v at bytes h =
      let t = h.0 in
      let fits : Bounded (length v.1) ≡ true = and_true (nat_le 1 (length v.1)) (nat_le (length v.1) 65535) (le-leb 1 (length v.1) h.1) (le-leb (length v.1) 65535 h.2) in
      let place : ℕ = at + length t.front in
      let q : Held (length v.1) place v place t.back = (sym t.second.0, (ap length t.second.1, t.second.1)) in
      (length v.1, record { front = t.front; back = t.back; whole = t.whole; first = t.first; second = subst (λ (b : Bool). MatchBool b (Held (length v.1) place v place t.back) ⊥) (sym fits) q })

  code_bytes_spells : Spells pool pair code_bytes_at Code none
  code_bytes_spells =
      here pool (λ q s. number_at 4 s >>= λ length. if nat_le 1 length.0 && nat_le length.0 65535
      then (bytes_at length.0 length.1 >>= λ bytes. Ok ((length.1.place, bytes.0), bytes.1))
      else refused kind.CodeLength q) (λ q. Code) (λ q.
      same pool code_told code_untold
      (in_turn pool _ (number_spells pool 4) (λ n.
      by_test pool (Bounded n)
      (here pool (λ p t. bytes_at n t >>= λ bytes. Ok ((p, bytes.0), bytes.1)) (λ p. Held n p) (λ p.
      ending pool _ pair (Held n p) none (λ (found : List ℕ). (p, found)) (λ found s. refl)
      (λ found at bytes k. ((refl, k), refl))
      (λ v at bytes k. (v.1, ap (λ (place : ℕ). (place, v.1)) (sym k.0), k.1))
      (bytes_spells pool n)))
      (never pool pair none kind.CodeLength q))))

  -- ---- handlers

  handler_spells : Spells pool (λ (caught : ℕ) (t : Scan). t) handler_at (handler pool) none
  handler_spells =
      same pool
      (λ caught at bytes h.
      let t = h.1 in
      record { front = t.front; back = t.back; whole = t.whole; first = t.first.0; second = (t.second.0, caught_or caught (at + length t.front) t.back t.second.1) })
      (λ caught at bytes t. (t.front, record { front = t.front; back = t.back; whole = t.whole; first = (t.first, refl); second = (t.second.0, or_caught caught (at + length t.front) t.back t.second.1) }))
      (in_turn pool _ (bytes_spells pool 6) (λ found.
      here pool (λ p t. number_at 2 t >>= λ caught. Ok (if caught.0 == 0 then caught.1 else noted (uses.Index p caught.0 wanted.Class) caught.1)) (λ p caught at bytes. u2 caught at bytes × ((caught == 0) ≡ true ⊎ index pool wanted.Class caught at bytes)) (λ p.
      unless_spells pool (λ caught. caught == 0) p wanted.Class (λ (caught : ℕ) (t : Scan). t) _ (λ caught s. by_zero (caught == 0) s (noted (uses.Index p caught wanted.Class) s)))))
    where
      by_zero : (b : Bool) (s t : Scan) → ◌≡◌ {A = Result Scan Stop} (Ok (if b then s else t)) (if b then Ok s else Ok t)
      by_zero true s t = refl
      by_zero false s t = refl

      caught_or : (caught at : ℕ) (bytes : List ℕ) → ((caught == 0) ≡ true ⊎ index pool wanted.Class caught at bytes) → (caught ≡ 0 ⊎ index pool wanted.Class caught at bytes)
      caught_or caught at bytes h = elim h [ inl e ↦ inl (eqb-true caught 0 e) | inr i ↦ inr i ]

      or_caught : (caught at : ℕ) (bytes : List ℕ) → (caught ≡ 0 ⊎ index pool wanted.Class caught at bytes) → ((caught == 0) ≡ true ⊎ index pool wanted.Class caught at bytes)
      or_caught caught at bytes h = elim h [ inl e ↦ inl (eq-eqb caught 0 e) | inr i ↦ inr i ]

  abbrev Free : Unit {0} → ℕ → Unit {0} → Type 0
  Free x a y = Unit {0}

  all_free : (all : List ℕ) (x z : Unit {0}) → Steps Free x all z
  all_free [] x z = refl
  all_free (a ∷ others) x z = (tt, tt, all_free others tt z)

  -- how many, and which
  abbrev Handlers : ℕ × List ℕ → Piece
  Handlers v = λ at bytes. (v.0 ≡ length v.1) × table (handler pool) v.1 at bytes

  abbrev Counted : ℕ → ℕ × List ℕ → Piece
  Counted n v = λ at bytes. (v.0 ≡ n) × Row pool (handler pool) Free none (λ (x : Unit {0}) (t : Scan). t) handler_at n tt (v.1, tt) at bytes

  handlers_spells : Spells pool (λ (v : ℕ × List ℕ) (t : Scan). (v.0, t)) handlers_at Handlers none
  handlers_spells =
      same pool
      (λ v at bytes h.
      let t = h.1 in
      let q = t.second in
      let count : h.0 ≡ length v.1 = sym q.1.0 in
      (q.0 ∙ count, record { front = t.front; back = t.back; whole = t.whole; first = (t.first.0, t.first.1 ∙ count); second = q.1.1 }))
      (λ v at bytes h.
      let t = h.1 in
      (length v.1, record { front = t.front; back = t.back; whole = t.whole; first = t.first; second = (h.0, (refl, t.second, all_free v.1 tt tt)) }))
      (in_turn pool _ (number_spells pool 2) (λ n.
      ending pool _ (λ (v : ℕ × List ℕ) (t : Scan). (v.0, t)) (Counted n) none (λ (p : List ℕ × Unit {0}). (n, p.0)) (λ p s. refl)
      (λ p at bytes h. ((refl, h), refl))
      (λ v at bytes h. ((v.1, tt), ap (λ (k : ℕ). (k, v.1)) (sym h.0), h.1))
      (quiet pool (repeat_spells pool (handler pool) Free none (λ (x : Unit {0}) (t : Scan). t) handler_at (λ x.
      told_as pool (λ (p : ℕ × Unit {0}) (t : Scan). t) (λ p at bytes. handler pool p.0 at bytes × Free x p.0 p.1) none (λ (a : ℕ). (a, tt)) (λ a s. refl)
      (λ a at bytes h. ((h, tt), refl))
      (λ p at bytes h. (p.0, refl, h.0))
      handler_spells) n tt))))

  -- ---- the first StackMapTable

  abbrev Maps : Attribute → Option (ℕ × List ℕ) → Type 0
  Maps a y = y ≡ Some (a.at, a.contents)

  are_maps : (a : Option Attribute) (z : Option (ℕ × List ℕ)) → IsFirst pool Maps a z → z ≡ maps_of a
  are_maps None z h = h
  are_maps (Some a) z h = h

  maps_are : (a : Option Attribute) (z : Option (ℕ × List ℕ)) → z ≡ maps_of a → IsFirst pool Maps a z
  maps_are None z h = h
  maps_are (Some a) z h = h

  maps_spells : (name : ℕ) → Spells pool (λ (p : Attribute × Option (ℕ × List ℕ)) (t : Scan). (p.1, t)) maps_at (λ p at bytes. (p.0.name ≡ name) × info p.0 at bytes × Maps p.0 p.1) none
  maps_spells name =
      told_as pool (λ (p : Attribute × Option (ℕ × List ℕ)) (t : Scan). (p.1, t)) (λ p at bytes. (p.0.name ≡ name) × info p.0 at bytes × Maps p.0 p.1) none (λ (a : Attribute). (a, Some (a.at, a.contents))) (λ a s. refl)
      (λ a at bytes h. ((h.0, h.1, refl), refl))
      (λ p at bytes h. (p.0, ap (λ (y : Option (ℕ × List ℕ)). (p.0, y)) (sym h.2), (h.0, h.1)))
      (passed_spells pool name (λ (a : Attribute) (t : Scan). (Some (a.at, a.contents), t)) (λ place found t. (Some (place, found), t)) (λ a s. refl))

  abbrev Attributes : List Attribute × Option (ℕ × List ℕ) → Piece
  Attributes p = λ at bytes. table (attribute pool) p.0 at bytes × (p.1 ≡ maps_of (first_of (named pool (codes "StackMapTable") p.0)))

  code_attributes_spells : Spells pool (λ (p : List Attribute × Option (ℕ × List ℕ)) (t : Scan). (p.1, t)) (code_attributes_at pool) Attributes none
  code_attributes_spells =
      same pool
      (λ p at bytes h. (h.0, are_maps (first_of (named pool (codes "StackMapTable") p.0)) p.1 (found_first pool (codes "StackMapTable") Maps (λ a y e. ((a.at, a.contents), e)) p.0 p.1 h.1)))
      (λ p at bytes h. (h.0, taken_first pool (codes "StackMapTable") Maps (λ a y e. ((a.at, a.contents), e)) p.0 p.1 (maps_are (first_of (named pool (codes "StackMapTable") p.0)) p.1 h.1)))
      (quiet pool (table_spells pool (attribute pool) (λ (x : Option (ℕ × List ℕ)) (a : Attribute) (y : Option (ℕ × List ℕ)). MatchBool (is_none x && is_text pool a.name (codes "StackMapTable")) (Maps a y) (y ≡ x)) none
      (λ (x : Option (ℕ × List ℕ)) (t : Scan). (x, t)) (code_attribute_at pool)
      (λ x. step_spells pool x (λ name. is_none x && is_text pool name (codes "StackMapTable")) Maps maps_at maps_spells) None))

  -- ---- a Code

  abbrev Made : ℕ → ℕ → ℕ × List ℕ → ℕ → ℕ × List ℕ → List Attribute × Option (ℕ × List ℕ) → CodeInfo
  Made max_stack max_locals code place handlers maps =
      record { at = code.0; max_stack = max_stack; max_locals = max_locals; bytes = code.1; handlers = handlers.0; handlers_at = place; maps = maps.1 }

  abbrev Last : ℕ → ℕ → ℕ × List ℕ → ℕ → ℕ × List ℕ → CodeInfo → Piece
  Last max_stack max_locals code place handlers found = λ at bytes. (maps : List Attribute × Option (ℕ × List ℕ)) × (found ≡ Made max_stack max_locals code place handlers maps) × Attributes maps at bytes

  abbrev WithHandlers : ℕ → ℕ → ℕ × List ℕ → ℕ → CodeInfo → Piece
  WithHandlers max_stack max_locals code place found = λ at bytes. (handlers : ℕ × List ℕ) × Then (Handlers handlers) (Last max_stack max_locals code place handlers found) at bytes

  abbrev WithCode : ℕ → ℕ → CodeInfo → Piece
  WithCode max_stack max_locals found = λ at bytes. (code : ℕ × List ℕ) × Then (Code code) (λ place back. WithHandlers max_stack max_locals code place found place back) at bytes

  abbrev All : CodeInfo → Piece
  All found = λ at bytes. (max_stack : ℕ) × Then (number 2 max_stack) (λ p b. (max_locals : ℕ) × Then (number 2 max_locals) (WithCode max_stack max_locals found) p b) at bytes

  is_code : (found : CodeInfo) (at : ℕ) (bytes : List ℕ) → All found at bytes → IsCode pool found at bytes
  is_code found at bytes h =
      let stack = h.0 in
      let t1 = h.1 in
      let locals = t1.second.0 in
      let t2 = t1.second.1 in
      let code = t2.second.0 in
      let t3 = t2.second.1 in
      let handlers = t3.second.0 in
      let t4 = t3.second.1 in
      let maps = t4.second.0 in
      let place : ℕ = at + length t1.front + length t2.front + length t3.front in
      let here_is : IsCode pool (Made stack locals code place handlers maps) at bytes = record {
        handlers = handlers.1;
        attributes = maps.0;
        items = record {
          front = t1.front;
          back = t1.back;
          whole = t1.whole;
          first = t1.first;
          second = record {
            front = t2.front;
            back = t2.back;
            whole = t2.whole;
            first = t2.first;
            second = record {
              front = t3.front;
              back = t3.back;
              whole = t3.whole;
              first = t3.first.0;
              second = record { front = t4.front; back = t4.back; whole = t4.whole; first = (refl, t4.first.1); second = t4.second.2.0 };
            };
          };
        };
        some = t3.first.1;
        bounded = t3.first.2;
        count = t4.first.0;
        maps = t4.second.2.1;
      } in
      subst (λ (c : CodeInfo). IsCode pool c at bytes) (sym t4.second.1) here_is

  code_is : (found : CodeInfo) (at : ℕ) (bytes : List ℕ) → IsCode pool found at bytes → All found at bytes
  code_is found at bytes h =
      let t1 = h.items in
      let t2 = t1.second in
      let t3 = t2.second in
      let t4 = t3.second in
      let place : ℕ = at + length t1.front + length t2.front + length t3.front in
      let code : ℕ × List ℕ = (found.at, found.bytes) in
      let handlers : ℕ × List ℕ = (found.handlers, h.handlers) in
      let maps : List Attribute × Option (ℕ × List ℕ) = (h.attributes, found.maps) in
      let is : found ≡ Made found.max_stack found.max_locals code place handlers maps =
      ap (λ (p : ℕ). record { at = found.at; max_stack = found.max_stack; max_locals = found.max_locals; bytes = found.bytes; handlers = found.handlers; handlers_at = p; maps = found.maps }) (sym t4.first.0) in (
        found.max_stack,
        record {
          front = t1.front;
          back = t1.back;
          whole = t1.whole;
          first = t1.first;
          second = (
            found.max_locals,
            record {
              front = t2.front;
              back = t2.back;
              whole = t2.whole;
              first = t2.first;
              second = (
                code,
                record {
                  front = t3.front;
                  back = t3.back;
                  whole = t3.whole;
                  first = (t3.first, h.some, h.bounded);
                  second = (handlers, record { front = t4.front; back = t4.back; whole = t4.whole; first = (h.count, t4.first.1); second = (maps, is, (t4.second, h.maps)) });
                },
              );
            },
          );
        },
      )

  pub code_spells : Spells pool pair (code_at pool) (IsCode pool) none
  unfolding code_at
  code_spells =
      same pool is_code code_is
      (in_turn pool _ (number_spells pool 2) (λ stack.
      in_turn pool _ (number_spells pool 2) (λ locals.
      in_turn pool _ code_bytes_spells (λ (code : ℕ × List ℕ).
      here pool (λ p t. handlers_at t >>= λ handlers. code_attributes_at pool handlers.1 >>= λ maps.
      Ok (record { at = code.0; max_stack = stack; max_locals = locals; bytes = code.1; handlers = handlers.0; handlers_at = p; maps = maps.0 }, maps.1))
      (λ p. WithHandlers stack locals code p) (λ p.
      in_turn pool _ handlers_spells (λ (handlers : ℕ × List ℕ).
      ending pool _ pair (Last stack locals code p handlers) none (Made stack locals code p handlers) (λ maps s. refl)
      (λ maps at bytes k. ((maps, refl, k), refl))
      (λ c at bytes k. (k.0, sym k.1, k.2))
      code_attributes_spells))))))
