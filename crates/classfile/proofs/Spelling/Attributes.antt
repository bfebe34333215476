-- The readers of attributes spell them.
use Rattle.std.proofs.Common.{◌≡◌, ℕ, ◌+◌, ◌&&◌, ◌==◌, Bool, true, false, cond, List, [], ◌∷◌, ◌++◌, length, Option, Some, None, is_none, Ok, MatchBool, if◌then◌else◌, append-nil, refl, sym, ap, subst, ◌∙◌, arith, eqb-true, eq-eqb}
use Rattle.kes_text.specs.declared.refusal.Kind.TheVariants as kind
use Rattle.classfile.specs.declared.uses.Wanted.TheVariants as wanted
use Rattle.classfile.specs.declared.pool.Entry.{Entry}
use Rattle.classfile.specs.Scan.{Scan, Read, ◌>>=◌, refused, bytes_at, number_at, index_at}
use Rattle.classfile.specs.Attributes.{is_text, skipped_at, closed, attribute_at, attributes_at}
use Rattle.classfile.specs.Spelled.Pieces.{Piece, Then, number, index, table}
use Rattle.classfile.specs.Spelled.Attributes.{Attribute, info, attribute, named, first_of}
use Rattle.classfile.proofs.Spelling.Calculus.{Spells, none, pair, in_turn, ending, told_as, pure, never, same, here, by_test, with_bytes}
use Rattle.classfile.proofs.Spelling.Items.{Bytes, bytes_spells, number_spells, index_spells}
use Rattle.classfile.proofs.Spelling.Repeating.{Steps, table_spells, quiet}

attribute_is : (a : Attribute) (name place : ℕ) → a.name ≡ name → a.at ≡ place → record { name = name; at = place; contents = a.contents } ≡ a
attribute_is a name place n p =
    ap (λ (k : ℕ). record { name = k; at = place; contents = a.contents }) (sym n) ∙ ap (λ (k : ℕ). record { name = a.name; at = k; contents = a.contents }) (sym p)

-- both sides of a test have two parts in common
shared : {E I : Type 0} (T U : Type 0) (b : Bool) → MatchBool b (E × I × T) (E × I × U) → E × I × MatchBool b T U
shared T U true h = h
shared T U false h = h

unshared : {E I : Type 0} (T U : Type 0) (b : Bool) → E → I → MatchBool b T U → MatchBool b (E × I × T) (E × I × U)
unshared T U true e i h = (e, i, h)
unshared T U false e i h = (e, i, h)

module _ (pool : List Entry) where
  -- an attribute with this name, behind its name
  abbrev pub Named : ℕ → Attribute → Piece
  Named name a = λ at bytes. (a.name ≡ name) × info a at bytes

  -- ---- contents that are passed over

  abbrev Passed : ℕ → ℕ → ℕ → Attribute → Piece
  Passed name n place a = λ at bytes. (a.name ≡ name) × (a.at ≡ place) × Bytes n a.contents bytes

  pub passed_spells : {D : Type 0} (name : ℕ) (next : Attribute → Scan → D) (answer : ℕ → List ℕ → Scan → D) → ((a : Attribute) (s : Scan) → answer a.at a.contents s ≡ next a s)
      → Spells pool next (λ s. number_at 4 s >>= λ length. bytes_at length.0 length.1 >>= λ bytes. Ok (answer length.1.place bytes.0 bytes.1)) (Named name) none
  passed_spells {D} name next answer told =
      same pool forth back
      (in_turn pool _ (number_spells pool 4) (λ n.
      here pool (λ p t. bytes_at n t >>= λ bytes. Ok (answer p bytes.0 bytes.1)) (λ p. Passed name n p) (λ p.
      ending pool _ next (Passed name n p) none (λ (found : List ℕ). record { name = name; at = p; contents = found }) (λ found s. ap (λ (d : D). Ok d) (told (record { name = name; at = p; contents = found }) s))
      (λ found at bytes q. ((refl, refl, q), refl))
      (λ a at bytes q. (a.contents, attribute_is a name p q.0 q.1, q.2))
      (bytes_spells pool n))))
    where
      forth : (a : Attribute) (at : ℕ) (bytes : List ℕ) → (n : ℕ) × Then (number 4 n) (λ place back. Passed name n place a place back) at bytes → Named name a at bytes
      forth a at bytes h =
          let t = h.1 in
          let q = t.second in
          let long : h.0 ≡ length a.contents = sym q.2.0 ∙ ap length q.2.1 in
          (q.0, record { front = t.front; back = t.back; whole = t.whole; first = (t.first.0, t.first.1 ∙ long); second = (sym q.1, q.2.1) })

      back : (a : Attribute) (at : ℕ) (bytes : List ℕ) → Named name a at bytes → (n : ℕ) × Then (number 4 n) (λ place back. Passed name n place a place back) at bytes
      back a at bytes h =
          let t = h.1 in
          (length a.contents, record { front = t.front; back = t.back; whole = t.whole; first = t.first; second = (h.0, sym t.second.0, (ap length t.second.1, t.second.1)) })

  pub skipped_spells : (name : ℕ) → Spells pool (λ (a : Attribute) (t : Scan). t) skipped_at (Named name) none
  skipped_spells name = passed_spells name (λ (a : Attribute) (t : Scan). t) (λ place found t. t) (λ a s. refl)

  -- ---- contents that are looked at

  closed_spells : (fault start n : ℕ) → Spells pool (λ (u : Unit {0}) (t : Scan). t) (closed fault start n) (λ u at bytes. (at ≡ start + n) × (bytes ≡ [])) none
  closed_spells fault start n =
      here pool (λ p t. if p == start + n then Ok t else refused kind.AttrLength fault) (λ p u at bytes. (p ≡ start + n) × (bytes ≡ [])) (λ p.
      same pool (λ u at bytes h. by_value p (p == start + n) refl u bytes h) (λ u at bytes h. by_back p (p == start + n) u bytes (eq-eqb p (start + n) h.0) h.1)
      (by_test pool (p == start + n) (pure pool (λ (u : Unit {0}) (t : Scan). t) tt) (never pool (λ (u : Unit {0}) (t : Scan). t) none kind.AttrLength fault)))
    where
      by_value : (p : ℕ) (b : Bool) → (p == start + n) ≡ b → (u : Unit {0}) (bytes : List ℕ) → MatchBool b ((u ≡ tt) × (bytes ≡ [])) ⊥ → (p ≡ start + n) × (bytes ≡ [])
      by_value p true e u bytes h = (eqb-true p (start + n) e, h.1)
      by_value p false e u bytes h = absurd h

      by_back : (p : ℕ) (b : Bool) (u : Unit {0}) (bytes : List ℕ) → b ≡ true → bytes ≡ [] → MatchBool b ((u ≡ tt) × (bytes ≡ [])) ⊥
      by_back p true u bytes e h = (refl, h)
      by_back p false u bytes e h = absurd cc

  -- contents that are a piece
  abbrev pub Holds : {B : Type 0} → (B → Piece) → ℕ → Attribute × B → Piece
  Holds P name x = λ at bytes. (x.0.name ≡ name) × info x.0 at bytes × P x.1 x.0.at x.0.contents

  abbrev Closed : {B : Type 0} → ℕ → ℕ → ℕ → B × List ℕ → Attribute × B → Piece
  Closed name n place v x = λ at bytes. (x ≡ (record { name = name; at = place; contents = v.1 }, v.0)) × (at ≡ place + n) × (bytes ≡ [])

  abbrev Within : {B : Type 0} → (B → Piece) → ℕ → ℕ → ℕ → Attribute × B → Piece
  Within {B} P name n place x = λ at bytes. (v : B × List ℕ) × Then (λ a c. P v.0 a c × (c ≡ v.1)) (Closed name n place v x) at bytes

  module _ {B : Type 0} (name : ℕ) (r : Scan → Read B) (P : B → Piece) (h : Spells pool pair r P none) where
    abbrev answer : Attribute × B → Scan → Option B × Scan
    answer x t = (Some x.1, t)

    enclosed : (x : Attribute × B) (at : ℕ) (bytes : List ℕ) → (n : ℕ) × Then (number 4 n) (λ place back. Within P name n place x place back) at bytes → Holds P name x at bytes
    enclosed x at bytes h =
        let t = h.1 in
        let v = t.second.0 in
        let u = t.second.1 in
        let place : ℕ = at + length t.front in
        let long : h.0 ≡ length v.1 = (let e : place + length u.front ≡ place + h.0 = u.second.1 in let f : length u.front ≡ length v.1 = ap length u.first.1 in omega arith) in
        let all : t.back ≡ v.1 = u.whole ∙ ap (λ (l : List ℕ). u.front ++ l) u.second.2 ∙ append-nil u.front ∙ u.first.1 in
        let held_here : Holds P name (record { name = name; at = place; contents = v.1 }, v.0) at bytes =
        (refl, record { front = t.front; back = t.back; whole = t.whole; first = (t.first.0, t.first.1 ∙ long); second = (refl, all) }, subst (λ (l : List ℕ). P v.0 place l) u.first.1 u.first.0) in
        subst (λ (y : Attribute × B). Holds P name y at bytes) (sym u.second.0) held_here

    opened : (x : Attribute × B) (at : ℕ) (bytes : List ℕ) → Holds P name x at bytes → (n : ℕ) × Then (number 4 n) (λ place back. Within P name n place x place back) at bytes
    opened x at bytes h =
        let t = h.1 in
        let a = x.0 in
        let place : ℕ = at + length t.front in
        let here_p : P x.1 place a.contents = subst (λ (p : ℕ). P x.1 p a.contents) (sym t.second.0) h.2 in
        let is : x ≡ (record { name = name; at = place; contents = a.contents }, x.1) = ap (λ (y : Attribute). (y, x.1)) (sym (attribute_is a name place h.0 (sym t.second.0))) in (
          length a.contents,
          record {
            front = t.front;
            back = t.back;
            whole = t.whole;
            first = t.first;
            second = ((x.1, a.contents), record { front = a.contents; back = []; whole = t.second.1 ∙ sym (append-nil a.contents); first = (here_p, refl); second = (is, refl, refl) });
          },
        )

    pub enclosed_spells : Spells pool answer (λ s. number_at 4 s >>= λ length. r length.1 >>= λ value. closed s.place length.1.place length.0 value.1 >>= λ behind. Ok (Some value.0, behind)) (Holds P name) none
    enclosed_spells =
        here pool (λ q s. number_at 4 s >>= λ length. r length.1 >>= λ value. closed q length.1.place length.0 value.1 >>= λ behind. Ok (Some value.0, behind)) (λ q. Holds P name) (λ q.
        same pool enclosed opened
        (in_turn pool _ (number_spells pool 4) (λ n.
        here pool (λ p t. r t >>= λ value. closed q p n value.1 >>= λ behind. Ok (Some value.0, behind)) (λ p. Within P name n p) (λ p.
        in_turn pool _ (with_bytes pool h) (λ (v : B × List ℕ).
        ending pool _ answer (Closed name n p v) none (λ (u : Unit {0}). (record { name = name; at = p; contents = v.1 }, v.0)) (λ u s. refl)
        (λ u at bytes k. ((refl, k.0, k.1), refl))
        (λ x at bytes k. (tt, sym k.0, (k.1, k.2)))
        (closed_spells q p n))))))

  -- ---- one attribute, by its name

  module _ {X : Type 0} (x : X) (test : ℕ → Bool) (T : Attribute → X → Type 0) (special : Scan → Read X) where
    abbrev Special : ℕ → Attribute × X → Piece
    Special name p = λ at bytes. (p.0.name ≡ name) × info p.0 at bytes × T p.0 p.1

    abbrev Skipped : ℕ → Attribute × X → Piece
    Skipped name p = λ at bytes. (p.0.name ≡ name) × info p.0 at bytes × (p.1 ≡ x)

    abbrev ByName : ℕ → Attribute × X → Piece
    ByName name p = λ at bytes. MatchBool (test name) (Special name p at bytes) (Skipped name p at bytes)

    abbrev pub Step : Attribute × X → Piece
    Step p = λ at bytes. attribute pool p.0 at bytes × MatchBool (test p.0.name) (T p.0 p.1) (p.1 ≡ x)

    pub step_spells : ((name : ℕ) → Spells pool (λ (p : Attribute × X) (t : Scan). (p.1, t)) special (Special name) none)
        → Spells pool (λ (p : Attribute × X) (t : Scan). (p.1, t)) (λ s. index_at wanted.Text s >>= λ name. if test name.0 then special name.1 else (skipped_at name.1 >>= λ behind. Ok (x, behind))) Step none
    step_spells known =
        same pool forth back
        (in_turn pool _ (index_spells pool wanted.Text) (λ name.
        by_test pool (test name) (known name)
        (ending pool _ (λ (p : Attribute × X) (t : Scan). (p.1, t)) (Skipped name) none (λ (a : Attribute). (a, x)) (λ a s. refl)
        (λ a at bytes h. ((h.0, h.1, refl), refl))
        (λ p at bytes h. (p.0, ap (λ (y : X). (p.0, y)) (sym h.2), (h.0, h.1)))
        (skipped_spells name))))
      where
        forth : (p : Attribute × X) (at : ℕ) (bytes : List ℕ) → (name : ℕ) × Then (index pool wanted.Text name) (ByName name p) at bytes → Step p at bytes
        forth p at bytes h =
            let t = h.1 in
            let q = shared (T p.0 p.1) (p.1 ≡ x) (test h.0) t.second in
            let i : index pool wanted.Text p.0.name at t.front = subst (λ (n : ℕ). index pool wanted.Text n at t.front) (sym q.0) t.first in
            (record { front = t.front; back = t.back; whole = t.whole; first = i; second = q.1 }, subst (λ (n : ℕ). MatchBool (test n) (T p.0 p.1) (p.1 ≡ x)) (sym q.0) q.2)

        back : (p : Attribute × X) (at : ℕ) (bytes : List ℕ) → Step p at bytes → (name : ℕ) × Then (index pool wanted.Text name) (ByName name p) at bytes
        back p at bytes h =
            let t = h.0 in
            (p.0.name, record { front = t.front; back = t.back; whole = t.whole; first = t.first; second = unshared (T p.0 p.1) (p.1 ≡ x) (test p.0.name) refl t.second h.1 })

  -- ---- attributes that are all passed over

  attribute_spells : Spells pool (λ (a : Attribute) (t : Scan). t) attribute_at (attribute pool) none
  attribute_spells =
      same pool
      (λ a at bytes h.
      let t = h.1 in
      record { front = t.front; back = t.back; whole = t.whole; first = subst (λ (n : ℕ). index pool wanted.Text n at t.front) (sym t.second.0) t.first; second = t.second.1 })
      (λ a at bytes t. (a.name, record { front = t.front; back = t.back; whole = t.whole; first = t.first; second = (refl, t.second) }))
      (in_turn pool _ (index_spells pool wanted.Text) skipped_spells)

  abbrev Free : Unit {0} → Attribute → Unit {0} → Type 0
  Free x a y = Unit {0}

  all_free : (all : List Attribute) (x z : Unit {0}) → Steps Free x all z
  all_free [] x z = refl
  all_free (a ∷ others) x z = (tt, tt, all_free others tt z)

  pub attributes_spells : Spells pool (λ (all : List Attribute) (t : Scan). t) attributes_at (table (attribute pool)) none
  attributes_spells =
      told_as pool (λ (all : List Attribute) (t : Scan). t) (table (attribute pool)) none (λ (p : List Attribute × Unit {0}). p.0) (λ p s. refl)
      (λ p at bytes h. (h.0, refl))
      (λ all at bytes h. ((all, tt), refl, (h, all_free all tt tt)))
      (quiet pool (table_spells pool (attribute pool) Free none (λ (x : Unit {0}) (t : Scan). t) attribute_at (λ x.
      told_as pool (λ (p : Attribute × Unit {0}) (t : Scan). t) (λ p at bytes. attribute pool p.0 at bytes × Free x p.0 p.1) none (λ (a : Attribute). (a, tt)) (λ a s. refl)
      (λ a at bytes h. ((h, tt), refl))
      (λ p at bytes h. (p.0, refl, h.0))
      attribute_spells) tt))

  -- ---- the first attribute of a name

  abbrev pub IsFirst : {V : Type 0} → (Attribute → Option V → Type 0) → Option Attribute → Option V → Type 0
  IsFirst T None z = z ≡ None
  IsFirst T (Some a) z = T a z

  module _ {V : Type 0} (text : List ℕ) (T : Attribute → Option V → Type 0) (some : (a : Attribute) (y : Option V) → T a y → (v : V) × (y ≡ Some v)) where
    abbrev pub Takes : Option V → Attribute → Option V → Type 0
    Takes x a y = MatchBool (is_none x && is_text pool a.name text) (T a y) (y ≡ x)

    stays : (v : V) (all : List Attribute) (z : Option V) → Steps Takes (Some v) all z → z ≡ Some v
    stays v [] z h = h
    stays v (a ∷ others) z h = stays v others z (subst (λ (y : Option V). Steps Takes y others z) h.1 h.2)

    stay : (v : V) (all : List Attribute) → Steps Takes (Some v) all (Some v)
    stay v [] = refl
    stay v (a ∷ others) = (Some v, refl, stay v others)

    found_by : (b : Bool) (a : Attribute) (others : List Attribute) (z : Option V) → (Steps Takes None others z → IsFirst T (first_of (named pool text others)) z)
        → (y : Option V) → MatchBool b (T a y) (y ≡ None) → Steps Takes y others z → IsFirst T (first_of (cond b (a ∷ named pool text others) (named pool text others))) z
    found_by true a others z more y h rest =
        let v = some a y h in
        let is : z ≡ y = stays v.0 others z (subst (λ (y : Option V). Steps Takes y others z) v.1 rest) ∙ sym v.1 in
        subst (T a) (sym is) h
    found_by false a others z more y h rest = more (subst (λ (y : Option V). Steps Takes y others z) h rest)

    pub found_first : (all : List Attribute) (z : Option V) → Steps Takes None all z → IsFirst T (first_of (named pool text all)) z
    found_first [] z h = h
    found_first (a ∷ others) z h = found_by (is_text pool a.name text) a others z (found_first others z) h.0 h.1 h.2

    taken_by : (b : Bool) (a : Attribute) (others : List Attribute) (z : Option V) → (IsFirst T (first_of (named pool text others)) z → Steps Takes None others z)
        → IsFirst T (first_of (cond b (a ∷ named pool text others) (named pool text others))) z → (y : Option V) × MatchBool b (T a y) (y ≡ None) × Steps Takes y others z
    taken_by true a others z more h =
        let v = some a z h in
        (z, h, subst (λ (y : Option V). Steps Takes y others y) (sym v.1) (stay v.0 others))
    taken_by false a others z more h = (None, refl, more h)

    pub taken_first : (all : List Attribute) (z : Option V) → IsFirst T (first_of (named pool text all)) z → Steps Takes None all z
    taken_first [] z h = h
    taken_first (a ∷ others) z h = taken_by (is_text pool a.name text) a others z (taken_first others z) h
