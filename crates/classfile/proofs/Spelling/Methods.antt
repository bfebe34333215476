-- The reader of methods spells them.
use Rattle.std.proofs.Common.{◌≡◌, ℕ, ◌||◌, Bool, true, false, List, [], ◌∷◌, ◌++◌, cond, Option, Some, None, is_some, Ok, MatchBool, if◌then◌else◌, codes, append-nil, refl, sym, ap, subst, ◌∙◌}
use Rattle.kes_text.specs.declared.refusal.Kind.TheVariants as kind
use Rattle.classfile.specs.declared.pool.Entry.{Entry}
use Rattle.classfile.specs.declared.members.Head.{Head}
use Rattle.classfile.specs.ClassFile.{MethodInfo, CodeInfo}
use Rattle.classfile.specs.Scan.{Scan, ◌>>=◌, refused}
use Rattle.classfile.specs.Attributes.{is_text}
use Rattle.classfile.specs.Codes.{code_attribute, code_at}
use Rattle.classfile.specs.Members.{name_at, head_at, is_bare, method_attribute_at, all_method_attributes_at, method_attributes_at, method_at}
use Rattle.classfile.specs.Spelled.Pieces.{Piece, Then, table}
use Rattle.classfile.specs.Spelled.Attributes.{Attribute, info, attribute, named}
use Rattle.classfile.specs.Spelled.Codes.{IsCode}
use Rattle.classfile.specs.Spelled.Members.{IsCodeOf, IsMethod}
use Rattle.classfile.proofs.Spelling.Calculus.{Spells, none, pair, in_turn, keyed_in_turn, ending, told_as, pure, never, same, here, by_test}
use Rattle.classfile.proofs.Spelling.Repeating.{Steps, quiet, table_spells}
use Rattle.classfile.proofs.Spelling.Attributes.{enclosed_spells, step_spells}
use Rattle.classfile.proofs.Spelling.Codes.{code_spells}
use Rattle.classfile.proofs.Spelling.Members.{method_key, HeadPiece, head_spells}

refused_or : (Q : Type 0) (b : Bool) → MatchBool b ⊥ Q → (b ≡ false) × Q
refused_or Q true h = absurd h
refused_or Q false h = (refl, h)

or_refused : (Q : Type 0) (b : Bool) → b ≡ false → Q → MatchBool b ⊥ Q
or_refused Q true e h = absurd cc
or_refused Q false e h = h

pub accepted_or : (Q : Type 0) (b : Bool) → MatchBool b Q ⊥ → (b ≡ true) × Q
accepted_or Q true h = (refl, h)
accepted_or Q false h = absurd h

pub or_accepted : (Q : Type 0) (b : Bool) → b ≡ true → Q → MatchBool b Q ⊥
or_accepted Q true e h = h
or_accepted Q false e h = absurd cc

module _ (pool : List Entry) where
  abbrev State : Type 0
  State = Option CodeInfo

  -- ---- Codes among the attributes

  abbrev IsOne : Attribute → State → Type 0
  IsOne a y = (code : CodeInfo) × (y ≡ Some code) × IsCode pool code a.at a.contents

  abbrev Coded : Bool → State → Attribute → State → Type 0
  Coded bare x a y = ((bare || is_some x) ≡ false) × IsOne a y

  abbrev Step : Bool → State → Attribute → State → Type 0
  Step bare x a y = MatchBool (is_text pool a.name (codes "Code")) (Coded bare x a y) (y ≡ x)

  module _ (bare : Bool) where
    named_by : (b : Bool) (x : State) (a : Attribute) (others : List Attribute) (y z : State) → ((y : State) → Steps (Step bare) y others z → Steps (Coded bare) y (named pool (codes "Code") others) z)
        → MatchBool b (Coded bare x a y) (y ≡ x) → Steps (Step bare) y others z → Steps (Coded bare) x (cond b (a ∷ named pool (codes "Code") others) (named pool (codes "Code") others)) z
    named_by true x a others y z more h rest = (y, h, more y rest)
    named_by false x a others y z more h rest = more x (subst (λ (y : State). Steps (Step bare) y others z) h rest)

    only_named : (all : List Attribute) (z x : State) → Steps (Step bare) x all z → Steps (Coded bare) x (named pool (codes "Code") all) z
    only_named [] z x h = h
    only_named (a ∷ others) z x h = named_by (is_text pool a.name (codes "Code")) x a others h.0 z (only_named others z) h.1 h.2

    among_by : (b : Bool) (x : State) (a : Attribute) (others : List Attribute) (z : State) → ((y : State) → Steps (Coded bare) y (named pool (codes "Code") others) z → Steps (Step bare) y others z)
        → Steps (Coded bare) x (cond b (a ∷ named pool (codes "Code") others) (named pool (codes "Code") others)) z → (y : State) × MatchBool b (Coded bare x a y) (y ≡ x) × Steps (Step bare) y others z
    among_by true x a others z more h = (h.0, h.1, more h.0 h.2)
    among_by false x a others z more h = (x, refl, more x h)

    among_others : (all : List Attribute) (z x : State) → Steps (Coded bare) x (named pool (codes "Code") all) z → Steps (Step bare) x all z
    among_others [] z x h = h
    among_others (a ∷ others) z x h = among_by (is_text pool a.name (codes "Code")) x a others z (among_others others z) h

  no_second : (x : State) (code : CodeInfo) → x ≡ Some code → (false || is_some x) ≡ false → ⊥
  no_second x code e f = (let g : is_some x ≡ true = ap is_some e in cc)

  -- where each is a Code, and one has been read unless there may be none
  is_code_of : (bare : Bool) (all : List Attribute) (z : State) → Steps (Coded bare) None all z → (bare || is_some z) ≡ true → IsCodeOf pool bare all z
  is_code_of true [] z h e = h
  is_code_of true (a ∷ others) z h e = (let f : true ≡ false = h.1.0 in absurd cc)
  is_code_of false [] z h e = (let f : is_some z ≡ false = ap is_some h in absurd cc)
  is_code_of false (a ∷ []) z h e = let one = h.1.1 in (one.0, h.2 ∙ one.1, one.2)
  is_code_of false (a ∷ b ∷ others) z h e = let one = h.1.1 in absurd (no_second h.0 one.0 one.1 h.2.1.0)

  code_of_is : (bare : Bool) (all : List Attribute) (z : State) → IsCodeOf pool bare all z → Steps (Coded bare) None all z × ((bare || is_some z) ≡ true)
  code_of_is true [] z h = (h, refl)
  code_of_is true (a ∷ others) z h = absurd h
  code_of_is false [] z h = absurd h
  code_of_is false (a ∷ []) z h = ((z, (refl, h), refl), ap is_some h.1)
  code_of_is false (a ∷ b ∷ others) z h = absurd h

  -- ---- the attributes of a method

  code_attribute_spells : (name fault : ℕ) (bare : Bool) (x : State)
      → Spells pool (λ (p : Attribute × State) (t : Scan). (p.1, t)) (λ s. if bare || is_some x then refused kind.CodeCount fault else code_attribute pool s) (λ p at bytes. (p.0.name ≡ name) × info p.0 at bytes × Coded bare x p.0 p.1) none
  code_attribute_spells name fault bare x =
      same pool
      (λ p at bytes h. let q = refused_or ((p.0.name ≡ name) × info p.0 at bytes × IsOne p.0 p.1) (bare || is_some x) h in (q.1.0, q.1.1, (q.0, q.1.2)))
      (λ p at bytes h. or_refused ((p.0.name ≡ name) × info p.0 at bytes × IsOne p.0 p.1) (bare || is_some x) h.2.0 (h.0, h.1, h.2.1))
      (by_test pool (bare || is_some x) (never pool (λ (p : Attribute × State) (t : Scan). (p.1, t)) none kind.CodeCount fault)
      (told_as pool (λ (p : Attribute × State) (t : Scan). (p.1, t)) (λ p at bytes. (p.0.name ≡ name) × info p.0 at bytes × IsOne p.0 p.1) none (λ (y : Attribute × CodeInfo). (y.0, Some y.1)) (λ y s. refl)
      (λ y at bytes h. ((h.0, h.1, (y.1, refl, h.2)), refl))
      (λ p at bytes h. ((p.0, h.2.0), ap (λ (y : State). (p.0, y)) (sym h.2.1), (h.0, h.1, h.2.2)))
      (enclosed_spells pool name (code_at pool) (IsCode pool) (code_spells pool))))

  abbrev AllAttributes : Bool → List Attribute × State → Piece
  AllAttributes bare p = λ at bytes. table (attribute pool) p.0 at bytes × Steps (Step bare) None p.0 p.1

  all_attributes_spells : (fault : ℕ) (bare : Bool) → Spells pool (λ (p : List Attribute × State) (t : Scan). (p.1, t)) (all_method_attributes_at pool fault bare) (AllAttributes bare) none
  all_attributes_spells fault bare =
      quiet pool (table_spells pool (attribute pool) (Step bare) none (λ (x : State) (t : Scan). (x, t)) (method_attribute_at pool fault bare)
      (λ x. step_spells pool x (λ name. is_text pool name (codes "Code")) (Coded bare x) (λ s. if bare || is_some x then refused kind.CodeCount fault else code_attribute pool s)
      (λ name. code_attribute_spells name fault bare x)) None)

  abbrev MethodAttributes : Bool → List Attribute × State → Piece
  MethodAttributes bare p = λ at bytes. table (attribute pool) p.0 at bytes × IsCodeOf pool bare (named pool (codes "Code") p.0) p.1

  abbrev Checked : Bool → List Attribute × State → List Attribute × State → Piece
  Checked bare p w = λ at bytes. MatchBool (bare || is_some p.1) ((w ≡ p) × (bytes ≡ [])) ⊥

  attributes_told : (bare : Bool) (w : List Attribute × State) (at : ℕ) (bytes : List ℕ) → (p : List Attribute × State) × Then (AllAttributes bare p) (Checked bare p w) at bytes → MethodAttributes bare w at bytes
  attributes_told bare w at bytes h =
      let p = h.0 in
      let t = h.1 in
      let c = accepted_or ((w ≡ p) × (t.back ≡ [])) (bare || is_some p.1) t.second in
      let all : bytes ≡ t.front = t.whole ∙ ap (λ (b : List ℕ). t.front ++ b) c.1.1 ∙ append-nil t.front in
      let there : MethodAttributes bare p at t.front = (t.first.0, is_code_of bare (named pool (codes "Code") p.0) p.1 (only_named bare p.0 p.1 None t.first.1) c.0) in
      subst (λ (b : List ℕ). MethodAttributes bare w at b) (sym all) (subst (λ (v : List Attribute × State). MethodAttributes bare v at t.front) (sym c.1.0) there)

  attributes_untold : (bare : Bool) (w : List Attribute × State) (at : ℕ) (bytes : List ℕ) → MethodAttributes bare w at bytes → (p : List Attribute × State) × Then (AllAttributes bare p) (Checked bare p w) at bytes
  attributes_untold bare w at bytes h =
      let c = code_of_is bare (named pool (codes "Code") w.0) w.1 h.1 in (
        w,
        record {
          front = bytes;
          back = [];
          whole = sym (append-nil bytes);
          first = (h.0, among_others bare w.0 w.1 None c.0);
          second = or_accepted ((w ≡ w) × ([] ≡ [])) (bare || is_some w.1) c.1 (refl, refl);
        },
      )

  method_attributes_spells : (fault : ℕ) (bare : Bool) → Spells pool (λ (p : List Attribute × State) (t : Scan). (p.1, t)) (method_attributes_at pool fault bare) (MethodAttributes bare) none
  method_attributes_spells fault bare =
      same pool (attributes_told bare) (attributes_untold bare)
      (in_turn pool _ (all_attributes_spells fault bare) (λ (p : List Attribute × State).
      by_test pool (bare || is_some p.1) (pure pool (λ (q : List Attribute × State) (t : Scan). (q.1, t)) p) (never pool (λ (q : List Attribute × State) (t : Scan). (q.1, t)) none kind.CodeCount fault)))

  -- ---- methods

  abbrev method_of : ℕ → Head → State → MethodInfo
  method_of place h code = record { at = place; flags = h.flags; name = name_at pool h.name; descriptor = name_at pool h.descriptor; code = code }

  abbrev MethodRest : ℕ → Head → MethodInfo → Piece
  MethodRest place h method = λ at bytes. (p : List Attribute × State) × (method ≡ method_of place h p.1) × MethodAttributes (is_bare h.flags) p at bytes

  method_told : (method : MethodInfo) (at : ℕ) (bytes : List ℕ) → (h : Head) × Then (HeadPiece pool true h) (MethodRest at h method) at bytes → IsMethod pool method at bytes
  method_told method at bytes g =
      let h = g.0 in
      let t = g.1 in
      let p = t.second.0 in
      let all : IsMethod pool (method_of at h p.1) at bytes = record {
        name = h.name;
        descriptor = h.descriptor;
        attributes = p.0;
        here = refl;
        items = record { front = t.front; back = t.back; whole = t.whole; first = t.first; second = t.second.2.0 };
        called = refl;
        typed = refl;
        code = t.second.2.1;
      } in
      subst (λ (x : MethodInfo). IsMethod pool x at bytes) (sym t.second.1) all

  method_untold : (method : MethodInfo) (at : ℕ) (bytes : List ℕ) → IsMethod pool method at bytes → (h : Head) × Then (HeadPiece pool true h) (MethodRest at h method) at bytes
  method_untold method at bytes m =
      let h : Head = record { flags = method.flags; name = m.name; descriptor = m.descriptor } in
      let t = m.items in
      let is : method ≡ method_of at h method.code =
      ap (λ (k : ℕ). record { at = k; flags = method.flags; name = method.name; descriptor = method.descriptor; code = method.code }) m.here
      ∙ ap (λ (n : List ℕ). record { at = at; flags = method.flags; name = n; descriptor = method.descriptor; code = method.code }) m.called
      ∙ ap (λ (d : List ℕ). record { at = at; flags = method.flags; name = name_at pool m.name; descriptor = d; code = method.code }) m.typed in
      (h, record { front = t.front; back = t.back; whole = t.whole; first = t.first; second = ((m.attributes, method.code), is, (t.second, m.code)) })

  pub method_spells : Spells pool pair (method_at pool) (IsMethod pool) method_key
  unfolding method_at
  method_spells =
      same pool method_told method_untold
      (here pool (λ q s. head_at true s >>= λ head. method_attributes_at pool q (is_bare head.0.flags) head.1 >>= λ code. Ok (method_of q head.0 code.0, code.1)) (λ q method at bytes. (h : Head) × Then (HeadPiece pool true h) (MethodRest q h method) at bytes) (λ q.
      keyed_in_turn pool {Q = MethodRest q} {L = λ h. none} _ (λ h method at bytes r. ap method_key (sym r.1)) (head_spells pool true) (λ h.
      ending pool _ pair (MethodRest q h) none (λ (p : List Attribute × State). method_of q h p.1) (λ p s. refl)
      (λ p at bytes k. ((p, refl, k), refl))
      (λ method at bytes k. (k.0, sym k.1, k.2))
      (method_attributes_spells q (is_bare h.flags)))))
