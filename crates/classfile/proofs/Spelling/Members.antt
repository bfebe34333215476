-- The readers of fields and methods spell them.
use Rattle.std.proofs.Common.{◌≡◌, ℕ, ℤ, ◌&&◌, Bool, true, false, List, [], ◌∷◌, ◌++◌, Option, Some, None, is_some, is_none, IsNone, unwrap_or, Ok, MatchBool, if◌then◌else◌, codes, append_assoc, refl, sym, ap, subst, ◌∙◌}
use Rattle.std.specs.List.{cons_option}
use Rattle.classfile.specs.declared.uses.Use.{Use}
use Rattle.classfile.specs.declared.uses.Use.TheVariants as uses
use Rattle.classfile.specs.declared.uses.Wanted.{Wanted}
use Rattle.classfile.specs.declared.uses.Wanted.TheVariants as wanted
use Rattle.classfile.specs.declared.pool.Entry.{Entry}
use Rattle.classfile.specs.declared.members.Head.{Head}
use Rattle.classfile.specs.ClassFile.{FieldInfo, MethodInfo}
use Rattle.classfile.specs.Seen.{Key}
use Rattle.classfile.specs.Pool.{text}
use Rattle.classfile.specs.Faults.{text_fault, index_fault, key_with}
use Rattle.classfile.specs.Scan.{Scan, ◌>>=◌, number_at, noted, index_at}
use Rattle.classfile.specs.Attributes.{is_text, constant_value_at, field_attribute_at, field_attributes_at}
use Rattle.classfile.specs.Members.{name_at, is_set, wanted_text, head_at, constant_in, field_at}
use Rattle.classfile.specs.Spelled.Pieces.{Piece, Then, number, index, table}
use Rattle.classfile.specs.Spelled.Attributes.{Attribute, info, attribute, named, first_of}
use Rattle.classfile.specs.Spelled.Members.{head, IsConstantOf, IsField}
use Rattle.classfile.proofs.Backing.{both, and_true}
use Rattle.classfile.proofs.Soundness.{fits}
use Rattle.classfile.proofs.Spelling.Calculus.{Spells, none, pair, keys_in, all_fit, keyed_in_turn, ending, noting, told_as, same, here}
use Rattle.classfile.proofs.Spelling.Items.{number_spells, index_spells, fault_none, none_fault}
use Rattle.classfile.proofs.Spelling.Repeating.{quiet, table_spells}
use Rattle.classfile.proofs.Spelling.Attributes.{enclosed_spells, step_spells, IsFirst, found_first, taken_first}

-- ---- an index field of a text names one

text_stands : (names : Wanted) (found : Option (List ℕ)) → IsNone (text_fault names found) → is_some found ≡ true
text_stands names None e = absurd cc
text_stands names (Some t) e = refl

member_text : (pool : List Entry) (is_method static : Bool) (i : ℕ) → IsNone (index_fault pool (if is_method then (if static then wanted.MethodText else wanted.InstanceText) else wanted.FieldText) i) → is_some (text pool i) ≡ true
member_text pool true true i e = text_stands wanted.MethodText (text pool i) e
member_text pool true false i e = text_stands wanted.InstanceText (text pool i) e
member_text pool false static i e = text_stands wanted.FieldText (text pool i) e

one_key : (is_method : Bool) (name descriptor : Option (List ℕ)) → is_some name ≡ true → is_some descriptor ≡ true
    → cons_option (key_with is_method name descriptor) [] ≡ (is_method, unwrap_or name [], unwrap_or descriptor []) ∷ []
one_key is_method (Some name) (Some descriptor) e f = refl
one_key is_method None descriptor e f = absurd cc
one_key is_method (Some name) None e f = absurd cc

-- the key of a field, and of a method
abbrev pub field_key : FieldInfo → List Key
field_key field = (false, field.name, field.descriptor) ∷ []

abbrev pub method_key : MethodInfo → List Key
method_key method = (true, method.name, method.descriptor) ∷ []

module _ (pool : List Entry) where
  -- ---- the head of a member

  abbrev pub head_key : Bool → Head → List Key
  head_key is_method h = (is_method, name_at pool h.name, name_at pool h.descriptor) ∷ []

  abbrev pub HeadPiece : Bool → Head → Piece
  HeadPiece is_method h = head is_method pool h.flags h.name h.descriptor

  module _ (is_method : Bool) where
    abbrev LastIndex : ℕ → ℕ → Head → Piece
    LastIndex flags name h = λ at bytes. (descriptor : ℕ) × (h ≡ record { flags = flags; name = name; descriptor = descriptor }) × index pool (wanted_text is_method flags) descriptor at bytes × IsNone (index_fault pool wanted.Text name)

    abbrev Notes : ℕ → ℕ → ℕ → ℕ → ℕ → ℕ → List Use
    Notes q flags p name r descriptor = uses.Member q is_method name descriptor ∷ uses.Index p name wanted.Text ∷ uses.Index r descriptor (wanted_text is_method flags) ∷ []

    noted_thrice : (q flags p name r descriptor : ℕ) (s : Scan)
        → noted (uses.Index r descriptor (wanted_text is_method flags)) (noted (uses.Index p name wanted.Text) (noted (uses.Member q is_method name descriptor) s))
        ≡ record { input = s.input; place = s.place; uses = s.uses ++ Notes q flags p name r descriptor }
    noted_thrice q flags p name r descriptor s =
        let a : Use = uses.Member q is_method name descriptor in
        let b : Use = uses.Index p name wanted.Text in
        let c : Use = uses.Index r descriptor (wanted_text is_method flags) in
        let one : ((s.uses ++ a ∷ []) ++ b ∷ []) ++ c ∷ [] ≡ (s.uses ++ a ∷ []) ++ b ∷ c ∷ [] = append_assoc (s.uses ++ a ∷ []) (b ∷ []) (c ∷ []) in
        let two : (s.uses ++ a ∷ []) ++ b ∷ c ∷ [] ≡ s.uses ++ a ∷ b ∷ c ∷ [] = append_assoc s.uses (a ∷ []) (b ∷ c ∷ []) in
        ap (λ (us : List Use). record { input = s.input; place = s.place; uses = us }) (one ∙ two)

    last_told : (q flags p name r descriptor at : ℕ) (bytes : List ℕ) → number 2 descriptor at bytes → all_fit pool (Notes q flags p name r descriptor) ≡ true
        → LastIndex flags name (record { flags = flags; name = name; descriptor = descriptor }) at bytes
        × (keys_in pool (Notes q flags p name r descriptor) ≡ head_key is_method (record { flags = flags; name = name; descriptor = descriptor }))
    last_told q flags p name r descriptor at bytes n fit =
        let w : Wanted = wanted_text is_method flags in
        let parts = both (fits pool wanted.Text name) (all_fit pool (uses.Index r descriptor w ∷ [])) fit in
        let one : IsNone (index_fault pool wanted.Text name) = fault_none pool (index_fault pool wanted.Text name) parts.0 in
        let two : IsNone (index_fault pool w descriptor) = fault_none pool (index_fault pool w descriptor) (both (fits pool w descriptor) true parts.1).0 in
        ((descriptor, refl, (n, two), one), one_key is_method (text pool name) (text pool descriptor) (text_stands wanted.Text (text pool name) one) (member_text pool is_method (is_set flags 0x0008) descriptor two))

    last_fits : (q flags p name r descriptor : ℕ) → IsNone (index_fault pool (wanted_text is_method flags) descriptor) → IsNone (index_fault pool wanted.Text name) → all_fit pool (Notes q flags p name r descriptor) ≡ true
    last_fits q flags p name r descriptor two one =
        let w : Wanted = wanted_text is_method flags in
        and_true (fits pool wanted.Text name) (all_fit pool (uses.Index r descriptor w ∷ [])) (none_fault pool (index_fault pool wanted.Text name) one)
        (and_true (fits pool w descriptor) true (none_fault pool (index_fault pool w descriptor) two) refl)

    abbrev WithName : ℕ → Head → Piece
    WithName flags h = λ at bytes. (name : ℕ) × Then (number 2 name) (LastIndex flags name h) at bytes

    head_told : (h : Head) (at : ℕ) (bytes : List ℕ) → (flags : ℕ) × Then (number 2 flags) (WithName flags h) at bytes → HeadPiece is_method h at bytes
    head_told h at bytes g =
        let flags = g.0 in
        let t1 = g.1 in
        let name = t1.second.0 in
        let t2 = t1.second.1 in
        let last = t2.second in
        let all : HeadPiece is_method (record { flags = flags; name = name; descriptor = last.0 }) at bytes = record {
          front = t1.front;
          back = t1.back;
          whole = t1.whole;
          first = t1.first;
          second = record { front = t2.front; back = t2.back; whole = t2.whole; first = (t2.first, last.3); second = last.2 };
        } in
        subst (λ (x : Head). HeadPiece is_method x at bytes) (sym last.1) all

    head_untold : (h : Head) (at : ℕ) (bytes : List ℕ) → HeadPiece is_method h at bytes → (flags : ℕ) × Then (number 2 flags) (WithName flags h) at bytes
    head_untold h at bytes t1 =
        let t2 = t1.second in (
          h.flags,
          record {
            front = t1.front;
            back = t1.back;
            whole = t1.whole;
            first = t1.first;
            second = (h.name, record { front = t2.front; back = t2.back; whole = t2.whole; first = t2.first.0; second = (h.descriptor, refl, t2.second, t2.first.1) });
          },
        )

    pub head_spells : Spells pool pair (head_at is_method) (HeadPiece is_method) (head_key is_method)
    head_spells =
        here pool (λ q s. number_at 2 s >>= λ flags. number_at 2 flags.1 >>= λ name. number_at 2 name.1 >>= λ descriptor.
        Ok (
          record { flags = flags.0; name = name.0; descriptor = descriptor.0 },
          noted (uses.Index name.1.place descriptor.0 (wanted_text is_method flags.0)) (noted (uses.Index flags.1.place name.0 wanted.Text) (noted (uses.Member q is_method name.0 descriptor.0) descriptor.1)),
        )) (λ q. HeadPiece is_method) (λ q.
        same pool head_told head_untold
        (keyed_in_turn pool {L = λ flags. head_key is_method} _ (λ a c at bytes h. refl) (number_spells pool 2) (λ flags.
        here pool (λ p t. number_at 2 t >>= λ name. number_at 2 name.1 >>= λ descriptor.
        Ok (
          record { flags = flags; name = name.0; descriptor = descriptor.0 },
          noted (uses.Index name.1.place descriptor.0 (wanted_text is_method flags)) (noted (uses.Index p name.0 wanted.Text) (noted (uses.Member q is_method name.0 descriptor.0) descriptor.1)),
        )) (λ p. WithName flags) (λ p.
        keyed_in_turn pool {L = λ name. head_key is_method} _ (λ a c at bytes h. refl) (number_spells pool 2) (λ name.
        here pool (λ r t. number_at 2 t >>= λ descriptor.
        Ok (
          record { flags = flags; name = name; descriptor = descriptor.0 },
          noted (uses.Index r descriptor.0 (wanted_text is_method flags)) (noted (uses.Index p name wanted.Text) (noted (uses.Member q is_method name descriptor.0) descriptor.1)),
        )) (λ r. LastIndex flags name) (λ r.
        noting pool _ pair (LastIndex flags name) (head_key is_method) (λ (descriptor : ℕ). record { flags = flags; name = name; descriptor = descriptor }) (Notes q flags p name r)
        (λ descriptor s. ap (λ (t : Scan). Ok (record { flags = flags; name = name; descriptor = descriptor }, t)) (noted_thrice q flags p name r descriptor s))
        (λ descriptor at bytes n fit. last_told q flags p name r descriptor at bytes n fit)
        (λ h at bytes k. (k.0, sym k.1, k.2.0, last_fits q flags p name r k.0 k.2.1 k.3))
        (number_spells pool 2)))))))

  -- ---- fields

  abbrev Constant : Attribute → Option ℕ → Type 0
  Constant a y = (i : ℕ) × (y ≡ Some i) × index pool wanted.Constant i a.at a.contents

  is_constant : (a : Option Attribute) (z : Option ℕ) → IsFirst pool Constant a z → IsConstantOf pool a z
  is_constant None z h = h
  is_constant (Some a) z h = h

  constant_is : (a : Option Attribute) (z : Option ℕ) → IsConstantOf pool a z → IsFirst pool Constant a z
  constant_is None z h = h
  constant_is (Some a) z h = h

  constant_spells : (name : ℕ) → Spells pool (λ (p : Attribute × Option ℕ) (t : Scan). (p.1, t)) constant_value_at (λ p at bytes. (p.0.name ≡ name) × info p.0 at bytes × Constant p.0 p.1) none
  constant_spells name =
      told_as pool (λ (p : Attribute × Option ℕ) (t : Scan). (p.1, t)) (λ p at bytes. (p.0.name ≡ name) × info p.0 at bytes × Constant p.0 p.1) none (λ (x : Attribute × ℕ). (x.0, Some x.1)) (λ x s. refl)
      (λ x at bytes h. ((h.0, h.1, (x.1, refl, h.2)), refl))
      (λ p at bytes h. ((p.0, h.2.0), ap (λ (y : Option ℕ). (p.0, y)) (sym h.2.1), (h.0, h.1, h.2.2)))
      (enclosed_spells pool name (index_at wanted.Constant) (index pool wanted.Constant) (index_spells pool wanted.Constant))

  abbrev FieldAttributes : List Attribute × Option ℕ → Piece
  FieldAttributes p = λ at bytes. table (attribute pool) p.0 at bytes × IsConstantOf pool (first_of (named pool (codes "ConstantValue") p.0)) p.1

  field_attributes_spells : Spells pool (λ (p : List Attribute × Option ℕ) (t : Scan). (p.1, t)) (field_attributes_at pool) FieldAttributes none
  field_attributes_spells =
      same pool
      (λ p at bytes h. (h.0, is_constant (first_of (named pool (codes "ConstantValue") p.0)) p.1 (found_first pool (codes "ConstantValue") Constant (λ a y e. (e.0, e.1)) p.0 p.1 h.1)))
      (λ p at bytes h. (h.0, taken_first pool (codes "ConstantValue") Constant (λ a y e. (e.0, e.1)) p.0 p.1 (constant_is (first_of (named pool (codes "ConstantValue") p.0)) p.1 h.1)))
      (quiet pool (table_spells pool (attribute pool) (λ (x : Option ℕ) (a : Attribute) (y : Option ℕ). MatchBool (is_none x && is_text pool a.name (codes "ConstantValue")) (Constant a y) (y ≡ x)) none
      (λ (x : Option ℕ) (t : Scan). (x, t)) (field_attribute_at pool)
      (λ x. step_spells pool x (λ name. is_none x && is_text pool name (codes "ConstantValue")) Constant constant_value_at constant_spells) None))

  abbrev field_of : ℕ → Head → Option ℕ → FieldInfo
  field_of place h constant = record { at = place; flags = h.flags; name = name_at pool h.name; descriptor = name_at pool h.descriptor; constant = constant_in pool h.flags (name_at pool h.descriptor) constant }

  abbrev FieldRest : ℕ → Head → FieldInfo → Piece
  FieldRest place h field = λ at bytes. (p : List Attribute × Option ℕ) × (field ≡ field_of place h p.1) × FieldAttributes p at bytes

  field_told : (field : FieldInfo) (at : ℕ) (bytes : List ℕ) → (h : Head) × Then (HeadPiece false h) (FieldRest at h field) at bytes → IsField pool field at bytes
  field_told field at bytes g =
      let h = g.0 in
      let t = g.1 in
      let p = t.second.0 in
      let all : IsField pool (field_of at h p.1) at bytes = record {
        name = h.name;
        descriptor = h.descriptor;
        attributes = p.0;
        constant = p.1;
        here = refl;
        items = record { front = t.front; back = t.back; whole = t.whole; first = t.first; second = t.second.2.0 };
        called = refl;
        typed = refl;
        given = t.second.2.1;
        value = refl;
      } in
      subst (λ (x : FieldInfo). IsField pool x at bytes) (sym t.second.1) all

  field_untold : (field : FieldInfo) (at : ℕ) (bytes : List ℕ) → IsField pool field at bytes → (h : Head) × Then (HeadPiece false h) (FieldRest at h field) at bytes
  field_untold field at bytes f =
      let h : Head = record { flags = field.flags; name = f.name; descriptor = f.descriptor } in
      let t = f.items in
      let is : field ≡ field_of at h f.constant =
      ap (λ (k : ℕ). record { at = k; flags = field.flags; name = field.name; descriptor = field.descriptor; constant = field.constant }) f.here
      ∙ ap (λ (n : List ℕ). record { at = at; flags = field.flags; name = n; descriptor = field.descriptor; constant = field.constant }) f.called
      ∙ ap (λ (c : Option ℤ). record { at = at; flags = field.flags; name = name_at pool f.name; descriptor = field.descriptor; constant = c }) f.value
      ∙ ap (λ (d : List ℕ). record { at = at; flags = field.flags; name = name_at pool f.name; descriptor = d; constant = constant_in pool field.flags d f.constant }) f.typed in
      (h, record { front = t.front; back = t.back; whole = t.whole; first = t.first; second = ((f.attributes, f.constant), is, (t.second, f.given)) })

  pub field_spells : Spells pool pair (field_at pool) (IsField pool) field_key
  unfolding field_at
  field_spells =
      same pool field_told field_untold (here pool (λ q s. head_at false s >>= λ head. field_attributes_at pool head.1 >>= λ constant. Ok (field_of q head.0 constant.0, constant.1)) (λ q field at bytes. (h : Head) × Then (HeadPiece false h) (FieldRest q h field) at bytes) (λ q.
      keyed_in_turn pool {Q = FieldRest q} {L = λ h. none} _ (λ h field at bytes r. ap field_key (sym r.1)) (head_spells false) (λ h.
      ending pool _ pair (FieldRest q h) none (λ (p : List Attribute × Option ℕ). field_of q h p.1) (λ p s. refl)
      (λ p at bytes k. ((p, refl, k), refl))
      (λ field at bytes k. (k.0, sym k.1, k.2))
      field_attributes_spells)))
