-- The readers of a class file's version, and of what stands behind its constant pool, spell them.
use Rattle.std.proofs.Common.{◌≡◌, ◌⊎◌, inl, inr, ℕ, ◌+◌, ◌≤◌, ◌&&◌, ◌==◌, Bool, true, List, [], ◌++◌, length, flat_map, Result, Ok, Err, MatchBool, if◌then◌else◌, nat_le, codes, bytes_eq, append-nil, refl, sym, ap, subst, ◌∙◌, eqb-true, eq-eqb, leb-true, le-leb}
use Rattle.std.proofs.lemmas.Slice.Eq.{bytes_eq-Decides}
use Rattle.byteorder.specs.Endian.{big_number}
use Rattle.kes_text.specs.declared.refusal.Stop.{Stop}
use Rattle.kes_text.specs.declared.refusal.Kind.TheVariants as kind
use Rattle.classfile.specs.declared.uses.Use.TheVariants as uses
use Rattle.classfile.specs.declared.uses.Wanted.TheVariants as wanted
use Rattle.classfile.specs.declared.pool.Entry.{Entry}
use Rattle.classfile.specs.ClassFile.{ClassInfo, FieldInfo, MethodInfo}
use Rattle.classfile.specs.Seen.{Key}
use Rattle.classfile.specs.Scan.{Scan, Read, ◌>>=◌, refused, number_at, noted, index_at}
use Rattle.classfile.specs.Attributes.{attributes_at}
use Rattle.classfile.specs.Members.{fields_at, methods_at, field_at, method_at}
use Rattle.classfile.specs.Reading.{version_at, class_named, super_at, interface_at, interfaces_at, ended, body_at}
use Rattle.classfile.specs.Spelled.Pieces.{Piece, Then, number, index, table}
use Rattle.classfile.specs.Spelled.Attributes.{Attribute, attribute}
use Rattle.classfile.specs.Spelled.Members.{IsField, IsMethod}
use Rattle.classfile.specs.Spelled.{version_piece, super_piece, interface_piece}
use Rattle.classfile.proofs.Backing.{both, and_true}
use Rattle.classfile.proofs.Spelling.Calculus.{Spells, none, pair, in_turn, keyed_in_turn, ending, told_as, pure, never, same, here, by_test}
use Rattle.classfile.proofs.Spelling.Items.{number_spells, index_spells, unless_spells}
use Rattle.classfile.proofs.Spelling.Repeating.{no_keys, many_spells}
use Rattle.classfile.proofs.Spelling.Attributes.{attributes_spells}
use Rattle.classfile.proofs.Spelling.Members.{field_key, method_key, field_spells}
use Rattle.classfile.proofs.Spelling.Methods.{accepted_or, or_accepted, method_spells}
use Rattle.classfile.proofs.Spelling.Faults.{member_keys}

module _ (pool : List Entry) where
  -- ---- the version

  abbrev Bounded : ℕ → Bool
  Bounded version = nat_le 50 version && nat_le version 52

  abbrev pub Version : ℕ → Piece
  Version version = λ at bytes. version_piece version at bytes × (50 ≤ version) × (version ≤ 52)

  abbrev IsMagic : ℕ → Bool
  IsMagic magic = magic == 0xCAFEBABE

  abbrev Checked : ℕ → ℕ → Piece
  Checked major version = λ at bytes. MatchBool (Bounded major) ((version ≡ major) × (bytes ≡ [])) ⊥

  abbrev Major : ℕ → Piece
  Major version = λ at bytes. (major : ℕ) × Then (number 2 major) (Checked major version) at bytes

  abbrev Minor : ℕ → Piece
  Minor version = λ at bytes. (minor : ℕ) × Then (number 2 minor) (Major version) at bytes

  abbrev Magic : ℕ → Piece
  Magic version = λ at bytes. (magic : ℕ) × Then (number 4 magic) (λ place back. MatchBool (IsMagic magic) (Minor version place back) ⊥) at bytes

  version_told : (version at : ℕ) (bytes : List ℕ) → Magic version at bytes → Version version at bytes
  version_told version at bytes h =
      let magic = h.0 in
      let t1 = h.1 in
      let place : ℕ = at + length t1.front in
      let m = accepted_or (Minor version place t1.back) (IsMagic magic) t1.second in
      let minor = m.1.0 in
      let t2 = m.1.1 in
      let major = t2.second.0 in
      let t3 = t2.second.1 in
      let c = accepted_or ((version ≡ major) × (t3.back ≡ [])) (Bounded major) t3.second in
      let parts = both (nat_le 50 major) (nat_le major 52) c.0 in
      let is : major ≡ version = sym c.1.0 in
      let all : t2.back ≡ t3.front = t3.whole ∙ ap (λ (b : List ℕ). t3.front ++ b) c.1.1 ∙ append-nil t3.front in
      let last : number 2 version (place + length t2.front) t2.back = (ap length all ∙ t3.first.0, ap (λ (b : List ℕ). big_number 2 b) all ∙ t3.first.1 ∙ is) in (
        record {
          front = t1.front;
          back = t1.back;
          whole = t1.whole;
          first = (t1.first.0, t1.first.1 ∙ eqb-true magic 0xCAFEBABE m.0);
          second = record { front = t2.front; back = t2.back; whole = t2.whole; first = t2.first.0; second = last };
        },
        subst (λ (v : ℕ). 50 ≤ v) is (leb-true 50 major parts.0),
        subst (λ (v : ℕ). v ≤ 52) is (leb-true major 52 parts.1),
      )

  version_untold : (version at : ℕ) (bytes : List ℕ) → Version version at bytes → Magic version at bytes
  version_untold version at bytes h =
      let t1 = h.0 in
      let t2 = t1.second in
      let bounded : Bounded version ≡ true = and_true (nat_le 50 version) (nat_le version 52) (le-leb 50 version h.1) (le-leb version 52 h.2) in
      let last : Major version (at + length t1.front + length t2.front) t2.back = (
        version,
        record {
          front = t2.back;
          back = [];
          whole = sym (append-nil t2.back);
          first = t2.second;
          second = or_accepted ((version ≡ version) × ([] ≡ [])) (Bounded version) bounded (refl, refl);
        },
      ) in (
        0xCAFEBABE,
        record {
          front = t1.front;
          back = t1.back;
          whole = t1.whole;
          first = t1.first;
          second = or_accepted (Minor version (at + length t1.front) t1.back) (IsMagic 0xCAFEBABE) (eq-eqb 0xCAFEBABE 0xCAFEBABE refl)
              (big_number 2 t2.front, record { front = t2.front; back = t2.back; whole = t2.whole; first = (t2.first, refl); second = last });
        },
      )

  pub version_spells : Spells pool pair version_at Version none
  version_spells =
      same pool version_told version_untold
      (here pool (λ q s. number_at 4 s >>= λ magic. if magic.0 == 0xCAFEBABE then (number_at 2 magic.1 >>= λ minor. number_at 2 minor.1 >>= λ major.
      if nat_le 50 major.0 && nat_le major.0 52 then Ok major else refused kind.Version minor.1.place)
      else refused kind.Magic q) (λ q. Magic) (λ q.
      in_turn pool _ (number_spells pool 4) (λ magic.
      by_test pool (IsMagic magic)
      (in_turn pool _ (number_spells pool 2) (λ minor.
      here pool (λ p t. number_at 2 t >>= λ major. if nat_le 50 major.0 && nat_le major.0 52 then Ok major else refused kind.Version p) (λ p. Major) (λ p.
      in_turn pool _ (number_spells pool 2) (λ major.
      by_test pool (Bounded major) (pure pool pair major) (never pool pair none kind.Version p)))))
      (never pool pair none kind.Magic q))))

  -- ---- super_class and the interfaces

  abbrev pub Super : List ℕ → ℕ → Piece
  Super name i = λ at bytes. super_piece pool name at i at bytes

  super_spells : (name : List ℕ) → Spells pool pair (super_at name) (Super name) none
  super_spells name =
      same pool
      (λ i at bytes h. (refl, h.0, elim h.1 [ inl e ↦ inl (free_is i e) | inr x ↦ inr x ]))
      (λ i at bytes h. (h.1, elim h.2 [ inl e ↦ inl (is_free i e.0 e.1) | inr x ↦ inr x ]))
      (here pool (λ p s. number_at 2 s >>= λ index. if index.0 == 0 && bytes_eq name (codes "java/lang/Object") then Ok index else Ok (index.0, noted (uses.Index p index.0 wanted.Class) index.1))
      (λ p i at bytes. number 2 i at bytes × ((i == 0 && bytes_eq name (codes "java/lang/Object")) ≡ true ⊎ index pool wanted.Class i at bytes)) (λ p.
      unless_spells pool (λ i. i == 0 && bytes_eq name (codes "java/lang/Object")) p wanted.Class pair _ (λ i s. refl)))
    where
      free_is : (i : ℕ) → (i == 0 && bytes_eq name (codes "java/lang/Object")) ≡ true → (i ≡ 0) × (name ≡ codes "java/lang/Object")
      free_is i e =
          let parts = both (i == 0) (bytes_eq name (codes "java/lang/Object")) e in
          (eqb-true i 0 parts.0, (bytes_eq-Decides name (codes "java/lang/Object")).0 parts.1)

      is_free : (i : ℕ) → i ≡ 0 → name ≡ codes "java/lang/Object" → (i == 0 && bytes_eq name (codes "java/lang/Object")) ≡ true
      is_free i e f = and_true (i == 0) (bytes_eq name (codes "java/lang/Object")) (eq-eqb i 0 e) ((bytes_eq-Decides name (codes "java/lang/Object")).1 f)

  interface_spells : Spells pool pair (interface_at pool) (interface_piece pool) none
  interface_spells =
      ending pool _ pair (interface_piece pool) none (λ (i : ℕ). class_named pool i) (λ i s. refl)
      (λ i at bytes h. ((i, h, refl), refl))
      (λ name at bytes h. (h.0, sym h.2, h.1))
      (index_spells pool wanted.Class)

  interfaces_spells : Spells pool pair (interfaces_at pool) (table (interface_piece pool)) none
  interfaces_spells =
      told_as pool pair (table (interface_piece pool)) none (λ (all : List (List ℕ)). all) (λ all s. refl) (λ all at bytes h. (h, no_keys all)) (λ all at bytes h. (all, refl, h))
      (many_spells pool (interface_piece pool) none (interface_at pool) interface_spells)

  -- ---- what stands behind the constant pool, up to the end

  module _ (version : ℕ) where
    abbrev pub class_of : ℕ → ℕ → ℕ → ℕ → List (List ℕ) → List FieldInfo → List MethodInfo → ClassInfo
    class_of flags this place super interfaces fields methods =
        record { version = version; flags = flags; name = class_named pool this; super_name = class_named pool super; super_at = place; interfaces = interfaces; fields = fields; methods = methods; pool = pool }

    -- super_class, at this place, and what stands behind it
    abbrev super_items : ℕ → ℕ → ℕ → Scan → Read ClassInfo
    super_items flags this place s = do
      super ← super_at (class_named pool this) s
      interfaces ← interfaces_at pool super.1
      fields ← fields_at pool interfaces.1
      methods ← methods_at pool fields.1
      attributes ← attributes_at methods.1
      Ok (class_of flags this place super.0 interfaces.0 fields.0 methods.0, attributes)

    abbrev pub body_items : Scan → Read ClassInfo
    body_items s = do
      flags ← number_at 2 s
      this ← index_at wanted.Class flags.1
      super_items flags.0 this.0 this.1.place this.1

    abbrev pub BehindMethods : ℕ → ℕ → ℕ → ℕ → List (List ℕ) → List FieldInfo → List MethodInfo → ClassInfo → Piece
    BehindMethods flags this place super interfaces fields methods class = λ at bytes. (attributes : List Attribute) × (class ≡ class_of flags this place super interfaces fields methods) × table (attribute pool) attributes at bytes

    abbrev pub BehindFields : ℕ → ℕ → ℕ → ℕ → List (List ℕ) → List FieldInfo → ClassInfo → Piece
    BehindFields flags this place super interfaces fields class = λ at bytes. (methods : List MethodInfo) × Then (table (IsMethod pool) methods) (BehindMethods flags this place super interfaces fields methods class) at bytes

    abbrev pub BehindInterfaces : ℕ → ℕ → ℕ → ℕ → List (List ℕ) → ClassInfo → Piece
    BehindInterfaces flags this place super interfaces class = λ at bytes. (fields : List FieldInfo) × Then (table (IsField pool) fields) (BehindFields flags this place super interfaces fields class) at bytes

    abbrev pub BehindSuper : ℕ → ℕ → ℕ → ℕ → ClassInfo → Piece
    BehindSuper flags this place super class = λ at bytes. (interfaces : List (List ℕ)) × Then (table (interface_piece pool) interfaces) (BehindInterfaces flags this place super interfaces class) at bytes

    abbrev pub BehindThis : ℕ → ℕ → ℕ → ClassInfo → Piece
    BehindThis flags this place class = λ at bytes. (super : ℕ) × Then (Super (class_named pool this) super) (BehindSuper flags this place super class) at bytes

    abbrev pub BehindFlags : ℕ → ClassInfo → Piece
    BehindFlags flags class = λ at bytes. (this : ℕ) × Then (index pool wanted.Class this) (λ place. BehindThis flags this place class place) at bytes

    abbrev pub Body : ClassInfo → Piece
    Body class = λ at bytes. (flags : ℕ) × Then (number 2 flags) (BehindFlags flags class) at bytes

    abbrev pub class_keys : ClassInfo → List Key
    class_keys class = member_keys class.fields class.methods

    pub items_spells : Spells pool pair body_items Body class_keys
    items_spells =
        keyed_in_turn pool {Q = BehindFlags} {L = λ a. class_keys} _ (λ a c at bytes h. refl) (number_spells pool 2) (λ flags.
        keyed_in_turn pool {Q = λ this class place. BehindThis flags this place class place} {L = λ a. class_keys} _ (λ a c at bytes h. refl) (index_spells pool wanted.Class) (λ this.
        here pool (super_items flags this) (BehindThis flags this) (λ place.
        keyed_in_turn pool {Q = BehindSuper flags this place} {L = λ a. class_keys} _ (λ a c at bytes h. refl) (super_spells (class_named pool this)) (λ super.
        keyed_in_turn pool {Q = BehindInterfaces flags this place super} {L = λ a. class_keys} _ (λ a c at bytes h. refl) interfaces_spells (λ interfaces.
        keyed_in_turn pool {Q = BehindFields flags this place super interfaces} {K = flat_map field_key} {L = λ fields c. flat_map method_key c.methods} _
        (λ fields c at bytes h. ap (λ (x : ClassInfo). flat_map field_key x.fields ++ flat_map method_key c.methods) (sym h.1.second.1))
        (many_spells pool (IsField pool) field_key (field_at pool) (field_spells pool)) (λ fields.
        keyed_in_turn pool {Q = BehindMethods flags this place super interfaces fields} {K = flat_map method_key} {L = λ methods. none} _
        (λ methods c at bytes h. append-nil (flat_map method_key methods) ∙ ap (λ (x : ClassInfo). flat_map method_key x.methods) (sym h.1))
        (many_spells pool (IsMethod pool) method_key (method_at pool) (method_spells pool)) (λ methods.
        ending pool _ pair (BehindMethods flags this place super interfaces fields methods) none (λ (attributes : List Attribute). class_of flags this place super interfaces fields methods) (λ attributes s. refl)
        (λ attributes at bytes h. ((attributes, refl, h), refl))
        (λ class at bytes h. (h.0, sym h.1, h.2))
        (attributes_spells pool))))))))

    -- and its end
    late : {A B C : Type 0} (r : Result A Stop) (f : A → Result B Stop) (h : A → Result C Stop) (g : C → Result B Stop) → ((a : A) → f a ≡ (h a >>= g)) → (r >>= f) ≡ ((r >>= h) >>= g)
    late (Ok a) f h g e = e a
    late (Err x) f h g e = refl

    abbrev pub at_end : ClassInfo × Scan → Read ClassInfo
    at_end x = ended x.1 >>= λ behind. Ok (x.0, behind)

    pub body_is : (s : Scan) → body_at version pool s ≡ (body_items s >>= at_end)
    unfolding body_at
    body_is s =
        late (number_at 2 s) _ _ at_end (λ flags.
        late (index_at wanted.Class flags.1) _ _ at_end (λ this.
        late (super_at (class_named pool this.0) this.1) _ _ at_end (λ super.
        late (interfaces_at pool super.1) _ _ at_end (λ interfaces.
        late (fields_at pool interfaces.1) _ _ at_end (λ fields.
        late (methods_at pool fields.1) _ _ at_end (λ methods.
        late (attributes_at methods.1) _ (λ attributes. Ok (class_of flags.0 this.0 this.1.place super.0 interfaces.0 fields.0 methods.0, attributes)) at_end (λ attributes. refl)))))))
