-- Entries as a map keeps them.
use Rattle.std.proofs.Common.{◌≡◌, ℕ, Bool, true, false, ◌&&◌, nat_eq, cond, List, [], ◌∷◌, ◌++◌, map, fold, Option, Some, None, is_some, true≢false, refl, sym, ap, subst, ◌∙◌, eqb-true}
use Rattle.std.specs.Prelude.{if◌then◌else◌, is_none}
use Rattle.std.specs.Map.{lookup}
use Rattle.std.proofs.lemmas.Bool.{and_parts}
use Rattle.std.proofs.lemmas.Option.{none-some}
use Rattle.jworld.specs.Fields.{or_else}
use Rattle.jworld.specs.Members.{method_id}
use Rattle.indexmap.specs.IndexMap.{insert_entry}
use Rattle.jworld.specs.declared.ids.MethodId.{MethodId}
use Rattle.mentions.specs.declared.binding.Binding.{Binding}
use Rattle.mentions.specs.Bindings.{Entry, is_method, bound_as, add, add_all, entry_of}

abbrev pub Kept : Type 0
Kept = List ((ℕ × ℕ) × Binding)

abbrev pub is_key : MethodId → ℕ × ℕ → Bool
is_key id key = nat_eq id.class.n key.0 && nat_eq id.n key.1

pub looked_up : (id : MethodId) (kept : Kept) → lookup (is_key id) kept ≡ bound_as id (map entry_of kept)
looked_up id [] = refl
looked_up id (e ∷ kept) = ap (λ found. if is_key id e.0 then Some e.1 else found) (looked_up id kept)

-- an entry of a key that isn't there goes last
inserted : (id : MethodId) (binding : Binding) (eq : ℕ × ℕ → ℕ × ℕ → Bool) (kept : Kept) → ((key : ℕ × ℕ) → eq (id.class.n, id.n) key ≡ is_key id key)
    → bound_as id (map entry_of kept) ≡ None → map entry_of (insert_entry eq kept (id.class.n, id.n) binding) ≡ map entry_of kept ++ (id, binding) ∷ []
inserted id binding eq [] same none = refl
inserted id binding eq (e ∷ kept) same none = by_test (inserted id binding eq kept same) (is_key id e.0) refl
  where
    by_test : (bound_as id (map entry_of kept) ≡ None → map entry_of (insert_entry eq kept (id.class.n, id.n) binding) ≡ map entry_of kept ++ (id, binding) ∷ []) → (b : Bool) → is_key id e.0 ≡ b
        → map entry_of (insert_entry eq (e ∷ kept) (id.class.n, id.n) binding) ≡ map entry_of (e ∷ kept) ++ (id, binding) ∷ []
    by_test behind true is = absurd (none-some e.1 (sym (sym (ap (λ (b : Bool). if b then Some e.1 else bound_as id (map entry_of kept)) is) ∙ none)))
    by_test behind false is =
        let further : bound_as id (map entry_of kept) ≡ None = sym (ap (λ (b : Bool). if b then Some e.1 else bound_as id (map entry_of kept)) is) ∙ none in
        ap (λ (b : Bool). map entry_of (if b then (e.0, binding) ∷ kept else e ∷ insert_entry eq kept (id.class.n, id.n) binding)) (same e.0 ∙ is)
        ∙ ap (λ (es : List Entry). entry_of e ∷ es) (behind further)

pub added : (id : MethodId) (binding : Binding) (eq : ℕ × ℕ → ℕ × ℕ → Bool) (kept : Kept) → ((key : ℕ × ℕ) → eq (id.class.n, id.n) key ≡ is_key id key)
    → bound_as id (map entry_of kept) ≡ None → map entry_of (insert_entry eq kept (id.class.n, id.n) binding) ≡ add (map entry_of kept) (id, binding)
added id binding eq kept same none =
    inserted id binding eq kept same none ∙ ap (λ (found : Option Binding). if is_some found then map entry_of kept else map entry_of kept ++ (id, binding) ∷ []) (sym none)

pub nothing : {A : Type 0} (found : Option A) → is_none found ≡ true → found ≡ None
nothing None e = refl
nothing (Some x) e = absurd (true≢false (sym e))

-- ---- what is found of a method among entries

or_else_none : {A : Type 0} (found : Option A) → found ≡ or_else found None
or_else_none None = refl
or_else_none (Some x) = refl

one_method : (one other : MethodId) → is_method one other ≡ true → one ≡ other
one_method one other same =
    let (class, n) = and_parts (nat_eq one.class.n other.class.n) (nat_eq one.n other.n) same in
    of_numbers (eqb-true one.class.n other.class.n class) (eqb-true one.n other.n n)
  where
    of_numbers : one.class.n ≡ other.class.n → one.n ≡ other.n → one ≡ other
    of_numbers c n = ap (λ (x : ℕ). method_id x one.n) c ∙ ap (method_id other.class.n) n

pub of_both : (id : MethodId) (first more : List Entry) → bound_as id (first ++ more) ≡ or_else (bound_as id first) (bound_as id more)
of_both id [] more = refl
of_both id (entry ∷ first) more = by_test (of_both id first more) (is_method id entry.0)
  where
    by_test : bound_as id (first ++ more) ≡ or_else (bound_as id first) (bound_as id more) → (b : Bool)
        → (if b then Some entry.1 else bound_as id (first ++ more)) ≡ or_else (if b then Some entry.1 else bound_as id first) (bound_as id more)
    by_test behind true = refl
    by_test behind false = behind

or_else_same : {A : Type 0} (one : Option A) (x : A) (other : Option A) → one ≡ Some x → or_else one other ≡ one
or_else_same None x other e = absurd (none-some x e)
or_else_same (Some y) x other e = refl

pub or_else_assoc : {A : Type 0} (one two three : Option A) → or_else (or_else one two) three ≡ or_else one (or_else two three)
or_else_assoc None two three = refl
or_else_assoc (Some x) two three = refl

-- an entry that is added is found where none was
one_more : (id : MethodId) (entries : List Entry) (entry : Entry) → bound_as id (add entries entry) ≡ or_else (bound_as id entries) (bound_as id (entry ∷ []))
one_more id entries entry = by_found (bound_as entry.0 entries) refl
  where
    -- the same method has an entry already
    by_same : (b : Binding) → bound_as entry.0 entries ≡ Some b → (same : Bool) → is_method id entry.0 ≡ same → bound_as id entries ≡ or_else (bound_as id entries) (if same then Some entry.1 else None)
    by_same b e true is = sym (or_else_same (bound_as id entries) b (Some entry.1) (ap (λ (other : MethodId). bound_as other entries) (one_method id entry.0 is) ∙ e))
    by_same b e false is = or_else_none (bound_as id entries)

    by_found : (found : Option Binding) → bound_as entry.0 entries ≡ found → bound_as id (add entries entry) ≡ or_else (bound_as id entries) (bound_as id (entry ∷ []))
    by_found None e =
        ap (λ (found : Option Binding). bound_as id (if is_some found then entries else entries ++ entry ∷ [])) e ∙ of_both id entries (entry ∷ [])
    by_found (Some b) e =
        ap (λ (found : Option Binding). bound_as id (if is_some found then entries else entries ++ entry ∷ [])) e ∙ by_same b e (is_method id entry.0) refl

pub all_more : (id : MethodId) (more entries : List Entry) → bound_as id (add_all entries more) ≡ or_else (bound_as id entries) (bound_as id more)
all_more id [] entries = or_else_none (bound_as id entries)
all_more id (entry ∷ more) entries =
    all_more id more (add entries entry) ∙ ap (λ found. or_else found (bound_as id more)) (one_more id entries entry)
    ∙ or_else_assoc (bound_as id entries) (bound_as id (entry ∷ [])) (bound_as id more) ∙ ap (or_else (bound_as id entries)) (sym (of_both id (entry ∷ []) more))

pub all_three : (id : MethodId) (one two three : List Entry) → bound_as id (add_all (add_all (add_all [] one) two) three) ≡ bound_as id (one ++ two ++ three)
all_three id one two three =
    all_more id three (add_all (add_all [] one) two)
    ∙ ap (λ found. or_else found (bound_as id three)) (all_more id two (add_all [] one) ∙ ap (λ found. or_else found (bound_as id two)) (all_more id one []))
    ∙ ap (λ found. or_else found (bound_as id three)) (sym (of_both id one two)) ∙ sym (of_both id (one ++ two) three)
