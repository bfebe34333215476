-- What the steps from one instruction to the next say.
use Rattle.std.proofs.Common.{◌≡◌, ◌∙◌, ℕ, Bool, true, false, ◌&&◌, List, [], ◌∷◌, Option, Some, None, slice_get, if◌then◌else◌, refl, sym, ap, subst}
use Rattle.std.specs.List.{All, Contains, list_all}
use Rattle.std.proofs.lemmas.Bool.{and_parts, and_from}
use Rattle.std.proofs.lemmas.List.Elements.{All-contains, All-contains_itself, All-weaker, All-cons, All-tail, All-head, All-nil}
use Rattle.classfile.specs.Pool.{◌>>=◌}
use Rattle.jcode.specs.declared.op.Ins.{Ins}
use Rattle.jcode.specs.Decoded.{targets}
use Rattle.stackmap.specs.declared.frame.Declared.{Declared}
use Rattle.type_states.specs.declared.state.TypeState.{TypeState}
use Rattle.type_states.specs.Assignable.{is_state_assignable}
use Rattle.classfile.specs.ClassFile.{ClassInfo, MethodInfo, CodeInfo}
use Rattle.jworld.specs.Classes.{World, file_of}
use Rattle.jworld.specs.declared.ids.MethodId.{MethodId}
use Rattle.typing_rules.specs.Environment.{Environment, environment_of}
use Rattle.typing_rules.specs.Outcome.{outcome, falls_through}
use Rattle.verify.specs.Placing.{declared_at}
use Rattle.verify.specs.Steps.{is_bounded, if_bounded, left, may_enter, may_come, passed, coming, entered}
use Rattle.verify.specs.WellTyped.{FlowsTo}

-- ---- what is there under a condition

if-some : {X : Type 0} (b : Bool) (x y : X) → (if b then Some x else None) ≡ Some y → (b ≡ true) × (x ≡ y)
if-some true x y e = (refl, cc)
if-some false x y e = cc

if-none : {X : Type 0} (b : Bool) (x : X) → (if b then Some x else None) ≡ None → b ≡ false
if-none true x e = cc
if-none false x e = refl

if-true : {X : Type 0} (b : Bool) (x : X) → b ≡ true → (if b then Some x else None) ≡ Some x
if-true b x e = rw e refl

if-false : {X : Type 0} (b : Bool) (x : X) → b ≡ false → (if b then Some x else None) ≡ None
if-false b x e = rw e refl

bound : {X Y : Type 0} (o : Option X) (f : X → Option Y) (y : Y) → (o >>= f) ≡ Some y → (x : X) × (o ≡ Some x) × (f x ≡ Some y)
bound None f y e = cc
bound (Some x) f y e = (x, refl, e)

-- ---- what comes to the next instruction

pub coming-some : (ins : Ins) (after state : TypeState) → coming ins after ≡ Some state → (falls_through ins.op ≡ true) × (after ≡ state)
coming-some ins after state e = if-some (falls_through ins.op) after state e

pub coming-none : (ins : Ins) (after : TypeState) → coming ins after ≡ None → falls_through ins.op ≡ false
coming-none ins after e = if-none (falls_through ins.op) after e

pub coming-falls : (ins : Ins) (after : TypeState) → falls_through ins.op ≡ true → coming ins after ≡ Some after
coming-falls ins after e = if-true (falls_through ins.op) after e

pub coming-stays : (ins : Ins) (after : TypeState) → falls_through ins.op ≡ false → coming ins after ≡ None
coming-stays ins after e = if-false (falls_through ins.op) after e

-- ---- jumps

pub flows : (e : Environment) (maps : List Declared) (after : TypeState) (pc : ℕ) (o : Option TypeState) → declared_at maps pc ≡ o → may_enter e after o ≡ true → FlowsTo e maps after pc
flows e maps after pc None is may = cc
flows e maps after pc (Some declared) is may = record { declared = declared; declared_is = is; assignable = may }

pub may_come-flows : (e : Environment) (maps : List Declared) (after : TypeState) (pc : ℕ) → FlowsTo e maps after pc → may_come e maps after pc ≡ true
may_come-flows e maps after pc f = rw f.declared_is f.assignable

all-pass : (p : ℕ → Bool) (pcs : List ℕ) → list_all p pcs ≡ true → All (λ pc. p pc ≡ true) pcs
all-pass p [] e = All-nil (λ pc. p pc ≡ true)
all-pass p (pc ∷ pcs) e =
    let parts = and_parts (p pc) (list_all p pcs) e in
    All-cons (λ pc. p pc ≡ true) pc pcs parts.0 (all-pass p pcs parts.1)

passes-all : (p : ℕ → Bool) (pcs : List ℕ) → All (λ pc. p pc ≡ true) pcs → list_all p pcs ≡ true
passes-all p [] all = refl
passes-all p (pc ∷ pcs) all =
    and_from (p pc) (list_all p pcs) (All-head (λ pc. p pc ≡ true) pc pcs all) (passes-all p pcs (All-tail (λ pc. p pc ≡ true) pc pcs all))

pub jumps-flow : (e : Environment) (maps : List Declared) (after : TypeState) (pcs : List ℕ) → list_all (may_come e maps after) pcs ≡ true
    → (pc : ℕ) → Contains pcs pc → FlowsTo e maps after pc
jumps-flow e maps after pcs may pc among =
    flows e maps after pc (declared_at maps pc) refl (All-contains (λ pc. may_come e maps after pc ≡ true) pcs pc (all-pass (may_come e maps after) pcs may) among)

pub flows-jump : (e : Environment) (maps : List Declared) (after : TypeState) (pcs : List ℕ) → ((pc : ℕ) → Contains pcs pc → FlowsTo e maps after pc)
    → list_all (may_come e maps after) pcs ≡ true
flows-jump e maps after pcs flow =
    passes-all (may_come e maps after) pcs (All-weaker (Contains pcs) (λ pc. may_come e maps after pc ≡ true) (λ pc among. may_come-flows e maps after pc (flow pc among)) pcs (All-contains_itself pcs))

-- ---- what an instruction leaves

pub passed-left : (e : Environment) (maps : List Declared) (state after : TypeState) (ins : Ins) → passed e maps state ins ≡ Some after
    → (left e state ins ≡ Some after) × (list_all (may_come e maps after) (targets ins.op) ≡ true)
passed-left e maps state after ins is =
    let parts = bound (left e state ins) (λ one. if list_all (may_come e maps one) (targets ins.op) then Some one else None) after is in
    let test = if-some (list_all (may_come e maps parts.0) (targets ins.op)) parts.0 after parts.2 in
    (parts.1 ∙ ap (λ (s : TypeState). Some s) test.1, subst (λ (s : TypeState). list_all (may_come e maps s) (targets ins.op) ≡ true) test.1 test.0)

pub left-passed : (e : Environment) (maps : List Declared) (state after : TypeState) (ins : Ins) → left e state ins ≡ Some after
    → list_all (may_come e maps after) (targets ins.op) ≡ true → passed e maps state ins ≡ Some after
left-passed e maps state after ins leaves may = rw (leaves, may) refl

pub left-bounded : (e : Environment) (state after : TypeState) (ins : Ins) → left e state ins ≡ Some after → is_bounded e state ≡ true
left-bounded e state after ins leaves =
    let parts = bound (outcome e ins.pc ins.op state) (if_bounded e state) after leaves in
    let both : (is_bounded e state && is_bounded e parts.0) ≡ true = (if-some (is_bounded e state && is_bounded e parts.0) parts.0 after parts.2).0 in
    (and_parts (is_bounded e state) (is_bounded e parts.0) both).0

-- ---- the state at an instruction

pub entered-assignable : (e : Environment) (start state declared : TypeState) → entered e (Some start) (Some declared) ≡ Some state → is_state_assignable e.files start declared ≡ true
entered-assignable e start state declared enters = (if-some (is_state_assignable e.files start declared) declared state enters).0

pub entered-declared : (e : Environment) (comes : Option TypeState) (state declared : TypeState) → entered e comes (Some declared) ≡ Some state → state ≡ declared
entered-declared e None state declared enters = cc
entered-declared e (Some start) state declared enters = sym (if-some (is_state_assignable e.files start declared) declared state enters).1

pub entered-none : (e : Environment) (state : TypeState) (o : Option TypeState) → entered e None o ≡ Some state → (declared : TypeState) × (o ≡ Some declared)
entered-none e state None enters = cc
entered-none e state (Some declared) enters = (declared, refl)

-- from what is known of the state, or of what comes
pub enters-declared : (e : Environment) (comes : Option TypeState) (state declared : TypeState) → state ≡ declared
    → ((start : TypeState) → comes ≡ Some start → is_state_assignable e.files start declared ≡ true) → entered e comes (Some declared) ≡ Some state
enters-declared e None state declared is fits = ap (λ (s : TypeState). Some s) (sym is)
enters-declared e (Some start) state declared is fits =
    if-true (is_state_assignable e.files start declared) declared (fits start refl) ∙ ap (λ (s : TypeState). Some s) (sym is)

-- ---- the method

pub environment_of-instructions : (files : World) (id : MethodId) (code : List Ins) (e : Environment) → environment_of files id code ≡ Some e → e.instructions ≡ code
environment_of-instructions files id code e is =
    let class = bound (file_of files id.class.n) (λ (class : ClassInfo). slice_get class.methods id.n >>= λ method. method.code >>= λ body. Some (record { files = files; own = id.class.n; class = class; method = method; code = body; instructions = code })) e is in
    let method = bound (slice_get class.0.methods id.n) (λ (method : MethodInfo). method.code >>= λ body. Some (record { files = files; own = id.class.n; class = class.0; method = method; code = body; instructions = code })) e class.2 in
    let body = bound method.0.code (λ (body : CodeInfo). Some (record { files = files; own = id.class.n; class = class.0; method = method.0; code = body; instructions = code })) e method.2 in
    let one : Environment = record { files = files; own = id.class.n; class = class.0; method = method.0; code = body.0; instructions = code } in
    let same : one ≡ e = let both : Some one ≡ Some e = body.2 in cc in
    ap (λ (x : Environment). x.instructions) (sym same)
