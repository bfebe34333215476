-- What stands after each status makes the program complete.
use Rattle.std.proofs.Common.{◌≡◌, inl, inr, ℕ, List, [], ◌∷◌, Option, Some, None, IfSome, IsSomeAnd, map, refl, sym, ap, ◌∙◌, subst, arith}
use Rattle.std.specs.Prelude.{All, unwrap_or, slice_index_or, drop, length}
use Rattle.std.specs.FinMap.{get}
use Rattle.std.proofs.lemmas.List.Elements.{All-nil, All-cons}
use Rattle.kes_outside.specs.Contents.{Contents}
use Rattle.kes_text.specs.declared.refusal.Refusal.{Refusal}
use Rattle.keso_cli.specs.declared.status.Status.{Status}
use Rattle.keso_cli.specs.declared.status.Status.TheVariants as status
use Rattle.keso_cli.specs.BuildEnds.{InputIsRefused}
use Rattle.keso_cli.specs.Complete.{IsGiven, IsGivenToTrace, NoneRose, IsComplete}
use Rattle.keso_cli.specs.Refusals.{refusal_of}
use Rattle.keso_cli.specs.Request.{Request, Build, Trace}
use Rattle.keso_cli.specs.Stands.{Outside, Stands, ReadFaultStands}
use Rattle.keso_cli.specs.TraceEnds.{TraceNames, trace_names, TraceIsRefused}
use Rattle.keso_cli.specs.Traced.{Named, trace_refusal}
use Rattle.first_form.proofs.Headline.Inversion.{none_is_some}

some_back : (xs : List (List ℕ)) → map (λ o. unwrap_or o []) (map Some xs) ≡ xs
some_back [] = refl
some_back (x ∷ xs) = ap (λ ys. x ∷ ys) (some_back xs)

some_same : (xs ys : List (List ℕ)) → map Some xs ≡ map Some ys → xs ≡ ys
some_same xs ys e = sym (some_back xs) ∙ ap (map (λ o. unwrap_or o [])) e ∙ some_back ys

-- what was refused wasn't accepted
not_refused : (refusal : Refusal) (config : List ℕ) (classes : List (List ℕ)) (before : Outside) → IsGiven config classes before.files → InputIsRefused refusal config classes before.files → ⊥
not_refused refusal config classes before given says =
    let read = subst (λ o. IfSome o (λ held. (get held config ≡ Some says.0) × (map (get held) classes ≡ map Some says.1))) given.told says.3 in
    let text : says.0 ≡ given.text = ap (λ o. unwrap_or o []) (sym read.0 ∙ given.config_is) in
    let bytes : says.1 ≡ given.bytes = some_same says.1 given.bytes (sym read.1 ∙ given.classes_are) in
    let refused : refusal_of given.text given.bytes ≡ Some refusal =
    ap (λ t. refusal_of t given.bytes) (sym text) ∙ ap (refusal_of says.0) (sym bytes) ∙ says.2 in
    none_is_some refusal (sym given.accepted ∙ refused)

abbrev Holds : Contents → List ℕ → Type 0
Holds held name = (text : List ℕ) × (get held name ≡ Some text)

head_is : (held : Contents) (x : List ℕ) (xs : List (List ℕ)) (y : List ℕ) (ys : List (List ℕ)) → map (get held) (x ∷ xs) ≡ map Some (y ∷ ys) → (get held x ≡ Some y) × (map (get held) xs ≡ map Some ys)
head_is held x xs y ys e = (ap (λ l. slice_index_or l 0 None) e, ap (λ l. drop 1 l) e)

all_held : (held : Contents) (xs ys : List (List ℕ)) → map (get held) xs ≡ map Some ys → All (Holds held) xs
all_held held [] ys e = All-nil (Holds held)
all_held held (x ∷ xs) [] e = absurd (let n = ap length e in omega (arith, n))
all_held held (x ∷ xs) (y ∷ ys) e =
    let parts = head_is held x xs y ys e in
    All-cons (Holds held) x xs (y, parts.0) (all_held held xs ys parts.1)

-- what couldn't be read was counted
missing : (names : List (List ℕ)) (held : Contents) (before after : Outside) → before.files.contents ≡ Some held → All (Holds held) names → NoneRose before after → ReadFaultStands names before after → ⊥
missing names held before after told all none s =
    elim s.cause [
      | inl rose ↦ none.files rose
      | inr absent ↦
          let gone = subst (λ o. IsSomeAnd o (λ files. get files s.name ≡ None)) told absent in
          let here = subst (Holds held) s.is_read.2 (all s.is_read.0 s.name s.is_read.1) in
          none_is_some here.0 (sym gone ∙ here.1)
    ]

not_missing : (config : List ℕ) (classes : List (List ℕ)) (before after : Outside) → IsGiven config classes before.files → NoneRose before after → ReadFaultStands (config ∷ classes) before after → ⊥
not_missing config classes before after given none s =
    missing (config ∷ classes) given.held before after given.told
    (All-cons (Holds given.held) config classes (given.text, given.config_is) (all_held given.held classes given.bytes given.classes_are)) none s

-- ---- a trace

none_missing : (names : TraceNames) (before after : Outside) → IsGivenToTrace names before.files → NoneRose before after → ReadFaultStands (names.config ∷ names.script ∷ names.classes) before after → ⊥
none_missing names before after given none s =
    missing (names.config ∷ names.script ∷ names.classes) given.held before after given.told
    (All-cons (Holds given.held) names.config (names.script ∷ names.classes) (given.text, given.config_is)
    (All-cons (Holds given.held) names.script names.classes (given.script, given.script_is) (all_held given.held names.classes given.bytes given.classes_are))) none s

none_refused : (refused : Named) (names : TraceNames) (before : Outside) → IsGivenToTrace names before.files → TraceIsRefused refused names before.files → ⊥
none_refused refused names before given says =
    let read = subst (λ o. IfSome o (λ held. (get held names.config ≡ Some says.0) × (get held names.script ≡ Some says.1) × (map (get held) names.classes ≡ map Some says.2))) given.told says.4 in
    let text : says.0 ≡ given.text = ap (λ o. unwrap_or o []) (sym read.0 ∙ given.config_is) in
    let script : says.1 ≡ given.script = ap (λ o. unwrap_or o []) (sym read.1 ∙ given.script_is) in
    let bytes : says.2 ≡ given.bytes = some_same says.2 given.bytes (sym read.2 ∙ given.classes_are) in
    let same : trace_refusal names.config names.script names.classes given.text given.script given.bytes ≡ Some refused =
    ap (λ t. trace_refusal names.config names.script names.classes t given.script given.bytes) (sym text)
    ∙ ap (λ t. trace_refusal names.config names.script names.classes says.0 t given.bytes) (sym script)
    ∙ ap (trace_refusal names.config names.script names.classes says.0 says.1) (sym bytes) ∙ says.3 in
    none_is_some refused (sym given.accepted ∙ same)

pub complete : (answer : Status) (request : Option Request) (before after : Outside) → Stands answer request before after → IsComplete answer request before after
complete answer None before after s = tt
complete status.Ok (Some (Build config classes base)) before after s = λ given none. inl refl
complete status.NoMemory (Some (Build config classes base)) before after s = λ given none. inr refl
complete status.Usage (Some (Build config classes base)) before after s = absurd s
complete status.Refused (Some (Build config classes base)) before after s = λ given none. absurd (not_refused s.refusal config classes before given s.cause)
complete status.ReadFault (Some (Build config classes base)) before after s = λ given none. absurd (not_missing config classes before after given none s)
complete status.WriteFault (Some (Build config classes base)) before after (inl s) = λ given none. absurd (none.files s.stands.counted)
complete status.WriteFault (Some (Build config classes base)) before after (inr s) = λ given none. absurd (none.out s.counted)
complete status.Ok (Some (Trace config script classes)) before after s = λ given none. inl refl
complete status.NoMemory (Some (Trace config script classes)) before after s = λ given none. inr refl
complete status.Usage (Some (Trace config script classes)) before after s = absurd s
complete status.Refused (Some (Trace config script classes)) before after s = λ given none. absurd (none_refused s.refused (trace_names config script classes) before given s.cause)
complete status.ReadFault (Some (Trace config script classes)) before after s = λ given none. absurd (none_missing (trace_names config script classes) before after given none s)
complete status.WriteFault (Some (Trace config script classes)) before after s = λ given none. absurd (none.out s.counted)

pub complete_when_done : (request : Option Request) (before after : Outside) → IsComplete status.Ok request before after
complete_when_done None before after = tt
complete_when_done (Some (Build config classes base)) before after = λ given none. inl refl
complete_when_done (Some (Trace config script classes)) before after = λ given none. inl refl
