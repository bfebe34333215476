-- The words of a command.
use Rattle.std.proofs.Common.{◌≡◌, ℕ, ◌-◌, ◌<◌, ◌≤◌, Bool, true, false, true≢false, bytes_eq, codes, List, [], ◌∷◌, map, length, take, drop, get_or, Option, Some, None, ◌&&◌, nat_le, if◌then◌else◌, refl, sym, ap, subst, ◌∙◌, ◌⊎◌, inl, inr, le-leb, leb-true, arith}
use Rattle.std.specs.List.{list_all}
use Rattle.std.specs.Option.{option_or}
use Rattle.std.proofs.Math.Seq.{take-length}
use Rattle.std.proofs.lemmas.List.{length-map, take-map, drop-map}
use Rattle.std.proofs.lemmas.List.Folds.{list_all-map}
use Rattle.first_form.proofs.Headline.Inversion.{none_is_some}
use Rattle.keso_cli.specs.Request.{Request, Build, Trace, is_name, are_classes, is_build, is_trace, request_ending, build_of, trace_of, request_of}

counts : (n : ℕ) (all : Bool) → 1 ≤ n → n ≤ 2048 → all ≡ (nat_le 1 n && nat_le n 2048 && all)
counts n all low high = rw (le-leb 1 n low, le-leb n 2048 high) refl

-- names, and neither none nor too many of them
pub few_names : {W : Type 0} (bytes : W → List ℕ) (words : List W) (all : Bool) → all ≡ list_all (λ word. is_name (bytes word)) words
    → 1 ≤ length words → length words ≤ 2048 → all ≡ are_classes (map bytes words)
few_names bytes words all e low high =
    subst (λ n. all ≡ (nat_le 1 n && nat_le n 2048 && list_all is_name (map bytes words))) (sym (length-map words bytes))
    (subst (λ b. all ≡ (nat_le 1 (length words) && nat_le (length words) 2048 && b)) (e ∙ sym (list_all-map is_name bytes words)) (counts (length words) all low high))

-- what two words at the end ask for, behind those at the front
abbrev pub asked_by : List ℕ → List ℕ → List (List ℕ) → List ℕ → List ℕ → Option Request
asked_by build config classes option base = if is_build build config classes option base then Some (Build config classes base) else None

module _ {W : Type 0} (bytes : W → List ℕ) where
  ends : (build config : List ℕ) (classes : List (List ℕ)) (back : List W) (option base : W) → 2 ≤ length back → length back < 3 → option ≡ get_or back 0 option → base ≡ get_or back 1 base
      → request_ending build config classes (map bytes back) ≡ asked_by build config classes (bytes option) (bytes base)
  ends build config classes [] option base low high first second = absurd (omega (low, arith))
  ends build config classes (x ∷ []) option base low high first second = absurd (omega (low, arith))
  ends build config classes (x ∷ y ∷ []) option base low high first second =
      ap (λ (o : W). asked_by build config classes (bytes o) (bytes y)) (sym first) ∙ ap (λ (b : W). asked_by build config classes (bytes option) (bytes b)) (sym second)
  ends build config classes (x ∷ y ∷ z ∷ more) option base low high first second = absurd (omega (high, arith))

  behind : (build config : List ℕ) (rest front back : List W) (n : ℕ) (option base : W) → n ≡ length rest - 2 → front ≡ take n rest → back ≡ drop n rest
      → 2 ≤ length back → length back < 3 → option ≡ get_or back 0 option → base ≡ get_or back 1 base
      → build_of (build ∷ config ∷ map bytes rest) ≡ asked_by build config (map bytes front) (bytes option) (bytes base)
  behind build config rest front back n option base count fronts backs low high first second =
      let same : length (map bytes rest) - 2 ≡ n = ap (λ k. k - 2) (length-map rest bytes) ∙ sym count in
      ap (λ k. request_ending build config (take k (map bytes rest)) (drop k (map bytes rest))) same
      ∙ ap (λ l. request_ending build config l (drop n (map bytes rest))) (take-map bytes n rest ∙ ap (map bytes) (sym fronts))
      ∙ ap (request_ending build config (map bytes front)) (drop-map bytes n rest ∙ ap (map bytes) (sym backs))
      ∙ ends build config (map bytes front) back option base low high first second

  -- what words ask for of which the last two and the first two are known
  pub request_is : (words front back : List W) (n : ℕ) (build config option base : W) → 2 ≤ length words → build ≡ get_or words 0 build → config ≡ get_or words 1 config
      → n ≡ length (take (length words - 2) (drop 2 words)) - 2
      → front ≡ take n (take (length words - 2) (drop 2 words)) → back ≡ drop n (take (length words - 2) (drop 2 words))
      → 2 ≤ length back → length back < 3 → option ≡ get_or back 0 option → base ≡ get_or back 1 base
      → build_of (map bytes words) ≡ asked_by (bytes build) (bytes config) (map bytes front) (bytes option) (bytes base)
  request_is [] front back n build config option base many zeroth oneth count fronts backs low high first second = absurd (omega (many, arith))
  request_is (a ∷ []) front back n build config option base many zeroth oneth count fronts backs low high first second = absurd (omega (many, arith))
  request_is (a ∷ b ∷ rest) front back n build config option base many zeroth oneth count fronts backs low high first second =
      let whole : take (length (a ∷ b ∷ rest) - 2) rest ≡ rest =
      let less : length (a ∷ b ∷ rest) - 2 ≡ length rest = omega arith in ap (λ k. take k rest) less ∙ take-length rest in
      ap (λ (x : W). build_of (bytes x ∷ bytes b ∷ map bytes rest)) (sym zeroth) ∙ ap (λ (x : W). build_of (bytes build ∷ bytes x ∷ map bytes rest)) (sym oneth)
      ∙ behind (bytes build) (bytes config) rest front back n option base (count ∙ ap (λ l. length l - 2) whole) (fronts ∙ ap (take n) whole) (backs ∙ ap (drop n) whole) low high first second

module _ (b c o e b' c' o' e' : List ℕ) (classes : List (List ℕ)) (build : b' ≡ b) (config : c' ≡ c) (option : o' ≡ o) (base : e' ≡ e) where
  same : asked_by b' c' classes o' e' ≡ asked_by b c classes o e
  same = ap (λ x. asked_by x c' classes o' e') build ∙ ap (λ x. asked_by b x classes o' e') config ∙ ap (λ x. asked_by b c classes x e') option ∙ ap (asked_by b c classes o) base

  -- what is found where the words are those of a build, and where they aren't
  pub found : (request : Option Request) (is : Bool) → request ≡ asked_by b c classes o e → is ≡ is_build b' c' classes o' e' → is ≡ true → Some (Build c' classes e') ≡ request
  found request is asked test holds = ap (λ t. if t then Some (Build c' classes e') else None) (sym holds ∙ test) ∙ same ∙ sym asked

  pub not_found : (request : Option Request) (is : Bool) → request ≡ asked_by b c classes o e → is ≡ is_build b' c' classes o' e' → is ≡ false → None ≡ request
  not_found request is asked test fails = ap (λ t. if t then Some (Build c' classes e') else None) (sym fails ∙ test) ∙ same ∙ sym asked

abbrev classes_of : Option Request → List (List ℕ)
classes_of None = []
classes_of (Some (Build config classes base)) = classes
classes_of (Some (Trace config script classes)) = classes

right : (a b : Bool) → (a && b) ≡ true → b ≡ true
right true b e = e
right false b e = absurd (true≢false (sym e))

left : (a b : Bool) → (a && b) ≡ true → a ≡ true
left true b e = refl
left false b e = e

-- the classes of a build are few
few_of : (build config base option : List ℕ) (classes : List (List ℕ)) → is_build build config classes option base ≡ true → length classes ≤ 2048
few_of build config base option classes e =
    let words = bytes_eq build (codes "build") && is_name config in
    let three = right words (are_classes classes) (left (words && are_classes classes) (bytes_eq option (codes "-o")) (left (words && are_classes classes && bytes_eq option (codes "-o")) (is_name base) e)) in
    leb-true (length classes) 2048 (right (nat_le 1 (length classes)) (nat_le (length classes) 2048) (left (nat_le 1 (length classes) && nat_le (length classes) 2048) (list_all is_name classes) three))

few_by : (build config base option : List ℕ) (classes all : List (List ℕ)) (c s : List ℕ) (is : Bool) → is_build build config all option base ≡ is
    → (if is then Some (Build config all base) else None) ≡ Some (Build c classes s) → length classes ≤ 2048
few_by build config base option classes all c s true e told = subst (λ l. length l ≤ 2048) (ap classes_of told) (few_of build config base option all e)
few_by build config base option classes all c s false e told = absurd (none_is_some (Build c classes s) told)

few_ending : (build config : List ℕ) (all back : List (List ℕ)) (c s : List ℕ) (classes : List (List ℕ)) → request_ending build config all back ≡ Some (Build c classes s) → length classes ≤ 2048
few_ending build config all [] c s classes e = absurd (none_is_some (Build c classes s) e)
few_ending build config all (x ∷ []) c s classes e = absurd (none_is_some (Build c classes s) e)
few_ending build config all (option ∷ base ∷ []) c s classes e = few_by build config base option classes all c s (is_build build config all option base) refl e
few_ending build config all (x ∷ y ∷ z ∷ more) c s classes e = absurd (none_is_some (Build c classes s) e)

few_built : (words : List (List ℕ)) (config base : List ℕ) (classes : List (List ℕ)) → build_of words ≡ Some (Build config classes base) → length classes ≤ 2048
few_built [] config base classes e = absurd (none_is_some (Build config classes base) e)
few_built (x ∷ []) config base classes e = absurd (none_is_some (Build config classes base) e)
few_built (build ∷ c ∷ rest) config base classes e = few_ending build c (take (length rest - 2) rest) (drop (length rest - 2) rest) config base classes e

-- ---- a trace

-- the classes of a trace are few
few_of_trace : (trace config script : List ℕ) (classes : List (List ℕ)) → is_trace trace config script classes ≡ true → length classes ≤ 2048
few_of_trace trace config script classes e =
    let are = right (bytes_eq trace (codes "trace") && is_name config && is_name script) (are_classes classes) e in
    leb-true (length classes) 2048 (right (nat_le 1 (length classes)) (nat_le (length classes) 2048) (left (nat_le 1 (length classes) && nat_le (length classes) 2048) (list_all is_name classes) are))

few_by_trace : (trace config script : List ℕ) (all classes : List (List ℕ)) (c s : List ℕ) (is : Bool) → is_trace trace config script all ≡ is
    → (if is then Some (Trace config script all) else None) ≡ Some (Trace c s classes) → length classes ≤ 2048
few_by_trace trace config script all classes c s true e told = subst (λ l. length l ≤ 2048) (ap classes_of told) (few_of_trace trace config script all e)
few_by_trace trace config script all classes c s false e told = absurd (none_is_some (Trace c s classes) told)

few_in_trace : (words : List (List ℕ)) (config script : List ℕ) (classes : List (List ℕ)) → trace_of words ≡ Some (Trace config script classes) → length classes ≤ 2048
few_in_trace [] config script classes e = absurd (none_is_some (Trace config script classes) e)
few_in_trace (x ∷ []) config script classes e = absurd (none_is_some (Trace config script classes) e)
few_in_trace (x ∷ y ∷ []) config script classes e = absurd (none_is_some (Trace config script classes) e)
few_in_trace (trace ∷ c ∷ s ∷ all) config script classes e = few_by_trace trace c s all classes config script (is_trace trace c s all) refl e

-- ---- a command is a build, or else a trace

abbrev is_building : Option Request → Bool
is_building (Some (Build config classes base)) = true
is_building _ = false

-- what a build's words ask for is a build, and what a trace's words ask for is a trace
build_ending : (build config : List ℕ) (all back : List (List ℕ)) (c s : List ℕ) (classes : List (List ℕ)) → request_ending build config all back ≡ Some (Trace c s classes) → ⊥
build_ending build config all [] c s classes e = none_is_some (Trace c s classes) e
build_ending build config all (x ∷ []) c s classes e = none_is_some (Trace c s classes) e
build_ending build config all (option ∷ base ∷ []) c s classes e = by_test (is_build build config all option base) e
  where
    by_test : (is : Bool) → (if is then Some (Build config all base) else None) ≡ Some (Trace c s classes) → ⊥
    by_test true told = true≢false (ap is_building told)
    by_test false told = none_is_some (Trace c s classes) told
build_ending build config all (x ∷ y ∷ z ∷ more) c s classes e = none_is_some (Trace c s classes) e

no_trace_is_built : (words : List (List ℕ)) (config script : List ℕ) (classes : List (List ℕ)) → build_of words ≡ Some (Trace config script classes) → ⊥
no_trace_is_built [] config script classes e = none_is_some (Trace config script classes) e
no_trace_is_built (x ∷ []) config script classes e = none_is_some (Trace config script classes) e
no_trace_is_built (build ∷ c ∷ rest) config script classes e = build_ending build c (take (length rest - 2) rest) (drop (length rest - 2) rest) config script classes e

no_build_is_traced : (words : List (List ℕ)) (config base : List ℕ) (classes : List (List ℕ)) → trace_of words ≡ Some (Build config classes base) → ⊥
no_build_is_traced [] config base classes e = none_is_some (Build config classes base) e
no_build_is_traced (x ∷ []) config base classes e = none_is_some (Build config classes base) e
no_build_is_traced (x ∷ y ∷ []) config base classes e = none_is_some (Build config classes base) e
no_build_is_traced (trace ∷ c ∷ s ∷ all) config base classes e = by_test (is_trace trace c s all) e
  where
    by_test : (is : Bool) → (if is then Some (Trace c s all) else None) ≡ Some (Build config classes base) → ⊥
    by_test true told = true≢false (sym (ap is_building told))
    by_test false told = none_is_some (Build config classes base) told

-- the one or the other
either : {A : Type 0} (first second : Option A) (x : A) → option_or first second ≡ Some x → (first ≡ Some x) ⊎ (second ≡ Some x)
either None second x e = inr e
either (Some y) second x e = inl e

pub few_classes : (words : List (List ℕ)) (config base : List ℕ) (classes : List (List ℕ)) → request_of words ≡ Some (Build config classes base) → length classes ≤ 2048
few_classes words config base classes e =
    elim (either (build_of words) (trace_of words) (Build config classes base) e) [
      | inl built ↦ few_built words config base classes built
      | inr traced ↦ absurd (no_build_is_traced words config base classes traced)
    ]

pub few_traced : (words : List (List ℕ)) (config script : List ℕ) (classes : List (List ℕ)) → request_of words ≡ Some (Trace config script classes) → length classes ≤ 2048
few_traced words config script classes e =
    elim (either (build_of words) (trace_of words) (Trace config script classes) e) [
      | inl built ↦ absurd (no_trace_is_built words config script classes built)
      | inr traced ↦ few_in_trace words config script classes traced
    ]
