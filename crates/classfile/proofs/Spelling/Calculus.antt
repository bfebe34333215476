-- A reader spells a piece: what it answers is what the bytes that it passes over spell, and what bytes spell is answered.
use Rattle.std.proofs.Common.{◌≡◌, ℕ, ◌+◌, Bool, true, false, List, [], ◌∷◌, ◌++◌, length, filter_map, Option, Some, None, Result, Ok, if◌then◌else◌, MatchBool, append_assoc, append-nil, refl, sym, ap, subst, ◌∙◌, arith, length-append}
use Rattle.std.specs.List.{list_all, cons_option}
use Rattle.std.proofs.lemmas.List.Folds.{list_all-append}
use Rattle.kes_text.specs.declared.refusal.Stop.{Stop}
use Rattle.kes_text.specs.declared.refusal.Kind.{Kind}
use Rattle.classfile.specs.declared.uses.Use.{Use}
use Rattle.classfile.specs.declared.pool.Entry.{Entry}
use Rattle.classfile.specs.Seen.{Key}
use Rattle.classfile.specs.Faults.{key_of}
use Rattle.classfile.specs.Scan.{Scan, ◌>>=◌, refused}
use Rattle.classfile.specs.Spelled.Pieces.{Piece, Then}
use Rattle.classfile.proofs.Backing.{passes, both, and_true, bound, ok_is}
use Rattle.classfile.proofs.Soundness.{fits}

-- these bytes stand behind a scan
pub record Stands (s : Scan) (rest : List ℕ) : Type 0 where
  pub before : List ℕ
  pub input : s.input ≡ before ++ rest
  pub place : s.place ≡ length before

-- the scan behind these bytes, with more noted
abbrev pub moved : Scan → List ℕ → List Use → Scan
moved s front more = record { input = s.input; place = s.place + length front; uses = s.uses ++ more }

-- the index fields name what they are to name
abbrev pub all_fit : List Entry → List Use → Bool
all_fit pool noted = list_all (passes (fits pool)) noted

abbrev pub keys_in : List Entry → List Use → List Key
keys_in pool noted = filter_map (key_of pool) noted

-- what is answered, where index fields name what they are to name, is what the bytes spell
pub record Found (pool : List Entry) {A B : Type 0} (out : A → Scan → B) (P : A → Piece) (K : A → List Key) (s : Scan) (bytes : List ℕ) (b : B) : Type 0 where
  pub value : A
  pub front : List ℕ
  pub rest : List ℕ
  pub more : List Use
  pub is : b ≡ out value (moved s front more)
  pub whole : bytes ≡ front ++ rest
  pub spelled : all_fit pool more ≡ true → P value s.place front × (keys_in pool more ≡ K value)

-- a value that the bytes spell is answered
pub record Reads (pool : List Entry) {A B : Type 0} (out : A → Scan → B) (K : A → List Key) (r : Result B Stop) (s : Scan) (front : List ℕ) (a : A) : Type 0 where
  pub more : List Use
  pub is : r ≡ Ok (out a (moved s front more))
  pub fit : all_fit pool more ≡ true
  pub keys : keys_in pool more ≡ K a

pub record Spells (pool : List Entry) {A B : Type 0} (out : A → Scan → B) (r : Scan → Result B Stop) (P : A → Piece) (K : A → List Key) : Type 0 where
  pub sound : (s : Scan) (bytes : List ℕ) (b : B) → Stands s bytes → Ok b ≡ r s → Found pool out P K s bytes b
  pub complete : (s : Scan) (front rest : List ℕ) (a : A) → Stands s (front ++ rest) → P a s.place front → Reads pool out K (r s) s front a

-- no member
abbrev pub none : {A : Type 0} → A → List Key
none a = []

-- a value and the scan behind it
abbrev pub pair : {A : Type 0} → A → Scan → A × Scan
pair a s = (a, s)

-- ---- scans

pub stands_behind : (s : Scan) (front rest : List ℕ) (more : List Use) → Stands s (front ++ rest) → Stands (moved s front more) rest
stands_behind s front rest more h = record {
  before = h.before ++ front;
  input = h.input ∙ sym (append_assoc h.before front rest);
  place = ap (λ (n : ℕ). n + length front) h.place ∙ sym (length-append h.before front);
}

pub moved_twice : (s : Scan) (one two : List ℕ) (more others : List Use) → moved (moved s one more) two others ≡ moved s (one ++ two) (more ++ others)
moved_twice s one two more others =
    let place : s.place + length one + length two ≡ s.place + length (one ++ two) = omega (arith, length-append one two) in
    let uses : (s.uses ++ more) ++ others ≡ s.uses ++ (more ++ others) = append_assoc s.uses more others in
    ap (λ (n : ℕ). record { input = s.input; place = n; uses = (s.uses ++ more) ++ others }) place
    ∙ ap (λ (us : List Use). record { input = s.input; place = s.place + length (one ++ two); uses = us }) uses

pub not_moved : (s : Scan) → moved s [] [] ≡ s
not_moved s =
    let place : s.place + 0 ≡ s.place = omega arith in
    let uses : s.uses ++ [] ≡ s.uses = append-nil s.uses in
    ap (λ (n : ℕ). record { input = s.input; place = n; uses = s.uses ++ [] }) place
    ∙ ap (λ (us : List Use). record { input = s.input; place = s.place; uses = us }) uses

cons-append : {A : Type 0} (x : Option A) (one two : List A) → cons_option x (one ++ two) ≡ cons_option x one ++ two
cons-append None one two = refl
cons-append (Some x) one two = refl

pub keys-append : (pool : List Entry) (one two : List Use) → keys_in pool (one ++ two) ≡ keys_in pool one ++ keys_in pool two
keys-append pool [] two = refl
keys-append pool (u ∷ one) two = ap (cons_option (key_of pool u)) (keys-append pool one two) ∙ cons-append (key_of pool u) (keys_in pool one) (keys_in pool two)

module _ (pool : List Entry) where
  -- ---- nothing is passed over

  pub pure : {A B : Type 0} (out : A → Scan → B) (a : A) → Spells pool out (λ s. Ok (out a s)) (λ w at bytes. (w ≡ a) × (bytes ≡ [])) none
  pure {A} {B} out a = record {
    sound = λ s bytes b stands e. record {
      value = a;
      front = [];
      rest = bytes;
      more = [];
      is = ok_is b (out a s) _ refl e ∙ ap (out a) (sym (not_moved s));
      whole = refl;
      spelled = λ fit. ((refl, refl), refl);
    };
    complete = λ s front rest w stands h. record {
      more = [];
      is = ap (λ (t : Scan). Ok (out a t)) (sym (not_moved s)) ∙ ap (λ (f : List ℕ). Ok (out a (moved s f []))) (sym h.1) ∙ ap (λ (v : A). Ok (out v (moved s front []))) (sym h.0);
      fit = refl;
      keys = refl;
    };
  }

  -- a refusal
  pub never : {A B : Type 0} (out : A → Scan → B) (K : A → List Key) (kind : Kind) (at : ℕ) → Spells pool out (λ s. refused kind at) (λ w at bytes. ⊥) K
  never out K kind at = record { sound = λ s bytes b stands e. absurd cc; complete = λ s front rest w stands h. absurd h }

  -- ---- one behind the other

  pub keyed_in_turn : {A B C D : Type 0} {out : A → Scan → B} {next : C → Scan → D} {r : Scan → Result B Stop} {P : A → Piece} {Q : A → C → Piece} {K : A → List Key} {L : A → C → List Key} {M : C → List Key} (f : B → Result D Stop)
      → ((a : A) (c : C) (at : ℕ) (bytes : List ℕ) → Q a c at bytes → K a ++ L a c ≡ M c)
      → Spells pool out r P K → ((a : A) → Spells pool next (λ t. f (out a t)) (Q a) (L a)) → Spells pool next (λ s. r s >>= f) (λ c at bytes. (a : A) × Then (P a) (Q a c) at bytes) M
  keyed_in_turn {A} {B} {C} {D} {out} {next} {r} {P} {Q} {K} {L} {M} f all one other = record {
    sound = λ s bytes d stands e.
        let first = bound (r s) f d e in
        let x = one.sound s bytes first.0 stands first.1 in
        let later : Stands (moved s x.front x.more) x.rest = stands_behind s x.front x.rest x.more (subst (Stands s) x.whole stands) in
        let behind : Ok d ≡ f (out x.value (moved s x.front x.more)) = first.2 ∙ ap f x.is in
        let y = (other x.value).sound (moved s x.front x.more) x.rest d later behind in
        record {
          value = y.value;
          front = x.front ++ y.front;
          rest = y.rest;
          more = x.more ++ y.more;
          is = y.is ∙ ap (next y.value) (moved_twice s x.front y.front x.more y.more);
          whole = x.whole ∙ ap (λ (t : List ℕ). x.front ++ t) y.whole ∙ sym (append_assoc x.front y.front y.rest);
          spelled = λ fit.
              let parts = both (all_fit pool x.more) (all_fit pool y.more) (sym (list_all-append (passes (fits pool)) x.more y.more) ∙ fit) in
              let p = x.spelled parts.0 in
              let q = y.spelled parts.1 in
              let ks : keys_in pool (x.more ++ y.more) ≡ M y.value = keys-append pool x.more y.more ∙ ap (λ (k : List Key). k ++ keys_in pool y.more) p.1 ∙ ap (λ (k : List Key). K x.value ++ k) q.1 ∙ all x.value y.value (s.place + length x.front) y.front q.0 in
              ((x.value, record { front = x.front; back = y.front; whole = refl; first = p.0; second = q.0 }), ks);
        };
    complete = λ s front rest c stands h.
        let a = h.0 in
        let t = h.1 in
        let cut : front ++ rest ≡ t.front ++ (t.back ++ rest) = ap (λ (u : List ℕ). u ++ rest) t.whole ∙ append_assoc t.front t.back rest in
        let here : Stands s (t.front ++ (t.back ++ rest)) = subst (Stands s) cut stands in
        let x = one.complete s t.front (t.back ++ rest) a here t.first in
        let later = stands_behind s t.front (t.back ++ rest) x.more here in
        let y = (other a).complete (moved s t.front x.more) t.back rest c later t.second in
        record {
          more = x.more ++ y.more;
          is = ap (λ (z : Result B Stop). z >>= f) x.is ∙ y.is ∙ ap (λ (z : Scan). Ok (next c z)) (moved_twice s t.front t.back x.more y.more) ∙ ap (λ (u : List ℕ). Ok (next c (moved s u (x.more ++ y.more)))) (sym t.whole);
          fit = list_all-append (passes (fits pool)) x.more y.more ∙ and_true (all_fit pool x.more) (all_fit pool y.more) x.fit y.fit;
          keys = keys-append pool x.more y.more ∙ ap (λ (k : List Key). k ++ keys_in pool y.more) x.keys ∙ ap (λ (k : List Key). K a ++ k) y.keys ∙ all a c (s.place + length t.front) t.back t.second;
        };
  }

  -- without members
  pub in_turn : {A B C D : Type 0} {out : A → Scan → B} {next : C → Scan → D} {r : Scan → Result B Stop} {P : A → Piece} {Q : A → C → Piece} (f : B → Result D Stop)
      → Spells pool out r P none → ((a : A) → Spells pool next (λ t. f (out a t)) (Q a) none) → Spells pool next (λ s. r s >>= f) (λ c at bytes. (a : A) × Then (P a) (Q a c) at bytes) none
  in_turn f one other = keyed_in_turn f (λ a c at bytes q. refl) one other

  -- ---- the same piece in other words, at a place, and by a test

  pub same : {A B : Type 0} {out : A → Scan → B} {r : Scan → Result B Stop} {P Q : A → Piece} {K : A → List Key}
      → ((a : A) (at : ℕ) (bytes : List ℕ) → P a at bytes → Q a at bytes) → ((a : A) (at : ℕ) (bytes : List ℕ) → Q a at bytes → P a at bytes) → Spells pool out r P K → Spells pool out r Q K
  same forth back h = record {
    sound = λ s bytes b stands e.
        let x = h.sound s bytes b stands e in
        record { value = x.value; front = x.front; rest = x.rest; more = x.more; is = x.is; whole = x.whole; spelled = λ fit. let p = x.spelled fit in (forth x.value s.place x.front p.0, p.1) };
    complete = λ s front rest a stands q. h.complete s front rest a stands (back a s.place front q);
  }

  -- a reader that knows its place
  pub here : {A B : Type 0} {out : A → Scan → B} {K : A → List Key} (r : ℕ → Scan → Result B Stop) (P : ℕ → A → Piece) → ((p : ℕ) → Spells pool out (r p) (P p) K) → Spells pool out (λ s. r s.place s) (λ a at bytes. P at a at bytes) K
  here r P h = record {
    sound = λ s bytes b stands e.
        let x = (h s.place).sound s bytes b stands e in
        record { value = x.value; front = x.front; rest = x.rest; more = x.more; is = x.is; whole = x.whole; spelled = x.spelled };
    complete = λ s front rest a stands q. (h s.place).complete s front rest a stands q;
  }

  pub by_test : {A B : Type 0} {out : A → Scan → B} {r q : Scan → Result B Stop} {P Q : A → Piece} {K : A → List Key} (b : Bool)
      → Spells pool out r P K → Spells pool out q Q K → Spells pool out (λ s. if b then r s else q s) (λ a at bytes. MatchBool b (P a at bytes) (Q a at bytes)) K
  by_test true one other = one
  by_test false one other = other

  -- the value with the bytes that spell it
  pub with_bytes : {A B : Type 0} {out : A → Scan → B} {r : Scan → Result B Stop} {P : A → Piece}
      → Spells pool out r P none → Spells pool (λ (x : A × List ℕ) (t : Scan). out x.0 t) r (λ x at bytes. P x.0 at bytes × (bytes ≡ x.1)) none
  with_bytes h = record {
    sound = λ s bytes b stands e.
        let x = h.sound s bytes b stands e in
        record { value = (x.value, x.front); front = x.front; rest = x.rest; more = x.more; is = x.is; whole = x.whole; spelled = λ fit. let p = x.spelled fit in ((p.0, refl), p.1) };
    complete = λ s front rest a stands q.
        let x = h.complete s front rest a.0 stands q.0 in
        record { more = x.more; is = x.is; fit = x.fit; keys = x.keys };
  }

  -- an answer that is made of the value
  pub ending : {A B C D : Type 0} {out : A → Scan → B} {r : Scan → Result B Stop} {P : A → Piece} {K : A → List Key} (f : B → Result D Stop) (next : C → Scan → D) (Q : C → Piece) (L : C → List Key) (form : A → C)
      → ((a : A) (s : Scan) → f (out a s) ≡ Ok (next (form a) s))
      → ((a : A) (at : ℕ) (bytes : List ℕ) → P a at bytes → Q (form a) at bytes × (K a ≡ L (form a)))
      → ((c : C) (at : ℕ) (bytes : List ℕ) → Q c at bytes → (a : A) × (form a ≡ c) × P a at bytes)
      → Spells pool out r P K → Spells pool next (λ s. r s >>= f) Q L
  ending {A} {B} {C} {D} {r} f next Q L form answer forth back h = record {
    sound = λ s bytes d stands e.
        let first = bound (r s) f d e in
        let x = h.sound s bytes first.0 stands first.1 in
        record {
          value = form x.value;
          front = x.front;
          rest = x.rest;
          more = x.more;
          is = ok_is d (next (form x.value) (moved s x.front x.more)) _ (answer x.value (moved s x.front x.more)) (first.2 ∙ ap f x.is);
          whole = x.whole;
          spelled = λ fit. let p = x.spelled fit in let q = forth x.value s.place x.front p.0 in (q.0, p.1 ∙ q.1);
        };
    complete = λ s front rest c stands q.
        let y = back c s.place front q in
        let x = h.complete s front rest y.0 stands y.2 in
        let g = forth y.0 s.place front y.2 in
        record {
          more = x.more;
          is = ap (λ (z : Result B Stop). z >>= f) x.is ∙ answer y.0 (moved s front x.more) ∙ ap (λ (c : C). Ok (next c (moved s front x.more))) y.1;
          fit = x.fit;
          keys = x.keys ∙ g.1 ∙ ap L y.1;
        };
  }

  -- the same, with more noted
  pub noting : {A B C D : Type 0} {out : A → Scan → B} {r : Scan → Result B Stop} {P : A → Piece} {K : A → List Key} (f : B → Result D Stop) (next : C → Scan → D) (Q : C → Piece) (L : C → List Key) (form : A → C) (noted : A → List Use)
      → ((a : A) (s : Scan) → f (out a s) ≡ Ok (next (form a) (record { input = s.input; place = s.place; uses = s.uses ++ noted a })))
      → ((a : A) (at : ℕ) (bytes : List ℕ) → P a at bytes → all_fit pool (noted a) ≡ true → Q (form a) at bytes × (K a ++ keys_in pool (noted a) ≡ L (form a)))
      → ((c : C) (at : ℕ) (bytes : List ℕ) → Q c at bytes → (a : A) × (form a ≡ c) × P a at bytes × (all_fit pool (noted a) ≡ true))
      → Spells pool out r P K → Spells pool next (λ s. r s >>= f) Q L
  noting {A} {B} {C} {D} {r} f next Q L form noted answer forth back h = record {
    sound = λ s bytes d stands e.
        let first = bound (r s) f d e in
        let x = h.sound s bytes first.0 stands first.1 in
        let more : List Use = noted x.value in
        record {
          value = form x.value;
          front = x.front;
          rest = x.rest;
          more = x.more ++ more;
          is = ok_is d (next (form x.value) (record { input = s.input; place = s.place + length x.front; uses = (s.uses ++ x.more) ++ more })) _ (answer x.value (moved s x.front x.more)) (first.2 ∙ ap f x.is)
              ∙ ap (λ (us : List Use). next (form x.value) (record { input = s.input; place = s.place + length x.front; uses = us })) (append_assoc s.uses x.more more);
          whole = x.whole;
          spelled = λ fit.
              let parts = both (all_fit pool x.more) (all_fit pool more) (sym (list_all-append (passes (fits pool)) x.more more) ∙ fit) in
              let p = x.spelled parts.0 in
              let q = forth x.value s.place x.front p.0 parts.1 in
              (q.0, keys-append pool x.more more ∙ ap (λ (k : List Key). k ++ keys_in pool more) p.1 ∙ q.1);
        };
    complete = λ s front rest c stands q.
        let y = back c s.place front q in
        let x = h.complete s front rest y.0 stands y.2 in
        let more : List Use = noted y.0 in
        let g = forth y.0 s.place front y.2 y.3 in
        record {
          more = x.more ++ more;
          is = ap (λ (z : Result B Stop). z >>= f) x.is ∙ answer y.0 (moved s front x.more)
              ∙ ap (λ (us : List Use). Ok (next (form y.0) (record { input = s.input; place = s.place + length front; uses = us }))) (append_assoc s.uses x.more more)
              ∙ ap (λ (v : C). Ok (next v (moved s front (x.more ++ more)))) y.1;
          fit = list_all-append (passes (fits pool)) x.more more ∙ and_true (all_fit pool x.more) (all_fit pool more) x.fit y.3;
          keys = keys-append pool x.more more ∙ ap (λ (k : List Key). k ++ keys_in pool more) x.keys ∙ g.1 ∙ ap L y.1;
        };
  }

  -- the same value in another form
  pub told_as : {A B C : Type 0} {out : A → Scan → B} {r : Scan → Result B Stop} {P : A → Piece} {K : A → List Key} (next : C → Scan → B) (Q : C → Piece) (L : C → List Key) (form : A → C)
      → ((a : A) (s : Scan) → out a s ≡ next (form a) s)
      → ((a : A) (at : ℕ) (bytes : List ℕ) → P a at bytes → Q (form a) at bytes × (K a ≡ L (form a)))
      → ((c : C) (at : ℕ) (bytes : List ℕ) → Q c at bytes → (a : A) × (form a ≡ c) × P a at bytes)
      → Spells pool out r P K → Spells pool next r Q L
  told_as {A} {B} {C} next Q L form same_out forth back h = record {
    sound = λ s bytes b stands e.
        let x = h.sound s bytes b stands e in
        record {
          value = form x.value;
          front = x.front;
          rest = x.rest;
          more = x.more;
          is = x.is ∙ same_out x.value (moved s x.front x.more);
          whole = x.whole;
          spelled = λ fit. let p = x.spelled fit in let q = forth x.value s.place x.front p.0 in (q.0, p.1 ∙ q.1);
        };
    complete = λ s front rest c stands q.
        let y = back c s.place front q in
        let x = h.complete s front rest y.0 stands y.2 in
        let f = forth y.0 s.place front y.2 in
        record {
          more = x.more;
          is = x.is ∙ ap (λ (b : B). Ok b) (same_out y.0 (moved s front x.more)) ∙ ap (λ (d : C). Ok (next d (moved s front x.more))) y.1;
          fit = x.fit;
          keys = x.keys ∙ f.1 ∙ ap L y.1;
        };
  }
