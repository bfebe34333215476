-- What is accepted is spelled so, and what is spelled so is accepted.
use Rattle.std.proofs.Common.{◌≡◌, ℕ, ◌+◌, ◌==◌, Bool, true, false, List, [], ◌∷◌, ◌++◌, length, Option, Some, None, Result, Ok, Err, IfOk, if◌then◌else◌, append-nil, length-append, refl, sym, ap, subst, ◌∙◌, arith, eqb-true, eq-eqb}
use Rattle.std.proofs.lemmas.List.Folds.{list_all-append}
use Rattle.kes_text.specs.declared.refusal.Refusal.{Refusal}
use Rattle.kes_text.specs.declared.refusal.Stop.{Stop}
use Rattle.kes_text.specs.declared.refusal.Kind.TheVariants as kind
use Rattle.classfile.specs.declared.pool.Entry.{Entry}
use Rattle.classfile.specs.ClassFile.{ClassInfo}
use Rattle.classfile.specs.Seen.{Key}
use Rattle.classfile.specs.Scan.{Scan, Read, OrNoMemory, ◌>>=◌, refused, anew}
use Rattle.classfile.specs.Entries.{pool_at}
use Rattle.classfile.specs.Faults.{or_else, first_fault}
use Rattle.classfile.specs.Reading.{version_at, class_named, ended, body_at, structure_at, unless, class_file}
use Rattle.classfile.specs.Spelled.Pool.{pool_piece}
use Rattle.classfile.specs.Spelled.{super_piece, IsSpelled}
use Rattle.classfile.proofs.Backing.{passes, both, and_true, bound, ok_is}
use Rattle.classfile.proofs.Soundness.{fits, all_pass}
use Rattle.classfile.proofs.Accepted.{keeps_pool, no_fault}
use Rattle.classfile.proofs.Spelling.Calculus.{Stands, moved, all_fit, keys_in, keys-append, stands_behind}
use Rattle.classfile.proofs.Spelling.Pools.{pool_spells}
use Rattle.classfile.proofs.Spelling.Faults.{Fresh, are_fresh, no_first, members_fresh, fresh_members}
use Rattle.classfile.proofs.Spelling.Bodies.{Version, version_spells, class_of, body_items, Body, class_keys, items_spells, at_end, body_is}

abbrev start : List ℕ → Scan
start bytes = record { input = bytes; place = 0; uses = [] }

stands_first : (bytes : List ℕ) → Stands (start bytes) bytes
stands_first bytes = record { before = []; input = refl; place = refl }

stands_anew : (s : Scan) (rest : List ℕ) → Stands s rest → Stands (anew s) rest
stands_anew s rest h = record { before = h.before; input = h.input; place = h.place }

-- at the end nothing stands behind
nothing_behind : (s : Scan) (rest : List ℕ) → Stands s rest → s.place ≡ length s.input → rest ≡ []
nothing_behind s [] h e = refl
nothing_behind s (byte ∷ rest) h e =
    let all : length s.input ≡ length h.before + length (byte ∷ rest) = ap length h.input ∙ length-append h.before (byte ∷ rest) in
    let place : s.place ≡ length h.before = h.place in
    absurd (omega arith)

at_the_end : (s : Scan) → Stands s [] → s.place ≡ length s.input
at_the_end s h = h.place ∙ ap length (sym (append-nil h.before)) ∙ ap length (sym h.input)

ended_by : (b : Bool) (s t : Scan) (place : ℕ) → Ok t ≡ (if b then Ok s else refused kind.Trailing place) → (b ≡ true) × (t ≡ s)
ended_by true s t place e = (refl, ok_is t s _ refl e)
ended_by false s t place e = absurd cc

-- ---- what is accepted is spelled so

-- a class whose items stand one behind the other, and whose members differ
record Items (bytes : List ℕ) (pool : List Entry) (version : ℕ) (class : ClassInfo) : Type 0 where
  header_bytes : List ℕ
  entry_bytes : List ℕ
  body_bytes : List ℕ
  whole : bytes ≡ header_bytes ++ (entry_bytes ++ body_bytes)
  header : Version pool version 0 header_bytes
  entries : pool_piece version pool pool (0 + length header_bytes) entry_bytes
  body : Body pool version class (0 + length header_bytes + length entry_bytes) body_bytes
  keys : Fresh [] (class_keys pool version class)

spelled_by : (bytes : List ℕ) (pool : List Entry) (version : ℕ) (class : ClassInfo) → Items bytes pool version class → IsSpelled class bytes
spelled_by bytes pool version class h =
    let c1 = h.body in
    let flags = c1.0 in
    let t1 = c1.1 in
    let this = t1.second.0 in
    let t2 = t1.second.1 in
    let super = t2.second.0 in
    let t3 = t2.second.1 in
    let interfaces = t3.second.0 in
    let t4 = t3.second.1 in
    let fields = t4.second.0 in
    let t5 = t4.second.1 in
    let methods = t5.second.0 in
    let t6 = t5.second.1 in
    let attributes = t6.second.0 in
    let place : ℕ = 0 + length h.header_bytes + length h.entry_bytes + length t1.front + length t2.front in
    let made : ClassInfo = class_of pool version flags this place super interfaces fields methods in
    let is : class ≡ made = t6.second.1 in
    let apart = members_fresh fields methods (ap_keys class made is h.keys) in
    let there : IsSpelled made bytes = record {
      this = this;
      super = super;
      attributes = attributes;
      items = record {
        front = h.header_bytes;
        back = h.entry_bytes ++ h.body_bytes;
        whole = h.whole;
        first = h.header.0;
        second = record {
          front = h.entry_bytes;
          back = h.body_bytes;
          whole = refl;
          first = h.entries;
          second = record {
            front = t1.front;
            back = t1.back;
            whole = t1.whole;
            first = t1.first;
            second = record {
              front = t2.front;
              back = t2.back;
              whole = t2.whole;
              first = t2.first;
              second = record {
                front = t3.front;
                back = t3.back;
                whole = t3.whole;
                first = t3.first;
                second = record {
                  front = t4.front;
                  back = t4.back;
                  whole = t4.whole;
                  first = t4.first;
                  second = record {
                    front = t5.front;
                    back = t5.back;
                    whole = t5.whole;
                    first = t5.first;
                    second = record { front = t6.front; back = t6.back; whole = t6.whole; first = t6.first; second = t6.second.2 };
                  };
                };
              };
            };
          };
        };
      };
      first = h.header.1;
      last = h.header.2;
      called = refl;
      above = refl;
      fields = apart.0;
      methods = apart.1;
    } in
    subst (λ (x : ClassInfo). IsSpelled x bytes) (sym is) there
  where
    ap_keys : (one other : ClassInfo) → one ≡ other → Fresh [] (class_keys pool version one) → Fresh [] (class_keys pool version other)
    ap_keys one other e k = subst (λ (x : ClassInfo). Fresh [] (class_keys pool version x)) e k

-- by the scans behind the version, the constant pool and the attributes
read_so : (bytes : List ℕ) (v : ℕ × Scan) (p : List Entry × Scan) (z : ClassInfo × Scan) → Ok v ≡ version_at (start bytes) → Ok p ≡ pool_at v.0 v.1 → Ok z ≡ body_items p.0 v.0 (anew p.1) → z.1.place ≡ length z.1.input
    → first_fault p.0 [] p.1.uses ≡ None → first_fault p.0 [] z.1.uses ≡ None → IsSpelled z.0 bytes
read_so bytes v p z one two three end fine good =
    let pool : List Entry = p.0 in
    let x1 = (version_spells pool).sound (start bytes) bytes v (stands_first bytes) one in
    let version = x1.value in
    let s1 : Scan = moved (start bytes) x1.front x1.more in
    let stands1 : Stands s1 x1.rest = stands_behind (start bytes) x1.front x1.rest x1.more (subst (Stands (start bytes)) x1.whole (stands_first bytes)) in
    let x2 = (pool_spells pool version).sound s1 x1.rest p stands1 (two ∙ ap (λ (w : ℕ × Scan). pool_at w.0 w.1) x1.is) in
    let s2 : Scan = moved s1 x2.front x2.more in
    let stands2 : Stands (anew s2) x2.rest = stands_anew s2 x2.rest (stands_behind s1 x2.front x2.rest x2.more (subst (Stands s1) x2.whole stands1)) in
    let here : Ok z ≡ body_items pool version (anew s2) = three ∙ ap (λ (w : ℕ × Scan). body_items pool w.0 (anew p.1)) x1.is ∙ ap (λ (w : List Entry × Scan). body_items pool version (anew w.1)) x2.is in
    let x3 = (items_spells pool version).sound (anew s2) x2.rest z stands2 here in
    let s3 : Scan = moved (anew s2) x3.front x3.more in
    let stands3 : Stands s3 x3.rest = stands_behind (anew s2) x3.front x3.rest x3.more (subst (Stands (anew s2)) x3.whole stands2) in
    let over : x3.rest ≡ [] = nothing_behind s3 x3.rest stands3 (ap (λ (w : ClassInfo × Scan). w.1.place) (sym x3.is) ∙ end ∙ ap (λ (w : ClassInfo × Scan). length w.1.input) x3.is) in
    let entries_fine : first_fault pool [] (x1.more ++ x2.more) ≡ None = ap (λ (w : List Entry × Scan). first_fault pool [] w.1.uses) (sym x2.is) ∙ fine in
    let body_fine : first_fault pool [] x3.more ≡ None = ap (λ (w : ClassInfo × Scan). first_fault pool [] w.1.uses) (sym x3.is) ∙ good in
    let fit12 : all_fit pool (x1.more ++ x2.more) ≡ true = all_pass pool [] (x1.more ++ x2.more) entries_fine in
    let parts = both (all_fit pool x1.more) (all_fit pool x2.more) (sym (list_all-append (passes (fits pool)) x1.more x2.more) ∙ fit12) in
    let r1 = x1.spelled parts.0 in
    let r2 = x2.spelled parts.1 in
    let r3 = x3.spelled (all_pass pool [] x3.more body_fine) in
    let same_pool : x2.value ≡ pool = ap (λ (w : List Entry × Scan). w.0) (sym x2.is) in
    let last : x2.rest ≡ x3.front = x3.whole ∙ ap (λ (l : List ℕ). x3.front ++ l) over ∙ append-nil x3.front in
    let items : Items bytes pool version x3.value = record {
      header_bytes = x1.front;
      entry_bytes = x2.front;
      body_bytes = x3.front;
      whole = x1.whole ∙ ap (λ (l : List ℕ). x1.front ++ l) (x2.whole ∙ ap (λ (l : List ℕ). x2.front ++ l) last);
      header = r1.0;
      entries = subst (λ (l : List Entry). pool_piece version pool l (0 + length x1.front) x2.front) same_pool r2.0;
      body = r3.0;
      keys = subst (Fresh []) r3.1 (are_fresh pool [] x3.more body_fine);
    } in
    subst (λ (c : ClassInfo). IsSpelled c bytes) (ap (λ (w : ClassInfo × Scan). w.0) (sym x3.is)) (spelled_by bytes pool version x3.value items)

no_second : (first second : Option Refusal) (made class : ClassInfo) → Ok class ≡ unless (or_else first second) made → second ≡ None
no_second (Some x) second made class e = absurd cc
no_second None (Some x) made class e = absurd cc
no_second None None made class e = refl

pub accepted : (bytes : List ℕ) (class : ClassInfo) → class_file bytes ≡ Ok class → IsSpelled class bytes
unfolding structure_at
accepted bytes class e =
    let a = bound (structure_at (start bytes)) (λ read. unless (or_else (first_fault read.0.pool [] read.1.uses) (first_fault read.0.pool [] read.2.uses)) read.0) class (sym e) in
    let fine = no_fault (first_fault a.0.0.pool [] a.0.1.uses) (first_fault a.0.0.pool [] a.0.2.uses) a.0.0 class a.2 in
    let second = no_second (first_fault a.0.0.pool [] a.0.1.uses) (first_fault a.0.0.pool [] a.0.2.uses) a.0.0 class a.2 in
    let b = bound (version_at (start bytes)) (λ version. pool_at version.0 version.1 >>= λ pool. body_at version.0 pool.0 (anew pool.1) >>= λ class. Ok (class.0, pool.1, class.1)) a.0 a.1 in
    let c = bound (pool_at b.0.0 b.0.1) (λ pool. body_at b.0.0 pool.0 (anew pool.1) >>= λ class. Ok (class.0, pool.1, class.1)) a.0 b.2 in
    let d = bound (body_at b.0.0 c.0.0 (anew c.0.1)) (λ class. Ok (class.0, c.0.1, class.1)) a.0 c.2 in
    let is : a.0 ≡ (d.0.0, c.0.1, d.0.1) = ok_is a.0 (d.0.0, c.0.1, d.0.1) _ refl d.2 in
    let f = bound (body_items c.0.0 b.0.0 (anew c.0.1)) (at_end c.0.0 b.0.0) d.0 (d.1 ∙ body_is c.0.0 b.0.0 (anew c.0.1)) in
    let g = bound (ended f.0.1) (λ behind. Ok (f.0.0, behind)) d.0 f.2 in
    let at_the_end = ended_by (f.0.1.place == length f.0.1.input) f.0.1 g.0 f.0.1.place g.1 in
    let end : f.0.1.place ≡ length f.0.1.input = eqb-true f.0.1.place (length f.0.1.input) at_the_end.0 in
    let read : d.0 ≡ f.0 = ok_is d.0 (f.0.0, g.0) _ refl g.2 ∙ ap (λ (s : Scan). (f.0.0, s)) at_the_end.1 in
    let class_is : class ≡ f.0.0 = fine.1 ∙ ap (λ (z : ClassInfo × Scan × Scan). z.0) is ∙ ap (λ (z : ClassInfo × Scan). z.0) read in
    let kept : d.0.0.pool ≡ c.0.0 = keeps_pool b.0.0 c.0.0 (anew c.0.1) d.0 d.1 in
    let entries_fine : first_fault c.0.0 [] c.0.1.uses ≡ None =
    ap (λ (p : List Entry). first_fault p [] c.0.1.uses) (sym kept) ∙ ap (λ (z : ClassInfo × Scan × Scan). first_fault z.0.pool [] z.1.uses) (sym is) ∙ fine.0 in
    let body_fine : first_fault c.0.0 [] f.0.1.uses ≡ None =
    ap (λ (p : List Entry). first_fault p [] f.0.1.uses) (sym kept) ∙ ap (λ (z : ClassInfo × Scan). first_fault d.0.0.pool [] z.1.uses) (sym read) ∙ ap (λ (z : ClassInfo × Scan × Scan). first_fault z.0.pool [] z.2.uses) (sym is) ∙ second in
    subst (λ (x : ClassInfo). IsSpelled x bytes) (sym class_is) (read_so bytes b.0 c.0 f.0 b.1 c.1 f.1 end entries_fine body_fine)

-- ---- what is spelled so is accepted

body_of : (bytes : List ℕ) (class : ClassInfo) (h : IsSpelled class bytes) → Body class.pool class.version class (0 + length h.items.front + length h.items.second.front) h.items.second.back
body_of bytes class h =
    let t1 = h.items.second.second in
    let t2 = t1.second in
    let t3 = t2.second in
    let t4 = t3.second in
    let t5 = t4.second in
    let t6 = t5.second in
    let place : ℕ = 0 + length h.items.front + length h.items.second.front + length t1.front + length t2.front in
    let is : class ≡ class_of class.pool class.version class.flags h.this place h.super class.interfaces class.fields class.methods =
    ap (λ (n : List ℕ). record { version = class.version; flags = class.flags; name = n; super_name = class.super_name; super_at = class.super_at; interfaces = class.interfaces; fields = class.fields; methods = class.methods; pool = class.pool }) h.called
    ∙ ap (λ (n : List ℕ). record { version = class.version; flags = class.flags; name = class_named class.pool h.this; super_name = n; super_at = class.super_at; interfaces = class.interfaces; fields = class.fields; methods = class.methods; pool = class.pool }) h.above
    ∙ ap (λ (q : ℕ). record { version = class.version; flags = class.flags; name = class_named class.pool h.this; super_name = class_named class.pool h.super; super_at = q; interfaces = class.interfaces; fields = class.fields; methods = class.methods; pool = class.pool }) t3.first.0 in
    let named : super_piece class.pool (class_named class.pool h.this) class.super_at h.super place t3.front = subst (λ (n : List ℕ). super_piece class.pool n class.super_at h.super place t3.front) h.called t3.first in
    let super : super_piece class.pool (class_named class.pool h.this) place h.super place t3.front = (refl, named.1, named.2) in (
      class.flags,
      record {
        front = t1.front;
        back = t1.back;
        whole = t1.whole;
        first = t1.first;
        second = (
          h.this,
          record {
            front = t2.front;
            back = t2.back;
            whole = t2.whole;
            first = t2.first;
            second = (
              h.super,
              record {
                front = t3.front;
                back = t3.back;
                whole = t3.whole;
                first = super;
                second = (
                  class.interfaces,
                  record {
                    front = t4.front;
                    back = t4.back;
                    whole = t4.whole;
                    first = t4.first;
                    second = (
                      class.fields,
                      record {
                        front = t5.front;
                        back = t5.back;
                        whole = t5.whole;
                        first = t5.first;
                        second = (class.methods, record { front = t6.front; back = t6.back; whole = t6.whole; first = t6.first; second = (h.attributes, is, t6.second) });
                      },
                    );
                  },
                );
              },
            );
          },
        );
      },
    )

ends_there : (s : Scan) → s.place ≡ length s.input → ended s ≡ Ok s
ends_there s e = ap (λ (b : Bool). if b then Ok s else refused kind.Trailing s.place) (eq-eqb s.place (length s.input) e)

pub spelled : (bytes : List ℕ) (class : ClassInfo) → IsSpelled class bytes → class_file bytes ≡ Ok class
unfolding structure_at
spelled bytes class h =
    let pool : List Entry = class.pool in
    let version : ℕ = class.version in
    let t = h.items in
    let u = t.second in
    let stands0 : Stands (start bytes) (t.front ++ t.back) = subst (Stands (start bytes)) t.whole (stands_first bytes) in
    let y1 = (version_spells pool).complete (start bytes) t.front t.back version stands0 (t.first, h.first, h.last) in
    let s1 : Scan = moved (start bytes) t.front y1.more in
    let stands1 : Stands s1 (u.front ++ u.back) = subst (Stands s1) u.whole (stands_behind (start bytes) t.front t.back y1.more stands0) in
    let y2 = (pool_spells pool version).complete s1 u.front u.back pool stands1 u.first in
    let s2 : Scan = moved s1 u.front y2.more in
    let stands2 : Stands (anew s2) (u.back ++ []) = subst (Stands (anew s2)) (sym (append-nil u.back)) (stands_anew s2 u.back (stands_behind s1 u.front u.back y2.more stands1)) in
    let y3 = (items_spells pool version).complete (anew s2) u.back [] class stands2 (body_of bytes class h) in
    let s3 : Scan = moved (anew s2) u.back y3.more in
    let end : s3.place ≡ length s3.input = at_the_end s3 (stands_behind (anew s2) u.back [] y3.more stands2) in
    let body : body_at version pool (anew s2) ≡ Ok (class, s3) = body_is pool version (anew s2) ∙ ap (λ (r : Read ClassInfo). r >>= at_end pool version) y3.is ∙ ap (λ (r : Result Scan Stop). r >>= λ behind. Ok (class, behind)) (ends_there s3 end) in
    let entries_fit : all_fit pool (y1.more ++ y2.more) ≡ true = list_all-append (passes (fits pool)) y1.more y2.more ∙ and_true (all_fit pool y1.more) (all_fit pool y2.more) y1.fit y2.fit in
    let entries_keys : keys_in pool (y1.more ++ y2.more) ≡ [] = keys-append pool y1.more y2.more ∙ ap (λ (k : List Key). k ++ keys_in pool y2.more) y1.keys ∙ y2.keys in
    let entries_fine : first_fault pool [] s2.uses ≡ None = no_first pool [] (y1.more ++ y2.more) entries_fit (subst (Fresh []) (sym entries_keys) tt) in
    let body_fine : first_fault pool [] s3.uses ≡ None = no_first pool [] y3.more y3.fit (subst (Fresh []) (sym y3.keys) (fresh_members class.fields class.methods h.fields h.methods)) in
    let structure : structure_at (start bytes) ≡ Ok (class, s2, s3) =
    ap (λ (r : Read ℕ). r >>= λ version. pool_at version.0 version.1 >>= λ pool. body_at version.0 pool.0 (anew pool.1) >>= λ class. Ok (class.0, pool.1, class.1)) y1.is
    ∙ ap (λ (r : Read (List Entry)). r >>= λ pool. body_at version pool.0 (anew pool.1) >>= λ class. Ok (class.0, pool.1, class.1)) y2.is
    ∙ ap (λ (r : Read ClassInfo). r >>= λ class. Ok (class.0, s2, class.1)) body in
    ap (λ (r : Result (ClassInfo × Scan × Scan) Stop). r >>= λ read. unless (or_else (first_fault read.0.pool [] read.1.uses) (first_fault read.0.pool [] read.2.uses)) read.0) structure
    ∙ ap (λ (x : Option Refusal). unless (or_else x (first_fault pool [] s3.uses)) class) entries_fine ∙ ap (λ (x : Option Refusal). unless x class) body_fine

pub once : (bytes : List ℕ) (one other : ClassInfo) → IsSpelled one bytes → IsSpelled other bytes → one ≡ other
once bytes one other h k = ok_is one other (class_file bytes) (spelled bytes other k) (sym (spelled bytes one h))

-- whatever the reading answers
pub spelled_of : (bytes : List ℕ) (r : Result ClassInfo Stop) → OrNoMemory r (class_file bytes) → IfOk r (λ class. IsSpelled class bytes)
spelled_of bytes (Ok class) e = accepted bytes class (sym e)
spelled_of bytes (Err stop) e = tt

pub answered_only : (bytes : List ℕ) (class : ClassInfo) (r : Result ClassInfo Stop) → IsSpelled class bytes → OrNoMemory r (class_file bytes) → OrNoMemory r (Ok class)
answered_only bytes class r h e = subst (OrNoMemory r) (spelled bytes class h) e
