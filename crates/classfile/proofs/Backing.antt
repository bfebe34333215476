-- Reading an entry of the constant pool notes each of its indices.
use Rattle.std.proofs.Common.{◌≡◌, ℕ, zero, suc, ◌-◌, ◌+◌, ◌&&◌, ◌==◌, Bool, true, false, List, [], ◌∷◌, ◌++◌, Result, Ok, Err, nat_lt, length, take, drop, if◌then◌else◌, refl, sym, ap, subst, ◌∙◌}
use Rattle.byteorder.specs.Endian.{big_number}
use Rattle.std.specs.Int.{w32, w64, cast_signed}
use Rattle.std.specs.List.{list_all}
use Rattle.std.proofs.lemmas.List.Folds.{list_all-append}
use Rattle.kes_text.specs.declared.refusal.Stop.{Stop}
use Rattle.kes_text.specs.declared.refusal.Kind.TheVariants as kind
use Rattle.classfile.specs.declared.uses.Use.{Use}
use Rattle.classfile.specs.declared.uses.Use.TheVariants as uses
use Rattle.classfile.specs.declared.uses.Wanted.{Wanted}
use Rattle.classfile.specs.declared.uses.Wanted.TheVariants as wanted
use Rattle.classfile.specs.declared.pool.Entry.{Entry}
use Rattle.classfile.specs.declared.pool.Entry.TheVariants as entry
use Rattle.classfile.specs.Scan.{Scan, Read, ◌>>=◌, refused, bytes_at, number_at, noted, index_at, repeat}
use Rattle.classfile.specs.Entries.{utf8_at, opaque_at, class_at, one_index_at, referred, body_at, entry_at, is_wide, place_at, next_place, places_at, pool_at}

pub both : (a b : Bool) → (a && b) ≡ true → (a ≡ true) × (b ≡ true)
both true b e = (refl, e)
both false b e = absurd cc

pub and_true : (a b : Bool) → a ≡ true → b ≡ true → (a && b) ≡ true
and_true a b e f = rw (e, f) refl

-- what stood behind an answer
pub bound : {A B : Type 0} (r : Result A Stop) (f : A → Result B Stop) (b : B) → Ok b ≡ (r >>= f) → (a : A) × (Ok a ≡ r) × (Ok b ≡ f a)
bound (Ok a) f b e = (a, refl, e)
bound (Err x) f b e = absurd cc

pub ok_is : {A : Type 0} (a b : A) (r : Result A Stop) → r ≡ Ok b → Ok a ≡ r → a ≡ b
ok_is a b r f e = cc

-- a test of an index by what it is to name
abbrev pub Test : Type 0
Test = Wanted → ℕ → Bool

-- an index field passes it; a member does anyway
abbrev pub passes : Test → Use → Bool
passes test (uses.Index at index names) = test names index
passes test (uses.Member at is_method name descriptor) = true

abbrev pub all_pass : Test → Scan → Bool
all_pass test s = list_all (passes test) s.uses

-- the indices of an entry pass it
abbrev pub backed : Test → Entry → Bool
backed test (entry.Class name) = test wanted.ClassText name
backed test (entry.Fieldref class named) = test wanted.Class class && test wanted.FieldType named
backed test (entry.Methodref class named) = test wanted.Class class && test wanted.MethodType named
backed test (entry.InterfaceMethodref class named) = test wanted.Class class && test wanted.MethodType named
backed test (entry.NameAndType name descriptor) = test wanted.Text name && test wanted.AnyText descriptor
backed test _ = true

-- bytes and numbers note nothing
bytes_by : (b : Bool) (s : Scan) (n at p : ℕ) (t : List ℕ) (y : List ℕ × Scan) → Ok y ≡ (if b then refused kind.Truncated at else Ok (t, record s { place = p })) → y.1.uses ≡ s.uses
bytes_by true s n at p t y e = absurd cc
bytes_by false s n at p t y e = ap (λ (z : List ℕ × Scan). z.1.uses) (ok_is y (t, record s { place = p }) _ refl e)

pub bytes_note : (n : ℕ) (s : Scan) (y : List ℕ × Scan) → Ok y ≡ bytes_at n s → y.1.uses ≡ s.uses
bytes_note n s y e = bytes_by (nat_lt (length (drop s.place s.input)) n) s n (length s.input) (s.place + n) (take n (drop s.place s.input)) y e

pub number_note : (n : ℕ) (s : Scan) (y : ℕ × Scan) → Ok y ≡ number_at n s → y.1.uses ≡ s.uses
number_note n s y e =
    let b = bound (bytes_at n s) (λ bytes. Ok (big_number n bytes.0, bytes.1)) y e in
    ap (λ (z : ℕ × Scan). z.1.uses) (ok_is y (big_number n b.0.0, b.0.1) _ refl b.2) ∙ bytes_note n s b.0 b.1

-- an index field is noted
pub index_passes : (test : Test) (names : Wanted) (s : Scan) (y : ℕ × Scan) → Ok y ≡ index_at names s → all_pass test y.1 ≡ true → (all_pass test s ≡ true) × (test names y.0 ≡ true)
index_passes test names s y e all =
    let b = bound (number_at 2 s) (λ index. Ok (index.0, noted (uses.Index s.place index.0 names) index.1)) y e in
    let is : y ≡ (b.0.0, noted (uses.Index s.place b.0.0 names) b.0.1) = ok_is y (b.0.0, noted (uses.Index s.place b.0.0 names) b.0.1) _ refl b.2 in
    let cut = list_all-append (passes test) b.0.1.uses (uses.Index s.place b.0.0 names ∷ []) in
    let two = both (all_pass test b.0.1) (test names b.0.0 && true) (sym cut ∙ ap (λ (z : ℕ × Scan). all_pass test z.1) (sym is) ∙ all) in
    (ap (list_all (passes test)) (sym (number_note 2 s b.0 b.1)) ∙ two.0, ap (λ (z : ℕ × Scan). test names z.0) is ∙ (both (test names b.0.0) true two.1).0)

-- what a piece answers has indices that pass where all that is noted passes, and what was noted before passes too
pub record Backs (test : Test) (s : Scan) (r : Read Entry) : Type 0 where
  pub backs : (y : Entry × Scan) → Ok y ≡ r → all_pass test y.1 ≡ true → (all_pass test s ≡ true) × (backed test y.0 ≡ true)

module _ (test : Test) where
  -- an answer, where it is known
  answer : (s t : Scan) (one : Entry) (y : Entry × Scan) (r : Read Entry) → r ≡ Ok (one, t) → Ok y ≡ r → (all_pass test t ≡ true → (all_pass test s ≡ true) × (backed test one ≡ true))
      → all_pass test y.1 ≡ true → (all_pass test s ≡ true) × (backed test y.0 ≡ true)
  answer s t one y r is e known = let P : Entry × Scan → Type 0 = λ z. all_pass test z.1 ≡ true → (all_pass test s ≡ true) × (backed test z.0 ≡ true) in subst P (sym (ok_is y (one, t) r is e)) known

  by_choice : {s : Scan} {r q : Read Entry} (b : Bool) → Backs test s r → Backs test s q → Backs test s (if b then r else q)
  by_choice true one other = one
  by_choice false one other = other

  none : (s : Scan) (at : ℕ) → Backs test s (refused kind.PoolTag at)
  none s at = record { backs = λ y e. absurd cc }

  utf8_backs : (s : Scan) → Backs test s (utf8_at s)
  utf8_backs s = record {
    backs = λ y e.
        let a = bound (number_at 2 s) (λ length. bytes_at length.0 length.1 >>= λ text. Ok (entry.Utf8 text.0, text.1)) y e in
        let b = bound (bytes_at a.0.0 a.0.1) (λ text. Ok (entry.Utf8 text.0, text.1)) y a.2 in
        answer s b.0.1 (entry.Utf8 b.0.0) y _ refl b.2 (λ all. (ap (list_all (passes test)) (sym (bytes_note a.0.0 a.0.1 b.0 b.1 ∙ number_note 2 s a.0 a.1)) ∙ all, refl));
  }

  number_backs : (n : ℕ) (make : ℕ → Entry) (s : Scan) → ((k : ℕ) → backed test (make k) ≡ true) → Backs test s (number_at n s >>= λ number. Ok (make number.0, number.1))
  number_backs n make s free = record {
    backs = λ y e.
        let a = bound (number_at n s) (λ number. Ok (make number.0, number.1)) y e in
        answer s a.0.1 (make a.0.0) y _ refl a.2 (λ all. (ap (list_all (passes test)) (sym (number_note n s a.0 a.1)) ∙ all, free a.0.0));
  }

  opaque_backs : (kept : Entry) (n : ℕ) (s : Scan) → backed test kept ≡ true → Backs test s (opaque_at kept n s)
  opaque_backs kept n s free = record {
    backs = λ y e.
        let a = bound (bytes_at n s) (λ bytes. Ok (kept, bytes.1)) y e in
        answer s a.0.1 kept y _ refl a.2 (λ all. (ap (list_all (passes test)) (sym (bytes_note n s a.0 a.1)) ∙ all, free));
  }

  class_backs : (s : Scan) → Backs test s (class_at s)
  class_backs s = record {
    backs = λ y e.
        let a = bound (index_at wanted.ClassText s) (λ name. Ok (entry.Class name.0, name.1)) y e in
        answer s a.0.1 (entry.Class a.0.0) y _ refl a.2 (index_passes test wanted.ClassText s a.0 a.1);
  }

  one_index_backs : (kept : Entry) (names : Wanted) (s : Scan) → backed test kept ≡ true → Backs test s (one_index_at kept names s)
  one_index_backs kept names s free = record {
    backs = λ y e.
        let a = bound (index_at names s) (λ index. Ok (kept, index.1)) y e in
        answer s a.0.1 kept y _ refl a.2 (λ all. ((index_passes test names s a.0 a.1 all).0, free));
  }

  -- two indices
  two_back : (kept : ℕ → ℕ → Entry) (first second : Wanted) (s : Scan) → ((m n : ℕ) → backed test (kept m n) ≡ (test first m && test second n))
      → Backs test s (index_at first s >>= λ one. index_at second one.1 >>= λ other. Ok (kept one.0 other.0, other.1))
  two_back kept first second s parts = record {
    backs = λ y e.
        let a = bound (index_at first s) (λ one. index_at second one.1 >>= λ other. Ok (kept one.0 other.0, other.1)) y e in
        let b = bound (index_at second a.0.1) (λ other. Ok (kept a.0.0 other.0, other.1)) y a.2 in
        answer s b.0.1 (kept a.0.0 b.0.0) y _ refl b.2 (λ all.
        let later = index_passes test second a.0.1 b.0 b.1 all in
        let earlier = index_passes test first s a.0 a.1 later.0 in
        (earlier.0, parts a.0.0 b.0.0 ∙ and_true (test first a.0.0) (test second b.0.0) earlier.1 later.1));
  }

  -- a number, and a piece behind it that backs its answer
  behind_number : (n : ℕ) (s : Scan) (f : ℕ × Scan → Read Entry) → ((a : ℕ × Scan) → Backs test a.1 (f a)) → Backs test s (number_at n s >>= f)
  behind_number n s f later = record {
    backs = λ y e all.
        let a = bound (number_at n s) f y e in
        let known = (later a.0).backs y a.2 all in
        (ap (list_all (passes test)) (sym (number_note n s a.0 a.1)) ∙ known.0, known.1);
  }

  body_backs : (version at tag : ℕ) (s : Scan) → Backs test s (body_at version at tag s)
  body_backs version at tag s =
      by_choice (tag == 1) (utf8_backs s)
      (by_choice (tag == 3) (number_backs 4 (λ k. entry.Integer (cast_signed w32 k)) s (λ k. refl))
      (by_choice (tag == 4) (opaque_backs entry.Float 4 s refl)
      (by_choice (tag == 5) (number_backs 8 (λ k. entry.Long (cast_signed w64 k)) s (λ k. refl))
      (by_choice (tag == 6) (opaque_backs entry.Double 8 s refl)
      (by_choice (tag == 7) (class_backs s)
      (by_choice (tag == 8) (one_index_backs entry.String wanted.Text s refl)
      (by_choice (tag == 9) (two_back entry.Fieldref wanted.Class wanted.FieldType s (λ m n. refl))
      (by_choice (tag == 10) (two_back entry.Methodref wanted.Class wanted.MethodType s (λ m n. refl))
      (by_choice (tag == 11) (two_back entry.InterfaceMethodref wanted.Class wanted.MethodType s (λ m n. refl))
      (by_choice (tag == 12) (two_back entry.NameAndType wanted.Text wanted.AnyText s (λ m n. refl))
      (by_choice (tag == 15) (behind_number 1 s (λ k. one_index_at entry.MethodHandle (referred version k.0) k.1) (λ a. one_index_backs entry.MethodHandle (referred version a.0) a.1 refl))
      (by_choice (tag == 16) (one_index_backs entry.MethodType wanted.MethodText s refl)
      (by_choice (tag == 18) (behind_number 2 s (λ k. one_index_at entry.InvokeDynamic wanted.MethodType k.1) (λ a. one_index_backs entry.InvokeDynamic wanted.MethodType a.1 refl)) (none s at))))))))))))))

  entry_backs : (version : ℕ) (s : Scan) → Backs test s (entry_at version s)
  unfolding entry_at
  entry_backs version s = behind_number 1 s (λ tag. body_at version s.place tag.0 tag.1) (λ a. body_backs version s.place a.0 a.1)

  -- the next place
  place_backs : (version : ℕ) (wide : Bool) (s : Scan) (y : Entry × Bool × Scan) → Ok y ≡ place_at version wide s → all_pass test y.2 ≡ true → (all_pass test s ≡ true) × (backed test y.0 ≡ true)
  place_backs version true s y e =
      let P : Entry × Bool × Scan → Type 0 = λ z. all_pass test z.2 ≡ true → (all_pass test s ≡ true) × (backed test z.0 ≡ true) in
      subst P (sym (ok_is y (entry.Behind, false, s) _ refl e)) (λ all. (all, refl))
  place_backs version false s y e =
      let P : Entry × Bool × Scan → Type 0 = λ z. all_pass test z.2 ≡ true → (all_pass test s ≡ true) × (backed test z.0 ≡ true) in
      let a = bound (entry_at version s) (λ found. Ok (found.0, is_wide found.0, found.1)) y e in
      subst P (sym (ok_is y (a.0.0, is_wide a.0.0, a.0.1) _ refl a.2)) ((entry_backs version s).backs a.0 a.1)

  -- the places so far are backed where all that is noted passes
  abbrev pub Holds : List Entry × Bool × Scan → Type 0
  Holds x = all_pass test x.2 ≡ true → list_all (backed test) x.0 ≡ true

  next_holds : (version : ℕ) (x y : List Entry × Bool × Scan) → Ok y ≡ next_place version x → Holds x → Holds y
  next_holds version x y e so_far =
      let a = bound (place_at version x.1 x.2) (λ found. Ok (x.0 ++ found.0 ∷ [], found.1, found.2)) y e in
      let P : List Entry × Bool × Scan → Type 0 = λ z. Holds z in
      subst P (sym (ok_is y (x.0 ++ a.0.0 ∷ [], a.0.1, a.0.2) _ refl a.2)) (λ all.
      let known = place_backs version x.1 x.2 a.0 a.1 all in
      list_all-append (backed test) x.0 (a.0.0 ∷ []) ∙ and_true (list_all (backed test) x.0) (backed test a.0.0 && true) (so_far known.0) (and_true (backed test a.0.0) true known.1 refl))

  all_hold : (version n : ℕ) (x y : List Entry × Bool × Scan) → Ok y ≡ repeat n (next_place version) x → Holds x → Holds y
  unfolding repeat
  all_hold version zero x y e so_far = let P : List Entry × Bool × Scan → Type 0 = λ z. Holds z in subst P (sym (ok_is y x _ refl e)) so_far
  all_hold version (suc n) x y e so_far =
      let a = bound (next_place version x) (repeat n (next_place version)) y e in
      all_hold version n a.0 y a.2 (next_holds version x a.0 a.1 so_far)

  -- the entries of a pool that is read are backed where all that was noted passes
  pub pool_backs : (version : ℕ) (s : Scan) (y : List Entry × Scan) → Ok y ≡ pool_at version s → all_pass test y.1 ≡ true → list_all (backed test) y.0 ≡ true
  pool_backs version s y e =
      let a = bound (places_at version s) (λ found. Ok (found.0, found.2)) y e in
      let b = bound (number_at 2 s) (λ count. repeat (count.0 - 1) (next_place version) ([], false, count.1)) a.0 a.1 in
      let P : List Entry × Scan → Type 0 = λ z. all_pass test z.1 ≡ true → list_all (backed test) z.0 ≡ true in
      subst P (sym (ok_is y (a.0.0, a.0.2) _ refl a.2)) (all_hold version (b.0.0 - 1) ([], false, b.0.1) a.0 b.2 (λ all. refl))
