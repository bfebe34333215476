-- Tables that have a row for each class tell of every number, since there is nothing behind the last class.
use Rattle.std.proofs.Common.{◌≡◌, ℕ, zero, suc, ◌+◌, ◌-◌, ◌<◌, ◌≤◌, ltb, false, List, [], ◌∷◌, length, map, None, slice_get, slice_index_or, All, refl, sym, ap, subst, ◌∙◌, ⊎_elim, arith, le-ltb}
use Rattle.std.specs.List.{range_with_len}
use Rattle.std.proofs.lemmas.Bool.{cases_lt}
use Rattle.std.proofs.lemmas.List.{get_or_past}
use Rattle.std.proofs.lemmas.Option.{slice_get_past}
use Rattle.jworld.specs.Classes.{World, count}
use Rattle.jworld.specs.Members.{fields_of}
use Rattle.jnames.specs.declared.shape.Shape.{Shape}
use Rattle.b_heap.specs.Shapes.{instance_shapes}
use Rattle.b_heap.specs.Objects.{own_shapes}
use Rattle.b_heap.specs.Held.{TellsShapes}

module _ {X : Type 0} (f : ℕ → X) where
  told_within : (a n : ℕ) (d : X) (c : ℕ) → c < n → slice_index_or (map f (range_with_len a n)) c d ≡ f (a + c)
  told_within a zero d c lt = absurd (omega (arith, lt))
  told_within a (suc n) d zero lt = ap f (omega arith)
  told_within a (suc n) d (suc c) lt =
      let e : a + 1 + c ≡ a + suc c = omega arith in
      told_within (a + 1) n d c (omega (arith, lt)) ∙ ap f e

  length_told : (a n : ℕ) → length (map f (range_with_len a n)) ≡ n
  length_told a zero = refl
  length_told a (suc n) = ap suc (length_told (a + 1) n)

  pub told : (n : ℕ) (d : X) → ((c : ℕ) → n ≤ c → f c ≡ d) → (c : ℕ) → slice_index_or (map f (range_with_len 0 n)) c d ≡ f c
  told n d past c =
      let start : 0 + c ≡ c = omega arith in
      ⊎_elim
      (λ within. told_within 0 n d c within ∙ ap f start)
      (λ behind. get_or_past (map f (range_with_len 0 n)) c d (omega (arith, length_told 0 n, behind)) ∙ sym (past c behind))
      (cases_lt c n)

pub fields_past : (files : World) (class : ℕ) → count files ≤ class → fields_of files class ≡ []
fields_past files class past =
    let is_file : ltb class 4 ≡ false = le-ltb class 4 (omega arith) in
    let no_file : slice_get files (class - 4) ≡ None = slice_get_past files (class - 4) (omega arith) in
    rw (is_file, no_file) refl

-- a number for each row, which is that of an empty row behind the last
pub told_of_rows : {X : Type 0} (f : List X → ℕ) (rows : List (List X)) (class : ℕ) → f [] ≡ 0 → slice_index_or (map f rows) class 0 ≡ f (slice_index_or rows class [])
told_of_rows f [] class none = sym none
told_of_rows f (row ∷ rows) zero none = refl
told_of_rows f (row ∷ rows) (suc class) none = told_of_rows f rows class none

pub tells_shapes : (files : World) (shapes : List (List Shape)) → shapes ≡ map (own_shapes files) (range_with_len 0 (count files)) → TellsShapes files shapes
tells_shapes files shapes e class =
    ap (λ (rows : List (List Shape)). slice_index_or rows class []) e
    ∙ told (own_shapes files) (count files) [] (λ c past. ap instance_shapes (fields_past files c past)) class

pub few_shapes : (files : World) (shapes : List (List Shape)) → TellsShapes files shapes → All (λ own. length own ≤ 65536) shapes → (class : ℕ) → length (own_shapes files class) ≤ 65536
few_shapes files shapes tells few class =
    let row : length (slice_index_or shapes class []) ≤ 65536 =
    ⊎_elim (λ within. few class [] within) (λ past. let none = get_or_past shapes class [] past in rw none (omega arith)) (cases_lt class (length shapes)) in
    subst (λ (own : List Shape). length own ≤ 65536) (tells class) row
