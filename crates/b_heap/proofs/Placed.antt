-- Where the fields of a class stand, one by one.
use Rattle.std.proofs.Common.{◌≡◌, ℕ, zero, suc, ◌+◌, Bool, true, false, not, List, [], ◌∷◌, length, take, map, filter, Some, option_map, slice_get, if◌then◌else◌, refl, ap, ◌∙◌, arith}
use Rattle.std.specs.List.{range_with_len}
use Rattle.classfile.specs.ClassFile.{FieldInfo}
use Rattle.jworld.specs.Classes.{World, count}
use Rattle.jworld.specs.Members.{fields_of, field_id}
use Rattle.b_heap.specs.declared.places.Before.{Before}
use Rattle.b_heap.specs.Shapes.{is_static, is_instance}
use Rattle.b_heap.specs.Places.{place_of}
use Rattle.b_heap.specs.Rows.{place_by, behind, places_from, row_of}
use Rattle.b_heap.specs.Held.{TellsPlaces}
use Rattle.b_heap.proofs.Told.{told, fields_past}

-- how many stand before the one behind so many
abbrev after : Before → List FieldInfo → Before
after before fields = record { slots = before.slots + length (filter is_instance fields); statics = before.statics + length (filter is_static fields) }

same_before : (a b : Before) → a.slots ≡ b.slots → a.statics ≡ b.statics → a ≡ b
same_before a b e f =
    let slots : ℕ → Before = λ s. record { slots = s; statics = a.statics } in
    let statics : ℕ → Before = λ s. record { slots = b.slots; statics = s } in
    ap slots e ∙ ap statics f

one_by : (static : Bool) (field : FieldInfo) (slots statics : List FieldInfo) (before : Before) (s : Before)
    → ◌≡◌ {A = Before} s (record { slots = if static then before.slots else before.slots + 1; statics = if static then before.statics + 1 else before.statics })
    → ◌≡◌ {A = Before} (record { slots = s.slots + length slots; statics = s.statics + length statics })
    (record { slots = before.slots + length (if not static then field ∷ slots else slots); statics = before.statics + length (if static then field ∷ statics else statics) })
one_by true field slots statics before s e =
    let counted : s.statics ≡ before.statics + 1 = ap (λ x. x.statics) e in
    same_before _ _ (ap (λ x. x.slots + length slots) e) (omega (arith, counted))
one_by false field slots statics before s e =
    let counted : s.slots ≡ before.slots + 1 = ap (λ x. x.slots) e in
    same_before _ _ (omega (arith, counted)) (ap (λ x. x.statics + length statics) e)

one_after : (before : Before) (field : FieldInfo) (fields : List FieldInfo) → after (behind before field) fields ≡ after before (field ∷ fields)
one_after before field fields = one_by (is_static field) field (filter is_instance fields) (filter is_static fields) before (behind before field) refl

none_after : (before : Before) → before ≡ after before []
none_after before = same_before _ _ (omega arith) (omega arith)

placed : (before : Before) (fields : List FieldInfo) (n : ℕ) → slice_get (places_from before fields) n ≡ option_map (place_by (after before (take n fields))) (slice_get fields n)
unfolding places_from
placed before [] n = refl
placed before (field ∷ fields) zero = ap (λ b. Some (place_by b field)) (none_after before)
placed before (field ∷ fields) (suc n) = placed (behind before field) fields n ∙ ap (λ b. option_map (place_by b) (slice_get fields n)) (one_after before field (take n fields))

nowhere : (before : Before) (fields : List FieldInfo) → fields ≡ [] → places_from before fields ≡ []
unfolding places_from
nowhere before [] e = refl
nowhere before (field ∷ fields) e = cc

row_is : (files : World) (class n : ℕ) → slice_get (row_of files class) n ≡ place_of files (field_id class n)
unfolding place_of
row_is files class n = placed _ (fields_of files class) n

pub tells_places : (files : World) → TellsPlaces files (map (row_of files) (range_with_len 0 (count files)))
tells_places files class n =
    ap (λ row. slice_get row n) (told (row_of files) (count files) [] (λ c past. nowhere _ (fields_of files c) (fields_past files c past)) class) ∙ row_is files class n
