use Rattle.std.proofs.Common.{◌≡◌, ◌+◌, ℕ, List, [], ◌∷◌, ◌++◌, length, map, sym, ap, ◌∙◌, arith}
use Rattle.std.specs.Prelude.{sum_by}
use Rattle.std.specs.List.{range_with_len}
use Rattle.std.proofs.lemmas.List.FromFn.{map-range_with_len_more}
use Rattle.std.proofs.lemmas.List.Sums.{sum_by_push}
use Rattle.jworld.specs.Members.{fields_of}
use Rattle.jworld.proofs.Numbers.{range-more}
use Rattle.b_heap.specs.declared.places.Place.{Place}
use Rattle.b_heap.specs.Places.{statics_in, statics_before, shapes_above}
use Rattle.b_heap.specs.Rows.{row_of, places_from}
use Rattle.b_heap.proofs.tables.all_places.Goals as goal

pub loop-n-preserved : goal.loop-n-preserved
loop-n-preserved c =
    let files = c.args.world.now in
    let n = c.loop-n.n in
    let row : c.in_ok-places_in.field-0 ≡ row_of files n =
    c.in_ok-places_in.ensures ∙ ap (λ (slots : ℕ). places_from (record { slots = slots; statics = c.loop-n.statics }) (fields_of files n)) c.slots_above-slots.ensures.value
    ∙ ap (λ (statics : ℕ). places_from (record { slots = length (shapes_above files n); statics = statics }) (fields_of files n)) c.loop-n.invariant.statics in
    let more : statics_before files (n + 1) ≡ statics_before files n + statics_in files n = ap (sum_by (statics_in files)) (range-more n) ∙ sum_by_push (statics_in files) (range_with_len 0 n) n in
    record {
      rows =
          c.in_ok-push.ensures.ok ∙ ap (λ (all : List (List Place)). all ++ c.in_ok-places_in.field-0 ∷ []) c.loop-n.invariant.rows
          ∙ ap (λ (last : List Place). map (row_of files) (range_with_len 0 n) ++ last ∷ []) row
          ∙ sym (map-range_with_len_more (row_of files) 0 n n (omega arith));
      statics = omega (arith, c.loop-n.invariant.statics, c.statics_in.ensures.value) ∙ sym more;
      few = omega (arith, c.loop-n.invariant.few, c.statics_in.ensures.few);
    }
