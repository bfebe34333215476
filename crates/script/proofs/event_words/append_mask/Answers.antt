use Rattle.std.proofs.Common.{◌≡◌, ◌<◌, ℕ, List, get_or, length, sym, ◌∙◌}
use Rattle.script.proofs.Masks.{some_pieces, text_more, out_more}
use Rattle.script.proofs.event_words.append_mask.Goals as goal
use Rattle.script.proofs.event_words.append_mask.Goals.{then-is_in+in_ok-append_event, else-is_in}

pub loop-event-preserved : goal.loop-event-preserved
loop-event-preserved c = elim c.if-is_in.branch [
  | then-is_in+in_ok-append_event w ↦
      let names : List (List ℕ) = c.args.names.now.events in
      let same : c.as_slice-name-items.result.now ≡ names = c.as_slice-name-items.ensures in
      let name : List ℕ = c.name-item.result in
      let within : c.loop-event.event < length names = rw (← same) c.loop-event-test.true in
      let is : name ≡ get_or names c.loop-event.event name = rw (← same) c.name-item.is in
      let inside = sym c.is_in.ensures ∙ w.if-is_in.true in
      record {
        first = w.is_first-is ∙ some_pieces names c.args.mask c.loop-event.event name within is inside;
        text = rw w.out-is (text_more names c.args.mask c.loop-event.event name c.loop-event.is_first c.args.out.now.items c.loop-event.out.items w.append_event.new.out.items within is inside c.loop-event.invariant.first c.loop-event.invariant.text (rw (← w.as_slice.ensures) w.in_ok-append_event.ensures));
      }
  | else-is_in w ↦
      let names : List (List ℕ) = c.args.names.now.events in
      let outside = sym c.is_in.ensures ∙ w.if-is_in.false in
      let none = out_more c.args.mask c.loop-event.event outside in
      record {
        first = rw (none, w.is_first-is) c.loop-event.invariant.first;
        text = rw (none, w.out-is) c.loop-event.invariant.text;
      }
]
