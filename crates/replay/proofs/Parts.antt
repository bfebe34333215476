-- A text that is put in parts.
use Rattle.std.proofs.Common.{◌≡◌, ℕ, ◌+◌, ◌≤◌, List, [], ◌++◌, take, drop, length, Option, Some, None, IfSome, Result, Ok, Err, append_assoc, append-nil, refl, sym, ap, ◌∙◌, subst, arith}
use Rattle.std.proofs.Math.Seq.{take-append_seam, take-append-add}
use Rattle.std.proofs.lemmas.List.{take-append-drop}
use Rattle.replay.specs.declared.ending.Ending.{Ending}
use Rattle.replay.specs.declared.ending.Ending.TheVariants.{OutputFailed, NoMemory}
use Rattle.replay.specs.Seen.{SinkSeen}
use Rattle.replay.specs.Puts.{PutsAll, IsWhy, PutsInPart, Puts}

abbrev Held : Type 0
Held = Option (List ℕ)

-- ---- the bytes

abbrev Grew : List ℕ → Held → Held → Type 0
Grew bytes before after = IfSome before (λ taken. after ≡ Some (taken ++ bytes))

abbrev GrewInPart : List ℕ → Held → Held → Type 0
GrewInPart bytes before after = IfSome before (λ taken. (n : ℕ) × (after ≡ Some (taken ++ take n bytes)))

grew_not : (before : Held) → Grew [] before before
grew_not None = tt
grew_not (Some taken) = ap Some (sym (append-nil taken))

grew_then : (one two : List ℕ) (before mid after : Held) → Grew one before mid → Grew two mid after → Grew (one ++ two) before after
grew_then one two None mid after first second = tt
grew_then one two (Some taken) mid after first second =
    subst (λ held. IfSome held (λ t. after ≡ Some (t ++ two))) first second ∙ ap Some (append_assoc taken one two)

-- first bytes of a part are first bytes of the whole
part_of_whole : (n : ℕ) (one two : List ℕ) → take (length (take n one)) (one ++ two) ≡ take n one
part_of_whole n one two =
    let whole : take n one ++ (drop n one ++ two) ≡ one ++ two =
    sym (append_assoc (take n one) (drop n one) two) ∙ ap (λ xs. xs ++ two) (take-append-drop n one) in
    ap (take (length (take n one))) (sym whole) ∙ take-append_seam (take n one) (drop n one ++ two)

grew_in_first : (one two : List ℕ) (before after : Held) → GrewInPart one before after → GrewInPart (one ++ two) before after
grew_in_first one two None after part = tt
grew_in_first one two (Some taken) after part =
    (length (take part.0 one), part.1 ∙ ap (λ xs. Some (taken ++ xs)) (sym (part_of_whole part.0 one two)))

grew_in_second : (one two : List ℕ) (before mid after : Held) → Grew one before mid → GrewInPart two mid after → GrewInPart (one ++ two) before after
grew_in_second one two None mid after first part = tt
grew_in_second one two (Some taken) mid after first part =
    let here = subst (λ held. IfSome held (λ t. (n : ℕ) × (after ≡ Some (t ++ take n two)))) first part in
    (length one + here.0, here.1 ∙ ap Some (append_assoc taken one (take here.0 two) ∙ ap (λ xs. taken ++ xs) (sym (take-append-add one two here.0))))

grew_in_none : (bytes : List ℕ) (before after : Held) → after ≡ before → GrewInPart bytes before after
grew_in_none bytes None after same = tt
grew_in_none bytes (Some taken) after same = (0, same ∙ ap Some (sym (append-nil taken)))

-- ---- with the count of faults

why_since : (ending : Ending) (before mid after : SinkSeen) → before.faults ≤ mid.faults → IsWhy ending mid after → IsWhy ending before after
why_since OutputFailed before mid after count why = omega (arith, count, why)
why_since NoMemory before mid after count why = omega (arith, count, why)

pub none_put : (before : SinkSeen) → PutsAll [] before before
none_put before = record { takes = grew_not before.taken; count = omega arith }

-- the second part goes on where the first ended
pub puts_then : {A : Type 0} (one two : List ℕ) (before mid after : SinkSeen) (r : Result A Ending) → PutsAll one before mid → Puts two mid r after → Puts (one ++ two) before r after
puts_then one two before mid after (Ok x) first second = record {
  takes = grew_then one two before.taken mid.taken after.taken first.takes second.takes;
  count = let c = first.count in let d = second.count in omega arith;
}
puts_then one two before mid after (Err ending) first second = record {
  takes = grew_in_second one two before.taken mid.taken after.taken first.takes second.takes;
  why = why_since ending before mid after first.count second.why;
}

-- it stops within the first part
pub stops_within : (ending : Ending) (one two : List ℕ) (before after : SinkSeen) → PutsInPart ending one before after → PutsInPart ending (one ++ two) before after
stops_within ending one two before after part = record { takes = grew_in_first one two before.taken after.taken part.takes; why = part.why }

-- it stops before any of it
pub stops_before : (bytes : List ℕ) (before : SinkSeen) → PutsInPart NoMemory bytes before before
stops_before bytes before = record { takes = grew_in_none bytes before.taken before.taken refl; why = omega arith }
