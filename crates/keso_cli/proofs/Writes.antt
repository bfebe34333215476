-- Several texts, written one after another.
use Rattle.std.specs.Prelude.{⊤}
use Rattle.std.proofs.Common.{◌≡◌, Result, Ok, Err, IfErr, ◌≤◌, List, [], ◌∷◌, Option, Some, None, IfSome, IsSomeAnd, refl, sym, ap, subst, arith, string_bytes}
use Rattle.std.specs.FinMap.{insert}
use Rattle.kes_outside.specs.Contents.{Contents, OthersStay}
use Rattle.keso_cli.specs.declared.trouble.Trouble.{Trouble}
use Rattle.keso_cli.specs.declared.trouble.Trouble.TheVariants.{Usage, CannotRead, Refused, CannotWrite, CannotWriteOutput, NoMemory}
use Rattle.keso_cli.specs.Texts.{Text, written}
use Rattle.keso_cli.specs.Left.{Writes, Written}
use Rattle.keso_cli.specs.Seen.{FilesSeen}
use Rattle.keso_cli.specs.Stops.{WriteStops, WritesStop}

-- what holds of the files after a text, told or not
after_text : (P : Contents → Type 0) (b m : Option Contents) (text : Text) → IfSome b (λ files. m ≡ Some (insert files text.name text.bytes)) → IfSome m P → IfSome b (λ files. P (insert files text.name text.bytes))
after_text P None m text w h = tt
after_text P (Some files) m text w h = subst (λ o. IfSome o P) w h

pub none_written : (files : FilesSeen) → (after : FilesSeen) → after.contents ≡ files.contents → Written [] files after
none_written before after same = none before.contents after.contents same where
  none : (b a : Option Contents) → a ≡ b → IfSome b (λ files. a ≡ Some files)
  none None a e = tt
  none (Some files) a e = e

pub written_then : (text : Text) (rest : List Text) (before mid after : FilesSeen) → Writes text before mid → Written rest mid after → Written (text ∷ rest) before after
written_then text rest before mid after first more = after_text (λ files. after.contents ≡ Some (written rest files)) before.contents mid.contents text first more

-- The first text isn't written.
pub first_stops : (text : Text) (rest : List Text) (trouble : Trouble) (before after : FilesSeen) → WriteStops trouble text before after → WritesStop trouble (text ∷ rest) before after
first_stops text rest (CannotWrite name) before after h =
    record { whole = []; failed = text; later = rest; parts = refl; name_is = sym h.0; stands = subst (λ n. IfSome before.contents (λ files. IsSomeAnd after.contents (OthersStay n files))) (sym h.0) h.2; counted = h.1 }
first_stops text rest NoMemory before after h =
    record { whole = []; later = text ∷ rest; parts = refl; stands = none_written before after h }
first_stops text rest Usage before after h = absurd h
first_stops text rest (CannotRead name) before after h = absurd h
first_stops text rest (Refused refusal name) before after h = absurd h
first_stops text rest CannotWriteOutput before after h = absurd h

-- The first text is written, and a later one isn't.
pub later_stops : (text : Text) (rest : List Text) (trouble : Trouble) (before mid after : FilesSeen) → Writes text before mid → before.faults ≤ mid.faults → WritesStop trouble rest mid after → WritesStop trouble (text ∷ rest) before after
later_stops text rest (CannotWrite name) before mid after first count h =
    record {
      whole = text ∷ h.whole;
      failed = h.failed;
      later = h.later;
      parts = ap (λ texts. text ∷ texts) h.parts;
      name_is = h.name_is;
      stands = after_text (λ files. IsSomeAnd after.contents (OthersStay (string_bytes name) (written h.whole files))) before.contents mid.contents text first h.stands;
      counted = let c = h.counted in omega arith;
    }
later_stops text rest NoMemory before mid after first count h =
    record {
      whole = text ∷ h.whole;
      later = h.later;
      parts = ap (λ texts. text ∷ texts) h.parts;
      stands = written_then text h.whole before mid after first h.stands;
    }
later_stops text rest Usage before mid after first count h = absurd h
later_stops text rest (CannotRead name) before mid after first count h = absurd h
later_stops text rest (Refused refusal name) before mid after first count h = absurd h
later_stops text rest CannotWriteOutput before mid after first count h = absurd h

-- The same where the last step's answer is handed on.
pub last_stops : (text : Text) (r : Result ⊤ Trouble) (before after : FilesSeen) → IfErr r (λ trouble. WriteStops trouble text before after) → IfErr r (λ trouble. WritesStop trouble (text ∷ []) before after)
last_stops text (Ok _) before after h = tt
last_stops text (Err trouble) before after h = first_stops text [] trouble before after h

pub all_stop_later : (text : Text) (rest : List Text) (r : Result ⊤ Trouble) (before mid after : FilesSeen) → Writes text before mid → before.faults ≤ mid.faults → IfErr r (λ trouble. WritesStop trouble rest mid after) → IfErr r (λ trouble. WritesStop trouble (text ∷ rest) before after)
all_stop_later text rest (Ok _) before mid after first count h = tt
all_stop_later text rest (Err trouble) before mid after first count h = later_stops text rest trouble before mid after first count h
