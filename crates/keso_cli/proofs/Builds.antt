-- What a build has read, made and written, where it stops.
use Rattle.std.proofs.Common.{◌≡◌, ℕ, ◌≤◌, List, [], ◌∷◌, ◌++◌, Option, Some, None, IfSome, IsSomeAnd, map, take, refl, sym, ap, subst, ◌∙◌, inl, inr, ⊎_elim, arith, append-nil, string_bytes}
use Rattle.std.specs.FinMap.{get}
use Rattle.std.proofs.lemmas.List.Elements.{Contains-append_right}
use Rattle.kes_outside.specs.Contents.{Contents, OthersStay}
use Rattle.csubset.specs.Text.Program.{program_text}
use Rattle.oil_out.specs.OilText.{oil_text}
use Rattle.first_form.specs.declared.built.Built.{Built}
use Rattle.keso_cli.specs.declared.compile.Texts.{Texts}
use Rattle.keso_cli.specs.declared.trouble.Trouble.{Trouble}
use Rattle.keso_cli.specs.declared.trouble.Trouble.TheVariants.{Usage, CannotRead, Refused, CannotWrite, CannotWriteOutput, NoMemory}
use Rattle.keso_cli.specs.BuildEnds.{BuildStops, InputSays, IsBuiltFrom, Untouched}
use Rattle.keso_cli.specs.Refusals.{IsAccepted, refusal_of}
use Rattle.first_form.specs.Counts.{first_summary}
use Rattle.keso_cli.specs.Due.{due, AreTextsOf}
use Rattle.first_form.specs.Fits.{first_form}
use Rattle.first_form.specs.Program.{built_of}
use Rattle.first_form.specs.declared.config.FirstConfig.{FirstConfig}
use Rattle.first_form.specs.declared.first_class.FirstClass.{FirstClass}
use Rattle.keso_cli.specs.Left.{Written}
use Rattle.replay.specs.Seen.{SinkSeen, TakesPrefix}
use Rattle.keso_cli.specs.Seen.{FilesSeen}
use Rattle.keso_cli.specs.Stops.{CompileStops, ReadsStop, WritesStop, PutStops}
use Rattle.keso_cli.specs.Summary.{summary_text}
use Rattle.first_form.specs.Headline.{Headline}
use Rattle.first_form.proofs.Headline.All.{headline}
use Rattle.first_form.proofs.Headline.Inversion.{none_is_some}
use Rattle.keso_cli.specs.Texts.{Text, named, texts_of, written}

-- the texts that the code has are those of what was built
pub due-is : (base : List ℕ) (built : Built) (texts : Texts) → AreTextsOf built texts → due base texts ≡ texts_of base built
unfolding texts_of
due-is base built texts are =
    let programs = ap (λ c. named base c texts.oil.items texts.map.items) are.c in
    let tables = ap (λ oil. named base (program_text built.program) oil texts.map.items) are.oil in
    programs ∙ tables ∙ ap (named base (program_text built.program) (oil_text built.tables)) are.map

-- The configuration and the classes were read.
pub record InputIs (config : List ℕ) (classes : List (List ℕ)) (text : List ℕ) (bytes : List (List ℕ)) (files : FilesSeen) : Type 0 where
  pub config_read : IfSome files.contents (λ held. get held config ≡ Some text)
  pub classes_read : IfSome files.contents (λ held. map (get held) classes ≡ map Some bytes)

pub input_says : (says : List ℕ → List (List ℕ) → Type 0) (config : List ℕ) (classes : List (List ℕ)) (text : List ℕ) (bytes : List (List ℕ)) (files : FilesSeen)
    → InputIs config classes text bytes files → says text bytes → InputSays says config classes files
input_says says config classes text bytes files input form =
    (text, bytes, form, by_contents files.contents input.config_read input.classes_read) where
      by_contents : (held : Option Contents) → IfSome held (λ files. get files config ≡ Some text) → IfSome held (λ files. map (get files) classes ≡ map Some bytes)
          → IfSome held (λ files. (get files config ≡ Some text) × (map (get files) classes ≡ map Some bytes))
      by_contents None c k = tt
      by_contents (Some held) c k = (c, k)

-- an input of the first form has one class
headline_of : (first : FirstConfig) (second : FirstClass) (text : List ℕ) (bytes : List (List ℕ)) → first_form text bytes ≡ Some (first, second) → Headline (built_of first second) first second
headline_of first second text [] form = absurd (none_is_some (first, second) form)
headline_of first second text (one ∷ []) form = headline first second text one form
headline_of first second text (one ∷ next ∷ more) form = absurd (none_is_some (first, second) form)

-- what was compiled is what is written for the input
pub built_from : (first : FirstConfig) (second : FirstClass) (config : List ℕ) (classes : List (List ℕ)) (text : List ℕ) (bytes : List (List ℕ)) (files : FilesSeen)
    → InputIs config classes text bytes files → IsAccepted text bytes first second → IsBuiltFrom (built_of first second) config classes files
built_from first second config classes text bytes files input form =
    record {
      first = first;
      second = second;
      said = input_says (λ t b. IsAccepted t b first second) config classes text bytes files input form;
      made = refl;
      headline = headline_of first second text bytes form.of_form;
    }

pub compile_stops : (trouble : Trouble) (config : List ℕ) (classes : List (List ℕ)) (base text : List ℕ) (bytes : List (List ℕ)) (files files' : FilesSeen) (out out' : SinkSeen)
    → InputIs config classes text bytes files
    → Untouched files files' out out' → CompileStops trouble config classes text bytes → BuildStops trouble config classes base files files' out out'
compile_stops (Refused refusal name) config classes base text bytes files files' out out' input same h =
    (h.0, input_says (λ t b. refusal_of t b ≡ Some refusal) config classes text bytes files input h.1, same)
compile_stops NoMemory config classes base text bytes files files' out out' input same h = inl same
compile_stops Usage config classes base text bytes files files' out out' input same h = absurd h
compile_stops (CannotRead name) config classes base text bytes files files' out out' input same h = absurd h
compile_stops (CannotWrite name) config classes base text bytes files files' out out' input same h = absurd h
compile_stops CannotWriteOutput config classes base text bytes files files' out out' input same h = absurd h

pub reads_stop : (trouble : Trouble) (config base : List ℕ) (classes : List (List ℕ)) (before mid after : FilesSeen) (out : SinkSeen)
    → mid.contents ≡ before.contents → before.faults ≤ mid.faults → after.contents ≡ mid.contents
    → ReadsStop trouble classes mid after → BuildStops trouble config classes base before after out out
reads_stop (CannotRead name) config base classes before mid after out same count stays h = (
  Contains-append_right (config ∷ []) classes name.now h.0,
  ⊎_elim (λ rose. inl (omega (rose, count, arith))) (λ missing. inr (subst (λ o. IsSomeAnd o (λ files. get files name.now ≡ None)) same missing)) h.1,
  record { files_stay = stays ∙ same; out_stays = refl },
)
reads_stop NoMemory config base classes before mid after out same count stays h = inl (record { files_stay = stays ∙ same; out_stays = refl })
reads_stop Usage config base classes before mid after out same count stays h = absurd h
reads_stop (Refused refusal name) config base classes before mid after out same count stays h = absurd h
reads_stop (CannotWrite name) config base classes before mid after out same count stays h = absurd h
reads_stop CannotWriteOutput config base classes before mid after out same count stays h = absurd h

-- what was written since the input was read was written since the call began
pub written_since : (texts : List Text) (before mid after : FilesSeen) → mid.contents ≡ before.contents → Written texts mid after → Written texts before after
written_since texts before mid after same h = subst (λ o. IfSome o (λ files. after.contents ≡ Some (written texts files))) same h

pub writes_stop : (trouble : Trouble) (config base : List ℕ) (classes : List (List ℕ)) (built : Built) (before mid after : FilesSeen) (out : SinkSeen)
    → IsBuiltFrom built config classes before → mid.contents ≡ before.contents → before.faults ≤ mid.faults
    → WritesStop trouble (texts_of base built) mid after → BuildStops trouble config classes base before after out out
writes_stop (CannotWrite name) config base classes built before mid after out from same count h = (
  built,
  from,
  record {
    whole = h.whole;
    failed = h.failed;
    later = h.later;
    parts = h.parts;
    name_is = h.name_is;
    stands = subst (λ o. IfSome o (λ files. IsSomeAnd after.contents (OthersStay (string_bytes name) (written h.whole files)))) same h.stands;
    counted = let c = h.counted in omega arith;
  },
  refl,
)
writes_stop NoMemory config base classes built before mid after out from same count h =
    inr (built, from, inl (record { whole = h.whole; later = h.later; parts = h.parts; stands = written_since h.whole before mid after same h.stands }, refl))
writes_stop Usage config base classes built before mid after out from same count h = absurd h
writes_stop (CannotRead name) config base classes built before mid after out from same count h = absurd h
writes_stop (Refused refusal name) config base classes built before mid after out from same count h = absurd h
writes_stop CannotWriteOutput config base classes built before mid after out from same count h = absurd h

-- a sink that took nothing took the first bytes of anything
none_taken : (bytes : List ℕ) (before after : SinkSeen) → after.taken ≡ before.taken → TakesPrefix bytes before after
none_taken bytes before after same = by_taken before.taken same where
  by_taken : (held : Option (List ℕ)) → after.taken ≡ held → IfSome held (λ taken. (n : ℕ) × (after.taken ≡ Some (taken ++ take n bytes)))
  by_taken None e = tt
  by_taken (Some taken) e = (0, e ∙ ap Some (sym (append-nil taken)))

pub put_stops : (trouble : Trouble) (config base : List ℕ) (classes : List (List ℕ)) (built : Built) (files files' : FilesSeen) (out out' : SinkSeen)
    → IsBuiltFrom built config classes files → Written (texts_of base built) files files'
    → PutStops trouble (summary_text first_summary) out out' → BuildStops trouble config classes base files files' out out'
put_stops CannotWriteOutput config base classes built files files' out out' from stands h = (built, from, stands, h.0, h.1)
put_stops NoMemory config base classes built files files' out out' from stands h =
    inr (built, from, inr (stands, none_taken (summary_text first_summary) out out' h))
put_stops Usage config base classes built files files' out out' from stands h = absurd h
put_stops (CannotRead name) config base classes built files files' out out' from stands h = absurd h
put_stops (Refused refusal name) config base classes built files files' out out' from stands h = absurd h
put_stops (CannotWrite name) config base classes built files files' out out' from stands h = absurd h
