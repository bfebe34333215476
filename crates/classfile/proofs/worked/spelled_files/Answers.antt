use Rattle.std.proofs.Common.{◌≡◌, ℕ, ◌+◌, List, [], length, take, drop, Ok, take-append-drop, refl, sym, ◌∙◌, inr, arith}
use Rattle.jnames.specs.Descriptors.{parameters_at, method_slots, signature_of}
use Rattle.kes_text.specs.declared.refusal.Kind.{Kind}
use Rattle.kes_text.specs.declared.refusal.Kind.TheVariants as kind
use Rattle.classfile.specs.Scan.{repeat, refused}
use Rattle.classfile.specs.Entries.{entry_at}
use Rattle.classfile.specs.Codes.{code_at}
use Rattle.classfile.specs.Members.{field_at, method_at}
use Rattle.classfile.specs.Faults.{first_fault}
use Rattle.classfile.specs.Reading.{body_at, structure_at}
use Rattle.std.specs.List.{IsDistinct}
use Rattle.classfile.specs.Spelled.Pieces.{Piece, Then}
use Rattle.classfile.specs.Worked.Files.{HasFault}
use Rattle.classfile.specs.Worked.Spellings.{SpellNone}
use Rattle.classfile.proofs.Spelling.ClassFiles.{accepted, spelled}
use Rattle.classfile.proofs.worked.spelled_files.Goals as goal

-- the first n bytes are the one piece, and those behind them the other
split : {P Q : Piece} {at : ℕ} {bytes : List ℕ} (n : ℕ) → P at (take n bytes) → Q (at + length (take n bytes)) (drop n bytes) → Then P Q at bytes
split {P} {Q} {at} {bytes} n p q = record { front = take n bytes; back = drop n bytes; whole = sym (take-append-drop n bytes); first = p; second = q }

no_ok : {bytes : List ℕ} (found : Kind) (at : ℕ) → HasFault bytes found at → SpellNone bytes
no_ok {bytes} found at fault class h = absurd (let e : Ok class ≡ refused found at = sym (spelled bytes class h) ∙ fault in cc)

pub returns-clause-smallest : goal.returns-clause-smallest
unfolding IsDistinct
returns-clause-smallest c = record {
  this = 2;
  super = 4;
  attributes = [];
  items = split 8 (split 4 (refl, refl) (split 2 refl (refl, refl))) (split 16 (
    5,
    refl,
    (refl, (refl, (refl, (refl, tt)))),
    split 2 (refl, refl)
        (split 4 (split 1 (refl, refl) (split 2 (refl, refl) refl)) (split 3 (split 1 (refl, refl) ((refl, refl), refl)) (split 4 (split 1 (refl, refl) (split 2 (refl, refl) refl)) (split 3 (split 1 (refl, refl) ((refl, refl), refl)) refl)))),
  )
      (split 2 (refl, refl) (split 2 ((refl, refl), refl) (split 2 (refl, (refl, refl), inr ((refl, refl), refl))
      (split 2 (split 2 (refl, refl) refl) (split 2 (split 2 (refl, refl) refl) (split 2 (split 2 (refl, refl) refl) (split 2 (refl, refl) refl))))))));
  first = omega arith;
  last = omega arith;
  called = refl;
  above = refl;
  fields = tt;
  methods = tt;
}

pub returns-clause-wide : goal.returns-clause-wide
unfolding entry_at code_at field_at method_at body_at structure_at first_fault repeat parameters_at method_slots signature_of
returns-clause-wide c = accepted _ _ refl

pub returns-clause-faults : goal.returns-clause-faults
unfolding entry_at code_at field_at method_at body_at structure_at first_fault repeat parameters_at method_slots signature_of
returns-clause-faults c = (no_ok kind.Trailing 38 refl, no_ok kind.PoolIndex 28 refl, no_ok kind.CodeCount 69 refl, no_ok kind.TwoMembers 80 refl)
