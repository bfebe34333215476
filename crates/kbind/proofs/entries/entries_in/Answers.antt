use Rattle.std.proofs.Common.{ap, ◌∙◌}
use Rattle.kbind.specs.Entries.{is_entry_of}
use Rattle.kbind.specs.Named.{seen_from}
use Rattle.kbind.proofs.Seeing.{no_entries, entries_of}
use Rattle.kbind.proofs.entries.entries_in.Goals as goal

pub returns-in_default : goal.returns-in_default
returns-in_default c = λ name. rw c.new.ensures (no_entries c.args.world.now name c.args.class.n c.in_default.ensures.file)

pub returns : goal.returns
returns c = λ name.
    c.in_ok-names.ensures name ∙ ap (seen_from (is_entry_of name) 0) c.methods.ensures ∙ entries_of c.args.world.now name c.args.class.n c.in-Some.file.now c.in-Some.ensures.file
