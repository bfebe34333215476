use Rattle.std.proofs.Common.{sym, ap, ◌∙◌, option_map}
use Rattle.jworld.specs.Classes.{World, is_interface}
use Rattle.jworld.specs.Members.{method_id}
use Rattle.kbind.specs.declared.named.Seen.{Seen}
use Rattle.kbind.proofs.Seeing.{entry_found, no_entry}
use Rattle.kbind.proofs.entries.entry_in.Goals as goal

pub returns-then-is_interface : goal.returns-then-is_interface
returns-then-is_interface c =
    let interface = sym (ap (λ (files : World). is_interface files c.args.class.n) c.world.ensures) ∙ sym c.is_interface.ensures ∙ c.if-is_interface.true in
    no_entry c.args.classes.now c.args.name.now c.args.class.n interface

pub returns : goal.returns
returns c =
    let no_interface = sym (ap (λ (files : World). is_interface files c.args.class.n) c.world.ensures) ∙ sym c.is_interface.ensures ∙ c.if-is_interface.false in
    c.method_seen.ensures ∙ ap (option_map (λ (s : Seen). method_id c.args.class.n s.place)) c.entry.ensures ∙ entry_found c.args.classes.now c.args.name.now c.args.class.n no_interface
