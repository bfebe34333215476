use Rattle.jnames.proofs.DescriptorSpellings.{reads, fields, slots_spelled}
use Rattle.jnames.proofs.OneSpelling.{unique}
use Rattle.jnames.proofs.law.descriptors_read_what_is_spelled.Goals as goal

pub returns : goal.returns
returns c = record { read = reads; fields = fields; slots = slots_spelled; unique = unique }
