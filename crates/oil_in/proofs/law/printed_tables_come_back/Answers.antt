use Rattle.oil_in.proofs.ReadOfAll.{comes-back}
use Rattle.oil_in.proofs.law.printed_tables_come_back.Goals as goal

pub returns : goal.returns
returns c = comes-back
