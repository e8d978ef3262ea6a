use Rattle.stl_symbols.proofs.FieldLemmas.{record-ends}
use Rattle.stl_symbols.proofs.fields.FieldReader.take.Goals as goal

pub returns-in-EndsRecord : goal.returns-in-EndsRecord
returns-in-EndsRecord c = λ fields rest. record-ends _ fields _ _ rest c.in-EndsRecord.ensures
