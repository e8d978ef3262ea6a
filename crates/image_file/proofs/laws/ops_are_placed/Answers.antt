use Rattle.std.proofs.Common.{[]}
use Rattle.image_file.proofs.VerifiedLemmas.{read_at}
use Rattle.image_file.proofs.laws.ops_are_placed.Goals as goal

pub returns : goal.returns
returns c = λ ops at op next e. let r = read_at 0 [] [] [] ops at op next e in record { here = r.0; place = r.1; offset = r.2; op_is = r.3; next_is = r.4 }
