use Rattle.std.proofs.Common.{refl}
use Rattle.plc_io.proofs.FileLemmas.{sure_Agrees-with_file, sure_contents_of-with_file}
use Rattle.plc_io.proofs.sure.SureFilesFiles.write_whole.Goals as goal

pub returns-clause-leaves : goal.returns-clause-leaves
returns-clause-leaves c = record {
  contents = sure_Agrees-with_file _ _ _ _ c.in_ok-put.ensures.ok;
  elsewhere = sure_contents_of-with_file _ _ _ _ c.in_ok-put.ensures.ok;
  writes = λ name. refl;
  reads = λ name. refl;
}
