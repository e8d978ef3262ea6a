use Rattle.std.proofs.Common.{ap, refl}
use Rattle.plc_io.specs.declared.calls.Calls.{Calls}
use Rattle.plc_io.proofs.FileLemmas.{Agrees-with_file, contents_of-with_file}
use Rattle.plc_io.proofs.memory.MemFilesFiles.write_whole.Goals as goal

pub returns-clause-leaves : goal.returns-clause-leaves
returns-clause-leaves c = record {
  contents = Agrees-with_file _ _ _ _ c.in_ok-put.ensures.ok;
  elsewhere = contents_of-with_file _ _ _ _ c.in_ok-put.ensures.ok;
  writes = λ name. ap (λ (calls : Calls). calls.failed) c.pass.ensures;
  reads = λ name. refl;
}
