use Rattle.std.proofs.Common.{◌∙◌, ap, sym}
use Rattle.flat_code.specs.Codes.{code_fault}
use Rattle.flat_code.specs.Image.{record_of_block}
use Rattle.flat_code.specs.Programs.{CodeBlock}
use Rattle.image_file.specs.OpChecking.{environment_of}
use Rattle.image_file.proofs.ProgramFaultLemmas.{fault_five_alone}
use Rattle.image_file.proofs.program_faults.check_code_block.Goals as goal

pub returns-in-Some : goal.returns-in-Some
returns-in-Some c = fault_five_alone c.in-Some.at (environment_of c.args.environment.now) (record_of_block c.args.block.now) (ap code_fault (sym (c.as_slice-code.ensures.value ∙ ap (λ (b : CodeBlock). b.code) c.block.view_is)) ∙ sym c.in-Some.ensures)
