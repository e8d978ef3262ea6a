use Rattle.std.proofs.Common.{◌∙◌}
use Rattle.image_file.proofs.RefusalLemmas.{given_back}
use Rattle.image_file.proofs.loading.load_stamped.Goals as goal

pub returns : goal.returns
returns c =
    given_back c.args.stamp c.args.program.now c.as_slice-bytes.result.now c.load.result c.law_of_bytes.ensures c.law_of_program.ensures (c.as_slice-bytes.ensures.value ∙ c.in_ok-image.ensures)
    c.load.ensures.gives c.load.ensures.refused
