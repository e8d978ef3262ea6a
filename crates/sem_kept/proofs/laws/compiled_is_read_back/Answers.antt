use Rattle.sem_kept.proofs.compiled.Reading.{is_read_back}
use Rattle.sem_kept.proofs.laws.compiled_is_read_back.Goals as goal

-- src/laws.rt:9:1
pub returns : goal.returns
returns c b statements compiled code lines =
    is_read_back b statements c.one_number_each.ensures.operations c.one_number_each.ensures.jumps compiled code lines
