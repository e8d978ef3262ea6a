use Rattle.flat_code.proofs.CodeLemmas.{operation_again, jump_again, flag_again}
use Rattle.flat_code.proofs.TableLemmas.{codes_have_their_operations}
use Rattle.flat_code.proofs.laws.one_number_each.Goals as goal

pub returns : goal.returns
returns c = record { operations = operation_again; codes = codes_have_their_operations; jumps = jump_again; conditions = flag_again }
