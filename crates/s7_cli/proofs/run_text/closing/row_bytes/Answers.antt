use Rattle.s7_cli.proofs.run.ListLemmas.{front-of}
use Rattle.s7_cli.proofs.run_text.closing.row_bytes.Goals as goal

pub returns-clause-value : goal.returns-clause-value
returns-clause-value c = front-of c.args.bytes.now c.args.at c.min.result c.min.ensures
