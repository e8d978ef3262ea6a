use Rattle.s7_cli.proofs.gen_command.cmd_gen.Goals as goal

pub returns-clause-ends : goal.returns-clause-ends
returns-clause-ends g c = λ files. c.end_command.ensures.ends _ _ _ (c.generate-came.ensures files)

pub returns-clause-table : goal.returns-clause-table
returns-clause-table g c = λ files. c.end_command.ensures.table _ _ _ (c.generate-came.ensures files)
