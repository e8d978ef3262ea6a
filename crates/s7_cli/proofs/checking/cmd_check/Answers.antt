use Rattle.s7_cli.proofs.checking.cmd_check.Goals as goal

pub returns-clause-table : goal.returns-clause-table
returns-clause-table g c = c.end_command.ensures.table _ _ _ c.check-came.ensures
