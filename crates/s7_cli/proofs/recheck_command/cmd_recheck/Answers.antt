use Rattle.s7_cli.proofs.recheck_command.cmd_recheck.Goals as goal

pub returns-clause-table : goal.returns-clause-table
returns-clause-table g c = c.end_command.ensures.table _ _ _ c.recheck-came.ensures
