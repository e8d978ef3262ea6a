use Rattle.s7_cli.proofs.run_command.cmd_run.Goals as goal

pub returns-clause-table : goal.returns-clause-table
returns-clause-table g c = c.end_command.ensures.table _ _ _ c.run-came.ensures
