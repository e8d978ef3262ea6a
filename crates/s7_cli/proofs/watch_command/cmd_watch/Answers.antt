use Rattle.s7_cli.proofs.watch_command.cmd_watch.Goals as goal

pub returns-clause-table : goal.returns-clause-table
returns-clause-table g c = c.end_command.ensures.table _ _ _ c.watch-came.ensures
