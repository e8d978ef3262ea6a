use Rattle.s7_cli.proofs.list_command.cmd_list.Goals as goal

pub returns-clause-table : goal.returns-clause-table
returns-clause-table g c = c.end_command.ensures.table _ _ _ c.list-came.ensures
