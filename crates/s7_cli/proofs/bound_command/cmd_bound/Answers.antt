use Rattle.s7_cli.proofs.bound_command.cmd_bound.Goals as goal

pub returns-clause-table : goal.returns-clause-table
returns-clause-table g c = c.end_command.ensures.table _ _ _ c.bound-came.ensures
