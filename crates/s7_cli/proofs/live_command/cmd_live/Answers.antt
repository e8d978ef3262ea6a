use Rattle.s7_cli.proofs.live_command.cmd_live.Goals as goal

pub returns-clause-table : goal.returns-clause-table
returns-clause-table g c = c.end_command.ensures.table _ _ _ c.live-came.ensures
