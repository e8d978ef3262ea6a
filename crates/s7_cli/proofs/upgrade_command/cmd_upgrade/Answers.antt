use Rattle.s7_cli.proofs.upgrade_command.cmd_upgrade.Goals as goal

pub returns-clause-table : goal.returns-clause-table
returns-clause-table g c = c.end_command.ensures.table _ _ _ c.upgrade-came.ensures
