use Rattle.s7_cli.proofs.translate_command.cmd_translate.Goals as goal

pub returns-clause-table : goal.returns-clause-table
returns-clause-table g c = c.end_command.ensures.table _ _ _ c.translate-came.ensures
