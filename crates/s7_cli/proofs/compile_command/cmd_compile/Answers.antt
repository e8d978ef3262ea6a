use Rattle.s7_cli.proofs.compile_command.cmd_compile.Goals as goal

pub returns-clause-table : goal.returns-clause-table
returns-clause-table g c = c.end_command.ensures.table _ _ _ c.compile-came.ensures
