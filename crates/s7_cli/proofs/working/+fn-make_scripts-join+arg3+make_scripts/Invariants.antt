use Rattle.std.proofs.Common.{◌+◌, ◌*◌, length}
use Rattle.s7_cli.proofs.working.+fn-make_scripts-join+arg3+make_scripts.Given as goal

abbrev pub decreases-join+arg3 : goal.decreases-join+arg3
decreases-join+arg3 g l = 2 * length l.others.now + 1

abbrev pub decreases-make_scripts : goal.decreases-make_scripts
decreases-make_scripts g l = 2 * length l.scripts.now
