use Rattle.std.proofs.Common.{subst}
use Rattle.s7_cli.specs.Words.{KeepsLimits, command_value}
use Rattle.s7_cli.proofs.program.with_image.Goals as goal

pub cmd_list-requires : goal.cmd_list-requires
cmd_list-requires g c = subst (λ a. KeepsLimits (command_value a)) c.in-ListImage.is c.requires.limits
