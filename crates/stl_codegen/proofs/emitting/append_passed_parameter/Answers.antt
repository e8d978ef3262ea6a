use Rattle.std.proofs.Common.{false}
use Rattle.flat_code.specs.declared.operations.Operation.TheVariants as operation
use Rattle.stl_codegen.proofs.OpLemmas.{far_passed, no_operand}
use Rattle.stl_codegen.proofs.emitting.append_passed_parameter.Goals as goal

pub returns-in_default : goal.returns-in_default
returns-in_default c = no_operand operation.Pass false _ (far_passed c.args.index c.args.own c.args.width c.in_default.ensures.large)
