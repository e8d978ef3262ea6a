use Rattle.stl_codegen.specs.EmittedOps.{pass_ops}
use Rattle.stl_codegen.specs.PassedParameters.{passings_from}
use Rattle.std.proofs.Common.{drop}
use Rattle.stl_codegen.proofs.AppendLemmas.{Between}
use Rattle.stl_codegen.proofs.passings.append_passings.Given as goal

abbrev pub invariant-loop-index : goal.invariant-loop-index
invariant-loop-index l =
    Between l.fn.ops.items l.ops.items (pass_ops (passings_from l.context l.actuals l.index (drop l.index l.formals)))
    (pass_ops (passings_from l.context l.actuals 0 l.formals))
