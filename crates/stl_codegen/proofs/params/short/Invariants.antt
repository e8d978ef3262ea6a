use Rattle.std.proofs.Common.{◌≡◌, take}
use Rattle.stl_codegen.proofs.params.short.Given as goal

abbrev pub invariant-loop-param : goal.invariant-loop-param
invariant-loop-param l = l.short.items ≡ take l.param-index l.params
