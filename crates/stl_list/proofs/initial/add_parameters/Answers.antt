use Rattle.std.proofs.Common.{◌≤◌, length, arith}
use Rattle.std.specs.Prelude.{min}
use Rattle.stl_codegen.proofs.AppendLemmas.{between_end}
use Rattle.stl_list.proofs.InitialLemmas.{settings_end}
use Rattle.stl_list.proofs.initial.add_parameters.Goals as goal

pub returns : goal.returns
returns c =
    let over : min (length c.args.formals.now) (length c.args.params.now) ≤ c.loop-place.place = omega (arith, c.min-place-end.ensures) in
    between_end c.args.settings.now.items c.loop-place.settings.items _ _ c.loop-place.invariant
    (settings_end c.args.line c.args.bytes.now c.args.formals.now c.args.params.now c.loop-place.place over)
