use Rattle.std.proofs.Common.{◌≡◌, ◌<◌, [], length, get_or, ap, arith}
use Rattle.stl_codegen.specs.Fitting.{ParamFits}
use Rattle.stl_codegen.specs.GeneratedProgram.{param_here}
use Rattle.stl_codegen.proofs.AppendLemmas.{added_none, between_misfit, flat_turn, item_is}
use Rattle.stl_codegen.proofs.params.declared_params.Goals as goal

pub returns-in_default-clause-none : goal.returns-in_default-clause-none
returns-in_default-clause-none c =
    let cell = c.cell-item.result in
    let here = param_here c.args.in_instance c.args.components.now cell in
    let same = ap length c.cells-cell-items.ensures in
    let within : c.loop-cell.cell-index < length c.args.components.now = omega (arith, same) in
    let is : cell ≡ get_or c.args.components.now c.loop-cell.cell-index cell = item_is _ _ _ _ c.cells-cell-items.ensures c.cell-item.is in
    between_misfit ParamFits [] c.loop-cell.params.items _ here _ _ c.loop-cell.invariant
    (flat_turn (λ k. param_here c.args.in_instance c.args.components.now k) c.args.components.now c.loop-cell.cell-index cell within is)
    (added_none ParamFits c.loop-cell.params.items c.add_param.new.params.items here c.in_ok-add_param.field-0 c.in_default.is c.in_ok-add_param.ensures)
