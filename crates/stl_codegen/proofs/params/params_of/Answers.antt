use Rattle.std.proofs.Common.{◌≡◌, ◌≤◌, List, length, subst, ◌∙◌}
use Rattle.std.specs.Prelude.{IfSome}
use Rattle.flat_code.specs.declared.programs.Param.{Param}
use Rattle.stl_codegen.specs.GeneratedProgram.{params_of}
use Rattle.stl_codegen.proofs.AppendLemmas.{if_none, none_from}
use Rattle.stl_codegen.proofs.ParamLemmas.{far_misfits, many_misfit, params_are}
use Rattle.stl_codegen.proofs.params.params_of.Goals as goal

pub returns-in_default-clause-none : goal.returns-in_default-clause-none
returns-in_default-clause-none c =
    far_misfits c.args.block.now c.args.layout.now c.is_function_block-in_instance.result c.is_function_block-in_instance.ensures
    (if_none _ c.in_ok-params.field-0 c.in_default.is c.in_ok-params.ensures.none)

pub returns-clause-value : goal.returns-clause-value
returns-clause-value c =
    let found = rw c.in-Some.is at c.in_ok-params.ensures.value in
    let are : c.as_slice.result.now ≡ params_of c.args.block.now c.args.layout.now =
    params_are c.args.block.now c.args.layout.now c.is_function_block-in_instance.result c.in-Some.params.items c.as_slice.result.now c.is_function_block-in_instance.ensures found
    (c.as_slice.ensures.value ∙ c.in_order-params.ensures) in
    subst (λ (z : List Param). IfSome c.short.result (λ p. p.items ≡ z)) are c.short.ensures.value

pub returns-clause-none : goal.returns-clause-none
returns-clause-none c =
    let found = rw c.in-Some.is at c.in_ok-params.ensures.value in
    let are : c.as_slice.result.now ≡ params_of c.args.block.now c.args.layout.now =
    params_are c.args.block.now c.args.layout.now c.is_function_block-in_instance.result c.in-Some.params.items c.as_slice.result.now c.is_function_block-in_instance.ensures found
    (c.as_slice.ensures.value ∙ c.in_order-params.ensures) in
    none_from (61 ≤ length c.as_slice.result.now) _ c.short.result (λ long. many_misfit c.args.block.now c.args.layout.now c.as_slice.result.now are long) c.short.ensures.long
