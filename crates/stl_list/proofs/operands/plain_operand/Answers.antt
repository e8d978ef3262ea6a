use Rattle.std.proofs.Common.{◌≡◌, ◌∙◌, ap, subst, sym}
use Rattle.flat_code.specs.Operations.{operation_of}
use Rattle.flat_code.specs.Ops.{OpData}
use Rattle.flat_code.specs.declared.operands.Operand.{Operand}
use Rattle.stl_list.specs.Operands.{condition_operand, plain_operand}
use Rattle.stl_list.proofs.OperandLemmas.{plain_else}
use Rattle.stl_list.proofs.operands.plain_operand.Goals as goal

pub returns-in_default : goal.returns-in_default
returns-in_default c =
    let code = operation_of c.args.op.now.code in
    c.condition_operand.ensures
    ∙ sym (subst (λ (x : Operand). plain_operand c.args.opened code x ≡ condition_operand x) (ap (λ (d : OpData). d.operand) c.op.view_is)
    (plain_else c.args.opened code c.op.inside.operand c.in_default.not-Direct c.in_default.not-ByMemory c.in_default.not-ByRegister c.in_default.not-Numbered c.in_default.not-NumberedBy c.in_default.not-Called c.in_default.not-OpenBlock c.in_default.not-OpenBy))
