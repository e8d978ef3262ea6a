-- The operation of an instruction in the code, by the instruction of the source.
use Rattle.std.specs.Prelude.{true, false, Option, Some, None}
use Rattle.flat_code.specs.declared.kinds.JumpOperation.{JumpOperation}
use Rattle.flat_code.specs.declared.kinds.JumpOperation.TheVariants as jump
use Rattle.flat_code.specs.declared.operations.AddConstant.TheVariants as add_constant
use Rattle.flat_code.specs.declared.operations.CallOperation.{CallOperation}
use Rattle.flat_code.specs.declared.operations.CallOperation.TheVariants as calls
use Rattle.plc_base.specs.declared.Compare.TheVariants as compare
use Rattle.flat_code.specs.declared.operations.EndOperation.{EndOperation}
use Rattle.flat_code.specs.declared.operations.EndOperation.TheVariants as ends
use Rattle.plc_base.specs.declared.Check.TheVariants as check
use Rattle.flat_code.specs.declared.operations.Logic.TheVariants as logic
use Rattle.flat_code.specs.declared.operations.AccuOperation.TheVariants as accu_operation
use Rattle.flat_code.specs.declared.operations.PointerOperation.TheVariants as pointers
use Rattle.flat_code.specs.declared.operations.RelayOperation.TheVariants as relay
use Rattle.flat_code.specs.declared.operations.Shift.TheVariants as shifts
use Rattle.plc_base.specs.declared.TimerKind.TheVariants as starts
use Rattle.flat_code.specs.declared.operations.Operation.{Operation}
use Rattle.flat_code.specs.declared.operations.Operation.TheVariants as operation
use Rattle.stl_ast.specs.declared.literals.Literal.TheVariants as literal
use Rattle.stl_ast.specs.declared.mnemonics.Mnemonic.{Mnemonic}
use Rattle.stl_ast.specs.declared.mnemonics.Mnemonic.TheVariants as code
use Rattle.stl_ast.specs.declared.operands.Operand.{Operand}
use Rattle.stl_ast.specs.declared.operands.Operand.TheVariants as operand
use Rattle.stl_types.specs.declared.resolved_operands.Register.{Register}
use Rattle.stl_types.specs.declared.resolved_operands.Register.TheVariants as register
use Rattle.stl_types.specs.declared.resolved_operands.ResolvedOperand.{ResolvedOperand}
use Rattle.stl_types.specs.declared.resolved_operands.ResolvedOperand.TheVariants as resolved

-- the operation of a jump (manual: logic control instructions); no other instruction is one
abbrev pub jump_operation_of : Mnemonic → Option JumpOperation
jump_operation_of code.Ju = Some jump.Ju
jump_operation_of code.Jl = Some jump.Jl
jump_operation_of code.Jc = Some jump.Jc
jump_operation_of code.Jcn = Some jump.Jcn
jump_operation_of code.Jcb = Some jump.Jcb
jump_operation_of code.Jnb = Some jump.Jnb
jump_operation_of code.Jbi = Some jump.Jbi
jump_operation_of code.Jnbi = Some jump.Jnbi
jump_operation_of code.Jo = Some jump.Jo
jump_operation_of code.Jos = Some jump.Jos
jump_operation_of code.Jz = Some jump.Jz
jump_operation_of code.Jn = Some jump.Jn
jump_operation_of code.Jp = Some jump.Jp
jump_operation_of code.Jm = Some jump.Jm
jump_operation_of code.Jpz = Some jump.Jpz
jump_operation_of code.Jmz = Some jump.Jmz
jump_operation_of code.Juo = Some jump.Juo
jump_operation_of code.Loop = Some jump.Loop
jump_operation_of _ = None

-- the operation of a call: CALL, UC and CC (manual: program control instructions); no other
-- instruction is one
abbrev pub call_operation_of : Mnemonic → Option CallOperation
call_operation_of code.Call = Some calls.Call
call_operation_of code.Uc = Some calls.Uc
call_operation_of code.Cc = Some calls.Cc
call_operation_of _ = None

-- the operation of the end of a block: BE, BEC and BEU (manual: program control instructions); no
-- other instruction is one
abbrev pub end_operation_of : Mnemonic → Option EndOperation
end_operation_of code.Be = Some ends.Be
end_operation_of code.Bec = Some ends.Bec
end_operation_of code.Beu = Some ends.Beu
end_operation_of _ = None

-- the operation of O, by its operand; O without operand is AND before OR
abbrev pub or_operation : ResolvedOperand → Operation
or_operation resolved.Nothing = operation.OrBare
or_operation _ = operation.Check check.O

-- the operation of L, by its operand: the status word, the number or the length of an open data
-- block, or any other one
abbrev pub load_operation : ResolvedOperand → Operation
load_operation (resolved.Register register.Stw) = operation.LoadStatus
load_operation (resolved.Register which) = operation.LoadOpenBlock
load_operation _ = operation.Load

-- the operation of T, by its operand: STW, the only register that T takes, or a place
abbrev pub transfer_operation : ResolvedOperand → Operation
transfer_operation (resolved.Register which) = operation.TransferStatus
transfer_operation _ = operation.Transfer

-- the operation of LAR1, by its operand: address register 2, or any other one
abbrev pub load_pointer_operation : ResolvedOperand → Operation
load_pointer_operation (resolved.Register which) = operation.Pointer pointers.Lar1Ar2
load_pointer_operation _ = operation.Pointer pointers.Lar1

-- the operation of TAR1, by its operand: AR2, or a double word or none
abbrev pub store_pointer_operation : ResolvedOperand → Operation
store_pointer_operation (resolved.Register which) = operation.Pointer pointers.Tar1Ar2
store_pointer_operation _ = operation.Pointer pointers.Tar1

-- the operation of `+`: with a decimal number it adds to the low word of accumulator 1, with L# to
-- the whole
abbrev pub add_operation : Operand → Operation
add_operation (operand.Constant (literal.Long value)) = operation.Add add_constant.Dword
add_operation _ = operation.Add add_constant.Word

-- the operation of an instruction that goes on to the next statement, by what its operand names;
-- the empty operation for every other instruction, which isn't coded by this definition
unfoldable pub operation_for : Mnemonic → Operand → ResolvedOperand → Operation
operation_for code.Nop o v = operation.Nop
operation_for code.Bld o v = operation.Bld
operation_for code.A o v = operation.Check check.A
operation_for code.An o v = operation.Check check.An
operation_for code.O o v = or_operation v
operation_for code.On o v = operation.Check check.On
operation_for code.X o v = operation.Check check.X
operation_for code.Xn o v = operation.Check check.Xn
operation_for code.AOpen o v = operation.Nest check.A
operation_for code.AnOpen o v = operation.Nest check.An
operation_for code.OOpen o v = operation.Nest check.O
operation_for code.OnOpen o v = operation.Nest check.On
operation_for code.XOpen o v = operation.Nest check.X
operation_for code.XnOpen o v = operation.Nest check.Xn
operation_for code.Close o v = operation.Unnest
operation_for code.Mcra o v = operation.Relay relay.Activate
operation_for code.Mcrd o v = operation.Relay relay.Deactivate
operation_for code.McrOpen o v = operation.Relay relay.Open
operation_for code.McrClose o v = operation.Relay relay.Close
operation_for code.L o v = load_operation v
operation_for code.T o v = transfer_operation v
operation_for code.Assign o v = operation.Assign
operation_for code.S o v = operation.Set
operation_for code.R o v = operation.Reset
operation_for code.Fp o v = operation.Edge true
operation_for code.Fn o v = operation.Edge false
operation_for code.Set o v = operation.SetRlo
operation_for code.Clr o v = operation.ClearRlo
operation_for code.Not o v = operation.NegateRlo
operation_for code.Save o v = operation.SaveRlo
operation_for code.Lc o v = operation.LoadBcd
operation_for code.Lar1 o v = load_pointer_operation v
operation_for code.Lar2 o v = operation.Pointer pointers.Lar2
operation_for code.Tar1 o v = store_pointer_operation v
operation_for code.Tar2 o v = operation.Pointer pointers.Tar2
operation_for code.Car o v = operation.Pointer pointers.Car
operation_for code.AddAr1 o v = operation.Pointer pointers.AddAr1
operation_for code.AddAr2 o v = operation.Pointer pointers.AddAr2
operation_for code.Tak o v = operation.Number accu_operation.Tak
operation_for code.Push o v = operation.Number accu_operation.Push
operation_for code.Pop o v = operation.Number accu_operation.Pop
operation_for code.Caw o v = operation.Number accu_operation.Caw
operation_for code.Cad o v = operation.Number accu_operation.Cad
operation_for code.Inc o v = operation.Add add_constant.Inc
operation_for code.Dec o v = operation.Add add_constant.Dec
operation_for code.Add o v = add_operation o
operation_for code.AddI o v = operation.Number accu_operation.AddI
operation_for code.SubI o v = operation.Number accu_operation.SubI
operation_for code.MulI o v = operation.Number accu_operation.MulI
operation_for code.DivI o v = operation.Number accu_operation.DivI
operation_for code.AddD o v = operation.Number accu_operation.AddD
operation_for code.SubD o v = operation.Number accu_operation.SubD
operation_for code.MulD o v = operation.Number accu_operation.MulD
operation_for code.DivD o v = operation.Number accu_operation.DivD
operation_for code.Mod o v = operation.Number accu_operation.Mod
operation_for code.EqI o v = operation.CompareInt compare.Eq
operation_for code.NeI o v = operation.CompareInt compare.Ne
operation_for code.GtI o v = operation.CompareInt compare.Gt
operation_for code.LtI o v = operation.CompareInt compare.Lt
operation_for code.GeI o v = operation.CompareInt compare.Ge
operation_for code.LeI o v = operation.CompareInt compare.Le
operation_for code.EqD o v = operation.CompareDint compare.Eq
operation_for code.NeD o v = operation.CompareDint compare.Ne
operation_for code.GtD o v = operation.CompareDint compare.Gt
operation_for code.LtD o v = operation.CompareDint compare.Lt
operation_for code.GeD o v = operation.CompareDint compare.Ge
operation_for code.LeD o v = operation.CompareDint compare.Le
operation_for code.Bti o v = operation.Number accu_operation.Bti
operation_for code.Itb o v = operation.Number accu_operation.Itb
operation_for code.Btd o v = operation.Number accu_operation.Btd
operation_for code.Dtb o v = operation.Number accu_operation.Dtb
operation_for code.Itd o v = operation.Number accu_operation.Itd
operation_for code.Invi o v = operation.Number accu_operation.Invi
operation_for code.Invd o v = operation.Number accu_operation.Invd
operation_for code.Negi o v = operation.Number accu_operation.Negi
operation_for code.Negd o v = operation.Number accu_operation.Negd
operation_for code.Aw o v = operation.Logic logic.Aw
operation_for code.Ow o v = operation.Logic logic.Ow
operation_for code.Xow o v = operation.Logic logic.Xow
operation_for code.Ad o v = operation.Logic logic.Ad
operation_for code.Od o v = operation.Logic logic.Od
operation_for code.Xod o v = operation.Logic logic.Xod
operation_for code.Ssi o v = operation.Shift shifts.Ssi
operation_for code.Ssd o v = operation.Shift shifts.Ssd
operation_for code.Slw o v = operation.Shift shifts.Slw
operation_for code.Srw o v = operation.Shift shifts.Srw
operation_for code.Sld o v = operation.Shift shifts.Sld
operation_for code.Srd o v = operation.Shift shifts.Srd
operation_for code.Rld o v = operation.Shift shifts.Rld
operation_for code.Rrd o v = operation.Shift shifts.Rrd
operation_for code.Rlda o v = operation.Number accu_operation.Rlda
operation_for code.Rrda o v = operation.Number accu_operation.Rrda
operation_for code.Sp o v = operation.Start starts.Sp
operation_for code.Se o v = operation.Start starts.Se
operation_for code.Sd o v = operation.Start starts.Sd
operation_for code.Ss o v = operation.Start starts.Ss
operation_for code.Sf o v = operation.Start starts.Sf
operation_for code.Fr o v = operation.Free
operation_for code.Cu o v = operation.CountUp
operation_for code.Cd o v = operation.CountDown
operation_for code.Opn o v = operation.OpenBlock
operation_for code.Cdb o v = operation.Exchange
operation_for _ o v = operation.NoOperation
