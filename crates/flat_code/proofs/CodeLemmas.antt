-- The tables have each operation, jump and condition at its number.
use Rattle.std.proofs.Common.{◌≡◌, true, false, refl}
use Rattle.plc_base.specs.declared.flags.Flag.{Flag}
use Rattle.plc_base.specs.declared.flags.Flag.TheVariants as flags
use Rattle.flat_code.specs.Kinds.{jump_of_number, jump_number, flag_of, condition_number}
use Rattle.flat_code.specs.declared.kinds.JumpOperation.{JumpOperation}
use Rattle.flat_code.specs.declared.kinds.JumpOperation.TheVariants as jumps
use Rattle.flat_code.specs.Operations.{operation_of}
use Rattle.flat_code.specs.OpCodes.{op_code_of}
use Rattle.flat_code.specs.declared.operations.Operation.{Operation}
use Rattle.flat_code.specs.declared.operations.Operation.TheVariants as operation
use Rattle.plc_base.specs.declared.instructions.Check.TheVariants as check
use Rattle.flat_code.specs.declared.operations.AccuOperation.TheVariants as accu_operation
use Rattle.flat_code.specs.declared.operations.AddConstant.TheVariants as add_constant
use Rattle.plc_base.specs.declared.instructions.Compare.TheVariants as compare
use Rattle.flat_code.specs.declared.operations.Logic.TheVariants as logic
use Rattle.flat_code.specs.declared.operations.Shift.TheVariants as shifts
use Rattle.flat_code.specs.declared.operations.PointerOperation.TheVariants as pointers
use Rattle.plc_base.specs.declared.instructions.TimerKind.TheVariants as starts
use Rattle.flat_code.specs.declared.operations.RelayOperation.TheVariants as relay
use Rattle.flat_code.specs.declared.operations.CallOperation.TheVariants as calls
use Rattle.flat_code.specs.declared.operations.EndOperation.TheVariants as ends

pub operation_again : (w : Operation) → operation_of (op_code_of w) ≡ w
unfolding operation_of
operation_again operation.NoOperation = refl
operation_again operation.Nop = refl
operation_again operation.UseDb = refl
operation_again operation.Bld = refl
operation_again operation.Pass = refl
operation_again (operation.Relay relay.Activate) = refl
operation_again (operation.Relay relay.Deactivate) = refl
operation_again (operation.Relay relay.Open) = refl
operation_again (operation.Relay relay.Close) = refl
operation_again (operation.Check check.A) = refl
operation_again (operation.Check check.An) = refl
operation_again (operation.Check check.O) = refl
operation_again (operation.Check check.On) = refl
operation_again (operation.Check check.X) = refl
operation_again (operation.Check check.Xn) = refl
operation_again operation.OrBare = refl
operation_again (operation.Add add_constant.Dword) = refl
operation_again (operation.Add add_constant.Inc) = refl
operation_again (operation.Add add_constant.Dec) = refl
operation_again (operation.Add add_constant.Word) = refl
operation_again (operation.Nest check.A) = refl
operation_again (operation.Nest check.An) = refl
operation_again (operation.Nest check.O) = refl
operation_again (operation.Nest check.On) = refl
operation_again (operation.Nest check.X) = refl
operation_again (operation.Nest check.Xn) = refl
operation_again operation.Unnest = refl
operation_again operation.Load = refl
operation_again operation.Transfer = refl
operation_again operation.Assign = refl
operation_again operation.Set = refl
operation_again operation.Reset = refl
operation_again (operation.Edge true) = refl
operation_again (operation.Edge false) = refl
operation_again operation.SetRlo = refl
operation_again operation.ClearRlo = refl
operation_again operation.NegateRlo = refl
operation_again operation.SaveRlo = refl
operation_again operation.LoadBcd = refl
operation_again operation.LoadStatus = refl
operation_again operation.TransferStatus = refl
operation_again operation.LoadOpenBlock = refl
operation_again (operation.Pointer pointers.Lar1) = refl
operation_again (operation.Pointer pointers.Lar2) = refl
operation_again (operation.Pointer pointers.Tar1) = refl
operation_again (operation.Pointer pointers.Tar2) = refl
operation_again (operation.Pointer pointers.Lar1Ar2) = refl
operation_again (operation.Pointer pointers.Tar1Ar2) = refl
operation_again (operation.Pointer pointers.Car) = refl
operation_again (operation.Pointer pointers.AddAr1) = refl
operation_again (operation.Pointer pointers.AddAr2) = refl
operation_again (operation.Number accu_operation.Tak) = refl
operation_again (operation.Number accu_operation.Push) = refl
operation_again (operation.Number accu_operation.Pop) = refl
operation_again (operation.Number accu_operation.Caw) = refl
operation_again (operation.Number accu_operation.Cad) = refl
operation_again (operation.Number accu_operation.AddI) = refl
operation_again (operation.Number accu_operation.SubI) = refl
operation_again (operation.Number accu_operation.MulI) = refl
operation_again (operation.Number accu_operation.DivI) = refl
operation_again (operation.Number accu_operation.AddD) = refl
operation_again (operation.Number accu_operation.SubD) = refl
operation_again (operation.Number accu_operation.MulD) = refl
operation_again (operation.Number accu_operation.DivD) = refl
operation_again (operation.Number accu_operation.Mod) = refl
operation_again (operation.Number accu_operation.Bti) = refl
operation_again (operation.Number accu_operation.Itb) = refl
operation_again (operation.Number accu_operation.Btd) = refl
operation_again (operation.Number accu_operation.Dtb) = refl
operation_again (operation.Number accu_operation.Itd) = refl
operation_again (operation.Number accu_operation.Invi) = refl
operation_again (operation.Number accu_operation.Invd) = refl
operation_again (operation.Number accu_operation.Negi) = refl
operation_again (operation.Number accu_operation.Negd) = refl
operation_again (operation.Number accu_operation.Rlda) = refl
operation_again (operation.Number accu_operation.Rrda) = refl
operation_again (operation.CompareInt compare.Eq) = refl
operation_again (operation.CompareInt compare.Ne) = refl
operation_again (operation.CompareInt compare.Gt) = refl
operation_again (operation.CompareInt compare.Lt) = refl
operation_again (operation.CompareInt compare.Ge) = refl
operation_again (operation.CompareInt compare.Le) = refl
operation_again (operation.CompareDint compare.Eq) = refl
operation_again (operation.CompareDint compare.Ne) = refl
operation_again (operation.CompareDint compare.Gt) = refl
operation_again (operation.CompareDint compare.Lt) = refl
operation_again (operation.CompareDint compare.Ge) = refl
operation_again (operation.CompareDint compare.Le) = refl
operation_again (operation.Logic logic.Aw) = refl
operation_again (operation.Logic logic.Ow) = refl
operation_again (operation.Logic logic.Xow) = refl
operation_again (operation.Logic logic.Ad) = refl
operation_again (operation.Logic logic.Od) = refl
operation_again (operation.Logic logic.Xod) = refl
operation_again (operation.Shift shifts.Ssi) = refl
operation_again (operation.Shift shifts.Ssd) = refl
operation_again (operation.Shift shifts.Slw) = refl
operation_again (operation.Shift shifts.Srw) = refl
operation_again (operation.Shift shifts.Sld) = refl
operation_again (operation.Shift shifts.Srd) = refl
operation_again (operation.Shift shifts.Rld) = refl
operation_again (operation.Shift shifts.Rrd) = refl
operation_again operation.Jump = refl
operation_again (operation.Start starts.Sp) = refl
operation_again (operation.Start starts.Se) = refl
operation_again (operation.Start starts.Sd) = refl
operation_again (operation.Start starts.Ss) = refl
operation_again (operation.Start starts.Sf) = refl
operation_again operation.Free = refl
operation_again operation.CountUp = refl
operation_again operation.CountDown = refl
operation_again (operation.Call calls.Call) = refl
operation_again (operation.Call calls.Uc) = refl
operation_again (operation.Call calls.Cc) = refl
operation_again (operation.End ends.Be) = refl
operation_again (operation.End ends.Bec) = refl
operation_again (operation.End ends.Beu) = refl
operation_again operation.OpenBlock = refl
operation_again operation.Exchange = refl

pub jump_again : (jump : JumpOperation) → jump_of_number (jump_number jump) ≡ jump
unfolding jump_of_number
jump_again jumps.Ju = refl
jump_again jumps.Jl = refl
jump_again jumps.Jc = refl
jump_again jumps.Jcn = refl
jump_again jumps.Jcb = refl
jump_again jumps.Jnb = refl
jump_again jumps.Jbi = refl
jump_again jumps.Jnbi = refl
jump_again jumps.Jo = refl
jump_again jumps.Jos = refl
jump_again jumps.Jz = refl
jump_again jumps.Jn = refl
jump_again jumps.Jp = refl
jump_again jumps.Jm = refl
jump_again jumps.Jpz = refl
jump_again jumps.Jmz = refl
jump_again jumps.Juo = refl
jump_again jumps.Loop = refl

pub flag_again : (flag : Flag) → flag_of (condition_number flag) ≡ flag
unfolding flag_of
flag_again flags.Br = refl
flag_again flags.Ov = refl
flag_again flags.Os = refl
flag_again flags.EqZero = refl
flag_again flags.NeZero = refl
flag_again flags.GtZero = refl
flag_again flags.LtZero = refl
flag_again flags.GeZero = refl
flag_again flags.LeZero = refl
flag_again flags.Uo = refl
