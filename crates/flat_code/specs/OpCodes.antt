-- The op code of each operation.
use Rattle.std.specs.Prelude.{ℕ, true, false}
use Rattle.flat_code.specs.declared.operations.Operation.{Operation}
use Rattle.flat_code.specs.declared.operations.Operation.TheVariants as operation
use Rattle.plc_base.specs.declared.instructions.Check.TheVariants as check
use Rattle.flat_code.specs.declared.operations.AccuOperation.TheVariants as accu_operation
use Rattle.flat_code.specs.declared.operations.AddConstant.TheVariants as add_constant
use Rattle.plc_base.specs.declared.instructions.Compare.TheVariants as compare
use Rattle.flat_code.specs.declared.operations.Logic.TheVariants as logic
use Rattle.flat_code.specs.declared.operations.Shift.TheVariants as shifts
use Rattle.flat_code.specs.declared.operations.PointerOperation.TheVariants as pointers
use Rattle.plc_base.specs.declared.instructions.TimerKind.TheVariants as starts
use Rattle.flat_code.specs.declared.operations.CallOperation.TheVariants as calls
use Rattle.flat_code.specs.declared.operations.EndOperation.TheVariants as ends
use Rattle.flat_code.specs.declared.operations.RelayOperation.TheVariants as relay

-- the op code of an operation
abbrev pub op_code_of : Operation → ℕ
op_code_of operation.NoOperation = 0x00
op_code_of operation.Nop = 0x01
op_code_of operation.UseDb = 0x02
op_code_of operation.Bld = 0x03
op_code_of operation.Pass = 0x04
op_code_of (operation.Relay relay.Activate) = 0x05
op_code_of (operation.Relay relay.Deactivate) = 0x06
op_code_of (operation.Relay relay.Open) = 0x07
op_code_of (operation.Relay relay.Close) = 0x08
op_code_of (operation.Check check.A) = 0x10
op_code_of (operation.Check check.An) = 0x11
op_code_of (operation.Check check.O) = 0x12
op_code_of (operation.Check check.On) = 0x13
op_code_of (operation.Check check.X) = 0x14
op_code_of (operation.Check check.Xn) = 0x15
op_code_of operation.OrBare = 0x16
op_code_of (operation.Add add_constant.Dword) = 0x17
op_code_of (operation.Add add_constant.Inc) = 0x3E
op_code_of (operation.Add add_constant.Dec) = 0x3F
op_code_of (operation.Add add_constant.Word) = 0x40
op_code_of (operation.Nest check.A) = 0x18
op_code_of (operation.Nest check.An) = 0x19
op_code_of (operation.Nest check.O) = 0x1A
op_code_of (operation.Nest check.On) = 0x1B
op_code_of (operation.Nest check.X) = 0x1C
op_code_of (operation.Nest check.Xn) = 0x1D
op_code_of operation.Unnest = 0x1E
op_code_of operation.Load = 0x20
op_code_of operation.Transfer = 0x21
op_code_of operation.Assign = 0x22
op_code_of operation.Set = 0x23
op_code_of operation.Reset = 0x24
op_code_of (operation.Edge true) = 0x25
op_code_of (operation.Edge false) = 0x26
op_code_of operation.SetRlo = 0x27
op_code_of operation.ClearRlo = 0x28
op_code_of operation.NegateRlo = 0x29
op_code_of operation.SaveRlo = 0x2A
op_code_of operation.LoadBcd = 0x2B
op_code_of operation.LoadStatus = 0x2C
op_code_of operation.TransferStatus = 0x2D
op_code_of operation.LoadOpenBlock = 0x2E
op_code_of (operation.Pointer pointers.Lar1) = 0x30
op_code_of (operation.Pointer pointers.Lar2) = 0x31
op_code_of (operation.Pointer pointers.Tar1) = 0x32
op_code_of (operation.Pointer pointers.Tar2) = 0x33
op_code_of (operation.Pointer pointers.Lar1Ar2) = 0x34
op_code_of (operation.Pointer pointers.Tar1Ar2) = 0x35
op_code_of (operation.Pointer pointers.Car) = 0x36
op_code_of (operation.Pointer pointers.AddAr1) = 0x37
op_code_of (operation.Pointer pointers.AddAr2) = 0x38
op_code_of (operation.Number accu_operation.Tak) = 0x39
op_code_of (operation.Number accu_operation.Push) = 0x3A
op_code_of (operation.Number accu_operation.Pop) = 0x3B
op_code_of (operation.Number accu_operation.Caw) = 0x3C
op_code_of (operation.Number accu_operation.Cad) = 0x3D
op_code_of (operation.Number accu_operation.AddI) = 0x41
op_code_of (operation.Number accu_operation.SubI) = 0x42
op_code_of (operation.Number accu_operation.MulI) = 0x43
op_code_of (operation.Number accu_operation.DivI) = 0x44
op_code_of (operation.Number accu_operation.AddD) = 0x45
op_code_of (operation.Number accu_operation.SubD) = 0x46
op_code_of (operation.Number accu_operation.MulD) = 0x47
op_code_of (operation.Number accu_operation.DivD) = 0x48
op_code_of (operation.Number accu_operation.Mod) = 0x49
op_code_of (operation.Number accu_operation.Bti) = 0x56
op_code_of (operation.Number accu_operation.Itb) = 0x57
op_code_of (operation.Number accu_operation.Btd) = 0x58
op_code_of (operation.Number accu_operation.Dtb) = 0x59
op_code_of (operation.Number accu_operation.Itd) = 0x5A
op_code_of (operation.Number accu_operation.Invi) = 0x5B
op_code_of (operation.Number accu_operation.Invd) = 0x5C
op_code_of (operation.Number accu_operation.Negi) = 0x5D
op_code_of (operation.Number accu_operation.Negd) = 0x5E
op_code_of (operation.Number accu_operation.Rlda) = 0x6D
op_code_of (operation.Number accu_operation.Rrda) = 0x6E
op_code_of (operation.CompareInt compare.Eq) = 0x4A
op_code_of (operation.CompareInt compare.Ne) = 0x4B
op_code_of (operation.CompareInt compare.Gt) = 0x4C
op_code_of (operation.CompareInt compare.Lt) = 0x4D
op_code_of (operation.CompareInt compare.Ge) = 0x4E
op_code_of (operation.CompareInt compare.Le) = 0x4F
op_code_of (operation.CompareDint compare.Eq) = 0x50
op_code_of (operation.CompareDint compare.Ne) = 0x51
op_code_of (operation.CompareDint compare.Gt) = 0x52
op_code_of (operation.CompareDint compare.Lt) = 0x53
op_code_of (operation.CompareDint compare.Ge) = 0x54
op_code_of (operation.CompareDint compare.Le) = 0x55
op_code_of (operation.Logic logic.Aw) = 0x5F
op_code_of (operation.Logic logic.Ow) = 0x60
op_code_of (operation.Logic logic.Xow) = 0x61
op_code_of (operation.Logic logic.Ad) = 0x62
op_code_of (operation.Logic logic.Od) = 0x63
op_code_of (operation.Logic logic.Xod) = 0x64
op_code_of (operation.Shift shifts.Ssi) = 0x65
op_code_of (operation.Shift shifts.Ssd) = 0x66
op_code_of (operation.Shift shifts.Slw) = 0x67
op_code_of (operation.Shift shifts.Srw) = 0x68
op_code_of (operation.Shift shifts.Sld) = 0x69
op_code_of (operation.Shift shifts.Srd) = 0x6A
op_code_of (operation.Shift shifts.Rld) = 0x6B
op_code_of (operation.Shift shifts.Rrd) = 0x6C
op_code_of operation.Jump = 0x6F
op_code_of (operation.Start starts.Sp) = 0x70
op_code_of (operation.Start starts.Se) = 0x71
op_code_of (operation.Start starts.Sd) = 0x72
op_code_of (operation.Start starts.Ss) = 0x73
op_code_of (operation.Start starts.Sf) = 0x74
op_code_of operation.Free = 0x75
op_code_of operation.CountUp = 0x76
op_code_of operation.CountDown = 0x77
op_code_of (operation.Call calls.Call) = 0x78
op_code_of (operation.Call calls.Uc) = 0x79
op_code_of (operation.Call calls.Cc) = 0x7A
op_code_of (operation.End ends.Be) = 0x7B
op_code_of (operation.End ends.Bec) = 0x7C
op_code_of (operation.End ends.Beu) = 0x7D
op_code_of operation.OpenBlock = 0x7E
op_code_of operation.Exchange = 0x7F
