-- Which operands each instruction takes.
use Rattle.stl_ast.specs.declared.declarations.Simple.TheVariants as simple
use Rattle.stl_ast.specs.declared.mnemonics.Mnemonic.{Mnemonic}
use Rattle.stl_ast.specs.declared.mnemonics.Mnemonic.TheVariants as code
use Rattle.stl_types.specs.declared.operand_rules.OperandRule.{OperandRule}
use Rattle.stl_types.specs.declared.operand_rules.OperandRule.TheVariants.{Bare, ReadsBit, ReadsBitOrBare, WritesBit, Sets, Resets, Loads, Transfers, LoadsBcd, LoadsAr1, LoadsAr2, StoresAr1, StoresAr2, AddsToAr, Counts, Shifts, Adds, Combines, Jumps, StartsTimer, Enables, StepsCounter, Calls, Opens}

-- the operand rule of an instruction. A shift count is at most 15 for words and 32 for double words
unfoldable pub operand_rule_of : Mnemonic → OperandRule
operand_rule_of code.Nop = Counts 1
operand_rule_of code.Bld = Counts 255
operand_rule_of code.Inc = Counts 255
operand_rule_of code.Dec = Counts 255
operand_rule_of code.A = ReadsBit
operand_rule_of code.An = ReadsBit
operand_rule_of code.O = ReadsBitOrBare
operand_rule_of code.On = ReadsBit
operand_rule_of code.X = ReadsBit
operand_rule_of code.Xn = ReadsBit
operand_rule_of code.Assign = WritesBit
operand_rule_of code.Fp = WritesBit
operand_rule_of code.Fn = WritesBit
operand_rule_of code.S = Sets
operand_rule_of code.R = Resets
operand_rule_of code.L = Loads
operand_rule_of code.T = Transfers
operand_rule_of code.Lc = LoadsBcd
operand_rule_of code.Lar1 = LoadsAr1
operand_rule_of code.Lar2 = LoadsAr2
operand_rule_of code.Tar1 = StoresAr1
operand_rule_of code.Tar2 = StoresAr2
operand_rule_of code.AddAr1 = AddsToAr
operand_rule_of code.AddAr2 = AddsToAr
operand_rule_of code.Add = Adds
operand_rule_of code.Aw = Combines simple.Word
operand_rule_of code.Ow = Combines simple.Word
operand_rule_of code.Xow = Combines simple.Word
operand_rule_of code.Ad = Combines simple.Dword
operand_rule_of code.Od = Combines simple.Dword
operand_rule_of code.Xod = Combines simple.Dword
operand_rule_of code.Ssi = Shifts 15
operand_rule_of code.Slw = Shifts 15
operand_rule_of code.Srw = Shifts 15
operand_rule_of code.Ssd = Shifts 32
operand_rule_of code.Sld = Shifts 32
operand_rule_of code.Srd = Shifts 32
operand_rule_of code.Rld = Shifts 32
operand_rule_of code.Rrd = Shifts 32
operand_rule_of code.Ju = Jumps
operand_rule_of code.Jl = Jumps
operand_rule_of code.Jc = Jumps
operand_rule_of code.Jcn = Jumps
operand_rule_of code.Jcb = Jumps
operand_rule_of code.Jnb = Jumps
operand_rule_of code.Jbi = Jumps
operand_rule_of code.Jnbi = Jumps
operand_rule_of code.Jo = Jumps
operand_rule_of code.Jos = Jumps
operand_rule_of code.Jz = Jumps
operand_rule_of code.Jn = Jumps
operand_rule_of code.Jp = Jumps
operand_rule_of code.Jm = Jumps
operand_rule_of code.Jpz = Jumps
operand_rule_of code.Jmz = Jumps
operand_rule_of code.Juo = Jumps
operand_rule_of code.Loop = Jumps
operand_rule_of code.Sp = StartsTimer
operand_rule_of code.Se = StartsTimer
operand_rule_of code.Sd = StartsTimer
operand_rule_of code.Ss = StartsTimer
operand_rule_of code.Sf = StartsTimer
operand_rule_of code.Fr = Enables
operand_rule_of code.Cu = StepsCounter
operand_rule_of code.Cd = StepsCounter
operand_rule_of code.Call = Calls
operand_rule_of code.Uc = Calls
operand_rule_of code.Cc = Calls
operand_rule_of code.Opn = Opens
operand_rule_of _ = Bare
