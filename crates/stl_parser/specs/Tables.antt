-- Tables of words: those of the language, each with what it is.
use Rattle.std.specs.Prelude.{ℕ, Bool, true, false, List, [], ◌∷◌, codes, Option, find}
use Rattle.std.specs.Option.{option_map}
use Rattle.std.specs.Str.{str_eq_ignore_ascii_case}
use Rattle.plc_base.specs.declared.blocks.BlockKind.{BlockKind}
use Rattle.plc_base.specs.declared.blocks.BlockKind.TheVariants as kinds
use Rattle.plc_base.specs.declared.flags.Flag.{Flag}
use Rattle.plc_base.specs.declared.flags.Flag.TheVariants as flag
use Rattle.plc_base.specs.declared.places.Width.TheVariants as width
use Rattle.stl_ast.specs.declared.blocks.PartKind.TheVariants as part
use Rattle.stl_ast.specs.declared.declarations.Simple.{Simple}
use Rattle.stl_ast.specs.declared.declarations.Simple.TheVariants as simple
use Rattle.stl_ast.specs.declared.mnemonics.Mnemonic.{Mnemonic}
use Rattle.stl_ast.specs.declared.mnemonics.Mnemonic.TheVariants as mnemonic
use Rattle.stl_ast.specs.declared.operands.Letters.TheVariants as letters
use Rattle.stl_parser.specs.declared.tables.AddressKind.{AddressKind}
use Rattle.stl_parser.specs.declared.tables.AddressKind.TheVariants as address
use Rattle.stl_parser.specs.declared.tables.Keyword.{Keyword}
use Rattle.stl_parser.specs.declared.tables.Keyword.TheVariants as keyword
use Rattle.stl_parser.specs.declared.tables.HeadWord.{HeadWord}
use Rattle.stl_parser.specs.declared.tables.HeadWord.TheVariants as head_word
use Rattle.stl_parser.specs.declared.tables.OperandSyntax.{OperandSyntax}
use Rattle.stl_parser.specs.declared.tables.OperandSyntax.TheVariants as operand_syntax

-- what stands beside the first text of a table that is this word, without case
unfoldable pub look_up : {X : Type 0} → List (List ℕ × X) → List ℕ → Option X
look_up table word = option_map (λ e. e.1) (find (λ e. str_eq_ignore_ascii_case word e.0) table)

-- the keywords that begin a clause
unfoldable pub keywords : List (List ℕ × Keyword)
keywords =
    (codes "ORGANIZATION_BLOCK", keyword.Opens kinds.Ob)
    ∷ (codes "FUNCTION", keyword.Opens kinds.Fc)
    ∷ (codes "FUNCTION_BLOCK", keyword.Opens kinds.Fb)
    ∷ (codes "DATA_BLOCK", keyword.Opens kinds.Db)
    ∷ (codes "TYPE", keyword.Opens kinds.Udt)
    ∷ (codes "END_ORGANIZATION_BLOCK", keyword.Ends kinds.Ob)
    ∷ (codes "END_FUNCTION", keyword.Ends kinds.Fc)
    ∷ (codes "END_FUNCTION_BLOCK", keyword.Ends kinds.Fb)
    ∷ (codes "END_DATA_BLOCK", keyword.Ends kinds.Db)
    ∷ (codes "END_TYPE", keyword.Ends kinds.Udt)
    ∷ (codes "VAR_INPUT", keyword.Section part.Input)
    ∷ (codes "VAR_OUTPUT", keyword.Section part.Output)
    ∷ (codes "VAR_IN_OUT", keyword.Section part.InOut)
    ∷ (codes "VAR", keyword.Section part.Static)
    ∷ (codes "VAR_TEMP", keyword.Section part.Temp)
    ∷ (codes "END_VAR", keyword.EndSection)
    ∷ (codes "BEGIN", keyword.Begin)
    ∷ (codes "NETWORK", keyword.Network)
    ∷ (codes "STRUCT", keyword.Structure)
    ∷ (codes "END_STRUCT", keyword.EndStructure)
    ∷ []

-- the words of a block's head
unfoldable pub head_words : List (List ℕ × HeadWord)
head_words =
    (codes "VERSION", head_word.Version)
    ∷ (codes "AUTHOR", head_word.Named)
    ∷ (codes "FAMILY", head_word.Named)
    ∷ (codes "NAME", head_word.Named)
    ∷ (codes "KNOW_HOW_PROTECT", head_word.Alone)
    ∷ (codes "CODE_VERSION1", head_word.Alone)
    ∷ []

-- the letters of a block's number
unfoldable pub block_kinds : List (List ℕ × BlockKind)
block_kinds =
    (codes "OB", kinds.Ob)
    ∷ (codes "FC", kinds.Fc)
    ∷ (codes "FB", kinds.Fb)
    ∷ (codes "DB", kinds.Db)
    ∷ (codes "SFC", kinds.Sfc)
    ∷ (codes "UDT", kinds.Udt)
    ∷ []

-- the elementary types
unfoldable pub simple_types : List (List ℕ × Simple)
simple_types =
    (codes "BOOL", simple.Bool)
    ∷ (codes "BYTE", simple.Byte)
    ∷ (codes "CHAR", simple.Char)
    ∷ (codes "WORD", simple.Word)
    ∷ (codes "INT", simple.Int)
    ∷ (codes "S5TIME", simple.S5time)
    ∷ (codes "DWORD", simple.Dword)
    ∷ (codes "DINT", simple.Dint)
    ∷ (codes "TIME", simple.Time)
    ∷ []

-- the letters of addresses: of an area, with the width that they mean, of timers, of counters, and
-- of data blocks of the DB register and of the DI register
unfoldable pub addresses : List (List ℕ × AddressKind)
addresses =
    (codes "I", address.Area letters.I width.Bit)
    ∷ (codes "IB", address.Area letters.I width.Byte)
    ∷ (codes "IW", address.Area letters.I width.Word)
    ∷ (codes "ID", address.Area letters.I width.Dword)
    ∷ (codes "Q", address.Area letters.Q width.Bit)
    ∷ (codes "QB", address.Area letters.Q width.Byte)
    ∷ (codes "QW", address.Area letters.Q width.Word)
    ∷ (codes "QD", address.Area letters.Q width.Dword)
    ∷ (codes "M", address.Area letters.M width.Bit)
    ∷ (codes "MB", address.Area letters.M width.Byte)
    ∷ (codes "MW", address.Area letters.M width.Word)
    ∷ (codes "MD", address.Area letters.M width.Dword)
    ∷ (codes "L", address.Area letters.L width.Bit)
    ∷ (codes "LB", address.Area letters.L width.Byte)
    ∷ (codes "LW", address.Area letters.L width.Word)
    ∷ (codes "LD", address.Area letters.L width.Dword)
    ∷ (codes "DBX", address.Area letters.Db width.Bit)
    ∷ (codes "DBB", address.Area letters.Db width.Byte)
    ∷ (codes "DBW", address.Area letters.Db width.Word)
    ∷ (codes "DBD", address.Area letters.Db width.Dword)
    ∷ (codes "DIX", address.Area letters.Di width.Bit)
    ∷ (codes "DIB", address.Area letters.Di width.Byte)
    ∷ (codes "DIW", address.Area letters.Di width.Word)
    ∷ (codes "DID", address.Area letters.Di width.Dword)
    ∷ (codes "PIB", address.Area letters.Pi width.Byte)
    ∷ (codes "PIW", address.Area letters.Pi width.Word)
    ∷ (codes "PID", address.Area letters.Pi width.Dword)
    ∷ (codes "PQB", address.Area letters.Pq width.Byte)
    ∷ (codes "PQW", address.Area letters.Pq width.Word)
    ∷ (codes "PQD", address.Area letters.Pq width.Dword)
    ∷ (codes "T", address.Timer)
    ∷ (codes "C", address.Counter)
    ∷ (codes "DB", address.Block false)
    ∷ (codes "DI", address.Block true)
    ∷ []

-- the instruction words, with the marks and sign words that are instructions, and what may stand
-- behind each
unfoldable pub mnemonics : List (List ℕ × (Mnemonic × OperandSyntax))
mnemonics =
    (codes "NOP", (mnemonic.Nop, operand_syntax.Operand))
    ∷ (codes "BLD", (mnemonic.Bld, operand_syntax.Operand))
    ∷ (codes "A", (mnemonic.A, operand_syntax.Operand))
    ∷ (codes "AN", (mnemonic.An, operand_syntax.Operand))
    ∷ (codes "O", (mnemonic.O, operand_syntax.Operand))
    ∷ (codes "ON", (mnemonic.On, operand_syntax.Operand))
    ∷ (codes "X", (mnemonic.X, operand_syntax.Operand))
    ∷ (codes "XN", (mnemonic.Xn, operand_syntax.Operand))
    ∷ (codes ")", (mnemonic.Close, operand_syntax.Operand))
    ∷ (codes "MCRA", (mnemonic.Mcra, operand_syntax.Operand))
    ∷ (codes "MCRD", (mnemonic.Mcrd, operand_syntax.Operand))
    ∷ (codes "L", (mnemonic.L, operand_syntax.Operand))
    ∷ (codes "T", (mnemonic.T, operand_syntax.Operand))
    ∷ (codes "=", (mnemonic.Assign, operand_syntax.Operand))
    ∷ (codes "S", (mnemonic.S, operand_syntax.Operand))
    ∷ (codes "R", (mnemonic.R, operand_syntax.Operand))
    ∷ (codes "FP", (mnemonic.Fp, operand_syntax.Operand))
    ∷ (codes "FN", (mnemonic.Fn, operand_syntax.Operand))
    ∷ (codes "SET", (mnemonic.Set, operand_syntax.Operand))
    ∷ (codes "CLR", (mnemonic.Clr, operand_syntax.Operand))
    ∷ (codes "NOT", (mnemonic.Not, operand_syntax.Operand))
    ∷ (codes "SAVE", (mnemonic.Save, operand_syntax.Operand))
    ∷ (codes "LC", (mnemonic.Lc, operand_syntax.Operand))
    ∷ (codes "LAR1", (mnemonic.Lar1, operand_syntax.Operand))
    ∷ (codes "LAR2", (mnemonic.Lar2, operand_syntax.Operand))
    ∷ (codes "TAR1", (mnemonic.Tar1, operand_syntax.Operand))
    ∷ (codes "TAR2", (mnemonic.Tar2, operand_syntax.Operand))
    ∷ (codes "CAR", (mnemonic.Car, operand_syntax.Operand))
    ∷ (codes "+AR1", (mnemonic.AddAr1, operand_syntax.Operand))
    ∷ (codes "+AR2", (mnemonic.AddAr2, operand_syntax.Operand))
    ∷ (codes "TAK", (mnemonic.Tak, operand_syntax.Operand))
    ∷ (codes "PUSH", (mnemonic.Push, operand_syntax.Operand))
    ∷ (codes "POP", (mnemonic.Pop, operand_syntax.Operand))
    ∷ (codes "CAW", (mnemonic.Caw, operand_syntax.Operand))
    ∷ (codes "CAD", (mnemonic.Cad, operand_syntax.Operand))
    ∷ (codes "INC", (mnemonic.Inc, operand_syntax.Operand))
    ∷ (codes "DEC", (mnemonic.Dec, operand_syntax.Operand))
    ∷ (codes "+", (mnemonic.Add, operand_syntax.Operand))
    ∷ (codes "+I", (mnemonic.AddI, operand_syntax.Operand))
    ∷ (codes "-I", (mnemonic.SubI, operand_syntax.Operand))
    ∷ (codes "*I", (mnemonic.MulI, operand_syntax.Operand))
    ∷ (codes "/I", (mnemonic.DivI, operand_syntax.Operand))
    ∷ (codes "+D", (mnemonic.AddD, operand_syntax.Operand))
    ∷ (codes "-D", (mnemonic.SubD, operand_syntax.Operand))
    ∷ (codes "*D", (mnemonic.MulD, operand_syntax.Operand))
    ∷ (codes "/D", (mnemonic.DivD, operand_syntax.Operand))
    ∷ (codes "MOD", (mnemonic.Mod, operand_syntax.Operand))
    ∷ (codes "==I", (mnemonic.EqI, operand_syntax.Operand))
    ∷ (codes "<>I", (mnemonic.NeI, operand_syntax.Operand))
    ∷ (codes ">I", (mnemonic.GtI, operand_syntax.Operand))
    ∷ (codes "<I", (mnemonic.LtI, operand_syntax.Operand))
    ∷ (codes ">=I", (mnemonic.GeI, operand_syntax.Operand))
    ∷ (codes "<=I", (mnemonic.LeI, operand_syntax.Operand))
    ∷ (codes "==D", (mnemonic.EqD, operand_syntax.Operand))
    ∷ (codes "<>D", (mnemonic.NeD, operand_syntax.Operand))
    ∷ (codes ">D", (mnemonic.GtD, operand_syntax.Operand))
    ∷ (codes "<D", (mnemonic.LtD, operand_syntax.Operand))
    ∷ (codes ">=D", (mnemonic.GeD, operand_syntax.Operand))
    ∷ (codes "<=D", (mnemonic.LeD, operand_syntax.Operand))
    ∷ (codes "BTI", (mnemonic.Bti, operand_syntax.Operand))
    ∷ (codes "ITB", (mnemonic.Itb, operand_syntax.Operand))
    ∷ (codes "BTD", (mnemonic.Btd, operand_syntax.Operand))
    ∷ (codes "DTB", (mnemonic.Dtb, operand_syntax.Operand))
    ∷ (codes "ITD", (mnemonic.Itd, operand_syntax.Operand))
    ∷ (codes "INVI", (mnemonic.Invi, operand_syntax.Operand))
    ∷ (codes "INVD", (mnemonic.Invd, operand_syntax.Operand))
    ∷ (codes "NEGI", (mnemonic.Negi, operand_syntax.Operand))
    ∷ (codes "NEGD", (mnemonic.Negd, operand_syntax.Operand))
    ∷ (codes "AW", (mnemonic.Aw, operand_syntax.Operand))
    ∷ (codes "OW", (mnemonic.Ow, operand_syntax.Operand))
    ∷ (codes "XOW", (mnemonic.Xow, operand_syntax.Operand))
    ∷ (codes "AD", (mnemonic.Ad, operand_syntax.Operand))
    ∷ (codes "OD", (mnemonic.Od, operand_syntax.Operand))
    ∷ (codes "XOD", (mnemonic.Xod, operand_syntax.Operand))
    ∷ (codes "SSI", (mnemonic.Ssi, operand_syntax.Operand))
    ∷ (codes "SSD", (mnemonic.Ssd, operand_syntax.Operand))
    ∷ (codes "SLW", (mnemonic.Slw, operand_syntax.Operand))
    ∷ (codes "SRW", (mnemonic.Srw, operand_syntax.Operand))
    ∷ (codes "SLD", (mnemonic.Sld, operand_syntax.Operand))
    ∷ (codes "SRD", (mnemonic.Srd, operand_syntax.Operand))
    ∷ (codes "RLD", (mnemonic.Rld, operand_syntax.Operand))
    ∷ (codes "RRD", (mnemonic.Rrd, operand_syntax.Operand))
    ∷ (codes "RLDA", (mnemonic.Rlda, operand_syntax.Operand))
    ∷ (codes "RRDA", (mnemonic.Rrda, operand_syntax.Operand))
    ∷ (codes "JU", (mnemonic.Ju, operand_syntax.Jump))
    ∷ (codes "JL", (mnemonic.Jl, operand_syntax.Jump))
    ∷ (codes "JC", (mnemonic.Jc, operand_syntax.Jump))
    ∷ (codes "JCN", (mnemonic.Jcn, operand_syntax.Jump))
    ∷ (codes "JCB", (mnemonic.Jcb, operand_syntax.Jump))
    ∷ (codes "JNB", (mnemonic.Jnb, operand_syntax.Jump))
    ∷ (codes "JBI", (mnemonic.Jbi, operand_syntax.Jump))
    ∷ (codes "JNBI", (mnemonic.Jnbi, operand_syntax.Jump))
    ∷ (codes "JO", (mnemonic.Jo, operand_syntax.Jump))
    ∷ (codes "JOS", (mnemonic.Jos, operand_syntax.Jump))
    ∷ (codes "JZ", (mnemonic.Jz, operand_syntax.Jump))
    ∷ (codes "JN", (mnemonic.Jn, operand_syntax.Jump))
    ∷ (codes "JP", (mnemonic.Jp, operand_syntax.Jump))
    ∷ (codes "JM", (mnemonic.Jm, operand_syntax.Jump))
    ∷ (codes "JPZ", (mnemonic.Jpz, operand_syntax.Jump))
    ∷ (codes "JMZ", (mnemonic.Jmz, operand_syntax.Jump))
    ∷ (codes "JUO", (mnemonic.Juo, operand_syntax.Jump))
    ∷ (codes "LOOP", (mnemonic.Loop, operand_syntax.Jump))
    ∷ (codes "SP", (mnemonic.Sp, operand_syntax.Operand))
    ∷ (codes "SE", (mnemonic.Se, operand_syntax.Operand))
    ∷ (codes "SD", (mnemonic.Sd, operand_syntax.Operand))
    ∷ (codes "SS", (mnemonic.Ss, operand_syntax.Operand))
    ∷ (codes "SF", (mnemonic.Sf, operand_syntax.Operand))
    ∷ (codes "FR", (mnemonic.Fr, operand_syntax.Operand))
    ∷ (codes "CU", (mnemonic.Cu, operand_syntax.Operand))
    ∷ (codes "CD", (mnemonic.Cd, operand_syntax.Operand))
    ∷ (codes "CALL", (mnemonic.Call, operand_syntax.Call))
    ∷ (codes "UC", (mnemonic.Uc, operand_syntax.BlockCall))
    ∷ (codes "CC", (mnemonic.Cc, operand_syntax.BlockCall))
    ∷ (codes "BE", (mnemonic.Be, operand_syntax.Operand))
    ∷ (codes "BEC", (mnemonic.Bec, operand_syntax.Operand))
    ∷ (codes "BEU", (mnemonic.Beu, operand_syntax.Operand))
    ∷ (codes "OPN", (mnemonic.Opn, operand_syntax.Open))
    ∷ (codes "CDB", (mnemonic.Cdb, operand_syntax.Operand))
    ∷ []

-- the instruction words that open a bracket, or a zone of the master control relay, without the `(`
-- behind them
unfoldable pub opening_mnemonics : List (List ℕ × Mnemonic)
opening_mnemonics =
    (codes "A", mnemonic.AOpen)
    ∷ (codes "AN", mnemonic.AnOpen)
    ∷ (codes "O", mnemonic.OOpen)
    ∷ (codes "ON", mnemonic.OnOpen)
    ∷ (codes "X", mnemonic.XOpen)
    ∷ (codes "XN", mnemonic.XnOpen)
    ∷ (codes "MCR", mnemonic.McrOpen)
    ∷ []

-- the conditions of the status word that stand as an operand
unfoldable pub flags : List (List ℕ × Flag)
flags =
    (codes "BR", flag.Br)
    ∷ (codes "OV", flag.Ov)
    ∷ (codes "OS", flag.Os)
    ∷ (codes "==0", flag.EqZero)
    ∷ (codes "<>0", flag.NeZero)
    ∷ (codes ">0", flag.GtZero)
    ∷ (codes "<0", flag.LtZero)
    ∷ (codes ">=0", flag.GeZero)
    ∷ (codes "<=0", flag.LeZero)
    ∷ (codes "UO", flag.Uo)
    ∷ []

-- the registers that stand as an operand, and whether an instruction has them as one
unfoldable pub registers : List (List ℕ × Bool)
registers =
    (codes "STW", true)
    ∷ (codes "DBLG", true)
    ∷ (codes "DBNO", true)
    ∷ (codes "DILG", true)
    ∷ (codes "DINO", true)
    ∷ (codes "AR2", true)
    ∷ (codes "AR1", false)
    ∷ []
