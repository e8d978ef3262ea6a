-- The words of the language, but for the instruction words.
use Rattle.std.specs.Prelude.{ℕ, Bool, true, false, List, [], ◌++◌, codes, Option, Some, None}
use Rattle.plc_base.specs.declared.blocks.BlockKind.{BlockKind}
use Rattle.plc_base.specs.declared.blocks.BlockKind.TheVariants as kinds
use Rattle.plc_base.specs.declared.flags.Flag.{Flag}
use Rattle.plc_base.specs.declared.flags.Flag.TheVariants as flag
use Rattle.plc_base.specs.declared.places.Width.{Width}
use Rattle.plc_base.specs.declared.places.Width.TheVariants as width
use Rattle.stl_ast.specs.declared.blocks.PartKind.{PartKind}
use Rattle.stl_ast.specs.declared.blocks.PartKind.TheVariants as part
use Rattle.stl_ast.specs.declared.declarations.Simple.{Simple}
use Rattle.stl_ast.specs.declared.declarations.Simple.TheVariants as simple
use Rattle.stl_ast.specs.declared.operands.Letters.{Letters}
use Rattle.stl_ast.specs.declared.operands.Letters.TheVariants as letters
use Rattle.stl_ast.specs.declared.operands.Numbered.{Numbered}
use Rattle.stl_ast.specs.declared.operands.Numbered.TheVariants as numbered
use Rattle.stl_lexer.specs.declared.kinds.TokenKind.{TokenKind}
use Rattle.stl_lexer.specs.declared.kinds.TokenKind.TheVariants as kind

-- the word that begins a block; a system function would begin as a function does
unfoldable pub head_word : BlockKind → List ℕ
head_word kinds.Ob = codes "ORGANIZATION_BLOCK"
head_word kinds.Fc = codes "FUNCTION"
head_word kinds.Fb = codes "FUNCTION_BLOCK"
head_word kinds.Db = codes "DATA_BLOCK"
head_word kinds.Sfc = codes "FUNCTION"
head_word kinds.Udt = codes "TYPE"

-- the word that ends a block; a system function would end as a function does
unfoldable pub end_word : BlockKind → List ℕ
end_word kinds.Ob = codes "END_ORGANIZATION_BLOCK"
end_word kinds.Fc = codes "END_FUNCTION"
end_word kinds.Fb = codes "END_FUNCTION_BLOCK"
end_word kinds.Db = codes "END_DATA_BLOCK"
end_word kinds.Sfc = codes "END_FUNCTION"
end_word kinds.Udt = codes "END_TYPE"

-- the letters of a block's number
unfoldable pub block_letters : BlockKind → List ℕ
block_letters kinds.Ob = codes "OB"
block_letters kinds.Fc = codes "FC"
block_letters kinds.Fb = codes "FB"
block_letters kinds.Db = codes "DB"
block_letters kinds.Sfc = codes "SFC"
block_letters kinds.Udt = codes "UDT"

-- the word that begins a section
unfoldable pub section_word : PartKind → List ℕ
section_word part.Input = codes "VAR_INPUT"
section_word part.Output = codes "VAR_OUTPUT"
section_word part.InOut = codes "VAR_IN_OUT"
section_word part.Static = codes "VAR"
section_word part.Temp = codes "VAR_TEMP"

-- how an elementary type is written
unfoldable pub type_word : Simple → List ℕ
type_word simple.Bool = codes "BOOL"
type_word simple.Byte = codes "BYTE"
type_word simple.Char = codes "CHAR"
type_word simple.Word = codes "WORD"
type_word simple.Int = codes "INT"
type_word simple.S5time = codes "S5TIME"
type_word simple.Dword = codes "DWORD"
type_word simple.Dint = codes "DINT"
type_word simple.Time = codes "TIME"

-- how the type of a return value is written; without one it is VOID
abbrev pub result_word : Option Simple → List ℕ
result_word None = codes "VOID"
result_word (Some k) = type_word k

-- the letters of an area
unfoldable pub area_letters : Letters → List ℕ
area_letters letters.I = codes "I"
area_letters letters.Q = codes "Q"
area_letters letters.M = codes "M"
area_letters letters.Db = codes "DB"
area_letters letters.Di = codes "DI"
area_letters letters.L = codes "L"
area_letters letters.Pi = codes "PI"
area_letters letters.Pq = codes "PQ"

-- what stands for a bit behind the letters of an area: X in data blocks, and nothing elsewhere
unfoldable pub bit_letter : Letters → List ℕ
bit_letter letters.Db = codes "X"
bit_letter letters.Di = codes "X"
bit_letter _ = []

-- the letter of a width; a bit has none
unfoldable pub width_letter : Width → List ℕ
width_letter width.Bit = []
width_letter width.Byte = codes "B"
width_letter width.Word = codes "W"
width_letter width.Dword = codes "D"

-- the letter of a width behind those of an area
unfoldable pub size_letter : Letters → Width → List ℕ
size_letter area width.Bit = bit_letter area
size_letter area w = width_letter w

-- the letters of an address
abbrev pub letters_of_address : Letters → Width → List ℕ
letters_of_address area w = area_letters area ++ size_letter area w

-- the letters of what has a number that memory can give
unfoldable pub numbered_letters : Numbered → List ℕ
numbered_letters numbered.Timer = codes "T"
numbered_letters numbered.Counter = codes "C"
numbered_letters numbered.Db = codes "DB"
numbered_letters numbered.Di = codes "DI"

-- how a condition of the status word is written
unfoldable pub flag_text : Flag → List ℕ
flag_text flag.Br = codes "BR"
flag_text flag.Ov = codes "OV"
flag_text flag.Os = codes "OS"
flag_text flag.EqZero = codes "==0"
flag_text flag.NeZero = codes "<>0"
flag_text flag.GtZero = codes ">0"
flag_text flag.LtZero = codes "<0"
flag_text flag.GeZero = codes ">=0"
flag_text flag.LeZero = codes "<=0"
flag_text flag.Uo = codes "UO"

-- the kind of token that a condition of the status word is: a word or a sign word
unfoldable pub flag_kind : Flag → TokenKind
flag_kind flag.Br = kind.Word
flag_kind flag.Ov = kind.Word
flag_kind flag.Os = kind.Word
flag_kind flag.Uo = kind.Word
flag_kind _ = kind.SignWord

-- how a value of a bit is written
unfoldable pub truth_word : Bool → List ℕ
truth_word true = codes "TRUE"
truth_word false = codes "FALSE"
