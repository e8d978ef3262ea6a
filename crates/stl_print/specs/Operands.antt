-- Operands.
use Rattle.std.specs.Prelude.{ℕ, ◌/◌, ◌%◌, Bool, true, false, List, [], ◌∷◌, ◌++◌, codes, decimal, Option, Some, None}
use Rattle.plc_base.specs.declared.places.Width.{Width}
use Rattle.plc_base.specs.declared.places.Width.TheVariants as width
use Rattle.stl_ast.specs.declared.names.BlockName.{BlockName}
use Rattle.stl_ast.specs.declared.names.BlockName.TheVariants as block
use Rattle.stl_ast.specs.declared.operands.Letters.{Letters}
use Rattle.stl_ast.specs.declared.operands.Operand.{Operand}
use Rattle.stl_ast.specs.declared.operands.Operand.TheVariants as operand
use Rattle.stl_ast.specs.declared.operands.PathHead.{PathHead}
use Rattle.stl_ast.specs.declared.operands.PathHead.TheVariants as head
use Rattle.stl_lexer.specs.Pieces.{Piece}
use Rattle.stl_lexer.specs.declared.marks.Mark.TheVariants as mark_of
use Rattle.stl_print.specs.Literals.{literal_pieces}
use Rattle.stl_print.specs.Names.{block_name_pieces, steps_pieces}
use Rattle.stl_print.specs.Pieces.{local_piece, mark_piece, number_piece, quoted_piece, token_piece, word_piece}
use Rattle.stl_print.specs.Words.{letters_of_address, flag_kind, flag_text, numbered_letters, width_letter}
use Rattle.stl_print.specs.declared.gaps.Gap.{Gap}
use Rattle.stl_print.specs.declared.gaps.Gap.TheVariants as gap

-- letters and a number, `T 3`
abbrev pub numbered_pieces : Gap → List ℕ → ℕ → List Piece
numbered_pieces g letters n = word_piece g letters ∷ number_piece gap.Blank n ∷ []

-- the bit of an address, where a bit is meant
unfoldable pub bit_pieces : Width → ℕ → List Piece
bit_pieces width.Bit bit = mark_piece gap.Nothing mark_of.Dot ∷ number_piece gap.Nothing bit ∷ []
bit_pieces _ bit = []

-- an address, `M 0.3` or `MW 2`
abbrev pub address_pieces : Gap → Letters → Width → ℕ → ℕ → List Piece
address_pieces g area w byte bit =
    numbered_pieces g (letters_of_address area w) byte ++ bit_pieces w bit

-- an address, alone or in a data block, `DB 10.DBX 0.1`
unfoldable pub direct_pieces : Gap → Option BlockName → Letters → Width → ℕ → ℕ → List Piece
direct_pieces g None area w byte bit = address_pieces g area w byte bit
direct_pieces g (Some name) area w byte bit =
    block_name_pieces g name
    ++ (mark_piece gap.Nothing mark_of.Dot ∷ address_pieces gap.Nothing area w byte bit)

-- how a path begins, `#motor`, the name of a data block, or a symbol
unfoldable pub path_head_pieces : Gap → PathHead → List Piece
path_head_pieces g (head.Local name) = local_piece g name ∷ []
path_head_pieces g (head.InBlock name) = block_name_pieces g name
path_head_pieces g (head.Symbol name) = quoted_piece g name ∷ []

-- a pointer or a number in memory, `[MD 4]`
abbrev pub memory_pointer_pieces : Letters → Width → ℕ → List Piece
memory_pointer_pieces from w byte =
    mark_piece gap.Blank mark_of.OpenBracket
    ∷ (numbered_pieces gap.Nothing (letters_of_address from w) byte
    ++ mark_piece gap.Nothing mark_of.CloseBracket ∷ [])

-- a pointer in an address register, with an offset in bits, `[AR1, P#2.0]`
abbrev pub register_pointer_pieces : Gap → ℕ → ℕ → List Piece
register_pointer_pieces g register bits =
    mark_piece g mark_of.OpenBracket ∷ word_piece gap.Nothing (codes "AR" ++ decimal register)
    ∷ mark_piece gap.Nothing mark_of.Comma
    ∷ mark_piece gap.Blank mark_of.Pointer ∷ number_piece gap.Nothing (bits / 8)
    ∷ mark_piece gap.Nothing mark_of.Dot
    ∷ number_piece gap.Nothing (bits % 8) ∷ mark_piece gap.Nothing mark_of.CloseBracket ∷ []

-- an operand by a pointer in an address register, with an offset in bits: the letters of its area
-- before the pointer, or of its width alone, where the register has the area
unfoldable pub register_operand_pieces : Gap → Option Letters → Width → ℕ → ℕ → List Piece
register_operand_pieces g (Some area) w register bits =
    word_piece g (letters_of_address area w) ∷ register_pointer_pieces gap.Blank register bits
register_operand_pieces g None width.Bit register bits = register_pointer_pieces g register bits
register_operand_pieces g None w register bits =
    word_piece g (width_letter w) ∷ register_pointer_pieces gap.Blank register bits

-- the byte of a pointer constant, behind the letters of its area where it has one
unfoldable pub pointer_byte_pieces : Option Letters → ℕ → List Piece
pointer_byte_pieces None byte = number_piece gap.Nothing byte ∷ []
pointer_byte_pieces (Some area) byte =
    numbered_pieces gap.Nothing (letters_of_address area width.Bit) byte

-- a pointer constant, `P#2.0` or `P#M 2.0`
abbrev pub pointer_pieces : Gap → Option Letters → ℕ → ℕ → List Piece
pointer_pieces g area byte bit =
    mark_piece g mark_of.Pointer
    ∷ (pointer_byte_pieces area byte
    ++ (mark_piece gap.Nothing mark_of.Dot ∷ number_piece gap.Nothing bit ∷ []))

-- a data block, for the DI register by other letters, `DI 2`
unfoldable pub opened_block_pieces : Gap → Bool → BlockName → List Piece
opened_block_pieces g true (block.Number id) = numbered_pieces g (codes "DI") id.number
opened_block_pieces g true (block.Quoted name) = quoted_piece g name ∷ []
opened_block_pieces g false name = block_name_pieces g name

-- the instance of a call, behind its comma
unfoldable pub instance_pieces : Option BlockName → List Piece
instance_pieces None = []
instance_pieces (Some name) =
    mark_piece gap.Nothing mark_of.Comma ∷ block_name_pieces gap.Blank name

-- how an operand is written
unfoldable pub operand_pieces : Gap → Operand → List Piece
operand_pieces g operand.Nothing = []
operand_pieces g (operand.Direct name area w byte bit) = direct_pieces g name area w byte bit
operand_pieces g (operand.Timer n) = numbered_pieces g (codes "T") n
operand_pieces g (operand.Counter n) = numbered_pieces g (codes "C") n
operand_pieces g (operand.Named path steps) = path_head_pieces g path ++ steps_pieces steps
operand_pieces g (operand.ByMemory area w from byte) =
    word_piece g (letters_of_address area w) ∷ memory_pointer_pieces from width.Dword byte
operand_pieces g (operand.NumberBy what from byte) =
    word_piece g (numbered_letters what) ∷ memory_pointer_pieces from width.Word byte
operand_pieces g (operand.ByRegister area w register bits) =
    register_operand_pieces g area w register bits
operand_pieces g (operand.Pointer area byte bit) = pointer_pieces g area byte bit
operand_pieces g (operand.Constant value) = literal_pieces g value
operand_pieces g (operand.Label name) = word_piece g name ∷ []
operand_pieces g (operand.OfStatus flag) = token_piece g (flag_kind flag) (flag_text flag) ∷ []
operand_pieces g (operand.Other name) = word_piece g name ∷ []
operand_pieces g (operand.OpenBlock di name) = opened_block_pieces g di name
operand_pieces g (operand.Called name instance) =
    block_name_pieces g name ++ instance_pieces instance
