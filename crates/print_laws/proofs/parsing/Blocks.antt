-- Names of blocks that are printed are read.
use Rattle.std.proofs.Common.{◌≡◌, ◌≤◌, refl, ℕ, List, ◌++◌, Some, None}
use Rattle.plc_base.specs.Decimal.{decimal_up_to}
use Rattle.plc_base.specs.declared.blocks.BlockId.{BlockId}
use Rattle.plc_base.specs.declared.blocks.BlockKind.{BlockKind}
use Rattle.plc_base.specs.declared.blocks.BlockKind.TheVariants as kinds
use Rattle.stl_lexer.specs.Pieces.{tokens_of}
use Rattle.stl_lexer.specs.declared.kinds.Token.{Token}
use Rattle.stl_ast.specs.declared.names.BlockName.TheVariants as block
use Rattle.stl_parser.specs.Addresses.{block_at, block_number_at, glued_letters_and_number, letters_and_number_at, separate_letters_and_number}
use Rattle.stl_parser.specs.Numbers.{number_of_token, number_up_to}
use Rattle.stl_parser.specs.Tables.{block_kinds, look_up}
use Rattle.stl_parser.specs.Terminals.{has_kind}
use Rattle.stl_print.specs.Names.{block_name_pieces}
use Rattle.stl_print.specs.Words.{block_letters}
use Rattle.print_laws.proofs.parsing.Operands.{Texts, read_number}

kind_found : (k : BlockKind) → look_up block_kinds (block_letters k) ≡ Some k
unfolding look_up block_kinds block_letters
kind_found kinds.Ob = refl
kind_found kinds.Fc = refl
kind_found kinds.Fb = refl
kind_found kinds.Db = refl
kind_found kinds.Sfc = refl
kind_found kinds.Udt = refl

kind_alone : (k : BlockKind) (rest : List Token) → glued_letters_and_number block_kinds (block_letters k) rest ≡ None
unfolding glued_letters_and_number look_up block_kinds block_letters decimal_up_to
kind_alone kinds.Ob rest = refl
kind_alone kinds.Fc rest = refl
kind_alone kinds.Fb rest = refl
kind_alone kinds.Db rest = refl
kind_alone kinds.Sfc rest = refl
kind_alone kinds.Udt rest = refl

-- a block by kind and number, before anything
pub block_read : (source : List ℕ) (from line : ℕ) (g : _) (id : BlockId) (rest : List Token) → id.number ≤ 65535
    → Texts source from line (block_name_pieces g (block.Number id))
    → block_at source (tokens_of from line (block_name_pieces g (block.Number id)) ++ rest) ≡ Some (block.Number id, rest)
unfolding block_name_pieces block_at block_number_at letters_and_number_at separate_letters_and_number has_kind number_of_token number_up_to
block_read source from line g id rest h (_, x1, (_, x2, _)) =
    rw (x1, kind_alone id.kind, kind_found id.kind, x2, read_number id.number h) refl
