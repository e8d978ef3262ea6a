-- Letters with a number, which may stand without a blank.
use Rattle.std.specs.Prelude.{ℕ, nat_le, Bool, ◌&&◌, is_some, if◌then◌else◌, false, List, [], ◌∷◌, take, drop, Option, Some, None}
use Rattle.std.specs.Option.{option_map, option_or, option_and_then}
use Rattle.std.specs.List.{list_all}
use Rattle.std.specs.Char.{is_ascii_digit}
use Rattle.plc_base.specs.Decimal.{decimal_up_to}
use Rattle.plc_base.specs.declared.blocks.BlockKind.{BlockKind}
pub use Rattle.stl_lexer.specs.Bytes.{letter_count}
use Rattle.stl_lexer.specs.declared.kinds.Token.{Token}
use Rattle.stl_lexer.specs.declared.kinds.TokenKind.TheVariants as kind
use Rattle.stl_lexer.specs.Limits.{greatest_number}
use Rattle.stl_lexer.specs.Tokens.{text_of}
use Rattle.stl_ast.specs.declared.names.BlockName.{BlockName}
use Rattle.stl_ast.specs.declared.names.BlockName.TheVariants as block
use Rattle.stl_lexer.specs.declared.marks.Mark.TheVariants as mark
use Rattle.stl_parser.specs.declared.tables.AddressKind.{AddressKind}
use Rattle.stl_parser.specs.Terminals.{has_kind, is_mark}
use Rattle.stl_parser.specs.Tables.{look_up, block_kinds, addresses}
use Rattle.stl_parser.specs.Numbers.{number_of_token}
use Rattle.stl_parser.specs.Literals.{text_between_quotes}

-- what the letters of a word name in a table, the number behind them in the same word, and what
-- follows the word
unfoldable pub glued_letters_and_number : {X : Type 0} → List (List ℕ × X) → List ℕ → List Token
    → Option (X × ℕ × List Token)
glued_letters_and_number table text rest =
    option_and_then (λ x. option_map (λ n. (x, n, rest))
    (decimal_up_to (greatest_number false) (drop (letter_count text) text)))
    (look_up table (take (letter_count text) text))

-- what a word names in a table, the number that the token behind it is, and what follows that
unfoldable pub separate_letters_and_number : {X : Type 0} → List (List ℕ × X) → List ℕ → List ℕ
    → List Token → Option (X × ℕ × List Token)
separate_letters_and_number table source text [] = None
separate_letters_and_number table source text (n ∷ rest) =
    option_and_then (λ x. option_map (λ number. (x, number, rest)) (number_of_token source n))
    (look_up table text)

-- what the letters at the front name in a table, the number behind them, in the same word or in the
-- next token, and what follows
unfoldable pub letters_and_number_at : {X : Type 0} → List (List ℕ × X) → List ℕ → List Token
    → Option (X × ℕ × List Token)
letters_and_number_at table source [] = None
letters_and_number_at table source (w ∷ rest) =
    if has_kind w kind.Word
    then option_or (glued_letters_and_number table (text_of source w) rest)
    (separate_letters_and_number table source (text_of source w) rest)
    else None

-- an address, as `MW 2`, or a block, as `DB 10`, each with what follows
unfoldable pub address_at : List ℕ → List Token → Option (AddressKind × ℕ × List Token)
address_at source tokens = letters_and_number_at addresses source tokens

-- a block by kind and number, as `DB 10` or `DB10`, and what follows
unfoldable pub block_number_at : List ℕ → List Token → Option (BlockKind × ℕ × List Token)
block_number_at source tokens = letters_and_number_at block_kinds source tokens

-- a quoted name as the name of a block, and what follows
unfoldable pub quoted_block_at : List ℕ → List Token → Option (BlockName × List Token)
quoted_block_at source [] = None
quoted_block_at source (t ∷ rest) =
    if has_kind t kind.Quoted
    then Some (block.Quoted (text_between_quotes (text_of source t)), rest) else None

-- a block by kind and number or by its quoted name, and what follows
unfoldable pub block_at : List ℕ → List Token → Option (BlockName × List Token)
block_at source tokens =
    option_or
    (option_map (λ r. (block.Number (record { kind = r.0; number = r.1 }), r.2))
    (block_number_at source tokens))
    (quoted_block_at source tokens)

-- the number of a bit, 0 to 7, behind its `.`
unfoldable pub bit_of : List ℕ → List Token → Option ℕ
bit_of source (dot ∷ b ∷ []) =
    if is_mark source dot mark.Dot
    then option_and_then (λ n. if nat_le n 7 then Some n else None) (number_of_token source b) else None
bit_of source _ = None

-- a word is the letters of an address, alone or with digits
unfoldable pub is_address_word : List ℕ → Bool
is_address_word text =
    is_some (look_up addresses (take (letter_count text) text))
    && list_all is_ascii_digit (drop (letter_count text) text)
