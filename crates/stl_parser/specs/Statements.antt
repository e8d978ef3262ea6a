-- Instructions and statements.
use Rattle.std.specs.Prelude.{ℕ, ◌+◌, nat_lt, Bool, true, false, ◌&&◌, ◌||◌, if◌then◌else◌, List, [], ◌∷◌, length, take, drop, Option, Some, None}
use Rattle.std.specs.Option.{option_map, option_or, option_and_then}
use Rattle.plc_base.specs.Kinds.{is_function_block, is_data_block}
use Rattle.plc_base.specs.declared.blocks.BlockKind.{BlockKind}
use Rattle.stl_lexer.specs.declared.kinds.Token.{Token}
use Rattle.stl_lexer.specs.declared.kinds.TokenKind.TheVariants as kind
use Rattle.stl_lexer.specs.Tokens.{text_of}
use Rattle.stl_ast.specs.declared.mnemonics.Mnemonic.{Mnemonic}
use Rattle.stl_ast.specs.declared.mnemonics.Mnemonic.TheVariants as mnemonic
use Rattle.stl_ast.specs.declared.names.BlockName.{BlockName}
use Rattle.stl_ast.specs.declared.names.BlockName.TheVariants as block
use Rattle.stl_ast.specs.declared.operands.Operand.{Operand}
use Rattle.stl_ast.specs.declared.operands.Operand.TheVariants as operand
use Rattle.stl_ast.specs.declared.statements.Actual.{Actual}
use Rattle.stl_ast.specs.declared.statements.Statement.{Statement}
use Rattle.stl_lexer.specs.declared.marks.Mark.TheVariants as mark
use Rattle.stl_parser.specs.declared.keywords.ClauseWord.TheVariants as key
use Rattle.stl_parser.specs.declared.statements.BareStatement.{BareStatement}
use Rattle.stl_parser.specs.declared.tables.OperandSyntax.{OperandSyntax}
use Rattle.stl_parser.specs.declared.tables.OperandSyntax.TheVariants as operand_syntax
use Rattle.stl_parser.specs.Terminals.{has_kind, is_mark, is_key}
use Rattle.stl_parser.specs.Tables.{look_up, mnemonics, opening_mnemonics}
use Rattle.stl_parser.specs.Parts.{parts_from, complete_reading}
use Rattle.stl_parser.specs.Literals.{text_between_quotes}
use Rattle.stl_parser.specs.Addresses.{block_at}
use Rattle.stl_parser.specs.Operands.{operand_of}

-- the value of an actual parameter ends before a `)` that is last, and before a comma with the next
-- parameter
unfoldable pub value_ends : List ℕ → List Token → Bool
value_ends source (close ∷ []) = is_mark source close mark.CloseParen
value_ends source (comma ∷ w ∷ assign ∷ rest) =
    is_mark source comma mark.Comma && has_kind w kind.Word && is_mark source assign mark.Assign
value_ends source _ = false

-- how many tokens the value at the front has
unfoldable pub value_length : List ℕ → List Token → ℕ
value_length source [] = 0
value_length source (t ∷ rest) =
    if value_ends source (t ∷ rest) then 0 else 1 + value_length source rest

-- the value of an actual parameter: any operand but none
unfoldable pub value_of : List ℕ → List Token → Option Operand
value_of source [] = None
value_of source (t ∷ rest) = operand_of source (t ∷ rest)

-- an actual parameter, `word := value`, and what follows
unfoldable pub actual_at : List ℕ → List Token → Option (Actual × List Token)
actual_at source (w ∷ assign ∷ rest) =
    if has_kind w kind.Word && is_mark source assign mark.Assign
    then option_map
    (λ value. (
      record { line = w.line; name = text_of source w; value = value },
      drop (value_length source rest) rest,
    ))
    (value_of source (take (value_length source rest) rest))
    else None
actual_at source _ = None

-- a further actual parameter, behind its comma
unfoldable pub next_actual : List ℕ → List Token → Option (Actual × List Token)
next_actual source [] = None
next_actual source (t ∷ rest) = if is_mark source t mark.Comma then actual_at source rest else None

-- the end of actual parameters: `)` as the last token
unfoldable pub actuals_end : List ℕ → List Token → Option (List Token)
actuals_end source (t ∷ []) = if is_mark source t mark.CloseParen then Some [] else None
actuals_end source _ = None

-- the actual parameters behind `(`, with its `)` as the last token
unfoldable pub actuals_behind : List ℕ → List Token → Option (List Actual)
actuals_behind source tokens =
    option_and_then
    (λ r. complete_reading
    (parts_from (actuals_end source) (next_actual source) (r.0 ∷ []) (length r.1) r.1))
    (actual_at source tokens)

-- the actual parameters of a call: none, or those in parentheses
unfoldable pub actuals_of : List ℕ → List Token → Option (List Actual)
actuals_of source [] = Some []
actuals_of source (t ∷ rest) =
    if is_mark source t mark.OpenParen then actuals_behind source rest else None

-- the name may be that of a block whose kind passes the test: a number of such a kind, or a quoted
-- name
abbrev pub may_be_of_kind : BlockName → (BlockKind → Bool) → Bool
may_be_of_kind (block.Number id) test = test id.kind
may_be_of_kind (block.Quoted name) test = true

-- the data block behind the comma of a call
unfoldable pub data_block_at : List ℕ → List Token → Option (BlockName × List Token)
data_block_at source tokens =
    option_and_then (λ r. if may_be_of_kind r.0 is_data_block then Some r else None)
    (block_at source tokens)

-- the instance of a call, `, DB n` behind a function block, and what follows
unfoldable pub instance_at : List ℕ → BlockName → List Token
    → Option (Option BlockName × List Token)
instance_at source name [] = Some (None, [])
instance_at source name (t ∷ rest) =
    if is_mark source t mark.Comma
    then (if may_be_of_kind name is_function_block
    then option_map (λ r. (Some r.0, r.1)) (data_block_at source rest) else None)
    else Some (None, t ∷ rest)

-- an instruction without actual parameters and without a label that is too long
abbrev pub statement_without_actuals : Mnemonic → Operand → BareStatement
statement_without_actuals code o = record { code = code; operand = o; actuals = []; long = false }

-- the call that stands behind the word CALL
unfoldable pub call_of : List ℕ → Mnemonic → List Token → Option BareStatement
call_of source code tokens =
    option_and_then (λ b. option_and_then (λ i. option_map
    (λ actuals. record {
      code = code;
      operand = operand.Called b.0 i.0;
      actuals = actuals;
      long = false;
    })
    (actuals_of source i.1)) (instance_at source b.0 b.1)) (block_at source tokens)

-- the call of one block that stands behind the word UC or CC
unfoldable pub block_call_of : List ℕ → Mnemonic → List Token → Option BareStatement
block_call_of source code tokens =
    option_map (λ name. statement_without_actuals code (operand.Called name None))
    (complete_reading (block_at source tokens))

-- an instruction with an operand of any form, behind the word
unfoldable pub statement_with_operand : List ℕ → Mnemonic → List Token → Option BareStatement
statement_with_operand source code tokens =
    option_map (statement_without_actuals code) (operand_of source tokens)

-- a label is too long: it has more than four characters
unfoldable pub is_long_label : List ℕ → Token → Bool
is_long_label source t = nat_lt 4 (length (text_of source t))

-- a jump, behind the word: a word that stands alone is its label
unfoldable pub jump_of : List ℕ → Mnemonic → List Token → Option BareStatement
jump_of source code (t ∷ []) =
    if has_kind t kind.Word
    then Some
    (record {
      code = code;
      operand = operand.Label
          (text_of source t);
      actuals = [];
      long = is_long_label source t;
    })
    else statement_with_operand source code (t ∷ [])
jump_of source code tokens = statement_with_operand source code tokens

-- OPN, behind the word: a quoted name that stands alone is a data block for the DB register
unfoldable pub open_of : List ℕ → Mnemonic → List Token → Option BareStatement
open_of source code (t ∷ []) =
    if has_kind t kind.Quoted
    then Some
    (statement_without_actuals code
    (operand.OpenBlock false (block.Quoted (text_between_quotes (text_of source t)))))
    else statement_with_operand source code (t ∷ [])
open_of source code tokens = statement_with_operand source code tokens

-- what may stand behind an instruction word of this form
unfoldable pub behind_word : List ℕ → OperandSyntax → Mnemonic → List Token → Option BareStatement
behind_word source operand_syntax.Operand code tokens = statement_with_operand source code tokens
behind_word source operand_syntax.Jump code tokens = jump_of source code tokens
behind_word source operand_syntax.Open code tokens = open_of source code tokens
behind_word source operand_syntax.BlockCall code tokens = block_call_of source code tokens
behind_word source operand_syntax.Call code tokens = call_of source code tokens

-- the tokens behind a `(` at the front
unfoldable pub after_paren : List ℕ → List Token → Option (List Token)
after_paren source [] = None
after_paren source (t ∷ rest) = if is_mark source t mark.OpenParen then Some rest else None

-- an instruction word that opens a bracket or a zone: the word and a `(`
unfoldable pub opening_instruction : List ℕ → Token → List Token → Option BareStatement
opening_instruction source t rest =
    option_and_then (λ code. option_and_then (λ behind. statement_with_operand source code behind)
    (after_paren source rest))
    (look_up opening_mnemonics (text_of source t))

-- `)MCR`, which ends a zone: a `)` and the word
unfoldable pub zone_end_of : List ℕ → Token → List Token → Option BareStatement
zone_end_of source t [] = None
zone_end_of source t (w ∷ rest) =
    if is_mark source t mark.CloseParen && is_key source w key.Mcr
    then statement_with_operand source mnemonic.McrClose rest else None

-- an instruction whose word is one token
unfoldable pub one_token_instruction : List ℕ → Token → List Token → Option BareStatement
one_token_instruction source t rest =
    option_and_then (λ m. behind_word source m.1 m.0 rest) (look_up mnemonics (text_of source t))

-- an instruction that is all of the tokens
unfoldable pub instruction_of : List ℕ → List Token → Option BareStatement
instruction_of source [] = None
instruction_of source (t ∷ rest) =
    option_or (opening_instruction source t rest)
    (option_or (zone_end_of source t rest) (one_token_instruction source t rest))

-- an instruction as a statement, with its line and its label
abbrev pub statement_with_label : ℕ → Option (List ℕ) → BareStatement → Statement
statement_with_label line label i =
    record { line = line; label = label; code = i.code; operand = i.operand; actuals = i.actuals }

-- a statement with a label, behind the `:`
unfoldable pub labelled_statement : List ℕ → ℕ → Token → List Token → Option (Statement × Bool)
labelled_statement source line w rest =
    option_map
    (λ i. (statement_with_label line (Some (text_of source w)) i, i.long || is_long_label source w))
    (instruction_of source rest)

-- a statement without a label
unfoldable pub unlabelled_statement : List ℕ → ℕ → List Token → Option (Statement × Bool)
unlabelled_statement source line tokens =
    option_map (λ i. (statement_with_label line None i, i.long)) (instruction_of source tokens)

-- a statement that is all of the tokens before its `;`, and whether a label in it is too long
unfoldable pub statement_of : List ℕ → ℕ → List Token → Option (Statement × Bool)
statement_of source line [] =
    Some (
      statement_with_label line None
          (statement_without_actuals mnemonic.Empty operand.Nothing),
      false,
    )
statement_of source line (w ∷ []) = unlabelled_statement source line (w ∷ [])
statement_of source line (w ∷ colon ∷ rest) =
    if has_kind w kind.Word && is_mark source colon mark.Colon
    then labelled_statement source line w rest
    else unlabelled_statement source line (w ∷ colon ∷ rest)
