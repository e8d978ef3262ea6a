-- Instructions that are printed are read.
use Rattle.std.proofs.Common.{◌≡◌, ◌≤◌, refl, sym, ◌∙◌, ap, subst, ℕ, Bool, true, false, List, [], ◌∷◌, ◌++◌, length, Option, Some, None, arith, append_assoc}
use Rattle.std.specs.Prelude.{not, if◌then◌else◌, nat_lt}
use Rattle.std.specs.List.{AllByRecursion}
use Rattle.std.proofs.lemmas.Bool.Decides.{nat_tests}
use Rattle.std.proofs.lemmas.List.{append-nil}
use Rattle.plc_base.specs.Decimal.{decimal_up_to}
use Rattle.plc_base.specs.Kinds.{is_function_block}
use Rattle.plc_base.specs.declared.blocks.BlockId.{BlockId}
use Rattle.plc_base.specs.declared.blocks.BlockKind.TheVariants as kinds
use Rattle.stl_lexer.specs.Marks.{mark_text}
use Rattle.stl_lexer.specs.Pieces.{Piece, tokens_of}
use Rattle.stl_lexer.specs.declared.kinds.Token.{Token}
use Rattle.stl_lexer.specs.declared.marks.Mark.TheVariants as mark
use Rattle.stl_ast.specs.declared.mnemonics.Mnemonic.{Mnemonic}
use Rattle.stl_ast.specs.declared.names.BlockName.{BlockName}
use Rattle.stl_ast.specs.declared.names.BlockName.TheVariants as block
use Rattle.stl_ast.specs.declared.operands.Operand.{Operand}
use Rattle.stl_ast.specs.declared.operands.Operand.TheVariants as operand
use Rattle.stl_ast.specs.declared.statements.Actual.{Actual}
use Rattle.stl_parser.specs.Addresses.{address_at, block_at, glued_letters_and_number, letters_and_number_at, separate_letters_and_number}
use Rattle.stl_parser.specs.Literals.{literal_at, literal_of, literal_token, long_literal, truth_of}
use Rattle.stl_parser.specs.Numbers.{number_of_token, number_up_to, signed_number_at}
use Rattle.stl_parser.specs.Operands.{lone_word_operand, data_block_operand, direct_address_operand, operand_by_kind, operand_of, operand_with_number, word_operand}
use Rattle.stl_parser.specs.Statements.{actuals_of, behind_word, block_call_of, call_of, data_block_at, instance_at, is_long_label, jump_of, may_be_of_kind, open_of, statement_without_actuals as bare, statement_with_operand}
use Rattle.stl_parser.specs.Tables.{addresses, look_up}
use Rattle.stl_parser.specs.Terminals.{has_kind, is_key, is_mark, key_text}
use Rattle.stl_parser.specs.declared.tables.OperandSyntax.{OperandSyntax}
use Rattle.stl_parser.specs.declared.tables.OperandSyntax.TheVariants as operand_syntax
use Rattle.stl_print.specs.Gaps.{gap_text}
use Rattle.stl_print.specs.Names.{block_name_pieces}
use Rattle.stl_print.specs.Operands.{instance_pieces, operand_pieces, opened_block_pieces}
use Rattle.stl_print.specs.Statements.{actuals_pieces}
use Rattle.stl_print.specs.Words.{block_letters}
use Rattle.stl_print.specs.declared.gaps.Gap.{Gap}
use Rattle.stl_print.specs.declared.gaps.Gap.TheVariants as gap
use Rattle.print_laws.specs.Reading.{FitsSyntax, IsCallOperand, IsBlockCallOperand, IsDataBlock, IsFunctionBlock, IsOpenOperand, IsPrintedActual, IsPrintedOperand, IsJumpOperand, PrintedSyntax, block_call, bracket, call, empty, jump, opens, plain}
use Rattle.print_laws.proofs.parsing.Blocks.{block_read}
use Rattle.print_laws.proofs.parsing.Operands.{Texts, number_by_read, of_kind, operand_read, read_number}
use Rattle.print_laws.proofs.parsing.Passed.{actuals_read}
use Rattle.print_laws.proofs.parsing.Shown.{behind, line_past, shown_behind, shown_front, tokens_joined}
use Rattle.print_laws.proofs.parsing.Tame.{all_tame, called_tame, flat, numbered_tame, tame_line}
use Rattle.print_laws.proofs.parsing.Words.{form_of}

-- the tokens of an operand and of no actual parameters are those of the operand
pub nothing_behind : (source : List ℕ) (from line : ℕ) (g : _) (f : OperandSyntax) (code : Mnemonic) (o : Operand) (actuals : List Actual) → actuals ≡ []
    → (Texts source from line (operand_pieces g o) → behind_word source f code (tokens_of from line (operand_pieces g o)) ≡ Some (bare code o))
    → Texts source from line (operand_pieces g o ++ actuals_pieces actuals)
    → behind_word source f code (tokens_of from line (operand_pieces g o ++ actuals_pieces actuals))
    ≡ Some (record { code = code; operand = o; actuals = actuals; long = false })
nothing_behind source from line g f code o actuals none reads =
    subst (λ (l : List Actual). Texts source from line (operand_pieces g o ++ actuals_pieces l)
    → behind_word source f code (tokens_of from line (operand_pieces g o ++ actuals_pieces l))
    ≡ Some (record { code = code; operand = o; actuals = l; long = false })) (sym none)
    (subst (λ (ps : List Piece). Texts source from line ps → behind_word source f code (tokens_of from line ps) ≡ Some (bare code o))
    (sym (append-nil (operand_pieces g o))) reads)

pub plain_read : (source : List ℕ) (from line : ℕ) (g : _) (code : Mnemonic) (o : Operand) → IsPrintedOperand o → Texts source from line (operand_pieces g o)
    → behind_word source operand_syntax.Operand code (tokens_of from line (operand_pieces g o)) ≡ Some (bare code o)
unfolding behind_word statement_with_operand
plain_read source from line g code o h t = rw (operand_read source from line g o h t) refl

short : (text : List ℕ) → length text ≤ 4 → nat_lt 4 (length text) ≡ false
short text h = grind (arith, nat_tests)

pub jump_read : (source : List ℕ) (from line : ℕ) (g : _) (code : Mnemonic) (o : Operand) → IsJumpOperand o → Texts source from line (operand_pieces g o)
    → behind_word source operand_syntax.Jump code (tokens_of from line (operand_pieces g o)) ≡ Some (bare code o)
unfolding behind_word jump_of is_long_label operand_pieces has_kind
jump_read source from line g code (operand.Label name) h (_, x1, _) = rw (x1, short name h.1) refl
jump_read source from line g code operand.Nothing h t = absurd h
jump_read source from line g code (operand.Direct name area w byte bit) h t = absurd h
jump_read source from line g code (operand.Timer n) h t = absurd h
jump_read source from line g code (operand.Counter n) h t = absurd h
jump_read source from line g code (operand.Named p steps) h t = absurd h
jump_read source from line g code (operand.ByMemory area w place byte) h t = absurd h
jump_read source from line g code (operand.NumberBy what place byte) h t = absurd h
jump_read source from line g code (operand.ByRegister area w register bits) h t = absurd h
jump_read source from line g code (operand.Pointer area byte bit) h t = absurd h
jump_read source from line g code (operand.Constant l) h t = absurd h
jump_read source from line g code (operand.OfStatus f) h t = absurd h
jump_read source from line g code (operand.Other name) h t = absurd h
jump_read source from line g code (operand.OpenBlock di name) h t = absurd h
jump_read source from line g code (operand.Called name instance) h t = absurd h

data_read : (source : List ℕ) (from line : ℕ) (g : _) (n : ℕ) → n ≤ 65535
    → Texts source from line (block_name_pieces g (block.Number (record { kind = kinds.Db; number = n })))
    → operand_of source (tokens_of from line (block_name_pieces g (block.Number (record { kind = kinds.Db; number = n }))))
    ≡ Some (operand.OpenBlock false (block.Number (record { kind = kinds.Db; number = n })))
unfolding operand_of literal_of literal_at literal_token truth_of long_literal signed_number_at is_mark is_key has_kind key_text operand_by_kind word_operand lone_word_operand operand_with_number address_at letters_and_number_at separate_letters_and_number number_of_token number_up_to glued_letters_and_number look_up addresses decimal_up_to block_name_pieces block_letters direct_address_operand data_block_operand
data_read source from line g n h (_, x1, (_, x2, _)) = rw (x1, x2, read_number n h) refl

instance_read : (source : List ℕ) (from line : ℕ) (g : _) (n : ℕ) → n ≤ 65535
    → Texts source from line (opened_block_pieces g true (block.Number (record { kind = kinds.Db; number = n })))
    → operand_of source (tokens_of from line (opened_block_pieces g true (block.Number (record { kind = kinds.Db; number = n }))))
    ≡ Some (operand.OpenBlock true (block.Number (record { kind = kinds.Db; number = n })))
unfolding operand_of literal_of literal_at literal_token truth_of long_literal signed_number_at is_mark is_key has_kind key_text operand_by_kind word_operand lone_word_operand operand_with_number address_at letters_and_number_at separate_letters_and_number number_of_token number_up_to glued_letters_and_number look_up addresses decimal_up_to opened_block_pieces direct_address_operand
instance_read source from line g n h (_, x1, (_, x2, _)) = rw (x1, x2, read_number n h) refl

opened_read : (source : List ℕ) (from line : ℕ) (g : _) (di : Bool) (name : BlockName) → IsDataBlock name
    → Texts source from line (opened_block_pieces g di name) → operand_of source (tokens_of from line (opened_block_pieces g di name)) ≡ Some (operand.OpenBlock di name)
unfolding opened_block_pieces
opened_read source from line g true (block.Number id) h t =
    of_kind (λ i. Texts source from line (opened_block_pieces g true (block.Number i))
    → operand_of source (tokens_of from line (opened_block_pieces g true (block.Number i))) ≡ Some (operand.OpenBlock true (block.Number i)))
    kinds.Db id h.0 (λ u. instance_read source from line g id.number h.1 u) t
opened_read source from line g false (block.Number id) h t =
    of_kind (λ i. Texts source from line (block_name_pieces g (block.Number i))
    → operand_of source (tokens_of from line (block_name_pieces g (block.Number i))) ≡ Some (operand.OpenBlock false (block.Number i)))
    kinds.Db id h.0 (λ u. data_read source from line g id.number h.1 u) t
opened_read source from line g di (block.Quoted name) h t = absurd h

-- an operand of more tokens than one stands behind OPN as behind any other word
more_tokens : (source : List ℕ) (code : Mnemonic) (t u : Token) (rest : List Token) (o : Operand) → operand_of source (t ∷ u ∷ rest) ≡ Some o
    → behind_word source operand_syntax.Open code (t ∷ u ∷ rest) ≡ Some (bare code o)
unfolding behind_word open_of statement_with_operand
more_tokens source code t u rest o e = rw e refl

pub open_read : (source : List ℕ) (from line : ℕ) (g : _) (code : Mnemonic) (o : Operand) → IsOpenOperand o → Texts source from line (operand_pieces g o)
    → behind_word source operand_syntax.Open code (tokens_of from line (operand_pieces g o)) ≡ Some (bare code o)
unfolding operand_pieces opened_block_pieces block_name_pieces
open_read source from line g code (operand.OpenBlock true (block.Number id)) h t =
    more_tokens source code _ _ _ (operand.OpenBlock true (block.Number id)) (opened_read source from line g true (block.Number id) h t)
open_read source from line g code (operand.OpenBlock false (block.Number id)) h t =
    more_tokens source code _ _ _ (operand.OpenBlock false (block.Number id)) (opened_read source from line g false (block.Number id) h t)
open_read source from line g code (operand.OpenBlock di (block.Quoted name)) h t = absurd h
open_read source from line g code (operand.NumberBy what place byte) h t =
    more_tokens source code _ _ _ (operand.NumberBy what place byte) (number_by_read source from line g what place byte h.0 h.1 t)
open_read source from line g code operand.Nothing h t = absurd h
open_read source from line g code (operand.Direct name area w byte bit) h t = absurd h
open_read source from line g code (operand.Timer n) h t = absurd h
open_read source from line g code (operand.Counter n) h t = absurd h
open_read source from line g code (operand.Named p steps) h t = absurd h
open_read source from line g code (operand.ByMemory area w place byte) h t = absurd h
open_read source from line g code (operand.ByRegister area w register bits) h t = absurd h
open_read source from line g code (operand.Pointer area byte bit) h t = absurd h
open_read source from line g code (operand.Constant l) h t = absurd h
open_read source from line g code (operand.Label name) h t = absurd h
open_read source from line g code (operand.OfStatus f) h t = absurd h
open_read source from line g code (operand.Other name) h t = absurd h
open_read source from line g code (operand.Called name instance) h t = absurd h

-- ---- calls

block_whole : (source : List ℕ) (from line : ℕ) (g : _) (id : BlockId) → id.number ≤ 65535 → Texts source from line (block_name_pieces g (block.Number id))
    → block_at source (tokens_of from line (block_name_pieces g (block.Number id))) ≡ Some (block.Number id, [])
block_whole source from line g id h t =
    ap (block_at source) (sym (append-nil (tokens_of from line (block_name_pieces g (block.Number id))))) ∙ block_read source from line g id [] h t

pub block_call_read : (source : List ℕ) (from line : ℕ) (g : _) (code : Mnemonic) (o : Operand) → IsBlockCallOperand o → Texts source from line (operand_pieces g o)
    → behind_word source operand_syntax.BlockCall code (tokens_of from line (operand_pieces g o)) ≡ Some (bare code o)
unfolding behind_word block_call_of operand_pieces instance_pieces
block_call_read source from line g code (operand.Called (block.Number id) None) h t =
    subst (λ (ps : List Piece). Texts source from line ps → behind_word source operand_syntax.BlockCall code (tokens_of from line ps)
    ≡ Some (bare code (operand.Called (block.Number id) None))) (sym (append-nil (block_name_pieces g (block.Number id))))
    (λ u. rw (block_whole source from line g id h u) refl) t
block_call_read source from line g code (operand.Called (block.Quoted name) None) h t = absurd h
block_call_read source from line g code (operand.Called name (Some instance)) h t = absurd h
block_call_read source from line g code operand.Nothing h t = absurd h
block_call_read source from line g code (operand.Direct name area w byte bit) h t = absurd h
block_call_read source from line g code (operand.Timer n) h t = absurd h
block_call_read source from line g code (operand.Counter n) h t = absurd h
block_call_read source from line g code (operand.Named p steps) h t = absurd h
block_call_read source from line g code (operand.ByMemory area w place byte) h t = absurd h
block_call_read source from line g code (operand.NumberBy what place byte) h t = absurd h
block_call_read source from line g code (operand.ByRegister area w register bits) h t = absurd h
block_call_read source from line g code (operand.Pointer area byte bit) h t = absurd h
block_call_read source from line g code (operand.Constant l) h t = absurd h
block_call_read source from line g code (operand.Label name) h t = absurd h
block_call_read source from line g code (operand.OfStatus f) h t = absurd h
block_call_read source from line g code (operand.Other name) h t = absurd h
block_call_read source from line g code (operand.OpenBlock di name) h t = absurd h

-- no comma is at the front
begins_apart : List ℕ → List Token → Bool
begins_apart source [] = true
begins_apart source (t ∷ ts) = not (is_mark source t mark.Comma)

no_instance : (source : List ℕ) (name : BlockName) (ts : List Token) → begins_apart source ts ≡ true → instance_at source name ts ≡ Some (None, ts)
unfolding instance_at begins_apart
no_instance source name [] h = refl
no_instance source name (t ∷ ts) h = by (is_mark source t mark.Comma) _ h
  where
    by : (b : Bool) (other : Option (Option BlockName × List Token)) → not b ≡ true → (if b then other else Some (None, t ∷ ts)) ≡ Some (None, t ∷ ts)
    by false other e = refl
    by true other e = absurd cc

actuals_apart : (source : List ℕ) (from line : ℕ) (actuals : List Actual) → Texts source from line (actuals_pieces actuals)
    → begins_apart source (tokens_of from line (actuals_pieces actuals)) ≡ true
unfolding begins_apart is_mark has_kind mark_text
actuals_apart source from line [] t = refl
actuals_apart source from line (a ∷ more) (_, x1, t) = rw x1 refl

pub alone_call : (source : List ℕ) (from line at : ℕ) (g : _) (code : Mnemonic) (id : BlockId) (actuals : List Actual) → line ≡ at
    → id.number ≤ 65535 → AllByRecursion (IsPrintedActual at) actuals → all_tame (block_name_pieces g (block.Number id)) ≡ true
    → Texts source from line (block_name_pieces g (block.Number id) ++ actuals_pieces actuals)
    → behind_word source operand_syntax.Call code (tokens_of from line (block_name_pieces g (block.Number id) ++ actuals_pieces actuals))
    ≡ Some (record { code = code; operand = operand.Called (block.Number id) None; actuals = actuals; long = false })
unfolding behind_word call_of
alone_call source from line at g code id actuals here h all one t =
    let rest : Texts source (behind from (block_name_pieces g (block.Number id))) (line_past line (block_name_pieces g (block.Number id))) (actuals_pieces actuals) =
    shown_behind source from line (block_name_pieces g (block.Number id)) (actuals_pieces actuals) t in
    rw (
      tokens_joined from line (block_name_pieces g (block.Number id)) (actuals_pieces actuals),
      block_read source from line g id (tokens_of (behind from (block_name_pieces g (block.Number id))) (line_past line (block_name_pieces g (block.Number id))) (actuals_pieces actuals)) h
          (shown_front source from line (block_name_pieces g (block.Number id)) (actuals_pieces actuals) t),
      no_instance source (block.Number id) _ (actuals_apart source _ _ actuals rest),
      actuals_read source _ _ at actuals (tame_line line (block_name_pieces g (block.Number id)) one ∙ here) all rest,
    ) refl

data_behind : (source : List ℕ) (from line : ℕ) (g : _) (name : BlockName) (rest : List Token) → IsDataBlock name → Texts source from line (block_name_pieces g name)
    → data_block_at source (tokens_of from line (block_name_pieces g name) ++ rest) ≡ Some (name, rest)
unfolding data_block_at
data_behind source from line g (block.Number id) rest h t = rw (block_read source from line g id rest h.1 t, h.0) refl
data_behind source from line g (block.Quoted name) rest h t = absurd h

-- an instance stands behind a comma
some_instance : (source : List ℕ) (name instance : BlockName) (comma : Token) (ts rest : List Token) → is_mark source comma mark.Comma ≡ true
    → may_be_of_kind name is_function_block ≡ true → data_block_at source ts ≡ Some (instance, rest)
    → instance_at source name (comma ∷ ts) ≡ Some (Some instance, rest)
unfolding instance_at
some_instance source name instance comma ts rest is may found = rw (is, may, found) refl

is_function : (name : BlockName) → IsFunctionBlock name → may_be_of_kind name is_function_block ≡ true
is_function (block.Number id) h = rw h.0 refl
is_function (block.Quoted name) h = absurd h

-- what a call is, by its block, its instance and its actual parameters
call_is : (source : List ℕ) (code : Mnemonic) (name : BlockName) (instance : Option BlockName) (actuals : List Actual) (ts us vs : List Token)
    → block_at source ts ≡ Some (name, us) → instance_at source name us ≡ Some (instance, vs) → actuals_of source vs ≡ Some actuals
    → behind_word source operand_syntax.Call code ts ≡ Some (record { code = code; operand = operand.Called name instance; actuals = actuals; long = false })
unfolding behind_word call_of
call_is source code name instance actuals ts us vs a b c = rw (a, b, c) refl

instance_call : (source : List ℕ) (from line at : ℕ) (g : Gap) (code : Mnemonic) (name instance : BlockName) (actuals : List Actual) → line ≡ at
    → IsFunctionBlock name → IsDataBlock instance → AllByRecursion (IsPrintedActual at) actuals
    → all_tame (block_name_pieces g name ++ instance_pieces (Some instance)) ≡ true
    → Texts source from line ((block_name_pieces g name ++ instance_pieces (Some instance)) ++ actuals_pieces actuals)
    → behind_word source operand_syntax.Call code (tokens_of from line ((block_name_pieces g name ++ instance_pieces (Some instance)) ++ actuals_pieces actuals))
    ≡ Some (record { code = code; operand = operand.Called name (Some instance); actuals = actuals; long = false })
unfolding instance_pieces is_mark has_kind mark_text
instance_call source from line at g code (block.Quoted n) instance actuals here is db all one t = absurd is
instance_call source from line at g code (block.Number id) instance actuals here is db all one t =
    ap (behind_word source operand_syntax.Call code) joined
    ∙ call_is source code (block.Number id) (Some instance) actuals (front ++ (middle ++ last)) (middle ++ last) last
    (block_read source from line g id (middle ++ last) is.1 (shown_front source from line first second both))
    (some_instance source (block.Number id) instance _ _ last (rw inner.1 refl) (is_function (block.Number id) is) (data_behind source _ _ gap.Blank instance last db inner.2))
    (actuals_read source (behind from (first ++ second)) (line_past line (first ++ second)) at actuals (tame_line line (first ++ second) one ∙ here) all
    (shown_behind source from line (first ++ second) (actuals_pieces actuals) t))
  where
    first : List Piece
    first = block_name_pieces g (block.Number id)

    second : List Piece
    second = instance_pieces (Some instance)

    front : List Token
    front = tokens_of from line first

    middle : List Token
    middle = tokens_of (behind from first) (line_past line first) second

    last : List Token
    last = tokens_of (behind from (first ++ second)) (line_past line (first ++ second)) (actuals_pieces actuals)

    both : Texts source from line (first ++ second)
    both = shown_front source from line (first ++ second) (actuals_pieces actuals) t

    inner : Texts source (behind from first) (line_past line first) second
    inner = shown_behind source from line first second both

    joined : tokens_of from line ((first ++ second) ++ actuals_pieces actuals) ≡ front ++ (middle ++ last)
    joined =
        tokens_joined from line (first ++ second) (actuals_pieces actuals)
        ∙ ap (λ (ts : List Token). ts ++ last) (tokens_joined from line first second)
        ∙ append_assoc front middle last

-- ---- what stands behind an instruction word that is one token

call_read : (source : List ℕ) (from line at : ℕ) (g : Gap) (code : Mnemonic) (o : Operand) (actuals : List Actual) → line ≡ at
    → flat (gap_text g) ≡ true → IsCallOperand o → AllByRecursion (IsPrintedActual at) actuals → Texts source from line (operand_pieces g o ++ actuals_pieces actuals)
    → behind_word source operand_syntax.Call code (tokens_of from line (operand_pieces g o ++ actuals_pieces actuals))
    ≡ Some (record { code = code; operand = o; actuals = actuals; long = false })
unfolding operand_pieces instance_pieces
call_read source from line at g code (operand.Called (block.Number id) None) actuals here one h all t =
    subst (λ (ps : List Piece). Texts source from line (ps ++ actuals_pieces actuals)
    → behind_word source operand_syntax.Call code (tokens_of from line (ps ++ actuals_pieces actuals))
    ≡ Some (record { code = code; operand = operand.Called (block.Number id) None; actuals = actuals; long = false }))
    (sym (append-nil (block_name_pieces g (block.Number id))))
    (λ u. alone_call source from line at g code id actuals here h all (numbered_tame g (block.Number id) one h) u) t
call_read source from line at g code (operand.Called (block.Quoted n) None) actuals here one h all t = absurd h
call_read source from line at g code (operand.Called name (Some instance)) actuals here one h all t =
    instance_call source from line at g code name instance actuals here h.0 h.1 all (called_tame g (operand.Called name (Some instance)) one h) t
call_read source from line at g code operand.Nothing actuals here one h all t = absurd h
call_read source from line at g code (operand.Direct name area w byte bit) actuals here one h all t = absurd h
call_read source from line at g code (operand.Timer n) actuals here one h all t = absurd h
call_read source from line at g code (operand.Counter n) actuals here one h all t = absurd h
call_read source from line at g code (operand.Named p steps) actuals here one h all t = absurd h
call_read source from line at g code (operand.ByMemory area w place byte) actuals here one h all t = absurd h
call_read source from line at g code (operand.NumberBy what place byte) actuals here one h all t = absurd h
call_read source from line at g code (operand.ByRegister area w register bits) actuals here one h all t = absurd h
call_read source from line at g code (operand.Pointer area byte bit) actuals here one h all t = absurd h
call_read source from line at g code (operand.Constant l) actuals here one h all t = absurd h
call_read source from line at g code (operand.Label name) actuals here one h all t = absurd h
call_read source from line at g code (operand.OfStatus f) actuals here one h all t = absurd h
call_read source from line at g code (operand.Other name) actuals here one h all t = absurd h
call_read source from line at g code (operand.OpenBlock di name) actuals here one h all t = absurd h

pub behind_read : (source : List ℕ) (from line at : ℕ) (g : Gap) (s : PrintedSyntax) (code : Mnemonic) (o : Operand) (actuals : List Actual) → line ≡ at
    → flat (gap_text g) ≡ true → (s ≡ bracket → ⊥) → FitsSyntax at s o actuals → Texts source from line (operand_pieces g o ++ actuals_pieces actuals)
    → behind_word source (form_of s) code (tokens_of from line (operand_pieces g o ++ actuals_pieces actuals))
    ≡ Some (record { code = code; operand = o; actuals = actuals; long = false })
behind_read source from line at g plain code o actuals here one apart h t =
    nothing_behind source from line g operand_syntax.Operand code o actuals h.1 (λ u. plain_read source from line g code o h.0 u) t
behind_read source from line at g bracket code o actuals here one apart h t = absurd (apart refl)
behind_read source from line at g jump code o actuals here one apart h t =
    nothing_behind source from line g operand_syntax.Jump code o actuals h.1 (λ u. jump_read source from line g code o h.0 u) t
behind_read source from line at g opens code o actuals here one apart h t =
    nothing_behind source from line g operand_syntax.Open code o actuals h.1 (λ u. open_read source from line g code o h.0 u) t
behind_read source from line at g block_call code o actuals here one apart h t =
    nothing_behind source from line g operand_syntax.BlockCall code o actuals h.1 (λ u. block_call_read source from line g code o h.0 u) t
behind_read source from line at g call code o actuals here one apart h t = call_read source from line at g code o actuals here one h.0 h.1 t
behind_read source from line at g empty code o actuals here one apart h t = absurd h
