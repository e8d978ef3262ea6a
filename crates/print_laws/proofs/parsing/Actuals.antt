-- Actual parameters that are printed are read.
use Rattle.std.proofs.Common.{◌≡◌, refl, ℕ, Bool, true, false, List, [], ◌∷◌, ◌++◌, length, Some, None, pos, negsuc, arith}
use Rattle.std.specs.Prelude.{◌&&◌, not}
use Rattle.std.proofs.lemmas.Bool.{and_parts}
use Rattle.plc_base.specs.declared.places.Width.{Width}
use Rattle.plc_base.specs.declared.places.Width.TheVariants as width
use Rattle.stl_lexer.specs.Marks.{mark_text}
use Rattle.stl_lexer.specs.Pieces.{tokens_of}
use Rattle.stl_lexer.specs.declared.kinds.Token.{Token}
use Rattle.stl_lexer.specs.declared.kinds.TokenKind.TheVariants as kind
use Rattle.stl_lexer.specs.declared.marks.Mark.TheVariants as mark
use Rattle.stl_ast.specs.declared.literals.Literal.TheVariants as literal
use Rattle.stl_ast.specs.declared.names.BlockName.TheVariants as block
use Rattle.stl_ast.specs.declared.operands.Operand.{Operand}
use Rattle.stl_ast.specs.declared.operands.Operand.TheVariants as operand
use Rattle.stl_ast.specs.declared.operands.PathHead.TheVariants as head
use Rattle.stl_parser.specs.Operands.{operand_of}
use Rattle.stl_parser.specs.Statements.{value_ends, value_length, value_of}
use Rattle.stl_parser.specs.Terminals.{has_kind, is_mark}
use Rattle.stl_print.specs.Literals.{literal_pieces}
use Rattle.stl_print.specs.Names.{block_name_pieces}
use Rattle.stl_print.specs.Operands.{bit_pieces, direct_pieces, operand_pieces, path_head_pieces}
use Rattle.print_laws.specs.Reading.{IsPassedOperand, IsPrintedOperand}
use Rattle.print_laws.proofs.parsing.Shown.{lacks, without}

-- what is passed is an operand
pub passed_printed : (o : Operand) → IsPassedOperand o → IsPrintedOperand o
passed_printed (operand.Direct name area w byte bit) h = h
passed_printed (operand.Named (head.Local name) []) h = h
passed_printed (operand.Named (head.Local name) (s ∷ steps)) h = absurd h
passed_printed (operand.Named (head.InBlock name) steps) h = absurd h
passed_printed (operand.Named (head.Symbol name) steps) h = absurd h
passed_printed (operand.Constant l) h = h
passed_printed operand.Nothing h = absurd h
passed_printed (operand.Timer n) h = absurd h
passed_printed (operand.Counter n) h = absurd h
passed_printed (operand.ByMemory area w place byte) h = absurd h
passed_printed (operand.NumberBy what place byte) h = absurd h
passed_printed (operand.ByRegister area w register bits) h = absurd h
passed_printed (operand.Pointer area byte bit) h = absurd h
passed_printed (operand.Label name) h = absurd h
passed_printed (operand.OfStatus f) h = absurd h
passed_printed (operand.Other name) h = absurd h
passed_printed (operand.OpenBlock di name) h = absurd h
passed_printed (operand.Called name instance) h = absurd h

-- it has no comma
direct_lacks : (g : _) (name : _) (area : _) (w : Width) (byte bit : ℕ) → IsPassedOperand (operand.Direct name area w byte bit)
    → lacks mark.Comma (direct_pieces g name area w byte bit) ≡ true
unfolding direct_pieces bit_pieces block_name_pieces mark_text
direct_lacks g None area width.Bit byte bit h = refl
direct_lacks g None area width.Byte byte bit h = refl
direct_lacks g None area width.Word byte bit h = refl
direct_lacks g None area width.Dword byte bit h = refl
direct_lacks g (Some (block.Number id)) area width.Bit byte bit h = refl
direct_lacks g (Some (block.Number id)) area width.Byte byte bit h = refl
direct_lacks g (Some (block.Number id)) area width.Word byte bit h = refl
direct_lacks g (Some (block.Number id)) area width.Dword byte bit h = refl
direct_lacks g (Some (block.Quoted n)) area w byte bit h = absurd h.0.0

pub passed_lacks : (g : _) (o : Operand) → IsPassedOperand o → lacks mark.Comma (operand_pieces g o) ≡ true
unfolding operand_pieces path_head_pieces literal_pieces mark_text
passed_lacks g (operand.Direct name area w byte bit) h = direct_lacks g name area w byte bit h
passed_lacks g (operand.Named (head.Local name) []) h = refl
passed_lacks g (operand.Named (head.Local name) (s ∷ steps)) h = absurd h
passed_lacks g (operand.Named (head.InBlock name) steps) h = absurd h
passed_lacks g (operand.Named (head.Symbol name) steps) h = absurd h
passed_lacks g (operand.Constant (literal.Truth v)) h = refl
passed_lacks g (operand.Constant (literal.Number (pos n))) h = refl
passed_lacks g (operand.Constant (literal.Number (negsuc n))) h = refl
passed_lacks g (operand.Constant (literal.Byte v)) h = refl
passed_lacks g (operand.Constant (literal.Word v)) h = refl
passed_lacks g (operand.Constant (literal.Dword v)) h = refl
passed_lacks g (operand.Constant (literal.Long v)) h = refl
passed_lacks g (operand.Constant (literal.Time v)) h = refl
passed_lacks g (operand.Constant (literal.Binary v)) h = absurd h
passed_lacks g (operand.Constant (literal.Count v)) h = absurd h
passed_lacks g (operand.Constant (literal.S5time v)) h = absurd h
passed_lacks g (operand.Constant (literal.Characters v)) h = absurd h
passed_lacks g (operand.Constant (literal.Bytes v)) h = absurd h
passed_lacks g operand.Nothing h = absurd h
passed_lacks g (operand.Timer n) h = absurd h
passed_lacks g (operand.Counter n) h = absurd h
passed_lacks g (operand.ByMemory area w place byte) h = absurd h
passed_lacks g (operand.NumberBy what place byte) h = absurd h
passed_lacks g (operand.ByRegister area w register bits) h = absurd h
passed_lacks g (operand.Pointer area byte bit) h = absurd h
passed_lacks g (operand.Label name) h = absurd h
passed_lacks g (operand.OfStatus f) h = absurd h
passed_lacks g (operand.Other name) h = absurd h
passed_lacks g (operand.OpenBlock di name) h = absurd h
passed_lacks g (operand.Called name instance) h = absurd h

-- a value ends where what follows it says so
no_end : (source : List ℕ) (v : Token) (rest : List Token) → not (is_mark source v mark.Comma) ≡ true → (rest ≡ [] → ⊥)
    → value_ends source (v ∷ rest) ≡ false
unfolding value_ends
no_end source v [] h some = absurd (some refl)
no_end source v (w ∷ []) h some = refl
no_end source v (w ∷ a ∷ rest) h some = by (is_mark source v mark.Comma) h
  where
    by : (b : Bool) → not b ≡ true → (b && has_kind w kind.Word && is_mark source a mark.Assign) ≡ false
    by false e = refl
    by true e = absurd cc

some_joined : (vs fs : List Token) → (fs ≡ [] → ⊥) → vs ++ fs ≡ [] → ⊥
some_joined [] fs some e = some e
some_joined (v ∷ vs) fs some e = absurd cc

pub value_counted : (source : List ℕ) (vs fs : List Token) → without source mark.Comma vs ≡ true → (fs ≡ [] → ⊥) → value_ends source fs ≡ true
    → value_length source (vs ++ fs) ≡ length vs
unfolding value_length
value_counted source [] [] all some ends = absurd (some refl)
value_counted source [] (f ∷ fs) all some ends = rw ends refl
value_counted source (v ∷ vs) fs all some ends =
    let parts : (not (is_mark source v mark.Comma) ≡ true) × (without source mark.Comma vs ≡ true) = and_parts (not (is_mark source v mark.Comma)) (without source mark.Comma vs) all in
    rw (no_end source v (vs ++ fs) parts.0 (some_joined vs fs some)) (omega (arith, value_counted source vs fs parts.1 some ends))

-- a value isn't empty
pub value_is : (source : List ℕ) (g : _) (from line : ℕ) (o : Operand) → IsPassedOperand o → operand_of source (tokens_of from line (operand_pieces g o)) ≡ Some o
    → value_of source (tokens_of from line (operand_pieces g o)) ≡ Some o
unfolding value_of operand_of
value_is source g from line o h e = by (tokens_of from line (operand_pieces g o)) e
  where
    by : (ts : List Token) → operand_of source ts ≡ Some o → value_of source ts ≡ Some o
    by [] is = absurd (empty o h is)
      where
        empty : (o : Operand) → IsPassedOperand o → operand_of source [] ≡ Some o → ⊥
        empty operand.Nothing h is = absurd h
        empty _ h is = absurd cc
    by (t ∷ ts) is = is
