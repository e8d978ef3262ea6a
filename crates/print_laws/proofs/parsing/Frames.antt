-- The clauses of a block that begin with a keyword are read, and stand where they may.
use Rattle.std.proofs.Common.{◌≡◌, ◌≤◌, ◌+◌, refl, sym, ap, ℕ, false, List, ◌++◌, Option, Some, None}
use Rattle.std.specs.Prelude.{sum_by}
use Rattle.std.specs.Option.{option_map}
use Rattle.plc_base.specs.declared.blocks.BlockId.{BlockId}
use Rattle.plc_base.specs.declared.blocks.BlockKind.{BlockKind}
use Rattle.plc_base.specs.declared.blocks.BlockKind.TheVariants as kinds
use Rattle.stl_lexer.specs.Gap.{newlines_of}
use Rattle.stl_lexer.specs.Marks.{mark_text}
use Rattle.stl_lexer.specs.Pieces.{tokens_of}
use Rattle.stl_lexer.specs.declared.kinds.Token.{Token}
use Rattle.stl_ast.specs.declared.blocks.PartKind.{PartKind}
use Rattle.stl_ast.specs.declared.blocks.PartKind.TheVariants as part
use Rattle.stl_ast.specs.declared.declarations.Simple.{Simple}
use Rattle.stl_ast.specs.declared.declarations.Simple.TheVariants as simple
use Rattle.stl_ast.specs.declared.names.BlockName.{BlockName}
use Rattle.stl_ast.specs.declared.names.BlockName.TheVariants as block
use Rattle.stl_ast.specs.WellFormed.{MayReturn}
use Rattle.stl_parser.specs.Clauses.{base_block_at, clause_at, clause_by_kind, free_word_clause, keyword_clause, other_clause, result_at, result_type, skip_semicolon, structure_end, word_clause}
use Rattle.stl_parser.specs.Declarations.{after_colon}
use Rattle.stl_parser.specs.Tables.{head_words, keywords, look_up}
use Rattle.stl_parser.specs.Terminals.{has_kind, is_key, is_mark, key_text}
use Rattle.stl_parser.specs.declared.clauses.Clause.TheVariants as clause
use Rattle.stl_parser.specs.declared.places.ClausePlace.{ClausePlace}
use Rattle.stl_parser.specs.declared.places.ClausePlace.TheVariants as place
use Rattle.stl_print.specs.Clauses.{clause_pieces, result_pieces}
use Rattle.stl_print.specs.Gaps.{gap_text}
use Rattle.stl_print.specs.Names.{block_name_pieces}
use Rattle.stl_print.specs.Words.{block_letters, end_word, section_word, type_word}
use Rattle.stl_print.specs.declared.gaps.Gap.{Gap}
use Rattle.print_laws.specs.Reading.{IsFunctionBlock}
use Rattle.print_laws.proofs.parsing.Blocks.{block_read}
use Rattle.print_laws.proofs.parsing.Operands.{Texts, of_kind}
use Rattle.print_laws.proofs.parsing.Types.{type_found}

-- ---- keywords alone

pub ends_read : (source : List ℕ) (from line : ℕ) (g : Gap) (p : ClausePlace) (at : ℕ) (k : BlockKind) (rest : List Token) → (k ≡ kinds.Sfc → ⊥)
    → line + sum_by newlines_of (gap_text g) ≡ at → Texts source from line (clause_pieces g (clause.Ends at k))
    → clause_at source p (tokens_of from line (clause_pieces g (clause.Ends at k)) ++ rest) ≡ Some (clause.Ends at k, rest, false)
unfolding clause_pieces clause_at clause_by_kind word_clause keyword_clause look_up keywords end_word
ends_read source from line g p at kinds.Ob rest apart here (_, x1, _) = rw x1 (ap (λ (n : ℕ). Some (clause.Ends n kinds.Ob, rest, false)) here)
ends_read source from line g p at kinds.Fc rest apart here (_, x1, _) = rw x1 (ap (λ (n : ℕ). Some (clause.Ends n kinds.Fc, rest, false)) here)
ends_read source from line g p at kinds.Fb rest apart here (_, x1, _) = rw x1 (ap (λ (n : ℕ). Some (clause.Ends n kinds.Fb, rest, false)) here)
ends_read source from line g p at kinds.Db rest apart here (_, x1, _) = rw x1 (ap (λ (n : ℕ). Some (clause.Ends n kinds.Db, rest, false)) here)
ends_read source from line g p at kinds.Udt rest apart here (_, x1, _) = rw x1 (ap (λ (n : ℕ). Some (clause.Ends n kinds.Udt, rest, false)) here)
ends_read source from line g p at kinds.Sfc rest apart here t = absurd (apart refl)

pub section_read : (source : List ℕ) (from line : ℕ) (g : Gap) (p : ClausePlace) (at : ℕ) (k : PartKind) (rest : List Token)
    → line + sum_by newlines_of (gap_text g) ≡ at → Texts source from line (clause_pieces g (clause.Section at k))
    → clause_at source p (tokens_of from line (clause_pieces g (clause.Section at k)) ++ rest) ≡ Some (clause.Section at k, rest, false)
unfolding clause_pieces clause_at clause_by_kind word_clause keyword_clause look_up keywords section_word
section_read source from line g p at part.Input rest here (_, x1, _) = rw x1 (ap (λ (n : ℕ). Some (clause.Section n part.Input, rest, false)) here)
section_read source from line g p at part.Output rest here (_, x1, _) = rw x1 (ap (λ (n : ℕ). Some (clause.Section n part.Output, rest, false)) here)
section_read source from line g p at part.InOut rest here (_, x1, _) = rw x1 (ap (λ (n : ℕ). Some (clause.Section n part.InOut, rest, false)) here)
section_read source from line g p at part.Static rest here (_, x1, _) = rw x1 (ap (λ (n : ℕ). Some (clause.Section n part.Static, rest, false)) here)
section_read source from line g p at part.Temp rest here (_, x1, _) = rw x1 (ap (λ (n : ℕ). Some (clause.Section n part.Temp, rest, false)) here)

pub end_section_read : (source : List ℕ) (from line : ℕ) (g : Gap) (p : ClausePlace) (rest : List Token) → Texts source from line (clause_pieces g clause.EndSection)
    → clause_at source p (tokens_of from line (clause_pieces g clause.EndSection) ++ rest) ≡ Some (clause.EndSection, rest, false)
unfolding clause_pieces clause_at clause_by_kind word_clause keyword_clause look_up keywords
end_section_read source from line g p rest (_, x1, _) = rw x1 refl

pub begin_read : (source : List ℕ) (from line : ℕ) (g : Gap) (p : ClausePlace) (rest : List Token) → Texts source from line (clause_pieces g clause.Begins)
    → clause_at source p (tokens_of from line (clause_pieces g clause.Begins) ++ rest) ≡ Some (clause.Begins, rest, false)
unfolding clause_pieces clause_at clause_by_kind word_clause keyword_clause look_up keywords
begin_read source from line g p rest (_, x1, _) = rw x1 refl

pub structure_read : (source : List ℕ) (from line : ℕ) (g : Gap) (p : ClausePlace) (rest : List Token) → Texts source from line (clause_pieces g clause.Structure)
    → clause_at source p (tokens_of from line (clause_pieces g clause.Structure) ++ rest) ≡ Some (clause.Structure, rest, false)
unfolding clause_pieces clause_at clause_by_kind word_clause keyword_clause look_up keywords
structure_read source from line g p rest (_, x1, _) = rw x1 refl

-- END_STRUCT at the outermost level
pub structure_end_read : (source : List ℕ) (from line : ℕ) (g : Gap) (k : BlockKind) (rest : List Token) → Texts source from line (clause_pieces g clause.EndStructure)
    → clause_at source (place.Shape k 0) (tokens_of from line (clause_pieces g clause.EndStructure) ++ rest) ≡ Some (clause.EndStructure, rest, false)
unfolding clause_pieces clause_at clause_by_kind word_clause keyword_clause structure_end skip_semicolon look_up keywords is_mark has_kind mark_text
structure_end_read source from line g k rest (_, x1, (_, x2, _)) = rw (x1, x2) refl

-- ---- the function block of an instance

based_on : (source : List ℕ) (from line : ℕ) (g : Gap) (id : BlockId) (rest : List Token) → id.kind ≡ kinds.Fb → id.number ≤ 65535
    → Texts source from line (block_name_pieces g (block.Number id)) → base_block_at source (tokens_of from line (block_name_pieces g (block.Number id)) ++ rest) ≡ Some (clause.Based (block.Number id), rest, false)
unfolding base_block_at
based_on source from line g id rest is h t = rw (block_read source from line g id rest h t, is) refl

based_by : (source : List ℕ) (from line : ℕ) (g : Gap) (n : ℕ) (rest : List Token) → n ≤ 65535
    → Texts source from line (block_name_pieces g (block.Number (record { kind = kinds.Fb; number = n })))
    → clause_at source (place.Head kinds.Db) (tokens_of from line (block_name_pieces g (block.Number (record { kind = kinds.Fb; number = n }))) ++ rest)
    ≡ Some (clause.Based (block.Number (record { kind = kinds.Fb; number = n })), rest, false)
unfolding block_name_pieces clause_at clause_by_kind word_clause free_word_clause other_clause look_up keywords head_words block_letters
based_by source from line g n rest h t =
    rw (t.1, t.1, based_on source from line g (record { kind = kinds.Fb; number = n }) rest refl h t) refl

pub based_read : (source : List ℕ) (from line : ℕ) (g : Gap) (name : BlockName) (rest : List Token) → IsFunctionBlock name
    → Texts source from line (clause_pieces g (clause.Based name))
    → clause_at source (place.Head kinds.Db) (tokens_of from line (clause_pieces g (clause.Based name)) ++ rest) ≡ Some (clause.Based name, rest, false)
unfolding clause_pieces
based_read source from line g (block.Number id) rest h t =
    of_kind (λ i. Texts source from line (block_name_pieces g (block.Number i))
    → clause_at source (place.Head kinds.Db) (tokens_of from line (block_name_pieces g (block.Number i)) ++ rest) ≡ Some (clause.Based (block.Number i), rest, false))
    kinds.Fb id h.0 (λ u. based_by source from line g id.number rest h.1 u) t
based_read source from line g (block.Quoted name) rest h t = absurd h

-- ---- heads

pub result_read : (source : List ℕ) (from line : ℕ) (k : BlockKind) (result : Option Simple) (rest : List Token) → MayReturn k result
    → Texts source from line (result_pieces k result) → result_at source k (tokens_of from line (result_pieces k result) ++ rest) ≡ Some (result, rest)
unfolding result_pieces result_at after_colon result_type type_word is_mark is_key has_kind key_text mark_text
result_read source from line kinds.Fc None rest h (_, x1, (_, x2, _)) = rw (x1, x2) refl
result_read source from line kinds.Fc (Some simple.Bool) rest h (_, x1, (_, x2, _)) = rw (x1, x2) (ap (λ o. option_map (λ k. (Some k, rest)) o) (type_found simple.Bool).found)
result_read source from line kinds.Fc (Some simple.Byte) rest h (_, x1, (_, x2, _)) = rw (x1, x2) (ap (λ o. option_map (λ k. (Some k, rest)) o) (type_found simple.Byte).found)
result_read source from line kinds.Fc (Some simple.Char) rest h (_, x1, (_, x2, _)) = rw (x1, x2) (ap (λ o. option_map (λ k. (Some k, rest)) o) (type_found simple.Char).found)
result_read source from line kinds.Fc (Some simple.Word) rest h (_, x1, (_, x2, _)) = rw (x1, x2) (ap (λ o. option_map (λ k. (Some k, rest)) o) (type_found simple.Word).found)
result_read source from line kinds.Fc (Some simple.Int) rest h (_, x1, (_, x2, _)) = rw (x1, x2) (ap (λ o. option_map (λ k. (Some k, rest)) o) (type_found simple.Int).found)
result_read source from line kinds.Fc (Some simple.S5time) rest h (_, x1, (_, x2, _)) = rw (x1, x2) (ap (λ o. option_map (λ k. (Some k, rest)) o) (type_found simple.S5time).found)
result_read source from line kinds.Fc (Some simple.Dword) rest h (_, x1, (_, x2, _)) = rw (x1, x2) (ap (λ o. option_map (λ k. (Some k, rest)) o) (type_found simple.Dword).found)
result_read source from line kinds.Fc (Some simple.Dint) rest h (_, x1, (_, x2, _)) = rw (x1, x2) (ap (λ o. option_map (λ k. (Some k, rest)) o) (type_found simple.Dint).found)
result_read source from line kinds.Fc (Some simple.Time) rest h (_, x1, (_, x2, _)) = rw (x1, x2) (ap (λ o. option_map (λ k. (Some k, rest)) o) (type_found simple.Time).found)
result_read source from line kinds.Ob result rest h t = ap (λ (r : Option Simple). Some (r, rest)) (sym h)
result_read source from line kinds.Fb result rest h t = ap (λ (r : Option Simple). Some (r, rest)) (sym h)
result_read source from line kinds.Db result rest h t = ap (λ (r : Option Simple). Some (r, rest)) (sym h)
result_read source from line kinds.Sfc result rest h t = ap (λ (r : Option Simple). Some (r, rest)) (sym h)
result_read source from line kinds.Udt result rest h t = ap (λ (r : Option Simple). Some (r, rest)) (sym h)
