-- The heads of blocks that are printed are read.
use Rattle.std.proofs.Common.{◌≡◌, ◌≤◌, ◌+◌, refl, ◌∙◌, ap, ℕ, true, false, List, ◌++◌, Option, Some, None, append_assoc}
use Rattle.std.specs.Prelude.{nat_eq, sum_by}
use Rattle.plc_base.specs.Kinds.{kind_order}
use Rattle.plc_base.specs.declared.blocks.BlockId.{BlockId}
use Rattle.plc_base.specs.declared.blocks.BlockKind.{BlockKind}
use Rattle.plc_base.specs.declared.blocks.BlockKind.TheVariants as kinds
use Rattle.stl_lexer.specs.Gap.{newlines_of}
use Rattle.stl_lexer.specs.Marks.{mark_text}
use Rattle.stl_lexer.specs.Pieces.{tokens_of}
use Rattle.stl_lexer.specs.declared.kinds.Token.{Token}
use Rattle.stl_ast.specs.declared.declarations.Simple.{Simple}
use Rattle.stl_ast.specs.declared.names.BlockName.{BlockName}
use Rattle.stl_ast.specs.declared.names.BlockName.TheVariants as block
use Rattle.stl_ast.specs.WellFormed.{MayReturn}
use Rattle.stl_parser.specs.Clauses.{clause_at, clause_by_kind, head_clause, is_of_kind, keyword_clause, block_of_kind_at, result_at, word_clause}
use Rattle.stl_parser.specs.Tables.{keywords, look_up}
use Rattle.stl_parser.specs.declared.clauses.Clause.TheVariants as clause
use Rattle.stl_parser.specs.declared.places.ClausePlace.{ClausePlace}
use Rattle.stl_print.specs.Clauses.{clause_pieces, result_pieces}
use Rattle.stl_print.specs.Gaps.{gap_text}
use Rattle.stl_print.specs.Names.{block_name_pieces}
use Rattle.stl_print.specs.Pieces.{word_piece}
use Rattle.stl_print.specs.Words.{head_word}
use Rattle.stl_print.specs.declared.gaps.Gap.{Gap}
use Rattle.stl_print.specs.declared.gaps.Gap.TheVariants as gap
use Rattle.print_laws.specs.Reading.{IsNumberedBlockOf}
use Rattle.print_laws.proofs.parsing.Blocks.{block_read}
use Rattle.print_laws.proofs.parsing.Frames.{result_read}
use Rattle.print_laws.proofs.parsing.Lines.{all_flat, first_line, flat_all_joined}
use Rattle.print_laws.proofs.parsing.Operands.{Texts}
use Rattle.print_laws.proofs.parsing.Shown.{line_past, shown_behind, shown_front, tokens_joined}
use Rattle.print_laws.proofs.parsing.Tame.{flat, flat_block, flat_number}
use Rattle.print_laws.proofs.parsing.Types.{type_found}

same_kind : (k : BlockKind) → nat_eq (kind_order k) (kind_order k) ≡ true
same_kind kinds.Ob = refl
same_kind kinds.Fc = refl
same_kind kinds.Fb = refl
same_kind kinds.Db = refl
same_kind kinds.Sfc = refl
same_kind kinds.Udt = refl

of_kind_is : (k : BlockKind) (id : BlockId) → id.kind ≡ k → is_of_kind k (block.Number id) ≡ true
unfolding is_of_kind
of_kind_is k id e = ap (λ (j : BlockKind). nat_eq (kind_order j) (kind_order k)) e ∙ same_kind k

name_at : (source : List ℕ) (from line : ℕ) (g : Gap) (k : BlockKind) (id : BlockId) (rest : List Token) → id.kind ≡ k → id.number ≤ 65535
    → Texts source from line (block_name_pieces g (block.Number id))
    → block_of_kind_at source k (tokens_of from line (block_name_pieces g (block.Number id)) ++ rest) ≡ Some (block.Number id, rest)
unfolding block_of_kind_at
name_at source from line g k id rest is h t = rw (block_read source from line g id rest h t, of_kind_is k id is) refl

head_is : (source : List ℕ) (line : ℕ) (k : BlockKind) (name : BlockName) (result : Option Simple) (ts us rest : List Token)
    → block_of_kind_at source k ts ≡ Some (name, us) → result_at source k us ≡ Some (result, rest)
    → head_clause source line k ts ≡ Some (clause.Head line k name result, rest, false)
unfolding head_clause
head_is source line k name result ts us rest a b = rw (a, b) refl

behind_head : (source : List ℕ) (from line at : ℕ) (k : BlockKind) (name : BlockName) (result : Option Simple) (rest : List Token) → IsNumberedBlockOf k name → MayReturn k result
    → Texts source from line (block_name_pieces gap.Blank name ++ result_pieces k result)
    → head_clause source at k (tokens_of from line (block_name_pieces gap.Blank name ++ result_pieces k result) ++ rest) ≡ Some (clause.Head at k name result, rest, false)
behind_head source from line at k (block.Quoted n) result rest is h t = absurd is
behind_head source from line at k (block.Number id) result rest is h t =
    ap (λ (ts : List Token). head_clause source at k (ts ++ rest)) (tokens_joined from line (block_name_pieces gap.Blank (block.Number id)) (result_pieces k result))
    ∙ ap (head_clause source at k) (append_assoc (tokens_of from line (block_name_pieces gap.Blank (block.Number id))) (tokens_of _ _ (result_pieces k result)) rest)
    ∙ head_is source at k (block.Number id) result _ _ rest
    (name_at source from line gap.Blank k id _ is.0 is.1 (shown_front source from line (block_name_pieces gap.Blank (block.Number id)) (result_pieces k result) t))
    (result_read source _ _ k result rest h (shown_behind source from line (block_name_pieces gap.Blank (block.Number id)) (result_pieces k result) t))

pub head_read : (source : List ℕ) (from line : ℕ) (g : Gap) (p : ClausePlace) (at : ℕ) (k : BlockKind) (name : BlockName) (result : Option Simple) (rest : List Token)
    → (k ≡ kinds.Sfc → ⊥) → IsNumberedBlockOf k name → MayReturn k result → line + sum_by newlines_of (gap_text g) ≡ at
    → Texts source from line (clause_pieces g (clause.Head at k name result))
    → clause_at source p (tokens_of from line (clause_pieces g (clause.Head at k name result)) ++ rest) ≡ Some (clause.Head at k name result, rest, false)
unfolding clause_pieces clause_at clause_by_kind word_clause keyword_clause look_up keywords head_word
head_read source from line g p at kinds.Ob name result rest apart is h here t = rw t.1 (behind_head source _ _ _ kinds.Ob name result rest is h t.2 ∙ ap (λ (n : ℕ). Some (clause.Head n kinds.Ob name result, rest, false)) here)
head_read source from line g p at kinds.Fc name result rest apart is h here t = rw t.1 (behind_head source _ _ _ kinds.Fc name result rest is h t.2 ∙ ap (λ (n : ℕ). Some (clause.Head n kinds.Fc name result, rest, false)) here)
head_read source from line g p at kinds.Fb name result rest apart is h here t = rw t.1 (behind_head source _ _ _ kinds.Fb name result rest is h t.2 ∙ ap (λ (n : ℕ). Some (clause.Head n kinds.Fb name result, rest, false)) here)
head_read source from line g p at kinds.Db name result rest apart is h here t = rw t.1 (behind_head source _ _ _ kinds.Db name result rest is h t.2 ∙ ap (λ (n : ℕ). Some (clause.Head n kinds.Db name result, rest, false)) here)
head_read source from line g p at kinds.Udt name result rest apart is h here t = rw t.1 (behind_head source _ _ _ kinds.Udt name result rest is h t.2 ∙ ap (λ (n : ℕ). Some (clause.Head n kinds.Udt name result, rest, false)) here)
head_read source from line g p at kinds.Sfc name result rest apart is h here t = absurd (apart refl)

-- ---- lines

result_flat : (k : BlockKind) (result : Option Simple) → all_flat (result_pieces k result) ≡ true
unfolding result_pieces mark_text
result_flat kinds.Fc None = refl
result_flat kinds.Fc (Some s) = rw (type_found s).flat_text refl
result_flat kinds.Ob result = refl
result_flat kinds.Fb result = refl
result_flat kinds.Db result = refl
result_flat kinds.Sfc result = refl
result_flat kinds.Udt result = refl

name_flat : (k : BlockKind) (name : BlockName) → IsNumberedBlockOf k name → all_flat (block_name_pieces gap.Blank name) ≡ true
unfolding block_name_pieces
name_flat k (block.Number id) h = rw (flat_block id.kind, flat_number id.number h.1) refl
name_flat k (block.Quoted n) h = absurd h

head_flat : (k : BlockKind) → flat (head_word k) ≡ true
unfolding head_word
head_flat kinds.Ob = refl
head_flat kinds.Fc = refl
head_flat kinds.Fb = refl
head_flat kinds.Db = refl
head_flat kinds.Sfc = refl
head_flat kinds.Udt = refl

pub head_line : (g : Gap) (at : ℕ) (k : BlockKind) (name : BlockName) (result : Option Simple) (line : ℕ) → IsNumberedBlockOf k name
    → line_past line (clause_pieces g (clause.Head at k name result)) ≡ line + sum_by newlines_of (gap_text g)
unfolding clause_pieces
head_line g at k name result line is =
    first_line (word_piece g (head_word k)) (block_name_pieces gap.Blank name ++ result_pieces k result) line (head_flat k)
    (flat_all_joined (block_name_pieces gap.Blank name) (result_pieces k result) (name_flat k name is) (result_flat k result))
