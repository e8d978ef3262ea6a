-- Clauses behind a text, each on its line.
use Rattle.std.proofs.Common.{◌≡◌, sym, ◌∙◌, ap, refl, ℕ, zero, suc, ◌+◌, ◌-◌, ◌<◌, List, [], ◌∷◌, ◌++◌, arith}
use Rattle.std.proofs.lemmas.Grind.{fold-append}
use Rattle.stl_parser.specs.declared.clauses.Clause.{Clause}
use Rattle.std.specs.List.{flat_map}
use Rattle.stl_ast.specs.declared.blocks.Block.{Block}
use Rattle.stl_ast.specs.declared.blocks.Tree.{Tree}
use Rattle.stl_lexer.specs.Pieces.{text_of_pieces}
use Rattle.stl_print.specs.Clauses.{clause_pieces, line_of, pieces_from, with_clause, with_clauses}
use Rattle.stl_print.specs.Gaps.{clause_gap, line_behind}
use Rattle.stl_print.specs.Pieces.{with_piece, with_pieces}
use Rattle.stl_print.specs.Trees.{block_clauses, end_of_text, pieces_of_tree, printed_text, structure_ends}
use Rattle.stl_print.proofs.PieceLemmas.{spelled-behind}

-- a text with clauses behind it has their pieces behind it
pub clauses-pieces :
    (reached : ℕ) (text : List ℕ) (cs : List Clause)
    → (with_clauses (reached, text) cs).1 ≡ with_pieces text (pieces_from reached cs)
unfolding with_clause
clauses-pieces reached text [] = refl
clauses-pieces reached text (c ∷ cs) =
    clauses-pieces (line_behind reached (line_of c)) (with_pieces text (clause_pieces (clause_gap reached (line_of c)) c)) cs
    ∙ sym (fold-append with_piece text (clause_pieces (clause_gap reached (line_of c)) c)
    (pieces_from (line_behind reached (line_of c)) cs))

-- one of the structures that are left is closed
pub ends_more :
    (count i : ℕ) (t u whole : ℕ × List ℕ) → i < count → u ≡ with_clauses t (structure_ends 1)
    → with_clauses t (structure_ends (count - i)) ≡ whole → with_clauses u (structure_ends (count - (i + 1))) ≡ whole
ends_more count i t u whole h one before =
    let left : count - i ≡ suc (count - (i + 1)) = omega arith in
    ap (λ (v : ℕ × List ℕ). with_clauses v (structure_ends (count - (i + 1)))) one
    ∙ sym (ap (λ (n : ℕ). with_clauses t (structure_ends n)) left) ∙ before

-- none is left
pub ends_all : (count : ℕ) (t whole : ℕ × List ℕ) → with_clauses t (structure_ends (count - count)) ≡ whole → t ≡ whole
ends_all count t whole before =
    let none : count - count ≡ zero = omega arith in
    sym (ap (λ (n : ℕ). with_clauses t (structure_ends n)) none) ∙ before

-- clauses behind others
pub clauses_then :
    (t u v : ℕ × List ℕ) (cs ds : List Clause) → u ≡ with_clauses t cs → v ≡ with_clauses u ds
    → v ≡ with_clauses t (cs ++ ds)
clauses_then t u v cs ds first rest =
    rest ∙ ap (λ (s : ℕ × List ℕ). with_clauses s ds) first ∙ sym (fold-append with_clause t cs ds)

-- the whole text, with the gap behind its last piece
pub text_done :
    (line : ℕ) (text end : List ℕ) (cs : List Clause) → (line, text) ≡ with_clauses (0, []) cs
    → text ++ end ≡ text_of_pieces (pieces_from 0 cs) end
text_done line text end cs printed =
    ap (λ (t : ℕ × List ℕ). t.1 ++ end) printed
    ∙ ap (λ (s : List ℕ). s ++ end) (clauses-pieces 0 [] cs)
    ∙ sym (spelled-behind [] (pieces_from 0 cs) end)

-- the text of a tree, written behind nothing
pub tree_done :
    (t : Tree) (blocks : List Block) (before text whole : List ℕ) (line : ℕ) → before ≡ [] → blocks ≡ t.blocks
    → (line, text) ≡ with_clauses (0, before) (flat_map block_clauses blocks) → whole ≡ text ++ end_of_text blocks → whole ≡ printed_text t
unfolding printed_text pieces_of_tree
tree_done t blocks before text whole line empty all written last =
    let from_nothing : (line, text) ≡ with_clauses (0, []) (flat_map block_clauses t.blocks) =
    written ∙ ap (λ (s : List ℕ). with_clauses (0, s) (flat_map block_clauses blocks)) empty
    ∙ ap (λ (bs : List Block). with_clauses (0, []) (flat_map block_clauses bs)) all
    in
    last ∙ ap (λ (bs : List Block). text ++ end_of_text bs) all
    ∙ text_done line text (end_of_text t.blocks) (flat_map block_clauses t.blocks) from_nothing
