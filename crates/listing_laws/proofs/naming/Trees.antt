-- So no statement of the tree of a source names one.
use Rattle.std.proofs.Common.{ℕ, Bool, true, false, cond, List, [], ◌∷◌, ◌++◌, map, filter, Option, Some, None, sym, subst}
use Rattle.std.specs.Prelude.{◌&&◌, not, nat_lt}
use Rattle.std.specs.List.{AllByRecursion, flat_map}
use Rattle.std.specs.Option.{option_or, IfSome}
use Rattle.plc_base.proofs.ListLemmas.{all_back, all_front}
use Rattle.plc_base.specs.declared.blocks.BlockKind.{BlockKind}
use Rattle.stl_ast.specs.Declarations.{is_elementary}
use Rattle.stl_ast.specs.declared.blocks.Block.{Block}
use Rattle.stl_ast.specs.declared.blocks.Tree.{Tree}
use Rattle.stl_ast.specs.declared.statements.Statement.{Statement}
use Rattle.stl_lexer.specs.Tokens.{text_of}
use Rattle.stl_lexer.specs.declared.kinds.Token.{Token}
use Rattle.stl_lexer.specs.declared.kinds.TokenKind.{TokenKind}
use Rattle.stl_lexer.specs.declared.kinds.TokenKind.TheVariants as kind
use Rattle.stl_lexer.specs.declared.marks.Mark.TheVariants as mark
use Rattle.stl_parser.specs.Addresses.{block_at}
use Rattle.stl_parser.specs.Clauses as spec
use Rattle.stl_parser.specs.Declarations.{declaration_of, structure_at}
use Rattle.stl_parser.specs.Source.{IsTree, ReadsClauses}
use Rattle.stl_parser.specs.Spelling.{is_kept_by_tree, spelled_block, spelled_part, spelled_shape}
use Rattle.stl_parser.specs.Statements.{statement_of}
use Rattle.stl_parser.specs.Tables.{head_words, keywords, look_up}
use Rattle.stl_parser.specs.Terminals.{is_mark}
use Rattle.stl_parser.specs.declared.clauses.Clause.{Clause}
use Rattle.stl_parser.specs.declared.clauses.Clause.TheVariants as clause
use Rattle.stl_parser.specs.declared.places.ClausePlace.{ClausePlace}
use Rattle.stl_parser.specs.declared.places.ClausePlace.TheVariants as place
use Rattle.stl_parser.specs.declared.tables.HeadWord.{HeadWord}
use Rattle.stl_parser.specs.declared.tables.Keyword.{Keyword}
use Rattle.stl_parser.specs.declared.tables.Keyword.TheVariants as keyword
use Rattle.stl_parser.proofs.FrameLemmas.{right_clause}
use Rattle.stl_parser.proofs.OptionLemmas.{both, chain_holds, either, else_holds, map_holds, none_holds, then_holds, some_holds}
use Rattle.listing_laws.proofs.naming.Places.{mapped_holds}
use Rattle.listing_laws.proofs.naming.Read.{StatementIsNoBit, statement_plain}

-- ---- clauses

abbrev ClauseIsNoBit : Clause → Type 0
ClauseIsNoBit (clause.Runs s) = StatementIsNoBit s
ClauseIsNoBit _ = Unit {0}

abbrev ReadIsNoBit : Clause × List Token × Bool → Type 0
ReadIsNoBit r = ClauseIsNoBit r.0

abbrev InsideIsNoBit : Clause × Bool → Type 0
InsideIsNoBit r = ClauseIsNoBit r.0

head_plain : (source : List ℕ) (line : ℕ) (k : BlockKind) (tokens : List Token) → IfSome (spec.head_clause source line k tokens) ReadIsNoBit
unfolding spec.head_clause
head_plain source line k tokens =
    chain_holds (spec.block_of_kind_at source k tokens) _ (λ b. Unit {0}) ReadIsNoBit (none_holds (spec.block_of_kind_at source k tokens))
    (λ b h. mapped_holds (spec.result_at source k b.1) _ ReadIsNoBit (λ r. tt))

inner_end_plain : (source : List ℕ) (tokens : List Token) → IfSome (spec.inner_end source tokens) ReadIsNoBit
unfolding spec.inner_end
inner_end_plain source [] = tt
inner_end_plain source (t ∷ rest) = then_holds (is_mark source t mark.Semicolon) _ ReadIsNoBit (λ test. tt)

keyword_plain : (source : List ℕ) (p : ClausePlace) (line : ℕ) (k : Keyword) (rest : List Token) → IfSome (spec.keyword_clause source p line k rest) ReadIsNoBit
unfolding spec.keyword_clause spec.structure_end
keyword_plain source p line (keyword.Opens k) rest = head_plain source line k rest
keyword_plain source p line (keyword.Ends k) rest = tt
keyword_plain source p line (keyword.Section k) rest = tt
keyword_plain source p line keyword.EndSection rest = tt
keyword_plain source p line keyword.Begin rest = tt
keyword_plain source p line keyword.Network rest = tt
keyword_plain source p line keyword.Structure rest = tt
keyword_plain source p line keyword.EndStructure rest = both (nat_lt 0 (spec.level_at p)) _ _ ReadIsNoBit (inner_end_plain source rest) tt

head_word_plain : (source : List ℕ) (p : ClausePlace) (w : HeadWord) (rest : List Token) → IfSome (spec.head_word_clause source p w rest) ReadIsNoBit
unfolding spec.head_word_clause
head_word_plain source p w rest = mapped_holds (spec.head_word_at source w rest) _ ReadIsNoBit (λ behind. tt)

based_plain : (source : List ℕ) (tokens : List Token) → IfSome (spec.base_block_at source tokens) ReadIsNoBit
unfolding spec.base_block_at
based_plain source tokens =
    chain_holds (block_at source tokens) _ (λ r. Unit {0}) ReadIsNoBit (none_holds (block_at source tokens)) (λ r h. then_holds (spec.is_base_block r.0) _ ReadIsNoBit (λ test. tt))

structure_plain : (source : List ℕ) (p : ClausePlace) (tokens : List Token) → IfSome (spec.structure_clause source p tokens) ReadIsNoBit
unfolding spec.structure_clause
structure_plain source p tokens = else_holds (spec.takes_parameters p) _ ReadIsNoBit (λ test. mapped_holds (structure_at source (spec.level_at p) tokens) _ ReadIsNoBit (λ r. tt))

declaration_plain : (source : List ℕ) (p : ClausePlace) (tokens : List Token) → IfSome (spec.declaration_clause source p tokens) InsideIsNoBit
unfolding spec.declaration_clause
declaration_plain source p tokens =
    chain_holds (declaration_of source (spec.level_at p) tokens) _ (λ d. Unit {0}) InsideIsNoBit (none_holds (declaration_of source (spec.level_at p) tokens))
    (λ d h. else_holds (spec.takes_parameters p && not (is_elementary d)) _ InsideIsNoBit (λ test. tt))

inside_plain : (source : List ℕ) (p : ClausePlace) (line : ℕ) (tokens : List Token) → IfSome (spec.inside_clause source p line tokens) InsideIsNoBit
unfolding spec.inside_clause spec.statement_clause spec.setting_clause
inside_plain source p line tokens =
    either (spec.declaration_clause source p tokens) (option_or (spec.statement_clause source line tokens) (spec.setting_clause source line tokens)) InsideIsNoBit (declaration_plain source p tokens)
    (either (spec.statement_clause source line tokens) (spec.setting_clause source line tokens) InsideIsNoBit
    (map_holds (statement_of source line tokens) _ (λ r. StatementIsNoBit r.0) InsideIsNoBit (statement_plain source line tokens) (λ r h. h))
    (mapped_holds (spec.setting_of source line tokens) _ InsideIsNoBit (λ s. tt)))

plain_plain : (source : List ℕ) (p : ClausePlace) (line : ℕ) (tokens : List Token) → IfSome (spec.plain_clause source p line tokens) ReadIsNoBit
unfolding spec.plain_clause spec.semicolon_clause
plain_plain source p line tokens =
    either (spec.structure_clause source p tokens) _ ReadIsNoBit (structure_plain source p tokens)
    (chain_holds (spec.until_semicolon source tokens) _ (λ cut. Unit {0}) ReadIsNoBit (none_holds (spec.until_semicolon source tokens))
    (λ cut h. map_holds (spec.inside_clause source p line cut.0) _ InsideIsNoBit ReadIsNoBit (inside_plain source p line cut.0) (λ c k. k)))

other_plain : (source : List ℕ) (p : ClausePlace) (line : ℕ) (tokens : List Token) → IfSome (spec.other_clause source p line tokens) ReadIsNoBit
unfolding spec.other_clause
other_plain source p line tokens =
    both (spec.in_data_head p) _ _ ReadIsNoBit
    (either (spec.base_block_at source tokens) _ ReadIsNoBit (based_plain source tokens) (plain_plain source p line tokens))
    (plain_plain source p line tokens)

free_word_plain : (source : List ℕ) (p : ClausePlace) (t : Token) (rest tokens : List Token) (w : Option HeadWord) → IfSome (spec.free_word_clause source p t rest tokens w) ReadIsNoBit
unfolding spec.free_word_clause
free_word_plain source p t rest tokens (Some w) = both (spec.is_outer p) _ _ ReadIsNoBit (head_word_plain source p w rest) (other_plain source p t.line tokens)
free_word_plain source p t rest tokens None = other_plain source p t.line tokens

word_plain : (source : List ℕ) (p : ClausePlace) (t : Token) (rest tokens : List Token) (k : Option Keyword) → IfSome (spec.word_clause source p t rest tokens k) ReadIsNoBit
unfolding spec.word_clause
word_plain source p t rest tokens (Some k) = keyword_plain source p t.line k rest
word_plain source p t rest tokens None = free_word_plain source p t rest tokens (look_up head_words (text_of source t))

kind_plain : (source : List ℕ) (p : ClausePlace) (t : Token) (rest tokens : List Token) (k : TokenKind) → IfSome (spec.clause_by_kind source p t rest tokens k) ReadIsNoBit
unfolding spec.clause_by_kind
kind_plain source p t rest tokens kind.Word = word_plain source p t rest tokens (look_up keywords (text_of source t))
kind_plain source p t rest tokens kind.Attribute = tt
kind_plain source p t rest tokens kind.Title = tt
kind_plain source p t rest tokens _ = other_plain source p t.line tokens

clause_plain : (source : List ℕ) (p : ClausePlace) (tokens : List Token) → IfSome (spec.clause_at source p tokens) ReadIsNoBit
unfolding spec.clause_at
clause_plain source p [] = tt
clause_plain source p (t ∷ rest) = kind_plain source p t rest (t ∷ rest) t.kind

-- ---- trees

abbrev AreNoBits : List Clause → Type 0
AreNoBits cs = AllByRecursion ClauseIsNoBit cs

reads_plain : (source : List ℕ) (p : ClausePlace) (ts : List Token) (cs : List Clause) (q : ClausePlace) (rest : List Token) → ReadsClauses source p ts cs q rest → AreNoBits cs
reads_plain source p ts [] q rest reads = tt
reads_plain source p ts (c ∷ cs) q rest reads = (
  some_holds (spec.clause_at source p ts) (c, reads.0, false) ReadIsNoBit (right_clause source p ts c reads.0 reads.1 reads.2).0 (clause_plain source p ts),
  reads_plain source reads.1 reads.0 cs q rest reads.3,
)

kept_plain : (cs : List Clause) → AreNoBits cs → AreNoBits (filter is_kept_by_tree cs)
kept_plain [] h = tt
kept_plain (c ∷ cs) (one, more) = by (is_kept_by_tree c) (kept_plain cs more)
  where
    by : (b : Bool) → AreNoBits (filter is_kept_by_tree cs) → AreNoBits (cond b (c ∷ filter is_kept_by_tree cs) (filter is_kept_by_tree cs))
    by true k = (one, k)
    by false k = k

abbrev pub BlockIsNoBit : Block → Type 0
BlockIsNoBit b = AllByRecursion StatementIsNoBit b.body

runs_plain : (body : List Statement) → AreNoBits (map clause.Runs body) → AllByRecursion StatementIsNoBit body
runs_plain [] h = tt
runs_plain (s ∷ body) (one, more) = (one, runs_plain body more)

block_plain : (b : Block) → AreNoBits (spelled_block b) → BlockIsNoBit b
block_plain b (one, more) =
    let ends = clause.Ends b.end_line b.kind ∷ [] in
    let runs = map clause.Runs b.body in
    let sets = map clause.Sets b.settings in
    let shape = spelled_shape b.shape b.instance_of b.components in
    runs_plain b.body
    (all_front ClauseIsNoBit runs ends
    (all_back ClauseIsNoBit sets (runs ++ ends)
    (all_back ClauseIsNoBit shape (sets ++ (runs ++ ends)) (all_back ClauseIsNoBit (flat_map spelled_part b.parts) (shape ++ (sets ++ (runs ++ ends))) more))))

blocks_plain : (bs : List Block) → AreNoBits (flat_map spelled_block bs) → AllByRecursion BlockIsNoBit bs
blocks_plain [] h = tt
blocks_plain (b ∷ bs) h =
    (block_plain b (all_front ClauseIsNoBit (spelled_block b) (flat_map spelled_block bs) h), blocks_plain bs (all_back ClauseIsNoBit (spelled_block b) (flat_map spelled_block bs) h))

pub tree_plain : (source : List ℕ) (tokens : List Token) (t : Tree) → IsTree source tokens t → AllByRecursion BlockIsNoBit t.blocks
tree_plain source tokens t is =
    blocks_plain t.blocks (subst AreNoBits (sym is.those) (kept_plain is.clauses (reads_plain source place.Outside tokens is.clauses place.Outside [] is.reads)))
