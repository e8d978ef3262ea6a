-- The code of a tree, and six bytes for each declaration of an elementary variable, are bounded by its
-- source.
use Rattle.std.proofs.Common.{arith, ℕ, ◌+◌, ◌*◌, ◌≡◌, ◌≤◌, Bool, true, false, List, [], ◌∷◌, ◌++◌, length, map, filter, cond, Some, Result, Ok, Err, refl, sym, ap, subst}
use Rattle.std.specs.Prelude.{sum_by, IfOk}
use Rattle.std.specs.List.{flat_map}
use Rattle.std.proofs.lemmas.List.Sums.{sum_by-append, sum_by-cons, sum_by-le-sum_by}
use Rattle.stl_lexer.specs.declared.kinds.Token.{Token}
use Rattle.stl_lexer.specs.Tokens.{TokensFollow, IsEndOfTokens, AreTokens, is_minus, text_of}
use Rattle.stl_ast.specs.declared.blocks.Block.{Block}
use Rattle.stl_ast.specs.declared.blocks.Tree.{Tree}
use Rattle.stl_ast.specs.declared.statements.Statement.{Statement}
use Rattle.stl_ast.specs.Sizes.{statement_size, return_size, body_size, tree_size}
use Rattle.stl_ast.specs.WellFormed.{IsWellFormed}
use Rattle.stl_ast.specs.declared.blocks.Part.{Part}
use Rattle.stl_ast.specs.declared.declarations.Declaration.{Declaration}
use Rattle.stl_ast.specs.declared.declarations.ElementType.{ElementType}
use Rattle.stl_ast.specs.declared.declarations.ElementType.TheVariants as element
use Rattle.stl_parser.specs.declared.clauses.Clause.{Clause}
use Rattle.stl_parser.specs.declared.places.ClausePlace.{ClausePlace}
use Rattle.stl_parser.specs.Source.{ReadsClauses, AreKeptClauses, IsTree}
use Rattle.stl_parser.specs.Spelling.{is_kept_by_tree, spelled_part, spelled_shape, spelled_block}
use Rattle.stl_parser.specs.declared.clauses.Clause.TheVariants as clause
use Rattle.stl_parser.specs.declared.places.ClausePlace.TheVariants as place
use Rattle.stl_parser.specs.Clauses as spec
use Rattle.stl_parser.proofs.ClauseLemmas.{Fits}
use Rattle.stl_parser.proofs.FrameLemmas.{right_clause, read_holds, tree_there}
use Rattle.stl_parser.proofs.LengthLemmas.{read_rest}
use Rattle.stl_parser.proofs.SpellingLemmas.{one_tree}
use Rattle.stl_parser.proofs.OptionLemmas.{some_holds}
use Rattle.stl_parser.proofs.DeclarationLemmas.{Owes, Takes, IsTaken, clause_takes}

-- ---- clauses

-- a parameter takes six bytes
abbrev pub element_size : ElementType → ℕ
element_size (element.Plain kind) = 6
element_size _ = 0

abbrev pub declared_size : Declaration → ℕ
declared_size d = element_size d.of.of

-- the most bytes of a clause in the image
abbrev clause_size : Clause → ℕ
clause_size (clause.Head line k name result) = return_size k
clause_size (clause.Declares d) = declared_size d
clause_size (clause.Runs s) = statement_size s
clause_size _ = 0

declared_fits : (e : ElementType) (n left : ℕ) → left ≤ n → Owes e (left + 2 ≤ n)
    → element_size e + 4 * left ≤ 4 * n
declared_fits (element.Plain kind) n left fewer h = omega (arith, h)
declared_fits _ n left fewer h = omega (arith, fewer)

fits_takes : (n left : ℕ) (c : Clause) → left ≤ n → Fits n c left → Takes n c left
    → clause_size c + 4 * left ≤ 4 * n
fits_takes n left (clause.Head line k name result) fewer h g = h
fits_takes n left (clause.Declares d) fewer h g = declared_fits d.of.of n left fewer g
fits_takes n left (clause.Runs s) fewer h g = h
fits_takes n left _ fewer h g = omega (arith, fewer)

fewer_behind : (source : List ℕ) (p : ClausePlace) (ts : List Token) (c : Clause)
    (behind : List Token) → spec.clause_at source p ts ≡ Some (c, behind, false)
    → length behind ≤ length ts
unfolding spec.clause_at
fewer_behind source p [] c behind h = cc
fewer_behind source p (t ∷ ts) c behind h =
    omega (arith, read_rest source p t ts (c, behind, false) h)

-- clauses fit into the tokens that they take
clauses_fit : (source : List ℕ) (p : ClausePlace) (ts : List Token) (cs : List Clause)
    (q : ClausePlace) (rest : List Token) → ReadsClauses source p ts cs q rest
    → sum_by clause_size cs + 4 * length rest ≤ 4 * length ts
clauses_fit source p ts [] q rest reads = omega (arith, ap length reads.1)
clauses_fit source p ts (c ∷ cs) q rest reads =
    let right = right_clause source p ts c reads.0 reads.1 reads.2 in
    let takes = some_holds (spec.clause_at source p ts) (c, reads.0, false) (IsTaken (length ts))
    right.0 (clause_takes source p ts) in
    let fits = fits_takes (length ts) (length reads.0) c (fewer_behind source p ts c reads.0 right.0)
    (read_holds source p ts c reads.0 right.0).1 takes in
    omega (
      arith,
      fits,
      sum_by-cons clause_size c cs,
      clauses_fit source reads.1 reads.0 cs q rest reads.3,
    )

one_kept : (b : Bool) (c : Clause) (cs : List Clause)
    → sum_by clause_size (cond b (c ∷ cs) cs) ≤ clause_size c + sum_by clause_size cs
one_kept true c cs = omega (arith, sum_by-cons clause_size c cs)
one_kept false c cs = omega arith

kept_fit : (cs : List Clause) → sum_by clause_size (filter is_kept_by_tree cs) ≤ sum_by clause_size cs
kept_fit [] = omega arith
kept_fit (c ∷ cs) =
    omega (
      arith,
      sum_by-cons clause_size c cs,
      one_kept (is_kept_by_tree c) c (filter is_kept_by_tree cs),
      kept_fit cs,
    )

-- ---- blocks

-- the declarations of the sections of a block
abbrev pub part_size : Part → ℕ
part_size p = sum_by declared_size p.items

abbrev pub parts_size : List Part → ℕ
parts_size ps = sum_by part_size ps

-- its code and its declarations
abbrev pub whole_size : Block → ℕ
whole_size b = body_size b + parts_size b.parts

statements_spelled : (body : List Statement)
    → sum_by clause_size (map clause.Runs body) ≡ sum_by statement_size body
statements_spelled [] = refl
statements_spelled (s ∷ body) =
    omega (
      arith,
      sum_by-cons clause_size (clause.Runs s) (map clause.Runs body),
      sum_by-cons statement_size s body,
      statements_spelled body,
    )

items_spelled : (items : List Declaration)
    → sum_by clause_size (map clause.Declares items) ≡ sum_by declared_size items
items_spelled [] = refl
items_spelled (d ∷ ds) =
    omega (
      arith,
      sum_by-cons clause_size (clause.Declares d) (map clause.Declares ds),
      sum_by-cons declared_size d ds,
      items_spelled ds,
    )

part_spelled : (p : Part) → sum_by clause_size (spelled_part p) ≡ part_size p
part_spelled p =
    omega (
      arith,
      sum_by-cons clause_size (clause.Section p.line p.kind)
          (map clause.Declares p.items),
      items_spelled p.items,
    )

parts_spelled : (ps : List Part)
    → sum_by clause_size (flat_map spelled_part ps) ≡ parts_size ps
parts_spelled [] = refl
parts_spelled (p ∷ ps) =
    omega (
      arith,
      sum_by-append clause_size (spelled_part p) (flat_map spelled_part ps),
      part_spelled p,
      parts_spelled ps,
      sum_by-cons part_size p ps,
    )

behind_more : (xs ys : List Clause) (n : ℕ) → n ≤ sum_by clause_size ys
    → n ≤ sum_by clause_size (xs ++ ys)
behind_more xs ys n h = omega (arith, h, sum_by-append clause_size xs ys)

block_spelled : (b : Block) → whole_size b ≤ sum_by clause_size (spelled_block b)
block_spelled b =
    let ends = clause.Ends b.end_line b.kind ∷ [] in
    let runs = map clause.Runs b.body ++ ends in
    let sets = map clause.Sets b.settings ++ runs in
    let shaped = spelled_shape b.shape b.instance_of b.components ++ sets in
    let in_body : sum_by statement_size b.body ≤ sum_by clause_size runs =
    omega (
      arith,
      statements_spelled b.body,
      sum_by-append clause_size (map clause.Runs b.body) ends,
    ) in
    let inside : sum_by statement_size b.body ≤ sum_by clause_size shaped =
    behind_more (spelled_shape b.shape b.instance_of b.components) sets
    (sum_by statement_size b.body)
    (behind_more (map clause.Sets b.settings) runs (sum_by statement_size b.body) in_body) in
    omega (
      arith,
      inside,
      parts_spelled b.parts,
      sum_by-append clause_size (flat_map spelled_part b.parts) shaped,
      sum_by-cons clause_size (clause.Head b.line b.kind b.name b.result)
          (flat_map spelled_part b.parts ++ shaped),
    )

blocks_spelled : (bs : List Block)
    → sum_by whole_size bs ≤ sum_by clause_size (flat_map spelled_block bs)
blocks_spelled [] = omega arith
blocks_spelled (b ∷ bs) =
    omega (
      arith,
      block_spelled b,
      blocks_spelled bs,
      sum_by-cons whole_size b bs,
      sum_by-append clause_size (spelled_block b) (flat_map spelled_block bs),
    )

-- by the tokens of the source
pub whole_bounded : (source : List ℕ) (tokens : List Token) (t : Tree) → IsTree source tokens t
    → sum_by whole_size t.blocks ≤ 4 * length tokens
whole_bounded source tokens t is =
    let fits = clauses_fit source place.Outside tokens is.clauses place.Outside [] is.reads in
    omega (arith, blocks_spelled t.blocks, ap (sum_by clause_size) is.those, kept_fit is.clauses, fits)

-- the code of a tree by itself
pub bounded_by_tokens : (source : List ℕ) (tokens : List Token) (t : Tree) → IsTree source tokens t → tree_size t ≤ 4 * length tokens
bounded_by_tokens source tokens t is =
    let less : sum_by body_size t.blocks ≤ sum_by whole_size t.blocks =
    sum_by-le-sum_by body_size whole_size t.blocks (λ b. omega arith) in
    omega (arith, less, whole_bounded source tokens t is)

-- ---- tokens

-- each token has a byte at least
tokens_fit : (source : List ℕ) (from : ℕ) (minus : Bool) (ts : List Token) → TokensFollow source (λ from minus. IsEndOfTokens source from) from minus ts →
    from ≤ length source → from + length ts ≤ length source
tokens_fit source from minus [] follow within = omega (arith, within)
tokens_fit source from minus (t ∷ ts) follow within =
    omega (arith, follow.0.start.forward, follow.0.forward, tokens_fit source t.end (is_minus t.kind (text_of source t)) ts follow.1 follow.0.within)

pub fewer_tokens : (source : List ℕ) (tokens : List Token) → AreTokens source tokens → length tokens ≤ length source
unfolding AreTokens
fewer_tokens source tokens are = omega (arith, tokens_fit source 0 false tokens are (omega arith))

-- four bytes for each byte of the source
pub bounded_by_source : (source : List ℕ) (tokens : List Token) (t : Tree)
    → AreTokens source tokens → IsTree source tokens t
    → sum_by whole_size t.blocks ≤ 4 * length source
bounded_by_source source tokens t are is =
    omega (arith, whole_bounded source tokens t is, fewer_tokens source tokens are)

-- ---- trees

-- the one tree of a source is well-formed
pub well_formed : (source : List ℕ) (tokens : List Token) (t : Tree) → IsTree source tokens t → IsWellFormed t
well_formed source tokens t is =
    let there = tree_there source tokens is.clauses is.reads in
    subst IsWellFormed (one_tree source tokens there.0 t there.1 is) there.2

-- the tree that is built of the kept clauses
pub kept_well_formed : {E : Type 0} (source : List ℕ) (tokens : List Token) (kept : List Clause) (r : Result Tree E) →
    AreKeptClauses source tokens kept → IfOk r (λ t. flat_map spelled_block t.blocks ≡ kept) → IfOk r IsWellFormed
kept_well_formed source tokens kept (Err e) are spelled = tt
kept_well_formed source tokens kept (Ok t) are spelled = well_formed source tokens t (subst (AreKeptClauses source tokens) (sym spelled) are)

-- its code is bounded by the bytes of the source
pub kept_bounded : {E : Type 0} (source : List ℕ) (tokens : List Token) (kept : List Clause) (r : Result Tree E) →
    length tokens ≤ length source → AreKeptClauses source tokens kept → IfOk r (λ t. flat_map spelled_block t.blocks ≡ kept) →
    IfOk r (λ t. tree_size t ≤ 4 * length source)
kept_bounded source tokens kept (Err e) fewer are spelled = tt
kept_bounded source tokens kept (Ok t) fewer are spelled =
    omega (arith, fewer, bounded_by_tokens source tokens t (subst (AreKeptClauses source tokens) (sym spelled) are))

pub kept_is_tree : {E : Type 0} (source : List ℕ) (tokens : List Token) (kept : List Clause) (r : Result Tree E) →
    AreKeptClauses source tokens kept → IfOk r (λ t. flat_map spelled_block t.blocks ≡ kept) → IfOk r (IsTree source tokens)
kept_is_tree source tokens kept (Err e) are spelled = tt
kept_is_tree source tokens kept (Ok t) are spelled = subst (AreKeptClauses source tokens) (sym spelled) are
