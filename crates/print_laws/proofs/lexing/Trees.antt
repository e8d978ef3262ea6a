-- The clauses of a tree stand one before the other.
use Rattle.std.proofs.Common.{◌≡◌, ℕ, zero, suc, ◌-◌, ◌<◌, true, false, List, [], ◌∷◌, ◌++◌, map, Option, Some, None, refl, arith, inl, inr}
use Rattle.std.specs.Prelude.{nat_lt, ◌==◌, codes}
use Rattle.std.specs.List.{AllByRecursion, flat_map}
use Rattle.std.proofs.lemmas.Bool.{cases_Bool, ltb-true, lt-ltb, ne_eqb}
use Rattle.plc_base.proofs.ListLemmas.{all_append}
use Rattle.plc_base.specs.Kinds.{is_data_type}
use Rattle.plc_base.specs.declared.blocks.BlockKind.{BlockKind}
use Rattle.plc_base.specs.declared.blocks.BlockKind.TheVariants as kinds
use Rattle.stl_ast.specs.Outline.{level_behind}
use Rattle.stl_ast.specs.declared.blocks.Block.{Block}
use Rattle.stl_ast.specs.declared.blocks.Part.{Part}
use Rattle.stl_ast.specs.declared.blocks.PartKind.{PartKind}
use Rattle.stl_ast.specs.declared.blocks.PartKind.TheVariants as parts
use Rattle.stl_ast.specs.declared.declarations.Declaration.{Declaration}
use Rattle.stl_ast.specs.declared.declarations.ElementType.{ElementType}
use Rattle.stl_ast.specs.declared.declarations.ElementType.TheVariants as element
use Rattle.stl_ast.specs.declared.declarations.Simple.{Simple}
use Rattle.stl_ast.specs.declared.declarations.TypeTree.{TypeTree}
use Rattle.stl_ast.specs.declared.names.BlockName.{BlockName}
use Rattle.stl_lexer.specs.declared.marks.Mark.TheVariants as mark_of
use Rattle.stl_lexer.specs.Bytes.{is_separator, is_word_byte, is_word_start}
use Rattle.stl_lexer.specs.Pieces.{Piece}
use Rattle.stl_lexer.proofs.PieceLemmas.{pieces_read}
use Rattle.stl_parser.specs.declared.clauses.Clause.{Clause}
use Rattle.stl_parser.specs.declared.clauses.Clause.TheVariants as clause
use Rattle.stl_print.specs.Clauses.{clause_pieces, line_of, pieces_from, result_pieces}
use Rattle.stl_print.specs.Gaps.{clause_gap, line_behind}
use Rattle.stl_print.specs.Names.{block_name_pieces}
use Rattle.stl_print.specs.Pieces.{mark_piece, word_piece}
use Rattle.stl_print.specs.Trees.{begin_clauses, block_clauses, declaration_clauses_from, end_of_text, instance_clauses, part_clauses, pieces_of_tree, printed_text, shape_clauses, structure_ends, type_clauses}
use Rattle.stl_print.specs.Words.{end_word, head_word, result_word, section_word}
use Rattle.stl_print.specs.declared.gaps.Gap.{Gap}
use Rattle.stl_print.specs.declared.gaps.Gap.TheVariants as gap
use Rattle.print_laws.specs.Standing.{ArePrintedTokens, DoTokensStand, IsNonTitleName, IsNumberedBlock, IsNumberedOrNone, IsPrintableBlock, IsPrintableDeclaration, IsPrintableElement, IsPrintablePart, IsPrintableSetting, IsPrintableShape, IsPrintableStatement}
use Rattle.print_laws.proofs.lexing.Declarations.{declaration_rest, setting_rest, type_name}
use Rattle.print_laws.proofs.lexing.Operands.{as_soft, block_rest, closing_rest, colon_rest, rest_joined, soft_as}
use Rattle.print_laws.proofs.lexing.Pieces.{Rest, opens, word_rest}
use Rattle.print_laws.proofs.lexing.Statements.{statement_rest}

-- ---- clauses

-- a clause whose parts are printable
abbrev IsPrintableClause : Clause → Type 0
IsPrintableClause (clause.Head line k name result) = IsNumberedBlock name
IsPrintableClause (clause.Based name) = IsNumberedBlock name
IsPrintableClause (clause.Declares d) = IsPrintableDeclaration d
IsPrintableClause (clause.Sets s) = IsPrintableSetting s
IsPrintableClause (clause.Runs s) = IsPrintableStatement s
IsPrintableClause _ = Unit {0}

head_name : (k : BlockKind) → IsNonTitleName (head_word k)
unfolding head_word is_word_byte is_word_start
head_name kinds.Ob = (refl, refl)
head_name _ = (refl, refl)

end_name : (k : BlockKind) → IsNonTitleName (end_word k)
unfolding end_word is_word_byte is_word_start
end_name kinds.Ob = (refl, refl)
end_name _ = (refl, refl)

section_name : (p : PartKind) → IsNonTitleName (section_word p)
unfolding section_word is_word_byte is_word_start
section_name parts.Input = (refl, refl)
section_name _ = (refl, refl)

result_name : (r : Option Simple) → IsNonTitleName (result_word r)
unfolding is_word_byte is_word_start
result_name None = (refl, refl)
result_name (Some k) = type_name k

result_rest : (k : BlockKind) (result : Option Simple) (ps : List Piece) (end : List ℕ) → Rest true ps end → Rest true (result_pieces k result ++ ps) end
unfolding result_pieces
result_rest kinds.Fc result ps end r =
    colon_rest gap.Blank (word_piece gap.Blank (result_word result) ∷ ps) end (word_rest gap.Blank (result_word result) ps end (result_name result) r)
result_rest kinds.Ob result ps end r = r
result_rest kinds.Fb result ps end r = r
result_rest kinds.Db result ps end r = r
result_rest kinds.Sfc result ps end r = r
result_rest kinds.Udt result ps end r = r

clause_rest : (g : Gap) (c : Clause) (ps : List Piece) (end : List ℕ) → IsPrintableClause c → Rest true ps end → Rest (opens g) (clause_pieces g c ++ ps) end
unfolding clause_pieces is_word_byte is_word_start
clause_rest g (clause.Head line k name result) ps end h r =
    word_rest g (head_word k) ((block_name_pieces gap.Blank name ++ result_pieces k result) ++ ps) end (head_name k)
    (rest_joined true (block_name_pieces gap.Blank name) (result_pieces k result) ps end (block_rest gap.Blank name (result_pieces k result ++ ps) end h (result_rest k result ps end r)))
clause_rest g (clause.Ends line k) ps end h r = word_rest g (end_word k) ps end (end_name k) r
clause_rest g (clause.Section line p) ps end h r = word_rest g (section_word p) ps end (section_name p) r
clause_rest g clause.EndSection ps end h r = word_rest g (codes "END_VAR") ps end (refl, refl) r
clause_rest g clause.Begins ps end h r = word_rest g (codes "BEGIN") ps end (refl, refl) r
clause_rest g clause.Network ps end h r = word_rest g (codes "NETWORK") ps end (refl, refl) r
clause_rest g clause.Structure ps end h r = word_rest g (codes "STRUCT") ps end (refl, refl) r
clause_rest g clause.EndStructure ps end h r =
    word_rest g (codes "END_STRUCT") (mark_piece gap.Nothing mark_of.Semicolon ∷ ps) end (refl, refl) (closing_rest true gap.Nothing mark_of.Semicolon ps end refl refl r)
clause_rest g (clause.Based name) ps end h r = block_rest g name ps end h r
clause_rest g clause.Note ps end h r = soft_as (opens g) ps end r
clause_rest g clause.Title ps end h r = soft_as (opens g) ps end r
clause_rest g (clause.Declares d) ps end h r = declaration_rest g d ps end h r
clause_rest g (clause.Sets s) ps end h r = setting_rest g s ps end h r
clause_rest g (clause.Runs s) ps end h r = statement_rest g s ps end h r

-- ---- lines

lines_open : (n : ℕ) → 0 < n → opens (gap.LineEnds n) ≡ true
lines_open zero h = absurd (omega (arith, h))
lines_open (suc n) h = refl

-- behind a clause, the next one has a gap
gap_opens : (reached line : ℕ) → 0 < reached → opens (clause_gap reached line) ≡ true
unfolding clause_gap
gap_opens reached line h =
    let some : (reached == 0) ≡ false = ne_eqb reached 0 (λ e. omega (arith, h, e)) in
    elim (cases_Bool (nat_lt reached line)) as (λ _. opens (clause_gap reached line) ≡ true) [
      | inl more ↦ rw (some, more) (lines_open (line - reached) (omega (arith, ltb-true reached line more)))
      | inr less ↦ rw (some, less) refl
    ]

line_some : (reached line : ℕ) → 0 < line_behind reached line
unfolding line_behind
line_some reached line = omega arith

-- clauses one behind the other
clauses_rest : (reached : ℕ) (cs : List Clause) (end : List ℕ) → AllByRecursion IsPrintableClause cs → Rest true [] end → Rest (nat_lt 0 reached) (pieces_from reached cs) end
clauses_rest reached [] end h r = soft_as (nat_lt 0 reached) [] end r
clauses_rest reached (c ∷ cs) end (one, more) r =
    let g = clause_gap reached (line_of c) in
    let next = line_behind reached (line_of c) in
    let behind = as_soft (nat_lt 0 next) true (pieces_from next cs) end (λ e. lt-ltb 0 next (line_some reached (line_of c))) (clauses_rest next cs end more r) in
    as_soft (opens g) (nat_lt 0 reached) (clause_pieces g c ++ pieces_from next cs) end (λ e. gap_opens reached (line_of c) (ltb-true 0 reached e))
    (clause_rest g c (pieces_from next cs) end one behind)

-- ---- blocks

all_mapped : {A : Type 0} (P : A → Type 0) (f : A → Clause) (xs : List A) → ((x : A) → P x → IsPrintableClause (f x)) → AllByRecursion P xs → AllByRecursion IsPrintableClause (map f xs)
all_mapped P f [] h all = tt
all_mapped P f (x ∷ xs) h (one, more) = (h x one, all_mapped P f xs h more)

all_joined : {A : Type 0} (P : A → Type 0) (f : A → List Clause) (xs : List A) → ((x : A) → P x → AllByRecursion IsPrintableClause (f x)) → AllByRecursion P xs → AllByRecursion IsPrintableClause (flat_map f xs)
all_joined P f [] h all = tt
all_joined P f (x ∷ xs) h (one, more) = all_append IsPrintableClause (f x) (flat_map f xs) (h x one) (all_joined P f xs h more)

ends_printable : (count : ℕ) → AllByRecursion IsPrintableClause (structure_ends count)
ends_printable zero = tt
ends_printable (suc count) = (tt, ends_printable count)

declared_printable : (level : ℕ) (ds : List Declaration) → AllByRecursion IsPrintableDeclaration ds → AllByRecursion IsPrintableClause (declaration_clauses_from level ds)
declared_printable level [] h = ends_printable level
declared_printable level (d ∷ ds) (one, more) =
    all_append IsPrintableClause (structure_ends (level - d.level)) (clause.Declares d ∷ declaration_clauses_from (level_behind d.level d.of.of) ds)
    (ends_printable (level - d.level)) (one, declared_printable (level_behind d.level d.of.of) ds more)

part_printable : (p : Part) → IsPrintablePart p → AllByRecursion IsPrintableClause (part_clauses p)
unfolding part_clauses
part_printable p h = (tt, all_append IsPrintableClause (declaration_clauses_from 0 p.items) (clause.EndSection ∷ []) (declared_printable 0 p.items h) (tt, tt))

type_printable : (e : ElementType) (components : List Declaration) → IsPrintableElement e → AllByRecursion IsPrintableDeclaration components → AllByRecursion IsPrintableClause (type_clauses e components)
unfolding type_clauses
type_printable (element.Plain k) components h all = tt
type_printable element.Structure components h all = (tt, all_append IsPrintableClause (declaration_clauses_from 0 components) (clause.EndStructure ∷ []) (declared_printable 0 components all) (tt, tt))
type_printable (element.Udt name) components h all = (h, tt)
type_printable element.DateAndTime components h all = tt

shape_printable : (shape : Option TypeTree) (components : List Declaration) → IsPrintableShape shape → AllByRecursion IsPrintableDeclaration components → AllByRecursion IsPrintableClause (shape_clauses shape components)
shape_printable None components h all = tt
shape_printable (Some t) components h all = type_printable t.of components h all

instance_printable : (name : Option BlockName) → IsNumberedOrNone name → AllByRecursion IsPrintableClause (instance_clauses name)
instance_printable None h = tt
instance_printable (Some name) h = (h, tt)

begin_printable : (k : BlockKind) → AllByRecursion IsPrintableClause (begin_clauses k)
begin_printable k = elim (cases_Bool (is_data_type k)) as (λ _. AllByRecursion IsPrintableClause (begin_clauses k)) [
  | inl yes_ ↦ rw yes_ tt
  | inr no_ ↦ rw no_ (tt, tt)
]

block_printable : (b : Block) → IsPrintableBlock b → AllByRecursion IsPrintableClause (block_clauses b)
unfolding block_clauses
block_printable b h =
    let end = clause.Ends b.end_line b.kind ∷ [] in
    let body = all_append IsPrintableClause (map clause.Runs b.body) end (all_mapped IsPrintableStatement clause.Runs b.body (λ s is. is) h.body) (tt, tt) in
    let settings = all_append IsPrintableClause (map clause.Sets b.settings) (map clause.Runs b.body ++ end) (all_mapped IsPrintableSetting clause.Sets b.settings (λ s is. is) h.settings) body in
    let begin = all_append IsPrintableClause (begin_clauses b.kind) (map clause.Sets b.settings ++ (map clause.Runs b.body ++ end)) (begin_printable b.kind) settings in
    let instance = all_append IsPrintableClause (instance_clauses b.instance_of) (begin_clauses b.kind ++ (map clause.Sets b.settings ++ (map clause.Runs b.body ++ end))) (instance_printable b.instance_of h.instance_of) begin in
    let shape = all_append IsPrintableClause (shape_clauses b.shape b.components) (instance_clauses b.instance_of ++ (begin_clauses b.kind ++ (map clause.Sets b.settings ++ (map clause.Runs b.body ++ end)))) (shape_printable b.shape b.components h.shape h.components) instance in (
      h.name,
      all_append IsPrintableClause (flat_map part_clauses b.parts) (shape_clauses b.shape b.components ++ (instance_clauses b.instance_of ++ (begin_clauses b.kind ++ (map clause.Sets b.settings ++ (map clause.Runs b.body ++ end)))))
          (all_joined IsPrintablePart part_clauses b.parts part_printable h.parts) shape,
    )

-- ---- trees

end_rest : (blocks : List Block) → Rest true [] (end_of_text blocks)
unfolding is_separator is_word_byte is_word_start
end_rest [] = record { stands = refl; soft = λ e. refl }
end_rest (b ∷ bs) = record { stands = refl; soft = λ e. refl }

pub tokens_stand : DoTokensStand
unfolding pieces_of_tree
tokens_stand t h =
    let r = clauses_rest 0 (flat_map block_clauses t.blocks) (end_of_text t.blocks) (all_joined IsPrintableBlock block_clauses t.blocks block_printable h) (end_rest t.blocks) in
    r.stands

pub printed_tokens : ArePrintedTokens
unfolding printed_text
printed_tokens t h = pieces_read (pieces_of_tree t) (end_of_text t.blocks) (tokens_stand t h)
