-- A listing is longer than each line of its program.
use Rattle.std.proofs.Common.{◌≡◌, ℕ, zero, suc, ◌+◌, ◌-◌, ◌<◌, ◌≤◌, eqb, ltb, Bool, true, false, cond, ◌||◌, List, [], ◌∷◌, ◌++◌, length, Option, Some, None, refl, sym, ap, ◌∙◌, append_assoc, length-append, map, arith}
use Rattle.std.specs.List.{AllByRecursion, flat_map, fold, list_any}
use Rattle.std.specs.Prelude.{max}
use Rattle.std.proofs.lemmas.Bool.Decides.{nat_tests}
use Rattle.std.proofs.lemmas.List.{length-replicate}
use Rattle.plc_base.proofs.ListLemmas.{all_append}
use Rattle.flat_code.specs.Programs.{CodeBlock, Program}
use Rattle.stl_ast.specs.Outline.{level_behind}
use Rattle.stl_ast.specs.Statements.{is_empty_statement}
use Rattle.stl_ast.specs.declared.blocks.Block.{Block}
use Rattle.stl_ast.specs.declared.blocks.Part.{Part}
use Rattle.stl_ast.specs.declared.declarations.Declaration.{Declaration}
use Rattle.stl_ast.specs.declared.statements.Statement.{Statement}
use Rattle.plc_base.specs.Kinds.{is_data_type}
use Rattle.stl_codegen.specs.Order.{sorted_insertion, sorted_list}
use Rattle.stl_codegen.proofs.ProgramLemmas.{all_before}
use Rattle.stl_lexer.specs.Marks.{mark_text}
use Rattle.stl_lexer.specs.Pieces.{Piece, text_of_pieces}
use Rattle.stl_lexer.specs.declared.kinds.TokenKind.{TokenKind}
use Rattle.stl_lexer.specs.declared.kinds.TokenKind.TheVariants as kind
use Rattle.stl_lexer.specs.declared.marks.Mark.TheVariants as mark_of
use Rattle.stl_parser.specs.declared.clauses.Clause.{Clause}
use Rattle.stl_parser.specs.declared.clauses.Clause.TheVariants as clause
use Rattle.stl_print.specs.Clauses.{clause_pieces, line_of, pieces_from, result_pieces}
use Rattle.stl_print.specs.Declarations.{array_pieces, behind_type, declaration_pieces, element_pieces}
use Rattle.stl_print.specs.Gaps.{clause_gap, gap_text, line_behind}
use Rattle.stl_print.specs.Mnemonics.{Spelling, one, two, mnemonic_spelling, spelling_pieces}
use Rattle.stl_print.specs.Names.{block_name_pieces}
use Rattle.stl_print.specs.Operands.{operand_pieces}
use Rattle.stl_print.specs.Pieces.{mark_piece, token_piece}
use Rattle.stl_print.specs.Statements.{actuals_pieces, instruction_pieces, labelled_pieces, pieces_by_label, statement_pieces, unlabelled_pieces}
use Rattle.stl_print.specs.Trees.{begin_clauses, block_clauses, declaration_clauses_from, end_of_text, part_clauses, pieces_of_tree, printed_text, structure_ends}
use Rattle.stl_print.specs.Words.{end_word, head_word, section_word}
use Rattle.stl_print.specs.declared.gaps.Gap.{Gap}
use Rattle.stl_print.specs.declared.gaps.Gap.TheVariants as gap
use Rattle.stl_list.specs.CodeBlocks.{in_lines, line_reached, listed_block, listed_blocks}
use Rattle.stl_list.specs.DataBlocks.{listed_data_blocks}
use Rattle.stl_list.specs.JoinedParameters.{chains_of}
use Rattle.stl_list.specs.Lines.{last_statement_line, line_of_statement, line_behind_statements as line_behind_all, stands_before}
use Rattle.stl_list.specs.Listing.{listed_source, listed_tree}
use Rattle.stl_list.specs.Signatures.{Signature, signatures}

-- ---- a clause is as long as the gap before it

spelled_both : (ps qs : List Piece) (end : List ℕ) → length (text_of_pieces (ps ++ qs) end) ≡ length (text_of_pieces ps []) + length (text_of_pieces qs end)
spelled_both [] qs end = omega arith
spelled_both (p ∷ ps) qs end =
    let more = spelled_both ps qs end in
    omega (arith, more, length-append p.gap (p.text ++ text_of_pieces (ps ++ qs) end), length-append p.text (text_of_pieces (ps ++ qs) end), length-append p.gap (p.text ++ text_of_pieces ps []), length-append p.text (text_of_pieces ps []))

-- the gap before the first of these tokens
gap_least : (g : Gap) (k : TokenKind) (text : List ℕ) (ps : List Piece) → length (gap_text g) ≤ length (text_of_pieces (token_piece g k text ∷ ps) [])
gap_least g k text ps = omega (arith, length-append (gap_text g) (text ++ text_of_pieces ps []))

-- a clause that is no setting is printed behind its gap, or stands on the line that is reached
Prints : Clause → Type 0
Prints (clause.Sets s) = ⊥
Prints _ = Unit {0}

gap_of_spelling : (g : Gap) (s : Spelling) (ps : List Piece) → length (gap_text g) ≤ length (text_of_pieces (spelling_pieces g s ++ ps) [])
gap_of_spelling g (one k text) ps = gap_least g k text ps
gap_of_spelling g (two k text j behind) ps = gap_least g k text (token_piece gap.Nothing j behind ∷ ps)

gap_of_unlabelled : (g : Gap) (s : Statement) (empty : Bool) → length (gap_text g) ≤ length (text_of_pieces (cond empty (mark_piece g mark_of.Semicolon ∷ []) (instruction_pieces g s)) [])
unfolding instruction_pieces
gap_of_unlabelled g s true = gap_least g kind.Mark (mark_text mark_of.Semicolon) []
gap_of_unlabelled g s false =
    gap_of_spelling g (mnemonic_spelling s.code) (operand_pieces gap.Blank s.operand ++ (actuals_pieces s.actuals ++ mark_piece gap.Nothing mark_of.Semicolon ∷ []))

gap_of_statement : (g : Gap) (s : Statement) → length (gap_text g) ≤ length (text_of_pieces (statement_pieces g s) [])
unfolding statement_pieces unlabelled_pieces
gap_of_statement g s = by_label s.label
  where
    by_label : (label : Option (List ℕ)) → length (gap_text g) ≤ length (text_of_pieces (pieces_by_label g label s) [])
    by_label None = gap_of_unlabelled g s (is_empty_statement s.code)
    by_label (Some name) = gap_least g kind.Word name (mark_piece gap.Nothing mark_of.Colon ∷ labelled_pieces s)

-- the line behind a clause is reached by the line before it and the ends of lines in its gap
gap_reaches : (reached line : ℕ) → line_behind reached line ≤ max 1 reached + length (gap_text (clause_gap reached line))
unfolding line_behind clause_gap
gap_reaches reached line = by_tests (eqb reached 0) (ltb reached line) refl refl
  where
    by_tests : (a b : Bool) → eqb reached 0 ≡ a → ltb reached line ≡ b → max 1 (max reached line) ≤ max 1 reached + length (gap_text (cond a (gap.LineEnds (line - 1)) (cond b (gap.LineEnds (line - reached)) gap.Blank)))
    by_tests true b e f = let none : reached ≡ 0 = grind (arith, nat_tests) in omega (arith, none, length-replicate {A = ℕ} (line - 1) 10)
    by_tests false true e f = let less : reached < line = grind (arith, nat_tests) in omega (arith, less, length-replicate {A = ℕ} (line - reached) 10)
    by_tests false false e f = let le : line ≤ reached = grind (arith, nat_tests) in omega (arith, le)

stays : (reached n : ℕ) → line_behind reached 0 ≤ max 1 reached + n
unfolding line_behind
stays reached n = omega arith

-- a clause whose first token is known reaches its line
at_line : (reached line : ℕ) (k : TokenKind) (text : List ℕ) (ps : List Piece) → line_behind reached line ≤ max 1 reached + length (text_of_pieces (token_piece (clause_gap reached line) k text ∷ ps) [])
at_line reached line k text ps = omega (arith, gap_reaches reached line, gap_least (clause_gap reached line) k text ps)

clause_reaches : (reached : ℕ) (c : Clause) → Prints c → line_behind reached (line_of c) ≤ max 1 reached + length (text_of_pieces (clause_pieces (clause_gap reached (line_of c)) c) [])
unfolding Prints clause_pieces line_of declaration_pieces
clause_reaches reached (clause.Head line k name result) h = at_line reached line kind.Word (head_word k) (block_name_pieces gap.Blank name ++ result_pieces k result)
clause_reaches reached (clause.Ends line k) h = at_line reached line kind.Word (end_word k) []
clause_reaches reached (clause.Section line p) h = at_line reached line kind.Word (section_word p) []
clause_reaches reached (clause.Declares d) h =
    at_line reached d.line kind.Word d.name
    (mark_piece gap.Blank mark_of.Colon ∷ (flat_map array_pieces d.of.arrays ++ (element_pieces gap.Blank d.of.of ++ behind_type d.of.of d.init)))
clause_reaches reached (clause.Runs s) h = omega (arith, gap_reaches reached s.line, gap_of_statement (clause_gap reached s.line) s)
clause_reaches reached (clause.Sets s) h = absurd h
clause_reaches reached clause.EndSection h = stays reached _
clause_reaches reached clause.Begins h = stays reached _
clause_reaches reached clause.Network h = stays reached _
clause_reaches reached clause.Structure h = stays reached _
clause_reaches reached clause.EndStructure h = stays reached _
clause_reaches reached (clause.Based name) h = stays reached _
clause_reaches reached clause.Note h = stays reached _
clause_reaches reached clause.Title h = stays reached _

-- ---- clauses

-- the line that is reached behind clauses
line_from : (reached : ℕ) → List Clause → ℕ
line_from reached [] = reached
line_from reached (c ∷ cs) = line_from (line_behind reached (line_of c)) cs

from_both : (reached : ℕ) (cs ds : List Clause) → line_from reached (cs ++ ds) ≡ line_from (line_from reached cs) ds
unfolding line_from
from_both reached [] ds = refl
from_both reached (c ∷ cs) ds = from_both (line_behind reached (line_of c)) cs ds

behind_1 : (reached line : ℕ) → (1 ≤ line_behind reached line) × (reached ≤ line_behind reached line) × (line ≤ line_behind reached line)
unfolding line_behind
behind_1 reached line = (omega arith, omega arith, omega arith)

never_falls : (reached : ℕ) (cs : List Clause) → reached ≤ line_from reached cs
unfolding line_from
never_falls reached [] = omega arith
never_falls reached (c ∷ cs) = omega (arith, (behind_1 reached (line_of c)).1, never_falls (line_behind reached (line_of c)) cs)

pieces_reach : (reached : ℕ) (cs : List Clause) → AllByRecursion Prints cs → line_from reached cs ≤ max 1 reached + length (text_of_pieces (pieces_from reached cs) [])
unfolding line_from
pieces_reach reached [] h = omega arith
pieces_reach reached (c ∷ cs) h =
    let next = line_behind reached (line_of c) in
    let here = clause_reaches reached c h.0 in
    let more = pieces_reach next cs h.1 in
    let both = spelled_both (clause_pieces (clause_gap reached (line_of c)) c) (pieces_from next cs) [] in
    omega (arith, here, more, both, (behind_1 reached (line_of c)).0)

pieces_both : (reached : ℕ) (cs ds : List Clause) → pieces_from reached (cs ++ ds) ≡ pieces_from reached cs ++ pieces_from (line_from reached cs) ds
unfolding line_from
pieces_both reached [] ds = refl
pieces_both reached (c ∷ cs) ds =
    ap (λ (ps : List Piece). clause_pieces (clause_gap reached (line_of c)) c ++ ps) (pieces_both (line_behind reached (line_of c)) cs ds)
    ∙ sym (append_assoc (clause_pieces (clause_gap reached (line_of c)) c) (pieces_from (line_behind reached (line_of c)) cs) (pieces_from (line_from (line_behind reached (line_of c)) cs) ds))

-- ---- code blocks

ends_print : (n : ℕ) → AllByRecursion Prints (structure_ends n)
unfolding Prints
ends_print zero = tt
ends_print (suc n) = (tt, ends_print n)

declared_print : (level : ℕ) (ds : List Declaration) → AllByRecursion Prints (declaration_clauses_from level ds)
unfolding Prints
declared_print level [] = ends_print level
declared_print level (d ∷ ds) =
    all_append Prints (structure_ends (level - d.level)) (clause.Declares d ∷ declaration_clauses_from (level_behind d.level d.of.of) ds)
    (ends_print (level - d.level)) (tt, declared_print (level_behind d.level d.of.of) ds)

parts_print : (ps : List Part) → AllByRecursion Prints (flat_map part_clauses ps)
unfolding Prints part_clauses
parts_print [] = tt
parts_print (p ∷ ps) =
    all_append Prints (part_clauses p) (flat_map part_clauses ps)
    (tt, all_append Prints (declaration_clauses_from 0 p.items) (clause.EndSection ∷ []) (declared_print 0 p.items) (tt, tt))
    (parts_print ps)

runs_print : (ss : List Statement) (line : ℕ) (b : Block) → AllByRecursion Prints (map clause.Runs ss ++ clause.Ends line b.kind ∷ [])
unfolding Prints
runs_print [] line b = (tt, tt)
runs_print (s ∷ ss) line b = (tt, runs_print ss line b)

listed_print : (ss : List Signature) (reached : ℕ) (b : CodeBlock) → AllByRecursion Prints (block_clauses (listed_block ss reached b))
unfolding Prints block_clauses
listed_print ss reached b =
    let listed = listed_block ss reached b in (
      tt,
      all_append Prints (flat_map part_clauses listed.parts) (begin_clauses listed.kind ++ (map clause.Runs listed.body ++ clause.Ends listed.end_line listed.kind ∷ []))
          (parts_print listed.parts)
          (all_append Prints (begin_clauses listed.kind) (map clause.Runs listed.body ++ clause.Ends listed.end_line listed.kind ∷ [])
          (begins_print (is_data_type listed.kind)) (runs_print listed.body listed.end_line listed)),
    )
  where
    begins_print : (b : Bool) → AllByRecursion Prints (cond b [] (clause.Begins ∷ []))
    begins_print true = tt
    begins_print false = (tt, tt)

listed_all_print : (ss : List Signature) (reached : ℕ) (bs : List CodeBlock) → AllByRecursion Prints (flat_map block_clauses (listed_blocks ss reached bs))
listed_all_print ss reached [] = tt
listed_all_print ss reached (b ∷ bs) =
    all_append Prints (block_clauses (listed_block ss reached b)) (flat_map block_clauses (listed_blocks ss (line_behind_all reached b.lines) bs))
    (listed_print ss reached b) (listed_all_print ss (line_behind_all reached b.lines) bs)

-- clauses reach a line behind whichever line
Reaches : ℕ → List Clause → Type 0
Reaches line cs = (reached : ℕ) → line ≤ line_from reached cs

reaches_behind : (line : ℕ) (cs ds : List Clause) → Reaches line ds → Reaches line (cs ++ ds)
unfolding Reaches
reaches_behind line cs ds h = λ reached. omega (arith, from_both reached cs ds, h (line_from reached cs))

end_reaches : (line : ℕ) (b : Block) → Reaches line (clause.Ends line b.kind ∷ [])
unfolding Reaches line_from line_of
end_reaches line b = λ reached. (behind_1 reached line).2

listed_reaches : (ss : List Signature) (reached : ℕ) (b : CodeBlock) → Reaches (line_behind_all reached b.lines) (block_clauses (listed_block ss reached b))
unfolding Reaches block_clauses line_from
listed_reaches ss reached b = λ before.
    let listed = listed_block ss reached b in
    let runs = reaches_behind listed.end_line (map clause.Runs listed.body) (clause.Ends listed.end_line listed.kind ∷ []) (end_reaches listed.end_line listed) in
    let begun = reaches_behind listed.end_line (begin_clauses listed.kind) (map clause.Runs listed.body ++ clause.Ends listed.end_line listed.kind ∷ []) runs in
    reaches_behind listed.end_line (flat_map part_clauses listed.parts) (begin_clauses listed.kind ++ (map clause.Runs listed.body ++ clause.Ends listed.end_line listed.kind ∷ [])) begun _

listed_all_reach : (ss : List Signature) (before reached : ℕ) (bs : List CodeBlock) → reached ≤ max 1 before
    → line_reached reached bs ≤ max 1 (line_from before (flat_map block_clauses (listed_blocks ss reached bs)))
unfolding line_from Reaches
listed_all_reach ss before reached [] h = h
listed_all_reach ss before reached (b ∷ bs) h =
    let here = block_clauses (listed_block ss reached b) in
    let next = line_behind_all reached b.lines in
    let there = line_from before here in
    let reaches : next ≤ there = listed_reaches ss reached b before in
    let more = listed_all_reach ss there next bs (omega (arith, reaches)) in
    omega (arith, more, from_both before here (flat_map block_clauses (listed_blocks ss next bs)))

-- ---- lines

not_below : (reached : ℕ) (lines : List ℕ) → reached ≤ fold max reached lines
not_below reached [] = omega arith
not_below reached (line ∷ lines) = let more = not_below (max reached line) lines in omega (arith, more)

line_below : (reached : ℕ) (lines : List ℕ) (n : ℕ) → line_of_statement lines n ≤ fold max reached lines
line_below reached [] n = omega arith
line_below reached (line ∷ lines) zero = let more = not_below (max reached line) lines in omega (arith, more)
line_below reached (line ∷ lines) (suc n) = line_below (max reached line) lines n

reached_above : (reached : ℕ) (bs : List CodeBlock) → reached ≤ line_reached reached bs
reached_above reached [] = omega arith
reached_above reached (b ∷ bs) =
    let here = not_below reached b.lines in
    let more = reached_above (line_behind_all reached b.lines) bs in
    omega (arith, here, more)

all_reached : (reached : ℕ) (bs : List CodeBlock) → AllByRecursion (λ b. last_statement_line b ≤ line_reached reached bs) bs
all_reached reached [] = tt
all_reached reached (b ∷ bs) =
    let next = line_behind_all reached b.lines in
    (omega (arith, line_below reached b.lines (length b.lines - 1), reached_above next bs), all_reached next bs)

past_some : (most n : ℕ) (bs : List CodeBlock) → AllByRecursion (λ b. last_statement_line b ≤ n) bs → list_any (λ b. ltb most (last_statement_line b)) bs ≡ true → (most < n) × (0 < length bs)
past_some most n [] all h = absurd cc
past_some most n (b ∷ bs) all h = (by_test (ltb most (last_statement_line b)) refl (λ f. (past_some most n bs all.1 f).0) h, omega arith)
  where
    by_test : (t : Bool) → ltb most (last_statement_line b) ≡ t → (list_any (λ b. ltb most (last_statement_line b)) bs ≡ true → most < n) → (t || list_any (λ b. ltb most (last_statement_line b)) bs) ≡ true → most < n
    by_test true e more f = let less : most < last_statement_line b = grind (arith, nat_tests) in omega (arith, less, all.0)
    by_test false e more f = more f

inserted_some : {A : Type 0} (before : A → A → Bool) (x : A) (ys : List A) → 0 < length (sorted_insertion before x ys)
inserted_some before x [] = omega arith
inserted_some before x (y ∷ ys) = by_test (before y x)
  where
    by_test : (t : Bool) → 0 < length (cond t (y ∷ sorted_insertion before x ys) (x ∷ y ∷ ys))
    by_test true = omega arith
    by_test false = omega arith

sorted_some : {A : Type 0} (before : A → A → Bool) (xs : List A) → 0 < length xs → 0 < length (sorted_list before xs)
unfolding sorted_list
sorted_some before [] h = absurd (omega arith)
sorted_some before (x ∷ xs) h = inserted_some before x (sorted_list before xs)

-- ---- the text

end_below : (ps : List Piece) (end : List ℕ) → length end ≤ length (text_of_pieces ps end)
end_below [] end = omega arith
end_below (p ∷ ps) end =
    let more = end_below ps end in
    omega (arith, more, length-append p.gap (p.text ++ text_of_pieces ps end), length-append p.text (text_of_pieces ps end))

line_end : (ss : List Signature) (reached : ℕ) (bs : List CodeBlock) (others : List Block) → 0 < length bs → length (end_of_text (listed_blocks ss reached bs ++ others)) ≡ 1
line_end ss reached [] others h = absurd (omega arith)
line_end ss reached (b ∷ bs) others h = refl

clauses_both : (bs cs : List Block) → flat_map block_clauses (bs ++ cs) ≡ flat_map block_clauses bs ++ flat_map block_clauses cs
clauses_both [] cs = refl
clauses_both (b ∷ bs) cs =
    ap (λ (z : List Clause). block_clauses b ++ z) (clauses_both bs cs)
    ∙ sym (append_assoc (block_clauses b) (flat_map block_clauses bs) (flat_map block_clauses cs))

-- where a line of a code block is past so many bytes, the text of the source is longer
pub past_lines : (p : Program) (most : ℕ) → list_any (λ b. ltb most (last_statement_line b)) p.code_blocks ≡ true → most < length (listed_source p)
unfolding listed_tree printed_text pieces_of_tree in_lines
past_lines p most h =
    let ss = signatures (chains_of p.code_blocks) p.code_blocks in
    let bs = sorted_list stands_before p.code_blocks in
    let n = line_reached 1 bs in
    let past = past_some most n p.code_blocks (all_before (λ b. last_statement_line b ≤ n) stands_before p.code_blocks (all_reached 1 bs)) h in
    let code = listed_blocks ss 1 bs in
    let own = listed_data_blocks ss n p.data_blocks in
    let cs = flat_map block_clauses code in
    let ds = flat_map block_clauses own in
    let end = end_of_text (code ++ own) in
    let reach = listed_all_reach ss 0 1 bs (omega arith) in
    let bytes = pieces_reach 0 cs (listed_all_print ss 1 bs) in
    let one = line_end ss 1 bs own (sorted_some stands_before p.code_blocks past.1) in
    let below = end_below (pieces_from (line_from 0 cs) ds) end in
    let both = spelled_both (pieces_from 0 cs) (pieces_from (line_from 0 cs) ds) end in
    let parted : pieces_from 0 (flat_map block_clauses (code ++ own)) ≡ pieces_from 0 cs ++ pieces_from (line_from 0 cs) ds =
    ap (pieces_from 0) (clauses_both code own) ∙ pieces_both 0 cs ds in
    rw parted (omega (arith, past.0, reach, bytes, one, below, both))
