-- The clauses of a listing stand on the lines that its tree has for them.
use Rattle.std.proofs.Common.{◌≡◌, ℕ, zero, suc, ◌+◌, ◌-◌, ◌<◌, ◌≤◌, max, List, [], ◌∷◌, ◌++◌, length, map, Option, Some, None, refl, sym, ap, subst, ◌∙◌, arith}
use Rattle.std.specs.Prelude.{fold, find, ◌==◌}
use Rattle.std.specs.List.{AllByRecursion, flat_map, range_with_len}
use Rattle.std.proofs.lemmas.List.{length-map}
use Rattle.plc_base.proofs.ListLemmas.{all_append}
use Rattle.plc_base.specs.Kinds.{is_data_type, is_same_block}
use Rattle.plc_base.specs.declared.blocks.BlockKind.{BlockKind}
use Rattle.flat_code.specs.Programs.{CodeBlock, DataBlock, Program}
use Rattle.flat_code.specs.declared.programs.Param.{Param}
use Rattle.stl_ast.specs.Outline.{level_behind}
use Rattle.stl_ast.specs.declared.blocks.Block.{Block}
use Rattle.stl_ast.specs.declared.blocks.Part.{Part}
use Rattle.stl_ast.specs.declared.blocks.PartKind.TheVariants as part
use Rattle.stl_ast.specs.declared.blocks.PartKind.{PartKind}
use Rattle.stl_ast.specs.declared.blocks.Setting.{Setting}
use Rattle.stl_ast.specs.declared.declarations.Declaration.{Declaration}
use Rattle.stl_ast.specs.declared.declarations.Init.{Init}
use Rattle.stl_ast.specs.declared.declarations.Simple.{Simple}
use Rattle.stl_ast.specs.declared.names.BlockName.{BlockName}
use Rattle.stl_ast.specs.declared.statements.Statement.{Statement}
use Rattle.stl_parser.specs.declared.clauses.Clause.TheVariants as clause
use Rattle.stl_parser.specs.declared.clauses.Clause.{Clause}
use Rattle.stl_types.specs.declared.parameters.Formal.{Formal}
use Rattle.stl_codegen.specs.CompiledBlock.{StatedBlock, compiled_block}
use Rattle.stl_codegen.specs.GeneratedProgram.{code_blocks_of, program_of}
use Rattle.stl_codegen.specs.Order.{sorted_list}
use Rattle.stl_print.specs.Clauses.{line_of}
use Rattle.stl_print.specs.Gaps.{line_behind as line_past}
use Rattle.stl_print.specs.Trees.{begin_clauses, block_clauses, declaration_clauses_from, part_clauses, structure_ends, type_clauses}
use Rattle.stl_list.specs.CodeBlocks.{in_lines, line_reached, listed_block, listed_blocks}
use Rattle.stl_list.specs.DataBlocks.{function_block, known_settings, listed_data, listed_data_blocks}
use Rattle.stl_list.specs.Initial.{byte_at, byte_here, byte_setting, byte_settings, parameter_here, parameter_setting, parameter_settings, settings_of, value_in, values_of}
use Rattle.stl_list.specs.JoinedParameters.{chains_of}
use Rattle.stl_list.specs.Lines.{first_statement_line, line_of_statement, line_behind_statements, lines_from, stands_before}
use Rattle.stl_list.specs.Listing.{listed_tree}
use Rattle.stl_list.specs.Runs.{StatementOps, runs}
use Rattle.stl_list.specs.Sections.{byte_array, bytes_here, data_name, declared_here, declarations_of_section, is_declared_in, plain_declaration, section_part, section_parts, static_bytes, static_len, static_name, static_start, temporary_name}
use Rattle.stl_list.specs.Signatures.{Signature, formals_of_block, signatures}
use Rattle.stl_list.specs.Statements.{ListingContext, body_of, label_at, label_of_end, listed_statement, statement_at, statements_from, listing_context}
use Rattle.print_laws.specs.Reading.{AreOnLines, IsOnLine}
use Rattle.listing_laws.proofs.BlockLemmas.{all_sorted}
use Rattle.listing_laws.proofs.NameLemmas.{either_way}
use Rattle.listing_laws.proofs.RunLemmas.{runs_found}
use Rattle.listing_laws.specs.Places.{AreClausesOnLines}

-- ---- clauses one behind the other

-- the line that a text reaches behind clauses
abbrev past : (reached : ℕ) → List Clause → ℕ
past reached cs = fold (λ r c. line_past r (line_of c)) reached cs

on_joined : (reached : ℕ) (cs ds : List Clause) → AreOnLines reached cs → AreOnLines (past reached cs) ds → AreOnLines reached (cs ++ ds)
on_joined reached [] ds h k = k
on_joined reached (c ∷ cs) ds h k = (h.0, on_joined (line_past reached (line_of c)) cs ds h.1 k)

past_joined : (reached : ℕ) (cs ds : List Clause) → past reached (cs ++ ds) ≡ past (past reached cs) ds
past_joined reached [] ds = refl
past_joined reached (c ∷ cs) ds = past_joined (line_past reached (line_of c)) cs ds

-- clauses that all stand on one line
record Stays (line : ℕ) (cs : List Clause) : Type 0 where
  on : AreOnLines line cs
  same : past line cs ≡ line

-- clauses behind a line that reach no further than another
record Reaches (reached last : ℕ) (cs : List Clause) : Type 0 where
  on : AreOnLines reached cs
  some : 1 ≤ past reached cs
  low : past reached cs ≤ last

-- a block's clauses, from what was reached to the line of its END clause
record Ends (reached last : ℕ) (cs : List Clause) : Type 0 where
  on : AreOnLines reached cs
  same : past reached cs ≡ last

none_stay : (line : ℕ) → Stays line []
none_stay line = record { on = tt; same = refl }

one_stays : (line : ℕ) (c : Clause) (cs : List Clause) → IsOnLine line c → line_past line (line_of c) ≡ line → Stays line cs → Stays line (c ∷ cs)
one_stays line c cs here e h = record {
  on = (here, subst (λ (r : ℕ). AreOnLines r cs) (sym e) h.on);
  same = ap (λ (r : ℕ). past r cs) e ∙ h.same;
}

stay_joined : (line : ℕ) (cs ds : List Clause) → Stays line cs → Stays line ds → Stays line (cs ++ ds)
stay_joined line cs ds h k = record {
  on = on_joined line cs ds h.on (subst (λ (r : ℕ). AreOnLines r ds) (sym h.same) k.on);
  same = past_joined line cs ds ∙ ap (λ (r : ℕ). past r ds) h.same ∙ k.same;
}

-- a clause without a line, and one on the line
line_kept : (line : ℕ) → 1 ≤ line → line_past line 0 ≡ line
unfolding line_past
line_kept line h = omega (arith, h)

line_again : (line at : ℕ) → 1 ≤ line → at ≡ line → line_past line at ≡ at
unfolding line_past
line_again line at h e = omega (arith, h, e)

line_met : (reached line : ℕ) → 1 ≤ line → reached ≤ line → line_past reached line ≡ line
unfolding line_past
line_met reached line h le = omega (arith, h, le)

-- ---- declarations

-- a declaration on a line that opens no structure
abbrev IsAt : ℕ → Declaration → Type 0
IsAt line d = (d.line ≡ line) × (structure_ends (0 - d.level) ≡ []) × (level_behind d.level d.of.of ≡ 0)

declares_stay : (line : ℕ) (d : Declaration) (cs : List Clause) → 1 ≤ line → d.line ≡ line → Stays line cs → Stays line (clause.Declares d ∷ cs)
unfolding line_of
declares_stay line d cs h e k = one_stays line (clause.Declares d) cs (line_again line d.line h e) (line_again line d.line h e ∙ e) k

items_stay : (line : ℕ) (ds : List Declaration) → 1 ≤ line → AllByRecursion (IsAt line) ds → Stays line (declaration_clauses_from 0 ds)
items_stay line [] h all = none_stay line
items_stay line (d ∷ ds) h (one, more) =
    subst (λ (front : List Clause). Stays line (front ++ (clause.Declares d ∷ declaration_clauses_from (level_behind d.level d.of.of) ds))) (sym one.1)
    (subst (λ (level : ℕ). Stays line (clause.Declares d ∷ declaration_clauses_from level ds)) (sym one.2) (declares_stay line d (declaration_clauses_from 0 ds) h one.0 (items_stay line ds h more)))

bytes_at : (line : ℕ) (name : List ℕ) (count : ℕ) (values : List Init) → AllByRecursion (IsAt line) (bytes_here line name count values)
bytes_at line name count values = either_way (λ l. AllByRecursion (IsAt line) l) (count == 0) [] (byte_array line name count values ∷ []) tt ((refl, refl, refl), tt)

here_at : (line : ℕ) (kind : PartKind) (f : Formal) → AllByRecursion (IsAt line) (declared_here line kind f)
here_at line kind f = either_way (λ l. AllByRecursion (IsAt line) l) (is_declared_in kind f) (plain_declaration line f ∷ []) [] ((refl, refl, refl), tt) tt

declared_at : (line : ℕ) (formals : List Formal) (kind : PartKind) → AllByRecursion (IsAt line) (declarations_of_section line formals kind)
declared_at line [] kind = tt
declared_at line (f ∷ formals) kind = all_append (IsAt line) (declared_here line kind f) (declarations_of_section line formals kind) (here_at line kind f) (declared_at line formals kind)

-- ---- sections

abbrev IsPartAt : ℕ → Part → Type 0
IsPartAt line p = (p.line ≡ line) × AllByRecursion (IsAt line) p.items

section_at : (line : ℕ) (kind : PartKind) (items : List Declaration) → AllByRecursion (IsAt line) items → AllByRecursion (IsPartAt line) (section_part line kind items)
section_at line kind items h = either_way (λ l. AllByRecursion (IsPartAt line) l) (length items == 0) [] (record { line = line; kind = kind; items = items } ∷ []) tt ((refl, h), tt)

sections_at : (line : ℕ) (formals : List Formal) (b : CodeBlock) → AllByRecursion (IsPartAt line) (section_parts line formals b)
unfolding section_parts
sections_at line formals b =
    let input = section_part line part.Input (declarations_of_section line formals part.Input) in
    let output = section_part line part.Output (declarations_of_section line formals part.Output) in
    let in_out = section_part line part.InOut (declarations_of_section line formals part.InOut) in
    let static_ = section_part line part.Static (bytes_here line static_name (static_bytes b) []) in
    let temporary = section_part line part.Temp (bytes_here line temporary_name b.local_len []) in
    all_append (IsPartAt line) (((input ++ output) ++ in_out) ++ static_) temporary
    (all_append (IsPartAt line) ((input ++ output) ++ in_out) static_
    (all_append (IsPartAt line) (input ++ output) in_out
    (all_append (IsPartAt line) input output
    (section_at line part.Input (declarations_of_section line formals part.Input) (declared_at line formals part.Input))
    (section_at line part.Output (declarations_of_section line formals part.Output) (declared_at line formals part.Output)))
    (section_at line part.InOut (declarations_of_section line formals part.InOut) (declared_at line formals part.InOut)))
    (section_at line part.Static (bytes_here line static_name (static_bytes b) []) (bytes_at line static_name (static_bytes b) [])))
    (section_at line part.Temp (bytes_here line temporary_name b.local_len []) (bytes_at line temporary_name b.local_len []))

part_stays : (line : ℕ) (p : Part) → 1 ≤ line → IsPartAt line p → Stays line (part_clauses p)
unfolding part_clauses line_of
part_stays line p h is =
    one_stays line (clause.Section p.line p.kind) (declaration_clauses_from 0 p.items ++ clause.EndSection ∷ []) (line_again line p.line h is.0) (line_again line p.line h is.0 ∙ is.0)
    (stay_joined line (declaration_clauses_from 0 p.items) (clause.EndSection ∷ []) (items_stay line p.items h is.1) (one_stays line clause.EndSection [] tt (line_kept line h) (none_stay line)))

parts_stay : (line : ℕ) (ps : List Part) → 1 ≤ line → AllByRecursion (IsPartAt line) ps → Stays line (flat_map part_clauses ps)
parts_stay line [] h all = none_stay line
parts_stay line (p ∷ ps) h (one, more) = stay_joined line (part_clauses p) (flat_map part_clauses ps) (part_stays line p h one) (parts_stay line ps h more)

begins_stay : (line : ℕ) (k : BlockKind) → 1 ≤ line → Stays line (begin_clauses k)
unfolding line_of
begins_stay line k h = either_way (Stays line) (is_data_type k) [] (clause.Begins ∷ []) (none_stay line) (one_stays line clause.Begins [] tt (line_kept line h) (none_stay line))

-- ---- statements

single_reaches : (reached : ℕ) (s : Statement) → 1 ≤ reached → reached ≤ s.line → Reaches reached s.line (map clause.Runs (s ∷ []))
unfolding line_of
single_reaches reached s h le =
    let met = line_met reached s.line (omega (arith, h, le)) le in
    record { on = (met, tt); some = omega (arith, met, h, le); low = omega (arith, met) }

end_reaches : (reached line : ℕ) (label : Option (List ℕ)) → 1 ≤ reached → reached ≤ line → Reaches reached line (map clause.Runs (label_of_end line label))
end_reaches reached line None h le = record { on = tt; some = h; low = le }
end_reaches reached line (Some label) h le = single_reaches reached _ h le

at_reaches : (s : ListingContext) (n : ℕ) (r : StatementOps) (reached : ℕ) → 1 ≤ reached → reached ≤ line_of_statement s.lines n → Reaches reached (line_of_statement s.lines n) (map clause.Runs (statement_at s n r))
unfolding statement_at
at_reaches s n r reached h le =
    either_way (λ (l : List Statement). Reaches reached (line_of_statement s.lines n) (map clause.Runs l)) (suc n == length s.lines) (label_of_end (line_of_statement s.lines n) (label_at s.targets n)) (listed_statement s n r ∷ [])
    (end_reaches reached (line_of_statement s.lines n) (label_at s.targets n) h le) (single_reaches reached (listed_statement s n r) h le)

runs_joined : (xs ys : List Statement) → map clause.Runs (xs ++ ys) ≡ map clause.Runs xs ++ map clause.Runs ys
runs_joined [] ys = refl
runs_joined (x ∷ xs) ys = ap (λ (cs : List Clause). clause.Runs x ∷ cs) (runs_joined xs ys)

reach_joined : (reached last : ℕ) (xs ys : List Statement) → AreOnLines reached (map clause.Runs xs) → Reaches (past reached (map clause.Runs xs)) last (map clause.Runs ys) → Reaches reached last (map clause.Runs (xs ++ ys))
reach_joined reached last xs ys h k = subst (λ (cs : List Clause). Reaches reached last cs) (sym (runs_joined xs ys)) (record {
  on = on_joined reached (map clause.Runs xs) (map clause.Runs ys) h k.on;
  some = subst (λ (n : ℕ). 1 ≤ n) (sym (past_joined reached (map clause.Runs xs) (map clause.Runs ys))) k.some;
  low = subst (λ (n : ℕ). n ≤ last) (sym (past_joined reached (map clause.Runs xs) (map clause.Runs ys))) k.low;
})

-- lines of which none is before the one in front of it
abbrev DoRise : List ℕ → Type 0
DoRise lines = (i : ℕ) → suc i < length lines → line_of_statement lines i ≤ line_of_statement lines (suc i)

body_reaches : (s : ListingContext) (n reached : ℕ) (r : StatementOps) (rs : List StatementOps) → DoRise s.lines → n + length (r ∷ rs) ≡ length s.lines → 1 ≤ reached → reached ≤ line_of_statement s.lines n
    → Reaches reached (line_of_statement s.lines (length s.lines - 1)) (map clause.Runs (statements_from s n (r ∷ rs)))
body_reaches s n reached r [] rise size h le =
    let last : n ≡ length s.lines - 1 = omega (arith, size) in
    let one = at_reaches s n r reached h le in
    reach_joined reached (line_of_statement s.lines (length s.lines - 1)) (statement_at s n r) [] one.on
    (record { on = tt; some = one.some; low = subst (λ (k : ℕ). past reached (map clause.Runs (statement_at s n r)) ≤ line_of_statement s.lines k) last one.low })
body_reaches s n reached r (q ∷ rs) rise size h le =
    let one = at_reaches s n r reached h le in
    let low = one.low in
    let next = rise n (omega (arith, size)) in
    reach_joined reached (line_of_statement s.lines (length s.lines - 1)) (statement_at s n r) (statements_from s (suc n) (q ∷ rs)) one.on
    (body_reaches s (suc n) (past reached (map clause.Runs (statement_at s n r))) q rs rise (omega (arith, size)) one.some (omega (arith, low, next)))

-- ---- lines of a listing

lines_rise : (reached : ℕ) (lines : List ℕ) → DoRise (lines_from reached lines)
lines_rise reached [] i h = absurd (omega (arith, h))
lines_rise reached (line ∷ []) i h = absurd (omega (arith, h))
lines_rise reached (line ∷ next ∷ lines) zero h = omega arith
lines_rise reached (line ∷ next ∷ lines) (suc i) h = lines_rise (max reached line) (next ∷ lines) i (omega (arith, h))

pub lines_count : (reached : ℕ) (lines : List ℕ) → length (lines_from reached lines) ≡ length lines
lines_count reached [] = refl
lines_count reached (line ∷ lines) = let more = lines_count (max reached line) lines in omega (arith, more)

lines_last : (reached : ℕ) (line : ℕ) (lines : List ℕ) → line_of_statement (lines_from reached (line ∷ lines)) (length (lines_from reached (line ∷ lines)) - 1) ≡ line_behind_statements reached (line ∷ lines)
lines_last reached line [] = refl
lines_last reached line (next ∷ lines) =
    let size : length (lines_from reached (line ∷ next ∷ lines)) - 1 ≡ suc (length (lines_from (max reached line) (next ∷ lines)) - 1) = omega arith in
    ap (line_of_statement (lines_from reached (line ∷ next ∷ lines))) size ∙ lines_last (max reached line) next lines

line_later : (reached : ℕ) (lines : List ℕ) → reached ≤ line_behind_statements reached lines
line_later reached [] = omega arith
line_later reached (line ∷ lines) = let more = line_later (max reached line) lines in omega (arith, more)

-- ---- code blocks

-- a block with as many statements as lines
abbrev pub HasLines : CodeBlock → Type 0
HasLines b = length (runs b.code) ≡ length b.lines

block_body : (ss : List Signature) (reached : ℕ) (b : CodeBlock) (rs : List StatementOps) (lines : List ℕ) → length rs ≡ length lines → 1 ≤ reached
    → Reaches (max reached (line_of_statement lines 0)) (line_behind_statements reached lines) (map clause.Runs (statements_from (listing_context ss (lines_from reached lines) b) 0 rs))
block_body ss reached b [] [] e h = record { on = tt; some = omega (arith, h); low = omega arith }
block_body ss reached b [] (line ∷ lines) e h = absurd (omega (arith, e))
block_body ss reached b (r ∷ rs) [] e h = absurd (omega (arith, e))
block_body ss reached b (r ∷ rs) (line ∷ lines) e h =
    subst (λ (last : ℕ). Reaches (max reached line) last (map clause.Runs (statements_from (listing_context ss (lines_from reached (line ∷ lines)) b) 0 (r ∷ rs)))) (lines_last reached line lines)
    (body_reaches (listing_context ss (lines_from reached (line ∷ lines)) b) 0 (max reached line) r rs (lines_rise reached (line ∷ lines)) (omega (arith, e, lines_count reached (line ∷ lines))) (omega (arith, h)) (omega arith))

head_ends : (reached line last : ℕ) (k : BlockKind) (name : BlockName) (result : Option Simple) (cs : List Clause) → 1 ≤ line → reached ≤ line → Ends line last cs → Ends reached last (clause.Head line k name result ∷ cs)
unfolding line_of
head_ends reached line last k name result cs h le is =
    let met = line_met reached line h le in
    record { on = (met, subst (λ (r : ℕ). AreOnLines r cs) (sym met) is.on); same = ap (λ (r : ℕ). past r cs) met ∙ is.same }

stay_end : (line last : ℕ) (cs ds : List Clause) → Stays line cs → Ends line last ds → Ends line last (cs ++ ds)
stay_end line last cs ds h k = record {
  on = on_joined line cs ds h.on (subst (λ (r : ℕ). AreOnLines r ds) (sym h.same) k.on);
  same = past_joined line cs ds ∙ ap (λ (r : ℕ). past r ds) h.same ∙ k.same;
}

reach_end : (reached last : ℕ) (k : BlockKind) (cs : List Clause) → Reaches reached last cs → Ends reached last (cs ++ clause.Ends last k ∷ [])
unfolding line_of
reach_end reached last k cs h =
    let some = h.some in
    let low = h.low in
    let met = line_met (past reached cs) last (omega (arith, some, low)) low in
    record { on = on_joined reached cs (clause.Ends last k ∷ []) h.on (met, tt); same = past_joined reached cs (clause.Ends last k ∷ []) ∙ met }

block_ends : (ss : List Signature) (r reached : ℕ) (b : CodeBlock) → HasLines b → 1 ≤ reached → r ≤ reached → Ends r (line_behind_statements reached b.lines) (block_clauses (listed_block ss reached b))
unfolding block_clauses body_of
block_ends ss r reached b e h le =
    let line = max reached (first_statement_line b) in
    let last = line_behind_statements reached b.lines in
    let parts = section_parts line (formals_of_block ss b.id) b in
    let body = body_of ss (lines_from reached b.lines) b in
    let some : 1 ≤ line = omega (arith, h) in
    let ends = reach_end line last b.id.kind (map clause.Runs body) (block_body ss reached b (runs b.code) b.lines e h) in
    head_ends r line last b.id.kind _ _ _ some (omega (arith, le))
    (stay_end line last (flat_map part_clauses parts) _ (parts_stay line parts some (sections_at line (formals_of_block ss b.id) b))
    (stay_end line last (begin_clauses b.id.kind) _ (begins_stay line b.id.kind some) ends))

-- ---- blocks one behind the other

behind_block : (r last : ℕ) (b : Block) (bs : List Block) → Ends r last (block_clauses b) → AreOnLines last (flat_map block_clauses bs) → AreOnLines r (flat_map block_clauses (b ∷ bs))
behind_block r last b bs h k = on_joined r (block_clauses b) (flat_map block_clauses bs) h.on (subst (λ (n : ℕ). AreOnLines n (flat_map block_clauses bs)) (sym h.same) k)

blocks_on : (ss : List Signature) (r reached : ℕ) (bs : List CodeBlock) (rest : List Block) → AllByRecursion HasLines bs → 1 ≤ reached → r ≤ reached
    → ((q : ℕ) → q ≤ line_reached reached bs → AreOnLines q (flat_map block_clauses rest)) → AreOnLines r (flat_map block_clauses (listed_blocks ss reached bs ++ rest))
blocks_on ss r reached [] rest all h le k = k r le
blocks_on ss r reached (b ∷ bs) rest (one, more) h le k =
    let last = line_behind_statements reached b.lines in
    let later = line_later reached b.lines in
    behind_block r last (listed_block ss reached b) (listed_blocks ss last bs ++ rest) (block_ends ss r reached b one h le)
    (blocks_on ss last last bs rest more (omega (arith, later, h)) (omega arith) k)

reached_later : (reached : ℕ) (bs : List CodeBlock) → reached ≤ line_reached reached bs
reached_later reached [] = omega arith
reached_later reached (b ∷ bs) = let here = line_later reached b.lines in let more = reached_later (line_behind_statements reached b.lines) bs in omega (arith, here, more)

-- ---- data blocks

abbrev IsSetAt : ℕ → Setting → Type 0
IsSetAt line s = s.line ≡ line

sets_stay : (line : ℕ) (ss : List Setting) → 1 ≤ line → AllByRecursion (IsSetAt line) ss → Stays line (map clause.Sets ss)
unfolding line_of
sets_stay line [] h all = none_stay line
sets_stay line (s ∷ ss) h (one, more) = one_stays line (clause.Sets s) (map clause.Sets ss) (line_again line s.line h one) (line_again line s.line h one ∙ one) (sets_stay line ss h more)

parameters_at : (line : ℕ) (bytes : List ℕ) (fs : List Formal) (ps : List Param) → AllByRecursion (IsSetAt line) (parameter_settings line bytes fs ps)
parameters_at line bytes [] ps = tt
parameters_at line bytes (f ∷ fs) [] = tt
parameters_at line bytes (f ∷ fs) (p ∷ ps) =
    let bits = value_in bytes p.width p.byte p.bit in
    all_append (IsSetAt line) (parameter_here line f bits) (parameter_settings line bytes fs ps)
    (either_way (λ l. AllByRecursion (IsSetAt line) l) (bits == 0) [] (parameter_setting line f bits ∷ []) tt (refl, tt)) (parameters_at line bytes fs ps)

bytes_set_at : (line : ℕ) (bytes : List ℕ) (start : ℕ) (indexes : List ℕ) → AllByRecursion (IsSetAt line) (flat_map (λ i. byte_here line i (byte_at bytes (start + i))) indexes)
bytes_set_at line bytes start [] = tt
bytes_set_at line bytes start (i ∷ indexes) =
    let value = byte_at bytes (start + i) in
    all_append (IsSetAt line) (byte_here line i value) (flat_map (λ i. byte_here line i (byte_at bytes (start + i))) indexes)
    (either_way (λ l. AllByRecursion (IsSetAt line) l) (value == 0) [] (byte_setting line i value ∷ []) tt (refl, tt)) (bytes_set_at line bytes start indexes)

settings_at : (line : ℕ) (bytes : List ℕ) (o : Option Signature) → AllByRecursion (IsSetAt line) (known_settings line bytes o)
unfolding settings_of
settings_at line bytes None = tt
settings_at line bytes (Some s) =
    all_append (IsSetAt line) (parameter_settings line bytes s.formals s.params) (byte_settings line bytes (static_start s.params) (static_len s.instance_len s.params))
    (parameters_at line bytes s.formals s.params) (bytes_set_at line bytes (static_start s.params) (range_with_len 0 (static_len s.instance_len s.params)))

last_stays : (line : ℕ) (k : BlockKind) → 1 ≤ line → Stays line (clause.Ends line k ∷ [])
unfolding line_of
last_stays line k h = one_stays line (clause.Ends line k) [] (line_again line line h refl) (line_again line line h refl) (none_stay line)

-- a clause without a line
quiet_stays : (line : ℕ) (c : Clause) (cs : List Clause) → 1 ≤ line → line_of c ≡ 0 → IsOnLine line c → Stays line cs → Stays line (c ∷ cs)
quiet_stays line c cs h e is k = one_stays line c cs is (ap (line_past line) e ∙ line_kept line h) k

stay_ends : (line : ℕ) (cs : List Clause) → Stays line cs → Ends line line cs
stay_ends line cs h = record { on = h.on; same = h.same }

data_ends : (ss : List Signature) (r line number : ℕ) (bytes : List ℕ) (of_ : Option ℕ) → 1 ≤ line → r ≤ line → Ends r line (block_clauses (listed_data ss line number bytes of_))
unfolding block_clauses line_of type_clauses
data_ends ss r line number bytes None h le =
    let items = bytes_here line data_name (length bytes) (values_of bytes) in
    head_ends r line line _ _ _ _ h le (stay_ends line _
    (stay_joined line (clause.Structure ∷ (declaration_clauses_from 0 items ++ clause.EndStructure ∷ [])) _
    (quiet_stays line clause.Structure (declaration_clauses_from 0 items ++ clause.EndStructure ∷ []) h refl tt
    (stay_joined line (declaration_clauses_from 0 items) (clause.EndStructure ∷ []) (items_stay line items h (bytes_at line data_name (length bytes) (values_of bytes)))
    (quiet_stays line clause.EndStructure [] h refl tt (none_stay line))))
    (quiet_stays line clause.Begins _ h refl tt (last_stays line _ h))))
data_ends ss r line number bytes (Some of_) h le =
    let settings = known_settings line bytes (find (λ s. is_same_block s.id (function_block of_)) ss) in
    head_ends r line line _ _ _ _ h le (stay_ends line _
    (quiet_stays line (clause.Based _) _ h refl tt
    (quiet_stays line clause.Begins _ h refl tt
    (stay_joined line (map clause.Sets settings) _ (sets_stay line settings h (settings_at line bytes (find (λ s. is_same_block s.id (function_block of_)) ss))) (last_stays line _ h)))))

data_on : (ss : List Signature) (line : ℕ) (ds : List DataBlock) (r : ℕ) → 1 ≤ line → r ≤ line → AreOnLines r (flat_map block_clauses (listed_data_blocks ss line ds))
data_on ss line [] r h le = tt
data_on ss line (d ∷ ds) r h le =
    behind_block r line (listed_data ss line d.number d.bytes d.instance_of) (listed_data_blocks ss line ds) (data_ends ss r line d.number d.bytes d.instance_of h le) (data_on ss line ds line h (omega arith))

-- ---- the listing of a source's program

pub all_have_lines : (bs : List StatedBlock) → AllByRecursion HasLines (map compiled_block bs)
all_have_lines [] = tt
all_have_lines (b ∷ bs) = (ap length (runs_found b.statements) ∙ length-map b.statements _ ∙ sym (length-map b.statements _), all_have_lines bs)

pub placed_by : (p : Program) → AllByRecursion HasLines p.code_blocks → AreOnLines 0 (flat_map block_clauses (listed_tree p).blocks)
unfolding listed_tree in_lines
placed_by p h =
    let ss = signatures (chains_of p.code_blocks) p.code_blocks in
    let blocks = sorted_list stands_before p.code_blocks in
    let later = reached_later 1 blocks in
    blocks_on ss 0 1 blocks (listed_data_blocks ss (line_reached 1 blocks) p.data_blocks) (all_sorted HasLines stands_before p.code_blocks h) (omega arith) (omega arith)
    (λ q le. data_on ss (line_reached 1 blocks) p.data_blocks q (omega (arith, later)) le)

pub clauses_placed : AreClausesOnLines
clauses_placed t symbols layouts = placed_by (program_of t symbols layouts) (all_have_lines (code_blocks_of t symbols layouts))
