-- The code blocks of a source by their lines.
use Rattle.std.proofs.Common.{◌≡◌, ℕ, suc, ◌+◌, ◌-◌, ◌<◌, ◌≤◌, ◌⊎◌, inl, inr, max, Bool, true, false, List, [], ◌∷◌, ◌++◌, length, length-append, map, Option, Some, None, refl, sym, ap, subst, ◌∙◌, arith}
use Rattle.std.specs.Prelude.{fold, nat_eq, nat_lt, ◌&&◌, ◌||◌, if◌then◌else◌}
use Rattle.std.specs.List.{AllByRecursion, flat_map}
use Rattle.std.proofs.lemmas.Bool.Decides.{nat_tests}
use Rattle.plc_base.specs.Kinds.{is_code}
use Rattle.plc_base.specs.declared.blocks.BlockId.{BlockId}
use Rattle.flat_code.specs.Programs.{CodeBlock}
use Rattle.stl_ast.specs.Statements.{is_empty_statement}
use Rattle.stl_ast.specs.declared.blocks.Block.{Block}
use Rattle.stl_ast.specs.declared.statements.Statement.{Statement}
use Rattle.stl_parser.specs.Lines.{AreRisingLines, statement_lines_of}
use Rattle.stl_parser.proofs.RiseLemmas.{lines_rise_across}
use Rattle.block_layout.specs.declared.blocks.BlockLayout.{BlockLayout}
use Rattle.stl_types.specs.Bodies.{first_context}
use Rattle.stl_types.specs.Context.{Context}
use Rattle.stl_codegen.specs.CompiledBlock.{SourceInstruction, StatedBlock, compiled_block, lines_in}
use Rattle.stl_codegen.specs.GeneratedProgram.{code_block, code_block_of, code_blocks_of, each_block, return_statement, instructions_from, statements_of}
use Rattle.stl_codegen.specs.Instruction.{instruction}
use Rattle.stl_codegen.specs.Order.{is_code_before, sorted_list}
use Rattle.stl_list.specs.CodeBlocks.{in_lines}
use Rattle.stl_list.specs.Lines.{first_statement_line, last_statement_line, line_of_statement, line_behind_statements, lines_from, stands_before}
use Rattle.listing_laws.specs.Lines.{AreLinesKept, StandBehind, StandsBehind}
use Rattle.listing_laws.proofs.OrderLemmas.{Heads, InOrder, Pairs, all_sorted, order_sorted, pairs_sorted}

-- ---- the lines of a block

-- lines that rise, from one on up to the last of them
pub record IsSpan (low high : ℕ) (lines : List ℕ) : Type 0 where
  pub rises : AreRisingLines high low lines
  pub some : 0 < length lines
  pub last : line_of_statement lines (length lines - 1) ≡ high

first_above : (low high : ℕ) (lines : List ℕ) → AreRisingLines high low lines → 0 < length lines → low ≤ line_of_statement lines 0
first_above low high [] h some = absurd (omega (arith, some))
first_above low high (line ∷ lines) h some = h.0

first_below : (low high : ℕ) (lines : List ℕ) → AreRisingLines high low lines → 0 < length lines → line_of_statement lines 0 ≤ high
first_below low high [] h some = absurd (omega (arith, some))
first_below low high (line ∷ lines) h some = h.1

from_first : (low high : ℕ) (lines : List ℕ) → AreRisingLines high low lines → AreRisingLines high (line_of_statement lines 0) lines
from_first low high [] h = tt
from_first low high (line ∷ lines) h = (omega arith, h.1, h.2)

lower : (low below high : ℕ) (lines : List ℕ) → low ≤ below → AreRisingLines high below lines → AreRisingLines high low lines
lower low below high [] le h = tt
lower low below high (line ∷ lines) le h = let first = h.0 in (omega (arith, le, first), h.1, h.2)

-- ---- the blocks of a source

-- what stands on lines up to one, and what stands behind that
record Splits (last before : ℕ) (front : List ℕ) (end : ℕ) (rest : List ℕ) : Type 0 where
  inner : AreRisingLines end before (front ++ end ∷ [])
  outer : AreRisingLines last end rest
  low : before ≤ end

split : (last before : ℕ) (front : List ℕ) (end : ℕ) (rest : List ℕ) → AreRisingLines last before ((front ++ end ∷ []) ++ rest) → Splits last before front end rest
split last before [] end rest h = record { inner = (h.0, omega arith, tt); outer = h.2; low = h.0 }
split last before (line ∷ front) end rest h =
    let more = split last line front end rest h.2 in
    let near = more.low in
    let first = h.0 in
    record { inner = (h.0, more.low, more.inner); outer = more.outer; low = omega (arith, near, first) }

-- those of the statements that aren't empty
stated_rise : (c : Context) (body : List Statement) (n : ℕ) (ss : List Statement) (high low end : ℕ)
    → AreRisingLines high low (map (λ s. s.line) ss ++ end ∷ []) → AreRisingLines high low (map (λ s. s.line) (instructions_from c body n ss) ++ end ∷ [])
stated_rise c body n [] high low end h = h
stated_rise c body n (s ∷ ss) high low end h =
    by (is_empty_statement s.code) (stated_rise c body n ss high low end (lower low s.line high (map (λ s. s.line) ss ++ end ∷ []) h.0 h.2))
    (stated_rise c body (suc n) ss high s.line end h.2)
  where
    by : (b : Bool) → AreRisingLines high low (map (λ s. s.line) (instructions_from c body n ss) ++ end ∷ [])
        → AreRisingLines high s.line (map (λ s. s.line) (instructions_from c body (suc n) ss) ++ end ∷ [])
        → AreRisingLines high low (map (λ s. s.line) (if b then instructions_from c body n ss else record { instr = instruction c body n s; line = s.line } ∷ instructions_from c body (suc n) ss) ++ end ∷ [])
    by true skipped kept = skipped
    by false skipped kept = (h.0, h.1, kept)

pub last_of : (front : List ℕ) (end : ℕ) → line_of_statement (front ++ end ∷ []) (length (front ++ end ∷ []) - 1) ≡ end
last_of [] end = refl
last_of (line ∷ front) end =
    let size = length-append front (end ∷ []) in
    let here : length (line ∷ (front ++ end ∷ [])) - 1 ≡ suc (length (front ++ end ∷ []) - 1) = omega (arith, size) in
    ap (line_of_statement (line ∷ (front ++ end ∷ []))) here ∙ last_of front end

pub map_last : (ss : List SourceInstruction) (r : SourceInstruction) → map (λ s. s.line) (ss ++ r ∷ []) ≡ map (λ s. s.line) ss ++ r.line ∷ []
map_last [] r = refl
map_last (s ∷ ss) r = ap (λ (z : List ℕ). s.line ∷ z) (map_last ss r)

statements_span : (c : Context) (b : Block) (low : ℕ) → AreRisingLines b.end_line low (statement_lines_of b) → IsSpan low b.end_line (lines_in (statements_of c b))
unfolding statements_of
statements_span c b low h =
    subst (IsSpan low b.end_line) (sym (map_last (instructions_from c b.body 0 b.body) (return_statement b))) (record {
      rises = stated_rise c b.body 0 b.body b.end_line low b.end_line h;
      some = omega (arith, length-append (map (λ s. s.line) (instructions_from c b.body 0 b.body)) (b.end_line ∷ []));
      last = last_of (map (λ s. s.line) (instructions_from c b.body 0 b.body)) b.end_line;
    })

-- a block of the source stands on lines from one on, and lies apart from others
abbrev lines_by : StatedBlock → List ℕ
lines_by x = lines_in x.statements

abbrev opens : StatedBlock → ℕ
opens x = line_of_statement (lines_by x) 0

abbrev closes : StatedBlock → ℕ
closes x = line_of_statement (lines_by x) (length (lines_by x) - 1)

record StandsFrom (low : ℕ) (x : StatedBlock) : Type 0 where
  rises : AreRisingLines (closes x) low (lines_by x)
  some : 0 < length (lines_by x)

abbrev AreSeparate : StatedBlock → StatedBlock → Type 0
AreSeparate x y = (closes x ≤ opens y) ⊎ (closes y ≤ opens x)

-- one block, if it has code, and those behind it
block_joined : (c : Context) (b : Block) (l : BlockLayout) (id : Option BlockId) (low : ℕ) (rest : List StatedBlock)
    → AreRisingLines b.end_line low (statement_lines_of b) → low ≤ b.end_line → AllByRecursion (StandsFrom b.end_line) rest → Pairs AreSeparate rest
    → AllByRecursion (StandsFrom low) (code_block_of c b l id ++ rest) × Pairs AreSeparate (code_block_of c b l id ++ rest)
block_joined c b l None low rest h le all pairs = (all_lower rest all, pairs)
  where
    all_lower : (xs : List StatedBlock) → AllByRecursion (StandsFrom b.end_line) xs → AllByRecursion (StandsFrom low) xs
    all_lower [] h = tt
    all_lower (x ∷ xs) h = (record { rises = lower low b.end_line (closes x) (lines_by x) le h.0.rises; some = h.0.some }, all_lower xs h.1)
block_joined c b l (Some id) low rest h le all pairs = by (is_code id.kind)
  where
    all_lower : (xs : List StatedBlock) → AllByRecursion (StandsFrom b.end_line) xs → AllByRecursion (StandsFrom low) xs
    all_lower [] h = tt
    all_lower (x ∷ xs) h = (record { rises = lower low b.end_line (closes x) (lines_by x) le h.0.rises; some = h.0.some }, all_lower xs h.1)

    one : StatedBlock
    one = code_block c b l id

    span : IsSpan low b.end_line (lines_by one)
    span = statements_span c b low h

    behind : (xs : List StatedBlock) → AllByRecursion (StandsFrom b.end_line) xs → AllByRecursion (λ y. AreSeparate y one) xs
    behind [] h = tt
    behind (x ∷ xs) h =
        let low = first_above b.end_line (closes x) (lines_by x) h.0.rises h.0.some in
        (inr (subst (λ (k : ℕ). k ≤ opens x) (sym span.last) low), behind xs h.1)

    by : (t : Bool) → AllByRecursion (StandsFrom low) ((if t then one ∷ [] else []) ++ rest) × Pairs AreSeparate ((if t then one ∷ [] else []) ++ rest)
    by true = ((record { rises = subst (λ (k : ℕ). AreRisingLines k low (lines_by one)) (sym span.last) span.rises; some = span.some }, all_lower rest all), (behind rest all, pairs))
    by false = (all_lower rest all, pairs)

blocks_stand : (c : Context) (last low : ℕ) (bs : List Block) (ls : List BlockLayout) → AreRisingLines last low (flat_map statement_lines_of bs)
    → AllByRecursion (StandsFrom low) (each_block (λ c b l. code_block_of c b l l.id) c bs ls) × Pairs AreSeparate (each_block (λ c b l. code_block_of c b l l.id) c bs ls)
blocks_stand c last low [] ls h = (tt, tt)
blocks_stand c last low (b ∷ bs) [] h = (tt, tt)
blocks_stand c last low (b ∷ bs) (l ∷ ls) h =
    let parts = split last low (map (λ s. s.line) b.body) b.end_line (flat_map statement_lines_of bs) h in
    let more = blocks_stand (record c { block = suc c.block }) last b.end_line bs ls parts.outer in
    block_joined c b l l.id low (each_block (λ c b l. code_block_of c b l l.id) (record c { block = suc c.block }) bs ls) parts.inner parts.low more.0 more.1

-- ---- in the order of their lines

-- the same of blocks of code
record StandsAs (low : ℕ) (b : CodeBlock) : Type 0 where
  rises : AreRisingLines (last_statement_line b) low b.lines
  some : 0 < length b.lines

abbrev AreApart : CodeBlock → CodeBlock → Type 0
AreApart x y = (last_statement_line x ≤ first_statement_line y) ⊎ (last_statement_line y ≤ first_statement_line x)

apart_turned : (x y : CodeBlock) → AreApart x y → AreApart y x
apart_turned x y (inl h) = inr h
apart_turned x y (inr h) = inl h

separate_turned : (x y : StatedBlock) → AreSeparate x y → AreSeparate y x
separate_turned x y (inl h) = inr h
separate_turned x y (inr h) = inl h

all_compiled : (low : ℕ) (xs : List StatedBlock) → AllByRecursion (StandsFrom low) xs → AllByRecursion (StandsAs low) (map compiled_block xs)
all_compiled low [] h = tt
all_compiled low (x ∷ xs) h = (record { rises = h.0.rises; some = h.0.some }, all_compiled low xs h.1)

one_compiled : (x : StatedBlock) (xs : List StatedBlock) → AllByRecursion (λ y. AreSeparate y x) xs → AllByRecursion (λ y. AreApart y (compiled_block x)) (map compiled_block xs)
one_compiled x [] h = tt
one_compiled x (y ∷ xs) h = (h.0, one_compiled x xs h.1)

pairs_compiled : (xs : List StatedBlock) → Pairs AreSeparate xs → Pairs AreApart (map compiled_block xs)
pairs_compiled [] h = tt
pairs_compiled (x ∷ xs) h = (one_compiled x xs h.0, pairs_compiled xs h.1)

before_one_way : (a b : CodeBlock) → stands_before a b ≡ true → stands_before b a ≡ false
before_one_way a b h = numbers (first_statement_line a) (last_statement_line a) (first_statement_line b) (last_statement_line b) h
  where
    numbers : (f l g m : ℕ) → (nat_lt f g || nat_eq f g && nat_lt l m) ≡ true → (nat_lt g f || nat_eq g f && nat_lt m l) ≡ false
    numbers f l g m h = grind (arith, nat_tests)

not_before : (f l g m : ℕ) → (nat_lt f g || nat_eq f g && nat_lt l m) ≡ false → (g ≤ f) × (f ≡ g → m ≤ l)
not_before f l g m h = (grind (arith, nat_tests), λ e. grind (arith, nat_tests))

-- one that stands before another ends before it begins
in_turn : (a b : CodeBlock) → StandsAs 1 b → first_statement_line b ≤ last_statement_line b → stands_before b a ≡ false → AreApart b a → last_statement_line a ≤ first_statement_line b
in_turn a b is order h (inl le) =
    let rank = not_before (first_statement_line b) (last_statement_line b) (first_statement_line a) (last_statement_line a) h in
    let low = rank.0 in
    let same : first_statement_line b ≡ first_statement_line a = omega (arith, low, le, order) in
    let ends = rank.1 same in
    omega (arith, ends, le, same, order)
in_turn a b is order h (inr le) = le

first_before_last : (low : ℕ) (b : CodeBlock) → StandsAs low b → first_statement_line b ≤ last_statement_line b
first_before_last low b is = first_below low (last_statement_line b) b.lines is.rises is.some

lines_same : (reached high : ℕ) (lines : List ℕ) → AreRisingLines high reached lines → lines_from reached lines ≡ lines
lines_same reached high [] h = refl
lines_same reached high (line ∷ lines) h =
    let first = h.0 in
    let here : max reached line ≡ line = omega (arith, first) in
    ap (λ (k : ℕ). k ∷ lines_from k lines) here ∙ ap (λ (z : List ℕ). line ∷ z) (lines_same line high lines h.2)

reached_last : (reached high : ℕ) (lines : List ℕ) → AreRisingLines high reached lines → 0 < length lines → line_behind_statements reached lines ≡ line_of_statement lines (length lines - 1)
reached_last reached high [] h some = absurd (omega (arith, some))
reached_last reached high (line ∷ []) h some = let first = h.0 in omega (arith, first)
reached_last reached high (line ∷ next ∷ lines) h some =
    let first = h.0 in
    let here : max reached line ≡ line = omega (arith, first) in
    let size : length (line ∷ next ∷ lines) - 1 ≡ suc (length (next ∷ lines) - 1) = omega arith in
    ap (λ (k : ℕ). fold max k (next ∷ lines)) here ∙ reached_last line high (next ∷ lines) h.2 (omega arith)
    ∙ ap (line_of_statement (line ∷ next ∷ lines)) (sym size)

stands : (reached : ℕ) (b : CodeBlock) → StandsAs 1 b → reached ≤ first_statement_line b → StandsBehind reached b
stands reached b is low =
    let rises = lower reached (first_statement_line b) (last_statement_line b) b.lines low (from_first 1 (last_statement_line b) b.lines is.rises) in
    record {
      lines = lines_same reached (last_statement_line b) b.lines rises;
      head = omega (arith, low);
      end = reached_last reached (last_statement_line b) b.lines rises is.some;
    }

-- the first of these begins at a line or behind it
abbrev Begins : ℕ → List CodeBlock → Type 0
Begins reached [] = Unit {0}
Begins reached (b ∷ bs) = reached ≤ first_statement_line b

begin_next : (a : CodeBlock) (bs : List CodeBlock) → AllByRecursion (StandsAs 1) bs → Heads stands_before a bs → AllByRecursion (λ y. AreApart y a) bs → Begins (last_statement_line a) bs
begin_next a [] all heads apart = tt
begin_next a (b ∷ bs) all heads apart = in_turn a b all.0 (first_before_last 1 b all.0) heads apart.0

all_stand : (reached : ℕ) (bs : List CodeBlock) → AllByRecursion (StandsAs 1) bs → InOrder stands_before bs → Pairs AreApart bs → Begins reached bs → StandBehind reached bs
all_stand reached [] all order apart begins = tt
all_stand reached (b ∷ bs) all order apart begins =
    (stands reached b all.0 begins, all_stand (last_statement_line b) bs all.1 order.1 apart.1 (begin_next b bs all.1 order.0 apart.0))

first_begins : (bs : List CodeBlock) → AllByRecursion (StandsAs 1) bs → Begins 1 bs
first_begins [] h = tt
first_begins (b ∷ bs) h = first_above 1 (last_statement_line b) b.lines h.0.rises h.0.some

sorted_stand : (bs : List CodeBlock) → AllByRecursion (StandsAs 1) bs → Pairs AreApart bs → StandBehind 1 (in_lines bs)
unfolding in_lines
sorted_stand bs all apart =
    let sorted_all = all_sorted (StandsAs 1) stands_before bs all in
    all_stand 1 (sorted_list stands_before bs) sorted_all (order_sorted stands_before before_one_way bs) (pairs_sorted AreApart apart_turned stands_before bs apart) (first_begins (sorted_list stands_before bs) sorted_all)

pub lines_kept : AreLinesKept
unfolding code_blocks_of
lines_kept source tokens t symbols layouts lexed parsed =
    let each = blocks_stand (first_context symbols layouts t.blocks) (1 + length source) 1 t.blocks layouts (lines_rise_across source tokens t lexed parsed) in
    let blocks : List StatedBlock = each_block (λ c b l. code_block_of c b l l.id) (first_context symbols layouts t.blocks) t.blocks layouts in
    sorted_stand (map compiled_block (sorted_list is_code_before blocks)) (all_compiled 1 (sorted_list is_code_before blocks) (all_sorted (StandsFrom 1) is_code_before blocks each.0))
    (pairs_compiled (sorted_list is_code_before blocks) (pairs_sorted AreSeparate separate_turned is_code_before blocks each.1))
