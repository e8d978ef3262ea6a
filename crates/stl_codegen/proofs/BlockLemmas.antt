-- The code of a block by what its statements add, and the blocks of a source one behind the other.
use Rattle.std.proofs.Common.{◌≡◌, ℕ, suc, ◌+◌, ◌<◌, ◌≤◌, min, Bool, true, false, cond, leb, List, [], ◌∷◌, ◌++◌, length, map, drop, get_or, Option, Some, None, refl, sym, ap, subst, ◌∙◌, append_assoc, length-append, add-one, arith}
use Rattle.std.proofs.Math.ListN.{drop_of_length-le}
use Rattle.std.proofs.lemmas.Bool.{leb-true, leb-false}
use Rattle.std.proofs.lemmas.List.{drop_more, map-append}
use Rattle.std.specs.List.{flat_map}
use Rattle.flat_code.specs.Codes.{are_ops}
use Rattle.flat_code.specs.Ops.{OpData}
use Rattle.flat_code.specs.declared.kinds.JumpOperation.{JumpOperation}
use Rattle.stl_ast.specs.Statements.{is_empty_statement}
use Rattle.stl_ast.specs.declared.blocks.Block.{Block}
use Rattle.stl_ast.specs.declared.statements.Statement.{Statement}
use Rattle.block_layout.specs.declared.blocks.BlockLayout.{BlockLayout}
use Rattle.stl_types.specs.Context.{Context}
use Rattle.stl_codegen.specs.Bodies.{body_lines, body_ops, count_of_statements, line_here, ops_here}
use Rattle.stl_codegen.specs.CompiledBlock.{SourceInstruction, StatedBlock, op_with_target, code_in, compiled_block, lines_in, offset_of_statement, ops_in, placed_ops}
use Rattle.stl_codegen.specs.EmittedOps.{ops_of}
use Rattle.stl_codegen.specs.Fitting.{CodeFits, HasNoOp}
use Rattle.stl_codegen.specs.GeneratedProgram.{each_block, return_statement, instructions_from, statements_of}
use Rattle.stl_codegen.specs.Instruction.{instr_by, instruction, target_of}
use Rattle.stl_codegen.specs.Operations.{jump_operation_of}
use Rattle.stl_codegen.proofs.OpLemmas.{jump_ops}

-- the number of a statement has no part in its ops
by_number : (c : Context) (body : List Statement) (n m : ℕ) (s : Statement) (how : Option JumpOperation) → ops_of (instr_by c body n s how) ≡ ops_of (instr_by c body m s how)
by_number c body n m s None = refl
by_number c body n m s (Some how) = jump_ops how n (target_of body s.operand) ∙ sym (jump_ops how m (target_of body s.operand))

same_ops : (c : Context) (body : List Statement) (n : ℕ) (s : Statement) → ops_of (instruction c body n s) ≡ ops_of (instruction c body 0 s)
unfolding instruction
same_ops c body n s = by_number c body n 0 s (jump_operation_of s.code)

ops_step : (c : Context) (body : List Statement) (n : ℕ) (s : Statement) (empty : Bool) (more next rest : List OpData) → more ≡ rest → next ≡ rest →
    cond empty more (ops_of (instruction c body n s) ++ next) ≡ cond empty [] (ops_of (instruction c body 0 s)) ++ rest
ops_step c body n s true more next rest m k = m
ops_step c body n s false more next rest m k = ap (λ (l : List OpData). l ++ next) (same_ops c body n s) ∙ ap (λ (l : List OpData). ops_of (instruction c body 0 s) ++ l) k

if_ops : (empty : Bool) (more : List SourceInstruction) (one : SourceInstruction) (next : List SourceInstruction) → ops_in (cond empty more (one ∷ next)) ≡ cond empty (ops_in more) (ops_of one.instr ++ ops_in next)
if_ops true more one next = refl
if_ops false more one next = refl

stated_ops : (c : Context) (body : List Statement) (n : ℕ) (ss : List Statement) → ops_in (instructions_from c body n ss) ≡ flat_map (λ s. ops_here c body s) ss
unfolding ops_here
stated_ops c body n [] = refl
stated_ops c body n (s ∷ ss) =
    if_ops (is_empty_statement s.code) (instructions_from c body n ss) (record { instr = instruction c body n s; line = s.line }) (instructions_from c body (suc n) ss)
    ∙ ops_step c body n s (is_empty_statement s.code) _ _ _ (stated_ops c body n ss) (stated_ops c body (suc n) ss)

flat_both : {A B : Type 0} (f : A → List B) (xs ys : List A) → flat_map f (xs ++ ys) ≡ flat_map f xs ++ flat_map f ys
flat_both f [] ys = refl
flat_both {B = B} f (x ∷ xs) ys = ap (λ (l : List B). f x ++ l) (flat_both f xs ys) ∙ sym (append_assoc (f x) (flat_map f xs) (flat_map f ys))

pub body_ops_are : (c : Context) (b : Block) → ops_in (statements_of c b) ≡ body_ops c b
unfolding statements_of ops_of
body_ops_are c b =
    flat_both (λ s. ops_of s.instr) (instructions_from c b.body 0 b.body) (return_statement b ∷ [])
    ∙ ap (λ (l : List OpData). l ++ ops_of (return_statement b).instr) (stated_ops c b.body 0 b.body)

if_lines : (empty : Bool) (more : List SourceInstruction) (one : SourceInstruction) (next : List SourceInstruction) (rest : List ℕ) → lines_in more ≡ rest → lines_in next ≡ rest →
    lines_in (cond empty more (one ∷ next)) ≡ cond empty [] (one.line ∷ []) ++ rest
if_lines true more one next rest m k = m
if_lines false more one next rest m k = ap (λ (l : List ℕ). one.line ∷ l) k

stated_lines : (c : Context) (body : List Statement) (n : ℕ) (ss : List Statement) → lines_in (instructions_from c body n ss) ≡ flat_map line_here ss
stated_lines c body n [] = refl
stated_lines c body n (s ∷ ss) =
    if_lines (is_empty_statement s.code) (instructions_from c body n ss) (record { instr = instruction c body n s; line = s.line }) (instructions_from c body (suc n) ss) _ (stated_lines c body n ss) (stated_lines c body (suc n) ss)

pub body_lines_are : (c : Context) (b : Block) → lines_in (statements_of c b) ≡ body_lines b
unfolding statements_of
body_lines_are c b =
    map-append (λ s. s.line) (instructions_from c b.body 0 b.body) (return_statement b ∷ [])
    ∙ ap (λ (l : List ℕ). l ++ b.end_line ∷ []) (stated_lines c b.body 0 b.body)

-- as many lines as statements
if_counts : (empty : Bool) (line : ℕ) → length (cond empty [] (line ∷ [])) ≡ cond empty 0 1
if_counts true line = refl
if_counts false line = refl

counts : (ss : List Statement) → length (flat_map line_here ss) ≡ count_of_statements ss
counts [] = refl
counts (s ∷ ss) = length-append (line_here s) (flat_map line_here ss) ∙ ap (λ (k : ℕ). k + length (flat_map line_here ss)) (if_counts (is_empty_statement s.code) s.line) ∙ ap (λ (k : ℕ). cond (is_empty_statement s.code) 0 1 + k) (counts ss)

pub count_lines : (b : Block) → length (body_lines b) ≡ count_of_statements b.body + 1
count_lines b = length-append (flat_map line_here b.body) (b.end_line ∷ []) ∙ ap (λ (k : ℕ). k + 1) (counts b.body)

-- ops of which one is none don't fit, wherever they lead
pub no_op_misfits : (ops : List OpData) (lines : List ℕ) → HasNoOp ops → CodeFits (placed_ops ops) lines → ⊥
unfolding placed_ops
no_op_misfits ops lines none fits = differ (are_ops (map (op_with_target (offset_of_statement ops)) ops)) fits.ops (none.never (offset_of_statement ops))
  where
    differ : (b : Bool) → b ≡ true → b ≡ false → ⊥
    differ b is isnt = absurd cc

-- the code of a block by its body
pub code_is : (c : Context) (b : Block) (ops placed : List OpData) → ops ≡ body_ops c b → placed ≡ placed_ops ops → placed ≡ code_in (statements_of c b)
code_is c b ops placed is made = made ∙ ap placed_ops (is ∙ sym (body_ops_are c b))

-- what doesn't fit: too many lines, an op that is none, a jump too far
pub long_misfits : (c : Context) (b : Block) (lines : List ℕ) → lines ≡ body_lines b → 65536 ≤ length lines → CodeFits (code_in (statements_of c b)) (lines_in (statements_of c b)) → ⊥
long_misfits c b lines is long fits =
    let same : length (lines_in (statements_of c b)) ≡ length lines = ap length (body_lines_are c b ∙ sym is) in
    absurd (omega (arith, fits.count, same))

pub body_misfits : (c : Context) (b : Block) (lines : List ℕ) → HasNoOp (body_ops c b) → CodeFits (code_in (statements_of c b)) lines → ⊥
body_misfits c b lines none fits = no_op_misfits (ops_in (statements_of c b)) lines (subst HasNoOp (sym (body_ops_are c b)) none) fits

pub far_misfits : (c : Context) (b : Block) (ops : List OpData) (lines : List ℕ) → ops ≡ body_ops c b → are_ops (placed_ops ops) ≡ false → CodeFits (code_in (statements_of c b)) lines → ⊥
far_misfits c b ops lines is none fits =
    let same : placed_ops ops ≡ code_in (statements_of c b) = ap placed_ops (is ∙ sym (body_ops_are c b)) in
    differ (are_ops (placed_ops ops)) (ap are_ops same ∙ fits.ops) none
  where
    differ : (b : Bool) → b ≡ true → b ≡ false → ⊥
    differ b is isnt = absurd cc

-- ---- blocks one behind the other

-- what comes of the blocks of a source, with one block more
pub each_turn : {A : Type 0} (of : Context → Block → BlockLayout → List A) (c : Context) (bs : List Block) (ls : List BlockLayout) (i : ℕ) (b : Block) (l : BlockLayout) →
    i < length bs → i < length ls → b ≡ get_or bs i b → l ≡ get_or ls i l →
    each_block of (record c { block = i }) (drop i bs) (drop i ls) ≡ of (record c { block = i }) b l ++ each_block of (record c { block = i + 1 }) (drop (i + 1) bs) (drop (i + 1) ls)
each_turn {A = A} of c bs ls i b l in_bs in_ls is_b is_l =
    let split_bs : drop i bs ≡ b ∷ drop (i + 1) bs = drop_more bs i b in_bs ∙ ap (λ (y : Block). y ∷ drop (i + 1) bs) (sym is_b) in
    let split_ls : drop i ls ≡ l ∷ drop (i + 1) ls = drop_more ls i l in_ls ∙ ap (λ (y : BlockLayout). y ∷ drop (i + 1) ls) (sym is_l) in
    ap (λ (z : List Block). each_block of (record c { block = i }) z (drop i ls)) split_bs
    ∙ ap (λ (z : List BlockLayout). each_block of (record c { block = i }) (b ∷ drop (i + 1) bs) z) split_ls
    ∙ ap (λ (k : ℕ). of (record c { block = i }) b l ++ each_block of (record c { block = k }) (drop (i + 1) bs) (drop (i + 1) ls)) (sym (add-one i))

-- the code blocks of a source as ops, with one block more
pub each_compiled_turn : (of : Context → Block → BlockLayout → List StatedBlock) (c : Context) (bs : List Block) (ls : List BlockLayout) (i : ℕ) (b : Block) (l : BlockLayout) →
    i < length bs → i < length ls → b ≡ get_or bs i b → l ≡ get_or ls i l →
    map compiled_block (each_block of (record c { block = i }) (drop i bs) (drop i ls))
    ≡ map compiled_block (of (record c { block = i }) b l) ++ map compiled_block (each_block of (record c { block = i + 1 }) (drop (i + 1) bs) (drop (i + 1) ls))
each_compiled_turn of c bs ls i b l in_bs in_ls is_b is_l =
    ap (λ (z : List StatedBlock). map compiled_block z) (each_turn of c bs ls i b l in_bs in_ls is_b is_l)
    ∙ map-append compiled_block (of (record c { block = i }) b l) (each_block of (record c { block = i + 1 }) (drop (i + 1) bs) (drop (i + 1) ls))

-- the list from a place within it on begins with an item
split : {A : Type 0} (xs : List A) (i : ℕ) → i < length xs → (y : A) × (drop i xs ≡ y ∷ drop (i + 1) xs)
split [] i within = absurd (omega arith)
split (x ∷ xs) i within = (get_or (x ∷ xs) i x, drop_more (x ∷ xs) i x within)

pub each_layout_turn : {A : Type 0} (of : Context → BlockLayout → List A) (c : Context) (bs : List Block) (ls : List BlockLayout) (i : ℕ) (l : BlockLayout) →
    i < length bs → i < length ls → l ≡ get_or ls i l →
    each_block (λ c b l. of c l) (record c { block = i }) (drop i bs) (drop i ls) ≡ of (record c { block = i }) l ++ each_block (λ c b l. of c l) (record c { block = i + 1 }) (drop (i + 1) bs) (drop (i + 1) ls)
each_layout_turn {A = A} of c bs ls i l in_bs in_ls is_l =
    let each : Context → List Block → List BlockLayout → List A = λ c bs ls. each_block (λ c b l. of c l) c bs ls in
    let block = split bs i in_bs in
    let split_ls : drop i ls ≡ l ∷ drop (i + 1) ls = drop_more ls i l in_ls ∙ ap (λ (y : BlockLayout). y ∷ drop (i + 1) ls) (sym is_l) in
    ap (λ (z : List Block). each (record c { block = i }) z (drop i ls)) block.1
    ∙ ap (λ (z : List BlockLayout). each (record c { block = i }) (block.0 ∷ drop (i + 1) bs) z) split_ls
    ∙ ap (λ (k : ℕ). of (record c { block = i }) l ++ each (record c { block = k }) (drop (i + 1) bs) (drop (i + 1) ls)) (sym (add-one i))

-- and none
each_none : {A : Type 0} (of : Context → Block → BlockLayout → List A) (c : Context) (bs : List Block) → each_block of c bs [] ≡ []
each_none of c [] = refl
each_none of c (b ∷ bs) = refl

pub each_end : {A : Type 0} (of : Context → Block → BlockLayout → List A) (c : Context) (bs : List Block) (ls : List BlockLayout) (i : ℕ) → min (length bs) (length ls) ≤ i →
    each_block of c (drop i bs) (drop i ls) ≡ []
each_end of c bs ls i over = by (leb (length bs) i) refl
  where
    by : (ended : Bool) → leb (length bs) i ≡ ended → each_block of c (drop i bs) (drop i ls) ≡ []
    by true h =
        let le : length bs ≤ i = leb-true (length bs) i h in
        ap (λ (z : List Block). each_block of c z (drop i ls)) (drop_of_length-le bs le)
    by false h =
        let lt = leb-false (length bs) i h in
        let le : length ls ≤ i = omega arith in
        ap (λ (z : List BlockLayout). each_block of c (drop i bs) z) (drop_of_length-le ls le) ∙ each_none of c (drop i bs)
