-- The statements of a source whose program verifies: the list of each JL is there, and no CALL passes
-- too much.
use Rattle.std.proofs.Common.{◌≡◌, ℕ, zero, suc, ◌+◌, ◌-◌, ◌≤◌, Bool, true, false, eqb, ◌&&◌, if◌then◌else◌, List, [], ◌∷◌, ◌++◌, length, length-append, map, take, append_assoc, Option, Some, None, refl, sym, ap, subst, ◌∙◌, arith}
use Rattle.std.specs.Prelude.{◌||◌, not}
use Rattle.std.specs.List.{AllByRecursion}
use Rattle.std.proofs.lemmas.Bool.{eqb-true, eqb-false}
use Rattle.std.proofs.lemmas.List.{length-map}
use Rattle.plc_base.specs.Kinds.{is_code}
use Rattle.flat_code.specs.Blocks.{Environment, is_ju_operand, leads_to_target, is_bad_list, jump_fault, call_fault, mark_fault, bracket_fault, zone_fault, at_offset, op_faults, faults_over, block_faults}
use Rattle.flat_code.specs.Codes.{size_of_op, overlong_statement, first_found, are_ops, code_bytes, ends_by_be as ends_right, last_place, stop_at, code_layout}
use Rattle.flat_code.specs.Image.{IsRight, record_of_block, block_rows, plain_block, code_block_layout as whole_block, code_and_lines, after_block, code_blocks_layout, body_rows, records_layout, body_layout}
use Rattle.flat_code.specs.Instr.{Instr, Passing, Does, Jumps, JumpsByList, Calls, Returns}
use Rattle.flat_code.specs.Kinds.{jump_number}
use Rattle.flat_code.specs.Layout.{good_many, is_fine}
use Rattle.flat_code.specs.Loading.{AreVerified, lens_of, environment_of_block}
use Rattle.flat_code.specs.OpCodes.{op_code_of as code_of_operation}
use Rattle.flat_code.specs.Ops.{OpData}
use Rattle.flat_code.specs.PlacedOps.{PlacedOp, StatementStart, ops_placed, brackets_after, before_next, starts_of_statements, zones_behind_op}
use Rattle.flat_code.specs.Programs.{Program}
use Rattle.flat_code.specs.Records.{BlockRecord}
use Rattle.flat_code.specs.declared.image_fields.OpenBracket.{OpenBracket}
use Rattle.flat_code.specs.declared.kinds.JumpOperation.{JumpOperation}
use Rattle.flat_code.specs.declared.kinds.JumpOperation.TheVariants as jump
use Rattle.flat_code.specs.declared.operands.Operand.{Operand}
use Rattle.flat_code.specs.declared.operands.Operand.TheVariants as operand
use Rattle.flat_code.specs.declared.operations.EndOperation.TheVariants as ends
use Rattle.flat_code.specs.declared.operations.Operation.TheVariants as operation
use Rattle.stl_ast.specs.Statements.{is_empty_statement}
use Rattle.stl_ast.specs.declared.blocks.Block.{Block}
use Rattle.stl_ast.specs.declared.blocks.Tree.{Tree}
use Rattle.stl_ast.specs.declared.statements.Statement.{Statement}
use Rattle.stl_symbols.specs.Symbol.{Symbol}
use Rattle.block_layout.specs.declared.blocks.BlockLayout.{BlockLayout}
use Rattle.plc_base.specs.declared.blocks.BlockId.{BlockId}
use Rattle.plc_base.proofs.ListLemmas.{all_append}
use Rattle.sem_kept.proofs.accepted.Accepted.{all_sorted}
use Rattle.block_layout.proofs.CommonLemmas.{none_left, none_right}
use Rattle.plc_base.proofs.TruthLemmas.{and_first, and_second}
use Rattle.stl_types.specs.Bodies.{first_context}
use Rattle.stl_types.specs.Context.{Context}
use Rattle.stl_codegen.specs.CompiledBlock.{SourceInstruction, StatedBlock, compiled_block, code_in, ops_in, offset_from, offset_of_statement, operand_with_target, op_with_target}
use Rattle.stl_codegen.specs.EmittedOps.{preparing_op, op_with_end_mark, pass_ops, jump_op, call_op, end_op}
use Rattle.stl_codegen.specs.GeneratedProgram.{instructions_from, statements_of, code_block, code_block_of, each_block, code_blocks_of, program_of}
use Rattle.stl_codegen.specs.Order.{is_code_before}
use Rattle.stl_codegen.specs.Instruction.{numbers_from, instruction}
use Rattle.sem_kept.specs.Back.{is_target, is_ju, IsJu, IsList, IsGeneratedInstruction, AreCompiled}
use Rattle.sem_kept.specs.Statements.{IsCompilable}
use Rattle.sem_kept.specs.VerifiedBlocks.{VerifiedIsCompilable}
use Rattle.sem_kept.proofs.compiled.Instructions.{IsMade, instruction_made}
use Rattle.sem_kept.proofs.compiled.Reading.{parts_of_instr, parts, is_statement, ops_in_parts, parts_append, parts_count, parts_are, aimed_part, aimed_is, the_code, ends_at, ends_append, position, the_code_is, ops_with, return_at}
use Rattle.sem_kept.proofs.compiled.Runs.{total, size_aimed, total_aimed, InstrParts, IsPreparing, IsPartedStatement, AreStatements, flat, bytes_of, bytes_long, extent, offset_next}

-- ---- what the source gives

abbrev AreMade : (n : ℕ) → List SourceInstruction → Type 0
AreMade n [] = Unit {0}
AreMade n (s ∷ ss) = IsMade n s.instr × AreMade (suc n) ss

record IsMadeBlock (b : StatedBlock) : Type 0 where
  inner : List SourceInstruction
  line : ℕ
  whole : b.statements ≡ inner ++ return_at line ∷ []
  made : AreMade 0 inner

stated_made : (c : Context) (all : List Statement) (n : ℕ) (ss : List Statement)
    → AreMade n (instructions_from c all n ss)
stated_made c all n [] = tt
stated_made c all n (s ∷ ss) =
    by (is_empty_statement s.code) (stated_made c all n ss) (stated_made c all (suc n) ss)
  where
    by : (empty : Bool) → AreMade n (instructions_from c all n ss)
        → AreMade (suc n) (instructions_from c all (suc n) ss)
        → AreMade n (if empty then instructions_from c all n ss
        else record { instr = instruction c all n s; line = s.line }
        ∷ instructions_from c all (suc n) ss)
    by true same next = same
    by false same next = (instruction_made c all n s, next)

made_block : (c : Context) (b : Block) (l : BlockLayout) (id : BlockId)
    → IsMadeBlock (code_block c b l id)
unfolding statements_of
made_block c b l id = record {
  inner = instructions_from c b.body 0 b.body;
  line = b.end_line;
  whole = refl;
  made = stated_made c b.body 0 b.body;
}

made_of : (c : Context) (b : Block) (l : BlockLayout) (id : Option BlockId)
    → AllByRecursion IsMadeBlock (code_block_of c b l id)
made_of c b l None = tt
made_of c b l (Some id) = by (is_code id.kind)
  where
    by : (is : Bool)
        → AllByRecursion IsMadeBlock (if is then code_block c b l id ∷ [] else [])
    by true = (made_block c b l id, tt)
    by false = tt

made_each : (c : Context) (bs : List Block) (ls : List BlockLayout)
    → AllByRecursion IsMadeBlock (each_block (λ c b l. code_block_of c b l l.id) c bs ls)
made_each c [] ls = tt
made_each c (b ∷ bs) [] = tt
made_each c (b ∷ bs) (l ∷ ls) =
    all_append IsMadeBlock (code_block_of c b l l.id)
    (each_block (λ c b l. code_block_of c b l l.id) (record c { block = suc c.block }) bs ls)
    (made_of c b l l.id) (made_each (record c { block = suc c.block }) bs ls)

blocks_made : (t : Tree) (symbols : List Symbol) (layouts : List BlockLayout)
    → AllByRecursion IsMadeBlock (code_blocks_of t symbols layouts)
unfolding code_blocks_of
blocks_made t symbols layouts =
    all_sorted IsMadeBlock is_code_before
    (each_block (λ c b l. code_block_of c b l l.id) (first_context symbols layouts t.blocks)
    t.blocks layouts)
    (made_each (first_context symbols layouts t.blocks) t.blocks layouts)

-- ---- faults

no_fault : (at : ℕ) (fault : Option ℕ) → at_offset at fault ≡ [] → fault ≡ None
no_fault at None e = refl
no_fault at (Some code) e = absurd cc

-- ops at an offset, of which none has a fault
record IsClean (environment : Environment) (statements : List StatementStart) (at : ℕ) (ops : List OpData) : Type 0 where
  brackets : List OpenBracket
  zones : List ℕ
  before : List OpData
  none : faults_over environment statements 0 (ops_placed at brackets zones before ops) ≡ []

clean_next : (a : Environment) (ss : List StatementStart) (at : ℕ) (op : OpData) (ops : List OpData)
    → IsClean a ss at (op ∷ ops) → IsClean a ss (at + size_of_op op) ops
clean_next a ss at op ops h = record {
  brackets = brackets_after at op.code h.brackets;
  zones = zones_behind_op at op.code h.zones;
  before = before_next op h.before;
  none = none_right (op_faults a ss 0 (record {
    at = at;
    brackets = h.brackets;
    zones = h.zones;
    before = h.before;
    op = op;
    rest = ops;
  }))
      (faults_over a ss 0
      (ops_placed (at + size_of_op op) (brackets_after at op.code h.brackets) (zones_behind_op at op.code h.zones) (before_next op h.before) ops)) h.none;
}

clean_behind : (a : Environment) (ss : List StatementStart) (at : ℕ) (front ops : List OpData)
    → IsClean a ss at (front ++ ops) → IsClean a ss (at + total front) ops
clean_behind a ss at [] ops h = subst (λ (k : ℕ). IsClean a ss k ops) (omega arith) h
clean_behind a ss at (op ∷ front) ops h =
    subst (λ (k : ℕ). IsClean a ss k ops) (omega arith)
    (clean_behind a ss (at + size_of_op op) front ops (clean_next a ss at op (front ++ ops) h))

-- the list of a JL
leads_by : (a : Environment) (ss : List StatementStart) (p : PlacedOp) (target : ℕ)
    → jump_fault ss p 1 target ≡ None → leads_to_target 255 target (p.at + size_of_op p.op) p.rest ≡ true
leads_by a ss p target e = by (leads_to_target 255 target (p.at + size_of_op p.op) p.rest) refl e
  where
    by : (led : Bool) → leads_to_target 255 target (p.at + size_of_op p.op) p.rest ≡ led
        → jump_fault ss p 1 target ≡ None → leads_to_target 255 target (p.at + size_of_op p.op) p.rest ≡ true
    by true is h = is
    by false is h =
        let bad : is_bad_list p 1 target ≡ true = ap not is in
        let fault : jump_fault ss p 1 target ≡ Some 6 = rw bad refl in
        absurd cc

clean_leads : (a : Environment) (ss : List StatementStart) (at code target : ℕ) (last : Bool) (ops : List OpData)
    → IsClean a ss at (record { code = code; last = last; operand = operand.Jump 1 target } ∷ ops)
    → leads_to_target 255 target
    (at + size_of_op (record { code = code; last = last; operand = operand.Jump 1 target })) ops ≡ true
unfolding op_faults
clean_leads a ss at code target last ops h = leads_by a ss here target jump_right
  where
    op : OpData
    op = record { code = code; last = last; operand = operand.Jump 1 target }

    here : PlacedOp
    here = record { at = at; brackets = h.brackets; zones = h.zones; before = h.before; op = op; rest = ops }

    one : List (ℕ × ℕ)
    one = at_offset (0 + at) (jump_fault ss here 1 target)

    two : List (ℕ × ℕ)
    two = at_offset (0 + at) (call_fault a a.data_lens here)

    three : List (ℕ × ℕ)
    three = at_offset (0 + at) (mark_fault op)

    four : List (ℕ × ℕ)
    four = at_offset (0 + at) (bracket_fault code h.brackets)

    five : List (ℕ × ℕ)
    five = at_offset (0 + at) (zone_fault code h.zones)

    jump_right : jump_fault ss here 1 target ≡ None
    jump_right = no_fault (0 + at) (jump_fault ss here 1 target)
        (none_left one two
        (none_left (one ++ two) three
        (none_left ((one ++ two) ++ three) four
        (none_left (((one ++ two) ++ three) ++ four) five
        (none_left ((((one ++ two) ++ three) ++ four) ++ five)
        (faults_over a ss 0
        (ops_placed (at + size_of_op op) (brackets_after at code h.brackets) (zones_behind_op at code h.zones) (before_next op h.before) ops)) h.none)))))

-- ---- positions

offset_least : (at : ℕ) (begins : Bool) (ops : List OpData) (n : ℕ)
    → at ≤ offset_from at begins ops n
offset_least at begins [] n = omega arith
offset_least at true (op ∷ ops) zero = omega arith
offset_least at true (op ∷ ops) (suc n) =
    let more = offset_least (at + size_of_op op) op.last ops n in omega (arith, more)
offset_least at false (op ∷ ops) n =
    let more = offset_least (at + size_of_op op) op.last ops n in omega (arith, more)

offset_first : (at : ℕ) (p : InstrParts) (ops : List OpData)
    → offset_from at true (p.front ++ p.end ∷ ops) 0 ≡ at
offset_first at p ops = by p.front
  where
    by : (front : List OpData) → offset_from at true (front ++ p.end ∷ ops) 0 ≡ at
    by [] = refl
    by (op ∷ front) = refl

-- only one statement has the offset at which a statement begins
offset_one : (at n : ℕ) (ps : List InstrParts) (q : InstrParts) (qs : List InstrParts)
    → AreStatements ps → IsPartedStatement q
    → offset_from at true (flat (ps ++ q ∷ qs)) n ≡ at + extent ps → n ≡ length ps
offset_one at zero [] q qs h k e = refl
offset_one at (suc n) [] q qs h k e =
    let next = offset_next at n q (flat qs) k in
    let least = offset_least (at + bytes_of q) true (flat qs) n in
    let long = bytes_long q in
    absurd (omega (arith, e, next, least, long))
offset_one at zero (p ∷ ps) q qs h k e =
    let first = offset_first at p (flat (ps ++ q ∷ qs)) in
    let long = bytes_long p in
    absurd (omega (arith, e, first, long))
offset_one at (suc n) (p ∷ ps) q qs h k e =
    ap suc (offset_one (at + bytes_of p) n ps q qs h.1 k
    (sym (offset_next at n p (flat (ps ++ q ∷ qs)) h.0) ∙ e ∙ omega arith))

position_one : (front : List SourceInstruction) (s : SourceInstruction) (rest : List SourceInstruction) (n : ℕ)
    → position (front ++ s ∷ rest) n ≡ ends_at front → n ≡ length front
unfolding offset_of_statement
position_one front s rest n e =
    let same : ops_in (front ++ s ∷ rest) ≡ flat (parts front ++ parts_of_instr s.instr ∷ parts rest)
    = ops_in_parts (front ++ s ∷ rest) ∙ ap flat (parts_append front (s ∷ rest)) in
    offset_one 0 n (parts front) (parts_of_instr s.instr) (parts rest) (parts_are front)
    (is_statement s.instr)
    (ap (λ (z : List OpData). offset_from 0 true z n) (sym same) ∙ e ∙ omega arith)
    ∙ parts_count front

-- ---- jump lists

leads_here : (most target from : ℕ) (op : OpData) (ops : List OpData)
    → is_ju_operand op.operand ≡ false → leads_to_target most target from (op ∷ ops) ≡ true
    → from ≡ target
leads_here zero target from op ops other e = eqb-true from target e
leads_here (suc most) target from op ops other e = by (eqb from target) refl e
  where
    by : (t : Bool) → eqb from target ≡ t
        → (t || is_ju_operand op.operand && leads_to_target most target (from + size_of_op op) ops) ≡ true
        → from ≡ target
    by true is h = eqb-true from target is
    by false is h =
        let none : (is_ju_operand op.operand && leads_to_target most target (from + size_of_op op) ops) ≡ false
        = rw other refl in
        absurd cc

-- one less may stand behind a JU
data Listed (most target from : ℕ) (op : OpData) (ops : List OpData) : Type 0 where
  Here : (same : from ≡ target) → Listed most target from op ops
  Behind : (fewer : ℕ) (is : most ≡ suc fewer)
      (more : leads_to_target fewer target (from + size_of_op op) ops ≡ true) → Listed most target from op ops

leads_on : (most target from : ℕ) (op : OpData) (ops : List OpData)
    → leads_to_target most target from (op ∷ ops) ≡ true → Listed most target from op ops
leads_on zero target from op ops e = Here (eqb-true from target e)
leads_on (suc most) target from op ops e = by (eqb from target) refl e
  where
    by : (t : Bool) → eqb from target ≡ t
        → (t || is_ju_operand op.operand && leads_to_target most target (from + size_of_op op) ops) ≡ true
        → Listed (suc most) target from op ops
    by true is h = Here (eqb-true from target is)
    by false is h = further (is_ju_operand op.operand) h
      where
        further : (j : Bool) → (j && leads_to_target most target (from + size_of_op op) ops) ≡ true
            → Listed (suc most) target from op ops
        further true g = Behind most refl g
        further false g = absurd cc

no_jump : (f : ℕ → ℕ) (o : Operand) → is_target o ≡ false
    → is_ju_operand (operand_with_target f o) ≡ false
no_jump f (operand.Jump kind target) h = absurd cc
no_jump f operand.Nothing h = refl
no_jump f _ h = refl

other_jump : (how : JumpOperation) (target : ℕ) → is_ju (Jumps how target) ≡ false
    → is_ju_operand (operand.Jump (jump_number how) target) ≡ false
other_jump jump.Ju target h = absurd cc
other_jump _ target h = refl

-- a statement that isn't JU ends the list
list_stops : (f : ℕ → ℕ) (n most target from : ℕ) (i : Instr) (rest : List OpData)
    → IsMade n i → is_ju i ≡ false → leads_to_target most target from (ops_with f i rest) ≡ true
    → from ≡ target
list_stops f n most target from (Does None w o) rest made other e =
    leads_here most target from (op_with_target f (op_with_end_mark w o)) rest (no_jump f o made.1) e
list_stops f n most target from (Does (Some number) w o) rest made other e =
    leads_here most target from (preparing_op operation.UseDb (operand.UseDb number))
    (op_with_target f (op_with_end_mark w o) ∷ rest) refl e
list_stops f n most target from (Jumps how there) rest made other e =
    leads_here most target from (jump_op how (f there)) rest (other_jump how (f there) (no_ju how other)) e
  where
    no_ju : (how : JumpOperation) → is_ju (Jumps how there) ≡ false
        → is_ju (Jumps how (f there)) ≡ false
    no_ju jump.Ju h = h
    no_ju _ h = refl
list_stops f n most target from (JumpsByList targets otherwise) rest made other e =
    leads_here most target from (jump_op jump.Jl (f otherwise)) rest refl e
list_stops f n most target from (Calls how block instance []) rest made other e =
    leads_here most target from (call_op how block instance) rest refl e
list_stops f n most target from (Calls how block instance (p ∷ ps)) rest made other e =
    leads_here most target from (preparing_op operation.Pass (operand.Pass p.index p.actual))
    ((aimed_part f (parts_of_instr (Calls how block instance ps))).front
    ++ call_op how block instance ∷ rest) refl e
list_stops f n most target from (Returns how) rest made other e =
    leads_here most target from (end_op how) rest refl e

-- JU is one op
data Goes (f : ℕ → ℕ) (most target from : ℕ) (i : Instr) (rest : List OpData) : Type 0 where
  Ends : (same : from ≡ target) → Goes f most target from i rest
  On : (fewer : ℕ) (is : most ≡ suc fewer) (ju : is_ju i ≡ true)
      (more : leads_to_target fewer target (from + bytes_of (parts_of_instr i)) rest ≡ true)
      → Goes f most target from i rest

ju_goes : (f : ℕ → ℕ) (most target from there : ℕ) (rest : List OpData)
    → Listed most target from (jump_op jump.Ju (f there)) rest
    → Goes f most target from (Jumps jump.Ju there) rest
ju_goes f most target from there rest (Here same) = Ends same
ju_goes f most target from there rest (Behind fewer is more) =
    let long = size_aimed f (jump_op jump.Ju there) in
    let same : from + size_of_op (jump_op jump.Ju (f there)) ≡ from + bytes_of (parts_of_instr (Jumps jump.Ju there))
    = omega (arith, long) in
    On fewer is refl
    (ap (λ (k : ℕ). leads_to_target fewer target k rest) (sym same) ∙ more)

list_goes : (f : ℕ → ℕ) (n most target from : ℕ) (i : Instr) (rest : List OpData)
    → IsMade n i → leads_to_target most target from (ops_with f i rest) ≡ true
    → Goes f most target from i rest
list_goes f n most target from (Jumps jump.Ju there) rest made e =
    ju_goes f most target from there rest
    (leads_on most target from (jump_op jump.Ju (f there)) rest e)
list_goes f n most target from i rest made e =
    Ends (list_stops f n most target from i rest made refl e)

-- the statements up to a target are JU
record Lists (most target first : ℕ) (behind : List SourceInstruction) : Type 0 where
  count : ℕ
  at : target ≡ first + count
  few : count ≤ most
  there : count ≤ length behind
  jumps : AllByRecursion IsJu (take count behind)

lists_none : (most target first : ℕ) (behind : List SourceInstruction) → target ≡ first
    → Lists most target first behind
lists_none most target first behind e = record {
  count = 0;
  at = omega (arith, e);
  few = omega arith;
  there = omega arith;
  jumps = tt;
}

lists_more : (most target first : ℕ) (s : SourceInstruction) (behind : List SourceInstruction) → is_ju s.instr ≡ true
    → Lists most target (suc first) behind → Lists (suc most) target first (s ∷ behind)
lists_more most target first s behind ju h = record {
  count = suc h.count;
  at = (let at = h.at in omega (arith, at));
  few = (let few = h.few in omega (arith, few));
  there = (let there = h.there in omega (arith, there));
  jumps = (ju, h.jumps);
}

lists_step : (f : ℕ → ℕ) (most target from first n : ℕ) (s : SourceInstruction) (behind : List SourceInstruction)
    (rest : List OpData)
    → (from ≡ f target → target ≡ first)
    → ((fewer : ℕ) → leads_to_target fewer (f target) (from + bytes_of (parts_of_instr s.instr)) rest ≡ true
    → Lists fewer target (suc first) behind)
    → Goes f most (f target) from s.instr rest → Lists most target first (s ∷ behind)
lists_step f most target from first n s behind rest one more (Ends same) =
    lists_none most target first (s ∷ behind) (one same)
lists_step f most target from first n s behind rest one more (On fewer is ju led) =
    subst (λ (k : ℕ). Lists k target first (s ∷ behind)) (sym is)
    (lists_more fewer target first s behind ju (more fewer led))

one_longer : (front : List SourceInstruction) (s : SourceInstruction) → length (front ++ s ∷ []) ≡ suc (length front)
one_longer front s = length-append front (s ∷ []) ∙ omega arith

one_further : (front : List SourceInstruction) (s : SourceInstruction)
    → ends_at (front ++ s ∷ []) ≡ ends_at front + bytes_of (parts_of_instr s.instr)
one_further front s = ends_append front (s ∷ []) ∙ omega arith

list_by_ops : (whole front behind : List SourceInstruction) (line n most target : ℕ)
    → whole ≡ front ++ (behind ++ return_at line ∷ []) → AreMade n behind
    → leads_to_target most (position whole target) (ends_at front)
    (the_code (position whole) (behind ++ return_at line ∷ [])) ≡ true
    → Lists most target (length front) (behind ++ return_at line ∷ [])
list_by_ops whole front [] line n most target e made led =
    let here = leads_here most (position whole target) (ends_at front) (end_op ends.Be) [] refl led in
    lists_none most target (length front) (return_at line ∷ [])
    (position_one front (return_at line) [] target
    (ap (λ (z : List SourceInstruction). position z target) (sym e) ∙ sym here))
list_by_ops whole front (s ∷ behind) line n most target e made led =
    lists_step (position whole) most target (ends_at front) (length front) n s
    (behind ++ return_at line ∷ [])
    (the_code (position whole) (behind ++ return_at line ∷ []))
    (λ here. position_one front s (behind ++ return_at line ∷ []) target
    (ap (λ (z : List SourceInstruction). position z target) (sym e) ∙ sym here))
    (λ fewer more.
    subst (λ (k : ℕ). Lists fewer target k (behind ++ return_at line ∷ [])) (one_longer front s)
    (list_by_ops whole (front ++ s ∷ []) behind line (suc n) fewer target
    (e ∙ sym (append_assoc front (s ∷ []) (behind ++ return_at line ∷ []))) made.1
    (ap (λ (k : ℕ). leads_to_target fewer (position whole target) k
    (the_code (position whole) (behind ++ return_at line ∷ []))) (one_further front s) ∙ more)))
    (list_goes (position whole) n most (position whole target) (ends_at front) s.instr
    (the_code (position whole) (behind ++ return_at line ∷ [])) made.0 led)

numbers_count : (n count : ℕ) → length (numbers_from n count) ≡ count
numbers_count n zero = refl
numbers_count n (suc count) = ap suc (numbers_count (suc n) count)

is_list : (n otherwise : ℕ) (targets : List ℕ) (behind : List SourceInstruction)
    → targets ≡ numbers_from (suc n) (otherwise - suc n)
    → Lists 255 otherwise (suc n) behind → IsList n targets otherwise behind
is_list n otherwise targets behind made h = record {
  few = (let few = h.few in omega (arith, few, count));
  numbers = made ∙ ap (numbers_from (suc n)) (sym (ap length made ∙ numbers_count (suc n) (otherwise - suc n)));
  ends = h.at ∙ ap (λ (k : ℕ). suc n + k) (sym count);
  there = (let there = h.there in omega (arith, there, count));
  jumps = subst (λ (k : ℕ). AllByRecursion IsJu (take k behind)) (sym count) h.jumps;
}
  where
    count : length targets ≡ h.count
    count = let at = h.at in
        ap length made ∙ numbers_count (suc n) (otherwise - suc n) ∙ omega (arith, at)

-- ---- at most 64 ops

record IsShort (ops : List OpData) : Type 0 where
  at : ℕ
  none : overlong_statement 0 at ops ≡ None

-- what stands before the last op of a statement
record IsFew (count : ℕ) (front rest : List OpData) : Type 0 where
  few : count + length front ≤ 63
  more : IsShort rest

few_in : (count at : ℕ) (front : List OpData) (op : OpData) (rest : List OpData)
    → AllByRecursion IsPreparing front → op.last ≡ true → count ≤ 64
    → overlong_statement count at (front ++ op ∷ rest) ≡ None → IsFew count front rest
few_in count at [] op rest fs last most e = by (eqb count 64) refl e
  where
    by : (t : Bool) → eqb count 64 ≡ t
        → (if t then Some at else overlong_statement (if op.last then 0 else suc count) (at + size_of_op op) rest) ≡ None
        → IsFew count [] rest
    by true is h = absurd cc
    by false is h =
        let other = eqb-false count 64 is in
        let same : overlong_statement 0 (at + size_of_op op) rest ≡ None
        = ap (λ (t : Bool). overlong_statement (if t then 0 else suc count) (at + size_of_op op) rest) (sym last) ∙ h in
        record { few = omega (arith, other, most); more = record { at = at + size_of_op op; none = same } }
few_in count at (x ∷ front) op rest fs last most e =
    by (eqb count 64) refl e (few_in (suc count) (at + size_of_op x) front op rest fs.1 last)
  where
    by : (t : Bool) → eqb count 64 ≡ t
        → (if t then Some at
        else overlong_statement (if x.last then 0 else suc count) (at + size_of_op x) (front ++ op ∷ rest)) ≡ None
        → (suc count ≤ 64 → overlong_statement (suc count) (at + size_of_op x) (front ++ op ∷ rest) ≡ None
        → IsFew (suc count) front rest)
        → IsFew count (x ∷ front) rest
    by true is h more = absurd cc
    by false is h more =
        let other = eqb-false count 64 is in
        let same : overlong_statement (suc count) (at + size_of_op x) (front ++ op ∷ rest) ≡ None
        = ap (λ (t : Bool). overlong_statement (if t then 0 else suc count) (at + size_of_op x) (front ++ op ∷ rest)) (sym fs.0) ∙ h in
        let r = more (omega (arith, other, most)) same in
        let few = r.few in
        record { few = omega (arith, few); more = r.more }

few_of : (f : ℕ → ℕ) (i : Instr) (rest : List OpData) → IsShort (ops_with f i rest)
    → IsFew 0 (aimed_part f (parts_of_instr i)).front rest
few_of f i rest h =
    let is = aimed_is f (parts_of_instr i) (is_statement i) in
    few_in 0 h.at (aimed_part f (parts_of_instr i)).front (aimed_part f (parts_of_instr i)).end rest is.front is.end
    (omega arith) h.none

passing_count : (ps : List Passing) → length (pass_ops ps) ≡ length ps
passing_count [] = refl
passing_count (p ∷ ps) = ap suc (passing_count ps)

passed_few : (f : ℕ → ℕ) (ps : List Passing) (rest : List OpData)
    → IsFew 0 (map (op_with_target f) (pass_ops ps)) rest → length ps ≤ 63
passed_few f ps rest h =
    let few = h.few in
    let same = length-map (pass_ops ps) (op_with_target f) in
    let count = passing_count ps in
    omega (arith, few, same, count)

-- ---- a block

one_compiled : (a : Environment) (ss : List StatementStart) (whole front : List SourceInstruction) (s : SourceInstruction)
    (behind : List SourceInstruction) (line : ℕ) (i : Instr)
    → whole ≡ front ++ s ∷ (behind ++ return_at line ∷ []) → s.instr ≡ i
    → IsMade (length front) i → AreMade (suc (length front)) behind
    → IsClean a ss (ends_at front)
    (ops_with (position whole) i (the_code (position whole) (behind ++ return_at line ∷ [])))
    → IsFew 0 (aimed_part (position whole) (parts_of_instr i)).front
    (the_code (position whole) (behind ++ return_at line ∷ []))
    → IsGeneratedInstruction (length front) i (behind ++ return_at line ∷ [])
one_compiled a ss whole front s behind line (Does use_db w o) e is made more clean few = made
one_compiled a ss whole front s behind line (Jumps how target) e is made more clean few = made
one_compiled a ss whole front s behind line (Returns how) e is made more clean few = tt
one_compiled a ss whole front s behind line (Calls how block instance passings) e is made more clean few = (
  made.0,
  made.1,
  passed_few (position whole) passings
      (the_code (position whole) (behind ++ return_at line ∷ [])) few,
)
one_compiled a ss whole front s behind line (JumpsByList targets otherwise) e is made more clean few =
    is_list (length front) otherwise targets (behind ++ return_at line ∷ []) made
    (subst (λ (k : ℕ). Lists 255 otherwise k (behind ++ return_at line ∷ [])) (one_longer front s)
    (list_by_ops whole (front ++ s ∷ []) behind line (suc (length front)) 255 otherwise
    (e ∙ sym (append_assoc front (s ∷ []) (behind ++ return_at line ∷ []))) more
    (ap (λ (k : ℕ). leads_to_target 255 (f otherwise) k rest) from
    ∙ clean_leads a ss (ends_at front) (code_of_operation operation.Jump) (f otherwise) true rest clean)))
  where
    f : ℕ → ℕ
    f = position whole

    rest : List OpData
    rest = the_code (position whole) (behind ++ return_at line ∷ [])

    from : ends_at (front ++ s ∷ []) ≡ ends_at front + size_of_op (jump_op jump.Jl (f otherwise))
    from =
        let long = size_aimed f (jump_op jump.Jl otherwise) in
        let same : bytes_of (parts_of_instr s.instr) ≡ bytes_of (parts_of_instr (JumpsByList targets otherwise))
        = ap (λ (i : Instr). bytes_of (parts_of_instr i)) is in
        let further = one_further front s in
        omega (arith, long, same, further)

clean_part : (a : Environment) (ss : List StatementStart) (f : ℕ → ℕ) (at : ℕ) (i : Instr) (rest : List OpData)
    → IsClean a ss at (ops_with f i rest) → IsClean a ss (at + bytes_of (parts_of_instr i)) rest
clean_part a ss f at i rest h =
    let p = aimed_part f (parts_of_instr i) in
    let front = total_aimed f (parts_of_instr i).front in
    let end = size_aimed f (parts_of_instr i).end in
    let same : at + total p.front + size_of_op p.end ≡ at + bytes_of (parts_of_instr i) = omega (arith, front, end) in
    subst (λ (k : ℕ). IsClean a ss k rest) same
    (clean_next a ss (at + total p.front) p.end rest
    (clean_behind a ss at p.front (p.end ∷ rest) h))

compiled_from : (a : Environment) (ss : List StatementStart) (whole front behind : List SourceInstruction) (line : ℕ)
    → whole ≡ front ++ (behind ++ return_at line ∷ []) → AreMade (length front) behind
    → IsClean a ss (ends_at front) (the_code (position whole) (behind ++ return_at line ∷ []))
    → IsShort (the_code (position whole) (behind ++ return_at line ∷ []))
    → AreCompiled (length front) (behind ++ return_at line ∷ [])
compiled_from a ss whole front [] line e made clean short = (tt, tt)
compiled_from a ss whole front (s ∷ behind) line e made clean short = (
  one_compiled a ss whole front s behind line s.instr e refl made.0 made.1 clean few,
  subst (λ (k : ℕ). AreCompiled k (behind ++ return_at line ∷ [])) (one_longer front s)
      (compiled_from a ss whole (front ++ s ∷ []) behind line
      (e ∙ sym (append_assoc front (s ∷ []) (behind ++ return_at line ∷ [])))
      (subst (λ (k : ℕ). AreMade k behind) (sym (one_longer front s)) made.1)
      (subst (λ (k : ℕ). IsClean a ss k rest) (sym (one_further front s))
      (clean_part a ss (position whole) (ends_at front) s.instr rest clean))
      few.more),
)
  where
    rest : List OpData
    rest = the_code (position whole) (behind ++ return_at line ∷ [])

    few : IsFew 0 (aimed_part (position whole) (parts_of_instr s.instr)).front rest
    few = few_of (position whole) s.instr rest short

-- its code has no fault, and no statement of more than 64 ops
record IsRightCode (code : List OpData) : Type 0 where
  environment : Environment
  statements : List StatementStart
  clean : IsClean environment statements 0 code
  short : IsShort code

block_compilable : (b : StatedBlock) → IsMadeBlock b → IsRightCode (code_in b.statements)
    → IsCompilable b
block_compilable b made right =
    subst (AreCompiled 0) (sym made.whole)
    (compiled_from right.environment right.statements whole [] made.inner made.line refl made.made
    (subst (λ (z : List OpData). IsClean right.environment right.statements 0 z) same right.clean)
    (subst IsShort same right.short))
  where
    whole : List SourceInstruction
    whole = made.inner ++ return_at made.line ∷ []

    same : code_in b.statements ≡ the_code (position whole) whole
    same = ap code_in made.whole ∙ the_code_is whole

-- ---- a program that verifies

first_none : (a b : Option ℕ) → is_fine (first_found a b) ≡ true → a ≡ None
first_none None b e = refl
first_none (Some at) b e = absurd cc

code_short : (count : ℕ) (ops : List OpData) → (code_layout true count).good ops ≡ true → IsShort ops
unfolding code_layout
code_short count ops e = record {
  at = 0;
  none = first_none (overlong_statement 0 0 ops) (if ends_right ops then None else Some (last_place 0 ops))
      (and_second (are_ops ops) (is_fine (stop_at true ops []))
      (and_first (are_ops ops && is_fine (stop_at true ops [])) (eqb (length (code_bytes ops)) count) e));
}

block_short : (before : ℕ × ℕ) (b : BlockRecord) → (whole_block true before).good b ≡ true → IsShort b.code
unfolding whole_block plain_block block_rows code_and_lines
block_short before b e = code_short _ b.code (and_first _ _ (and_second _ _ (and_second _ _ e)))

blocks_short : (before : ℕ × ℕ) (n : ℕ) (bs : List BlockRecord)
    → good_many (whole_block true) after_block before n bs ≡ true
    → AllByRecursion (λ b. IsShort b.code) bs
blocks_short before n [] e = tt
blocks_short before zero (b ∷ bs) e = absurd cc
blocks_short before (suc n) (b ∷ bs) e = (
  block_short before b (and_first _ _ e),
  blocks_short (after_block before b) n bs (and_second _ _ e),
)

program_short : (p : Program) → IsRight p
    → AllByRecursion (λ b. IsShort b.code) (map record_of_block p.code_blocks)
unfolding body_layout records_layout body_rows code_blocks_layout
program_short p e =
    blocks_short (0, 0) _ (map record_of_block p.code_blocks)
    (and_first _ _ (and_second _ _ e))

code_clean : (a : Environment) (ops : List OpData) → block_faults a 0 ops ≡ [] → IsClean a (starts_of_statements ops) 0 ops
unfolding block_faults
code_clean a ops e = record { brackets = []; zones = []; before = []; none = none_left _ _ (none_left _ _ e) }

right_codes : (lens : List (ℕ × ℕ)) (all : List BlockRecord) (bs : List StatedBlock)
    → AreVerified lens all (map record_of_block (map compiled_block bs))
    → AllByRecursion (λ b. IsShort b.code) (map record_of_block (map compiled_block bs))
    → AllByRecursion (λ b. IsRightCode (code_in b.statements)) bs
right_codes lens all [] clean short = tt
right_codes lens all (b ∷ bs) clean short = (
  record {
    environment = environment_of_block (Some lens) all (record_of_block (compiled_block b));
    statements = starts_of_statements (code_in b.statements);
    clean = code_clean (environment_of_block (Some lens) all (record_of_block (compiled_block b)))
        (code_in b.statements) clean.0;
    short = short.0;
  },
  right_codes lens all bs clean.1 short.1,
)

all_compilable : (bs : List StatedBlock) → AllByRecursion IsMadeBlock bs
    → AllByRecursion (λ b. IsRightCode (code_in b.statements)) bs → AllByRecursion IsCompilable bs
all_compilable [] made right = tt
all_compilable (b ∷ bs) made right =
    (block_compilable b made.0 right.0, all_compilable bs made.1 right.1)

pub verified_is_compilable : VerifiedIsCompilable
verified_is_compilable t symbols layouts verified =
    all_compilable blocks (blocks_made t symbols layouts)
    (right_codes (lens_of (program_of t symbols layouts).data_blocks)
    (map record_of_block (map compiled_block blocks)) blocks verified.blocks
    (program_short (program_of t symbols layouts) verified.right))
  where
    blocks : List StatedBlock
    blocks = code_blocks_of t symbols layouts
