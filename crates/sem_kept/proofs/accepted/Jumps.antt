-- The code of a block whose labels, brackets, zones and jumps break no rule has no fault in them.
use Rattle.std.proofs.Common.{◌≡◌, ℕ, zero, suc, ◌+◌, ◌-◌, Bool, true, false, ◌&&◌, if◌then◌else◌, eqb, List, [], ◌∷◌, ◌++◌, length, map, append_assoc, Option, Some, None, refl, sym, ap, ap₂, subst, ◌∙◌, arith}
use Rattle.std.specs.Prelude.{nat_le, nat_lt, not}
use Rattle.std.specs.List.{AllByRecursion, flat_map}
use Rattle.std.proofs.lemmas.Bool.{eq-eqb}
use Rattle.std.proofs.lemmas.Bool.Decides.{nat_tests}
use Rattle.flat_code.specs.Blocks.{are_other_brackets, nesting_fault, is_bad_list, jump_fault, leads_to_target, are_same_codes, target_fault}
use Rattle.flat_code.specs.Codes.{size_of_op}
use Rattle.flat_code.specs.Instr.{Instr, Jumps, Returns}
use Rattle.flat_code.specs.Kinds.{jump_number}
use Rattle.flat_code.specs.Ops.{OpData}
use Rattle.flat_code.specs.PlacedOps.{PlacedOp, StatementStart, bracket_codes, codes_of_few_brackets, open_behind, brackets_after, ops_placed, statement_start_at, starts_of_statements, zones_behind_op as zones_past, zones_left}
use Rattle.flat_code.specs.declared.image_fields.OpenBracket.{OpenBracket}
use Rattle.flat_code.specs.declared.kinds.JumpOperation.{JumpOperation}
use Rattle.flat_code.specs.declared.kinds.JumpOperation.TheVariants as jump
use Rattle.flat_code.specs.declared.operands.Operand.{Operand as FlatOperand}
use Rattle.flat_code.specs.declared.operands.Operand.TheVariants as flat
use Rattle.flat_code.specs.OpCodes.{op_code_of}
use Rattle.flat_code.specs.declared.operations.Operation.TheVariants as operation
use Rattle.plc_base.specs.declared.instructions.Check.TheVariants as check
use Rattle.stl_ast.specs.Statements.{is_empty_statement}
use Rattle.stl_ast.specs.declared.mnemonics.Mnemonic.{Mnemonic}
use Rattle.stl_ast.specs.declared.mnemonics.Mnemonic.TheVariants as code
use Rattle.stl_ast.specs.declared.operands.Operand.{Operand}
use Rattle.stl_ast.specs.declared.operands.Operand.TheVariants as operand
use Rattle.stl_ast.specs.declared.blocks.Block.{Block}
use Rattle.stl_ast.specs.declared.statements.Statement.{Statement}
use Rattle.plc_base.specs.Least.{broken_if}
use Rattle.plc_base.proofs.ListLemmas.{all_front}
use Rattle.stl_types.specs.Brackets.{brackets_behind, brackets_behind_all, is_closing_bracket, brackets_left_open, bracket_function}
use Rattle.stl_types.specs.Context.{Context}
use Rattle.stl_types.specs.Labels.{is_unknown_label, labels_of, unknown_labels}
use Rattle.stl_types.specs.Landings.{crossing_jumps, landings_at_labels, empty_nesting}
use Rattle.stl_types.specs.Lists.{list_goes_on, has_label, is_list_jump, is_list_to, is_unconditional_jump, jumps_left, lists_from}
use Rattle.stl_types.specs.Zones.{ends_zone, opens_zone, zones_behind, zones_behind_all, zones_left_open}
use Rattle.stl_types.specs.declared.brackets.SourceBracket.{SourceBracket}
use Rattle.stl_codegen.specs.Bodies.{count_of_statements}
use Rattle.stl_codegen.specs.CompiledBlock.{SourceInstruction, operand_with_target, op_with_target, code_in}
use Rattle.stl_codegen.specs.EmittedOps.{jump_op}
use Rattle.stl_codegen.specs.GeneratedProgram.{instructions_from, statements_of}
use Rattle.stl_codegen.specs.Instruction.{count_of_statement, instr_by, instruction, target_in, target_of}
use Rattle.stl_codegen.specs.Operations.{jump_operation_of}
use Rattle.sem_kept.specs.Back.{is_target}
use Rattle.sem_kept.proofs.compiled.Reading.{aimed_append, aimed_are, aimed_bytes, aimed_extent, aimed_is, aimed_part, aimed_parts, ends_append, ends_at, is_statement, parts_of_instr, parts, parts_append, parts_are, position, position_is, the_code, the_code_is, ops_with, return_at}
use Rattle.sem_kept.proofs.compiled.Runs.{InstrParts, bytes_of, flat as flat_parts, size_aimed, total}
use Rattle.sem_kept.specs.Jumps.{AllLandRight, LandsRight, jump_fault_of}
use Rattle.plc_base.proofs.TruthLemmas.{or_met_behind}
use Rattle.sem_kept.proofs.accepted.JumpsCode.{AreQuiet, IsFound, IsQuiet, codes_after, count_after, found_by, left_after, open_after, placed_all, start_there}
use Rattle.flat_code.proofs.BracketLemmas.{codes_behind, codes_fault, codes_opened, count_behind, count_fault, count_is, fault_is, few_codes, few_is, no_zones, none_left, zone_fault_is}
use Rattle.sem_kept.proofs.accepted.JumpsRules.{AreNestedAlike, AreRightFrom, HasList, IsRightAt, IsLabelOfJump, behind_more, by_29, by_31, by_47, by_49, few_open, functions, has_list, right_body, same_landings, target_is, target_past, zones_more}
use Rattle.sem_kept.proofs.accepted.JumpsOperations.{IsLastOf, TakesRight, behind_codes, behind_count, bracket_right, codes_of_source_brackets, front_quiet, leads_to_label, last_of, last_op_of_instr, zone_right}

-- ---- small facts

empty_code : (m : Mnemonic) → is_empty_statement m ≡ true → (bracket_function m ≡ None) × (is_closing_bracket m ≡ false)
unfolding bracket_function is_closing_bracket
empty_code code.Empty e = (refl, refl)
empty_code _ e = absurd cc

-- an empty statement leaves brackets alone
empty_behind : (bs : List SourceBracket) (s : Statement) → is_empty_statement s.code ≡ true → brackets_behind bs s ≡ bs
empty_behind bs s e =
    let none = empty_code s.code e in
    rw none.0 (rw none.1 refl)

empty_zone : (m : Mnemonic) → is_empty_statement m ≡ true → (opens_zone m ≡ false) × (ends_zone m ≡ false)
unfolding opens_zone ends_zone
empty_zone code.Empty e = (refl, refl)
empty_zone _ e = absurd cc

-- and zones
empty_zones : (zones : List ℕ) (s : Statement) → is_empty_statement s.code ≡ true
    → zones_behind zones s ≡ zones
empty_zones zones s e =
    let none = empty_zone s.code e in
    rw none.0 (rw none.1 refl)

same_as_itself : (xs : List ℕ) → are_same_codes xs xs ≡ true
same_as_itself [] = refl
same_as_itself (x ∷ xs) = rw (eq-eqb x x refl) (same_as_itself xs)

same_few : (xs : List ℕ) → are_other_brackets (few_codes xs) (few_codes xs) ≡ false
same_few xs = by (nat_le (length xs) 7)
  where
    by : (few : Bool)
        → are_other_brackets (if few then Some xs else None) (if few then Some xs else None) ≡ false
    by true = ap not (same_as_itself xs)
    by false = refl

no_difference : (xs : List ℕ) (codes : Option (List ℕ)) (zones : ℕ) (there : StatementStart)
    → codes ≡ few_codes xs → there.codes ≡ few_codes xs → there.zones ≡ zones
    → nesting_fault codes zones there ≡ None
no_difference xs codes zones there here same count =
    rw (ap₂ are_other_brackets here same ∙ same_few xs) (rw (eq-eqb zones there.zones (sym count)) refl)

codes_by : (bs : List SourceBracket) → codes_of_source_brackets bs ≡ map (λ k. op_code_of (operation.Nest check.A) + k) (functions bs)
codes_by [] = refl
codes_by (b ∷ bs) = ap (λ (z : List ℕ). (op_code_of (operation.Nest check.A) + b.function) ∷ z) (codes_by bs)

same_functions : (bs ds : List SourceBracket) → functions bs ≡ functions ds → codes_of_source_brackets bs ≡ codes_of_source_brackets ds
same_functions bs ds e =
    codes_by bs ∙ ap (λ (z : List ℕ). map (λ k. op_code_of (operation.Nest check.A) + k) z) e ∙ sym (codes_by ds)

leads_at_once : (most at : ℕ) (ops : List OpData) → leads_to_target most at at ops ≡ true
leads_at_once most at [] = eq-eqb at at refl
leads_at_once zero at (op ∷ ops) = eq-eqb at at refl
leads_at_once (suc most) at (op ∷ ops) = rw (eq-eqb at at refl) refl

ju_code : (m : Mnemonic) → is_unconditional_jump m ≡ true → jump_operation_of m ≡ Some jump.Ju
ju_code code.Ju e = refl
ju_code _ e = absurd cc

jl_code : (m : Mnemonic) → jump_operation_of m ≡ Some jump.Jl → is_list_jump m ≡ true
jl_code code.Jl e = refl
jl_code _ e = absurd cc

codes_more : (ps qs : List InstrParts) (codes : List ℕ)
    → codes_after (ps ++ qs) codes ≡ codes_after qs (codes_after ps codes)
codes_more [] qs codes = refl
codes_more (p ∷ ps) qs codes = codes_more ps qs (codes_behind p.end.code codes)

counts_more : (ps qs : List InstrParts) (count : ℕ)
    → count_after (ps ++ qs) count ≡ count_after qs (count_after ps count)
counts_more [] qs count = refl
counts_more (p ∷ ps) qs count = counts_more ps qs (count_behind p.end.code count)

-- ---- what prepares

aimed_quiet : (f : ℕ → ℕ) (ops : List OpData) → AllByRecursion IsQuiet ops
    → AllByRecursion IsQuiet (map (op_with_target f) ops)
aimed_quiet f [] h = tt
aimed_quiet f (op ∷ ops) h = (one op h.0, aimed_quiet f ops h.1)
  where
    stays : (o : FlatOperand) → is_target o ≡ false → is_target (operand_with_target f o) ≡ false
    stays (flat.Jump kind target) e = absurd cc
    stays _ e = e

    one : (op : OpData) → IsQuiet op → IsQuiet (op_with_target f op)
    one op q = record {
      opens = q.opens;
      closes = q.closes;
      opens_zone = q.opens_zone;
      ends_zone = q.ends_zone;
      stays = stays op.operand q.stays;
    }

part_quiet : (f : ℕ → ℕ) (i : Instr) → AllByRecursion IsQuiet (aimed_part f (parts_of_instr i)).front
part_quiet f i = aimed_quiet f (parts_of_instr i).front (front_quiet i)

parts_quiet : (f : ℕ → ℕ) (ss : List SourceInstruction) → AreQuiet (aimed_parts f (parts ss))
parts_quiet f [] = tt
parts_quiet f (s ∷ ss) = (part_quiet f s.instr, parts_quiet f ss)

-- ---- the statements of a body

count_one : (xs : List Statement) (s : Statement) → count_of_statements (xs ++ s ∷ []) ≡ count_of_statements xs + count_of_statement s
count_one [] s = omega arith
count_one (x ∷ xs) s = let more = count_one xs s in omega (arith, more)

-- its code, with the statement that returns
abbrev code_from : Context → (body : List Statement) → (ret : SourceInstruction) → (f : ℕ → ℕ) → (n : ℕ)
    → List Statement → List OpData
code_from c body ret f n ss = the_code f (instructions_from c body n ss ++ ret ∷ [])

-- what a statement comes to that has this number among the statements of its block
abbrev pub statement_of_number : Context → List Statement → (n : ℕ) → Statement → SourceInstruction
statement_of_number c body n s = record { instr = instruction c body n s; line = s.line }

stated_append : (c : Context) (body : List Statement) (n : ℕ) (xs ys : List Statement)
    → instructions_from c body n (xs ++ ys) ≡ instructions_from c body n xs ++ instructions_from c body (n + count_of_statements xs) ys
stated_append c body n [] ys = ap (λ (k : ℕ). instructions_from c body k ys) (omega arith)
stated_append c body n (x ∷ xs) ys =
    by (is_empty_statement x.code) (stated_append c body n xs ys) (stated_append c body (suc n) xs ys)
  where
    by : (e : Bool)
        → instructions_from c body n (xs ++ ys) ≡ instructions_from c body n xs ++ instructions_from c body (n + count_of_statements xs) ys
        → instructions_from c body (suc n) (xs ++ ys)
        ≡ instructions_from c body (suc n) xs ++ instructions_from c body (suc n + count_of_statements xs) ys
        → (if e then instructions_from c body n (xs ++ ys) else statement_of_number c body n x ∷ instructions_from c body (suc n) (xs ++ ys))
        ≡ (if e then instructions_from c body n xs else statement_of_number c body n x ∷ instructions_from c body (suc n) xs)
        ++ instructions_from c body (n + ((if e then 0 else 1) + count_of_statements xs)) ys
    by true same next =
        same ∙ ap (λ (k : ℕ). instructions_from c body n xs ++ instructions_from c body k ys) (omega arith)
    by false same next =
        ap (λ (z : List SourceInstruction). statement_of_number c body n x ∷ z)
        (next ∙ ap (λ (k : ℕ). instructions_from c body (suc n) xs ++ instructions_from c body k ys) (omega arith))

stated_count : (c : Context) (body : List Statement) (n : ℕ) (xs : List Statement)
    → length (instructions_from c body n xs) ≡ count_of_statements xs
stated_count c body n [] = refl
stated_count c body n (x ∷ xs) =
    by (is_empty_statement x.code) (stated_count c body n xs) (stated_count c body (suc n) xs)
  where
    by : (e : Bool) → length (instructions_from c body n xs) ≡ count_of_statements xs
        → length (instructions_from c body (suc n) xs) ≡ count_of_statements xs
        → length (if e then instructions_from c body n xs else statement_of_number c body n x ∷ instructions_from c body (suc n) xs)
        ≡ (if e then 0 else 1) + count_of_statements xs
    by true same next = omega (arith, same)
    by false same next = omega (arith, next)

-- where the statements before end
abbrev ends_of : Context → (body : List Statement) → (pre : List Statement) → ℕ
ends_of c body pre = ends_at (instructions_from c body 0 pre)

-- a statement more
abbrev bytes_by : Context → (body : List Statement) → (n : ℕ) → Statement → (empty : Bool) → ℕ
bytes_by c body n s empty = if empty then 0 else bytes_of (parts_of_instr (instruction c body n s))

ends_one : (c : Context) (body pre : List Statement) (n : ℕ) (s : Statement) → n ≡ count_of_statements pre
    → ends_of c body (pre ++ s ∷ []) ≡ ends_of c body pre + bytes_by c body n s (is_empty_statement s.code)
ends_one c body pre n s e =
    ap ends_at (stated_append c body 0 pre (s ∷ []))
    ∙ ends_append (instructions_from c body 0 pre) (instructions_from c body (0 + count_of_statements pre) (s ∷ []))
    ∙ ap (λ (k : ℕ). ends_of c body pre + ends_at (instructions_from c body k (s ∷ []))) (omega (arith, e))
    ∙ ap (λ (k : ℕ). ends_of c body pre + k) (by (is_empty_statement s.code))
  where
    by : (empty : Bool)
        → ends_at (if empty then [] else statement_of_number c body n s ∷ []) ≡ bytes_by c body n s empty
    by true = refl
    by false = omega arith

-- an empty statement adds nothing
ends_empty : (c : Context) (body pre : List Statement) (s : Statement) → is_empty_statement s.code ≡ true
    → ends_of c body (pre ++ s ∷ []) ≡ ends_of c body pre
ends_empty c body pre s e =
    ends_one c body pre (count_of_statements pre) s refl
    ∙ ap (λ (t : Bool). ends_of c body pre + bytes_by c body (count_of_statements pre) s t) e ∙ omega arith

count_empty : (pre : List Statement) (s : Statement) → is_empty_statement s.code ≡ true
    → count_of_statements (pre ++ s ∷ []) ≡ count_of_statements pre
count_empty pre s e =
    count_one pre s ∙ ap (λ (t : Bool). count_of_statements pre + (if t then 0 else 1)) e ∙ omega arith

ends_more : (c : Context) (body pre : List Statement) (n : ℕ) (s : Statement) → is_empty_statement s.code ≡ false
    → n ≡ count_of_statements pre
    → ends_of c body (pre ++ s ∷ []) ≡ ends_of c body pre + bytes_of (parts_of_instr (instruction c body n s))
ends_more c body pre n s e is =
    ends_one c body pre n s is ∙ ap (λ (t : Bool). ends_of c body pre + bytes_by c body n s t) e

count_more : (pre : List Statement) (s : Statement) → is_empty_statement s.code ≡ false
    → count_of_statements (pre ++ s ∷ []) ≡ suc (count_of_statements pre)
count_more pre s e =
    count_one pre s ∙ ap (λ (t : Bool). count_of_statements pre + (if t then 0 else 1)) e ∙ omega arith

-- the brackets behind statements
stated_codes : (f : ℕ → ℕ) (c : Context) (body : List Statement) (n : ℕ) (bs : List SourceBracket)
    (xs : List Statement) → AllByRecursion TakesRight xs
    → codes_after (aimed_parts f (parts (instructions_from c body n xs))) (codes_of_source_brackets bs)
    ≡ codes_of_source_brackets (brackets_behind_all bs xs)
stated_codes f c body n bs [] h = refl
stated_codes f c body n bs (x ∷ xs) h =
    by (is_empty_statement x.code) refl (stated_codes f c body n (brackets_behind bs x) xs h.1)
    (stated_codes f c body (suc n) (brackets_behind bs x) xs h.1)
  where
    by : (e : Bool) → is_empty_statement x.code ≡ e
        → codes_after (aimed_parts f (parts (instructions_from c body n xs))) (codes_of_source_brackets (brackets_behind bs x))
        ≡ codes_of_source_brackets (brackets_behind_all (brackets_behind bs x) xs)
        → codes_after (aimed_parts f (parts (instructions_from c body (suc n) xs))) (codes_of_source_brackets (brackets_behind bs x))
        ≡ codes_of_source_brackets (brackets_behind_all (brackets_behind bs x) xs)
        → codes_after (aimed_parts f (parts
        (if e then instructions_from c body n xs else statement_of_number c body n x ∷ instructions_from c body (suc n) xs))) (codes_of_source_brackets bs)
        ≡ codes_of_source_brackets (brackets_behind_all (brackets_behind bs x) xs)
    by true is same next =
        ap (λ (z : List SourceBracket). codes_after (aimed_parts f (parts (instructions_from c body n xs))) (codes_of_source_brackets z))
        (sym (empty_behind bs x is)) ∙ same
    by false is same next =
        ap (codes_after (aimed_parts f (parts (instructions_from c body (suc n) xs))))
        (behind_codes bs body x (last_op_of_instr (instruction c body n x)) (last_of c body n x h.0)) ∙ next

-- and how many zones are
stated_zones : (f : ℕ → ℕ) (c : Context) (body : List Statement) (n : ℕ) (zones : List ℕ)
    (xs : List Statement) → AllByRecursion TakesRight xs
    → count_after (aimed_parts f (parts (instructions_from c body n xs))) (length zones)
    ≡ length (zones_behind_all zones xs)
stated_zones f c body n zones [] h = refl
stated_zones f c body n zones (x ∷ xs) h =
    by (is_empty_statement x.code) refl (stated_zones f c body n (zones_behind zones x) xs h.1)
    (stated_zones f c body (suc n) (zones_behind zones x) xs h.1)
  where
    counted_after : List SourceInstruction → ℕ → ℕ
    counted_after ss count = count_after (aimed_parts f (parts ss)) count

    by : (e : Bool) → is_empty_statement x.code ≡ e
        → counted_after (instructions_from c body n xs) (length (zones_behind zones x))
        ≡ length (zones_behind_all (zones_behind zones x) xs)
        → counted_after (instructions_from c body (suc n) xs) (length (zones_behind zones x))
        ≡ length (zones_behind_all (zones_behind zones x) xs)
        → counted_after
        (if e then instructions_from c body n xs else statement_of_number c body n x ∷ instructions_from c body (suc n) xs)
        (length zones)
        ≡ length (zones_behind_all (zones_behind zones x) xs)
    by true is same next =
        ap (λ (z : List ℕ). counted_after (instructions_from c body n xs) (length z))
        (sym (empty_zones zones x is)) ∙ same
    by false is same next =
        ap (counted_after (instructions_from c body (suc n) xs))
        (behind_count zones body x (last_op_of_instr (instruction c body n x)) (last_of c body n x h.0))
        ∙ next

-- ---- where a label is

-- some statement, and those behind it
pub record HasFirst (xs : List SourceInstruction) : Type 0 where
  first : SourceInstruction
  rest : List SourceInstruction
  is : xs ≡ first ∷ rest

has_first : (xs : List SourceInstruction) (y : SourceInstruction) → HasFirst (xs ++ y ∷ [])
has_first [] y = record { first = y; rest = []; is = refl }
has_first (x ∷ xs) y = record { first = x; rest = xs ++ y ∷ []; is = refl }

-- the statements of a body, the last one that returns among them
abbrev whole : Context → List Statement → SourceInstruction → List SourceInstruction
whole c body ret = instructions_from c body 0 body ++ ret ∷ []

abbrev place : Context → List Statement → SourceInstruction → ℕ → ℕ
place c body ret n = position (whole c body ret) n

whole_cut : (c : Context) (body : List Statement) (ret : SourceInstruction) (pre rest : List Statement)
    → body ≡ pre ++ rest
    → whole c body ret
    ≡ instructions_from c body 0 pre ++ (instructions_from c body (count_of_statements pre) rest ++ ret ∷ [])
whole_cut c body ret pre rest e =
    ap (λ (z : List Statement). instructions_from c body 0 z ++ ret ∷ []) e
    ∙ ap (λ (z : List SourceInstruction). z ++ ret ∷ []) (stated_append c body 0 pre rest)
    ∙ ap (λ (k : ℕ). (instructions_from c body 0 pre ++ instructions_from c body k rest) ++ ret ∷ []) (omega arith)
    ∙ append_assoc (instructions_from c body 0 pre) (instructions_from c body (count_of_statements pre) rest) (ret ∷ [])

place_is : (c : Context) (body : List Statement) (ret : SourceInstruction) (pre rest : List Statement)
    → body ≡ pre ++ rest → place c body ret (count_of_statements pre) ≡ ends_of c body pre
place_is c body ret pre rest e =
    ap (λ (z : List SourceInstruction). position z (count_of_statements pre)) (whole_cut c body ret pre rest e)
    ∙ ap (position (instructions_from c body 0 pre ++ (instructions_from c body (count_of_statements pre) rest ++ ret ∷ [])))
    (sym (stated_count c body 0 pre))
    ∙ position_is (instructions_from c body 0 pre) (instructions_from c body (count_of_statements pre) rest ++ ret ∷ [])

-- the statement behind statements, and what is open there
start_behind : (f : ℕ → ℕ) (front : List SourceInstruction) (s : SourceInstruction) (rest : List SourceInstruction)
    → IsFound (statement_start_at (starts_of_statements (the_code f (front ++ s ∷ rest))) (ends_at front))
    (few_codes (codes_after (aimed_parts f (parts front)) []))
    (count_after (aimed_parts f (parts front)) 0)
start_behind f front s rest =
    found_by _ _ _ _ _ _
    (ap (λ (z : List InstrParts). statement_start_at (starts_of_statements (flat_parts z)) (ends_at front)) cut
    ∙ ap (statement_start_at (starts_of_statements (flat_parts (ps ++ aimed_part f (parts_of_instr s.instr) ∷ aimed_parts f (parts rest)))))
    (sym (aimed_extent f (parts front)) ∙ omega arith))
    refl refl
    (start_there 0 [] [] ps (aimed_part f (parts_of_instr s.instr)) (aimed_parts f (parts rest))
    (aimed_are f (parts front) (parts_are front)) (parts_quiet f front) (part_quiet f s.instr)
    (aimed_is f (parts_of_instr s.instr) (is_statement s.instr)))
  where
    ps : List InstrParts
    ps = aimed_parts f (parts front)

    cut : aimed_parts f (parts (front ++ s ∷ rest))
        ≡ ps ++ aimed_part f (parts_of_instr s.instr) ∷ aimed_parts f (parts rest)
    cut = ap (aimed_parts f) (parts_append front (s ∷ rest))
        ∙ aimed_append f (parts front) (parts (s ∷ rest))

start_of : (c : Context) (body : List Statement) (ret : SourceInstruction) (f : ℕ → ℕ) (pre rest : List Statement)
    → body ≡ pre ++ rest → AllByRecursion TakesRight pre
    → IsFound (statement_start_at (starts_of_statements (the_code f (whole c body ret))) (ends_of c body pre))
    (few_codes (codes_of_source_brackets (brackets_behind_all [] pre))) (length (zones_behind_all [] pre))
start_of c body ret f pre rest e takes =
    let h = has_first (instructions_from c body (count_of_statements pre) rest) ret in
    found_by _ _ _ _ _ _
    (ap (λ (z : List SourceInstruction). statement_start_at (starts_of_statements (the_code f z)) (ends_of c body pre))
    (whole_cut c body ret pre rest e ∙ ap (λ (z : List SourceInstruction). instructions_from c body 0 pre ++ z) h.is))
    (ap few_codes (stated_codes f c body 0 [] pre takes))
    (stated_zones f c body 0 [] pre takes)
    (start_behind f (instructions_from c body 0 pre) h.first h.rest)

-- ---- the list of a JL

ju_instruction : (c : Context) (body : List Statement) (n : ℕ) (s : Statement)
    → is_unconditional_jump s.code ≡ true
    → instruction c body n s ≡ Jumps jump.Ju (target_of body s.operand)
unfolding instruction
ju_instruction c body n s e = ap (instr_by c body n s) (ju_code s.code e)

-- a list goes on behind a JU
ju_leads : (f : ℕ → ℕ) (most target at there : ℕ) (rest : List OpData)
    → leads_to_target most target (at + bytes_of (parts_of_instr (Jumps jump.Ju there))) rest ≡ true
    → leads_to_target (suc most) target at (ops_with f (Jumps jump.Ju there) rest) ≡ true
ju_leads f most target at there rest led =
    let long = size_aimed f (jump_op jump.Ju there) in
    or_met_behind (eqb at target) (leads_to_target most target (at + size_of_op (jump_op jump.Ju (f there))) rest)
    (ap (λ (k : ℕ). leads_to_target most target k rest) (omega (arith, long)) ∙ led)

record IsJuLeft (left : ℕ) (m : Mnemonic) (next : ℕ → Bool) : Type 0 where
  fewer : ℕ
  is : left ≡ suc fewer
  ju : is_unconditional_jump m ≡ true
  more : next fewer ≡ true

ju_left : (left : ℕ) (m : Mnemonic) (next : ℕ → Bool)
    → list_goes_on (if is_unconditional_jump m && nat_lt 0 left then Some (left - 1) else None) next ≡ true
    → IsJuLeft left m next
ju_left left m next e = by left (is_unconditional_jump m) refl e
  where
    by : (left : ℕ) (ju : Bool) → is_unconditional_jump m ≡ ju
        → list_goes_on (if ju && nat_lt 0 left then Some (left - 1) else None) next ≡ true
        → IsJuLeft left m next
    by zero true is h = absurd cc
    by zero false is h = absurd cc
    by (suc fewer) false is h = absurd cc
    by (suc fewer) true is h =
        let some : nat_lt 0 (suc fewer) ≡ true = grind (arith, nat_tests) in
        let taken : next (suc fewer - 1) ≡ true = rw some at h in
        let same : suc fewer - 1 ≡ fewer = omega arith in
        record { fewer = fewer; is = refl; ju = is; more = ap next (sym same) ∙ taken }

-- one statement of a list, and those behind it
listed_on : (c : Context) (body : List Statement) (ret : SourceInstruction) (name : List ℕ) (left : ℕ)
    (pre : List Statement) (s : Statement) (ss : List Statement) (at n : ℕ)
    → at ≡ ends_of c body pre → n ≡ count_of_statements pre → (further : ℕ)
    → (empty : Bool) → is_empty_statement s.code ≡ empty
    → list_goes_on (if empty then Some left
    else if is_unconditional_jump s.code && nat_lt 0 left then Some (left - 1) else None)
    (λ next. is_list_to next name ss) ≡ true
    → ((left at n : ℕ) → at ≡ ends_of c body (pre ++ s ∷ []) → n ≡ count_of_statements (pre ++ s ∷ [])
    → is_list_to left name ss ≡ true
    → leads_to_target left (place c body ret (n + further)) at (code_from c body ret (place c body ret) n ss) ≡ true)
    → leads_to_target left (place c body ret (n + ((if empty then 0 else 1) + further))) at
    (the_code (place c body ret) ((if empty then instructions_from c body n ss
    else statement_of_number c body n s ∷ instructions_from c body (suc n) ss) ++ ret ∷ [])) ≡ true
listed_on c body ret name left pre s ss at n is_at is_n further true is h more =
    ap (λ (k : ℕ). leads_to_target left (place c body ret k) at (code_from c body ret (place c body ret) n ss))
    (omega arith)
    ∙ more left at n (is_at ∙ sym (ends_empty c body pre s is)) (is_n ∙ sym (count_empty pre s is)) h
listed_on c body ret name left pre s ss at n is_at is_n further false is h more =
    let r = ju_left left s.code (λ next. is_list_to next name ss) h in
    let ju = ju_instruction c body n s r.ju in
    let there = target_of body s.operand in
    let long : bytes_of (parts_of_instr (instruction c body n s)) ≡ bytes_of (parts_of_instr (Jumps jump.Ju there)) =
    ap (λ (i : Instr). bytes_of (parts_of_instr i)) ju in
    let end = ends_more c body pre n s is is_n in
    let number = count_more pre s is in
    let rest : List OpData = code_from c body ret (place c body ret) (suc n) ss in
    let target : ℕ = place c body ret (n + (1 + further)) in
    ap (λ (k : ℕ). leads_to_target k target at (ops_with (place c body ret) (instruction c body n s) rest)) r.is
    ∙ ap (λ (i : Instr). leads_to_target (suc r.fewer) target at (ops_with (place c body ret) i rest)) ju
    ∙ ju_leads (place c body ret) r.fewer target at there rest
    (ap (λ (k : ℕ). leads_to_target r.fewer (place c body ret k) (at + bytes_of (parts_of_instr (Jumps jump.Ju there))) rest)
    (omega arith)
    ∙ more r.fewer (at + bytes_of (parts_of_instr (Jumps jump.Ju there))) (suc n)
    (omega (arith, long, end, is_at)) (omega (arith, number, is_n)) r.more)

-- the statements from here on are a list up to a label, and so are their ops
leads_from : (c : Context) (body : List Statement) (ret : SourceInstruction) (name : List ℕ) (left : ℕ)
    (pre rest : List Statement) (at n : ℕ)
    → body ≡ pre ++ rest → at ≡ ends_of c body pre → n ≡ count_of_statements pre
    → is_list_to left name rest ≡ true
    → leads_to_target left (place c body ret (n + target_in name rest)) at
    (code_from c body ret (place c body ret) n rest) ≡ true
unfolding target_in
leads_from c body ret name left pre [] at n e is_at is_n led = absurd cc
leads_from c body ret name left pre (s ∷ ss) at n e is_at is_n led =
    by (has_label name s.label) led
    (λ left at n is_at is_n led. leads_from c body ret name left (pre ++ s ∷ []) ss at n
    (e ∙ sym (append_assoc pre (s ∷ []) ss)) is_at is_n led)
  where
    by : (label : Bool)
        → (if label then true else list_goes_on (jumps_left left s.code) (λ next. is_list_to next name ss)) ≡ true
        → ((left at n : ℕ) → at ≡ ends_of c body (pre ++ s ∷ []) → n ≡ count_of_statements (pre ++ s ∷ [])
        → is_list_to left name ss ≡ true
        → leads_to_target left (place c body ret (n + target_in name ss)) at
        (code_from c body ret (place c body ret) n ss) ≡ true)
        → leads_to_target left (place c body ret (n + (if label then 0 else count_of_statement s + target_in name ss))) at
        (code_from c body ret (place c body ret) n (s ∷ ss)) ≡ true
    by true h more =
        let here : place c body ret (n + 0) ≡ at =
        ap (place c body ret) (omega (arith, is_n)) ∙ place_is c body ret pre (s ∷ ss) e ∙ sym is_at in
        ap (λ (k : ℕ). leads_to_target left k at (code_from c body ret (place c body ret) n (s ∷ ss))) here
        ∙ leads_at_once left at (code_from c body ret (place c body ret) n (s ∷ ss))
    by false h more =
        listed_on c body ret name left pre s ss at n is_at is_n (target_in name ss) (is_empty_statement s.code) refl h more

-- ---- the last op of a statement

-- nothing but a jump has such a fault
stays_right : (ss : List StatementStart) (p : PlacedOp) (f : ℕ → ℕ) (o : FlatOperand) → is_target o ≡ false
    → jump_fault_of ss p (operand_with_target f o) ≡ None
stays_right ss p f (flat.Jump kind target) e = absurd cc
stays_right ss p f _ e = refl

jump_right : (ss : List StatementStart) (p : PlacedOp) (kind target : ℕ) (codes : List ℕ) (count : ℕ)
    → is_bad_list p kind target ≡ false → codes_of_few_brackets p.brackets ≡ few_codes codes → length p.zones ≡ count
    → IsFound (statement_start_at ss target) (few_codes codes) count → jump_fault ss p kind target ≡ None
jump_right ss p kind target codes count list here zones there =
    ap (λ (t : Bool). if t then Some 6 else target_fault (codes_of_few_brackets p.brackets) (length p.zones) (statement_start_at ss target)) list
    ∙ ap (target_fault (codes_of_few_brackets p.brackets) (length p.zones)) there.is
    ∙ no_difference codes (codes_of_few_brackets p.brackets) (length p.zones) there.start here there.codes_are
    (there.zones_are ∙ sym zones)

-- only a JL has a list
list_right : (how : JumpOperation) (p : PlacedOp) (target : ℕ)
    → (how ≡ jump.Jl → leads_to_target 255 target (p.at + size_of_op p.op) p.rest ≡ true)
    → is_bad_list p (jump_number how) target ≡ false
list_right jump.Jl p target h = rw (h refl) refl
list_right _ p target h = refl

-- a body that breaks none of these rules, and of which each operand goes with its instruction
pub record IsRightBody (body : List Statement) : Type 0 where
  pub takes : AllByRecursion TakesRight body
  pub by_26 : unknown_labels (labels_of body) body ≡ []
  pub by_29 : by_29 [] body ≡ []
  pub by_30 : brackets_left_open body ≡ []
  pub by_31 : by_31 [] body ≡ []
  pub by_32 : lists_from [] body ≡ []
  pub by_33 : crossing_jumps (labels_of body) (landings_at_labels empty_nesting body) body ≡ []
  pub by_47 : by_47 [] body ≡ []
  pub by_48 : zones_left_open body ≡ []
  pub by_49 : by_49 [] body ≡ []

-- a label is where its jump leads, with the same brackets and as many zones
abbrev LandsAlike : Context → (body : List Statement) → (ret : SourceInstruction) → (pre : List Statement) → (name : List ℕ)
    → Type 0
LandsAlike c body ret pre name =
    IsFound (statement_start_at (starts_of_statements (the_code (place c body ret) (whole c body ret)))
    (place c body ret (target_in name body))) (few_codes (codes_of_source_brackets (brackets_behind_all [] pre)))
    (length (zones_behind_all [] pre))

lands : (c : Context) (body : List Statement) (ret : SourceInstruction) (pre : List Statement) (s : Statement)
    (post : List Statement) (name : List ℕ)
    → IsRightBody body → body ≡ pre ++ s ∷ post → IsRightAt body pre s post
    → s.operand ≡ operand.Label name → LandsAlike c body ret pre name
lands c body ret pre s post name all e right label =
    found_by _ _ _ _ _ _
    (ap (statement_start_at (starts_of_statements (the_code f (whole c body ret))))
    (ap f there.count ∙ place_is c body ret there.before there.rest there.whole))
    (ap few_codes
    (sym (same_functions (brackets_behind_all [] pre) (brackets_behind_all [] there.before) same.functions)))
    (sym same.zones)
    (start_of c body ret f there.before there.rest there.whole
    (all_front TakesRight there.before there.rest
    (subst (AllByRecursion TakesRight) there.whole all.takes)))
  where
    f : ℕ → ℕ
    f = place c body ret

    there : IsLabelOfJump body empty_nesting name
    there = target_is body name (ap (is_unknown_label (labels_of body)) (sym label) ∙ right.known)

    same : AreNestedAlike pre there.before
    same = same_landings body pre there.before s post name right label
        (few_open body pre (s ∷ post) e all.by_31)
        (few_open body there.before there.rest there.whole all.by_31) there.landing

-- the list of a JL is there
list_lands : (c : Context) (body : List Statement) (ret : SourceInstruction) (pre : List Statement) (s : Statement)
    (post : List Statement) (name : List ℕ) (at n : ℕ)
    → body ≡ pre ++ s ∷ post → is_empty_statement s.code ≡ false
    → at ≡ ends_of c body (pre ++ s ∷ []) → n ≡ count_of_statements (pre ++ s ∷ [])
    → HasList body pre s name post
    → leads_to_target 255 (place c body ret (target_in name body)) at
    (code_from c body ret (place c body ret) n post) ≡ true
list_lands c body ret pre s post name at n e is is_at is_n has =
    ap (λ (k : ℕ). leads_to_target 255 (place c body ret k) at (code_from c body ret (place c body ret) n post)) target
    ∙ leads_from c body ret name 255 (pre ++ s ∷ []) post at n cut is_at is_n has.leads
  where
    cut : body ≡ (pre ++ s ∷ []) ++ post
    cut = e ∙ sym (append_assoc pre (s ∷ []) post)

    target : target_in name body ≡ n + target_in name post
    target = ap (target_in name) cut ∙ target_past name (pre ++ s ∷ []) post has.new
        ∙ ap (λ (k : ℕ). k + target_in name post) (sym is_n)

-- a place in the code: where statements end, and what is open there
record IsPlaceInCode (c : Context) (body pre : List Statement) (at n : ℕ) (bs : List OpenBracket)
    (zones : List ℕ) : Type 0 where
  is_at : at ≡ ends_of c body pre
  is_n : n ≡ count_of_statements pre
  codes : bracket_codes bs ≡ codes_of_source_brackets (brackets_behind_all [] pre)
  count : length zones ≡ length (zones_behind_all [] pre)

-- a statement at its place
record IsHere (c : Context) (body pre : List Statement) (s : Statement) (post : List Statement)
    (at n : ℕ) (bs : List OpenBracket) (zones : List ℕ) : Type 0 where
  whole : body ≡ pre ++ s ∷ post
  full : is_empty_statement s.code ≡ false
  stands : IsPlaceInCode c body pre at n bs zones
  takes : TakesRight s
  right : IsRightAt body pre s post

abbrev front_ops : Context → List Statement → SourceInstruction → (n : ℕ) → Statement → List OpData
front_ops c body ret n s =
    (aimed_part (place c body ret) (parts_of_instr (instruction c body n s))).front

abbrev end_of : Context → List Statement → SourceInstruction → (n : ℕ) → Statement → OpData
end_of c body ret n s = (aimed_part (place c body ret) (parts_of_instr (instruction c body n s))).end

abbrev placed_end : Context → List Statement → SourceInstruction → Statement → List Statement → (at n : ℕ)
    → List OpenBracket → (zones : List ℕ) → List OpData → PlacedOp
placed_end c body ret s post at n bs zones done = record {
  at = at + total (front_ops c body ret n s);
  brackets = bs;
  zones = zones;
  before = done;
  op = end_of c body ret n s;
  rest = code_from c body ret (place c body ret) (suc n) post;
}

-- where it ends
ends_here : (c : Context) (body : List Statement) (ret : SourceInstruction) (pre : List Statement) (s : Statement)
    (post : List Statement) (at n : ℕ) (bs : List OpenBracket) (zones : List ℕ)
    → IsHere c body pre s post at n bs zones
    → at + total (front_ops c body ret n s) + size_of_op (end_of c body ret n s) ≡ ends_of c body (pre ++ s ∷ [])
ends_here c body ret pre s post at n bs zones h =
    let end = ends_more c body pre n s h.full h.stands.is_n in
    let long = aimed_bytes (place c body ret) (parts_of_instr (instruction c body n s)) in
    let here = h.stands.is_at in
    omega (arith, end, long, here)

jump_lands : (c : Context) (body : List Statement) (ret : SourceInstruction) (pre : List Statement) (s : Statement)
    (post : List Statement) (at n : ℕ) (bs : List OpenBracket) (zones : List ℕ) (done : List OpData)
    → IsRightBody body → IsHere c body pre s post at n bs zones
    → (how : JumpOperation) → jump_operation_of s.code ≡ Some how
    → jump_fault (starts_of_statements (the_code (place c body ret) (whole c body ret)))
    (placed_end c body ret s post at n bs zones done) (jump_number how)
    (place c body ret (target_of body s.operand))
    ≡ None
jump_lands c body ret pre s post at n bs zones done all h how is =
    let label = h.takes.jumps how is in
    let name = label.0 in
    let target : ℕ = place c body ret (target_in name body) in
    let p = placed_end c body ret s post at n bs zones done in
    let ss = starts_of_statements (the_code (place c body ret) (whole c body ret)) in
    let number = count_more pre s h.full in
    let same = h.stands.is_n in
    ap (λ (o : Operand). jump_fault ss p (jump_number how) (place c body ret (target_of body o))) label.1
    ∙ jump_right ss p (jump_number how) target (codes_of_source_brackets (brackets_behind_all [] pre))
    (length (zones_behind_all [] pre))
    (list_right how p target (λ jl.
    list_lands c body ret pre s post name (p.at + size_of_op p.op) (suc n) h.whole h.full
    (ends_here c body ret pre s post at n bs zones h) (omega (arith, number, same))
    (has_list body pre s name post h.right (jl_code s.code (is ∙ ap (λ (j : JumpOperation). Some j) jl)) label.1)))
    (few_is bs ∙ ap few_codes h.stands.codes) h.stands.count
    (lands c body ret pre s post name all h.whole h.right label.1)

last_lands : (c : Context) (body : List Statement) (ret : SourceInstruction) (pre : List Statement) (s : Statement)
    (post : List Statement) (at n : ℕ) (bs : List OpenBracket) (zones : List ℕ) (done : List OpData)
    → IsRightBody body → IsHere c body pre s post at n bs zones
    → LandsRight (starts_of_statements (the_code (place c body ret) (whole c body ret)))
    (placed_end c body ret s post at n bs zones done)
last_lands c body ret pre s post at n bs zones done all h = record {
  jump = by (jump_operation_of s.code) refl last.jumps;
  brackets = fault_is op.code bs ∙ ap (codes_fault op.code) h.stands.codes
      ∙ bracket_right (brackets_behind_all [] pre) body s op last h.right.closes h.right.few;
  zones = zone_fault_is op.code zones ∙ ap (count_fault op.code) h.stands.count
      ∙ zone_right (zones_behind_all [] pre) body s op last h.right.ends h.right.ninth;
}
  where
    op : OpData
    op = last_op_of_instr (instruction c body n s)

    last : IsLastOf body s op
    last = last_of c body n s h.takes

    ss : List StatementStart
    ss = starts_of_statements (the_code (place c body ret) (whole c body ret))

    p : PlacedOp
    p = placed_end c body ret s post at n bs zones done

    by : (j : Option JumpOperation) → jump_operation_of s.code ≡ j → leads_to_label body s j op.operand
        → jump_fault_of ss p (operand_with_target (place c body ret) op.operand) ≡ None
    by None is stays = stays_right ss p (place c body ret) op.operand stays
    by (Some how) is there =
        ap (λ (o : FlatOperand). jump_fault_of ss p (operand_with_target (place c body ret) o)) there
        ∙ jump_lands c body ret pre s post at n bs zones done all h how is

-- ---- the ops of a body

quiet_lands : (ss : List StatementStart) (q : PlacedOp) → IsQuiet q.op → LandsRight ss q
quiet_lands ss q h = record {
  jump = by q.op.operand h.stays;
  brackets = rw h.opens (rw h.closes refl);
  zones = rw h.opens_zone (rw h.ends_zone refl);
}
  where
    by : (o : FlatOperand) → is_target o ≡ false → jump_fault_of ss q o ≡ None
    by (flat.Jump kind target) e = absurd cc
    by _ e = refl

abbrev AllLand : Context → List Statement → SourceInstruction → (at : ℕ) → List OpenBracket → (zones : List ℕ)
    → List OpData → Type 0
AllLand c body ret at bs zones ops =
    AllByRecursion (LandsRight (starts_of_statements (the_code (place c body ret) (whole c body ret))))
    (ops_placed at bs zones [] ops)

-- behind an empty statement it is the same
past_empty : (c : Context) (body pre : List Statement) (s : Statement) (at n : ℕ)
    (bs : List OpenBracket) (zones : List ℕ) → is_empty_statement s.code ≡ true
    → IsPlaceInCode c body pre at n bs zones
    → IsPlaceInCode c body (pre ++ s ∷ []) at n bs zones
past_empty c body pre s at n bs zones is h = record {
  is_at = h.is_at ∙ sym (ends_empty c body pre s is);
  is_n = h.is_n ∙ sym (count_empty pre s is);
  codes = h.codes
      ∙ ap codes_of_source_brackets
      (sym (behind_more [] pre (s ∷ []) ∙ empty_behind (brackets_behind_all [] pre) s is));
  count = h.count
      ∙ ap (λ (z : List ℕ). length z)
      (sym (zones_more [] pre (s ∷ []) ∙ empty_zones (zones_behind_all [] pre) s is));
}

-- and behind another one what its last op leaves
past_end : (c : Context) (body : List Statement) (ret : SourceInstruction) (pre : List Statement)
    (s : Statement) (post : List Statement) (at n : ℕ) (bs : List OpenBracket) (zones : List ℕ)
    → IsHere c body pre s post at n bs zones
    → IsPlaceInCode c body (pre ++ s ∷ [])
    (at + total (front_ops c body ret n s) + size_of_op (end_of c body ret n s)) (suc n)
    (brackets_after (at + total (front_ops c body ret n s)) (end_of c body ret n s).code bs)
    (zones_past (at + total (front_ops c body ret n s)) (end_of c body ret n s).code zones)
past_end c body ret pre s post at n bs zones h = record {
  is_at = ends_here c body ret pre s post at n bs zones h;
  is_n = let number = count_more pre s h.full in let is_n = h.stands.is_n in
      omega (arith, number, is_n);
  codes = codes_opened from op.code bs ∙ ap (codes_behind op.code) h.stands.codes
      ∙ behind_codes (brackets_behind_all [] pre) body s (last_op_of_instr (instruction c body n s)) last
      ∙ ap codes_of_source_brackets (sym (behind_more [] pre (s ∷ [])));
  count = count_is from op.code zones ∙ ap (count_behind op.code) h.stands.count
      ∙ behind_count (zones_behind_all [] pre) body s (last_op_of_instr (instruction c body n s)) last
      ∙ ap (λ (z : List ℕ). length z) (sym (zones_more [] pre (s ∷ [])));
}
  where
    op : OpData
    op = end_of c body ret n s

    from : ℕ
    from = at + total (front_ops c body ret n s)

    last : IsLastOf body s (last_op_of_instr (instruction c body n s))
    last = last_of c body n s h.takes

-- a statement, and those behind it
next_lands : (c : Context) (body : List Statement) (ret : SourceInstruction) (pre : List Statement) (s : Statement)
    (post : List Statement) (at n : ℕ) (bs : List OpenBracket) (zones : List ℕ) → IsRightBody body
    → body ≡ pre ++ s ∷ post → IsPlaceInCode c body pre at n bs zones → TakesRight s
    → IsRightAt body pre s post
    → ((at n : ℕ) (bs : List OpenBracket) (zones : List ℕ)
    → IsPlaceInCode c body (pre ++ s ∷ []) at n bs zones
    → AllLand c body ret at bs zones (code_from c body ret (place c body ret) n post))
    → (empty : Bool) → is_empty_statement s.code ≡ empty
    → AllLand c body ret at bs zones
    (the_code (place c body ret) ((if empty then instructions_from c body n post
    else statement_of_number c body n s ∷ instructions_from c body (suc n) post) ++ ret ∷ []))
next_lands c body ret pre s post at n bs zones all e h takes right more true is =
    more at n bs zones (past_empty c body pre s at n bs zones is h)
next_lands c body ret pre s post at n bs zones all e h takes right more false is =
    placed_all (LandsRight (starts_of_statements (the_code f (whole c body ret)))) at bs zones [] front op
    (code_from c body ret f (suc n) post) (part_quiet f i)
    (aimed_is f (parts_of_instr i) (is_statement i)).front (aimed_is f (parts_of_instr i) (is_statement i)).end
    (quiet_lands (starts_of_statements (the_code f (whole c body ret))))
    (λ done. last_lands c body ret pre s post at n bs zones done all here)
    (more (from + size_of_op op) (suc n) (brackets_after from op.code bs) (zones_past from op.code zones)
    (past_end c body ret pre s post at n bs zones here))
  where
    f : ℕ → ℕ
    f = place c body ret

    i : Instr
    i = instruction c body n s

    front : List OpData
    front = front_ops c body ret n s

    op : OpData
    op = end_of c body ret n s

    from : ℕ
    from = at + total front

    here : IsHere c body pre s post at n bs zones
    here = record {
      whole = e;
      full = is;
      stands = h;
      takes = takes;
      right = right;
    }

body_lands : (c : Context) (body : List Statement) (line : ℕ) (pre post : List Statement) (at n : ℕ)
    (bs : List OpenBracket) (zones : List ℕ) → IsRightBody body
    → body ≡ pre ++ post → IsPlaceInCode c body pre at n bs zones
    → AllByRecursion TakesRight post → AreRightFrom body pre post
    → AllLand c body (return_at line) at bs zones
    (code_from c body (return_at line) (place c body (return_at line)) n post)
body_lands c body line pre [] at n bs zones all e h takes right =
    (record { jump = refl; brackets = refl; zones = refl }, tt)
body_lands c body line pre (s ∷ post) at n bs zones all e h takes right =
    next_lands c body (return_at line) pre s post at n bs zones all e h takes.0 right.0
    (λ at n bs zones h.
    body_lands c body line (pre ++ s ∷ []) post at n bs zones all
    (e ∙ sym (append_assoc pre (s ∷ []) post)) h takes.1 right.1)
    (is_empty_statement s.code) refl

-- ---- a block

none_open : (bs : List SourceBracket) → flat_map (λ b. broken_if true b.line 30) bs ≡ [] → bs ≡ []
none_open [] e = refl
none_open (b ∷ bs) e = absurd cc

all_ended : (lines : List ℕ) → flat_map (λ line. broken_if true line 48) lines ≡ [] → lines ≡ []
all_ended [] e = refl
all_ended (line ∷ lines) e = absurd cc

-- the parts of a body's statements, and of the one that returns
whole_parts : (c : Context) (body : List Statement) (line : ℕ) (f : ℕ → ℕ)
    → aimed_parts f (parts (whole c body (return_at line)))
    ≡ aimed_parts f (parts (instructions_from c body 0 body))
    ++ aimed_parts f (parts (return_at line ∷ []))
whole_parts c body line f =
    ap (aimed_parts f) (parts_append (instructions_from c body 0 body) (return_at line ∷ []))
    ∙ aimed_append f (parts (instructions_from c body 0 body)) (parts (return_at line ∷ []))

all_closed : (c : Context) (body : List Statement) (line : ℕ) (f : ℕ → ℕ) → IsRightBody body
    → open_behind 0 [] (the_code f (whole c body (return_at line))) ≡ []
all_closed c body line f all =
    none_left (open_behind 0 [] (the_code f (whole c body (return_at line))))
    (open_after 0 [] (aimed_parts f (parts (whole c body (return_at line))))
    (parts_quiet f (whole c body (return_at line)))
    ∙ ap (λ (z : List InstrParts). codes_after z []) (whole_parts c body line f)
    ∙ codes_more (aimed_parts f (parts (instructions_from c body 0 body)))
    (aimed_parts f (parts (return_at line ∷ []))) []
    ∙ stated_codes f c body 0 [] body all.takes
    ∙ ap codes_of_source_brackets (none_open (brackets_behind_all [] body) all.by_30))

zones_closed : (c : Context) (body : List Statement) (line : ℕ) (f : ℕ → ℕ) → IsRightBody body
    → zones_left 0 [] (the_code f (whole c body (return_at line))) ≡ []
zones_closed c body line f all =
    no_zones (zones_left 0 [] (the_code f (whole c body (return_at line))))
    (left_after 0 [] (aimed_parts f (parts (whole c body (return_at line))))
    (parts_quiet f (whole c body (return_at line)))
    ∙ ap (λ (z : List InstrParts). count_after z 0) (whole_parts c body line f)
    ∙ counts_more (aimed_parts f (parts (instructions_from c body 0 body)))
    (aimed_parts f (parts (return_at line ∷ []))) 0
    ∙ stated_zones f c body 0 [] body all.takes
    ∙ ap (λ (z : List ℕ). length z) (all_ended (zones_behind_all [] body) all.by_48))

whole_lands : (c : Context) (body : List Statement) (line : ℕ) → IsRightBody body
    → AllLandRight (the_code (place c body (return_at line)) (whole c body (return_at line)))
whole_lands c body line all = record {
  each = body_lands c body line [] body 0 0 [] [] all refl
      (record { is_at = refl; is_n = refl; codes = refl; count = refl }) all.takes
      (right_body body (record {
        by_26 = all.by_26;
        by_29 = all.by_29;
        by_31 = all.by_31;
        by_32 = all.by_32;
        by_33 = all.by_33;
        by_47 = all.by_47;
        by_49 = all.by_49;
      }));
  closed = all_closed c body line (place c body (return_at line)) all;
  ended = zones_closed c body line (place c body (return_at line)) all;
}

-- the code of a block
pub lands_right : (c : Context) (b : Block) → IsRightBody b.body
    → AllLandRight (code_in (statements_of c b))
unfolding statements_of
lands_right c b all =
    subst AllLandRight (sym (the_code_is (whole c b.body (return_at b.end_line))))
    (whole_lands c b.body b.end_line all)
