-- The code of statements is made of ops of the table.
use Rattle.std.proofs.Common.{◌≡◌, ℕ, zero, suc, ◌+◌, ◌*◌, ◌<◌, ◌≤◌, Bool, true, false, eqb, List, [], ◌∷◌, ◌++◌, length, length-append, map, None, refl, sym, ap, subst, ◌∙◌, arith}
use Rattle.std.specs.Prelude.{if◌then◌else◌}
use Rattle.std.specs.List.{AllByRecursion}
use Rattle.std.proofs.lemmas.Bool.{and_from, ne_eqb}
use Rattle.std.proofs.lemmas.List.{map-append}
use Rattle.plc_base.proofs.ListLemmas.{all_append}
use Rattle.flat_code.specs.Codes.{are_ops, code_fault, ends_by_be, overlong_statement, size_of_op}
use Rattle.flat_code.specs.Forms.{passed_coding, direct_coding}
use Rattle.flat_code.specs.Instr.{Returns}
use Rattle.flat_code.specs.Ops.{OpData, is_op, op_bytes}
use Rattle.flat_code.specs.declared.operands.Operand.{Operand as FlatOperand}
use Rattle.stl_codegen.specs.CompiledBlock.{SourceInstruction, StatedBlock, operand_with_target, op_with_target, compiled_block, offset_from, offset_of_statement, ops_in, placed_ops}
use Rattle.stl_codegen.specs.EmittedOps.{ops_of}
use Rattle.sem_kept.proofs.compiled.Reading.{return_at}
use Rattle.sem_kept.proofs.compiled.Runs.{total, total_append}
use Rattle.sem_kept.proofs.accepted.Accepted.{all_mapped}
use Rattle.sem_kept.proofs.accepted.CodedOps.{IsOpAtAnyTarget, IsGoodPart, IsGoodStatement}
use Rattle.sem_kept.specs.CodedBlocks.{IsBlockCoded}

abbrev pub AreGood : List SourceInstruction → Type 0
AreGood ss = AllByRecursion (λ s. IsGoodStatement (ops_of s.instr)) ss

-- ---- each is an op

statement_ops : (ops : List OpData) → IsGoodStatement ops → AllByRecursion IsOpAtAnyTarget ops
statement_ops ops h =
    subst (AllByRecursion IsOpAtAnyTarget) (sym h.whole)
    (all_append IsOpAtAnyTarget h.front (h.final ∷ []) (all_mapped IsGoodPart IsOpAtAnyTarget (λ op k. k.good) h.front h.parts) (h.good, tt))

all_good : (ss : List SourceInstruction) → AreGood ss → AllByRecursion IsOpAtAnyTarget (ops_in ss)
all_good [] h = tt
all_good (s ∷ ss) h =
    all_append IsOpAtAnyTarget (ops_of s.instr) (ops_in ss) (statement_ops (ops_of s.instr) h.0)
    (all_good ss h.1)

ops_aimed : (f : ℕ → ℕ) (ops : List OpData) → ((n : ℕ) → f n < 4294967296)
    → AllByRecursion IsOpAtAnyTarget ops → are_ops (map (op_with_target f) ops) ≡ true
ops_aimed f [] small h = refl
ops_aimed f (op ∷ ops) small h =
    and_from (is_op op.code (operand_with_target f op.operand)) (are_ops (map (op_with_target f) ops)) (h.0 f small)
    (ops_aimed f ops small h.1)

-- ---- at most 64 of them are a statement

overlong_step : (count at : ℕ) (op : OpData) (ops : List OpData) → count ≤ 63
    → overlong_statement (if op.last then 0 else suc count) (at + size_of_op op) ops ≡ None
    → overlong_statement count at (op ∷ ops) ≡ None
overlong_step count at op ops few h =
    let other : eqb count 64 ≡ false = ne_eqb count 64 (λ e. omega (arith, e, few)) in
    rw other h

overlong_front : (f : ℕ → ℕ) (front : List OpData) (final : OpData) (rest : List OpData)
    (count at : ℕ) → AllByRecursion IsGoodPart front → final.last ≡ true
    → count + length front ≤ 63 → ((at : ℕ) → overlong_statement 0 at rest ≡ None)
    → overlong_statement count at (map (op_with_target f) front ++ op_with_target f final ∷ rest) ≡ None
unfolding size_of_op op_bytes
overlong_front f [] final rest count at parts last few more =
    overlong_step count at (op_with_target f final) rest (omega (arith, few))
    (rw last (more (at + size_of_op (op_with_target f final))))
overlong_front f (x ∷ front) final rest count at parts last few more =
    overlong_step count at (op_with_target f x) (map (op_with_target f) front ++ op_with_target f final ∷ rest)
    (omega (arith, few))
    (rw parts.0.inner
    (overlong_front f front final rest (suc count) (at + size_of_op (op_with_target f x)) parts.1 last
    (omega (arith, few)) more))

size_of_parts : (f : ℕ → ℕ) (front : List OpData) (final : OpData) (rest : List OpData)
    → map (op_with_target f) ((front ++ final ∷ []) ++ rest)
    ≡ map (op_with_target f) front ++ op_with_target f final ∷ map (op_with_target f) rest
size_of_parts f [] final rest = refl
size_of_parts f (x ∷ front) final rest =
    ap (λ (l : List OpData). op_with_target f x ∷ l) (size_of_parts f front final rest)

not_overlong : (f : ℕ → ℕ) (ss : List SourceInstruction) (at : ℕ) → AreGood ss
    → overlong_statement 0 at (map (op_with_target f) (ops_in ss)) ≡ None
not_overlong f [] at h = refl
not_overlong f (s ∷ ss) at h =
    let cut : map (op_with_target f) (ops_of s.instr ++ ops_in ss)
    ≡ map (op_with_target f) h.0.front ++ op_with_target f h.0.final ∷ map (op_with_target f) (ops_in ss) =
    ap (λ (l : List OpData). map (op_with_target f) (l ++ ops_in ss)) h.0.whole
    ∙ size_of_parts f h.0.front h.0.final (ops_in ss) in
    subst (λ (l : List OpData). overlong_statement 0 at l ≡ None) (sym cut)
    (overlong_front f h.0.front h.0.final (map (op_with_target f) (ops_in ss)) 0 at h.0.parts h.0.last
    (omega (arith, h.0.few)) (λ next. not_overlong f ss next h.1))

-- ---- the last one is BE

ends_behind : (xs ys : List OpData) → ends_by_be ys ≡ true → ends_by_be (xs ++ ys) ≡ true
ends_behind [] ys h = h
ends_behind (x ∷ []) [] h = absurd cc
ends_behind (x ∷ []) (y ∷ ys) h = h
ends_behind (x ∷ z ∷ xs) ys h = ends_behind (z ∷ xs) ys h

ends_right : (f : ℕ → ℕ) (ss : List SourceInstruction) (line : ℕ)
    → ends_by_be (map (op_with_target f) (ops_in (ss ++ return_at line ∷ []))) ≡ true
unfolding ops_of
ends_right f [] line = refl
ends_right f (s ∷ ss) line =
    let behind = ops_in (ss ++ return_at line ∷ []) in
    subst (λ (l : List OpData). ends_by_be l ≡ true)
    (sym (map-append (op_with_target f) (ops_of s.instr) behind))
    (ends_behind (map (op_with_target f) (ops_of s.instr)) (map (op_with_target f) behind)
    (ends_right f ss line))

no_fault : (ops : List OpData) → overlong_statement 0 0 ops ≡ None → ends_by_be ops ≡ true → code_fault ops ≡ None
no_fault ops few right = rw (few, right)

-- ---- offsets are small

offset_within : (at : ℕ) (begins : Bool) (ops : List OpData) (n : ℕ)
    → offset_from at begins ops n ≤ at + total ops
offset_within at begins [] n = omega arith
offset_within at true (op ∷ ops) zero = omega arith
offset_within at true (op ∷ ops) (suc n) = omega (arith, offset_within (at + size_of_op op) op.last ops n)
offset_within at false (op ∷ ops) n = omega (arith, offset_within (at + size_of_op op) op.last ops n)

operand_long : (code : ℕ) (last : Bool) (o : FlatOperand)
    → size_of_op (record { code = code; last = last; operand = o }) ≤ 16
unfolding size_of_op op_bytes direct_coding passed_coding
operand_long code last o = grind arith

op_long : (op : OpData) → size_of_op op ≤ 16
op_long op = operand_long op.code op.last op.operand

total_long : (ops : List OpData) → total ops ≤ 16 * length ops
total_long [] = omega arith
total_long (op ∷ ops) = omega (arith, op_long op, total_long ops)

statement_long : (ops : List OpData) → IsGoodStatement ops → total ops ≤ 1024
statement_long ops h =
    let count = length-append h.front (h.final ∷ []) in omega (arith, count, ap length h.whole, total_long ops, h.few)

statements_long : (ss : List SourceInstruction) → AreGood ss → total (ops_in ss) ≤ 1024 * length ss
statements_long [] h = omega arith
statements_long (s ∷ ss) h =
    omega (arith, statement_long (ops_of s.instr) h.0, statements_long ss h.1, total_append (ops_of s.instr) (ops_in ss))

offsets_small : (ss : List SourceInstruction) → AreGood ss → length ss ≤ 65536 → (n : ℕ)
    → offset_of_statement (ops_in ss) n < 4294967296
unfolding offset_of_statement
offsets_small ss h few n = omega (arith, offset_within 0 true (ops_in ss) n, statements_long ss h, few)

-- ---- THE CODE OF A BLOCK

pub block_coded : (b : StatedBlock) (inner : List SourceInstruction) (line : ℕ)
    → b.statements ≡ inner ++ return_at line ∷ [] → AreGood b.statements
    → length b.statements ≤ 65535 → IsBlockCoded (compiled_block b)
unfolding placed_ops
block_coded b inner line whole good few =
    let f = offset_of_statement (ops_in b.statements) in
    record {
      ops = ops_aimed f (ops_in b.statements)
          (offsets_small b.statements good (omega (arith, few))) (all_good b.statements good);
      right = no_fault (map (op_with_target f) (ops_in b.statements))
          (not_overlong f b.statements 0 good)
          (subst (λ (l : List SourceInstruction). ends_by_be (map (op_with_target f) (ops_in l)) ≡ true) (sym whole)
          (ends_right f inner line));
    }
