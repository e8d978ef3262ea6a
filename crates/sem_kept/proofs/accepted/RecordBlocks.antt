-- The code blocks of a program: their order, their heads and their lines; and that no two blocks are alike.
use Rattle.std.proofs.Common.{◌≡◌, ℕ, zero, suc, ◌+◌, ◌≤◌, ◌<◌, Bool, true, false, not, eqb, leb, ltb, ◌&&◌, ◌||◌, List, [], ◌∷◌, ◌++◌, length, map, Option, Some, None, slice_get, refl, sym, ap, subst, ◌∙◌, arith}
use Rattle.std.specs.Prelude.{if◌then◌else◌, nat_eq}
use Rattle.std.specs.List.{AllByRecursion}
use Rattle.std.specs.Option.{option_and_then, option_map}
use Rattle.std.proofs.lemmas.Bool.{and_from, and_parts, eq-eqb, eqb-true, le-leb, lt-ltb, ltb-false, not-false}
use Rattle.std.proofs.lemmas.Bool.Decides.{nat_tests}
use Rattle.std.proofs.lemmas.List.{length-map, map-append}
use Rattle.std.proofs.lemmas.Option.{slice_get-map}
use Rattle.plc_base.specs.Kinds.{kind_number, is_code, is_data_block, is_function_block, is_same_block, is_same_kind}
use Rattle.plc_base.specs.declared.blocks.BlockId.{BlockId}
use Rattle.plc_base.specs.declared.blocks.BlockKind.{BlockKind}
use Rattle.plc_base.specs.declared.blocks.BlockKind.TheVariants as kinds
use Rattle.plc_base.proofs.ListLemmas.{all_append}
use Rattle.stl_ast.specs.Statements.{is_empty_statement}
use Rattle.stl_ast.specs.declared.blocks.Block.{Block}
use Rattle.stl_ast.specs.declared.blocks.Tree.{Tree}
use Rattle.stl_ast.specs.declared.statements.Statement.{Statement}
use Rattle.stl_parser.specs.Lines.{AreRisingLines, statement_lines_of}
use Rattle.stl_parser.proofs.OptionLemmas.{some_holds}
use Rattle.stl_symbols.specs.Symbol.{Symbol}
use Rattle.block_layout.specs.Blocks.{place_of_block, id_of, ids_of, is_block_number, is_id}
use Rattle.block_layout.specs.Layouts.{block_layout, layouts_of}
use Rattle.block_layout.specs.Lengths.{length_of_block, local_len}
use Rattle.block_layout.specs.Measures.{types_of_source, with_all_bits, with_all_depths}
use Rattle.block_layout.specs.Rule22.{is_earlier}
use Rattle.block_layout.specs.Rule44.{is_number_beyond_limits}
use Rattle.block_layout.specs.Types.{Types}
use Rattle.block_layout.specs.declared.blocks.BlockLayout.{BlockLayout}
use Rattle.flat_code.specs.Checking.{all_good}
use Rattle.flat_code.specs.Codes.{are_ops, code_bytes, code_fault, code_layout, if_checked, stop_at}
use Rattle.flat_code.specs.Faults.{field_fault, has_number}
use Rattle.flat_code.specs.Image.{block_number_layout, code_and_lines, code_block_layout as block_layout_of, end_marks, head_layout, instance_bytes_layout, kind_field, line_after, line_field, lines_layout, local_length_layout, parameter_count_layout, parameters_layout, parameter_layout, plain_block, plain_u16, plain_u32, block_rows, head_of_block, head_rows, record_of_block, record_of_param, same_state}
use Rattle.flat_code.specs.Instr.{Instr, Passing, Does, Jumps, JumpsByList, Calls, Returns}
use Rattle.flat_code.specs.Layout.{FieldLayout, good_many, is_fine}
use Rattle.flat_code.specs.Ops.{OpData}
use Rattle.flat_code.specs.Programs.{CodeBlock, DataBlock}
use Rattle.flat_code.specs.declared.image_fields.Field.TheVariants as field
use Rattle.flat_code.specs.declared.programs.Param.{Param}
use Rattle.flat_code.proofs.CheckLemmas.{zero_word_good}
use Rattle.stl_types.specs.Context.{Context}
use Rattle.stl_codegen.specs.CompiledBlock.{SourceInstruction, StatedBlock, op_with_target, compiled_block, lines_in, offset_of_statement, ops_in, placed_ops}
use Rattle.stl_codegen.specs.EmittedOps.{call_op, ops_of, pass_ops}
use Rattle.stl_codegen.specs.GeneratedProgram.{code_block, code_block_of, code_blocks_of, generated_data_block, data_block_of, data_blocks_of, each_block, instance_len, return_statement, instructions_from, statements_of}
use Rattle.stl_codegen.specs.Instruction.{instruction}
use Rattle.stl_codegen.specs.Order.{is_code_before, is_data_before, is_id_before}
use Rattle.sem_kept.specs.Records.{HasFaultlessCode}
use Rattle.sem_kept.specs.SettledStatements.{context_at}
use Rattle.sem_kept.proofs.accepted.Accepted.{AllLaid, IsSoundBlock, IsSoundTree}
use Rattle.sem_kept.proofs.accepted.RecordData.{holds_at, id_there, length_there, types_symbols}
use Rattle.sem_kept.proofs.accepted.RecordOrder.{AreApart, Differ, Rise, rise_sorted}
use Rattle.sem_kept.proofs.accepted.RecordParams.{HasParams, params_right}
use Rattle.block_layout.proofs.BlockLemmas.{kind_there}

-- ---- no two blocks are alike

-- where the first block of a number stands no earlier, an earlier one is another
not_placed : (id other : BlockId) (ids : List (Option BlockId)) (n k : ℕ) → is_earlier (place_of_block id ids) n ≡ false → k < n
    → slice_get ids k ≡ Some (Some other) → is_same_block id other ≡ false
not_placed id other [] n k h low e = absurd cc
not_placed id other (i ∷ ids) n zero h low e = by (is_id id i) refl h
  where
    first : i ≡ Some other
    first = cc

    by : (t : Bool) → is_id id i ≡ t → is_earlier (if t then Some 0 else option_map (λ k. suc k) (place_of_block id ids)) n ≡ false → is_same_block id other ≡ false
    by true is k = let less : ltb 0 n ≡ true = lt-ltb 0 n (omega (arith, low)) in absurd cc
    by false is k = ap (is_id id) (sym first) ∙ is
not_placed id other (i ∷ ids) zero (suc k) h low e = absurd (omega (arith, low))
not_placed id other (i ∷ ids) (suc n) (suc k) h low e =
    not_placed id other ids n k (by (is_id id i) (place_of_block id ids) h) (omega (arith, low)) e
  where
    by : (t : Bool) (o : Option ℕ) → is_earlier (if t then Some 0 else option_map (λ k. suc k) o) (suc n) ≡ false → is_earlier o n ≡ false
    by true o k = let less : ltb 0 (suc n) ≡ true = lt-ltb 0 (suc n) (omega arith) in absurd cc
    by false None k = refl
    by false (Some m) k = grind (arith, nat_tests)

types_ids : (symbols : List Symbol) (blocks : List Block) → (types_of_source symbols blocks).ids ≡ ids_of symbols blocks
unfolding types_of_source with_all_bits with_all_depths
types_ids symbols blocks = refl

-- items that are made of blocks of some kinds, one of each at most
module _ {A : Type 0} (of : Context → Block → BlockLayout → List A) (wanted : BlockKind → Bool) (Named : A → BlockId → Type 0) (lt : A → A → Bool)
    (some : (c : Context) (b : Block) (l : BlockLayout) → AllByRecursion (λ x. (id : BlockId) × (l.id ≡ Some id) × (wanted id.kind ≡ true) × Named x id) (of c b l))
    (one : (c : Context) (b : Block) (l : BlockLayout) → length (of c b l) ≤ 1)
    (differ : (x y : A) (i j : BlockId) → Named x i → Named y j → wanted i.kind ≡ true → wanted j.kind ≡ true → is_same_block j i ≡ false → Differ lt x y)
    (symbols : List Symbol) (t : Tree) where
  differs : (x : A) (i : BlockId) (o : Option BlockId) → Named x i → wanted i.kind ≡ true → ((id : BlockId) → o ≡ Some id → is_same_block id i ≡ false)
      → (ys : List A) → AllByRecursion (λ y. (id : BlockId) × (o ≡ Some id) × (wanted id.kind ≡ true) × Named y id) ys → AllByRecursion (Differ lt x) ys
  differs x i o named is other [] h = tt
  differs x i o named is other (y ∷ ys) h =
      (differ x y i h.0.0 named h.0.3 is h.0.2 (other h.0.0 h.0.1), differs x i o named is other ys h.1)

  -- an item of a later block
  later : (x : A) (i : BlockId) (k : ℕ) → Named x i → wanted i.kind ≡ true → slice_get (types_of_source symbols t.blocks).ids k ≡ Some (Some i)
      → (j : ℕ) (bs : List Block) (ls : List BlockLayout) → k < j → AllLaid (IsSoundBlock symbols t) j bs ls
      → AllByRecursion (Differ lt x) (each_block of (context_at symbols t j) bs ls)
  later x i k named is there j [] ls low h = tt
  later x i k named is there j (b ∷ bs) [] low h = tt
  later x i k named is there j (b ∷ bs) (l ∷ ls) low h =
      all_append (Differ lt x) (of (context_at symbols t j) b l) (each_block of (context_at symbols t (suc j)) bs ls)
      (differs x i l.id named is other (of (context_at symbols t j) b l) (some (context_at symbols t j) b l))
      (later x i k named is there (suc j) bs ls (omega (arith, low)) h.1)
    where
      other : (id : BlockId) → l.id ≡ Some id → is_same_block id i ≡ false
      other id e =
          let found : id_of (types_of_source symbols t.blocks).symbols b ≡ Some id = sym (id_there symbols t j b l h.0) ∙ e in
          let count = h.0.count in
          not_placed id i (types_of_source symbols t.blocks).ids (length h.0.before) k
          (ap (λ (o : Option BlockId). is_earlier (option_and_then (λ d. place_of_block d (types_of_source symbols t.blocks).ids) o) (length h.0.before)) (sym found) ∙ h.0.head.by_22)
          (omega (arith, count, low)) there

  apart : (k : ℕ) (bs : List Block) (ls : List BlockLayout) → AllLaid (IsSoundBlock symbols t) k bs ls
      → AreApart lt (each_block of (context_at symbols t k) bs ls)
  apart k [] ls h = tt
  apart k (b ∷ bs) [] h = tt
  apart k (b ∷ bs) (l ∷ ls) h =
      by (of (context_at symbols t k) b l) (some (context_at symbols t k) b l) (one (context_at symbols t k) b l)
      (λ x i named is e. later x i k named is (there i e) (suc k) bs ls (omega arith) h.1)
      (apart (suc k) bs ls h.1)
    where
      rest : List A
      rest = each_block of (context_at symbols t (suc k)) bs ls

      there : (i : BlockId) → l.id ≡ Some i → slice_get (types_of_source symbols t.blocks).ids k ≡ Some (Some i)
      there i e =
          ap (λ (z : List (Option BlockId)). slice_get z k) (types_ids symbols t.blocks)
          ∙ slice_get-map (λ b. id_of symbols b) t.blocks k ∙ ap (option_map (λ b. id_of symbols b)) h.0.block_there
          ∙ ap (λ (o : Option BlockId). Some o) (ap (λ (z : List Symbol). id_of z b) (sym (types_symbols symbols t.blocks)) ∙ sym (id_there symbols t k b l h.0) ∙ e)

      by : (xs : List A) → AllByRecursion (λ x. (id : BlockId) × (l.id ≡ Some id) × (wanted id.kind ≡ true) × Named x id) xs → length xs ≤ 1
          → ((x : A) (i : BlockId) → Named x i → wanted i.kind ≡ true → l.id ≡ Some i → AllByRecursion (Differ lt x) rest) → AreApart lt rest → AreApart lt (xs ++ rest)
      by [] named few behind more = more
      by (x ∷ []) named few behind more = (behind x named.0.0 named.0.3 named.0.2 named.0.1, more)
      by (x ∷ y ∷ ys) named few behind more = absurd (omega (arith, few))

-- code blocks
code_some : (c : Context) (b : Block) (l : BlockLayout)
    → AllByRecursion (λ (x : StatedBlock). (id : BlockId) × (l.id ≡ Some id) × (is_code id.kind ≡ true) × (x.id ≡ id)) (code_block_of c b l l.id)
code_some c b l = by l.id refl
  where
    by : (o : Option BlockId) → l.id ≡ o
        → AllByRecursion (λ (x : StatedBlock). (id : BlockId) × (l.id ≡ Some id) × (is_code id.kind ≡ true) × (x.id ≡ id)) (code_block_of c b l o)
    by None e = tt
    by (Some id) e = whether (is_code id.kind) refl
      where
        whether : (t : Bool) → is_code id.kind ≡ t
            → AllByRecursion (λ (x : StatedBlock). (id : BlockId) × (l.id ≡ Some id) × (is_code id.kind ≡ true) × (x.id ≡ id)) (if t then code_block c b l id ∷ [] else [])
        whether true is = ((id, e, is, refl), tt)
        whether false is = tt

code_one : (c : Context) (b : Block) (l : BlockLayout) → length (code_block_of c b l l.id) ≤ 1
code_one c b l = by l.id
  where
    by : (o : Option BlockId) → length (code_block_of c b l o) ≤ 1
    by None = omega arith
    by (Some id) = whether (is_code id.kind)
      where
        whether : (t : Bool) → length (if t then code_block c b l id ∷ [] else []) ≤ 1
        whether true = omega arith
        whether false = omega arith

ids_differ : (i j : BlockId) → is_code i.kind ≡ true → is_code j.kind ≡ true → is_same_block j i ≡ false → (is_id_before i j || is_id_before j i) ≡ true
ids_differ i j h g other = by i.kind j.kind h g other
  where
    numbers : (r n m : ℕ) → nat_eq m n ≡ false → ((ltb r r || eqb r r && ltb n m) || (ltb r r || eqb r r && ltb m n)) ≡ true
    numbers r n m other = grind (arith, nat_tests)

    by : (p q : BlockKind) → is_code p ≡ true → is_code q ≡ true → (is_same_kind q p && nat_eq j.number i.number) ≡ false
        → ((ltb (kind_number p) (kind_number q) || eqb (kind_number p) (kind_number q) && ltb i.number j.number) || (ltb (kind_number q) (kind_number p) || eqb (kind_number q) (kind_number p) && ltb j.number i.number)) ≡ true
    by kinds.Ob kinds.Ob h g other = numbers 1 i.number j.number other
    by kinds.Ob kinds.Fc h g other = refl
    by kinds.Ob kinds.Fb h g other = refl
    by kinds.Fc kinds.Ob h g other = refl
    by kinds.Fc kinds.Fc h g other = numbers 2 i.number j.number other
    by kinds.Fc kinds.Fb h g other = refl
    by kinds.Fb kinds.Ob h g other = refl
    by kinds.Fb kinds.Fc h g other = refl
    by kinds.Fb kinds.Fb h g other = numbers 3 i.number j.number other
    by p kinds.Db h g other = absurd cc
    by p kinds.Udt h g other = absurd cc
    by p kinds.Sfc h g other = absurd cc
    by kinds.Db q h g other = absurd cc
    by kinds.Udt q h g other = absurd cc
    by kinds.Sfc q h g other = absurd cc

codes_differ : (x y : StatedBlock) (i j : BlockId) → x.id ≡ i → y.id ≡ j → is_code i.kind ≡ true → is_code j.kind ≡ true → is_same_block j i ≡ false
    → Differ is_code_before x y
codes_differ x y i j e f h g other = rw e (rw f (ids_differ i j h g other))

pub code_blocks_rise : (symbols : List Symbol) (t : Tree) → IsSoundTree symbols t → Rise is_code_before (code_blocks_of t symbols (layouts_of t symbols))
unfolding code_blocks_of
code_blocks_rise symbols t h =
    rise_sorted is_code_before (each_block (λ c b l. code_block_of c b l l.id) (context_at symbols t 0) t.blocks (layouts_of t symbols))
    (apart (λ c b l. code_block_of c b l l.id) is_code (λ x i. x.id ≡ i) is_code_before code_some code_one codes_differ symbols t 0 t.blocks (layouts_of t symbols) h.blocks)

-- data blocks
data_some : (c : Context) (b : Block) (l : BlockLayout)
    → AllByRecursion (λ (x : DataBlock). (id : BlockId) × (l.id ≡ Some id) × (is_data_block id.kind ≡ true) × (x.number ≡ id.number)) (data_block_of c l l.id)
data_some c b l = by l.id refl
  where
    by : (o : Option BlockId) → l.id ≡ o
        → AllByRecursion (λ (x : DataBlock). (id : BlockId) × (l.id ≡ Some id) × (is_data_block id.kind ≡ true) × (x.number ≡ id.number)) (data_block_of c l o)
    by None e = tt
    by (Some id) e = whether (is_data_block id.kind) refl
      where
        whether : (t : Bool) → is_data_block id.kind ≡ t
            → AllByRecursion (λ (x : DataBlock). (id : BlockId) × (l.id ≡ Some id) × (is_data_block id.kind ≡ true) × (x.number ≡ id.number)) (if t then generated_data_block c l id ∷ [] else [])
        whether true is = ((id, e, is, refl), tt)
        whether false is = tt

data_one : (c : Context) (b : Block) (l : BlockLayout) → length (data_block_of c l l.id) ≤ 1
data_one c b l = by l.id
  where
    by : (o : Option BlockId) → length (data_block_of c l o) ≤ 1
    by None = omega arith
    by (Some id) = whether (is_data_block id.kind)
      where
        whether : (t : Bool) → length (if t then generated_data_block c l id ∷ [] else []) ≤ 1
        whether true = omega arith
        whether false = omega arith

datas_differ : (x y : DataBlock) (i j : BlockId) → x.number ≡ i.number → y.number ≡ j.number → is_data_block i.kind ≡ true → is_data_block j.kind ≡ true
    → is_same_block j i ≡ false → Differ is_data_before x y
datas_differ x y i j e f h g other = by i.kind j.kind h g other
  where
    numbers : (n m : ℕ) → nat_eq m n ≡ false → (ltb n m || ltb m n) ≡ true
    numbers n m other = grind (arith, nat_tests)

    by : (p q : BlockKind) → is_data_block p ≡ true → is_data_block q ≡ true → (is_same_kind q p && nat_eq j.number i.number) ≡ false
        → (ltb x.number y.number || ltb y.number x.number) ≡ true
    by kinds.Db kinds.Db h g other = rw e (rw f (numbers i.number j.number other))
    by p kinds.Ob h g other = absurd cc
    by p kinds.Fc h g other = absurd cc
    by p kinds.Fb h g other = absurd cc
    by p kinds.Udt h g other = absurd cc
    by p kinds.Sfc h g other = absurd cc
    by kinds.Ob q h g other = absurd cc
    by kinds.Fc q h g other = absurd cc
    by kinds.Fb q h g other = absurd cc
    by kinds.Udt q h g other = absurd cc
    by kinds.Sfc q h g other = absurd cc

pub data_blocks_rise : (symbols : List Symbol) (t : Tree) → IsSoundTree symbols t → Rise is_data_before (data_blocks_of t symbols (layouts_of t symbols))
unfolding data_blocks_of
data_blocks_rise symbols t h =
    rise_sorted is_data_before (each_block (λ c b l. data_block_of c l l.id) (context_at symbols t 0) t.blocks (layouts_of t symbols))
    (apart (λ c b l. data_block_of c l l.id) is_data_block (λ x i. x.number ≡ i.number) is_data_before data_some data_one datas_differ symbols t 0 t.blocks (layouts_of t symbols) h.blocks)

-- ---- lines

rises_weaker : (last low before : ℕ) (xs : List ℕ) → low ≤ before → AreRisingLines last before xs → AreRisingLines last low xs
rises_weaker last low before [] le h = tt
rises_weaker last low before (x ∷ xs) le h = (omega (arith, le, h.0), h.1, h.2)

-- those of statements that aren't empty, and then others
stated_rise : (last before : ℕ) (c : Context) (body : List Statement) (n : ℕ) (ss : List Statement) (tail : List ℕ)
    → AreRisingLines last before (map (λ s. s.line) ss ++ tail) → AreRisingLines last before (map (λ s. s.line) (instructions_from c body n ss) ++ tail)
stated_rise last before c body n [] tail h = h
stated_rise last before c body n (s ∷ ss) tail h =
    by (is_empty_statement s.code)
    (stated_rise last before c body n ss tail (rises_weaker last before s.line (map (λ s. s.line) ss ++ tail) h.0 h.2))
    (stated_rise last s.line c body (suc n) ss tail h.2)
  where
    by : (t : Bool) → AreRisingLines last before (map (λ s. s.line) (instructions_from c body n ss) ++ tail)
        → AreRisingLines last s.line (map (λ s. s.line) (instructions_from c body (suc n) ss) ++ tail)
        → AreRisingLines last before (map (λ s. s.line) (if t then instructions_from c body n ss
        else record { instr = instruction c body n s; line = s.line } ∷ instructions_from c body (suc n) ss) ++ tail)
    by true skipped kept = skipped
    by false skipped kept = (h.0, h.1, kept)

lines_stated : (last : ℕ) (c : Context) (b : Block) → AreRisingLines last 1 (statement_lines_of b) → AreRisingLines last 1 (lines_in (statements_of c b))
unfolding statements_of
lines_stated last c b h =
    subst (AreRisingLines last 1) (sym (map-append (λ (s : SourceInstruction). s.line) (instructions_from c b.body 0 b.body) (return_statement b ∷ [])))
    (stated_rise last 1 c b.body 0 b.body (b.end_line ∷ []) h)

line_good : (with_code_faults : Bool) (before line : ℕ) → line < 4294967296 → 1 ≤ line → before ≤ line → (line_field with_code_faults before).good line ≡ true
unfolding line_field field_fault
line_good true before line near some low = grind (arith, nat_tests)
line_good false before line near some low = grind (arith, nat_tests)

lines_good : (with_code_faults : Bool) (last before low : ℕ) (lines : List ℕ) → last < 4294967296 → before ≤ low → 1 ≤ low → AreRisingLines last low lines
    → all_good (line_field with_code_faults) line_after before lines ≡ true
lines_good with_code_faults last before low [] near le some h = refl
lines_good with_code_faults last before low (x ∷ lines) near le some h =
    and_from _ _ (line_good with_code_faults before x (omega (arith, near, h.1)) (omega (arith, some, h.0)) (omega (arith, le, h.0)))
    (lines_good with_code_faults last x x lines near (omega arith) (omega (arith, some, h.0)) h.2)

-- ---- heads

-- what a head says besides counts
pub record HasFields (last : ℕ) (b : CodeBlock) : Type 0 where
  pub code : is_code b.id.kind ≡ true
  pub number : is_block_number b.id.kind b.id.number ≡ true
  pub params : HasParams (kind_number b.id.kind) b.instance_len b.params
  pub local : b.local_len ≤ 1024
  pub start : kind_number b.id.kind ≡ kind_number kinds.Ob → 20 ≤ b.local_len
  pub instance : (if eqb (kind_number b.id.kind) (kind_number kinds.Fb) then leb b.instance_len 16384 else eqb b.instance_len 0) ≡ true
  pub lines : AreRisingLines last 1 b.lines

local_there : (symbols : List Symbol) (t : Tree) (k : ℕ) (b : Block) (l : BlockLayout) → IsSoundBlock symbols t k b l → l.local_len ≡ local_len (types_of_source symbols t.blocks) b
unfolding block_layout
local_there symbols t k b l h = ap (λ (x : BlockLayout). x.local_len) h.layout

local_start : (y : Types) (b : Block) → b.kind ≡ kinds.Ob → 20 ≤ local_len y b
unfolding local_len
local_start y b kind = rw kind (omega arith)

instance_right : (symbols : List Symbol) (t : Tree) (k : ℕ) (b : Block) (l : BlockLayout) (kind : BlockKind) → IsSoundBlock symbols t k b l → b.kind ≡ kind → is_code kind ≡ true
    → (if eqb (kind_number kind) (kind_number kinds.Fb) then leb (instance_len b l) 16384 else eqb (instance_len b l) 0) ≡ true
instance_right symbols t k b l kind h same code = by kind same code
  where
    none : is_function_block b.kind ≡ false → eqb (instance_len b l) 0 ≡ true
    none e = ap (λ (s : Bool). eqb (if s then l.length else 0) 0) e

    by : (kind : BlockKind) → b.kind ≡ kind → is_code kind ≡ true → (if eqb (kind_number kind) (kind_number kinds.Fb) then leb (instance_len b l) 16384 else eqb (instance_len b l) 0) ≡ true
    by kinds.Ob same code = none (ap is_function_block same)
    by kinds.Fc same code = none (ap is_function_block same)
    by kinds.Fb same code =
        let len = length_there symbols t k b l h in
        let short : length_of_block (types_of_source symbols t.blocks) t.blocks b ≤ 16384 = ltb-false 16384 (length_of_block (types_of_source symbols t.blocks) t.blocks b) h.head.by_51 in
        ap (λ (s : Bool). leb (if s then l.length else 0) 16384) (ap is_function_block same) ∙ le-leb l.length 16384 (omega (arith, len, short))
    by kinds.Db same code = absurd cc
    by kinds.Udt same code = absurd cc
    by kinds.Sfc same code = absurd cc

ob_kind : (k : BlockKind) → is_code k ≡ true → kind_number k ≡ kind_number kinds.Ob → k ≡ kinds.Ob
ob_kind kinds.Ob h e = refl
ob_kind kinds.Fc h e = absurd (omega (arith, e))
ob_kind kinds.Fb h e = absurd (omega (arith, e))
ob_kind kinds.Db h e = absurd cc
ob_kind kinds.Udt h e = absurd cc
ob_kind kinds.Sfc h e = absurd cc

pub fields_of : (last : ℕ) (symbols : List Symbol) (t : Tree) → AllByRecursion (λ b. AreRisingLines last 1 (statement_lines_of b)) t.blocks
    → (k : ℕ) (b : Block) (l : BlockLayout) (id : BlockId) → IsSoundBlock symbols t k b l → l.id ≡ Some id → is_code id.kind ≡ true
    → HasFields last (compiled_block (code_block (context_at symbols t k) b l id))
fields_of last symbols t rise k b l id h named code =
    let found : id_of (types_of_source symbols t.blocks).symbols b ≡ Some id = sym (id_there symbols t k b l h) ∙ named in
    let kind : b.kind ≡ id.kind = kind_there (types_of_source symbols t.blocks).symbols b id found in
    let local = local_there symbols t k b l h in
    let most : local_len (types_of_source symbols t.blocks) b ≤ 1024 = ltb-false 1024 (local_len (types_of_source symbols t.blocks) b) h.head.by_50 in
    record {
      code = code;
      number = not-false (is_block_number id.kind id.number) (ap is_number_beyond_limits (sym found) ∙ h.head.by_44);
      params = params_right symbols t k b l id.kind h kind code;
      local = omega (arith, local, most);
      start = λ e. let least = local_start (types_of_source symbols t.blocks) b (kind ∙ ob_kind id.kind code e) in omega (arith, local, least);
      instance = instance_right symbols t k b l id.kind h kind code;
      lines = lines_stated last (context_at symbols t k) b
          (some_holds (slice_get t.blocks k) b (λ x. AreRisingLines last 1 (statement_lines_of x)) h.block_there (holds_at (λ x. AreRisingLines last 1 (statement_lines_of x)) t.blocks k rise));
    }

-- the fields one by one
kind_good : (before kind : ℕ) → kind_number kinds.Ob ≤ kind → kind ≤ kind_number kinds.Fb → before ≤ kind → (kind_field before).good kind ≡ true
unfolding kind_field field_fault
kind_good before kind low high rises = grind (arith, nat_tests)

count_good : (kind n : ℕ) → n ≤ 60 → (not (eqb kind (kind_number kinds.Ob)) || eqb n 0) ≡ true → (parameter_count_layout kind).good n ≡ true
unfolding parameter_count_layout field_fault
count_good kind n few none = grind (arith, nat_tests)

number_good : (kind_before before kind number : ℕ) → number < 65536 → has_number kind number ≡ true → (not (eqb kind kind_before) || ltb before number) ≡ true
    → (block_number_layout kind_before before kind).good number ≡ true
unfolding block_number_layout field_fault
number_good kind_before before kind number near there rises = and_from _ _ (lt-ltb number 65536 near) (rw there (rw rises refl))

local_good : (kind n : ℕ) → n ≤ 1024 → (not (eqb kind (kind_number kinds.Ob)) || leb 20 n) ≡ true → (local_length_layout kind).good n ≡ true
unfolding local_length_layout field_fault
local_good kind n few start = grind (arith, nat_tests)

instance_good : (kind n : ℕ) → n < 65536 → (if eqb kind (kind_number kinds.Fb) then leb n 16384 else eqb n 0) ≡ true → (instance_bytes_layout kind).good n ≡ true
unfolding instance_bytes_layout field_fault
instance_good kind n near h = and_from _ _ (lt-ltb n 65536 near) (rw h refl)

word_good : (n : ℕ) → n < 65536 → plain_u16.good n ≡ true
unfolding plain_u16
word_good n near = and_from _ _ (lt-ltb n 65536 near) refl

long_good : (n : ℕ) → n < 4294967296 → plain_u32.good n ≡ true
unfolding plain_u32
long_good n near = and_from _ _ (lt-ltb n 4294967296 near) refl

-- numbers of blocks in an image
number_there : (k : BlockKind) (n : ℕ) → is_code k ≡ true → is_block_number k n ≡ true → (has_number (kind_number k) n ≡ true) × (n < 65536)
number_there kinds.Ob n code h = (h, grind (arith, nat_tests, h))
number_there kinds.Fc n code h = ((and_parts (leb 0 n) (leb n 2047) h).1, grind (arith, nat_tests, h))
number_there kinds.Fb n code h = ((and_parts (leb 0 n) (leb n 2047) h).1, grind (arith, nat_tests, h))
number_there kinds.Db n code h = absurd cc
number_there kinds.Udt n code h = absurd cc
number_there kinds.Sfc n code h = absurd cc

kind_within : (k : BlockKind) → is_code k ≡ true → (kind_number kinds.Ob ≤ kind_number k) × (kind_number k ≤ kind_number kinds.Fb)
kind_within kinds.Ob h = (omega arith, omega arith)
kind_within kinds.Fc h = (omega arith, omega arith)
kind_within kinds.Fb h = (omega arith, omega arith)
kind_within kinds.Db h = absurd cc
kind_within kinds.Udt h = absurd cc
kind_within kinds.Sfc h = absurd cc

-- a test that holds by cases
implied : (kind : ℕ) (t : Bool) → (kind ≡ kind_number kinds.Ob → t ≡ true) → (not (eqb kind (kind_number kinds.Ob)) || t) ≡ true
implied kind t h = by (eqb kind (kind_number kinds.Ob)) refl
  where
    by : (s : Bool) → eqb kind (kind_number kinds.Ob) ≡ s → (not s || t) ≡ true
    by true e = h (eqb-true kind (kind_number kinds.Ob) e)
    by false e = refl

instance_near : (kind n : ℕ) → (if eqb kind (kind_number kinds.Fb) then leb n 16384 else eqb n 0) ≡ true → n < 65536
instance_near kind n h = grind (arith, nat_tests)

head_good : (last : ℕ) (before : ℕ × ℕ) (b : CodeBlock) → HasFields last b → HasFaultlessCode b → before.0 ≤ kind_number b.id.kind
    → (not (eqb (kind_number b.id.kind) before.0) || ltb before.1 b.id.number) ≡ true
    → (head_layout before).good (head_of_block (record_of_block b)) ≡ true
unfolding head_layout head_rows
head_good last before b h c low rises =
    let kind = kind_within b.id.kind h.code in
    let number = number_there b.id.kind b.id.number h.code h.number in
    let count : length (map record_of_param b.params) ≤ 60 = subst (λ (n : ℕ). n ≤ 60) (sym (length-map b.params record_of_param)) h.params.few in
    and_from _ _ (kind_good before.0 (kind_number b.id.kind) kind.0 kind.1 low)
    (and_from _ _ (count_good (kind_number b.id.kind) (length (map record_of_param b.params)) count
    (implied (kind_number b.id.kind) (eqb (length (map record_of_param b.params)) 0) (λ e. ap (λ (ps : List Param). eqb (length (map record_of_param ps)) 0) (h.params.none e))))
    (and_from _ _ (number_good before.0 before.1 (kind_number b.id.kind) b.id.number number.1 number.0 rises)
    (and_from _ _ (local_good (kind_number b.id.kind) b.local_len h.local
    (implied (kind_number b.id.kind) (leb 20 b.local_len) (λ e. le-leb 20 b.local_len (h.start e))))
    (and_from _ _ (instance_good (kind_number b.id.kind) b.instance_len (instance_near (kind_number b.id.kind) b.instance_len h.instance) h.instance)
    (and_from _ _ (word_good (length b.lines) c.statements)
    (and_from _ _ zero_word_good (long_good (length (code_bytes b.code)) c.size)))))))

-- ---- end marks

marks_append : (xs ys : List OpData) → end_marks (xs ++ ys) ≡ end_marks xs + end_marks ys
marks_append [] ys = omega arith
marks_append (x ∷ xs) ys = let more = marks_append xs ys in omega (arith, more)

marks_passing : (ps : List Passing) → end_marks (pass_ops ps) ≡ 0
marks_passing [] = refl
marks_passing (p ∷ ps) = let more = marks_passing ps in omega (arith, more)

-- a statement has one
marks_one : (i : Instr) → end_marks (ops_of i) ≡ 1
unfolding ops_of
marks_one (Does None w o) = refl
marks_one (Does (Some number) w o) = refl
marks_one (Jumps how target) = refl
marks_one (JumpsByList targets otherwise) = refl
marks_one (Calls how block instance passings) =
    let both = marks_append (pass_ops passings) (call_op how block instance ∷ []) in
    let none = marks_passing passings in omega (arith, both, none)
marks_one (Returns how) = refl

marks_in : (ss : List SourceInstruction) → end_marks (ops_in ss) ≡ length ss
marks_in [] = refl
marks_in (s ∷ ss) =
    let both = marks_append (ops_of s.instr) (ops_in ss) in
    let one = marks_one s.instr in
    let more = marks_in ss in omega (arith, both, one, more)

marks_aimed : (f : ℕ → ℕ) (ops : List OpData) → end_marks (map (op_with_target f) ops) ≡ end_marks ops
marks_aimed f [] = refl
marks_aimed f (op ∷ ops) = ap (λ (n : ℕ). (if op.last then 1 else 0) + n) (marks_aimed f ops)

marks_there : (x : StatedBlock) → end_marks (compiled_block x).code ≡ length (compiled_block x).lines
unfolding placed_ops
marks_there x =
    marks_aimed (offset_of_statement (ops_in x.statements)) (ops_in x.statements) ∙ marks_in x.statements ∙ sym (length-map x.statements (λ s. s.line))

-- ---- a whole record

-- as many values as there are
pub all_counted_by : {S A : Type 0} (l : S → FieldLayout A) (next : S → A → S) (s : S) (xs : List A) → good_many l next s (length xs) xs ≡ all_good l next s xs
all_counted_by l next s [] = refl
all_counted_by l next s (x ∷ xs) = ap (λ (t : Bool). (l s).good x && t) (all_counted_by l next (next s x) xs)

nothing_stops : (with_code_faults : Bool) (ops : List OpData) → code_fault ops ≡ None → stop_at with_code_faults ops [] ≡ None
nothing_stops true ops h = h
nothing_stops false ops h = refl

code_good : (with_code_faults : Bool) (ops : List OpData) → are_ops ops ≡ true → code_fault ops ≡ None → (code_layout with_code_faults (length (code_bytes ops))).good ops ≡ true
unfolding code_layout
code_good with_code_faults ops h ends =
    and_from _ _ (and_from _ _ h (ap is_fine (nothing_stops with_code_faults ops ends))) (eq-eqb (length (code_bytes ops)) (length (code_bytes ops)) refl)

marks_good : (with_code_faults : Bool) (marks count : ℕ) → marks ≡ count → is_fine (if_checked with_code_faults (field_fault (field.StatementCount marks count))) ≡ true
unfolding field_fault
marks_good true marks count same = let e = eq-eqb marks count same in rw e refl
marks_good false marks count same = refl

block_good : (last : ℕ) (with_code_faults : Bool) (before : ℕ × ℕ) (b : CodeBlock) → last < 4294967296 → HasFields last b → HasFaultlessCode b → end_marks b.code ≡ length b.lines → before.0 ≤ kind_number b.id.kind
    → (not (eqb (kind_number b.id.kind) before.0) || ltb before.1 b.id.number) ≡ true
    → (block_layout_of with_code_faults before).good (record_of_block b) ≡ true
unfolding block_layout_of plain_block block_rows code_and_lines parameters_layout lines_layout
block_good last with_code_faults before b near h c marks low rises =
    and_from _ _ (head_good last before b h c low rises)
    (and_from _ _ (all_counted_by (λ s. parameter_layout (kind_number b.id.kind) b.instance_len) same_state 0 (map record_of_param b.params) ∙ h.params.good)
    (and_from _ _ (code_good with_code_faults b.code c.ops c.ends)
    (and_from _ _ (marks_good with_code_faults (end_marks b.code) (length b.lines) marks)
    (all_counted_by (line_field with_code_faults) line_after 0 b.lines ∙ lines_good with_code_faults last 0 1 b.lines near (omega arith) (omega arith) h.lines))))

-- ---- all of them

abbrev pub IsRightBlock : ℕ → StatedBlock → Type 0
IsRightBlock last x = HasFields last (compiled_block x) × HasFaultlessCode (compiled_block x)

pair_low : (r n s m : ℕ) → (ltb r s || eqb r s && ltb n m) ≡ true → (r ≤ s) × ((not (eqb s r) || ltb n m) ≡ true)
pair_low r n s m h = (grind (arith, nat_tests), grind (arith, nat_tests))

pub first_good : (last : ℕ) (with_code_faults : Bool) (x : StatedBlock) → last < 4294967296 → IsRightBlock last x → (block_layout_of with_code_faults (0, 0)).good (record_of_block (compiled_block x)) ≡ true
first_good last with_code_faults x near h =
    block_good last with_code_faults (0, 0) (compiled_block x) near h.0 h.1 (marks_there x) (omega arith) (first (kind_number x.id.kind) (kind_within x.id.kind h.0.code).0)
  where
    first : (kind : ℕ) → 1 ≤ kind → (not (eqb kind 0) || ltb 0 x.id.number) ≡ true
    first kind some = grind (arith, nat_tests)

pub next_good : (last : ℕ) (with_code_faults : Bool) (x y : StatedBlock) → last < 4294967296 → is_code_before x y ≡ true → IsRightBlock last y
    → (block_layout_of with_code_faults (kind_number x.id.kind, x.id.number)).good (record_of_block (compiled_block y)) ≡ true
next_good last with_code_faults x y near rises h =
    let low = pair_low (kind_number x.id.kind) x.id.number (kind_number y.id.kind) y.id.number rises in
    block_good last with_code_faults (kind_number x.id.kind, x.id.number) (compiled_block y) near h.0 h.1 (marks_there y) low.0 low.1
