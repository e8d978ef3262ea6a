-- The data blocks of a program: their numbers, their instances, their bytes and how many these are together.
use Rattle.std.proofs.Common.{◌≡◌, ℕ, zero, suc, ◌+◌, ◌-◌, ◌/◌, ◌%◌, ◌^◌, ◌≤◌, ◌<◌, Bool, true, false, not, ltb, ◌&&◌, List, [], ◌∷◌, ◌++◌, length, set, get_or, replicate, fold, sum_by, Option, Some, None, bit_and, bit_or, slice_get, refl, sym, ap, ◌∙◌, arith}
use Rattle.std.specs.Prelude.{if◌then◌else◌, nat_eq, IfSome}
use Rattle.std.specs.List.{AllByRecursion}
use Rattle.std.specs.Option.{option_and_then}
use Rattle.std.proofs.Math.Pow.{pow-lt}
use Rattle.std.proofs.lemmas.Bool.{and_from, lt-ltb, ltb-true, ltb-false}
use Rattle.std.proofs.lemmas.Bool.Decides.{nat_tests}
use Rattle.std.proofs.lemmas.List.{length-replicate}
use Rattle.std.proofs.lemmas.List.Sums.{sum_by-cons, sum_by-append}
use Rattle.std.proofs.lemmas.Nat.{and_le_l, or_lt}
use Rattle.plc_base.specs.Kinds.{is_data_block, is_function_block}
use Rattle.plc_base.specs.declared.blocks.BlockId.{BlockId}
use Rattle.plc_base.specs.declared.blocks.BlockKind.{BlockKind}
use Rattle.plc_base.specs.declared.blocks.BlockKind.TheVariants as kinds
use Rattle.stl_ast.specs.declared.blocks.Block.{Block}
use Rattle.stl_ast.specs.declared.blocks.Tree.{Tree}
use Rattle.stl_symbols.specs.Symbol.{Symbol}
use Rattle.block_layout.specs.Blocks.{id_of, is_block_number}
use Rattle.block_layout.specs.InitialBytes.{Write, big_endian_bytes, initial_bytes, length_at, bytes_with_write, setting_writes, settings_at, structure_writes, with_bit, with_bytes}
use Rattle.block_layout.specs.Layouts.{block_layout, layouts_by, layouts_from, layouts_of}
use Rattle.block_layout.specs.Lengths.{length_of_block}
use Rattle.block_layout.specs.Measures.{types_of_source, with_all_bits, with_all_depths}
use Rattle.block_layout.specs.Paths.{structure_of}
use Rattle.block_layout.specs.Rule44.{is_number_beyond_limits}
use Rattle.block_layout.specs.Rule54.{data_length, exceeds_total, rule_54, total_data_length}
use Rattle.block_layout.specs.Types.{Types}
use Rattle.block_layout.specs.declared.blocks.BlockLayout.{BlockLayout}
use Rattle.block_layout.specs.declared.blocks.Shape.{Shape}
use Rattle.block_layout.specs.declared.blocks.Shape.TheVariants as shape
use Rattle.flat_code.specs.Checking.{good_datas}
use Rattle.flat_code.specs.Faults.{field_fault}
use Rattle.flat_code.specs.Image.{after_data, bytes_fit, data_block_layout as data_layout, data_length_layout, data_number_layout, instance_field, number_of_instance, data_rows}
use Rattle.flat_code.specs.Programs.{DataBlock}
use Rattle.flat_code.proofs.CheckLemmas.{contents_good, zero_word_good}
use Rattle.stl_codegen.specs.GeneratedProgram.{generated_data_block, data_block_of, data_blocks_of, each_block, function_block_number, instance_in}
use Rattle.stl_codegen.specs.Order.{is_data_before}
use Rattle.block_layout.proofs.HeadLemmas.{AllHeads, heads_none}
use Rattle.sem_kept.specs.Initial.{writes_of}
use Rattle.sem_kept.specs.SettledStatements.{context_at}
use Rattle.sem_kept.proofs.accepted.Accepted.{AllLaid, IsSoundBlock, IsSoundTree, sound_data_blocks}
use Rattle.sem_kept.proofs.accepted.RecordNames.{IsByte, OfBytes}
use Rattle.sem_kept.proofs.accepted.RecordOrder.{Rise, RiseFrom, sum_sorted}
use Rattle.block_layout.proofs.FillLemmas.{written_length}
use Rattle.block_layout.proofs.BlockLemmas.{kind_there}

-- ---- bytes

all_set : {A : Type 0} (P : A → Type 0) (xs : List A) (i : ℕ) (v : A) → P v → AllByRecursion P xs → AllByRecursion P (set xs i v)
all_set P [] i v h k = tt
all_set P (x ∷ xs) zero v h k = (h, k.1)
all_set P (x ∷ xs) (suc i) v h k = (k.0, all_set P xs i v h k.1)

byte_at : (xs : List ℕ) (i : ℕ) → OfBytes xs → IsByte (get_or xs i 0)
byte_at [] i h = omega arith
byte_at (x ∷ xs) zero h = h.0
byte_at (x ∷ xs) (suc i) h = byte_at xs i h.1

bit_byte : (bit value byte : ℕ) → bit < 8 → IsByte byte → IsByte (with_bit bit value byte)
bit_byte bit value byte low h = by (nat_eq (value % 2) 1)
  where
    by : (t : Bool) → IsByte (if t then bit_or byte (2 ^ bit) else bit_and byte (255 - 2 ^ bit))
    by true = let power : 2 ^ bit < 2 ^ 8 = pow-lt low in or_lt 8 byte (2 ^ bit) h power
    by false = let less = and_le_l byte (255 - 2 ^ bit) in omega (arith, less, h)

are_bytes : (count value : ℕ) → OfBytes (big_endian_bytes count value)
are_bytes zero value = tt
are_bytes (suc n) value = (low (value / 256 ^ n), are_bytes n value)
  where
    low : (n : ℕ) → n % 256 < 256
    low n = omega arith

bytes_put : (bytes : List ℕ) (at : ℕ) (new : List ℕ) → OfBytes bytes → OfBytes new → OfBytes (with_bytes bytes at new)
bytes_put bytes at [] h k = h
bytes_put bytes at (b ∷ bs) h k = bytes_put (set bytes at b) (at + 1) bs (all_set IsByte bytes at b k.0 h) k.1

bit_low : (n : ℕ) → n % 8 < 8
bit_low n = omega arith

put_bytes : (bytes : List ℕ) (w : Write) → OfBytes bytes → OfBytes (bytes_with_write bytes w)
put_bytes bytes w h = by (nat_eq w.width 1)
  where
    by : (t : Bool) → OfBytes (if t then set bytes (w.offset / 8) (with_bit (w.offset % 8) w.value (get_or bytes (w.offset / 8) 0))
        else with_bytes bytes (w.offset / 8) (big_endian_bytes (w.width / 8) w.value))
    by true =
        all_set IsByte bytes (w.offset / 8) (with_bit (w.offset % 8) w.value (get_or bytes (w.offset / 8) 0))
        (bit_byte (w.offset % 8) w.value (get_or bytes (w.offset / 8) 0) (bit_low w.offset) (byte_at bytes (w.offset / 8) h)) h
    by false = bytes_put bytes (w.offset / 8) (big_endian_bytes (w.width / 8) w.value) h (are_bytes (w.width / 8) w.value)

written_bytes : (bytes : List ℕ) (ws : List Write) → OfBytes bytes → OfBytes (fold bytes_with_write bytes ws)
written_bytes bytes [] h = h
written_bytes bytes (w ∷ ws) h = written_bytes (bytes_with_write bytes w) ws (put_bytes bytes w h)

zero_bytes : (n : ℕ) → OfBytes (replicate n 0)
zero_bytes zero = tt
zero_bytes (suc n) = (omega arith, zero_bytes n)

initial_are : (l : List BlockLayout) (blocks : List Block) (block : ℕ) → OfBytes (initial_bytes l blocks block)
unfolding initial_bytes
initial_are l blocks block =
    written_bytes (replicate (length_at (slice_get l block)) 0) (writes_of l blocks block) (zero_bytes (length_at (slice_get l block)))

initial_length : (l : List BlockLayout) (blocks : List Block) (block : ℕ) → length (initial_bytes l blocks block) ≡ length_at (slice_get l block)
unfolding initial_bytes
initial_length l blocks block =
    written_length (replicate (length_at (slice_get l block)) 0) (writes_of l blocks block) ∙ length-replicate (length_at (slice_get l block)) 0

fit_bytes : (bs : List ℕ) → OfBytes bs → bytes_fit bs ≡ true
fit_bytes [] h = refl
fit_bytes (b ∷ bs) h = and_from _ _ (lt-ltb b 256 h.0) (fit_bytes bs h.1)

-- ---- the blocks of a source have numbers within the limits

pub types_symbols : (symbols : List Symbol) (blocks : List Block) → (types_of_source symbols blocks).symbols ≡ symbols
unfolding types_of_source with_all_bits with_all_depths
types_symbols symbols blocks = refl

-- of the layouts, as far as they have one
abbrev HasNumberInLimits : BlockLayout → Type 0
HasNumberInLimits l = is_number_beyond_limits l.id ≡ false

pub holds_at : {A : Type 0} (P : A → Type 0) (xs : List A) (i : ℕ) → AllByRecursion P xs → IfSome (slice_get xs i) P
holds_at P [] i h = tt
holds_at P (x ∷ xs) zero h = h.0
holds_at P (x ∷ xs) (suc i) h = holds_at P xs i h.1

number_within : (id : BlockId) → is_function_block id.kind ≡ true → is_number_beyond_limits (Some id) ≡ false → id.number ≤ 2047
number_within id fb within = by id.kind fb within
  where
    by : (k : BlockKind) → is_function_block k ≡ true → not (is_block_number k id.number) ≡ false → id.number ≤ 2047
    by kinds.Ob h k = absurd cc
    by kinds.Fc h k = absurd cc
    by kinds.Fb h k = grind (arith, nat_tests)
    by kinds.Db h k = absurd cc
    by kinds.Udt h k = absurd cc
    by kinds.Sfc h k = absurd cc

function_number : (id : Option BlockId) → is_number_beyond_limits id ≡ false → number_of_instance (function_block_number id) ≤ 2048
function_number None within = omega arith
function_number (Some id) within = by (is_function_block id.kind) refl
  where
    by : (t : Bool) → is_function_block id.kind ≡ t → number_of_instance (if t then Some id.number else None) ≤ 2048
    by true e = let most = number_within id e within in omega (arith, most)
    by false e = omega arith

instance_within : (layouts : List BlockLayout) (s : Shape) → AllByRecursion HasNumberInLimits layouts → number_of_instance (instance_in layouts s) ≤ 2048
instance_within layouts shape.Own h = omega arith
instance_within layouts shape.Unknown h = omega arith
instance_within layouts (shape.Of block) h = by (slice_get layouts block) (holds_at HasNumberInLimits layouts block h)
  where
    by : (o : Option BlockLayout) → IfSome o HasNumberInLimits → number_of_instance (option_and_then (λ l. function_block_number l.id) o) ≤ 2048
    by None k = omega arith
    by (Some l) k = function_number l.id k

-- ---- a data block

pub record IsDataRecord (d : DataBlock) : Type 0 where
  low : 1 ≤ d.number
  high : d.number ≤ 2047
  instance : number_of_instance d.instance_of ≤ 2048
  short : length d.bytes ≤ 16384
  bytes : bytes_fit d.bytes ≡ true

data_number_within : (id : BlockId) → is_data_block id.kind ≡ true → is_number_beyond_limits (Some id) ≡ false → (1 ≤ id.number) × (id.number ≤ 2047)
data_number_within id db within = by id.kind db within
  where
    by : (k : BlockKind) → is_data_block k ≡ true → not (is_block_number k id.number) ≡ false → (1 ≤ id.number) × (id.number ≤ 2047)
    by kinds.Ob h k = absurd cc
    by kinds.Fc h k = absurd cc
    by kinds.Fb h k = absurd cc
    by kinds.Db h k = (grind (arith, nat_tests), grind (arith, nat_tests))
    by kinds.Udt h k = absurd cc
    by kinds.Sfc h k = absurd cc

-- the length of the layout of a block
pub length_there : (symbols : List Symbol) (t : Tree) (k : ℕ) (b : Block) (l : BlockLayout) → IsSoundBlock symbols t k b l
    → l.length ≡ length_of_block (types_of_source symbols t.blocks) t.blocks b
unfolding block_layout
length_there symbols t k b l h = ap (λ (x : BlockLayout). x.length) h.layout

pub id_there : (symbols : List Symbol) (t : Tree) (k : ℕ) (b : Block) (l : BlockLayout) → IsSoundBlock symbols t k b l
    → l.id ≡ id_of (types_of_source symbols t.blocks).symbols b
unfolding block_layout
id_there symbols t k b l h = ap (λ (x : BlockLayout). x.id) h.layout

bytes_there : (symbols : List Symbol) (t : Tree) (k : ℕ) (b : Block) (l : BlockLayout) (id : BlockId) → IsSoundBlock symbols t k b l
    → length (generated_data_block (context_at symbols t k) l id).bytes ≡ l.length
bytes_there symbols t k b l id h =
    initial_length (layouts_of t symbols) t.blocks k ∙ ap length_at h.layout_there

data_right : (symbols : List Symbol) (t : Tree) → AllByRecursion HasNumberInLimits (layouts_of t symbols)
    → (k : ℕ) (b : Block) (l : BlockLayout) (id : BlockId) → IsSoundBlock symbols t k b l → l.id ≡ Some id → is_data_block id.kind ≡ true
    → IsDataRecord (generated_data_block (context_at symbols t k) l id)
data_right symbols t numbered k b l id h named db =
    let within : is_number_beyond_limits (Some id) ≡ false = ap is_number_beyond_limits (sym named ∙ id_there symbols t k b l h) ∙ h.head.by_44 in
    let number = data_number_within id db within in
    let len = bytes_there symbols t k b l id h in
    let same = length_there symbols t k b l h in
    let short : length_of_block (types_of_source symbols t.blocks) t.blocks b ≤ 16384 = ltb-false 16384 (length_of_block (types_of_source symbols t.blocks) t.blocks b) h.head.by_51 in
    record {
      low = number.0;
      high = number.1;
      instance = instance_within (layouts_of t symbols) l.shape numbered;
      short = omega (arith, len, same, short);
      bytes = fit_bytes (initial_bytes (layouts_of t symbols) t.blocks k) (initial_are (layouts_of t symbols) t.blocks k);
    }

laid_numbered : (symbols : List Symbol) (t : Tree) (k : ℕ) (bs : List Block) (ls : List BlockLayout) → length ls ≡ length bs
    → AllLaid (IsSoundBlock symbols t) k bs ls → AllByRecursion HasNumberInLimits ls
laid_numbered symbols t k [] [] e laid = tt
laid_numbered symbols t k [] (l ∷ ls) e laid = absurd (omega (arith, e))
laid_numbered symbols t k (b ∷ bs) [] e laid = tt
laid_numbered symbols t k (b ∷ bs) (l ∷ ls) e laid =
    (ap is_number_beyond_limits (id_there symbols t k b l laid.0) ∙ laid.0.head.by_44, laid_numbered symbols t (suc k) bs ls (omega (arith, e)) laid.1)

layouts_long : (y : Types) (blocks before bs : List Block) → length (layouts_from y blocks before bs) ≡ length bs
layouts_long y blocks before [] = refl
layouts_long y blocks before (b ∷ bs) = ap suc (layouts_long y blocks (b ∷ before) bs)

tree_numbered : (symbols : List Symbol) (t : Tree) → IsSoundTree symbols t → AllByRecursion HasNumberInLimits (layouts_of t symbols)
unfolding layouts_of layouts_by
tree_numbered symbols t h =
    laid_numbered symbols t 0 t.blocks (layouts_of t symbols) (layouts_long (types_of_source symbols t.blocks) t.blocks [] t.blocks) h.blocks

pub datas_right : (symbols : List Symbol) (t : Tree) → IsSoundTree symbols t → AllByRecursion IsDataRecord (data_blocks_of t symbols (layouts_of t symbols))
datas_right symbols t h = sound_data_blocks symbols t IsDataRecord h (data_right symbols t (tree_numbered symbols t h))

-- ---- all of them together

data_size : DataBlock → ℕ
data_size d = length d.bytes

kind_of_data : (symbols : List Symbol) (b : Block) (id : BlockId) → id_of symbols b ≡ Some id → is_data_block id.kind ≡ true → is_data_block b.kind ≡ true
kind_of_data symbols b id e db = ap is_data_block (kind_there symbols b id e) ∙ db

one_size : (symbols : List Symbol) (t : Tree) (k : ℕ) (b : Block) (l : BlockLayout) (found : Option BlockId) → IsSoundBlock symbols t k b l → l.id ≡ found
    → sum_by data_size (data_block_of (context_at symbols t k) l found) ≤ data_length (types_of_source symbols t.blocks) t.blocks b
unfolding data_size
one_size symbols t k b l None h named = omega arith
one_size symbols t k b l (Some id) h named = by (is_data_block id.kind) refl
  where
    y : Types
    y = types_of_source symbols t.blocks

    by : (s : Bool) → is_data_block id.kind ≡ s
        → sum_by data_size (if s then generated_data_block (context_at symbols t k) l id ∷ [] else []) ≤ data_length y t.blocks b
    by true is =
        let db : is_data_block b.kind ≡ true = kind_of_data y.symbols b id (sym (id_there symbols t k b l h) ∙ named) is in
        let whole : data_length y t.blocks b ≡ length_of_block y t.blocks b = ap (λ (s : Bool). if s then length_of_block y t.blocks b else 0) db in
        let len = bytes_there symbols t k b l id h in
        let same = length_there symbols t k b l h in
        let all = sum_by-cons data_size (generated_data_block (context_at symbols t k) l id) [] in
        omega (arith, whole, len, same, all)
    by false is = omega arith

each_size : (symbols : List Symbol) (t : Tree) (k : ℕ) (bs : List Block) (ls : List BlockLayout) → AllLaid (IsSoundBlock symbols t) k bs ls
    → sum_by data_size (each_block (λ c b l. data_block_of c l l.id) (context_at symbols t k) bs ls) ≤ sum_by (data_length (types_of_source symbols t.blocks) t.blocks) bs
each_size symbols t k [] ls h = omega arith
each_size symbols t k (b ∷ bs) [] h = omega arith
each_size symbols t k (b ∷ bs) (l ∷ ls) h =
    let one = one_size symbols t k b l l.id h.0 refl in
    let more = each_size symbols t (suc k) bs ls h.1 in
    let both = sum_by-append data_size (data_block_of (context_at symbols t k) l l.id)
    (each_block (λ c b l. data_block_of c l l.id) (context_at symbols t (suc k)) bs ls) in
    let all = sum_by-cons (data_length (types_of_source symbols t.blocks) t.blocks) b bs in
    omega (arith, one, more, both, all)

total_within : (y : Types) (blocks before bs : List Block) → AllHeads (λ before b. exceeds_total y blocks before b ≡ false) before bs
    → total_data_length y blocks before ≤ 2097152 → total_data_length y blocks before + sum_by (data_length y blocks) bs ≤ 2097152
total_within y blocks before [] h within = omega (arith, within)
total_within y blocks before (b ∷ bs) h within =
    let next = sum_by-cons (data_length y blocks) b before in
    let all = sum_by-cons (data_length y blocks) b bs in
    let more = total_within y blocks (b ∷ before) bs h.1 (omega (arith, next, here)) in
    omega (arith, next, all, more)
  where
    here : total_data_length y blocks before + data_length y blocks b ≤ 2097152
    here = by (is_data_block b.kind) refl h.0
      where
        by : (s : Bool) → is_data_block b.kind ≡ s → (s && ltb 2097152 (total_data_length y blocks before + data_length y blocks b)) ≡ false
            → total_data_length y blocks before + data_length y blocks b ≤ 2097152
        by true is k = ltb-false 2097152 (total_data_length y blocks before + data_length y blocks b) k
        by false is k =
            let none : data_length y blocks b ≡ 0 = ap (λ (s : Bool). if s then length_of_block y blocks b else 0) is in
            omega (arith, none, within)

total_right : (symbols : List Symbol) (t : Tree) → IsSoundTree symbols t → sum_by data_size (data_blocks_of t symbols (layouts_of t symbols)) ≤ 2097152
unfolding data_blocks_of rule_54
total_right symbols t h =
    let y : Types = types_of_source symbols t.blocks in
    let each = each_block (λ c b l. data_block_of c l l.id) (context_at symbols t 0) t.blocks (layouts_of t symbols) in
    let same = sum_sorted data_size is_data_before each in
    let less = each_size symbols t 0 t.blocks (layouts_of t symbols) h.blocks in
    let most = total_within y t.blocks [] t.blocks (heads_none (exceeds_total y t.blocks) 54 [] t.blocks h.by_layout.by_54) (omega arith) in
    omega (arith, same, less, most)

-- ---- their records

number_good : (before n : ℕ) → 1 ≤ n → n ≤ 2047 → before < n → (data_number_layout before).good n ≡ true
unfolding data_number_layout field_fault
number_good before n low high rises = grind (arith, nat_tests)

instance_good : (n : ℕ) → n ≤ 2048 → instance_field.good n ≡ true
unfolding instance_field field_fault
instance_good n most = grind (arith, nat_tests)

len_good : (before n : ℕ) → n ≤ 16384 → before + n ≤ 2097152 → (data_length_layout before).good n ≡ true
unfolding data_length_layout field_fault
len_good before n short most = grind (arith, nat_tests)

data_good : (before : ℕ × ℕ) (d : DataBlock) → IsDataRecord d → before.0 < d.number → before.1 + length d.bytes ≤ 2097152 → (data_layout before).good d ≡ true
unfolding data_layout data_rows
data_good before d h rises most =
    and_from _ _ (number_good before.0 d.number h.low h.high rises)
    (and_from _ _ (instance_good (number_of_instance d.instance_of) h.instance)
    (and_from _ _ (len_good before.1 (length d.bytes) h.short most)
    (and_from _ _ zero_word_good (contents_good d.bytes h.bytes))))

good_from : (before : ℕ × ℕ) (d : DataBlock) (ds : List DataBlock) → before.0 ≡ d.number → RiseFrom is_data_before d ds → AllByRecursion IsDataRecord ds
    → before.1 + sum_by data_size ds ≤ 2097152 → good_datas before ds ≡ true
unfolding data_size
good_from before d [] same rise h most = refl
good_from before d (e ∷ ds) same rise h most =
    let all = sum_by-cons data_size e ds in
    let less : d.number < e.number = ltb-true d.number e.number rise.0 in
    and_from _ _ (data_good before e h.0 (omega (arith, same, less)) (omega (arith, most, all)))
    (good_from (after_data before e) e ds refl rise.1 h.1 (omega (arith, most, all)))

good_all_datas : (ds : List DataBlock) → Rise is_data_before ds → AllByRecursion IsDataRecord ds → sum_by data_size ds ≤ 2097152 → good_datas (0, 0) ds ≡ true
unfolding data_size
good_all_datas [] rise h most = refl
good_all_datas (d ∷ ds) rise h most =
    let all = sum_by-cons data_size d ds in
    and_from _ _ (data_good (0, 0) d h.0 (omega (arith, h.0.low)) (omega (arith, most, all)))
    (good_from (after_data (0, 0) d) d ds refl rise h.1 (omega (arith, most, all)))

pub data_blocks_right : (symbols : List Symbol) (t : Tree) → IsSoundTree symbols t → Rise is_data_before (data_blocks_of t symbols (layouts_of t symbols))
    → good_datas (0, 0) (data_blocks_of t symbols (layouts_of t symbols)) ≡ true
data_blocks_right symbols t h rise =
    good_all_datas (data_blocks_of t symbols (layouts_of t symbols)) rise (datas_right symbols t h) (total_right symbols t h)
