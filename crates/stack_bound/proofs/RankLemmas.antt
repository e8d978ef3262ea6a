-- What the layers say of a block: how much chains of so many blocks from it on have at most.
use Rattle.std.proofs.Common.{◌≡◌, ◌⊎◌, inl, inr, ℕ, zero, suc, ◌+◌, ◌<◌, ◌≤◌, Bool, true, false, List, [], ◌∷◌, ◌++◌, map, Option, Some, None, refl, sym, ap, ◌∙◌, subst, arith, if◌then◌else◌}
use Rattle.std.specs.Prelude.{max}
use Rattle.std.specs.Option.{option_map}
use Rattle.plc_base.specs.declared.blocks.BlockId.{BlockId}
use Rattle.flat_code.specs.Ops.{OpData}
use Rattle.flat_code.specs.Programs.{CodeBlock, Program}
use Rattle.image_file.specs.Readers.{block_by_id, data_block_id, block_ids, is_same_id}
use Rattle.stack_bound.specs.Calls.{CallsIn, callee_of_op}
use Rattle.stack_bound.specs.Certificates.{bound_of}
use Rattle.stack_bound.specs.Layers.{measure_of_block, measure_of_bound, measure_if_bound, measure_in_layer, most_called, bound_above, with_bound, bounds_above, layer_above, layer_of_height}
use Rattle.stack_bound.specs.declared.certificates.Bound.{Bound}
use Rattle.stack_bound.specs.declared.measures.Measure.{Measure}
use Rattle.stack_bound.specs.declared.measures.Measure.TheVariants.{Depth, Bytes}
use Rattle.stack_bound.proofs.BlockLemmas.{same_is, same_self}

-- a block stands among others
abbrev pub IsOneOfBlocks : BlockId → List BlockId → Type 0
IsOneOfBlocks block [] = ⊥
IsOneOfBlocks block (id ∷ ids) = (id ≡ block) ⊎ IsOneOfBlocks block ids

in_front : (block : BlockId) (ids more : List BlockId) → IsOneOfBlocks block ids → IsOneOfBlocks block (ids ++ more)
in_front block [] more is = absurd is
in_front block (id ∷ ids) more (inl here) = inl here
in_front block (id ∷ ids) more (inr later) = inr (in_front block ids more later)

code_in : (block : BlockId) (blocks : List CodeBlock) (b : CodeBlock) → block_by_id block blocks ≡ Some b
    → IsOneOfBlocks block (map (λ (x : CodeBlock). x.id) blocks)
code_in block [] b is = absurd cc
code_in block (one ∷ blocks) b is = by (λ later. code_in block blocks b later) (is_same_id one.id block) refl is
  where
    by : (block_by_id block blocks ≡ Some b → IsOneOfBlocks block (map (λ (x : CodeBlock). x.id) blocks))
        → (test : Bool) → is_same_id one.id block ≡ test
        → (if test then Some one else block_by_id block blocks) ≡ Some b
        → (one.id ≡ block) ⊎ IsOneOfBlocks block (map (λ (x : CodeBlock). x.id) blocks)
    by next true same here = inl (same_is one.id block same)
    by next false same later = inr (next later)

-- a code block is one of the blocks of the program
pub loaded_in : (p : Program) (block : BlockId) (b : CodeBlock) → block_by_id block p.code_blocks ≡ Some b
    → IsOneOfBlocks block (block_ids p)
loaded_in p block b is =
    in_front block (map (λ (x : CodeBlock). x.id) p.code_blocks) (map data_block_id p.data_blocks)
    (code_in block p.code_blocks b is)

-- ---- what a layer has

abbrev bound_for : Program → List Bound → BlockId → Option Bound
bound_for p layer block = option_map (bound_above layer block) (block_by_id block p.code_blocks)

-- of each block that is among them the bounds above a layer have the bound of that block
bounds_have : (p : Program) (layer : List Bound) (ids : List BlockId) (block : BlockId) (b : CodeBlock)
    → block_by_id block p.code_blocks ≡ Some b → IsOneOfBlocks block ids
    → bound_of block (bounds_above p layer ids) ≡ Some (bound_above layer block b)
bounds_have p layer [] block b is there = absurd there
bounds_have p layer (id ∷ ids) block b is there =
    by (is_same_id id block) refl there (λ later. bounds_have p layer ids block b is later)
  where
    rest : List Bound
    rest = bounds_above p layer ids

    first : id ≡ block → bound_of block (with_bound (bound_for p layer id) rest) ≡ Some (bound_above layer block b)
    first same =
        subst (λ (x : BlockId). bound_of block (with_bound (bound_for p layer x) rest) ≡ Some (bound_above layer block b))
        (sym same) (rw is (rw (same_self block) refl))

    skip : (found : Option CodeBlock) → is_same_id id block ≡ false
        → bound_of block (with_bound (option_map (bound_above layer id) found) rest) ≡ bound_of block rest
    skip None apart = refl
    skip (Some x) apart = rw apart refl

    not_here : (test : Bool) → is_same_id id block ≡ test → test ≡ false → (id ≡ block) ⊎ IsOneOfBlocks block ids → IsOneOfBlocks block ids
    not_here test is_test fails (inl here) =
        absurd (wrong (subst (λ (x : BlockId). is_same_id x block ≡ true) (sym here) (same_self block)))
      where
        wrong : is_same_id id block ≡ true → ⊥
        wrong passes = cc
    not_here test is_test fails (inr later) = later

    by : (test : Bool) → is_same_id id block ≡ test → (id ≡ block) ⊎ IsOneOfBlocks block ids
        → (IsOneOfBlocks block ids → bound_of block rest ≡ Some (bound_above layer block b))
        → bound_of block (with_bound (bound_for p layer id) rest) ≡ Some (bound_above layer block b)
    by true same among next = first (same_is id block same)
    by false apart among next =
        skip (block_by_id id p.code_blocks) apart ∙ next (not_here false apart refl among)

-- the bounds above a layer have none of a block that isn't loaded
bounds_lack : (p : Program) (layer : List Bound) (ids : List BlockId) (block : BlockId)
    → block_by_id block p.code_blocks ≡ None → bound_of block (bounds_above p layer ids) ≡ None
bounds_lack p layer [] block is = refl
bounds_lack p layer (id ∷ ids) block is =
    by (block_by_id id p.code_blocks) refl ∙ bounds_lack p layer ids block is
  where
    apart : (x : CodeBlock) → block_by_id id p.code_blocks ≡ Some x → (test : Bool) → is_same_id id block ≡ test
        → test ≡ false
    apart x there false same = refl
    apart x there true same =
        absurd (wrong (subst (λ (y : BlockId). block_by_id y p.code_blocks ≡ Some x) (same_is id block same) there))
      where
        wrong : block_by_id block p.code_blocks ≡ Some x → ⊥
        wrong passes = cc

    by : (found : Option CodeBlock) → block_by_id id p.code_blocks ≡ found
        → bound_of block (with_bound (option_map (bound_above layer id) found) (bounds_above p layer ids))
        ≡ bound_of block (bounds_above p layer ids)
    by None there = refl
    by (Some x) there = rw (apart x there (is_same_id id block) refl) refl

pub layer_has : (p : Program) (layer : List Bound) (block : BlockId) (b : CodeBlock)
    → block_by_id block p.code_blocks ≡ Some b
    → bound_of block (layer_above p layer) ≡ Some (bound_above layer block b)
layer_has p layer block b is = bounds_have p layer (block_ids p) block b is (loaded_in p block b is)

pub layer_lacks : (p : Program) (layer : List Bound) (block : BlockId)
    → block_by_id block p.code_blocks ≡ None → bound_of block (layer_above p layer) ≡ None
layer_lacks p layer block is = bounds_lack p layer (block_ids p) block is

number_above : (m : Measure) (layer : List Bound) (block : BlockId) (b : CodeBlock)
    → measure_of_bound m (bound_above layer block b) ≡ measure_of_block m b + most_called m layer b.code
number_above Depth layer block b = refl
number_above Bytes layer block b = refl

-- what a layer above another one says of a loaded block
pub above : (m : Measure) (p : Program) (layer : List Bound) (block : BlockId) (b : CodeBlock)
    → block_by_id block p.code_blocks ≡ Some b
    → measure_in_layer m (layer_above p layer) (Some block) ≡ measure_of_block m b + most_called m layer b.code
above m p layer block b is =
    ap (λ (o : Option Bound). measure_if_bound m o) (layer_has p layer block b is) ∙ number_above m layer block b

pub above_none : (m : Measure) (p : Program) (layer : List Bound) (block : BlockId)
    → block_by_id block p.code_blocks ≡ None → measure_in_layer m (layer_above p layer) (Some block) ≡ 0
above_none m p layer block is =
    ap (λ (o : Option Bound). measure_if_bound m o) (layer_lacks p layer block is)

-- ---- layers rise

-- no number of a layer is above that of another layer
abbrev IsBelow : Measure → List Bound → List Bound → Type 0
IsBelow m low high = (callee : Option BlockId) → measure_in_layer m low callee ≤ measure_in_layer m high callee

max_below : (a b c d : ℕ) → a ≤ c → b ≤ d → max a b ≤ max c d
max_below a b c d one other = omega (arith, one, other)

most_below : (m : Measure) (low high : List Bound) (ops : List OpData) → IsBelow m low high
    → most_called m low ops ≤ most_called m high ops
most_below m low high [] below = omega arith
most_below m low high (op ∷ ops) below =
    max_below (measure_in_layer m low (callee_of_op op)) (most_called m low ops) (measure_in_layer m high (callee_of_op op))
    (most_called m high ops) (below (callee_of_op op)) (most_below m low high ops below)

sum_below : (w a b x y : ℕ) → x ≡ w + a → y ≡ w + b → a ≤ b → x ≤ y
sum_below w a b x y one other below = omega (arith, one, other, below)

none_below : (x y : ℕ) → x ≡ 0 → x ≤ y
none_below x y is = omega (arith, is)

above_below : (m : Measure) (p : Program) (low high : List Bound) → IsBelow m low high
    → IsBelow m (layer_above p low) (layer_above p high)
above_below m p low high below None = omega arith
above_below m p low high below (Some block) = by (block_by_id block p.code_blocks) refl
  where
    by : (found : Option CodeBlock) → block_by_id block p.code_blocks ≡ found
        → measure_in_layer m (layer_above p low) (Some block) ≤ measure_in_layer m (layer_above p high) (Some block)
    by None is =
        none_below (measure_in_layer m (layer_above p low) (Some block))
        (measure_in_layer m (layer_above p high) (Some block)) (above_none m p low block is)
    by (Some b) is =
        sum_below (measure_of_block m b) (most_called m low b.code) (most_called m high b.code)
        (measure_in_layer m (layer_above p low) (Some block)) (measure_in_layer m (layer_above p high) (Some block))
        (above m p low block b is) (above m p high block b is) (most_below m low high b.code below)

pub layers_rise : (m : Measure) (p : Program) (k : ℕ) → IsBelow m (layer_of_height k p) (layer_of_height (suc k) p)
layers_rise m p zero None = omega arith
layers_rise m p zero (Some block) = omega arith
layers_rise m p (suc k) callee =
    above_below m p (layer_of_height k p) (layer_of_height (suc k) p) (layers_rise m p k) callee

-- a block has at most its own weight and the most of a block that it calls
pub at_most : (m : Measure) (p : Program) (k : ℕ) (block : BlockId) (b : CodeBlock)
    → block_by_id block p.code_blocks ≡ Some b
    → measure_in_layer m (layer_of_height (suc k) p) (Some block) ≤ measure_of_block m b + most_called m (layer_of_height (suc k) p) b.code
at_most m p k block b is =
    sum_below (measure_of_block m b) (most_called m (layer_of_height k p) b.code) (most_called m (layer_of_height (suc k) p) b.code)
    (measure_in_layer m (layer_of_height (suc k) p) (Some block)) (measure_of_block m b + most_called m (layer_of_height (suc k) p) b.code)
    (above m p (layer_of_height k p) block b is) refl
    (most_below m (layer_of_height k p) (layer_of_height (suc k) p) b.code (layers_rise m p k))

-- ---- chains that end

-- two layers say the same of what ops call
abbrev SayTheSame : Measure → List Bound → List Bound → List OpData → Type 0
SayTheSame m low high [] = Unit {0}
SayTheSame m low high (op ∷ ops) =
    (measure_in_layer m high (callee_of_op op) ≡ measure_in_layer m low (callee_of_op op)) × SayTheSame m low high ops

same_most : (m : Measure) (low high : List Bound) (ops : List OpData) → SayTheSame m low high ops
    → most_called m high ops ≡ most_called m low ops
same_most m low high [] same = refl
same_most m low high (op ∷ ops) same =
    ap (λ (n : ℕ). max n (most_called m high ops)) same.0
    ∙ ap (λ (n : ℕ). max (measure_in_layer m low (callee_of_op op)) n) (same_most m low high ops same.1)

-- in the layer of a number a block from which no longer chain goes out stays as it is
abbrev LayerStays : Program → ℕ → Type 0
LayerStays p k =
    (m : Measure) (callee : Option BlockId) → measure_in_layer Depth (layer_of_height k p) callee < k
    → measure_in_layer m (layer_of_height (suc k) p) callee ≡ measure_in_layer m (layer_of_height k p) callee

first_less : (a b k : ℕ) → max a b < k → a < k
first_less a b k less = omega (arith, less)

rest_less : (a b k : ℕ) → max a b < k → b < k
rest_less a b k less = omega (arith, less)

all_stay : (p : Program) (k : ℕ) (m : Measure) (ops : List OpData) → LayerStays p k
    → most_called Depth (layer_of_height k p) ops < k → SayTheSame m (layer_of_height k p) (layer_of_height (suc k) p) ops
all_stay p k m [] stays less = tt
all_stay p k m (op ∷ ops) stays less = (
  stays m (callee_of_op op)
      (first_less (measure_in_layer Depth (layer_of_height k p) (callee_of_op op)) (most_called Depth (layer_of_height k p) ops) k less),
  all_stay p k m ops stays
      (rest_less (measure_in_layer Depth (layer_of_height k p) (callee_of_op op)) (most_called Depth (layer_of_height k p) ops) k less),
)

one_less : (x a k : ℕ) → x ≡ 1 + a → x < suc k → a < k
one_less x a k is less = omega (arith, is, less)

pub stays : (p : Program) (k : ℕ) → LayerStays p k
stays p zero m callee less = absurd (omega (arith, less))
stays p (suc k) m None less = refl
stays p (suc k) m (Some block) less = by (block_by_id block p.code_blocks) refl (stays p k)
  where
    by : (found : Option CodeBlock) → block_by_id block p.code_blocks ≡ found → LayerStays p k
        → measure_in_layer m (layer_of_height (suc (suc k)) p) (Some block) ≡ measure_in_layer m (layer_of_height (suc k) p) (Some block)
    by None is before =
        above_none m p (layer_of_height (suc k) p) block is ∙ sym (above_none m p (layer_of_height k p) block is)
    by (Some b) is before =
        above m p (layer_of_height (suc k) p) block b is
        ∙ ap (λ (n : ℕ). measure_of_block m b + n)
        (same_most m (layer_of_height k p) (layer_of_height (suc k) p) b.code
        (all_stay p k m b.code before
        (one_less (measure_in_layer Depth (layer_of_height (suc k) p) (Some block)) (most_called Depth (layer_of_height k p) b.code) k
        (above Depth p (layer_of_height k p) block b is) less)))
        ∙ sym (above m p (layer_of_height k p) block b is)

-- so a layer counts each block as itself and what it calls, where its depth is below the layer's number
pub layer_counts_block : (m : Measure) (p : Program) (k : ℕ) (block : BlockId) (b : CodeBlock)
    → block_by_id block p.code_blocks ≡ Some b → measure_in_layer Depth (layer_of_height k p) (Some block) < k
    → measure_in_layer m (layer_of_height k p) (Some block) ≡ measure_of_block m b + most_called m (layer_of_height k p) b.code
layer_counts_block m p k block b is less =
    sym (stays p k m (Some block) less) ∙ above m p (layer_of_height k p) block b is

-- ---- what is called

max_has : (a b : ℕ) → a ≤ max a b
max_has a b = omega arith

max_more : (x a b : ℕ) → x ≤ b → x ≤ max a b
max_more x a b less = omega (arith, less)

-- a called block has at most the most
pub called_most : (m : Measure) (layer : List Bound) (ops : List OpData) (called : BlockId)
    → CallsIn ops called → measure_in_layer m layer (Some called) ≤ most_called m layer ops
called_most m layer [] called calls = absurd calls
called_most m layer (op ∷ ops) called (inl here) =
    subst (λ (o : Option BlockId). measure_in_layer m layer o ≤ max (measure_in_layer m layer (callee_of_op op)) (most_called m layer ops))
    here (max_has (measure_in_layer m layer (callee_of_op op)) (most_called m layer ops))
called_most m layer (op ∷ ops) called (inr later) =
    max_more (measure_in_layer m layer (Some called)) (measure_in_layer m layer (callee_of_op op)) (most_called m layer ops)
    (called_most m layer ops called later)

max_within : (w a b n : ℕ) → w + a ≤ n → w + b ≤ n → w + max a b ≤ n
max_within w a b n one other = omega (arith, one, other)

no_more : (w n : ℕ) → w ≤ n → w + 0 ≤ n
no_more w n is = omega (arith, is)

-- and the most is within a number where each called block is
pub most_within : (m : Measure) (layer : List Bound) (ops : List OpData) (w n : ℕ) → w ≤ n
    → ((called : BlockId) → CallsIn ops called → w + measure_in_layer m layer (Some called) ≤ n)
    → w + most_called m layer ops ≤ n
most_within m layer [] w n own each = no_more w n own
most_within m layer (op ∷ ops) w n own each =
    max_within w (measure_in_layer m layer (callee_of_op op)) (most_called m layer ops) n (by (callee_of_op op) refl)
    (most_within m layer ops w n own (λ called calls. each called (inr calls)))
  where
    by : (callee : Option BlockId) → callee_of_op op ≡ callee → w + measure_in_layer m layer callee ≤ n
    by None is = no_more w n own
    by (Some called) is = each called (inl is)
