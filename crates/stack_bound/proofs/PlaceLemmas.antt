-- Layers and marks by places are those by blocks.
use Rattle.std.proofs.Common.{◌≡◌, ℕ, zero, suc, ◌+◌, ◌<◌, ◌≤◌, Bool, true, false, List, [], ◌∷◌, ◌++◌, length, map, append_assoc, Option, Some, None, refl, sym, ap, ◌∙◌, subst, arith, if◌then◌else◌, slice_set}
use Rattle.std.specs.Prelude.{is_some, max, slice_get}
use Rattle.std.specs.List.{position_from}
use Rattle.std.specs.Option.{option_map}
use Rattle.plc_base.specs.declared.blocks.BlockId.{BlockId}
use Rattle.flat_code.specs.Ops.{OpData}
use Rattle.flat_code.specs.PlacedOps.{op_placed}
use Rattle.flat_code.specs.Programs.{CodeBlock, Program}
use Rattle.image_file.specs.Readers.{block_by_id, block_ids, is_same_id}
use Rattle.stack_bound.specs.Calls.{callee_of_op}
use Rattle.stack_bound.specs.Certificates.{bound_of}
use Rattle.stack_bound.specs.Layers.{AreBoundsAtMost, bound_above, bound_above_in, bounds_above, layer_of_height, most_called, measure_of_bound, measure_if_bound, measure_in_layer, with_bound}
use Rattle.stack_bound.specs.Marks.{with_block_marked, with_callees_marked, mark_called, mark_called_by, mark_callee, mark_ops, marks_of_round, ob_marks}
use Rattle.stack_bound.specs.Order.{IsHalved, bound_at, are_blocks_rising}
use Rattle.stack_bound.specs.Places.{CallerData, bound_alone, bound_by, bounds_alone, caller_in, caller_of, callers_of, layers_by, mark_callers, mark_if, mark_places, marks_by, most_at, measure_at_place, place_of_callee, place_of_bound, places_called, with_caller, with_place}
use Rattle.stack_bound.specs.Walking.{ops_after_offset}
use Rattle.stack_bound.specs.declared.certificates.Bound.{Bound}
use Rattle.stack_bound.specs.declared.measures.Measure.{Measure}
use Rattle.stack_bound.specs.declared.measures.Measure.TheVariants.{Depth, Bytes}
use Rattle.stack_bound.proofs.OrderLemmas.{IsBeforeAll, before_all, key, later_point, not_after, not_same, one_way, rises, rest_rises}
use Rattle.stack_bound.proofs.WalkLemmas.{walk_ends, walk_goes_on}

-- ---- a place is found by halving

no_place_behind : (a : BlockId) (rest : List Bound) → IsBeforeAll a rest → place_of_bound a rest ≡ None
no_place_behind a [] all = refl
no_place_behind a (b ∷ rest) all =
    rw (not_after (key b.block) b.block.number (key a) a.number all.0)
    (ap (λ (o : Option ℕ). option_map suc o) (no_place_behind a rest all.1))

-- a place, if a test passes
abbrev some_if : Bool → ℕ → Option ℕ
some_if test place = if test then Some place else None

one_later : (test : Bool) (place : ℕ) → some_if test (suc place) ≡ option_map suc (some_if test place)
one_later true place = refl
one_later false place = refl

found_at : (block : BlockId) (list : List Bound) (place : ℕ) → are_blocks_rising list ≡ true → IsHalved list block place
    → some_if (is_some (bound_at list place block)) place ≡ place_of_bound block list
found_at block [] zero is point = refl
found_at block [] (suc place) is point = refl
found_at block (b ∷ rest) zero is point = by (is_same_id b.block block) refl
  where
    by : (test : Bool) → is_same_id b.block block ≡ test
        → some_if (is_some (if test then Some b else None)) zero
        ≡ (if test then Some 0 else option_map suc (place_of_bound block rest))
    by true same = refl
    by false apart =
        sym (ap (λ (o : Option ℕ). option_map suc o)
        (no_place_behind block rest
        (before_all block b rest
        (one_way (key b.block) b.block.number (key block) block.number
        (point.1 zero b (omega arith) (omega arith)) apart) (rises b rest is))))
found_at block (b ∷ rest) (suc place) is point =
    one_later (is_some (bound_at rest place block)) place
    ∙ ap (λ (o : Option ℕ). option_map suc o)
    (found_at block rest place (rest_rises b rest is) (later_point block b rest place point))
    ∙ sym (passed (not_same (key b.block) b.block.number (key block) block.number
    (point.0 zero b (omega arith) (omega arith))))
  where
    passed : is_same_id b.block block ≡ false
        → (if is_same_id b.block block then Some 0 else option_map suc (place_of_bound block rest))
        ≡ option_map suc (place_of_bound block rest)
    passed apart = rw apart refl

-- the place has the block, or the block isn't there
pub found_here : (block : BlockId) (list : List Bound) (place : ℕ) → are_blocks_rising list ≡ true → IsHalved list block place
    → is_some (bound_at list place block) ≡ true → Some place ≡ place_of_bound block list
found_here block list place is point here =
    sym (ap (λ (test : Bool). some_if test place) here) ∙ found_at block list place is point

pub found_nowhere : (block : BlockId) (list : List Bound) (place : ℕ) → are_blocks_rising list ≡ true → IsHalved list block place
    → is_some (bound_at list place block) ≡ false → None ≡ place_of_bound block list
found_nowhere block list place is point none =
    sym (ap (λ (test : Bool). some_if test place) none) ∙ found_at block list place is point

-- ---- and by a walk

plus_zero : (i : ℕ) → i ≡ i + 0
plus_zero i = omega arith

plus_more : (i n : ℕ) → i + 1 + n ≡ i + suc n
plus_more i n = omega arith

place_shifted : (i : ℕ) (o : Option ℕ)
    → option_map (λ n. i + 1 + n) o ≡ option_map (λ n. i + n) (option_map suc o)
place_shifted i None = refl
place_shifted i (Some n) = ap (λ (k : ℕ). Some k) (plus_more i n)

place_from : (block : BlockId) (i : ℕ) (list : List Bound)
    → position_from (λ (b : Bound). is_same_id b.block block) i list
    ≡ option_map (λ n. i + n) (place_of_bound block list)
place_from block i [] = refl
place_from block i (b ∷ rest) = by (is_same_id b.block block) (place_from block (i + 1) rest)
  where
    by : (test : Bool)
        → position_from (λ (d : Bound). is_same_id d.block block) (i + 1) rest
        ≡ option_map (λ n. i + 1 + n) (place_of_bound block rest)
        → (if test then Some i else position_from (λ (d : Bound). is_same_id d.block block) (i + 1) rest)
        ≡ option_map (λ n. i + n) (if test then Some 0 else option_map suc (place_of_bound block rest))
    by true later = ap (λ (k : ℕ). Some k) (plus_zero i)
    by false later = later ∙ place_shifted i (place_of_bound block rest)

from_zero : (o : Option ℕ) → option_map (λ n. 0 + n) o ≡ o
from_zero None = refl
from_zero (Some n) = ap (λ (k : ℕ). Some k) (zero_plus n)
  where
    zero_plus : (k : ℕ) → 0 + k ≡ k
    zero_plus k = omega arith

walked_from : (block : BlockId) (list : List Bound)
    → position_from (λ (b : Bound). is_same_id b.block block) 0 list ≡ place_of_bound block list
walked_from block list = place_from block 0 list ∙ from_zero (place_of_bound block list)

pub walk_finds_place : (block : BlockId) (list : List Bound) (place : Option ℕ)
    → place ≡ position_from (λ (b : Bound). is_same_id b.block block) 0 list → place ≡ place_of_bound block list
walk_finds_place block list place is = is ∙ walked_from block list

-- ---- lists of the same blocks

abbrev pub SameBlocks : List Bound → List Bound → Type 0
SameBlocks [] [] = Unit {0}
SameBlocks (a ∷ xs) (b ∷ ys) = (a.block ≡ b.block) × SameBlocks xs ys
SameBlocks _ _ = ⊥

place_same : (x : BlockId) (xs ys : List Bound) → SameBlocks xs ys → place_of_bound x xs ≡ place_of_bound x ys
place_same x [] [] same = refl
place_same x [] (b ∷ ys) same = absurd same
place_same x (a ∷ xs) [] same = absurd same
place_same x (a ∷ xs) (b ∷ ys) same =
    ap (λ (o : Option ℕ). if is_same_id a.block x then Some 0 else option_map suc o) (place_same x xs ys same.1)
    ∙ ap (λ (y : BlockId). if is_same_id y x then Some 0 else option_map suc (place_of_bound x ys)) same.0

called_same : (callee : Option BlockId) (xs ys : List Bound) → SameBlocks xs ys → place_of_callee xs callee ≡ place_of_callee ys callee
called_same None xs ys same = refl
called_same (Some x) xs ys same = place_same x xs ys same

places_same : (ops : List OpData) (xs ys : List Bound) → SameBlocks xs ys
    → places_called xs ops ≡ places_called ys ops
places_same [] xs ys same = refl
places_same (op ∷ ops) xs ys same =
    ap (λ (o : Option ℕ). with_place o (places_called xs ops)) (called_same (callee_of_op op) xs ys same)
    ∙ ap (λ (rest : List ℕ). with_place (place_of_callee ys (callee_of_op op)) rest) (places_same ops xs ys same)

caller_same : (id : BlockId) (found : Option CodeBlock) (xs ys : List Bound) → SameBlocks xs ys
    → option_map (caller_of xs id) found ≡ option_map (caller_of ys id) found
caller_same id None xs ys same = refl
caller_same id (Some b) xs ys same =
    ap (λ (places : List ℕ). Some (record { block = id; local_len = b.local_len; called = places }))
    (places_same b.code xs ys same)

callers_same : (p : Program) (ids : List BlockId) (xs ys : List Bound) → SameBlocks xs ys
    → callers_of p xs ids ≡ callers_of p ys ids
callers_same p [] xs ys same = refl
callers_same p (id ∷ ids) xs ys same =
    ap (λ (o : Option CallerData). with_caller o (callers_of p xs ids))
    (caller_same id (block_by_id id p.code_blocks) xs ys same)
    ∙ ap (λ (rest : List CallerData). with_caller (caller_in p ys id) rest) (callers_same p ids xs ys same)

-- whatever layer is below
pub same_above : (p : Program) (below other : List Bound) (ids : List BlockId)
    → SameBlocks (bounds_above p below ids) (bounds_above p other ids)
same_above p below other [] = tt
same_above p below other (id ∷ ids) =
    by (block_by_id id p.code_blocks) (same_above p below other ids)
  where
    by : (found : Option CodeBlock)
        → SameBlocks (bounds_above p below ids) (bounds_above p other ids)
        → SameBlocks (with_bound (option_map (bound_above below id) found) (bounds_above p below ids))
        (with_bound (option_map (bound_above other id) found) (bounds_above p other ids))
    by None rest = rest
    by (Some b) rest = (refl, rest)

-- ---- what a layer says of a block, and in its place

abbrev number_placed : Measure → List Bound → Option ℕ → ℕ
number_placed m layer None = 0
number_placed m layer (Some place) = measure_at_place m layer place

placed_later : (m : Measure) (b : Bound) (layer : List Bound) (o : Option ℕ)
    → number_placed m layer o ≡ number_placed m (b ∷ layer) (option_map suc o)
placed_later m b layer None = refl
placed_later m b layer (Some place) = refl

number_there : (m : Measure) (x : BlockId) (layer : List Bound)
    → measure_if_bound m (bound_of x layer) ≡ number_placed m layer (place_of_bound x layer)
number_there m x [] = refl
number_there m x (b ∷ layer) = by (is_same_id b.block x) (number_there m x layer)
  where
    by : (test : Bool) → measure_if_bound m (bound_of x layer) ≡ number_placed m layer (place_of_bound x layer)
        → measure_if_bound m (if test then Some b else bound_of x layer)
        ≡ number_placed m (b ∷ layer) (if test then Some 0 else option_map suc (place_of_bound x layer))
    by true rest = refl
    by false rest = rest ∙ placed_later m b layer (place_of_bound x layer)

callee_there : (m : Measure) (callee : Option BlockId) (layer : List Bound)
    → measure_in_layer m layer callee ≡ number_placed m layer (place_of_callee layer callee)
callee_there m None layer = refl
callee_there m (Some x) layer = number_there m x layer

max_none : (n : ℕ) → max 0 n ≡ n
max_none n = omega arith

most_placed : (m : Measure) (layer : List Bound) (o : Option ℕ) (places : List ℕ)
    → max (number_placed m layer o) (most_at m layer places) ≡ most_at m layer (with_place o places)
most_placed m layer None places = max_none (most_at m layer places)
most_placed m layer (Some place) places = refl

most_there : (m : Measure) (layer : List Bound) (ops : List OpData)
    → most_called m layer ops ≡ most_at m layer (places_called layer ops)
most_there m layer [] = refl
most_there m layer (op ∷ ops) =
    ap (λ (n : ℕ). max n (most_called m layer ops)) (callee_there m (callee_of_op op) layer)
    ∙ ap (λ (n : ℕ). max (number_placed m layer (place_of_callee layer (callee_of_op op))) n) (most_there m layer ops)
    ∙ most_placed m layer (place_of_callee layer (callee_of_op op)) (places_called layer ops)

-- ---- layers

most_by : (m : Measure) (first layer : List Bound) (ops : List OpData) → SameBlocks first layer
    → most_called m layer ops ≡ most_at m layer (places_called first ops)
most_by m first layer ops same =
    most_there m layer ops ∙ ap (most_at m layer) (sym (places_same ops first layer same))

bound_is : (first layer : List Bound) (id : BlockId) (b : CodeBlock) → SameBlocks first layer
    → bound_above layer id b ≡ bound_by layer (caller_of first id b)
bound_is first layer id b same =
    ap (λ (n : ℕ). record { block = id; depth = 1 + n; bytes = b.local_len + most_called Bytes layer b.code })
    (most_by Depth first layer b.code same)
    ∙ ap
    (λ (n : ℕ). record {
      block = id;
      depth = 1 + most_at Depth layer (places_called first b.code);
      bytes = b.local_len + n;
    })
    (most_by Bytes first layer b.code same)

above_is : (p : Program) (first layer : List Bound) (ids : List BlockId) → SameBlocks first layer
    → bounds_above p layer ids ≡ map (bound_by layer) (callers_of p first ids)
above_is p first layer [] same = refl
above_is p first layer (id ∷ ids) same =
    by (block_by_id id p.code_blocks) (above_is p first layer ids same)
  where
    by : (found : Option CodeBlock)
        → bounds_above p layer ids ≡ map (bound_by layer) (callers_of p first ids)
        → with_bound (option_map (bound_above layer id) found) (bounds_above p layer ids)
        ≡ map (bound_by layer) (with_caller (option_map (caller_of first id) found) (callers_of p first ids))
    by None later = later
    by (Some b) later =
        ap (λ (d : Bound). d ∷ bounds_above p layer ids) (bound_is first layer id b same)
        ∙ ap (λ (rest : List Bound). bound_by layer (caller_of first id b) ∷ rest) later

-- the callers of a program, by the places in its lowest layer
abbrev pub program_callers : Program → List CallerData
program_callers p = callers_of p (layer_of_height 1 p) (block_ids p)

pub layers_are : (p : Program) (k : ℕ) → layers_by (program_callers p) (layer_of_height 1 p) k ≡ layer_of_height (suc k) p
layers_are p zero = refl
layers_are p (suc k) =
    ap (λ (layer : List Bound). map (bound_by layer) (program_callers p)) (layers_are p k)
    ∙ sym (above_is p (layer_of_height 1 p) (layer_of_height (suc k) p) (block_ids p) (same_above p [] (layer_of_height k p) (block_ids p)))

-- ---- the lowest layer

none_said : (m : Measure) (callee : Option BlockId) → measure_in_layer m [] callee ≡ 0
none_said m None = refl
none_said m (Some x) = refl

none_called : (m : Measure) (ops : List OpData) → most_called m [] ops ≡ 0
none_called m [] = refl
none_called m (op ∷ ops) =
    ap (λ (n : ℕ). max n (most_called m [] ops)) (none_said m (callee_of_op op))
    ∙ max_none (most_called m [] ops) ∙ none_called m ops

one_alone : (n : ℕ) → n ≡ 0 → 1 + n ≡ 1
one_alone n is = omega (arith, is)

own_alone : (len n : ℕ) → n ≡ 0 → len + n ≡ len
own_alone len n is = omega (arith, is)

alone_is : (id : BlockId) (b : CodeBlock) → bound_above [] id b ≡ bound_alone id b
alone_is id b =
    ap (λ (n : ℕ). record { block = id; depth = n; bytes = b.local_len + most_called Bytes [] b.code })
    (one_alone (most_called Depth [] b.code) (none_called Depth b.code))
    ∙ ap (λ (n : ℕ). record { block = id; depth = 1; bytes = n })
    (own_alone b.local_len (most_called Bytes [] b.code) (none_called Bytes b.code))

found_alone : (id : BlockId) (found : Option CodeBlock)
    → option_map (bound_above [] id) found ≡ option_map (bound_alone id) found
found_alone id None = refl
found_alone id (Some b) = ap (λ (d : Bound). Some d) (alone_is id b)

-- above no layer each block stands by itself
pub alone_are_lowest : (p : Program) (ids : List BlockId) → bounds_alone p ids ≡ bounds_above p [] ids
alone_are_lowest p [] = refl
alone_are_lowest p (id ∷ ids) =
    ap (λ (o : Option Bound). with_bound o (bounds_alone p ids)) (sym (found_alone id (block_by_id id p.code_blocks)))
    ∙ ap (λ (rest : List Bound). with_bound (bound_above_in p [] id) rest) (alone_are_lowest p ids)

-- ---- no number is above the highest

low_there : (m : Measure) (n : ℕ) (layer : List Bound) (place : ℕ) → AreBoundsAtMost n layer → measure_at_place m layer place ≤ n
low_there m n [] zero low = omega arith
low_there m n [] (suc place) low = omega arith
low_there m n (b ∷ layer) zero low = by m
  where
    by : (k : Measure) → measure_of_bound k b ≤ n
    by Depth = low.0.0
    by Bytes = low.0.1
low_there m n (b ∷ layer) (suc place) low = low_there m n layer place low.1

max_low : (a b n : ℕ) → a ≤ n → b ≤ n → max a b ≤ n
max_low a b n one other = omega (arith, one, other)

pub low_at : (m : Measure) (n : ℕ) (layer : List Bound) (places : List ℕ) → AreBoundsAtMost n layer → most_at m layer places ≤ n
low_at m n layer [] low = omega arith
low_at m n layer (place ∷ places) low =
    max_low (measure_at_place m layer place) (most_at m layer places) n (low_there m n layer place low)
    (low_at m n layer places low)

-- ---- marks

abbrev mark_placed : List Bool → Option ℕ → List Bool
mark_placed marks None = marks
mark_placed marks (Some place) = slice_set marks place true

mark_later : (m : Bool) (marks : List Bool) (o : Option ℕ)
    → m ∷ mark_placed marks o ≡ mark_placed (m ∷ marks) (option_map suc o)
mark_later m marks None = refl
mark_later m marks (Some place) = refl

none_to_mark : (o : Option ℕ) → [] ≡ mark_placed [] o
none_to_mark None = refl
none_to_mark (Some zero) = refl
none_to_mark (Some (suc place)) = refl

mark_there : (marks : List Bool) (list : List Bound) (x : BlockId)
    → with_block_marked marks list x ≡ mark_placed marks (place_of_bound x list)
mark_there [] list x = none_to_mark (place_of_bound x list)
mark_there (m ∷ marks) [] x = refl
mark_there (m ∷ marks) (b ∷ list) x = by (is_same_id b.block x) (mark_there marks list x)
  where
    by : (test : Bool) → with_block_marked marks list x ≡ mark_placed marks (place_of_bound x list)
        → (if test then true ∷ marks else m ∷ with_block_marked marks list x)
        ≡ mark_placed (m ∷ marks) (if test then Some 0 else option_map suc (place_of_bound x list))
    by true later = refl
    by false later = ap (λ (rest : List Bool). m ∷ rest) later ∙ mark_later m marks (place_of_bound x list)

mark_called_there : (marks : List Bool) (list : List Bound) (callee : Option BlockId)
    → mark_callee marks list callee ≡ mark_placed marks (place_of_callee list callee)
mark_called_there marks list None = refl
mark_called_there marks list (Some x) = mark_there marks list x

places_then : (marks : List Bool) (o : Option ℕ) (places : List ℕ)
    → mark_places (mark_placed marks o) places ≡ mark_places marks (with_place o places)
places_then marks None places = refl
places_then marks (Some place) places = refl

ops_there : (marks : List Bool) (list : List Bound) (ops : List OpData)
    → mark_ops marks list ops ≡ mark_places marks (places_called list ops)
ops_there marks list [] = refl
ops_there marks list (op ∷ ops) =
    ops_there (mark_callee marks list (callee_of_op op)) list ops
    ∙ ap (λ (ms : List Bool). mark_places ms (places_called list ops)) (mark_called_there marks list (callee_of_op op))
    ∙ places_then marks (place_of_callee list (callee_of_op op)) (places_called list ops)

mark_is : (p : Program) (list : List Bound) (marks : List Bool) (m : Bool) (id : BlockId) (b : CodeBlock) (d : Bound)
    → d.block ≡ id → block_by_id id p.code_blocks ≡ Some b
    → (if m then mark_called_by p marks list d else marks) ≡ mark_if m marks (caller_of list id b)
mark_is p list marks false id b d is there = refl
mark_is p list marks true id b d is there =
    ap (λ (x : BlockId). mark_called marks list (block_by_id x p.code_blocks)) is
    ∙ ap (λ (o : Option CodeBlock). mark_called marks list o) there
    ∙ ops_there marks list b.code

all_there : (p : Program) (list below : List Bound) (marks before : List Bool) (ids : List BlockId)
    → with_callees_marked p list marks before (bounds_above p below ids) ≡ mark_callers marks before (callers_of p list ids)
all_there p list below marks [] [] = refl
all_there p list below marks (m ∷ before) [] = refl
all_there p list below marks before (id ∷ ids) =
    by (λ now ms. all_there p list below now ms ids) (block_by_id id p.code_blocks) refl before
  where
    by : ((now ms : List Bool) → with_callees_marked p list now ms (bounds_above p below ids) ≡ mark_callers now ms (callers_of p list ids))
        → (found : Option CodeBlock) → block_by_id id p.code_blocks ≡ found → (ms : List Bool)
        → with_callees_marked p list marks ms (with_bound (option_map (bound_above below id) found) (bounds_above p below ids))
        ≡ mark_callers marks ms (with_caller (option_map (caller_of list id) found) (callers_of p list ids))
    by later None there ms = later marks ms
    by later (Some b) there [] = refl
    by later (Some b) there (m ∷ ms) =
        ap (λ (now : List Bool). with_callees_marked p list now ms (bounds_above p below ids))
        (mark_is p list marks m id b (bound_above below id b) refl there)
        ∙ later (mark_if m marks (caller_of list id b)) ms

-- of a list of the blocks of a program
pub marks_are : (p : Program) (below : List Bound) (k : ℕ)
    → marks_by (program_callers p) (bounds_above p below (block_ids p)) k ≡ marks_of_round k p (bounds_above p below (block_ids p))
marks_are p below zero = refl
marks_are p below (suc k) =
    ap (λ (before : List Bool). mark_callers (ob_marks list) before (program_callers p)) (marks_are p below k)
    ∙ ap (λ (callers : List CallerData). mark_callers (ob_marks list) (marks_of_round k p list) callers)
    (callers_same p (block_ids p) (layer_of_height 1 p) list (same_above p [] below (block_ids p)))
    ∙ sym (all_there p list below (ob_marks list) (marks_of_round k p list) (block_ids p))
  where
    list : List Bound
    list = bounds_above p below (block_ids p)

-- ---- the ends of loops

-- a place that isn't there stays unmarked
pub no_place : (marks : List Bool) (place : ℕ) → length marks ≤ place → slice_set marks place true ≡ marks
no_place [] zero past = refl
no_place [] (suc place) past = refl
no_place (m ∷ marks) zero past = absurd (omega (arith, past))
no_place (m ∷ marks) (suc place) past =
    ap (λ (rest : List Bool). m ∷ rest) (no_place marks place (omega (arith, past)))

pub no_caller : (marks before : List Bool) (callers : List CallerData) → length callers < 1
    → mark_callers marks before callers ≡ marks
no_caller marks [] callers none = refl
no_caller marks (m ∷ before) [] none = refl
no_caller marks (m ∷ before) (c ∷ callers) none = absurd (omega (arith, none))

-- ---- the places of what a block calls are gathered

none_behind : (xs : List ℕ) → xs ++ [] ≡ xs
none_behind [] = refl
none_behind (x ∷ xs) = ap (λ (rest : List ℕ). x ∷ rest) (none_behind xs)

one_more_place : (xs : List ℕ) (o : Option ℕ) (rest : List ℕ) → xs ++ with_place o rest ≡ (xs ++ with_place o []) ++ rest
one_more_place xs None rest = ap (λ (ys : List ℕ). ys ++ rest) (sym (none_behind xs))
one_more_place xs (Some place) rest = sym (append_assoc xs (place ∷ []) rest)

-- one more op
pub place_added : (list : List Bound) (code : List OpData) (at : ℕ) (op : OpData) (next : ℕ) (called added : List ℕ)
    (place : Option ℕ) → op_placed 0 code at ≡ Some (op, next) → place ≡ place_of_callee list (callee_of_op op)
    → added ≡ called ++ with_place place []
    → places_called list code ≡ called ++ places_called list (ops_after_offset 0 code at)
    → places_called list code ≡ added ++ places_called list (ops_after_offset 0 code next)
place_added list code at op next called added place there is adds so_far =
    so_far
    ∙ ap (λ (ops : List OpData). called ++ places_called list ops) (walk_goes_on 0 code at op next there)
    ∙ one_more_place called (place_of_callee list (callee_of_op op)) (places_called list (ops_after_offset 0 code next))
    ∙ ap (λ (o : Option ℕ). (called ++ with_place o []) ++ places_called list (ops_after_offset 0 code next)) (sym is)
    ∙ ap (λ (xs : List ℕ). xs ++ places_called list (ops_after_offset 0 code next)) (sym adds)

-- none is left
pub all_added : (list : List Bound) (code : List OpData) (at : ℕ) (called : List ℕ) → op_placed 0 code at ≡ None
    → places_called list code ≡ called ++ places_called list (ops_after_offset 0 code at)
    → called ≡ places_called list code
all_added list code at called there so_far =
    sym (so_far ∙ ap (λ (ops : List OpData). called ++ places_called list ops) (walk_ends 0 code at there) ∙ none_behind called)
