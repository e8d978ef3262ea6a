-- Lists whose blocks rise.
use Rattle.std.proofs.Common.{◌≡◌, ℕ, zero, suc, ◌<◌, Bool, true, false, List, [], ◌∷◌, length, Option, Some, None, refl, sym, ap, ◌∙◌, arith, if◌then◌else◌}
use Rattle.std.specs.Prelude.{◌==◌, ◌&&◌, ◌||◌, nat_lt, is_none, slice_index_or}
use Rattle.std.specs.List.Sorted.{IsPartitionedBy}
use Rattle.std.proofs.lemmas.Bool.{and_parts, and_from}
use Rattle.std.proofs.lemmas.Bool.Decides.{nat_tests}
use Rattle.plc_base.specs.Kinds.{kind_order}
use Rattle.plc_base.specs.declared.blocks.BlockId.{BlockId}
use Rattle.image_file.specs.Readers.{is_same_id}
use Rattle.stack_bound.specs.Certificates.{bound_of}
use Rattle.stack_bound.specs.Checking.{has_each_block_once}
use Rattle.stack_bound.specs.Order.{IsHalved, bound_at, stands_before_bounds, is_before, are_blocks_rising}
use Rattle.stack_bound.specs.declared.certificates.Bound.{Bound}

-- a block stands before another one, by two pairs of numbers
abbrev pub is_pair_before : (a m b n : ℕ) → Bool
is_pair_before a m b n = nat_lt a b || a == b && nat_lt m n

trans : (a m b n c o : ℕ) → is_pair_before a m b n ≡ true → is_pair_before b n c o ≡ true → is_pair_before a m c o ≡ true
trans a m b n c o one two = grind (arith, nat_tests)

pub not_same : (a m b n : ℕ) → is_pair_before a m b n ≡ true → (a == b && m == n) ≡ false
not_same a m b n is = grind (arith, nat_tests)

pub not_after : (a m b n : ℕ) → is_pair_before b n a m ≡ true → (a == b && m == n) ≡ false
not_after a m b n is = grind (arith, nat_tests)

pub one_way : (a m b n : ℕ) → is_pair_before a m b n ≡ false → (a == b && m == n) ≡ false → is_pair_before b n a m ≡ true
one_way a m b n not apart = grind (arith, nat_tests)

abbrev pub key : BlockId → ℕ
key a = kind_order a.kind

-- a block before the blocks of a list
abbrev pub IsBeforeAll : BlockId → List Bound → Type 0
IsBeforeAll a [] = Unit {0}
IsBeforeAll a (b ∷ rest) = (is_before a b.block ≡ true) × IsBeforeAll a rest

pub before_all : (a : BlockId) (b : Bound) (rest : List Bound) → is_before a b.block ≡ true
    → IsBeforeAll b.block rest → IsBeforeAll a rest
before_all a b [] first all = tt
before_all a b (d ∷ rest) first all = (
  trans (key a) a.number (key b.block) b.block.number (key d.block) d.block.number first all.0,
  before_all a b rest first all.1,
)

pub rises : (b : Bound) (rest : List Bound) → are_blocks_rising (b ∷ rest) ≡ true → IsBeforeAll b.block rest
rises b [] is = tt
rises b (d ∷ rest) is =
    let parts = and_parts (is_before b.block d.block) (are_blocks_rising (d ∷ rest)) is in
    (parts.0, before_all b.block d rest parts.0 (rises d rest parts.1))

pub rest_rises : (b : Bound) (rest : List Bound) → are_blocks_rising (b ∷ rest) ≡ true → are_blocks_rising rest ≡ true
rest_rises b rest is = (and_parts (stands_before_bounds b rest) (are_blocks_rising rest) is).1

-- behind a block no list that rises has it
pub none_behind : (a : BlockId) (rest : List Bound) → IsBeforeAll a rest → bound_of a rest ≡ None
none_behind a [] all = refl
none_behind a (b ∷ rest) all =
    rw (not_after (key b.block) b.block.number (key a) a.number all.0) (none_behind a rest all.1)

pub risen_once : (list : List Bound) → are_blocks_rising list ≡ true → has_each_block_once list ≡ true
risen_once [] is = refl
risen_once (b ∷ rest) is =
    and_from (is_none (bound_of b.block rest)) (has_each_block_once rest)
    (ap (λ (o : Option Bound). is_none o) (none_behind b.block rest (rises b rest is)))
    (risen_once rest (rest_rises b rest is))

-- ---- halving

at_of : (a : BlockId) (list : List Bound) (j : ℕ) (d : Bound) → IsBeforeAll a list → j < length list
    → is_before a (slice_index_or list j d).block ≡ true
at_of a [] j d all less = absurd (omega (arith, less))
at_of a (b ∷ rest) zero d all less = all.0
at_of a (b ∷ rest) (suc j) d all less = at_of a rest j d all.1 (omega (arith, less))

pub blocks_partitioned : (block : BlockId) (list : List Bound) → are_blocks_rising list ≡ true
    → IsPartitionedBy (λ (b : Bound). is_before b.block block) list
blocks_partitioned block [] is i j d le less passes = absurd (omega (arith, less))
blocks_partitioned block (b ∷ rest) is zero zero d le less passes = passes
blocks_partitioned block (b ∷ rest) is zero (suc j) d le less passes =
    trans (key b.block) b.block.number (key (slice_index_or rest j d).block)
    (slice_index_or rest j d).block.number (key block) block.number
    (at_of b.block rest j d (rises b rest is) (omega (arith, less))) passes
blocks_partitioned block (b ∷ rest) is (suc i) zero d le less passes = absurd (omega (arith, le))
blocks_partitioned block (b ∷ rest) is (suc i) (suc j) d le less passes =
    blocks_partitioned block rest (rest_rises b rest is) i j d (omega (arith, le)) (omega (arith, less)) passes

pub later_point : (block : BlockId) (b : Bound) (rest : List Bound) (k : ℕ)
    → IsHalved (b ∷ rest) block (suc k)
    → IsHalved rest block k
later_point block b rest k point = (
  λ i d low high. point.0 (suc i) d (omega (arith, low)) (omega (arith, high)),
  λ i d low high. point.1 (suc i) d (omega (arith, low)) (omega (arith, high)),
)

pub halving_finds : (block : BlockId) (list : List Bound) (place : ℕ) → are_blocks_rising list ≡ true
    → IsHalved list block place
    → bound_at list place block ≡ bound_of block list
halving_finds block [] zero is point = refl
halving_finds block [] (suc place) is point = refl
halving_finds block (b ∷ rest) zero is point = by (is_same_id b.block block) refl
  where
    by : (test : Bool) → is_same_id b.block block ≡ test
        → (if test then Some b else None) ≡ (if test then Some b else bound_of block rest)
    by true same = refl
    by false apart =
        sym (none_behind block rest
        (before_all block b rest
        (one_way (key b.block) b.block.number (key block) block.number
        (point.1 zero b (omega arith) (omega arith)) apart) (rises b rest is)))
halving_finds block (b ∷ rest) (suc place) is point =
    halving_finds block rest place (rest_rises b rest is) (later_point block b rest place point)
    ∙ sym (passed (not_same (key b.block) b.block.number (key block) block.number
    (point.0 zero b (omega arith) (omega arith))))
  where
    passed : is_same_id b.block block ≡ false
        → (if is_same_id b.block block then Some b else bound_of block rest) ≡ bound_of block rest
    passed apart = rw apart refl
