-- How many code blocks and data blocks a source has, and the bytes of its data blocks.
use Rattle.std.proofs.Common.{◌≡◌, ℕ, zero, suc, ◌+◌, ◌≤◌, ◌<◌, Bool, true, false, cond, not, ◌&&◌, List, [], ◌∷◌, ◌++◌, length, length-append, append_assoc, map, Option, Some, None, refl, sym, ap, ◌∙◌, arith}
use Rattle.std.specs.Prelude.{nat_eq, nat_le, nat_lt, if◌then◌else◌}
use Rattle.std.specs.List.{sum_by}
use Rattle.std.specs.Option.{option_and_then, option_map}
use Rattle.std.proofs.lemmas.Bool.Decides.{nat_tests}
use Rattle.std.proofs.lemmas.List.Sums.{sum_by-cons, sum_by-le-sum_by}
use Rattle.std.proofs.lemmas.Bool.{lt-ltb, not-false}
use Rattle.plc_base.specs.Kinds.{is_code, is_data_block, is_same_kind}
use Rattle.plc_base.specs.declared.blocks.BlockId.{BlockId}
use Rattle.plc_base.specs.declared.blocks.BlockKind.{BlockKind}
use Rattle.plc_base.specs.declared.blocks.BlockKind.TheVariants as kinds
use Rattle.stl_ast.specs.declared.blocks.Block.{Block}
use Rattle.stl_symbols.specs.Symbol.{Symbol}
use Rattle.block_layout.specs.Blocks.{place_of_block, id_of, is_block_number, is_id, is_ob_number}
use Rattle.block_layout.specs.Lengths.{length_of_block}
use Rattle.block_layout.specs.Rule22.{is_block_twice, is_earlier}
use Rattle.block_layout.specs.Rule44.{has_wrong_number, is_number_beyond_limits}
use Rattle.block_layout.specs.Rule53.{is_one_too_many}
use Rattle.block_layout.specs.Rule54.{data_length, exceeds_total}
use Rattle.block_layout.specs.Types.{Types}
use Rattle.block_layout.proofs.BlockLemmas.{same_block}
use Rattle.block_layout.proofs.CommonLemmas.{summed_two}
use Rattle.block_layout.proofs.HeadLemmas.{AllHeads}

abbrev pub bit : Bool → ℕ
bit b = cond b 1 0

-- ---- no kind and number twice

-- a block has the id where its head gives it one
is_there : (id : BlockId) (o : Option BlockId) → is_id id o ≡ true → o ≡ Some id
is_there id None h = absurd cc
is_there id (Some other) h = ap (λ (i : BlockId). Some i) (sym (same_block id other h))

-- the first place of an id is at most a place where it stands
first_place_at_most : (id : BlockId) (front : List (Option BlockId)) (o : Option BlockId)
    (rest : List (Option BlockId)) → is_id id o ≡ true
    → (p : ℕ) × (place_of_block id (front ++ o ∷ rest) ≡ Some p) × (p ≤ length front)
first_place_at_most id [] o rest h = (0, rw h refl, omega arith)
first_place_at_most id (i ∷ is) o rest h = by (is_id id i) (first_place_at_most id is o rest h)
  where
    by : (first : Bool)
        → (p : ℕ) × (place_of_block id (is ++ o ∷ rest) ≡ Some p) × (p ≤ length is)
        → (p : ℕ) × ((if first then Some 0
        else option_map (λ k. suc k) (place_of_block id (is ++ o ∷ rest))) ≡ Some p)
        × (p ≤ length (i ∷ is))
    by true more = (0, refl, omega arith)
    by false more =
        (suc more.0, ap (λ (q : Option ℕ). option_map (λ k. suc k) q) more.1, omega (arith, more.2))

-- behind it no block has it
twice_there : (y : Types) (id : BlockId) (before : List Block) (b : Block) (p : ℕ)
    → place_of_block id y.ids ≡ Some p → p < length before → id_of y.symbols b ≡ Some id
    → is_block_twice y before b ≡ true
twice_there y id before b p place early is =
    ap (λ (o : Option BlockId). is_earlier (option_and_then (λ i. place_of_block i y.ids) o)
    (length before)) is
    ∙ ap (λ (o : Option ℕ). is_earlier o (length before)) place
    ∙ below p (length before) early
  where
    below : (m n : ℕ) → m < n → nat_lt m n ≡ true
    below m n h = grind (arith, nat_tests)

with_id : List Symbol → BlockId → Block → ℕ
with_id symbols id b = bit (is_id id (id_of symbols b))

none_behind : (y : Types) (id : BlockId) (p : ℕ) (before rest : List Block)
    → place_of_block id y.ids ≡ Some p → p < length before
    → AllHeads (λ before b. is_block_twice y before b ≡ false) before rest
    → sum_by (with_id y.symbols id) rest ≡ 0
unfolding with_id
none_behind y id p before [] place early once = refl
none_behind y id p before (b ∷ bs) place early once =
    let more = none_behind y id p (b ∷ before) bs place (omega (arith, early)) once.1 in
    omega (
      arith,
      by (is_id id (id_of y.symbols b)) refl,
      more,
      sum_by-cons (with_id y.symbols id) b bs,
    )
  where
    by : (here : Bool) → is_id id (id_of y.symbols b) ≡ here → bit here ≡ 0
    by true e =
        let twice = twice_there y id before b p place early
        (is_there id (id_of y.symbols b) e) in
        let isnt = once.0 in absurd cc
    by false e = refl

once_behind : (y : Types) (id : BlockId) (front : List (Option BlockId)) (before rest : List Block)
    → y.ids ≡ front ++ map (λ b. id_of y.symbols b) rest → length front ≡ length before
    → AllHeads (λ before b. is_block_twice y before b ≡ false) before rest
    → sum_by (with_id y.symbols id) rest ≤ 1
unfolding with_id
once_behind y id front before [] ids long once = omega arith
once_behind y id front before (b ∷ bs) ids long once =
    let o : Option BlockId = id_of y.symbols b in
    let more : (front ++ o ∷ []) ++ map (λ b. id_of y.symbols b) bs ≡ y.ids → sum_by (with_id y.symbols id) bs ≤ 1 =
    λ is. once_behind y id (front ++ o ∷ []) (b ∷ before) bs (sym is)
    (omega (arith, long, length-append front (o ∷ []))) once.1 in
    omega (
      arith,
      sum_by-cons (with_id y.symbols id) b bs,
      by (is_id id (id_of y.symbols b)) refl more,
    )
  where
    by : (here : Bool) → is_id id (id_of y.symbols b) ≡ here
        → ((front ++ id_of y.symbols b ∷ []) ++ map (λ b. id_of y.symbols b) bs ≡ y.ids
        → sum_by (with_id y.symbols id) bs ≤ 1)
        → bit here + sum_by (with_id y.symbols id) bs ≤ 1
    by true e more =
        let behind : List (Option BlockId) = map (λ b. id_of y.symbols b) bs in
        let there = first_place_at_most id front (id_of y.symbols b) behind e in
        let none = none_behind y id there.0 (b ∷ before) bs
        (ap (λ (l : List (Option BlockId)). place_of_block id l) ids ∙ there.1)
        (omega (arith, there.2, long)) once.1 in
        omega (arith, none)
    by false e more =
        let behind : List (Option BlockId) = map (λ b. id_of y.symbols b) bs in
        omega (arith, more (append_assoc front (id_of y.symbols b ∷ []) behind ∙ sym ids))

-- ---- numbers below a limit

below_limit : BlockKind → ℕ → Option BlockId → Bool
below_limit k n None = false
below_limit k n (Some id) = is_same_kind k id.kind && nat_lt id.number n

-- blocks of a kind with a number below a limit
count_below : List Symbol → BlockKind → ℕ → Block → ℕ
count_below symbols k n b = bit (below_limit k n (id_of symbols b))

one_limit_more : (k : BlockKind) (n : ℕ) (o : Option BlockId)
    → bit (below_limit k (suc n) o)
    ≤ bit (below_limit k n o) + bit (is_id (record { kind = k; number = n }) o)
unfolding below_limit
one_limit_more k n None = omega arith
one_limit_more k n (Some id) = tests (is_same_kind k id.kind) n id.number
  where
    tests : (same : Bool) (n m : ℕ)
        → bit (same && nat_lt m (suc n)) ≤ bit (same && nat_lt m n) + bit (same && nat_eq n m)
    tests true n m = grind (arith, nat_tests)
    tests false n m = omega arith

none_below : (k : BlockKind) (o : Option BlockId) → bit (below_limit k 0 o) ≡ 0
unfolding below_limit
none_below k None = refl
none_below k (Some id) = tests (is_same_kind k id.kind) id.number
  where
    tests : (same : Bool) (m : ℕ) → bit (same && nat_lt m 0) ≡ 0
    tests true m = grind (arith, nat_tests)
    tests false m = refl

no_sum : {X : Type 0} (f : X → ℕ) (xs : List X) → ((x : X) → f x ≡ 0) → sum_by f xs ≡ 0
no_sum f [] h = refl
no_sum f (x ∷ xs) h = omega (arith, h x, sum_by-cons f x xs, no_sum f xs h)

-- as each of these numbers stands once, there are no more blocks than numbers
few_of_kind : (symbols : List Symbol) (k : BlockKind) (n : ℕ) (bs : List Block)
    → ((id : BlockId) → sum_by (with_id symbols id) bs ≤ 1)
    → sum_by (count_below symbols k n) bs ≤ n
unfolding count_below with_id
few_of_kind symbols k zero bs once =
    omega (arith, no_sum (count_below symbols k 0) bs (λ b. none_below k (id_of symbols b)))
few_of_kind symbols k (suc n) bs once =
    let id : BlockId = record { kind = k; number = n } in
    omega (
      arith,
      few_of_kind symbols k n bs once,
      once id,
      summed_two (count_below symbols k n) (with_id symbols id) bs,
      sum_by-le-sum_by (count_below symbols k (suc n))
          (λ b. count_below symbols k n b + with_id symbols id b) bs
          (λ b. one_limit_more k n (id_of symbols b)),
    )

-- ---- code blocks

abbrev pub is_code_id : Option BlockId → Bool
is_code_id None = false
is_code_id (Some id) = is_code id.kind

-- whether a block of the source is a code block
abbrev pub count_of_code : List Symbol → Block → ℕ
count_of_code symbols b = bit (is_code_id (id_of symbols b))

ob_low : (n : ℕ) → is_ob_number n ≡ true → n < 123
ob_low n h = grind (arith, nat_tests)

within : (n : ℕ) → (nat_le 0 n && nat_le n 2047) ≡ true → n < 2048
within n h = grind (arith, nat_tests)

by_kind : (k : BlockKind) (n : ℕ) → not (is_block_number k n) ≡ false
    → bit (is_code k)
    ≤ bit (below_limit kinds.Ob 123 (Some (record { kind = k; number = n })))
    + bit (below_limit kinds.Fc 2048 (Some (record { kind = k; number = n })))
    + bit (below_limit kinds.Fb 2048 (Some (record { kind = k; number = n })))
unfolding below_limit
by_kind kinds.Ob n h =
    rw (lt-ltb n 123 (ob_low n (not-false (is_ob_number n) h))) (omega arith)
by_kind kinds.Fc n h =
    rw (lt-ltb n 2048 (within n (not-false (is_block_number kinds.Fc n) h))) (omega arith)
by_kind kinds.Fb n h =
    rw (lt-ltb n 2048 (within n (not-false (is_block_number kinds.Fb n) h))) (omega arith)
by_kind kinds.Db n h = omega arith
by_kind kinds.Sfc n h = omega arith
by_kind kinds.Udt n h = omega arith

by_id : (o : Option BlockId) → is_number_beyond_limits o ≡ false
    → bit (is_code_id o)
    ≤ bit (below_limit kinds.Ob 123 o) + bit (below_limit kinds.Fc 2048 o)
    + bit (below_limit kinds.Fb 2048 o)
unfolding below_limit
by_id None h = omega arith
by_id (Some id) h = by_kind id.kind id.number h

code_here : (symbols : List Symbol) (before bs : List Block)
    → AllHeads (λ before b. has_wrong_number symbols b ≡ false) before bs
    → sum_by (count_of_code symbols) bs
    ≤ sum_by (count_below symbols kinds.Ob 123) bs + sum_by (count_below symbols kinds.Fc 2048) bs
    + sum_by (count_below symbols kinds.Fb 2048) bs
unfolding count_below
code_here symbols before [] h = omega arith
code_here symbols before (b ∷ bs) h =
    omega (
      arith,
      by_id (id_of symbols b) h.0,
      code_here symbols (b ∷ before) bs h.1,
      sum_by-cons (count_of_code symbols) b bs,
      sum_by-cons (count_below symbols kinds.Ob 123) b bs,
      sum_by-cons (count_below symbols kinds.Fc 2048) b bs,
      sum_by-cons (count_below symbols kinds.Fb 2048) b bs,
    )

-- at most 123 organization blocks, 2,048 functions and 2,048 function blocks
pub few_code_blocks : (y : Types) (bs : List Block) → y.ids ≡ map (λ b. id_of y.symbols b) bs
    → AllHeads (λ before b. is_block_twice y before b ≡ false) [] bs
    → AllHeads (λ before b. has_wrong_number y.symbols b ≡ false) [] bs
    → sum_by (count_of_code y.symbols) bs ≤ 4219
few_code_blocks y bs ids once right =
    let each : (id : BlockId) → sum_by (with_id y.symbols id) bs ≤ 1 =
    λ id. once_behind y id [] [] bs ids refl once in
    omega (
      arith,
      code_here y.symbols [] bs right,
      few_of_kind y.symbols kinds.Ob 123 bs each,
      few_of_kind y.symbols kinds.Fc 2048 bs each,
      few_of_kind y.symbols kinds.Fb 2048 bs each,
    )

-- ---- data blocks

abbrev pub counted_data : Block → ℕ
counted_data b = bit (is_data_block b.kind)

few_more : (is : Bool) (n : ℕ) → n ≤ 256 → (is && nat_le 256 n) ≡ false → bit is + n ≤ 256
few_more true n few h = grind (arith, nat_tests)
few_more false n few h = omega (arith, few)

data_from : (before bs : List Block) → sum_by counted_data before ≤ 256
    → AllHeads (λ before b. is_one_too_many before b ≡ false) before bs
    → sum_by counted_data before + sum_by counted_data bs ≤ 256
data_from before [] few h = omega (arith, few)
data_from before (b ∷ bs) few h =
    let here = few_more (is_data_block b.kind) (sum_by counted_data before) few h.0 in
    let split = sum_by-cons counted_data b before in
    omega (
      arith,
      data_from (b ∷ before) bs (omega (arith, here, split)) h.1,
      split,
      sum_by-cons counted_data b bs,
    )

pub few_data_blocks : (bs : List Block)
    → AllHeads (λ before b. is_one_too_many before b ≡ false) [] bs
    → sum_by counted_data bs ≤ 256
few_data_blocks bs h = omega (arith, data_from [] bs (omega arith) h)

less_more : (is : Bool) (n before : ℕ) → before ≤ 2097152
    → (is && nat_lt 2097152 (before + cond is n 0)) ≡ false
    → cond is n 0 + before ≤ 2097152
less_more true n before less h = grind (arith, nat_tests)
less_more false n before less h = omega (arith, less)

bytes_from : (y : Types) (blocks before bs : List Block)
    → sum_by (data_length y blocks) before ≤ 2097152
    → AllHeads (λ before b. exceeds_total y blocks before b ≡ false) before bs
    → sum_by (data_length y blocks) before + sum_by (data_length y blocks) bs ≤ 2097152
bytes_from y blocks before [] less h = omega (arith, less)
bytes_from y blocks before (b ∷ bs) less h =
    let here = less_more (is_data_block b.kind) (length_of_block y blocks b)
    (sum_by (data_length y blocks) before) less h.0 in
    let split = sum_by-cons (data_length y blocks) b before in
    omega (
      arith,
      bytes_from y blocks (b ∷ before) bs (omega (arith, here, split)) h.1,
      split,
      sum_by-cons (data_length y blocks) b bs,
    )

pub few_data_bytes : (y : Types) (blocks bs : List Block)
    → AllHeads (λ before b. exceeds_total y blocks before b ≡ false) [] bs
    → sum_by (data_length y blocks) bs ≤ 2097152
few_data_bytes y blocks bs h = omega (arith, bytes_from y blocks [] bs (omega arith) h)
