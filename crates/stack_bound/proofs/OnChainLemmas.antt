-- Blocks on chains: where no organization block is above the limits, none of them is deep, and all are marked.
use Rattle.std.proofs.Common.{◌≡◌, ◌⊎◌, inl, inr, ℕ, zero, suc, ◌+◌, ◌<◌, ◌≤◌, Bool, true, false, List, [], ◌∷◌, ◌++◌, length, Option, Some, None, refl, sym, ap, ◌∙◌, subst, arith, if◌then◌else◌}
use Rattle.std.specs.Prelude.{IsSome, nat_lt}
use Rattle.std.proofs.lemmas.Bool.Decides.{nat_tests}
use Rattle.plc_base.specs.Kinds.{is_organization_block}
use Rattle.plc_base.specs.Profiles.{most_frames}
use Rattle.plc_base.specs.declared.Profile.{Profile}
use Rattle.plc_base.specs.declared.blocks.BlockId.{BlockId}
use Rattle.plc_base.specs.declared.blocks.BlockKind.{BlockKind}
use Rattle.plc_base.specs.declared.blocks.BlockKind.TheVariants.{Ob, Fc, Fb, Db, Sfc, Udt}
use Rattle.flat_code.specs.Ops.{OpData}
use Rattle.flat_code.specs.Programs.{CodeBlock, Program}
use Rattle.image_file.specs.Readers.{block_by_id, block_ids, is_same_id}
use Rattle.stack_bound.specs.Calls.{CallsBlock, CallsIn, callee_of_op}
use Rattle.stack_bound.specs.Certificates.{bound_of, HasLoadedBlocksOnly}
use Rattle.stack_bound.specs.Chains.{CallEachOther, IsCallChain, most_local_bytes}
use Rattle.stack_bound.specs.Deepest.{IsLoadedObOver, first_over, measure_over, ob_over, over_or}
use Rattle.stack_bound.specs.Finding.{IsOnChain, last_block_of}
use Rattle.stack_bound.specs.Layers.{bound_above, layer_of_height, limit_of_measure, most_called, measure_of_bound, measure_if_bound, measure_in_layer, measure_of_block}
use Rattle.stack_bound.specs.Marks.{with_block_marked, with_callees_marked, mark_called, mark_called_by, mark_callee, mark_ops, marks_of_round, ob_marks}
use Rattle.stack_bound.specs.declared.certificates.Bound.{Bound}
use Rattle.stack_bound.specs.declared.deepest.Over.{Over}
use Rattle.stack_bound.specs.declared.measures.Measure.{Measure}
use Rattle.stack_bound.specs.declared.measures.Measure.TheVariants.{Depth, Bytes}
use Rattle.stack_bound.proofs.BlockLemmas.{same_is}
use Rattle.stack_bound.proofs.MarkLemmas.{mark_len}
use Rattle.stack_bound.proofs.RankLemmas.{IsOneOfBlocks, called_most, layer_has, layer_lacks, loaded_in, layer_counts_block}

-- ---- organization blocks above the limits

less_of : (a b : ℕ) → nat_lt a b ≡ true → a < b
less_of a b is = grind (arith, nat_tests)

more_of : (a b : ℕ) → nat_lt a b ≡ false → b ≤ a
more_of a b is = grind (arith, nat_tests)

is_ob : (k : BlockKind) → is_organization_block k ≡ true → k ≡ Ob
is_ob Ob is = refl
is_ob Fc is = absurd cc
is_ob Fb is = absurd cc
is_ob Db is = absurd cc
is_ob Sfc is = absurd cc
is_ob Udt is = absurd cc

-- a bound that is over in a measure
over_by : (profile : Profile) (b : Option Bound) (m : Measure) → measure_over profile b ≡ Some m
    → limit_of_measure profile m < measure_if_bound m b
over_by profile None m is = absurd cc
over_by profile (Some b) m is = by (nat_lt (limit_of_measure profile Depth) b.depth) refl is
  where
    measure_in : Option Measure → Measure
    measure_in None = m
    measure_in (Some x) = x

    in_bytes : (test : Bool) → nat_lt (limit_of_measure profile Bytes) b.bytes ≡ test
        → (if test then Some Bytes else None) ≡ Some m → limit_of_measure profile m < measure_of_bound m b
    in_bytes true more same =
        subst (λ (x : Measure). limit_of_measure profile x < measure_of_bound x b)
        (ap (λ (o : Option Measure). measure_in o) same) (less_of (limit_of_measure profile Bytes) b.bytes more)
    in_bytes false few same = absurd cc

    by : (test : Bool) → nat_lt (limit_of_measure profile Depth) b.depth ≡ test
        → (if test then Some Depth else if nat_lt (limit_of_measure profile Bytes) b.bytes then Some Bytes else None) ≡ Some m
        → limit_of_measure profile m < measure_of_bound m b
    by true more same =
        subst (λ (x : Measure). limit_of_measure profile x < measure_of_bound x b)
        (ap (λ (o : Option Measure). measure_in o) same) (less_of (limit_of_measure profile Depth) b.depth more)
    by false few same = in_bytes (nat_lt (limit_of_measure profile Bytes) b.bytes) refl same

-- of which a layer says something
said_loaded : (p : Program) (m : Measure) (k : ℕ) (block : BlockId) (n : ℕ)
    → n < measure_in_layer m (layer_of_height (suc k) p) (Some block) → IsSome (block_by_id block p.code_blocks)
said_loaded p m k block n some = by (block_by_id block p.code_blocks) refl
  where
    by : (found : Option CodeBlock) → block_by_id block p.code_blocks ≡ found → IsSome found
    by None is =
        absurd (omega (
          arith,
          some,
          ap (λ (o : Option Bound). measure_if_bound m o) (layer_lacks p (layer_of_height k p) block is),
        ))
    by (Some b) is = refl

over_is : (profile : Profile) (p : Program) (k : ℕ) (id : BlockId) (m : Measure)
    → ob_over profile (layer_of_height (suc k) p) id ≡ Some m
    → IsLoadedObOver profile p (layer_of_height (suc k) p) (record { block = id; measure = m })
over_is profile p k id m is = by (is_organization_block id.kind) refl is
  where
    more : measure_over profile (bound_of id (layer_of_height (suc k) p)) ≡ Some m
        → limit_of_measure profile m < measure_in_layer m (layer_of_height (suc k) p) (Some id)
    more over = over_by profile (bound_of id (layer_of_height (suc k) p)) m over

    by : (test : Bool) → is_organization_block id.kind ≡ test
        → (if test then measure_over profile (bound_of id (layer_of_height (suc k) p)) else None) ≡ Some m
        → IsLoadedObOver profile p (layer_of_height (suc k) p) (record { block = id; measure = m })
    by true ob over = record {
      organization = is_ob id.kind ob;
      loaded = said_loaded p m k id (limit_of_measure profile m) (more over);
      is_over = more over;
    }
    by false ob over = absurd cc

abbrev over_in : Over → Option Over → Over
over_in d None = d
over_in d (Some x) = x

pub first_is_over : (profile : Profile) (p : Program) (k : ℕ) (ids : List BlockId) (over : Over)
    → first_over profile (layer_of_height (suc k) p) ids ≡ Some over → IsLoadedObOver profile p (layer_of_height (suc k) p) over
first_is_over profile p k [] over is = absurd cc
first_is_over profile p k (id ∷ ids) over is =
    by (ob_over profile (layer_of_height (suc k) p) id) refl is (λ later. first_is_over profile p k ids over later)
  where
    by : (found : Option Measure) → ob_over profile (layer_of_height (suc k) p) id ≡ found
        → over_or id found (first_over profile (layer_of_height (suc k) p) ids) ≡ Some over
        → (first_over profile (layer_of_height (suc k) p) ids ≡ Some over → IsLoadedObOver profile p (layer_of_height (suc k) p) over)
        → IsLoadedObOver profile p (layer_of_height (suc k) p) over
    by None none same next = next same
    by (Some m) some same next =
        subst (λ (o : Over). IsLoadedObOver profile p (layer_of_height (suc k) p) o)
        (ap (λ (o : Option Over). over_in over o) same) (over_is profile p k id m some)

none_over : (profile : Profile) (layer : List Bound) (ids : List BlockId) (id : BlockId)
    → first_over profile layer ids ≡ None → IsOneOfBlocks id ids → ob_over profile layer id ≡ None
none_over profile layer [] id is there = absurd there
none_over profile layer (one ∷ ids) id is there =
    by (ob_over profile layer one) refl is there (λ none later. none_over profile layer ids id none later)
  where
    by : (found : Option Measure) → ob_over profile layer one ≡ found
        → over_or one found (first_over profile layer ids) ≡ None → (one ≡ id) ⊎ IsOneOfBlocks id ids
        → (first_over profile layer ids ≡ None → IsOneOfBlocks id ids → ob_over profile layer id ≡ None)
        → ob_over profile layer id ≡ None
    by None none rest (inl here) next =
        subst (λ (x : BlockId). ob_over profile layer x ≡ None) here none
    by None none rest (inr later) next = next rest later
    by (Some m) some rest among next = absurd cc

-- a bound that isn't over
within_by : (profile : Profile) (b : Bound) → measure_over profile (Some b) ≡ None
    → (b.depth ≤ most_frames profile) × (b.bytes ≤ most_local_bytes)
within_by profile b is = by (nat_lt (limit_of_measure profile Depth) b.depth) refl is
  where
    in_bytes : (test : Bool) → nat_lt (limit_of_measure profile Bytes) b.bytes ≡ test
        → (if test then Some Bytes else None) ≡ None → b.bytes ≤ most_local_bytes
    in_bytes true more none = absurd cc
    in_bytes false few none = more_of most_local_bytes b.bytes few

    by : (test : Bool) → nat_lt (limit_of_measure profile Depth) b.depth ≡ test
        → (if test then Some Depth else if nat_lt (limit_of_measure profile Bytes) b.bytes then Some Bytes else None) ≡ None
        → (b.depth ≤ most_frames profile) × (b.bytes ≤ most_local_bytes)
    by true more none = absurd cc
    by false few none =
        (more_of (most_frames profile) b.depth few, in_bytes (nat_lt (limit_of_measure profile Bytes) b.bytes) refl none)

-- no organization block is above the limits
abbrev pub NoneOver : Profile → Program → List Bound → Type 0
NoneOver profile p layer = first_over profile layer (block_ids p) ≡ None

pub ob_within : (profile : Profile) (p : Program) (layer : List Bound) (ob : BlockId) (b : CodeBlock) (e : Bound)
    → NoneOver profile p layer → ob.kind ≡ Ob → block_by_id ob p.code_blocks ≡ Some b
    → bound_of ob layer ≡ Some e → (e.depth ≤ most_frames profile) × (e.bytes ≤ most_local_bytes)
ob_within profile p layer ob b e none kind there found =
    within_by profile e
    (sym (ap (λ (o : Option Bound). measure_over profile o) found)
    ∙ sym (ap (λ (k : BlockKind). if is_organization_block k then measure_over profile (bound_of ob layer) else None) kind)
    ∙ none_over profile layer (block_ids p) ob none (loaded_in p ob b there))

-- ---- depths on chains

-- the highest layer of a profile
abbrev pub highest : Profile → Program → List Bound
highest profile p = layer_of_height (suc (most_frames profile)) p

below_top : (n most : ℕ) → n ≤ most → n < suc most
below_top n most is = omega (arith, is)

counts_in : (x w most called : ℕ) → x ≡ w + most → called ≤ most → w + called ≤ x
counts_in x w most called is less = omega (arith, is, less)

-- where a block isn't deep, its numbers count what it calls
pub counts_down : (profile : Profile) (p : Program) (m : Measure) (x called : BlockId) (b : CodeBlock)
    → block_by_id x p.code_blocks ≡ Some b → CallsIn b.code called
    → measure_in_layer Depth (highest profile p) (Some x) ≤ most_frames profile
    → measure_of_block m b + measure_in_layer m (highest profile p) (Some called) ≤ measure_in_layer m (highest profile p) (Some x)
counts_down profile p m x called b there calls few =
    counts_in (measure_in_layer m (highest profile p) (Some x)) (measure_of_block m b)
    (most_called m (highest profile p) b.code) (measure_in_layer m (highest profile p) (Some called))
    (layer_counts_block m p (suc (most_frames profile)) x b there
    (below_top (measure_in_layer Depth (highest profile p) (Some x)) (most_frames profile) few))
    (called_most m (highest profile p) b.code called calls)

down_one : (d x most : ℕ) → 1 + d ≤ x → x ≤ most → d ≤ most
down_one d x most less few = omega (arith, less, few)

down_more : (last n d x : ℕ) → last + n ≤ d → 1 + d ≤ x → last + suc n ≤ x
down_more last n d x one other = omega (arith, one, other)

down_none : (x : ℕ) → x + 0 ≤ x
down_none x = omega arith

down_chain : (profile : Profile) (p : Program) (x : BlockId) (rest : List BlockId)
    → measure_in_layer Depth (highest profile p) (Some x) ≤ most_frames profile → CallEachOther p x rest
    → measure_in_layer Depth (highest profile p) (Some (last_block_of x rest)) + length rest
    ≤ measure_in_layer Depth (highest profile p) (Some x)
down_chain profile p x [] few each = down_none (measure_in_layer Depth (highest profile p) (Some x))
down_chain profile p x (d ∷ more) few each =
    down_more (measure_in_layer Depth (highest profile p) (Some (last_block_of d more))) (length more)
    (measure_in_layer Depth (highest profile p) (Some d)) (measure_in_layer Depth (highest profile p) (Some x))
    (down_chain profile p d more
    (down_one (measure_in_layer Depth (highest profile p) (Some d)) (measure_in_layer Depth (highest profile p) (Some x))
    (most_frames profile) step few) each.1) step
  where
    step : 1 + measure_in_layer Depth (highest profile p) (Some d) ≤ measure_in_layer Depth (highest profile p) (Some x)
    step = counts_down profile p Depth x d each.0.from each.0.is_loaded each.0.calls few

ob_few : (profile : Profile) (p : Program) (ob : BlockId) → NoneOver profile p (highest profile p)
    → ob.kind ≡ Ob → IsSome (block_by_id ob p.code_blocks)
    → measure_in_layer Depth (highest profile p) (Some ob) ≤ most_frames profile
ob_few profile p ob none kind loaded = by (block_by_id ob p.code_blocks) refl loaded
  where
    by : (found : Option CodeBlock) → block_by_id ob p.code_blocks ≡ found → IsSome found
        → measure_in_layer Depth (highest profile p) (Some ob) ≤ most_frames profile
    by None there isnt = absurd cc
    by (Some b) there some =
        subst (λ (o : Option Bound). measure_if_bound Depth o ≤ most_frames profile)
        (sym (layer_has p (layer_of_height (most_frames profile) p) ob b there))
        (ob_within profile p (highest profile p) ob b (bound_above (layer_of_height (most_frames profile) p) ob b) none kind
        there (layer_has p (layer_of_height (most_frames profile) p) ob b there)).0

first_of : (a n most : ℕ) → a + n ≤ most → a ≤ most
first_of a n most is = omega (arith, is)

rest_of : (a n most : ℕ) → a + n ≤ most → n ≤ most
rest_of a n most is = omega (arith, is)

within_of : (a b most : ℕ) → a ≤ b → b ≤ most → a ≤ most
within_of a b most one other = omega (arith, one, other)

chain_few : (profile : Profile) (p : Program) (x : BlockId) (on : IsOnChain p x)
    → NoneOver profile p (highest profile p)
    → measure_in_layer Depth (highest profile p) (Some x) + length on.rest ≤ most_frames profile
chain_few profile p x on none =
    subst (λ (y : BlockId). measure_in_layer Depth (highest profile p) (Some y) + length on.rest ≤ most_frames profile)
    on.ends
    (within_of (measure_in_layer Depth (highest profile p) (Some (last_block_of on.ob on.rest)) + length on.rest)
    (measure_in_layer Depth (highest profile p) (Some on.ob)) (most_frames profile)
    (down_chain profile p on.ob on.rest few on.is_chain.2) few)
  where
    few : measure_in_layer Depth (highest profile p) (Some on.ob) ≤ most_frames profile
    few = ob_few profile p on.ob none on.is_chain.0 on.is_chain.1

-- no block on a chain is deep
pub few_on_chain : (profile : Profile) (p : Program) (x : BlockId) → IsOnChain p x
    → NoneOver profile p (highest profile p)
    → measure_in_layer Depth (highest profile p) (Some x) ≤ most_frames profile
few_on_chain profile p x on none =
    first_of (measure_in_layer Depth (highest profile p) (Some x)) (length on.rest) (most_frames profile)
    (chain_few profile p x on none)

-- ---- one block more

extend : (p : Program) (x : BlockId) (rest : List BlockId) (y : BlockId) → CallEachOther p x rest
    → CallsBlock p (last_block_of x rest) y → CallEachOther p x (rest ++ y ∷ [])
extend p x [] y each calls = (calls, tt)
extend p x (d ∷ more) y each calls = (each.0, extend p d more y each.1 calls)

last_more : (x : BlockId) (rest : List BlockId) (y : BlockId) → last_block_of x (rest ++ y ∷ []) ≡ y
last_more x [] y = refl
last_more x (d ∷ more) y = last_more d more y

pub on_chain_more : (p : Program) (x y : BlockId) → IsOnChain p x → CallsBlock p x y → IsOnChain p y
on_chain_more p x y on calls = record {
  ob = on.ob;
  rest = on.rest ++ y ∷ [];
  is_chain = (
    on.is_chain.0,
    on.is_chain.1,
    extend p on.ob on.rest y on.is_chain.2
        (subst (λ (z : BlockId). CallsBlock p z y) (sym on.ends) calls),
  );
  ends = last_more on.ob on.rest y;
}

pub ob_on_chain : (p : Program) (ob : BlockId) → ob.kind ≡ Ob → IsSome (block_by_id ob p.code_blocks)
    → IsOnChain p ob
ob_on_chain p ob kind loaded =
    record { ob = ob; rest = []; is_chain = (kind, loaded, tt); ends = refl }

-- ---- the first entry of a block is marked

abbrev pub FirstOf : List Bool → List Bound → BlockId → Type 0
FirstOf marks [] x = Unit {0}
FirstOf [] (b ∷ list) x = ⊥
FirstOf (m ∷ marks) (b ∷ list) x =
    (is_same_id b.block x ≡ true → m ≡ true) × (is_same_id b.block x ≡ false → FirstOf marks list x)

not_both : (test : Bool) → test ≡ true → test ≡ false → ⊥
not_both test is isnt = let e : true ≡ false = sym is ∙ isnt in cc

mark_keeps : (marks : List Bool) (list : List Bound) (y x : BlockId) → FirstOf marks list x
    → FirstOf (with_block_marked marks list y) list x
mark_keeps [] [] y x all = tt
mark_keeps [] (b ∷ list) y x all = all
mark_keeps (m ∷ marks) [] y x all = tt
mark_keeps (m ∷ marks) (b ∷ list) y x all =
    by (is_same_id b.block y) (λ apart. mark_keeps marks list y x (all.1 apart))
  where
    by : (test : Bool) → (is_same_id b.block x ≡ false → FirstOf (with_block_marked marks list y) list x)
        → FirstOf (if test then true ∷ marks else m ∷ with_block_marked marks list y) (b ∷ list) x
    by true rest = (λ same. refl, all.1)
    by false rest = (all.0, rest)

mark_marks : (marks : List Bool) (list : List Bound) (x : BlockId) → length marks ≡ length list
    → FirstOf (with_block_marked marks list x) list x
mark_marks [] [] x same = tt
mark_marks [] (b ∷ list) x same = absurd (omega (arith, same))
mark_marks (m ∷ marks) [] x same = tt
mark_marks (m ∷ marks) (b ∷ list) x same =
    by (is_same_id b.block x) refl (mark_marks marks list x (omega (arith, same)))
  where
    by : (test : Bool) → is_same_id b.block x ≡ test → FirstOf (with_block_marked marks list x) list x
        → FirstOf (if test then true ∷ marks else m ∷ with_block_marked marks list x) (b ∷ list) x
    by true is rest = (λ here. refl, λ apart. absurd (not_both (is_same_id b.block x) is apart))
    by false apart rest = (λ here. absurd (not_both (is_same_id b.block x) here apart), λ isnt. rest)

callee_keeps : (marks : List Bool) (list : List Bound) (callee : Option BlockId) (x : BlockId)
    → FirstOf marks list x → FirstOf (mark_callee marks list callee) list x
callee_keeps marks list None x all = all
callee_keeps marks list (Some y) x all = mark_keeps marks list y x all

callee_len : (marks : List Bool) (list : List Bound) (callee : Option BlockId)
    → length (mark_callee marks list callee) ≡ length marks
callee_len marks list None = refl
callee_len marks list (Some block) = mark_len marks list block

ops_keep : (marks : List Bool) (list : List Bound) (ops : List OpData) (x : BlockId) → FirstOf marks list x
    → FirstOf (mark_ops marks list ops) list x
ops_keep marks list [] x all = all
ops_keep marks list (op ∷ ops) x all =
    ops_keep (mark_callee marks list (callee_of_op op)) list ops x
    (callee_keeps marks list (callee_of_op op) x all)

ops_len : (marks : List Bool) (list : List Bound) (ops : List OpData)
    → length (mark_ops marks list ops) ≡ length marks
ops_len marks list [] = refl
ops_len marks list (op ∷ ops) =
    ops_len (mark_callee marks list (callee_of_op op)) list ops ∙ callee_len marks list (callee_of_op op)

ops_mark : (marks : List Bool) (list : List Bound) (ops : List OpData) (x : BlockId)
    → length marks ≡ length list → CallsIn ops x → FirstOf (mark_ops marks list ops) list x
ops_mark marks list [] x same calls = absurd calls
ops_mark marks list (op ∷ ops) x same (inl here) =
    ops_keep (mark_callee marks list (callee_of_op op)) list ops x
    (subst (λ (o : Option BlockId). FirstOf (mark_callee marks list o) list x) (sym here)
    (mark_marks marks list x same))
ops_mark marks list (op ∷ ops) x same (inr later) =
    ops_mark (mark_callee marks list (callee_of_op op)) list ops x (callee_len marks list (callee_of_op op) ∙ same) later

abbrev one_round : Program → List Bound → List Bool → Bool → Bound → List Bool
one_round p list marks m b =
    if m then mark_called_by p marks list b else marks

called_keeps : (marks : List Bool) (list : List Bound) (b : Option CodeBlock) (x : BlockId) → FirstOf marks list x
    → FirstOf (mark_called marks list b) list x
called_keeps marks list None x all = all
called_keeps marks list (Some b) x all = ops_keep marks list b.code x all

called_len : (marks : List Bool) (list : List Bound) (b : Option CodeBlock)
    → length (mark_called marks list b) ≡ length marks
called_len marks list None = refl
called_len marks list (Some b) = ops_len marks list b.code

round_keeps : (p : Program) (list : List Bound) (marks : List Bool) (m : Bool) (b : Bound) (x : BlockId)
    → FirstOf marks list x → FirstOf (one_round p list marks m b) list x
round_keeps p list marks true b x all = called_keeps marks list (block_by_id b.block p.code_blocks) x all
round_keeps p list marks false b x all = all

round_len : (p : Program) (list : List Bound) (marks : List Bool) (m : Bool) (b : Bound)
    → length (one_round p list marks m b) ≡ length marks
round_len p list marks true b = called_len marks list (block_by_id b.block p.code_blocks)
round_len p list marks false b = refl

all_keep : (p : Program) (list : List Bound) (marks before : List Bool) (left : List Bound) (x : BlockId)
    → FirstOf marks list x → FirstOf (with_callees_marked p list marks before left) list x
all_keep p list marks [] left x all = all
all_keep p list marks (m ∷ before) [] x all = all
all_keep p list marks (m ∷ before) (b ∷ left) x all =
    all_keep p list (one_round p list marks m b) before left x (round_keeps p list marks m b x all)

-- what a marked block calls is marked
all_mark : (p : Program) (list : List Bound) (marks before : List Bool) (left : List Bound) (x y : BlockId)
    (b : CodeBlock) (e : Bound) → length marks ≡ length list → FirstOf before left x → bound_of x left ≡ Some e
    → block_by_id x p.code_blocks ≡ Some b → CallsIn b.code y → FirstOf (with_callees_marked p list marks before left) list y
all_mark p list marks before [] x y b e same all found there calls = absurd cc
all_mark p list marks [] (d ∷ left) x y b e same all found there calls = absurd all
all_mark p list marks (m ∷ before) (d ∷ left) x y b e same all found there calls =
    by (is_same_id d.block x) refl found
    (λ apart later. all_mark p list (one_round p list marks m d) before left x y b e
    (round_len p list marks m d ∙ same) (all.1 apart) later there calls)
  where
    here : is_same_id d.block x ≡ true → FirstOf (one_round p list marks m d) list y
    here is =
        subst (λ (n : Bool). FirstOf (one_round p list marks n d) list y) (sym (all.0 is))
        (subst (λ (o : Option CodeBlock). FirstOf (mark_called marks list o) list y)
        (sym (ap (λ (z : BlockId). block_by_id z p.code_blocks) (same_is d.block x is) ∙ there))
        (ops_mark marks list b.code y same calls))

    by : (test : Bool) → is_same_id d.block x ≡ test → (if test then Some d else bound_of x left) ≡ Some e
        → (is_same_id d.block x ≡ false → bound_of x left ≡ Some e
        → FirstOf (with_callees_marked p list (one_round p list marks m d) before left) list y)
        → FirstOf (with_callees_marked p list (one_round p list marks m d) before left) list y
    by true is first next = all_keep p list (one_round p list marks m d) before left y (here is)
    by false is later next = next is later

obs_mark : (list : List Bound) (ob : BlockId) → ob.kind ≡ Ob → FirstOf (ob_marks list) list ob
obs_mark [] ob kind = tt
obs_mark (b ∷ list) ob kind = (
  λ same. ap (λ (x : BlockId). is_organization_block x.kind) (same_is b.block ob same)
      ∙ ap is_organization_block kind,
  λ apart. obs_mark list ob kind,
)

obs_len : (list : List Bound) → length (ob_marks list) ≡ length list
obs_len [] = refl
obs_len (b ∷ list) = omega (arith, obs_len list)

-- a chain without its last block
abbrev front_of : BlockId → List BlockId → List BlockId
front_of d [] = []
front_of d (e ∷ more) = d ∷ front_of e more

front_calls : (p : Program) (x d : BlockId) (more : List BlockId) → CallEachOther p x (d ∷ more)
    → CallEachOther p x (front_of d more)
front_calls p x d [] each = tt
front_calls p x d (e ∷ more) each = (each.0, front_calls p d e more each.1)

last_calls : (p : Program) (x d : BlockId) (more : List BlockId) → CallEachOther p x (d ∷ more)
    → CallsBlock p (last_block_of x (front_of d more)) (last_block_of d more)
last_calls p x d [] each = each.0
last_calls p x d (e ∷ more) each = last_calls p d e more each.1

front_len : (d : BlockId) (more : List BlockId) → length (front_of d more) ≡ length more
front_len d [] = refl
front_len d (e ∷ more) = omega (arith, front_len e more)

fewer : (a n k : ℕ) → a ≡ n → suc n ≤ suc k → a ≤ k
fewer a n k is less = omega (arith, is, less)

-- after so many rounds the last block of a chain is marked
rounds_mark : (p : Program) (j k : ℕ) (ob : BlockId) (rest : List BlockId) → IsCallChain p (ob ∷ rest)
    → length rest ≤ k → FirstOf (marks_of_round k p (layer_of_height (suc j) p)) (layer_of_height (suc j) p) (last_block_of ob rest)
rounds_mark p j zero ob [] is few = obs_mark (layer_of_height (suc j) p) ob is.0
rounds_mark p j zero ob (d ∷ more) is few = absurd (omega (arith, few))
rounds_mark p j (suc k) ob [] is few =
    all_keep p (layer_of_height (suc j) p) (ob_marks (layer_of_height (suc j) p)) (marks_of_round k p (layer_of_height (suc j) p)) (layer_of_height (suc j) p) ob
    (obs_mark (layer_of_height (suc j) p) ob is.0)
rounds_mark p j (suc k) ob (d ∷ more) is few =
    all_mark p (layer_of_height (suc j) p) (ob_marks (layer_of_height (suc j) p)) (marks_of_round k p (layer_of_height (suc j) p)) (layer_of_height (suc j) p)
    (last_block_of ob (front_of d more)) (last_block_of d more) call.from
    (bound_above (layer_of_height j p) (last_block_of ob (front_of d more)) call.from) (obs_len (layer_of_height (suc j) p))
    (rounds_mark p j k ob (front_of d more) (is.0, is.1, front_calls p ob d more is.2)
    (fewer (length (front_of d more)) (length more) k (front_len d more) few))
    (layer_has p (layer_of_height j p) (last_block_of ob (front_of d more)) call.from call.is_loaded) call.is_loaded call.calls
  where
    call : CallsBlock p (last_block_of ob (front_of d more)) (last_block_of d more)
    call = last_calls p ob d more is.2

-- so is each block on a chain
pub marked_on_chain : (profile : Profile) (p : Program) (x : BlockId) → IsOnChain p x
    → NoneOver profile p (highest profile p)
    → FirstOf (marks_of_round (most_frames profile) p (highest profile p)) (highest profile p) x
marked_on_chain profile p x on none =
    subst (λ (y : BlockId). FirstOf (marks_of_round (most_frames profile) p (highest profile p)) (highest profile p) y) on.ends
    (rounds_mark p (most_frames profile) (most_frames profile) on.ob on.rest on.is_chain
    (rest_of (measure_in_layer Depth (highest profile p) (Some x)) (length on.rest) (most_frames profile)
    (chain_few profile p x on none)))

-- ---- and no other block is

abbrev pub EachMarked : (Bound → Type 0) → List Bool → List Bound → Type 0
EachMarked P marks [] = Unit {0}
EachMarked P [] (b ∷ list) = Unit {0}
EachMarked P (m ∷ marks) (b ∷ list) = (m ≡ true → P b) × EachMarked P marks list

-- each marked block stands on a chain
abbrev pub AreOnChains : Program → List Bool → List Bound → Type 0
AreOnChains p marks list = EachMarked (λ (b : Bound). IsOnChain p b.block) marks list

mark_sound : (p : Program) (marks : List Bool) (list : List Bound) (x : BlockId)
    → (IsSome (block_by_id x p.code_blocks) → IsOnChain p x) → HasLoadedBlocksOnly p list → AreOnChains p marks list
    → AreOnChains p (with_block_marked marks list x) list
mark_sound p [] [] x on loaded sound = tt
mark_sound p [] (b ∷ list) x on loaded sound = tt
mark_sound p (m ∷ marks) [] x on loaded sound = tt
mark_sound p (m ∷ marks) (b ∷ list) x on loaded sound =
    by (is_same_id b.block x) refl (mark_sound p marks list x on loaded.1 sound.1)
  where
    by : (test : Bool) → is_same_id b.block x ≡ test → AreOnChains p (with_block_marked marks list x) list
        → AreOnChains p (if test then true ∷ marks else m ∷ with_block_marked marks list x) (b ∷ list)
    by true same rest = (
      λ is. subst (λ (y : BlockId). IsOnChain p y) (sym (same_is b.block x same))
          (on (subst (λ (y : BlockId). IsSome (block_by_id y p.code_blocks)) (same_is b.block x same) loaded.0)),
      sound.1,
    )
    by false apart rest = (sound.0, rest)

ops_sound : (p : Program) (marks : List Bool) (list : List Bound) (ops : List OpData) (x : BlockId) (b : CodeBlock)
    → block_by_id x p.code_blocks ≡ Some b → IsOnChain p x
    → ((y : BlockId) → CallsIn ops y → CallsIn b.code y) → HasLoadedBlocksOnly p list → AreOnChains p marks list
    → AreOnChains p (mark_ops marks list ops) list
ops_sound p marks list [] x b there on among loaded sound = sound
ops_sound p marks list (op ∷ ops) x b there on among loaded sound =
    ops_sound p (mark_callee marks list (callee_of_op op)) list ops x b there on (λ y calls. among y (inr calls)) loaded
    (by (callee_of_op op) refl)
  where
    called : (y : BlockId) → CallsIn b.code y → (found : Option CodeBlock) → block_by_id y p.code_blocks ≡ found
        → IsSome found → IsOnChain p y
    called y calls None none isnt = absurd cc
    called y calls (Some d) to some =
        on_chain_more p x y on
        (record { from = b; to = d; is_loaded = there; called_is_loaded = to; calls = calls })

    by : (callee : Option BlockId) → callee_of_op op ≡ callee → AreOnChains p (mark_callee marks list callee) list
    by None is = sound
    by (Some y) is =
        mark_sound p marks list y
        (λ some. called y (among y (inl is)) (block_by_id y p.code_blocks) refl some) loaded sound

all_sound : (p : Program) (list : List Bound) (marks before : List Bool) (left : List Bound) → HasLoadedBlocksOnly p list
    → AreOnChains p before left → AreOnChains p marks list
    → AreOnChains p (with_callees_marked p list marks before left) list
all_sound p list marks [] left loaded were sound = sound
all_sound p list marks (m ∷ before) [] loaded were sound = sound
all_sound p list marks (m ∷ before) (b ∷ left) loaded were sound =
    all_sound p list (one_round p list marks m b) before left loaded were.1 (by m were.0)
  where
    called : (found : Option CodeBlock) → block_by_id b.block p.code_blocks ≡ found → IsOnChain p b.block
        → AreOnChains p (mark_called marks list found) list
    called None there on = sound
    called (Some c) there on =
        ops_sound p marks list c.code b.block c there on (λ y calls. calls) loaded sound

    by : (n : Bool) → (n ≡ true → IsOnChain p b.block) → AreOnChains p (one_round p list marks n b) list
    by true on = called (block_by_id b.block p.code_blocks) refl (on refl)
    by false on = sound

obs_sound : (p : Program) (list : List Bound) → HasLoadedBlocksOnly p list → AreOnChains p (ob_marks list) list
obs_sound p [] loaded = tt
obs_sound p (b ∷ list) loaded =
    (λ is. ob_on_chain p b.block (is_ob b.block.kind is) loaded.0, obs_sound p list loaded.1)

pub marks_sound : (p : Program) (list : List Bound) (k : ℕ) → HasLoadedBlocksOnly p list
    → AreOnChains p (marks_of_round k p list) list
marks_sound p list zero loaded = obs_sound p list loaded
marks_sound p list (suc k) loaded =
    all_sound p list (ob_marks list) (marks_of_round k p list) list loaded (marks_sound p list k loaded)
    (obs_sound p list loaded)
