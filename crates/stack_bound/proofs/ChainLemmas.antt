-- Chains that lead above the limits.
use Rattle.std.proofs.Common.{◌≡◌, ◌⊎◌, inl, inr, ℕ, zero, suc, ◌+◌, ◌<◌, ◌≤◌, Bool, true, false, List, [], ◌∷◌, ◌++◌, length, Option, Some, None, refl, sym, ap, ◌∙◌, subst, arith}
use Rattle.std.specs.Prelude.{IsSome, ◌||◌, nat_lt, take}
use Rattle.std.proofs.lemmas.Bool.{or_parts}
use Rattle.std.proofs.lemmas.Bool.Decides.{nat_tests}
use Rattle.plc_base.specs.Profiles.{most_frames}
use Rattle.plc_base.specs.declared.Profile.{Profile}
use Rattle.plc_base.specs.declared.blocks.BlockId.{BlockId}
use Rattle.flat_code.specs.Programs.{CodeBlock, Program}
use Rattle.image_file.specs.Readers.{block_by_id}
use Rattle.stack_bound.specs.Calls.{CallsBlock, CallsIn}
use Rattle.stack_bound.specs.Chains.{CallEachOther, IsCallChain, IsTooDeep, bytes_of_chain, local_bytes, most_local_bytes}
use Rattle.stack_bound.specs.Deepest.{IsMostCalled, IsLoadedObOver, LeadsOver, is_chain_too_deep, measure_of_chain}
use Rattle.stack_bound.specs.Finding.{IsDeepChain}
use Rattle.stack_bound.specs.Layers.{layer_of_height, limit_of_measure, most_called, measure_if_bound, measure_in_layer, measure_of_block}
use Rattle.stack_bound.specs.declared.certificates.Bound.{Bound}
use Rattle.stack_bound.specs.declared.deepest.Over.{Over}
use Rattle.stack_bound.specs.declared.measures.Measure.{Measure}
use Rattle.stack_bound.specs.declared.measures.Measure.TheVariants.{Depth, Bytes}
use Rattle.stack_bound.proofs.RankLemmas.{at_most, layer_lacks}

less_of : (a b : ℕ) → nat_lt a b ≡ true → a < b
less_of a b is = grind (arith, nat_tests)

more_of : (a b : ℕ) → nat_lt a b ≡ false → b ≤ a
more_of a b is = grind (arith, nat_tests)

-- ---- one block more

calls_more : (p : Program) (first : BlockId) (rest : List BlockId) (x y : BlockId)
    → CallEachOther p first (rest ++ x ∷ []) → CallsBlock p x y
    → CallEachOther p first ((rest ++ x ∷ []) ++ y ∷ [])
calls_more p first [] x y each calls = (each.0, (calls, tt))
calls_more p first (next ∷ rest) x y each calls = (each.0, calls_more p next rest x y each.1 calls)

chain_more : (p : Program) (chain : List BlockId) (x y : BlockId) → IsCallChain p (chain ++ x ∷ [])
    → CallsBlock p x y → IsCallChain p ((chain ++ x ∷ []) ++ y ∷ [])
chain_more p [] x y is calls = (is.0, is.1, (calls, tt))
chain_more p (ob ∷ rest) x y is calls = (is.0, is.1, calls_more p ob rest x y is.2 calls)

len_more : (chain : List BlockId) (x : BlockId) → length (chain ++ x ∷ []) ≡ length chain + 1
len_more [] x = refl
len_more (first ∷ chain) x = omega (arith, len_more chain x)

sum_more : (a b c : ℕ) → (a + b) + c ≡ a + (b + c)
sum_more a b c = omega arith

bytes_more : (p : Program) (chain : List BlockId) (x : BlockId) (b : CodeBlock)
    → block_by_id x p.code_blocks ≡ Some b
    → bytes_of_chain p (chain ++ x ∷ []) ≡ bytes_of_chain p chain + b.local_len
bytes_more p [] x b is =
    ap (λ (o : Option CodeBlock). local_bytes o + 0) is ∙ omega arith
bytes_more p (first ∷ chain) x b is =
    ap (λ (n : ℕ). local_bytes (block_by_id first p.code_blocks) + n) (bytes_more p chain x b is)
    ∙ sym (sum_more (local_bytes (block_by_id first p.code_blocks)) (bytes_of_chain p chain) b.local_len)

total_more : (m : Measure) (p : Program) (chain : List BlockId) (x : BlockId) (b : CodeBlock)
    → block_by_id x p.code_blocks ≡ Some b → measure_of_chain m p (chain ++ x ∷ []) ≡ measure_of_chain m p chain + measure_of_block m b
total_more Depth p chain x b is = len_more chain x
total_more Bytes p chain x b is = bytes_more p chain x b is

-- ---- fronts

front_len : (n : ℕ) (chain : List BlockId) → length (take n chain) ≤ n
front_len zero chain = omega arith
front_len (suc n) [] = omega arith
front_len (suc n) (first ∷ chain) = omega (arith, front_len n chain)

front_bytes : (p : Program) (n : ℕ) (chain : List BlockId) (x : BlockId) → n ≤ length chain
    → bytes_of_chain p (take n (chain ++ x ∷ [])) ≤ bytes_of_chain p chain
front_bytes p zero chain x less = omega arith
front_bytes p (suc n) [] x less = absurd (omega (arith, less))
front_bytes p (suc n) (first ∷ chain) x less =
    omega (arith, front_bytes p n chain x (omega (arith, less)))

within_front : (a b most : ℕ) → a ≤ b → b ≤ most → most < a → ⊥
within_front a b most one other more = omega (arith, one, other, more)

not_deep : (profile : Profile) (p : Program) (chain : List BlockId) (x : BlockId) (n : ℕ)
    → length chain ≤ most_frames profile → bytes_of_chain p chain ≤ most_local_bytes
    → n < length (chain ++ x ∷ []) → IsTooDeep profile p (take n (chain ++ x ∷ [])) → ⊥
not_deep profile p chain x n few within less deep = by deep
  where
    short : n ≤ length chain
    short = omega (arith, less, len_more chain x)

    by : (most_frames profile < length (take n (chain ++ x ∷ [])))
        ⊎ (most_local_bytes < bytes_of_chain p (take n (chain ++ x ∷ []))) → ⊥
    by (inl more) =
        within_front (length (take n (chain ++ x ∷ []))) n (most_frames profile)
        (front_len n (chain ++ x ∷ [])) (omega (arith, short, few)) more
    by (inr more) =
        within_front (bytes_of_chain p (take n (chain ++ x ∷ []))) (bytes_of_chain p chain) most_local_bytes
        (front_bytes p n chain x short) within more

deep_is : (profile : Profile) (p : Program) (chain : List BlockId) (bytes : ℕ)
    → bytes ≡ bytes_of_chain p chain → is_chain_too_deep profile (length chain) bytes ≡ true
    → IsTooDeep profile p chain
deep_is profile p chain bytes total_is is =
    by (nat_lt (most_frames profile) (length chain)) refl
  where
    second : (a b : Bool) → (a || b) ≡ true → a ≡ false → b ≡ true
    second a b either fails = grind (arith, nat_tests)

    by : (test : Bool) → nat_lt (most_frames profile) (length chain) ≡ test
        → (most_frames profile < length chain) ⊎ (most_local_bytes < bytes_of_chain p chain)
    by true more = inl (less_of (most_frames profile) (length chain) more)
    by false few =
        inr (subst (λ (n : ℕ). most_local_bytes < n) total_is
        (less_of most_local_bytes bytes
        (second (nat_lt (most_frames profile) (length chain)) (nat_lt most_local_bytes bytes) is few)))

-- ---- the ways of the search

pub begins : (profile : Profile) (p : Program) (layer : List Bound) (over : Over)
    → IsLoadedObOver profile p layer over
    → LeadsOver profile p over.measure layer [] over.block 0
begins profile p layer over is = record {
  is_chain = (is.organization, is.loaded, tt);
  loaded = is.loaded;
  total_is = refl;
  few = omega arith;
  within = omega arith;
  over = by over.measure is.is_over;
}
  where
    by : (m : Measure) → limit_of_measure profile m < measure_in_layer m layer (Some over.block)
        → limit_of_measure profile m < measure_of_chain m p [] + measure_in_layer m layer (Some over.block)
    by Depth more = omega (arith, more)
    by Bytes more = omega (arith, more)

bytes_are : (bytes len a b : ℕ) → bytes ≡ a → b ≡ a + len → bytes + len ≡ b
bytes_are bytes len a b one other = omega (arith, one, other)

pub ends_deep : (profile : Profile) (p : Program) (m : Measure) (layer : List Bound) (chain : List BlockId)
    (block : BlockId) (bytes : ℕ) (b : CodeBlock) → LeadsOver profile p m layer chain block bytes
    → block_by_id block p.code_blocks ≡ Some b
    → is_chain_too_deep profile (length (chain ++ block ∷ [])) (bytes + b.local_len) ≡ true
    → IsDeepChain profile p (chain ++ block ∷ [])
ends_deep profile p m layer chain block bytes b leads is deep = record {
  is_chain = leads.is_chain;
  deep =
      deep_is profile p (chain ++ block ∷ []) (bytes + b.local_len)
      (bytes_are bytes b.local_len (bytes_of_chain p chain) (bytes_of_chain p (chain ++ block ∷ [])) leads.total_is
      (bytes_more p chain block b is)) deep;
  front =
      λ n less too. not_deep profile p chain block n leads.few
      (subst (λ (x : ℕ). x ≤ most_local_bytes) leads.total_is leads.within) less too;
}

-- what the layer says of a called block, with the chain before it, is above the limits
above_more : (limit t w most number t2 : ℕ) → limit < t + number → number ≤ w + most → t2 ≡ t + w
    → limit < t2 + most
above_more limit t w most number t2 over at is = omega (arith, over, at, is)

over_more : (profile : Profile) (p : Program) (m : Measure) (k : ℕ) (chain : List BlockId) (block : BlockId)
    (b : CodeBlock) → limit_of_measure profile m < measure_of_chain m p chain + measure_in_layer m (layer_of_height (suc k) p) (Some block)
    → block_by_id block p.code_blocks ≡ Some b
    → limit_of_measure profile m < measure_of_chain m p (chain ++ block ∷ []) + most_called m (layer_of_height (suc k) p) b.code
over_more profile p m k chain block b over is =
    above_more (limit_of_measure profile m) (measure_of_chain m p chain) (measure_of_block m b) (most_called m (layer_of_height (suc k) p) b.code)
    (measure_in_layer m (layer_of_height (suc k) p) (Some block)) (measure_of_chain m p (chain ++ block ∷ [])) over
    (at_most m p k block b is) (total_more m p chain block b is)

not_too : (profile : Profile) (blocks bytes : ℕ) → is_chain_too_deep profile blocks bytes ≡ false
    → (blocks ≤ most_frames profile) × (bytes ≤ most_local_bytes)
not_too profile blocks bytes is =
    let parts = or_parts (nat_lt (most_frames profile) blocks) (nat_lt most_local_bytes bytes) is in
    (more_of (most_frames profile) blocks parts.0, more_of most_local_bytes bytes parts.1)

-- a block of which a layer says something is loaded
said_loaded : (p : Program) (m : Measure) (k : ℕ) (block : BlockId)
    → 0 < measure_in_layer m (layer_of_height (suc k) p) (Some block) → IsSome (block_by_id block p.code_blocks)
said_loaded p m k block some = by (block_by_id block p.code_blocks) refl
  where
    by : (found : Option CodeBlock) → block_by_id block p.code_blocks ≡ found → IsSome found
    by None is =
        absurd (omega (
          arith,
          some,
          ap (λ (o : Option Bound). measure_if_bound m o) (layer_lacks p (layer_of_height k p) block is),
        ))
    by (Some b) is = refl

calls_of : (p : Program) (block called : BlockId) (b : CodeBlock) → block_by_id block p.code_blocks ≡ Some b
    → CallsIn b.code called → IsSome (block_by_id called p.code_blocks) → CallsBlock p block called
calls_of p block called b is calls loaded = by (block_by_id called p.code_blocks) refl loaded
  where
    by : (found : Option CodeBlock) → block_by_id called p.code_blocks ≡ found → IsSome found
        → CallsBlock p block called
    by None there none = absurd cc
    by (Some d) there some =
        record { from = b; to = d; is_loaded = is; called_is_loaded = there; calls = calls }

pub leads_on : (profile : Profile) (p : Program) (m : Measure) (k : ℕ) (layer : List Bound)
    (chain : List BlockId) (block called : BlockId) (bytes : ℕ) (b : CodeBlock)
    → layer ≡ layer_of_height (suc k) p
    → LeadsOver profile p m layer chain block bytes → block_by_id block p.code_blocks ≡ Some b
    → is_chain_too_deep profile (length (chain ++ block ∷ [])) (bytes + b.local_len) ≡ false
    → IsMostCalled m layer b.code (Some called)
    → LeadsOver profile p m layer (chain ++ block ∷ []) called (bytes + b.local_len)
leads_on profile p m k layer chain block called bytes b layer_is leads is fits most = record {
  is_chain = chain_more p chain block called leads.is_chain (calls_of p block called b is most.0 there);
  loaded = there;
  total_is =
      bytes_are bytes b.local_len (bytes_of_chain p chain) (bytes_of_chain p (chain ++ block ∷ [])) leads.total_is
      (bytes_more p chain block b is);
  few = (not_too profile (length (chain ++ block ∷ [])) (bytes + b.local_len) fits).0;
  within = (not_too profile (length (chain ++ block ∷ [])) (bytes + b.local_len) fits).1;
  over =
      subst (λ (n : ℕ). limit_of_measure profile m < measure_of_chain m p (chain ++ block ∷ []) + n) (sym most.1)
      (subst (λ (x : List Bound). limit_of_measure profile m < measure_of_chain m p (chain ++ block ∷ []) + most_called m x b.code)
      (sym layer_is)
      (over_more profile p m k chain block b
      (subst (λ (x : List Bound). limit_of_measure profile m < measure_of_chain m p chain + measure_in_layer m x (Some block)) layer_is leads.over)
      is));
}
  where
    there : IsSome (block_by_id called p.code_blocks)
    there =
        said_loaded p m k called
        (subst (λ (x : List Bound). 0 < measure_in_layer m x (Some called)) layer_is
        (subst (λ (n : ℕ). 0 < n) (sym most.1) most.2))

-- there always is one
pub leads_somewhere : (profile : Profile) (p : Program) (m : Measure) (k : ℕ) (layer : List Bound)
    (chain : List BlockId) (block : BlockId) (bytes : ℕ) (b : CodeBlock)
    → layer ≡ layer_of_height (suc k) p
    → LeadsOver profile p m layer chain block bytes → block_by_id block p.code_blocks ≡ Some b
    → is_chain_too_deep profile (length (chain ++ block ∷ [])) (bytes + b.local_len) ≡ false
    → IsMostCalled m layer b.code None → ⊥
leads_somewhere profile p m k layer chain block bytes b layer_is leads is fits none =
    by m none over
    (not_too profile (length (chain ++ block ∷ [])) (bytes + b.local_len) fits)
  where
    over : limit_of_measure profile m < measure_of_chain m p (chain ++ block ∷ []) + most_called m layer b.code
    over =
        subst (λ (x : List Bound). limit_of_measure profile m < measure_of_chain m p (chain ++ block ∷ []) + most_called m x b.code)
        (sym layer_is)
        (over_more profile p m k chain block b
        (subst (λ (x : List Bound). limit_of_measure profile m < measure_of_chain m p chain + measure_in_layer m x (Some block)) layer_is leads.over)
        is)

    by : (n : Measure) → most_called n layer b.code ≡ 0
        → limit_of_measure profile n < measure_of_chain n p (chain ++ block ∷ []) + most_called n layer b.code
        → (length (chain ++ block ∷ []) ≤ most_frames profile) × (bytes + b.local_len ≤ most_local_bytes) → ⊥
    by Depth nil more fit = omega (arith, nil, more, fit.0)
    by Bytes nil more fit = omega (arith, nil, more, fit.1, leads.total_is, bytes_more p chain block b is)
