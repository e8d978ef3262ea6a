-- What any certificate that holds says of chains, and of the layers.
use Rattle.std.proofs.Common.{◌≡◌, ◌⊎◌, inl, inr, ℕ, zero, suc, ◌+◌, ◌<◌, ◌≤◌, List, [], ◌∷◌, length, Option, Some, None, refl, sym, ap, ◌∙◌, subst, arith}
use Rattle.std.specs.Prelude.{IsSome}
use Rattle.plc_base.specs.Profiles.{most_frames}
use Rattle.plc_base.specs.declared.Profile.{Profile}
use Rattle.plc_base.specs.declared.blocks.BlockId.{BlockId}
use Rattle.plc_base.specs.declared.blocks.BlockKind.TheVariants.{Ob}
use Rattle.flat_code.specs.Programs.{CodeBlock, Program}
use Rattle.image_file.specs.Readers.{block_by_id}
use Rattle.stack_bound.specs.Calls.{CallsBlock, CallsIn}
use Rattle.stack_bound.specs.Certificates.{bound_of, CountsItself, CountsCalled, IsCertificateOf, IsBoundWithinLimits}
use Rattle.stack_bound.specs.Chains.{CallEachOther, IsCallChain, IsTooDeep, bytes_of_chain, local_bytes, most_local_bytes}
use Rattle.stack_bound.specs.Finding.{last_block_of}
use Rattle.stack_bound.specs.Layers.{layer_of_height, measure_of_bound, measure_in_layer, measure_of_block}
use Rattle.stack_bound.specs.declared.certificates.Bound.{Bound}
use Rattle.stack_bound.specs.declared.measures.Measure.{Measure}
use Rattle.stack_bound.specs.declared.measures.Measure.TheVariants.{Depth, Bytes}
use Rattle.stack_bound.proofs.BlockLemmas.{found_id}
use Rattle.stack_bound.proofs.RankLemmas.{above, above_none, most_within}

-- the bound of a called block, which is there
abbrev CountedBy : (local_len : ℕ) → Bound → Option Bound → Type 0
CountedBy len e None = ⊥
CountedBy len e (Some f) = (f.depth + 1 ≤ e.depth) × (len + f.bytes ≤ e.bytes)

counted_by : (z : Profile) (p : Program) (c : List Bound) (x d : BlockId) (e : Bound) (calls : CallsBlock p x d)
    → IsCertificateOf z p c → bound_of x c ≡ Some e → CountedBy calls.from.local_len e (bound_of d c)
counted_by z p c x d e calls holds found =
    by (bound_of d c)
    (subst (λ (o : Option Bound). CountsCalled calls.from.local_len o (bound_of d c)) found
    (holds.calls x d calls.from calls.to calls.is_loaded calls.called_is_loaded calls.calls))
  where
    by : (o : Option Bound) → CountsCalled calls.from.local_len (Some e) o → CountedBy calls.from.local_len e o
    by None counts = counts
    by (Some f) counts = counts

itself : (z : Profile) (p : Program) (c : List Bound) (x : BlockId) (e : Bound) (b : CodeBlock) → IsCertificateOf z p c
    → bound_of x c ≡ Some e → block_by_id x p.code_blocks ≡ Some b → (1 ≤ e.depth) × (b.local_len ≤ e.bytes)
itself z p c x e b holds found there =
    subst (λ (o : Option Bound). CountsItself b.local_len o) found (holds.own x b there)

-- ---- chains

-- the bound of a block counts the chains from it on
abbrev Counts : Program → BlockId → List BlockId → Bound → Type 0
Counts p x rest e = (1 + length rest ≤ e.depth) × (bytes_of_chain p (x ∷ rest) ≤ e.bytes)

one_itself : (depth : ℕ) → 1 ≤ depth → 1 + 0 ≤ depth
one_itself depth is = omega (arith, is)

counts_one : (p : Program) (x : BlockId) (e : Bound) (b : CodeBlock) → block_by_id x p.code_blocks ≡ Some b
    → (1 ≤ e.depth) × (b.local_len ≤ e.bytes) → Counts p x [] e
counts_one p x e b there own = (
  one_itself e.depth own.0,
  bytes_of (local_bytes (block_by_id x p.code_blocks)) b.local_len e.bytes
      (ap (λ (o : Option CodeBlock). local_bytes o) there) own.1,
)
  where
    bytes_of : (a len bytes : ℕ) → a ≡ len → len ≤ bytes → a + 0 ≤ bytes
    bytes_of a len bytes is within = omega (arith, is, within)

counts_more : (p : Program) (x d : BlockId) (more : List BlockId) (e f : Bound) (calls : CallsBlock p x d)
    → (f.depth + 1 ≤ e.depth) × (calls.from.local_len + f.bytes ≤ e.bytes) → Counts p d more f
    → Counts p x (d ∷ more) e
counts_more p x d more e f calls by counts = (
  depth_of (length more) f.depth e.depth counts.0 by.0,
  bytes_of (local_bytes (block_by_id x p.code_blocks)) calls.from.local_len (bytes_of_chain p (d ∷ more)) f.bytes
      e.bytes (ap (λ (o : Option CodeBlock). local_bytes o) calls.is_loaded) counts.1 by.1,
)
  where
    depth_of : (n a b : ℕ) → 1 + n ≤ a → a + 1 ≤ b → 1 + suc n ≤ b
    depth_of n a b one other = omega (arith, one, other)

    bytes_of : (a len rest f e : ℕ) → a ≡ len → rest ≤ f → len + f ≤ e → a + rest ≤ e
    bytes_of a len rest f e is one other = omega (arith, is, one, other)

pub chain_counts : (z : Profile) (p : Program) (c : List Bound) (x : BlockId) (rest : List BlockId) (e : Bound)
    (b : CodeBlock) → IsCertificateOf z p c → bound_of x c ≡ Some e → block_by_id x p.code_blocks ≡ Some b
    → CallEachOther p x rest → Counts p x rest e
chain_counts z p c x [] e b holds found there each = counts_one p x e b there (itself z p c x e b holds found there)
chain_counts z p c x (d ∷ more) e b holds found there each =
    by (bound_of d c) refl (counted_by z p c x d e each.0 holds found)
    (λ f is. chain_counts z p c d more f each.0.to holds is each.0.called_is_loaded each.1)
  where
    by : (o : Option Bound) → bound_of d c ≡ o → CountedBy each.0.from.local_len e o
        → ((f : Bound) → bound_of d c ≡ Some f → Counts p d more f) → Counts p x (d ∷ more) e
    by None is counted next = absurd counted
    by (Some f) is counted next = counts_more p x d more e f each.0 counted (next f is)

-- the bound of the last block of a chain is there
pub last_there : (z : Profile) (p : Program) (c : List Bound) (x : BlockId) (rest : List BlockId) (e : Bound)
    → IsCertificateOf z p c → bound_of x c ≡ Some e → CallEachOther p x rest → IsSome (bound_of (last_block_of x rest) c)
last_there z p c x [] e holds found each = rw found refl
last_there z p c x (d ∷ more) e holds found each =
    by (bound_of d c) refl (counted_by z p c x d e each.0 holds found)
    (λ f is. last_there z p c d more f holds is each.1)
  where
    by : (o : Option Bound) → bound_of d c ≡ o → CountedBy each.0.from.local_len e o
        → ((f : Bound) → bound_of d c ≡ Some f → IsSome (bound_of (last_block_of d more) c))
        → IsSome (bound_of (last_block_of d more) c)
    by None is counted next = absurd counted
    by (Some f) is counted next = next f is

-- an organization block that is loaded has a bound within the limits
pub ob_bound : (z : Profile) (p : Program) (c : List Bound) (ob : BlockId) (b : CodeBlock) → IsCertificateOf z p c
    → ob.kind ≡ Ob → block_by_id ob p.code_blocks ≡ Some b → IsBoundWithinLimits z (bound_of ob c)
ob_bound z p c ob b holds kind there =
    let same : b.id ≡ ob = found_id ob p.code_blocks b there in
    subst (λ (x : BlockId). IsBoundWithinLimits z (bound_of x c)) same
    (holds.obs b (subst (λ (x : BlockId). block_by_id x p.code_blocks ≡ Some b) (sym same) there)
    (ap (λ (x : BlockId). x.kind) same ∙ kind))

-- so no chain is too deep
pub none_deep : (z : Profile) (p : Program) (c : List Bound) (chain : List BlockId) → IsCertificateOf z p c
    → IsCallChain p chain → IsTooDeep z p chain → ⊥
none_deep z p c [] holds is deep = is
none_deep z p c (ob ∷ rest) holds is deep = loaded (block_by_id ob p.code_blocks) refl is.1
  where
    fails : (e : Bound) → Counts p ob rest e → (e.depth ≤ most_frames z) × (e.bytes ≤ most_local_bytes)
        → (most_frames z < length (ob ∷ rest)) ⊎ (most_local_bytes < bytes_of_chain p (ob ∷ rest)) → ⊥
    fails e counts within (inl more) = omega (arith, counts.0, within.0, more)
    fails e counts within (inr more) = omega (arith, counts.1, within.1, more)

    bounded : (b : CodeBlock) → block_by_id ob p.code_blocks ≡ Some b → (o : Option Bound) → bound_of ob c ≡ o
        → IsBoundWithinLimits z o → ⊥
    bounded b there None found within = within
    bounded b there (Some e) found within =
        fails e (chain_counts z p c ob rest e b holds found there is.2) within deep

    loaded : (found : Option CodeBlock) → block_by_id ob p.code_blocks ≡ found → IsSome found → ⊥
    loaded None there none = cc
    loaded (Some b) there some = bounded b there (bound_of ob c) refl (ob_bound z p c ob b holds is.0 there)

-- ---- layers

number_counts : (m : Measure) (len : ℕ) (e f : Bound) (b : CodeBlock)
    → (f.depth + 1 ≤ e.depth) × (b.local_len + f.bytes ≤ e.bytes)
    → measure_of_block m b + measure_of_bound m f ≤ measure_of_bound m e
number_counts Depth len e f b counts = omega (arith, counts.0)
number_counts Bytes len e f b counts = counts.1

number_itself : (m : Measure) (e : Bound) (b : CodeBlock) → (1 ≤ e.depth) × (b.local_len ≤ e.bytes)
    → measure_of_block m b ≤ measure_of_bound m e
number_itself Depth e b own = own.0
number_itself Bytes e b own = own.1

-- no layer says more of a block than a certificate that holds
abbrev IsAboveLayer : Profile → Program → List Bound → Measure → ℕ → Type 0
IsAboveLayer z p c m k =
    (x : BlockId) (e : Bound) → bound_of x c ≡ Some e → measure_in_layer m (layer_of_height k p) (Some x) ≤ measure_of_bound m e

unloaded_block_has_none : (m : Measure) (p : Program) (k : ℕ) (x : BlockId) → block_by_id x p.code_blocks ≡ None
    → measure_in_layer m (layer_of_height k p) (Some x) ≡ 0
unloaded_block_has_none m p zero x is = refl
unloaded_block_has_none m p (suc k) x is = above_none m p (layer_of_height k p) x is

within_of : (w n r f : ℕ) → w + f ≤ n → r ≤ f → w + r ≤ n
within_of w n r f one other = omega (arith, one, other)

within_none : (w n r : ℕ) → w ≤ n → r ≡ 0 → w + r ≤ n
within_none w n r own is = omega (arith, own, is)

called_within : (z : Profile) (p : Program) (c : List Bound) (m : Measure) (k : ℕ) (x called : BlockId) (e : Bound)
    (b : CodeBlock) → IsCertificateOf z p c → IsAboveLayer z p c m k → bound_of x c ≡ Some e
    → block_by_id x p.code_blocks ≡ Some b → CallsIn b.code called
    → measure_of_block m b + measure_in_layer m (layer_of_height k p) (Some called) ≤ measure_of_bound m e
called_within z p c m k x called e b holds is_above found there calls = by (block_by_id called p.code_blocks) refl
  where
    counted : (d : CodeBlock) → block_by_id called p.code_blocks ≡ Some d → (o : Option Bound)
        → bound_of called c ≡ o → CountsCalled b.local_len (Some e) o
        → measure_of_block m b + measure_in_layer m (layer_of_height k p) (Some called) ≤ measure_of_bound m e
    counted d is None none counts = absurd counts
    counted d is (Some f) there_too counts =
        within_of (measure_of_block m b) (measure_of_bound m e) (measure_in_layer m (layer_of_height k p) (Some called)) (measure_of_bound m f)
        (number_counts m 0 e f b counts) (is_above called f there_too)

    by : (o : Option CodeBlock) → block_by_id called p.code_blocks ≡ o
        → measure_of_block m b + measure_in_layer m (layer_of_height k p) (Some called) ≤ measure_of_bound m e
    by None is =
        within_none (measure_of_block m b) (measure_of_bound m e) (measure_in_layer m (layer_of_height k p) (Some called))
        (number_itself m e b (itself z p c x e b holds found there)) (unloaded_block_has_none m p k called is)
    by (Some d) is =
        counted d is (bound_of called c) refl
        (subst (λ (o : Option Bound). CountsCalled b.local_len o (bound_of called c)) found
        (holds.calls x called b d there is calls))

none_within : (r n : ℕ) → r ≡ 0 → r ≤ n
none_within r n is = omega (arith, is)

pub is_above : (z : Profile) (p : Program) (c : List Bound) (m : Measure) (k : ℕ) → IsCertificateOf z p c
    → IsAboveLayer z p c m k
is_above z p c m zero holds x e found = omega arith
is_above z p c m (suc k) holds x e found =
    by (block_by_id x p.code_blocks) refl (is_above z p c m k holds)
  where
    by : (o : Option CodeBlock) → block_by_id x p.code_blocks ≡ o → IsAboveLayer z p c m k
        → measure_in_layer m (layer_of_height (suc k) p) (Some x) ≤ measure_of_bound m e
    by None is below =
        none_within (measure_in_layer m (layer_of_height (suc k) p) (Some x)) (measure_of_bound m e) (above_none m p (layer_of_height k p) x is)
    by (Some b) is below =
        subst (λ (n : ℕ). n ≤ measure_of_bound m e) (sym (above m p (layer_of_height k p) x b is))
        (most_within m (layer_of_height k p) b.code (measure_of_block m b) (measure_of_bound m e)
        (number_itself m e b (itself z p c x e b holds found is))
        (λ called calls. called_within z p c m k x called e b holds below found is calls))
