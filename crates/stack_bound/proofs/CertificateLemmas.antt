-- Where no organization block is above the limits, the marked bounds of the highest layer are the least
-- certificate.
use Rattle.std.proofs.Common.{◌≡◌, inl, inr, ℕ, suc, ◌+◌, ◌≤◌, Bool, true, false, List, [], ◌∷◌, ◌++◌, map, Option, Some, None, refl, sym, ap, ◌∙◌, subst, arith, if◌then◌else◌}
use Rattle.std.specs.Prelude.{IsSome, ◌&&◌, is_none}
use Rattle.std.specs.List.{AllByRecursion}
use Rattle.std.specs.Option.{option_map}
use Rattle.std.proofs.lemmas.Bool.{and_parts}
use Rattle.plc_base.specs.Profiles.{most_frames}
use Rattle.plc_base.specs.declared.Profile.{Profile}
use Rattle.plc_base.specs.declared.blocks.BlockId.{BlockId}
use Rattle.plc_base.specs.declared.blocks.BlockKind.TheVariants.{Ob}
use Rattle.flat_code.specs.Programs.{CodeBlock, Program}
use Rattle.image_file.specs.Readers.{block_by_id, block_ids, is_same_id}
use Rattle.stack_bound.specs.Calls.{CallsBlock, CallsIn}
use Rattle.stack_bound.specs.Certificates.{bound_of, HasLoadedBlocksOnly, HasEachBlockOnce, CountsItself, CountsCalled, IsCertificateOf, IsBoundWithinLimits}
use Rattle.stack_bound.specs.Finding.{AreAmong, IsAtMost, IsLeastCertificate, IsOnChain, last_block_of}
use Rattle.stack_bound.specs.Layers.{bound_above, bounds_above, layer_above, layer_of_height, most_called, measure_of_bound, measure_if_bound, measure_in_layer, measure_of_block, with_bound}
use Rattle.stack_bound.specs.Marks.{marked_bounds_behind, marks_of_round}
use Rattle.stack_bound.specs.declared.certificates.Bound.{Bound}
use Rattle.stack_bound.specs.declared.measures.Measure.{Measure}
use Rattle.stack_bound.specs.declared.measures.Measure.TheVariants.{Depth, Bytes}
use Rattle.stack_bound.proofs.BlockLemmas.{same_is, same_self}
use Rattle.stack_bound.proofs.BoundLemmas.{is_above, last_there, none_deep, ob_bound}
use Rattle.stack_bound.proofs.OnChainLemmas.{FirstOf, EachMarked, NoneOver, counts_down, few_on_chain, highest, marked_on_chain, marks_sound, ob_on_chain, ob_within, on_chain_more}
use Rattle.stack_bound.proofs.RankLemmas.{above, layer_has}

-- ---- lists one behind the other

behind_found : (x : BlockId) (seen more : List Bound) (d : Bound) → bound_of x seen ≡ Some d
    → bound_of x (seen ++ more) ≡ Some d
behind_found x [] more d is = absurd cc
behind_found x (b ∷ seen) more d is = by (is_same_id b.block x) (λ later. behind_found x seen more d later) is
  where
    by : (test : Bool) → (bound_of x seen ≡ Some d → bound_of x (seen ++ more) ≡ Some d)
        → (if test then Some b else bound_of x seen) ≡ Some d
        → (if test then Some b else bound_of x (seen ++ more)) ≡ Some d
    by true next here = here
    by false next later = next later

behind_none : (x : BlockId) (seen : List Bound) (b : Bound) → bound_of x seen ≡ None
    → is_same_id b.block x ≡ false → bound_of x (seen ++ b ∷ []) ≡ None
behind_none x [] b is apart = rw apart refl
behind_none x (d ∷ seen) b is apart =
    by (is_same_id d.block x) (λ later. behind_none x seen b later apart) is
  where
    by : (test : Bool) → (bound_of x seen ≡ None → bound_of x (seen ++ b ∷ []) ≡ None)
        → (if test then Some d else bound_of x seen) ≡ None
        → (if test then Some d else bound_of x (seen ++ b ∷ [])) ≡ None
    by true next here = absurd cc
    by false next later = next later

front_none : (x : BlockId) (seen more : List Bound) → bound_of x (seen ++ more) ≡ None
    → bound_of x seen ≡ None
front_none x [] more is = refl
front_none x (d ∷ seen) more is = by (is_same_id d.block x) (λ later. front_none x seen more later) is
  where
    by : (test : Bool) → (bound_of x (seen ++ more) ≡ None → bound_of x seen ≡ None)
        → (if test then Some d else bound_of x (seen ++ more)) ≡ None
        → (if test then Some d else bound_of x seen) ≡ None
    by true next here = absurd cc
    by false next later = next later

last_found : (seen : List Bound) (b : Bound) → IsSome (bound_of b.block (seen ++ b ∷ []))
last_found [] b = rw (same_self b.block) refl
last_found (d ∷ seen) b = by (is_same_id d.block b.block) (last_found seen b)
  where
    by : (test : Bool) → IsSome (bound_of b.block (seen ++ b ∷ []))
        → IsSome (if test then Some d else bound_of b.block (seen ++ b ∷ []))
    by true next = refl
    by false next = next

none_of : (o : Option Bound) → is_none o ≡ true → o ≡ None
none_of None is = refl
none_of (Some x) is = absurd cc

is_none_of : (o : Option Bound) → o ≡ None → is_none o ≡ true
is_none_of o is = ap (λ (x : Option Bound). is_none x) is

-- ---- the marked bounds

-- each of some bounds is what a list says of its block
abbrev EntriesAre : List Bound → List Bound → Type 0
EntriesAre all [] = Unit {0}
EntriesAre all (b ∷ list) = (bound_of b.block all ≡ Some b) × EntriesAre all list

-- a marked bound that is found is one of the list, and marked
MarkedOf : (Bound → Type 0) → List Bound → List Bound → BlockId → Bound → Type 0
MarkedOf P all seen x e = (bound_of x all ≡ Some e) × P e × (e.block ≡ x) × (bound_of x seen ≡ None)

marked_of : (P : Bound → Type 0) (all seen : List Bound) (ms : List Bool) (list : List Bound) (x : BlockId) (e : Bound)
    → EachMarked P ms list → EntriesAre all list → bound_of x (marked_bounds_behind seen ms list) ≡ Some e
    → (bound_of x all ≡ Some e) × P e × (e.block ≡ x) × (bound_of x seen ≡ None)
marked_of P all seen [] list x e each entries is = absurd cc
marked_of P all seen (m ∷ ms) [] x e each entries is = absurd cc
marked_of P all seen (m ∷ ms) (b ∷ list) x e each entries is =
    by (m && is_none (bound_of b.block seen)) refl is
    (λ later. marked_of P all seen ms list x e each.1 entries.1 later)
    (λ later. marked_of P all (seen ++ b ∷ []) ms list x e each.1 entries.1 later)
  where
    bound_in : Option Bound → Bound
    bound_in None = b
    bound_in (Some y) = y

    Fact : List Bound → Type 0
    Fact before = (bound_of x all ≡ Some e) × P e × (e.block ≡ x) × (bound_of x before ≡ None)

    first : (m && is_none (bound_of b.block seen)) ≡ true → is_same_id b.block x ≡ true → Some b ≡ Some e → Fact seen
    first kept same here =
        let parts = and_parts m (is_none (bound_of b.block seen)) kept in
        let one : b ≡ e = ap (λ (o : Option Bound). bound_in o) here in
        let at : b.block ≡ x = same_is b.block x same in (
          subst (λ (y : BlockId). bound_of y all ≡ Some e) at (entries.0 ∙ here),
          subst (λ (y : Bound). P y) one (each.0 parts.0),
          sym (ap (λ (y : Bound). y.block) one) ∙ at,
          subst (λ (y : BlockId). bound_of y seen ≡ None) at (none_of (bound_of b.block seen) parts.1),
        )

    kept_by : (m && is_none (bound_of b.block seen)) ≡ true → (test : Bool) → is_same_id b.block x ≡ test
        → (if test then Some b else bound_of x (marked_bounds_behind (seen ++ b ∷ []) ms list)) ≡ Some e
        → (bound_of x (marked_bounds_behind (seen ++ b ∷ []) ms list) ≡ Some e → Fact (seen ++ b ∷ []))
        → Fact seen
    kept_by kept true same here next = first kept same here
    kept_by kept false same later next =
        let fact = next later in (fact.0, fact.1, fact.2, front_none x seen (b ∷ []) fact.3)

    by : (test : Bool) → (m && is_none (bound_of b.block seen)) ≡ test
        → bound_of x (if test then b ∷ marked_bounds_behind (seen ++ b ∷ []) ms list else marked_bounds_behind seen ms list) ≡ Some e
        → (bound_of x (marked_bounds_behind seen ms list) ≡ Some e → Fact seen)
        → (bound_of x (marked_bounds_behind (seen ++ b ∷ []) ms list) ≡ Some e → Fact (seen ++ b ∷ []))
        → Fact seen
    by true kept found next after = kept_by kept (is_same_id b.block x) refl found after
    by false left found next after = next found

-- a block that was seen isn't there again
not_again : (seen : List Bound) (ms : List Bool) (list : List Bound) (x : BlockId)
    → IsSome (bound_of x seen) → bound_of x (marked_bounds_behind seen ms list) ≡ None
not_again seen [] list x was = refl
not_again seen (m ∷ ms) [] x was = refl
not_again seen (m ∷ ms) (b ∷ list) x was =
    by (m && is_none (bound_of b.block seen)) refl (not_again seen ms list x was)
    (not_again (seen ++ b ∷ []) ms list x (more (bound_of x seen) refl was))
  where
    more : (o : Option Bound) → bound_of x seen ≡ o → IsSome o → IsSome (bound_of x (seen ++ b ∷ []))
    more None is none = absurd cc
    more (Some d) is some = rw (behind_found x seen (b ∷ []) d is) refl

    apart : (m && is_none (bound_of b.block seen)) ≡ true → (test : Bool) → is_same_id b.block x ≡ test → test ≡ false
    apart kept false same = refl
    apart kept true same =
        absurd (wrong (subst (λ (y : BlockId). bound_of y seen ≡ None) (same_is b.block x same)
        (none_of (bound_of b.block seen) (and_parts m (is_none (bound_of b.block seen)) kept).1)) was)
      where
        wrong : bound_of x seen ≡ None → IsSome (bound_of x seen) → ⊥
        wrong none some = cc

    by : (test : Bool) → (m && is_none (bound_of b.block seen)) ≡ test
        → bound_of x (marked_bounds_behind seen ms list) ≡ None
        → bound_of x (marked_bounds_behind (seen ++ b ∷ []) ms list) ≡ None
        → bound_of x (if test then b ∷ marked_bounds_behind (seen ++ b ∷ []) ms list else marked_bounds_behind seen ms list) ≡ None
    by true kept next after = rw (apart kept (is_same_id b.block x) refl) after
    by false left next after = next

pub marked_once : (seen : List Bound) (ms : List Bool) (list : List Bound) → HasEachBlockOnce (marked_bounds_behind seen ms list)
marked_once seen [] list = tt
marked_once seen (m ∷ ms) [] = tt
marked_once seen (m ∷ ms) (b ∷ list) =
    by (m && is_none (bound_of b.block seen)) (marked_once seen ms list) (marked_once (seen ++ b ∷ []) ms list)
  where
    by : (test : Bool) → HasEachBlockOnce (marked_bounds_behind seen ms list) → HasEachBlockOnce (marked_bounds_behind (seen ++ b ∷ []) ms list)
        → HasEachBlockOnce (if test then b ∷ marked_bounds_behind (seen ++ b ∷ []) ms list else marked_bounds_behind seen ms list)
    by true next after = (not_again (seen ++ b ∷ []) ms list b.block (last_found seen b), after)
    by false next after = next

-- a block of which the first entry is marked is there
marked_has : (seen : List Bound) (ms : List Bool) (list : List Bound) (x : BlockId) (e : Bound)
    → FirstOf ms list x → bound_of x list ≡ Some e → bound_of x seen ≡ None
    → bound_of x (marked_bounds_behind seen ms list) ≡ Some e
marked_has seen ms [] x e all is none = absurd cc
marked_has seen [] (b ∷ list) x e all is none = absurd all
marked_has seen (m ∷ ms) (b ∷ list) x e all is none =
    by (is_same_id b.block x) refl is (λ apart later. marked_has seen ms list x e (all.1 apart) later none)
    (λ apart later unseen. marked_has (seen ++ b ∷ []) ms list x e (all.1 apart) later unseen)
  where
    here : is_same_id b.block x ≡ true → Some b ≡ Some e
        → bound_of x (if m && is_none (bound_of b.block seen) then b ∷ marked_bounds_behind (seen ++ b ∷ []) ms list else marked_bounds_behind seen ms list) ≡ Some e
    here same first =
        rw (all.0 same)
        (rw (is_none_of (bound_of b.block seen) (subst (λ (y : BlockId). bound_of y seen ≡ None) (sym (same_is b.block x same)) none))
        (rw same first))

    kept : (test : Bool) → is_same_id b.block x ≡ false → bound_of x (marked_bounds_behind seen ms list) ≡ Some e
        → bound_of x (marked_bounds_behind (seen ++ b ∷ []) ms list) ≡ Some e
        → bound_of x (if test then b ∷ marked_bounds_behind (seen ++ b ∷ []) ms list else marked_bounds_behind seen ms list) ≡ Some e
    kept true apart next after = rw apart after
    kept false apart next after = next

    by : (test : Bool) → is_same_id b.block x ≡ test → (if test then Some b else bound_of x list) ≡ Some e
        → (is_same_id b.block x ≡ false → bound_of x list ≡ Some e → bound_of x (marked_bounds_behind seen ms list) ≡ Some e)
        → (is_same_id b.block x ≡ false → bound_of x list ≡ Some e → bound_of x (seen ++ b ∷ []) ≡ None
        → bound_of x (marked_bounds_behind (seen ++ b ∷ []) ms list) ≡ Some e)
        → bound_of x (if m && is_none (bound_of b.block seen) then b ∷ marked_bounds_behind (seen ++ b ∷ []) ms list else marked_bounds_behind seen ms list) ≡ Some e
    by true same first next after = here same first
    by false apart later next after =
        kept (m && is_none (bound_of b.block seen)) apart (next apart later)
        (after apart later (behind_none x seen b none apart))

each_kept : (P : Bound → Type 0) (seen : List Bound) (ms : List Bool) (list : List Bound) → EachMarked P ms list
    → AllByRecursion P (marked_bounds_behind seen ms list)
each_kept P seen [] list each = tt
each_kept P seen (m ∷ ms) [] each = tt
each_kept P seen (m ∷ ms) (b ∷ list) each =
    by (m && is_none (bound_of b.block seen)) refl (each_kept P seen ms list each.1)
    (each_kept P (seen ++ b ∷ []) ms list each.1)
  where
    by : (test : Bool) → (m && is_none (bound_of b.block seen)) ≡ test
        → AllByRecursion P (marked_bounds_behind seen ms list)
        → AllByRecursion P (marked_bounds_behind (seen ++ b ∷ []) ms list)
        → AllByRecursion P (if test then b ∷ marked_bounds_behind (seen ++ b ∷ []) ms list else marked_bounds_behind seen ms list)
    by true kept next after = (each.0 (and_parts m (is_none (bound_of b.block seen)) kept).0, after)
    by false left next after = next

loaded_kept : (p : Program) (seen : List Bound) (ms : List Bool) (list : List Bound) → HasLoadedBlocksOnly p list
    → HasLoadedBlocksOnly p (marked_bounds_behind seen ms list)
loaded_kept p seen [] list loaded = tt
loaded_kept p seen (m ∷ ms) [] loaded = tt
loaded_kept p seen (m ∷ ms) (b ∷ list) loaded =
    by (m && is_none (bound_of b.block seen)) (loaded_kept p seen ms list loaded.1)
    (loaded_kept p (seen ++ b ∷ []) ms list loaded.1)
  where
    by : (test : Bool) → HasLoadedBlocksOnly p (marked_bounds_behind seen ms list)
        → HasLoadedBlocksOnly p (marked_bounds_behind (seen ++ b ∷ []) ms list)
        → HasLoadedBlocksOnly p (if test then b ∷ marked_bounds_behind (seen ++ b ∷ []) ms list else marked_bounds_behind seen ms list)
    by true next after = (loaded.0, after)
    by false next after = next

-- ---- the highest layer

entries_are : (p : Program) (layer : List Bound) (ids : List BlockId)
    → EntriesAre (layer_above p layer) (bounds_above p layer ids)
entries_are p layer [] = tt
entries_are p layer (id ∷ ids) = by (block_by_id id p.code_blocks) refl (entries_are p layer ids)
  where
    by : (found : Option CodeBlock) → block_by_id id p.code_blocks ≡ found
        → EntriesAre (layer_above p layer) (bounds_above p layer ids)
        → EntriesAre (layer_above p layer)
        (with_bound (option_map (bound_above layer id) found) (bounds_above p layer ids))
    by None is rest = rest
    by (Some b) is rest = (layer_has p layer id b is, rest)

are_loaded : (p : Program) (layer : List Bound) (ids : List BlockId) → HasLoadedBlocksOnly p (bounds_above p layer ids)
are_loaded p layer [] = tt
are_loaded p layer (id ∷ ids) = by (block_by_id id p.code_blocks) refl (are_loaded p layer ids)
  where
    by : (found : Option CodeBlock) → block_by_id id p.code_blocks ≡ found → HasLoadedBlocksOnly p (bounds_above p layer ids)
        → HasLoadedBlocksOnly p (with_bound (option_map (bound_above layer id) found) (bounds_above p layer ids))
    by None is rest = rest
    by (Some b) is rest = (rw is refl, rest)

abbrev blocks_in : List Bound → List BlockId
blocks_in list = map (λ (b : Bound). b.block) list

among_more : (some all : List BlockId) (id : BlockId) → AreAmong some all → AreAmong some (id ∷ all)
among_more [] all id among = tt
among_more (a ∷ some) all id among = inr among

are_among : (p : Program) (layer : List Bound) (ids : List BlockId) (seen : List Bound) (ms : List Bool)
    → AreAmong (blocks_in (marked_bounds_behind seen ms (bounds_above p layer ids))) ids
are_among p layer [] seen [] = tt
are_among p layer [] seen (m ∷ ms) = tt
are_among p layer (id ∷ ids) seen ms =
    by (block_by_id id p.code_blocks) ms (λ before marks. are_among p layer ids before marks)
  where
    kept : (test : Bool) (b : CodeBlock) (rest : List Bool)
        → ((before : List Bound) (marks : List Bool)
        → AreAmong (blocks_in (marked_bounds_behind before marks (bounds_above p layer ids))) ids)
        → AreAmong (blocks_in (if test then bound_above layer id b ∷ marked_bounds_behind (seen ++ bound_above layer id b ∷ []) rest (bounds_above p layer ids)
        else marked_bounds_behind seen rest (bounds_above p layer ids))) (id ∷ ids)
    kept true b rest next = inl (refl, next (seen ++ bound_above layer id b ∷ []) rest)
    kept false b rest next =
        among_more (blocks_in (marked_bounds_behind seen rest (bounds_above p layer ids))) ids id (next seen rest)

    by : (found : Option CodeBlock) (rest : List Bool)
        → ((before : List Bound) (marks : List Bool)
        → AreAmong (blocks_in (marked_bounds_behind before marks (bounds_above p layer ids))) ids)
        → AreAmong (blocks_in (marked_bounds_behind seen rest
        (with_bound (option_map (bound_above layer id) found) (bounds_above p layer ids)))) (id ∷ ids)
    by None rest next =
        among_more (blocks_in (marked_bounds_behind seen rest (bounds_above p layer ids))) ids id (next seen rest)
    by (Some b) [] next = tt
    by (Some b) (m ∷ rest) next =
        kept (m && is_none (bound_of (bound_above layer id b).block seen)) b rest next

-- ---- the certificate

-- the marked bounds of the highest layer
abbrev pub certificate : Profile → Program → List Bound
certificate z p = marked_bounds_behind [] (marks_of_round (most_frames z) p (highest z p)) (highest z p)

abbrev loaded_highest : (z : Profile) (p : Program) → HasLoadedBlocksOnly p (highest z p)
loaded_highest z p = are_loaded p (layer_of_height (most_frames z) p) (block_ids p)

-- what it says of a block is what the layer says, and the block stands on a chain
IsSaidByLayer : Profile → Program → BlockId → Bound → Type 0
IsSaidByLayer z p x e = (bound_of x (highest z p) ≡ Some e) × IsOnChain p x

said_by_layer : (z : Profile) (p : Program) (x : BlockId) (e : Bound) → bound_of x (certificate z p) ≡ Some e
    → (bound_of x (highest z p) ≡ Some e) × IsOnChain p x
said_by_layer z p x e is =
    let fact = marked_of (λ (b : Bound). IsOnChain p b.block) (highest z p) [] (marks_of_round (most_frames z) p (highest z p))
    (highest z p) x e (marks_sound p (highest z p) (most_frames z) (loaded_highest z p))
    (entries_are p (layer_of_height (most_frames z) p) (block_ids p)) is in
    (fact.0, subst (λ (y : BlockId). IsOnChain p y) fact.2 fact.1)

-- and it has each block on a chain
has : (z : Profile) (p : Program) (x : BlockId) (b : CodeBlock) → NoneOver z p (highest z p) → IsOnChain p x
    → block_by_id x p.code_blocks ≡ Some b
    → bound_of x (certificate z p) ≡ Some (bound_above (layer_of_height (most_frames z) p) x b)
has z p x b none on there =
    marked_has [] (marks_of_round (most_frames z) p (highest z p)) (highest z p) x (bound_above (layer_of_height (most_frames z) p) x b)
    (marked_on_chain z p x on none) (layer_has p (layer_of_height (most_frames z) p) x b there) refl

of_number : (m : Measure) (z : Profile) (p : Program) (x : BlockId) (e : Bound) → bound_of x (highest z p) ≡ Some e
    → measure_in_layer m (highest z p) (Some x) ≡ measure_of_bound m e
of_number m z p x e is = ap (λ (o : Option Bound). measure_if_bound m o) is

at_least : (x w most : ℕ) → x ≡ w + most → w ≤ x
at_least x w most is = omega (arith, is)

holds_own : (z : Profile) (p : Program) (x : BlockId) (b : CodeBlock) (o : Option Bound)
    → block_by_id x p.code_blocks ≡ Some b → bound_of x (certificate z p) ≡ o → CountsItself b.local_len o
holds_own z p x b None there is = tt
holds_own z p x b (Some e) there is = (
  at_least e.depth 1 (most_called Depth (layer_of_height (most_frames z) p) b.code) (counted Depth),
  at_least e.bytes b.local_len (most_called Bytes (layer_of_height (most_frames z) p) b.code) (counted Bytes),
)
  where
    counted : (m : Measure) → measure_of_bound m e ≡ measure_of_block m b + most_called m (layer_of_height (most_frames z) p) b.code
    counted m = sym (of_number m z p x e (said_by_layer z p x e is).0) ∙ above m p (layer_of_height (most_frames z) p) x b there

one_more : (a b : ℕ) → 1 + a ≤ b → a + 1 ≤ b
one_more a b is = omega (arith, is)

holds_calls : (z : Profile) (p : Program) (x called : BlockId) (b d : CodeBlock) (o : Option Bound)
    → NoneOver z p (highest z p) → block_by_id x p.code_blocks ≡ Some b → block_by_id called p.code_blocks ≡ Some d
    → CallsIn b.code called → bound_of x (certificate z p) ≡ o
    → CountsCalled b.local_len o (bound_of called (certificate z p))
holds_calls z p x called b d None none there to calls is = tt
holds_calls z p x called b d (Some e) none there to calls is =
    subst (λ (o : Option Bound). CountsCalled b.local_len (Some e) o)
    (sym (has z p called d none (on_chain_more p x called on call) to)) (
      one_more (bound_above (layer_of_height (most_frames z) p) called d).depth e.depth (counted Depth),
      counted Bytes,
    )
  where
    on : IsOnChain p x
    on = (said_by_layer z p x e is).1

    call : CallsBlock p x called
    call = record { from = b; to = d; is_loaded = there; called_is_loaded = to; calls = calls }

    counted : (m : Measure)
        → measure_of_block m b + measure_of_bound m (bound_above (layer_of_height (most_frames z) p) called d) ≤ measure_of_bound m e
    counted m =
        subst (λ (n : ℕ). measure_of_block m b + measure_of_bound m (bound_above (layer_of_height (most_frames z) p) called d) ≤ n)
        (of_number m z p x e (said_by_layer z p x e is).0)
        (subst (λ (n : ℕ). measure_of_block m b + n ≤ measure_in_layer m (highest z p) (Some x))
        (of_number m z p called (bound_above (layer_of_height (most_frames z) p) called d)
        (layer_has p (layer_of_height (most_frames z) p) called d to))
        (counts_down z p m x called b there calls (few_on_chain z p x on none)))

holds_obs : (z : Profile) (p : Program) (b : CodeBlock) → NoneOver z p (highest z p)
    → block_by_id b.id p.code_blocks ≡ Some b → b.id.kind ≡ Ob → IsBoundWithinLimits z (bound_of b.id (certificate z p))
holds_obs z p b none there kind =
    subst (λ (o : Option Bound). IsBoundWithinLimits z o)
    (sym (has z p b.id b none (ob_on_chain p b.id kind (rw there refl)) there))
    (ob_within z p (highest z p) b.id b (bound_above (layer_of_height (most_frames z) p) b.id b) none kind there
    (layer_has p (layer_of_height (most_frames z) p) b.id b there))

certificate_holds : (z : Profile) (p : Program) → NoneOver z p (highest z p) → IsCertificateOf z p (certificate z p)
certificate_holds z p none = record {
  once = marked_once [] (marks_of_round (most_frames z) p (highest z p)) (highest z p);
  loaded = loaded_kept p [] (marks_of_round (most_frames z) p (highest z p)) (highest z p) (loaded_highest z p);
  obs = λ b there kind. holds_obs z p b none there kind;
  own = λ x b there. holds_own z p x b (bound_of x (certificate z p)) there refl;
  calls = λ x called b d there to calls.
      holds_calls z p x called b d (bound_of x (certificate z p)) none there to calls refl;
}

-- ---- the least one

-- each certificate that holds has a block on a chain
in_each : (z : Profile) (p : Program) (d : List Bound) (x : BlockId) → IsCertificateOf z p d → IsOnChain p x
    → IsSome (bound_of x d)
in_each z p d x holds on =
    subst (λ (y : BlockId). IsSome (bound_of y d)) on.ends (loaded (block_by_id on.ob p.code_blocks) refl on.is_chain.1)
  where
    bounded : (o : Option Bound) → bound_of on.ob d ≡ o → IsBoundWithinLimits z o → IsSome (bound_of (last_block_of on.ob on.rest) d)
    bounded None found within = absurd within
    bounded (Some e) found within = last_there z p d on.ob on.rest e holds found on.is_chain.2

    loaded : (found : Option CodeBlock) → block_by_id on.ob p.code_blocks ≡ found → IsSome found
        → IsSome (bound_of (last_block_of on.ob on.rest) d)
    loaded None there isnt = absurd cc
    loaded (Some b) there some = bounded (bound_of on.ob d) refl (ob_bound z p d on.ob b holds on.is_chain.0 there)

at_most_of : (z : Profile) (p : Program) (d : List Bound) (b : Bound) → IsCertificateOf z p d → IsOnChain p b.block
    → bound_of b.block (highest z p) ≡ Some b → IsAtMost b (bound_of b.block d)
at_most_of z p d b holds on is = by (bound_of b.block d) refl (in_each z p d b.block holds on)
  where
    most : (m : Measure) (e : Bound) → bound_of b.block d ≡ Some e → measure_of_bound m b ≤ measure_of_bound m e
    most m e found =
        subst (λ (n : ℕ). n ≤ measure_of_bound m e) (of_number m z p b.block b is)
        (is_above z p d m (suc (most_frames z)) holds b.block e found)

    by : (o : Option Bound) → bound_of b.block d ≡ o → IsSome o → IsAtMost b o
    by None found isnt = absurd cc
    by (Some e) found some = (most Depth e found, most Bytes e found)

-- of marked bounds that are those of a list
with_entries : (P : Bound → Type 0) (all : List Bound) (ms : List Bool) (list : List Bound) → EachMarked P ms list
    → EntriesAre all list → EachMarked (λ (b : Bound). P b × (bound_of b.block all ≡ Some b)) ms list
with_entries P all [] [] each entries = tt
with_entries P all [] (b ∷ list) each entries = tt
with_entries P all (m ∷ ms) [] each entries = tt
with_entries P all (m ∷ ms) (b ∷ list) each entries =
    (λ is. (each.0 is, entries.0), with_entries P all ms list each.1 entries.1)

all_by : (P Q : Bound → Type 0) (list : List Bound) → ((b : Bound) → P b → Q b) → AllByRecursion P list
    → AllByRecursion Q list
all_by P Q [] step all = tt
all_by P Q (b ∷ list) step all = (step b all.0, all_by P Q list step all.1)

pub least : (z : Profile) (p : Program) → NoneOver z p (highest z p)
    → IsLeastCertificate z p (marked_bounds_behind [] (marks_of_round (most_frames z) p (layer_of_height (suc (most_frames z)) p))
    (layer_of_height (suc (most_frames z)) p))
least z p none = record {
  fits = λ chain is deep. none_deep z p (certificate z p) chain (certificate_holds z p none) is deep;
  holds = certificate_holds z p none;
  on_chains =
      each_kept (λ (b : Bound). IsOnChain p b.block) [] (marks_of_round (most_frames z) p (highest z p)) (highest z p)
      (marks_sound p (highest z p) (most_frames z) (loaded_highest z p));
  order =
      are_among p (layer_of_height (most_frames z) p) (block_ids p) [] (marks_of_round (most_frames z) p (highest z p));
  least = λ d holds.
      all_by (λ (b : Bound). IsOnChain p b.block × (bound_of b.block (highest z p) ≡ Some b))
      (λ (b : Bound). IsAtMost b (bound_of b.block d)) (certificate z p)
      (λ b fact. at_most_of z p d b holds fact.0 fact.1)
      (each_kept (λ (b : Bound). IsOnChain p b.block × (bound_of b.block (highest z p) ≡ Some b)) []
      (marks_of_round (most_frames z) p (highest z p)) (highest z p)
      (with_entries (λ (b : Bound). IsOnChain p b.block) (highest z p) (marks_of_round (most_frames z) p (highest z p)) (highest z p)
      (marks_sound p (highest z p) (most_frames z) (loaded_highest z p))
      (entries_are p (layer_of_height (most_frames z) p) (block_ids p))));
}
