-- A list passes the check of certificates exactly where it is one that holds.
use Rattle.std.proofs.Common.{◌≡◌, inl, inr, ℕ, ◌+◌, ◌≤◌, Bool, true, false, List, [], ◌∷◌, ◌++◌, map, Option, Some, None, refl, sym, ap, ◌∙◌, subst, arith, if◌then◌else◌}
use Rattle.std.specs.Prelude.{◌⊎◌, ◌↔◌, ◌&&◌, ◌||◌, not, nat_le, is_none, is_some, IsSome, IsTrue}
use Rattle.std.proofs.lemmas.Bool.{and_parts, and_from}
use Rattle.std.proofs.lemmas.Bool.Decides.{nat_tests}
use Rattle.plc_base.specs.Kinds.{is_organization_block}
use Rattle.plc_base.specs.Profiles.{most_frames}
use Rattle.plc_base.specs.declared.Profile.{Profile}
use Rattle.plc_base.specs.declared.blocks.BlockId.{BlockId}
use Rattle.plc_base.specs.declared.blocks.BlockKind.{BlockKind}
use Rattle.plc_base.specs.declared.blocks.BlockKind.TheVariants.{Ob, Fc, Fb, Db, Sfc, Udt}
use Rattle.flat_code.specs.Ops.{OpData}
use Rattle.flat_code.specs.Programs.{CodeBlock, DataBlock, Program}
use Rattle.image_file.specs.Readers.{block_by_id, data_block_id, block_ids, is_same_id}
use Rattle.stack_bound.specs.Calls.{CallsIn, callee_of_op}
use Rattle.stack_bound.specs.Certificates.{bound_of, HasEachBlockOnce, HasLoadedBlocksOnly, IsBoundWithinLimits, CountsItself, CountsCalled, IsCertificateOf}
use Rattle.stack_bound.specs.Chains.{most_local_bytes}
use Rattle.stack_bound.specs.Checking.{has_each_block_once, counts_called, counts_callee, counts_ops, counts_block, each_counts, is_bound_within_limits, obs_within, is_certificate}
use Rattle.stack_bound.specs.declared.certificates.Bound.{Bound}
use Rattle.stack_bound.proofs.BlockLemmas.{found_id, same_is, same_self}

-- ---- numbers

le_of : (a b : ℕ) → nat_le a b ≡ true → a ≤ b
le_of a b is = grind (arith, nat_tests)

le_test : (a b : ℕ) → a ≤ b → nat_le a b ≡ true
le_test a b is = grind (arith, nat_tests)

none_of : {A : Type 0} (o : Option A) → is_none o ≡ true → o ≡ None
none_of None is = refl
none_of (Some x) is = absurd cc

-- ---- each block once

are_once_if : (c : List Bound) → has_each_block_once c ≡ true → HasEachBlockOnce c
are_once_if [] is = tt
are_once_if (b ∷ rest) is =
    let parts = and_parts (is_none (bound_of b.block rest)) (has_each_block_once rest) is in
    (none_of (bound_of b.block rest) parts.0, are_once_if rest parts.1)

once_checked : (c : List Bound) → HasEachBlockOnce c → has_each_block_once c ≡ true
once_checked [] is = refl
once_checked (b ∷ rest) is =
    and_from (is_none (bound_of b.block rest)) (has_each_block_once rest)
    (ap (λ (o : Option Bound). is_none o) is.0) (once_checked rest is.1)

-- each of some bounds is what a list says of its block
abbrev AreFound : List Bound → List Bound → Type 0
AreFound c [] = Unit {0}
AreFound c (b ∷ rest) = (bound_of b.block c ≡ Some b) × AreFound c rest

-- a bound of another block in front changes nothing
front_is_other : (b d : Bound) (rest : List Bound) → bound_of b.block (d ∷ rest) ≡ None
    → is_same_id b.block d.block ≡ false
front_is_other b d rest is = by (is_same_id b.block d.block) refl
  where
    absent : (other : Bool) → other ≡ true
        → (if other then Some d else bound_of b.block rest) ≡ None → ⊥
    absent other is_it none = cc

    by : (test : Bool) → is_same_id b.block d.block ≡ test → test ≡ false
    by false same = refl
    by true same =
        let here : b.block ≡ d.block = same_is b.block d.block same in
        absurd (absent (is_same_id d.block b.block)
        (ap (λ (id : BlockId). is_same_id d.block id) here ∙ same_self d.block) is)

later : (b d : Bound) (rest : List Bound) → bound_of b.block (d ∷ rest) ≡ None
    → bound_of b.block rest ≡ None
later b d rest is = by (is_same_id d.block b.block) is
  where
    by : (test : Bool) → (if test then Some d else bound_of b.block rest) ≡ None
        → bound_of b.block rest ≡ None
    by true none = absurd cc
    by false none = none

found_behind : (b : Bound) (c some : List Bound) → bound_of b.block some ≡ None → AreFound c some
    → AreFound (b ∷ c) some
found_behind b c [] none found = tt
found_behind b c (d ∷ rest) none found =
    (rw (front_is_other b d rest none) found.0, found_behind b c rest (later b d rest none) found.1)

are_found : (c : List Bound) → HasEachBlockOnce c → AreFound c c
are_found [] once = tt
are_found (b ∷ rest) once =
    (rw (same_self b.block) refl, found_behind b rest rest once.0 (are_found rest once.1))

-- ---- what bounds count

called_if : (len : ℕ) (b : Bound) (d : Option Bound) → counts_called len b d ≡ true
    → CountsCalled len (Some b) d
called_if len b None is = absurd cc
called_if len b (Some d) is =
    let parts = and_parts (nat_le (d.depth + 1) b.depth) (nat_le (len + d.bytes) b.bytes) is in
    (le_of (d.depth + 1) b.depth parts.0, le_of (len + d.bytes) b.bytes parts.1)

called_checked : (len : ℕ) (b : Bound) (d : Option Bound) → CountsCalled len (Some b) d
    → counts_called len b d ≡ true
called_checked len b None counts = absurd counts
called_checked len b (Some d) counts =
    and_from (nat_le (d.depth + 1) b.depth) (nat_le (len + d.bytes) b.bytes)
    (le_test (d.depth + 1) b.depth counts.0) (le_test (len + d.bytes) b.bytes counts.1)

callee_if : (p : Program) (c : List Bound) (len : ℕ) (b : Bound) (called : BlockId) (d : CodeBlock)
    → block_by_id called p.code_blocks ≡ Some d → counts_callee p c len b (Some called) ≡ true
    → CountsCalled len (Some b) (bound_of called c)
callee_if p c len b called d there is =
    called_if len b (bound_of called c)
    (sym (ap (λ (o : Option CodeBlock). is_none o || counts_called len b (bound_of called c)) there) ∙ is)

callee_checked : (p : Program) (c : List Bound) (len : ℕ) (b : Bound) (callee : Option BlockId)
    → ((called : BlockId) (d : CodeBlock) → callee ≡ Some called
    → block_by_id called p.code_blocks ≡ Some d → CountsCalled len (Some b) (bound_of called c))
    → counts_callee p c len b callee ≡ true
callee_checked p c len b None counts = refl
callee_checked p c len b (Some called) counts = by (block_by_id called p.code_blocks) refl
  where
    by : (found : Option CodeBlock) → block_by_id called p.code_blocks ≡ found
        → (is_none found || counts_called len b (bound_of called c)) ≡ true
    by None is = refl
    by (Some d) is = called_checked len b (bound_of called c) (counts called d refl is)

ops_if : (p : Program) (c : List Bound) (len : ℕ) (b : Bound) (ops : List OpData) (called : BlockId)
    (d : CodeBlock) → block_by_id called p.code_blocks ≡ Some d → counts_ops p c len b ops ≡ true
    → CallsIn ops called → CountsCalled len (Some b) (bound_of called c)
ops_if p c len b [] called d there is calls = absurd calls
ops_if p c len b (op ∷ ops) called d there is calls =
    by (and_parts (counts_callee p c len b (callee_of_op op)) (counts_ops p c len b ops) is)
    (λ more behind. ops_if p c len b ops called d there more behind) calls
  where
    by : (counts_callee p c len b (callee_of_op op) ≡ true) × (counts_ops p c len b ops ≡ true)
        → (counts_ops p c len b ops ≡ true → CallsIn ops called
        → CountsCalled len (Some b) (bound_of called c))
        → (callee_of_op op ≡ Some called) ⊎ CallsIn ops called
        → CountsCalled len (Some b) (bound_of called c)
    by parts next (inl here) =
        callee_if p c len b called d there
        (sym (ap (λ (o : Option BlockId). counts_callee p c len b o) here) ∙ parts.0)
    by parts next (inr behind) = next parts.1 behind

ops_checked : (p : Program) (c : List Bound) (len : ℕ) (b : Bound) (ops : List OpData)
    → ((called : BlockId) (d : CodeBlock) → block_by_id called p.code_blocks ≡ Some d
    → CallsIn ops called → CountsCalled len (Some b) (bound_of called c))
    → counts_ops p c len b ops ≡ true
ops_checked p c len b [] counts = refl
ops_checked p c len b (op ∷ ops) counts =
    and_from (counts_callee p c len b (callee_of_op op)) (counts_ops p c len b ops)
    (callee_checked p c len b (callee_of_op op) (λ called d is there. counts called d there (inl is)))
    (ops_checked p c len b ops (λ called d there calls. counts called d there (inr calls)))

-- ---- each bound of the list

-- a bound that is found was checked
checked_found : (p : Program) (c some : List Bound) (block : BlockId) (b : Bound)
    → each_counts p c some ≡ true → bound_of block some ≡ Some b
    → counts_block p c b (block_by_id block p.code_blocks) ≡ true
checked_found p c [] block b is found = absurd cc
checked_found p c (d ∷ rest) block b is found =
    by (and_parts (counts_block p c d (block_by_id d.block p.code_blocks)) (each_counts p c rest) is)
    (λ parts behind. checked_found p c rest block b parts behind) (is_same_id d.block block) refl found
  where
    bound_in : Option Bound → Bound
    bound_in None = d
    bound_in (Some x) = x

    by : (counts_block p c d (block_by_id d.block p.code_blocks) ≡ true) × (each_counts p c rest ≡ true)
        → (each_counts p c rest ≡ true → bound_of block rest ≡ Some b
        → counts_block p c b (block_by_id block p.code_blocks) ≡ true)
        → (test : Bool) → is_same_id d.block block ≡ test
        → (if test then Some d else bound_of block rest) ≡ Some b
        → counts_block p c b (block_by_id block p.code_blocks) ≡ true
    by parts next true same here =
        subst (λ (x : Bound). counts_block p c x (block_by_id block p.code_blocks) ≡ true)
        (ap (λ (o : Option Bound). bound_in o) here)
        (subst (λ (id : BlockId). counts_block p c d (block_by_id id p.code_blocks) ≡ true)
        (same_is d.block block same) parts.0)
    by parts next false same behind = next parts.1 behind

abbrev BlockCounts : Program → List Bound → Bound → CodeBlock → Type 0
BlockCounts p c b block =
    (1 ≤ b.depth) × (block.local_len ≤ b.bytes) × (counts_ops p c block.local_len b block.code ≡ true)

block_if : (p : Program) (c : List Bound) (b : Bound) (block : CodeBlock)
    → counts_block p c b (Some block) ≡ true → BlockCounts p c b block
block_if p c b block is =
    let parts =
    and_parts (nat_le 1 b.depth && nat_le block.local_len b.bytes)
    (counts_ops p c block.local_len b block.code) is in
    let own = and_parts (nat_le 1 b.depth) (nat_le block.local_len b.bytes) parts.0 in
    (le_of 1 b.depth own.0, le_of block.local_len b.bytes own.1, parts.1)

found_counts : (p : Program) (c : List Bound) (id : BlockId) (block : CodeBlock) (b : Bound)
    → each_counts p c c ≡ true → block_by_id id p.code_blocks ≡ Some block → bound_of id c ≡ Some b
    → BlockCounts p c b block
found_counts p c id block b is there found =
    block_if p c b block
    (sym (ap (λ (o : Option CodeBlock). counts_block p c b o) there)
    ∙ checked_found p c c id b is found)

own_if : (p : Program) (c : List Bound) (id : BlockId) (block : CodeBlock) (found : Option Bound)
    → each_counts p c c ≡ true → block_by_id id p.code_blocks ≡ Some block → bound_of id c ≡ found
    → CountsItself block.local_len found
own_if p c id block None is there found = tt
own_if p c id block (Some b) is there found =
    let counts : BlockCounts p c b block = found_counts p c id block b is there found in
    (counts.0, counts.1)

calls_if : (p : Program) (c : List Bound) (id called : BlockId) (block d : CodeBlock)
    (found : Option Bound) → each_counts p c c ≡ true → block_by_id id p.code_blocks ≡ Some block
    → block_by_id called p.code_blocks ≡ Some d → CallsIn block.code called → bound_of id c ≡ found
    → CountsCalled block.local_len found (bound_of called c)
calls_if p c id called block d None is here there calls found = tt
calls_if p c id called block d (Some b) is here there calls found =
    ops_if p c block.local_len b block.code called d there
    (found_counts p c id block b is here found).2 calls

loaded_if : (p : Program) (c some : List Bound) → each_counts p c some ≡ true → HasLoadedBlocksOnly p some
loaded_if p c [] is = tt
loaded_if p c (b ∷ rest) is =
    let parts =
    and_parts (counts_block p c b (block_by_id b.block p.code_blocks)) (each_counts p c rest) is in
    (there (block_by_id b.block p.code_blocks) parts.0, loaded_if p c rest parts.1)
  where
    there : (found : Option CodeBlock) → counts_block p c b found ≡ true → IsSome found
    there None counts = absurd cc
    there (Some block) counts = refl

block_checked : (p : Program) (c : List Bound) (b : Bound) (block : CodeBlock)
    → CountsItself block.local_len (Some b) → counts_ops p c block.local_len b block.code ≡ true
    → counts_block p c b (Some block) ≡ true
block_checked p c b block own ops =
    and_from (nat_le 1 b.depth && nat_le block.local_len b.bytes)
    (counts_ops p c block.local_len b block.code)
    (and_from (nat_le 1 b.depth) (nat_le block.local_len b.bytes) (le_test 1 b.depth own.0)
    (le_test block.local_len b.bytes own.1)) ops

each_checked : (z : Profile) (p : Program) (c some : List Bound) → IsCertificateOf z p c → AreFound c some
    → HasLoadedBlocksOnly p some → each_counts p c some ≡ true
each_checked z p c [] holds found loaded = refl
each_checked z p c (b ∷ rest) holds found loaded =
    and_from (counts_block p c b (block_by_id b.block p.code_blocks)) (each_counts p c rest)
    (by (block_by_id b.block p.code_blocks) refl loaded.0)
    (each_checked z p c rest holds found.1 loaded.1)
  where
    by : (there : Option CodeBlock) → block_by_id b.block p.code_blocks ≡ there → IsSome there
        → counts_block p c b there ≡ true
    by None is none = absurd cc
    by (Some block) is some =
        block_checked p c b block
        (subst (λ (o : Option Bound). CountsItself block.local_len o) found.0
        (holds.own b.block block is))
        (ops_checked p c block.local_len b block.code
        (λ called d at calls. subst (λ (o : Option Bound). CountsCalled block.local_len o (bound_of called c))
        found.0 (holds.calls b.block called block d is at calls)))

-- ---- organization blocks

within_if : (z : Profile) (b : Option Bound) → is_bound_within_limits z b ≡ true → IsBoundWithinLimits z b
within_if z None is = absurd cc
within_if z (Some b) is =
    let parts = and_parts (nat_le b.depth (most_frames z)) (nat_le b.bytes most_local_bytes) is in
    (le_of b.depth (most_frames z) parts.0, le_of b.bytes most_local_bytes parts.1)

within_checked : (z : Profile) (b : Option Bound) → IsBoundWithinLimits z b → is_bound_within_limits z b ≡ true
within_checked z None within = absurd within
within_checked z (Some b) within =
    and_from (nat_le b.depth (most_frames z)) (nat_le b.bytes most_local_bytes)
    (le_test b.depth (most_frames z) within.0) (le_test b.bytes most_local_bytes within.1)

ob_within : (z : Profile) (c : List Bound) (id : BlockId) → id.kind ≡ Ob
    → (not (is_organization_block id.kind) || is_bound_within_limits z (bound_of id c)) ≡ true
    → IsBoundWithinLimits z (bound_of id c)
ob_within z c id ob is =
    within_if z (bound_of id c)
    (sym (ap (λ (k : BlockKind). not (is_organization_block k) || is_bound_within_limits z (bound_of id c)) ob) ∙ is)

obs_if : (z : Profile) (c : List Bound) (blocks : List CodeBlock) (more : List BlockId) (id : BlockId)
    (b : CodeBlock) → obs_within z c (map (λ (x : CodeBlock). x.id) blocks ++ more) ≡ true
    → block_by_id id blocks ≡ Some b → id.kind ≡ Ob → IsBoundWithinLimits z (bound_of id c)
obs_if z c [] more id b is there ob = absurd cc
obs_if z c (one ∷ blocks) more id b is there ob =
    by (and_parts (not (is_organization_block one.id.kind) || is_bound_within_limits z (bound_of one.id c))
    (obs_within z c (map (λ (x : CodeBlock). x.id) blocks ++ more)) is)
    (λ parts behind. obs_if z c blocks more id b parts behind ob) (is_same_id one.id id) refl there
  where
    by : ((not (is_organization_block one.id.kind) || is_bound_within_limits z (bound_of one.id c)) ≡ true)
        × (obs_within z c (map (λ (x : CodeBlock). x.id) blocks ++ more) ≡ true)
        → (obs_within z c (map (λ (x : CodeBlock). x.id) blocks ++ more) ≡ true
        → block_by_id id blocks ≡ Some b → IsBoundWithinLimits z (bound_of id c))
        → (test : Bool) → is_same_id one.id id ≡ test
        → (if test then Some one else block_by_id id blocks) ≡ Some b → IsBoundWithinLimits z (bound_of id c)
    by parts next true same here =
        let is_it : one.id ≡ id = same_is one.id id same in
        ob_within z c id ob
        (subst (λ (x : BlockId). (not (is_organization_block x.kind) || is_bound_within_limits z (bound_of x c)) ≡ true)
        is_it parts.0)
    by parts next false same behind = next parts.1 behind

-- that an organization block which is loaded has a bound within the limits
abbrev ObsWithin : Profile → List Bound → List CodeBlock → Type 0
ObsWithin z c blocks =
    (b : CodeBlock) → block_by_id b.id blocks ≡ Some b → b.id.kind ≡ Ob → IsBoundWithinLimits z (bound_of b.id c)

data_checked : (z : Profile) (c : List Bound) (datas : List DataBlock)
    → obs_within z c (map data_block_id datas) ≡ true
data_checked z c [] = refl
data_checked z c (d ∷ datas) = data_checked z c datas

-- the first block of some with a kind and number is there
is_there : (b : CodeBlock) (rest : List CodeBlock) → block_by_id b.id (b ∷ rest) ≡ Some b
is_there b rest = rw (same_self b.id) refl

test_checked : (z : Profile) (c : List Bound) (id : BlockId) → (id.kind ≡ Ob → IsBoundWithinLimits z (bound_of id c))
    → (not (is_organization_block id.kind) || is_bound_within_limits z (bound_of id c)) ≡ true
test_checked z c id within = by id.kind refl
  where
    by : (k : BlockKind) → id.kind ≡ k
        → (not (is_organization_block k) || is_bound_within_limits z (bound_of id c)) ≡ true
    by Ob is = within_checked z (bound_of id c) (within is)
    by Fc is = refl
    by Fb is = refl
    by Db is = refl
    by Sfc is = refl
    by Udt is = refl

-- a block of a list is found there, it or one before it of the same kind and number
abbrev IsFoundIn : List CodeBlock → BlockId → Type 0
IsFoundIn blocks id = IsSome (block_by_id id blocks)

found_within : (z : Profile) (c : List Bound) (blocks : List CodeBlock) (id : BlockId)
    → ObsWithin z c blocks → IsFoundIn blocks id → id.kind ≡ Ob → IsBoundWithinLimits z (bound_of id c)
found_within z c blocks id within found ob = by (block_by_id id blocks) refl found
  where
    by : (there : Option CodeBlock) → block_by_id id blocks ≡ there → IsSome there
        → IsBoundWithinLimits z (bound_of id c)
    by None is none = absurd cc
    by (Some b) is some =
        let same : b.id ≡ id = found_id id blocks b is in
        subst (λ (x : BlockId). IsBoundWithinLimits z (bound_of x c)) same
        (within b (subst (λ (x : BlockId). block_by_id x blocks ≡ Some b) (sym same) is)
        (ap (λ (x : BlockId). x.kind) same ∙ ob))

found_more : (one : CodeBlock) (blocks : List CodeBlock) (id : BlockId) → IsFoundIn blocks id
    → IsFoundIn (one ∷ blocks) id
found_more one blocks id found = by (is_same_id one.id id)
  where
    by : (test : Bool) → IsSome (if test then Some one else block_by_id id blocks)
    by true = refl
    by false = found

obs_checked : (z : Profile) (c : List Bound) (all blocks : List CodeBlock) (datas : List DataBlock)
    → ObsWithin z c all → ((id : BlockId) → IsFoundIn blocks id → IsFoundIn all id)
    → obs_within z c (map (λ (x : CodeBlock). x.id) blocks ++ map data_block_id datas) ≡ true
obs_checked z c all [] datas within among = data_checked z c datas
obs_checked z c all (one ∷ blocks) datas within among =
    and_from (not (is_organization_block one.id.kind) || is_bound_within_limits z (bound_of one.id c))
    (obs_within z c (map (λ (x : CodeBlock). x.id) blocks ++ map data_block_id datas))
    (test_checked z c one.id (λ ob. found_within z c all one.id within
    (among one.id (ap (λ (o : Option CodeBlock). is_some o) (is_there one blocks))) ob))
    (obs_checked z c all blocks datas within (λ id found. among id (found_more one blocks id found)))

-- ---- together

holds_if : (z : Profile) (p : Program) (c : List Bound) → is_certificate z p c ≡ true → IsCertificateOf z p c
holds_if z p c is =
    by (and_parts (has_each_block_once c && each_counts p c c) (obs_within z c (block_ids p)) is)
  where
    by : ((has_each_block_once c && each_counts p c c) ≡ true) × (obs_within z c (block_ids p) ≡ true) → IsCertificateOf z p c
    by parts =
        let one = and_parts (has_each_block_once c) (each_counts p c c) parts.0 in
        record {
          once = are_once_if c one.0;
          loaded = loaded_if p c c one.1;
          obs = λ b there ob. obs_if z c p.code_blocks (map data_block_id p.data_blocks) b.id b parts.1 there ob;
          own = λ id b there. own_if p c id b (bound_of id c) one.1 there refl;
          calls = λ id called b d here there calls.
              calls_if p c id called b d (bound_of id c) one.1 here there calls refl;
        }

checked_if : (z : Profile) (p : Program) (c : List Bound) → IsCertificateOf z p c → is_certificate z p c ≡ true
checked_if z p c holds =
    and_from (has_each_block_once c && each_counts p c c) (obs_within z c (block_ids p))
    (and_from (has_each_block_once c) (each_counts p c c) (once_checked c holds.once)
    (each_checked z p c c holds (are_found c holds.once) holds.loaded))
    (obs_checked z c p.code_blocks p.code_blocks p.data_blocks holds.obs (λ id found. found))

pub check_decides : (z : Profile) (p : Program) (c : List Bound) → IsTrue (is_certificate z p c) ↔ IsCertificateOf z p c
check_decides z p c = (holds_if z p c, checked_if z p c)
