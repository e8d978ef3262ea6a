-- The data blocks of a memory by rising number.
use Rattle.std.proofs.Common.{◌≡◌, ℕ, zero, suc, ◌<◌, Bool, true, false, cond, ◌&&◌, T, List, [], ◌∷◌, map, length, refl, sym, ap, subst, ◌∙◌, arith, Option, Some, None, Bor}
use Rattle.std.specs.Prelude.{is_some, nat_eq, slice_get}
use Rattle.std.specs.Option.{option_copied, option_map}
use Rattle.std.specs.Cmp.{nat_cmp_is, nat_cmp_total, ranks, unsigned_tied}
use Rattle.std.specs.FinMap as finmap
use Rattle.std.specs.FinMap.{entries-from_sorted, entries-insert, entries_sorted, get-entries, get-from_entries, get-from_sorted, len-empty, len-entries, nat_cmp-IsAntisymmetric, same_map}
use Rattle.std.specs.FinMap.Entries.{below_all, find, is_sorted, put}
use Rattle.std.specs.Ordering.{MatchOrdering, eq_by_cmp, is_eq, is_lt, nat_cmp}
use Rattle.std.specs.declared.cmp.Ordering.{Ordering}
use Rattle.std.specs.declared.cmp.Ordering.TheVariants.{Less, Equal, Greater}
use Rattle.std.proofs.lemmas.Bool.{and_parts}
use Rattle.std.proofs.lemmas.Bool.Decides.{nat_tests}
use Rattle.std.proofs.lemmas.Option.{slice_get-map}
use Rattle.plc_base.specs.declared.Profile.{Profile}
use Rattle.plc_mem.specs.Areas.{Areas}
use Rattle.plc_mem.specs.Fresh.{initial_memory}
use Rattle.flat_code.specs.Programs.{DataBlock, Program}
use Rattle.flat_code.specs.Loading.{Verifies}
use Rattle.image_file.specs.Readers.{data_bytes_of}
use Rattle.machine.specs.Fitting.{IsMemoryOf}
use Rattle.machine.specs.Flat.{code_of, numbered_bytes}
use Rattle.controller.specs.Starting.{data_block_numbers}
use Rattle.controller.proofs.StartLemmas.{Rise, numbers_rise}

abbrev Blocks : Type 0
Blocks = List (ℕ × List ℕ)

abbrev BlockMap : Type 0
BlockMap = finmap.FinMap nat_cmp (List ℕ)

-- ---- orders of numbers

less : (x y : ℕ) → x < y → nat_cmp x y ≡ Less
less x y h = sym (nat_cmp_is x y Less h)

more : (x y : ℕ) → y < x → nat_cmp x y ≡ Greater
more x y h = sym (nat_cmp_is x y Greater h)

equal : (x : ℕ) → nat_cmp x x ≡ Equal
equal x = sym (nat_cmp_is x x Equal refl)

lower : (x y : ℕ) → is_lt (nat_cmp x y) ≡ true → x < y
lower x y h = by (nat_cmp x y) refl h
  where
    by : (r : Ordering) → nat_cmp x y ≡ r → is_lt r ≡ true → x < y
    by Less e h' = subst (λ (r : Ordering). MatchOrdering r (x < y) (x ≡ y) (y < x)) e (ranks x y)
    by Equal e h' = absurd cc
    by Greater e h' = absurd cc

-- ---- the entries of a list whose numbers rise

put_first : (before : ℕ) (bytes : List ℕ) (ds : List DataBlock) → Rise before ds
    → put nat_cmp before bytes (numbered_bytes ds) ≡ (before, bytes) ∷ numbered_bytes ds
put_first before bytes [] rise = refl
put_first before bytes (d ∷ ds) rise = rw (less before d.number rise.0) refl

no_length : (es : Blocks) → length es ≡ 0 → es ≡ []
no_length [] h = refl
no_length (e ∷ es) h = absurd (omega arith)

empty_entries : finmap.entries (finmap.empty {X = List ℕ} {R = nat_cmp}) ≡ []
empty_entries =
    no_length (finmap.entries (finmap.empty {X = List ℕ} {R = nat_cmp}))
    (sym (len-entries (finmap.empty {X = List ℕ} {R = nat_cmp})) ∙ len-empty nat_cmp (List ℕ))

rising_entries : (before : ℕ) (ds : List DataBlock) → Rise before ds
    → finmap.entries (finmap.from_entries {R = nat_cmp} (numbered_bytes ds)) ≡ numbered_bytes ds
rising_entries before [] rise = empty_entries
rising_entries before (d ∷ ds) rise =
    entries-insert nat_cmp_total (finmap.from_entries (numbered_bytes ds)) d.number d.bytes
    ∙ ap (put nat_cmp d.number d.bytes) (rising_entries d.number ds rise.1)
    ∙ put_first d.number d.bytes ds rise.1

-- ---- two maps with the same lengths at each number have the same numbers

lens : Blocks → List (ℕ × ℕ)
lens es = map (λ (e : ℕ × List ℕ). (e.0, length e.1)) es

lens_find : (q : ℕ) (es : Blocks) → find nat_cmp q (lens es) ≡ option_map length (find nat_cmp q es)
unfolding lens
lens_find q [] = refl
lens_find q (e ∷ es) =
    elim (eq_by_cmp nat_cmp q e.0) as (λ b. cond b (Some (length e.1)) (find nat_cmp q (lens es)) ≡ option_map length (cond b (Some e.1) (find nat_cmp q es))) [
      | true ↦ refl
      | false ↦ lens_find q es
    ]

lens_below : (x : ℕ) (es : Blocks) → below_all nat_cmp x (lens es) ≡ below_all nat_cmp x es
unfolding lens
lens_below x [] = refl
lens_below x (e ∷ es) = ap (λ (b : Bool). is_lt (nat_cmp x e.0) && b) (lens_below x es)

lens_sorted : (es : Blocks) → is_sorted nat_cmp (lens es) ≡ is_sorted nat_cmp es
unfolding lens
lens_sorted [] = refl
lens_sorted (e ∷ es) =
    ap (λ (b : Bool). b && is_sorted nat_cmp (lens es)) (lens_below e.0 es)
    ∙ ap (λ (b : Bool). below_all nat_cmp e.0 es && b) (lens_sorted es)

lens_of_map : (m : BlockMap) → T (is_sorted nat_cmp (lens (finmap.entries m)))
lens_of_map m = subst T (sym (lens_sorted (finmap.entries m))) (entries_sorted m)

lens_get : (m : BlockMap) (q : ℕ)
    → finmap.get (finmap.from_sorted {R = nat_cmp} (lens (finmap.entries m))) q ≡ option_map length (finmap.get m q)
lens_get m q =
    get-from_sorted nat_cmp (lens (finmap.entries m)) q (lens_of_map m)
    ∙ lens_find q (finmap.entries m)
    ∙ ap (λ (o : Option (List ℕ)). option_map length o) (sym (get-entries m q))

same_lens : (m n : BlockMap) → ((q : ℕ) → option_map length (finmap.get n q) ≡ option_map length (finmap.get m q))
    → lens (finmap.entries n) ≡ lens (finmap.entries m)
same_lens m n same =
    sym (entries-from_sorted nat_cmp (lens (finmap.entries n)) (lens_of_map n))
    ∙ ap (λ (k : finmap.FinMap nat_cmp ℕ). finmap.entries k)
    (same_map nat_cmp_total nat_cmp-IsAntisymmetric
    (finmap.from_sorted (lens (finmap.entries n))) (finmap.from_sorted (lens (finmap.entries m)))
    (λ q. lens_get n q ∙ same q ∙ sym (lens_get m q)))
    ∙ entries-from_sorted nat_cmp (lens (finmap.entries m)) (lens_of_map m)

lens_numbers : (es : Blocks) → map (λ (e : ℕ × ℕ). e.0) (lens es) ≡ data_block_numbers es
unfolding lens
lens_numbers [] = refl
lens_numbers (e ∷ es) = ap (λ (ns : List ℕ). e.0 ∷ ns) (lens_numbers es)

same_numbers : (m n : BlockMap) → ((q : ℕ) → option_map length (finmap.get n q) ≡ option_map length (finmap.get m q))
    → data_block_numbers (finmap.entries n) ≡ data_block_numbers (finmap.entries m)
same_numbers m n same =
    sym (lens_numbers (finmap.entries n))
    ∙ ap (λ (es : List (ℕ × ℕ)). map (λ (e : ℕ × ℕ). e.0) es) (same_lens m n same)
    ∙ lens_numbers (finmap.entries m)

fresh_numbers : (profile : Profile) (p : Program) → Verifies p
    → data_block_numbers (finmap.entries (initial_memory profile (numbered_bytes p.data_blocks)).data_blocks) ≡ data_block_numbers (numbered_bytes p.data_blocks)
unfolding initial_memory
fresh_numbers profile p h = ap data_block_numbers (rising_entries 0 p.data_blocks (numbers_rise p h))

-- the numbers of the data blocks of a memory are those of its program
pub memory_numbers : (p : Program) (m : Areas) → Verifies p → IsMemoryOf (code_of p) m
    → data_block_numbers (finmap.entries m.data_blocks) ≡ data_block_numbers (numbered_bytes p.data_blocks)
memory_numbers p m h is =
    same_numbers (initial_memory is.profile (numbered_bytes p.data_blocks)).data_blocks m.data_blocks is.sizes.data_blocks ∙ fresh_numbers is.profile p h

-- ---- an entry by its place

key_above : (x k : ℕ) (es : Blocks) (i : ℕ) → below_all nat_cmp x es ≡ true → slice_get (data_block_numbers es) i ≡ Some k → x < k
key_above x k [] i below found = absurd cc
key_above x k (e ∷ es) zero below found =
    let first : x < e.0 = lower x e.0 (and_parts (is_lt (nat_cmp x e.0)) (below_all nat_cmp x es) below).0 in
    let is : e.0 ≡ k = same_some e.0 k found in
    subst (λ (n : ℕ). x < n) is first
  where
    same_some : (a b : ℕ) → Some a ≡ Some b → a ≡ b
    same_some a b e' = cc
key_above x k (e ∷ es) (suc i) below found =
    key_above x k es i (and_parts (is_lt (nat_cmp x e.0)) (below_all nat_cmp x es) below).1 found

entry_at : (es : Blocks) (i k : ℕ) → is_sorted nat_cmp es ≡ true → slice_get (data_block_numbers es) i ≡ Some k
    → slice_get es i ≡ option_map (λ (bytes : List ℕ). (k, bytes)) (find nat_cmp k es)
entry_at [] i k sorted found = absurd cc
entry_at (e ∷ es) zero k sorted found = first e.0 k (same_some e.0 k found)
  where
    same_some : (a b : ℕ) → Some a ≡ Some b → a ≡ b
    same_some a b e' = cc

    first : (a b : ℕ) → a ≡ b → ◌≡◌ {A = Option (ℕ × List ℕ)} (Some (a, e.1)) (option_map (λ (bytes : List ℕ). (b, bytes)) (cond (is_eq (nat_cmp b a)) (Some e.1) (find nat_cmp b es)))
    first a b is = rw is (rw (equal b) refl)
entry_at (e ∷ es) (suc i) k sorted found =
    let parts = and_parts (below_all nat_cmp e.0 es) (is_sorted nat_cmp es) sorted in
    let above : nat_cmp k e.0 ≡ Greater = more k e.0 (key_above e.0 k es i parts.0 found) in
    rw above (entry_at es i k parts.1 found)

none_at : (es : Blocks) (i : ℕ) → slice_get (data_block_numbers es) i ≡ None → slice_get es i ≡ None
none_at es i none = by (slice_get es i) (sym (slice_get-map (λ (e : ℕ × List ℕ). e.0) es i) ∙ none)
  where
    by : (o : Option (ℕ × List ℕ)) → option_map (λ (e : ℕ × List ℕ). e.0) o ≡ None → o ≡ None
    by None h = refl
    by (Some e) h = absurd cc

true_test : (b : Bool) → T b → b ≡ true
true_test true h = refl
true_test false h = absurd h

-- the block at a place, by its number there
pub block_there : (m : BlockMap) (numbers : List ℕ) (place n : ℕ)
    → data_block_numbers (finmap.entries m) ≡ numbers → slice_get numbers place ≡ Some n
    → slice_get (finmap.entries m) place ≡ option_map (λ (bytes : List ℕ). (n, bytes)) (finmap.get m n)
block_there m numbers place n are found =
    entry_at (finmap.entries m) place n (true_test _ (entries_sorted m)) (ap (λ (ns : List ℕ). slice_get ns place) are ∙ found)
    ∙ ap (λ (o : Option (List ℕ)). option_map (λ (bytes : List ℕ). (n, bytes)) o) (sym (get-entries m n))

pub no_block_there : (m : BlockMap) (numbers : List ℕ) (place : ℕ)
    → data_block_numbers (finmap.entries m) ≡ numbers → slice_get numbers place ≡ None
    → slice_get (finmap.entries m) place ≡ None
no_block_there m numbers place are none =
    none_at (finmap.entries m) place (ap (λ (ns : List ℕ). slice_get ns place) are ∙ none)

-- ---- which blocks are loaded

same_test : (n m : ℕ) → eq_by_cmp nat_cmp n m ≡ nat_eq m n
same_test n m = unsigned_tied n m ∙ turned n m
  where
    turned : (a b : ℕ) → nat_eq a b ≡ nat_eq b a
    turned a b = grind (arith, nat_tests)

found_by_number : (n : ℕ) (ds : List DataBlock) → find nat_cmp n (numbered_bytes ds) ≡ data_bytes_of n ds
found_by_number n [] = refl
found_by_number n (d ∷ ds) = rw (same_test n d.number) (ap (λ (o : Option (List ℕ)). cond (nat_eq d.number n) (Some d.bytes) o) (found_by_number n ds))

some_by_length : (a b : Option (List ℕ)) → option_map length a ≡ option_map length b → is_some a ≡ is_some b
some_by_length None None h = refl
some_by_length (Some x) (Some y) h = refl
some_by_length None (Some y) h = absurd cc
some_by_length (Some x) None h = absurd cc

fresh_block : (profile : Profile) (p : Program) (n : ℕ) → finmap.get (initial_memory profile (numbered_bytes p.data_blocks)).data_blocks n ≡ data_bytes_of n p.data_blocks
unfolding initial_memory
fresh_block profile p n = get-from_entries nat_cmp_total (numbered_bytes p.data_blocks) n ∙ found_by_number n p.data_blocks

pub loaded_there : (p : Program) (m : Areas) (n : ℕ) → IsMemoryOf (code_of p) m
    → is_some (finmap.get m.data_blocks n) ≡ is_some (data_bytes_of n p.data_blocks)
loaded_there p m n is =
    some_by_length (finmap.get m.data_blocks n) (finmap.get (initial_memory is.profile (numbered_bytes p.data_blocks)).data_blocks n) (is.sizes.data_blocks n)
    ∙ ap (λ (o : Option (List ℕ)). is_some o) (fresh_block is.profile p n)

pub copied_some : (o : Option (Bor (List ℕ))) → is_some (option_copied o) ≡ is_some o
copied_some None = refl
copied_some (Some b) = refl
