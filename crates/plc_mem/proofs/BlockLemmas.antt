-- Data blocks by their numbers.
use Rattle.std.proofs.Common.{◌≡◌, ℕ, List, [], ◌∷◌, refl, sym, ◌∙◌, ap, subst, cond, Bool, true, false, Option, Some, None, IsSome, Vec, Global, Result, Ok, Err, MatchResult, nat_eq, ◌++◌, arith, take, drop, get_or, length, suc, ◌+◌, ◌<◌, drop-cons, add-one}
use Rattle.std.proofs.Math.Seq.{take-suc}
use Rattle.std.proofs.lemmas.List.{take-append-drop}
use Rattle.plc_base.specs.declared.Width.{Width}
use Rattle.plc_mem.specs.declared.faults.Missing.{Missing}
use Rattle.plc_mem.specs.Writing.{put_number, put_in_block}
use Rattle.std.specs.declared.cmp.Ordering.{Ordering}
use Rattle.std.specs.declared.cmp.Ordering.TheVariants.{Less, Equal, Greater}
use Rattle.std.specs.Ordering.{nat_cmp, eq_by_cmp, is_eq}
use Rattle.std.specs.Cmp.{nat_cmp_total, eq_by_cmp_equiv}
use Rattle.std.specs.Option.{option_map}
use Rattle.std.specs.Map.{lookup}
use Rattle.std.specs.FinMap as map
use Rattle.std.specs.FinMap.{get-from_entries, get-insert, same_map, nat_cmp-IsAntisymmetric, find, from_entries_push}
use Rattle.std.specs.BTreeMap as tree
use Rattle.std.specs.BTreeMap.{BTreeMap}
use Rattle.plc_mem.specs.Blocks.{data_block_map, bytes_by_number, block_numbers}
use Rattle.std.specs.List.{IsDistinct, AllByRecursion}
use Rattle.std.proofs.lemmas.List.{map-append}
use Rattle.std.proofs.lemmas.Map.Keys.{IsDistinct-head, IsDistinct-tail}
use Rattle.std.proofs.lemmas.Bool.Decides.{nat_tests}

-- what `map` does to a choice
mapped_cond : (b : Bool) (v : Vec ℕ Global) (o : Option (Vec ℕ Global)) (r : Option (List ℕ)) → r ≡ option_map (λ (x : Vec ℕ Global). x.items) o → cond b (Some v.items) r ≡ option_map (λ (x : Vec ℕ Global). x.items) (cond b (Some v) o)
mapped_cond true v o r e = refl
mapped_cond false v o r e = e

find_bytes : (k : ℕ) (entries : List (ℕ × Vec ℕ Global)) → find nat_cmp k (bytes_by_number entries) ≡ option_map (λ (v : Vec ℕ Global). v.items) (lookup (tree.is_at (nat_cmp k)) entries)
find_bytes k [] = refl
find_bytes k (e ∷ es) = mapped_cond (eq_by_cmp nat_cmp k e.0) e.1 (lookup (tree.is_at (nat_cmp k)) es) (find nat_cmp k (bytes_by_number es)) (find_bytes k es)

-- a block's bytes are those of the vector at its number
pub get_blocks : (m : BTreeMap ℕ (Vec ℕ Global)) (k : ℕ) → map.get (data_block_map m.entries) k ≡ option_map (λ (v : Vec ℕ Global). v.items) (tree.get nat_cmp m k)
unfolding data_block_map
get_blocks m k = get-from_entries nat_cmp_total (bytes_by_number m.entries) k ∙ find_bytes k m.entries

written_get : (b : Bool) (w : Vec ℕ Global) (o : Option (Vec ℕ Global)) → option_map (λ (x : Vec ℕ Global). x.items) (cond b (Some w) o) ≡ cond b (Some w.items) (option_map (λ (x : Vec ℕ Global). x.items) o)
written_get true w o = refl
written_get false w o = refl

is_there : (v : Vec ℕ Global) (o : Option (Vec ℕ Global)) → o ≡ Some v → IsSome o
is_there v o e = subst IsSome (sym e) refl

-- to put a vector at a number is to insert its bytes there
pub inserted_bytes : (m n : BTreeMap ℕ (Vec ℕ Global)) (k : ℕ) (w : Vec ℕ Global) → tree.Updates nat_cmp m n k (Some w) → data_block_map n.entries ≡ map.insert (data_block_map m.entries) k w.items
inserted_bytes m n k w updates =
    same_map nat_cmp_total nat_cmp-IsAntisymmetric _ _ (λ q.
    get_blocks n q
    ∙ ap (option_map (λ (x : Vec ℕ Global). x.items)) (updates.0 q)
    ∙ written_get (tree.is_at (nat_cmp k) q) w (tree.get nat_cmp m q)
    ∙ ap (λ (b : Bool). cond b (Some w.items) (option_map (λ (x : Vec ℕ Global). x.items) (tree.get nat_cmp m q))) ((eq_by_cmp_equiv nat_cmp_total).symm k q)
    ∙ ap (cond (eq_by_cmp nat_cmp q k) (Some w.items)) (sym (get_blocks m q))
    ∙ sym (get-insert nat_cmp_total (data_block_map m.entries) k w.items q))

put_blocks : (m n : BTreeMap ℕ (Vec ℕ Global)) (k : ℕ) (v w : Vec ℕ Global) → tree.get nat_cmp m k ≡ Some v → tree.WritesThrough nat_cmp (nat_cmp k) m w n → data_block_map n.entries ≡ map.insert (data_block_map m.entries) k w.items
put_blocks m n k v w found through = inserted_bytes m n k w (through.3 (is_there v _ found))

same_choice : (b : map.FinMap nat_cmp (List ℕ)) (k q : ℕ) (x : List ℕ) (r : Ordering) → nat_cmp q k ≡ r → map.get b k ≡ Some x → cond (is_eq r) (Some x) (map.get b q) ≡ map.get b q
same_choice b k q x Less e found = refl
same_choice b k q x Equal e found = sym (ap (map.get b) (nat_cmp-IsAntisymmetric q k e) ∙ found)
same_choice b k q x Greater e found = refl

-- to insert what is there already changes nothing
insert_same : (b : map.FinMap nat_cmp (List ℕ)) (k : ℕ) (x : List ℕ) → map.get b k ≡ Some x → map.insert b k x ≡ b
insert_same b k x found =
    same_map nat_cmp_total nat_cmp-IsAntisymmetric _ _ (λ q. get-insert nat_cmp_total b k x q ∙ same_choice b k q x (nat_cmp q k) refl found)

-- a write into a block that was found, which `r` answers
pub put_through :
    (m n : BTreeMap ℕ (Vec ℕ Global)) (k at bit : ℕ) (width : Width) (value : ℕ) (v w : Vec ℕ Global) (new : List ℕ) (r : Result (Unit {0}) Missing)
    → tree.get nat_cmp m k ≡ Some v
    → tree.WritesThrough nat_cmp (nat_cmp k) m w n
    → w.items ≡ new
    → MatchResult r (λ _. put_number v.items at bit width value ≡ Some new) (λ _. (put_number v.items at bit width value ≡ None) × (new ≡ v.items))
    → MatchResult
    r
    (λ _. put_in_block (data_block_map m.entries) k at bit width value ≡ Some (data_block_map n.entries))
    (λ _. (put_in_block (data_block_map m.entries) k at bit width value ≡ None) × (data_block_map n.entries ≡ data_block_map m.entries))
unfolding put_in_block
put_through m n k at bit width value v w new (Ok _) found through same done =
    let here : map.get (data_block_map m.entries) k ≡ Some v.items = get_blocks m k ∙ ap (option_map (λ (x : Vec ℕ Global). x.items)) found in
    rw (here, done, put_blocks m n k v w found through, same) refl
put_through m n k at bit width value v w new (Err _) found through same done =
    let here : map.get (data_block_map m.entries) k ≡ Some v.items = get_blocks m k ∙ ap (option_map (λ (x : Vec ℕ Global). x.items)) found in
    (rw (here, done.0) refl, put_blocks m n k v w found through ∙ ap (map.insert (data_block_map m.entries) k) (same ∙ done.1) ∙ insert_same (data_block_map m.entries) k v.items here)

-- a write into a block that isn't there
pub put_nowhere : (m : BTreeMap ℕ (Vec ℕ Global)) (k at bit : ℕ) (width : Width) (value : ℕ) → tree.get nat_cmp m k ≡ None → put_in_block (data_block_map m.entries) k at bit width value ≡ None
unfolding put_in_block
put_nowhere m k at bit width value none = rw (get_blocks, none) refl

-- ---- copies of a list of data blocks

holds_at_item : (P : ℕ → Type 0) (k : ℕ) (v : Vec ℕ Global) (done rest : List (ℕ × Vec ℕ Global)) → AllByRecursion P (block_numbers (done ++ (k, v) ∷ rest)) → P k
holds_at_item P k v [] rest h = h.0
holds_at_item P k v (e ∷ es) rest h = holds_at_item P k v es rest h.1

apart : (a b : ℕ) (r : Ordering) → nat_cmp b a ≡ r → nat_eq a b ≡ false → is_eq r ≡ false
apart a b Less e differ = refl
apart a b Equal e differ = let same : b ≡ a = nat_cmp-IsAntisymmetric b a e in absurd (grind (arith, nat_tests))
apart a b Greater e differ = refl

-- a number that comes later isn't among the first blocks
absent : (k : ℕ) (v : Vec ℕ Global) (done rest : List (ℕ × Vec ℕ Global)) → IsDistinct nat_eq (block_numbers (done ++ (k, v) ∷ rest)) → find nat_cmp k (bytes_by_number done) ≡ None
absent k v [] rest differ = refl
absent k v (e ∷ es) rest differ =
    let other : eq_by_cmp nat_cmp k e.0 ≡ false =
    apart e.0 k (nat_cmp k e.0) refl (holds_at_item (λ (y : ℕ). nat_eq e.0 y ≡ false) k v es rest (IsDistinct-head nat_eq e.0 _ differ)) in
    rw other (absent k v es rest (IsDistinct-tail nat_eq e.0 _ differ))

-- one more block
pub one_more :
    (m n : BTreeMap ℕ (Vec ℕ Global)) (k : ℕ) (v w : Vec ℕ Global) (done rest : List (ℕ × Vec ℕ Global))
    → IsDistinct nat_eq (block_numbers (done ++ (k, v) ∷ rest))
    → data_block_map m.entries ≡ map.from_entries (bytes_by_number done)
    → tree.Updates nat_cmp m n k (Some w)
    → w.items ≡ v.items
    → data_block_map n.entries ≡ map.from_entries (bytes_by_number (done ++ (k, v) ∷ []))
one_more m n k v w done rest differ before updates same =
    inserted_bytes m n k w updates
    ∙ ap (λ (b : map.FinMap nat_cmp (List ℕ)). map.insert b k w.items) before
    ∙ ap (map.insert (map.from_entries (bytes_by_number done)) k) same
    ∙ sym (from_entries_push nat_cmp_total nat_cmp-IsAntisymmetric (bytes_by_number done) k v.items (absent k v done rest differ))
    ∙ ap map.from_entries (sym (map-append (λ (e : ℕ × Vec ℕ Global). (e.0, e.1.items)) done ((k, v) ∷ [])))

-- a list at one of its elements
pub split_at_item : {A : Type 0} (xs : List A) (i : ℕ) (x : A) → i < length xs → x ≡ get_or xs i x → take i xs ++ (x ∷ drop (suc i) xs) ≡ xs
split_at_item xs i x h is =
    ap (λ y. take i xs ++ (y ∷ drop (suc i) xs)) is
    ∙ ap (take i xs ++◌) (sym (drop-cons xs i x h))
    ∙ take-append-drop i xs

pub take_item : {A : Type 0} (xs : List A) (i : ℕ) (x : A) → i < length xs → x ≡ get_or xs i x → take i xs ++ (x ∷ []) ≡ take (i + 1) xs
take_item xs i x h is =
    ap (λ y. take i xs ++ (y ∷ [])) is ∙ sym (take-suc xs i x h) ∙ ap (λ n. take n xs) (sym (add-one i))
