-- Lists of the items of a board, and their fronts.
use Rattle.std.proofs.Common.{◌≡◌, ◌⊎◌, inl, inr, ◌≤◌, ◌<◌, ℕ, ◌+◌, List, [], ◌∷◌, ◌++◌, length, Option, Some, None, refl, sym, ◌∙◌, ap, subst, arith, append-nil, length-append}
use Rattle.std.specs.Prelude.{IfSome}
use Rattle.std.specs.List.{AllByRecursion, last_or}
use mathlib.Core.List.{IsPrefix}
use Rattle.watch_board.specs.BoardList.{HasRisingLengths, last_item_of}
use Rattle.watch_board.specs.declared.shown.Shown.{Shown}
use Rattle.tracked_lock.proofs.Prefixes.{prefix_self, prefix_trans}
use Rattle.s7_cli.specs.Watching.{AreSeenIn, IsSeenIn, NeverFall}

pub all_mapped : {A : Type 0} (P Q : A → Type 0) (xs : List A) → ((x : A) → P x → Q x) → AllByRecursion P xs → AllByRecursion Q xs
all_mapped P Q [] f h = tt
all_mapped P Q (x ∷ xs) f h = (f x h.0, all_mapped P Q xs f h.1)

pub all_more : {A : Type 0} (P : A → Type 0) (xs : List A) (x : A) → AllByRecursion P xs → P x → AllByRecursion P (xs ++ x ∷ [])
all_more P [] x h p = (p, tt)
all_more P (y ∷ xs) x h p = (h.0, all_more P xs x h.1 p)

-- what holds of all items of a list holds of the last one of a front of it
last_holds : (P : Shown → Type 0) (o : Option Shown) (front back : List Shown) (x : Shown) → IfSome o P → AllByRecursion P (front ++ back)
    → last_or o front ≡ Some x → P x
last_holds P o [] back x first all is = subst (λ (v : Option Shown). IfSome v P) is first
last_holds P o (y ∷ front) back x first all is = last_holds P (Some y) front back x all.0 all.1 is

pub seen_holds : (P : Shown → Type 0) (list : List Shown) (x : Shown) → AllByRecursion P list → IsSeenIn list x → P x
seen_holds P list x all seen =
    last_holds P None seen.0 seen.1.0 x tt (subst (AllByRecursion P) (sym seen.1.1) all) seen.2

-- so of all that was seen
pub all_seen_hold : (P : Shown → Type 0) (list seen : List Shown) → AllByRecursion P list → AllByRecursion (IsSeenIn list) seen → AllByRecursion P seen
all_seen_hold P list seen all each = all_mapped (IsSeenIn list) P seen (λ x. seen_holds P list x all) each

-- what was seen of a front was seen of the whole
pub seen_on : (list more : List Shown) (seen : List Shown) → IsPrefix list more → AllByRecursion (IsSeenIn list) seen → AllByRecursion (IsSeenIn more) seen
seen_on list more seen begins each =
    all_mapped (IsSeenIn list) (IsSeenIn more) seen (λ x s. (s.0, prefix_trans s.0 list more s.1 begins, s.2)) each

last_behind : (o : Option Shown) (xs : List Shown) (x : Shown) → last_or o (xs ++ x ∷ []) ≡ Some x
last_behind o [] x = refl
last_behind o (y ∷ xs) x = last_behind (Some y) xs x

pub last_more : (xs : List Shown) (x : Shown) → last_item_of (xs ++ x ∷ []) ≡ Some x
last_more xs x = last_behind None xs x

-- the last item of a rising list behind an item has a greater number, and the last one of its front isn't above it
rising_behind : (x : Shown) (list : List Shown) (last : Shown) → HasRisingLengths (x ∷ list) → last_or (Some x) list ≡ Some last
    → ((list ≡ []) × (x ≡ last)) ⊎ (x.length < last.length)
rising_behind x [] last rises is = inl (refl, cc is)
rising_behind x (y ∷ list) last rises is = inr (by (rising_behind y list last rises.1 is)) where
  by : ((list ≡ []) × (y ≡ last)) ⊎ (y.length < last.length) → x.length < last.length
  by (inl same) = subst (λ (v : Shown). x.length < v.length) same.1 rises.0
  by (inr less) = omega (arith, rises.0, less)

-- of two lists, one behind the other, that rise together: the last items have the same number only where the second is empty
front_last : (x : Shown) (front back : List Shown) (one two : Shown) → HasRisingLengths (x ∷ (front ++ back)) → last_or (Some x) front ≡ Some one
    → last_or (Some x) (front ++ back) ≡ Some two → ((back ≡ []) × (one ≡ two)) ⊎ (one.length < two.length)
front_last x [] back one two rises is all = by (rising_behind x back two rises all) where
  same : x ≡ one
  same = cc is

  by : ((back ≡ []) × (x ≡ two)) ⊎ (x.length < two.length) → ((back ≡ []) × (one ≡ two)) ⊎ (one.length < two.length)
  by (inl e) = inl (e.0, sym same ∙ e.1)
  by (inr less) = inr (subst (λ (v : Shown). v.length < two.length) same less)
front_last x (y ∷ front) back one two rises is all = front_last y front back one two rises.1 is all

fronts_last : (front back : List Shown) (one two : Shown) → HasRisingLengths (front ++ back) → last_item_of front ≡ Some one → last_item_of (front ++ back) ≡ Some two
    → ((back ≡ []) × (one ≡ two)) ⊎ (one.length < two.length)
fronts_last [] back one two rises is all = absurd (cc is)
fronts_last (x ∷ front) back one two rises is all = front_last x front back one two rises is all

-- the last item of a front isn't above that of the list
pub front_below : (front list : List Shown) (one two : Shown) → IsPrefix front list → HasRisingLengths list → last_item_of front ≡ Some one → last_item_of list ≡ Some two
    → one.length ≤ two.length
front_below front list one two begins rises is all = by (fronts_last front begins.0 one two (subst HasRisingLengths (sym begins.1) rises) is (ap last_item_of begins.1 ∙ all)) where
  by : ((begins.0 ≡ []) × (one ≡ two)) ⊎ (one.length < two.length) → one.length ≤ two.length
  by (inl same) = subst (λ (v : Shown). one.length ≤ v.length) same.1 (omega arith)
  by (inr less) = omega (arith, less)

-- a front whose last item has the number of the list's last is the list
pub front_whole : (front list : List Shown) (one two : Shown) → IsPrefix front list → HasRisingLengths list → last_item_of front ≡ Some one → last_item_of list ≡ Some two
    → one.length ≡ two.length → list ≡ front
front_whole front list one two begins rises is all same = by (fronts_last front begins.0 one two (subst HasRisingLengths (sym begins.1) rises) is (ap last_item_of begins.1 ∙ all)) where
  by : ((begins.0 ≡ []) × (one ≡ two)) ⊎ (one.length < two.length) → list ≡ front
  by (inl none) = sym begins.1 ∙ ap (λ (back : List Shown). front ++ back) none.0 ∙ append-nil front
  by (inr less) = absurd (omega (arith, less, same))

-- ---- views, one behind the other

-- an item goes behind those whose numbers never fall
fall_more : (x : Shown) (seen : List Shown) (item : Shown) → NeverFall (x ∷ seen) → ((last : Shown) → last_or (Some x) seen ≡ Some last → last.length ≤ item.length)
    → NeverFall (x ∷ (seen ++ item ∷ []))
fall_more x [] item never last = (last x refl, tt)
fall_more x (y ∷ seen) item never last = (never.0, fall_more y seen item never.1 last)

falls_more : (seen : List Shown) (item : Shown) → NeverFall seen → ((last : Shown) → last_item_of seen ≡ Some last → last.length ≤ item.length) → NeverFall (seen ++ item ∷ [])
falls_more [] item never last = tt
falls_more (x ∷ seen) item never last = fall_more x seen item never last

-- one view more, which is the last item of a rising list that what was known before begins
pub seen_more : (list now seen : List Shown) (item : Shown) → AreSeenIn list seen → IsPrefix list now → HasRisingLengths now → last_item_of now ≡ Some item
    → AreSeenIn now (seen ++ item ∷ [])
seen_more list now seen item before begins rises is = record {
  each = all_more (IsSeenIn now) seen item (seen_on list now seen begins before.each) (now, prefix_self now, is);
  never_fall = falls_more seen item before.never_fall (λ last at. below last (last_holds (IsSeenIn list) None seen [] last tt (subst (AllByRecursion (IsSeenIn list)) (sym (append-nil seen)) before.each) at));
}
  where
    below : (last : Shown) → IsSeenIn list last → last.length ≤ item.length
    below last s = front_below s.0 now last item (prefix_trans s.0 list now s.1 begins) rises s.2 is

pub seen_none : (list : List Shown) → AreSeenIn list []
seen_none list = record { each = tt; never_fall = tt }

pub one_more_seen : (n : ℕ) (seen now : List Shown) (item : Shown) → length seen ≡ n → now ≡ seen ++ item ∷ [] → length now ≡ n + 1
one_more_seen n seen now item many is = ap length is ∙ length-append seen (item ∷ []) ∙ ap (λ (k : ℕ). k + 1) many
