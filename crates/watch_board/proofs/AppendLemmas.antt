-- The step that adds an item keeps the rule of the list.
use Rattle.std.proofs.Common.{◌≡◌, ℕ, ◌+◌, ◌<◌, ◌==◌, Bool, true, false, List, [], ◌∷◌, ◌++◌, length, refl, ap, sym, subst, arith, inl, length-append, Option, Some, None}
use Rattle.std.proofs.lemmas.List.{append-nil}
use Rattle.std.proofs.lemmas.Bool.Decides.{nat_tests}
use Rattle.std.specs.List.{last_or}
use mathlib.Core.List.{IsPrefix}
use prog.Atomic.{either}
use Rattle.logbook.specs.Pages.{Cell, cell, keeps, no_nib, step, Moves, Goes}
use Rattle.tracked_lock.proofs.Prefixes.{prefix_whole}
use Rattle.watch_board.specs.declared.shown.Shown.{Shown}
use Rattle.watch_board.specs.BoardList.{HasRisingLengths, MayFollow, last_item_of}
use Rattle.watch_board.specs.ListRule.{KeepsListRule, AppendsItem}

-- what the book shows of its list to clients: nothing
abbrev shown_to_clients : List Shown → List Shown
shown_to_clients list = []

-- what clients ask for: nothing, so each step is one
abbrev IsMove : List Shown → List Shown → ℕ → Type 0
IsMove xs ys n = Unit {0}

last_behind : (o : Option Shown) (xs : List Shown) (e : Shown) → last_or o (xs ++ e ∷ []) ≡ Some e
last_behind o [] e = refl
last_behind o (x ∷ xs) e = last_behind (Some x) xs e

-- an item that is added is the last
pub last_more : (xs : List Shown) (e : Shown) → last_item_of (xs ++ e ∷ []) ≡ Some e
last_more xs e = last_behind None xs e

-- an item above the last one goes behind a rising list
rising_more : (xs : List Shown) (e : Shown) → HasRisingLengths xs → MayFollow xs e → HasRisingLengths (xs ++ e ∷ [])
rising_more [] e r may = tt
rising_more (x ∷ []) e r may = (may, tt)
rising_more (x ∷ y ∷ ys) e r may = (r.0, rising_more (y ∷ ys) e r.1 may)

-- of a list that all that was seen begins: the word, which counts it, is as expected only where all of it was seen
appends_goes : (log v : List Shown) (e : Shown) (old : ℕ) → length v ≡ old → MayFollow v e → HasRisingLengths log → IsPrefix v log
    → (b : Bool) → (length log == old) ≡ b
    → Goes KeepsListRule shown_to_clients IsMove 0 (v, (no_nib, None)) (λ n. either (n == old) (old + 1) n) (AppendsItem (step 0 old (old + 1) e) (v, (no_nib, None))) ((length log, true) ∷ (0, true) ∷ []) log
appends_goes log v e old len may rising pre true is =
    let here : length log ≡ old = grind (arith, nat_tests) in
    let same : v ≡ log = prefix_whole v log pre (omega arith) in
    let rising' : HasRisingLengths (log ++ e ∷ []) = rising_more log e rising (subst (λ l. MayFollow l e) same may) in
    let n : either (length log == old) (old + 1) (length log) ≡ length (log ++ e ∷ []) = rw is (omega (arith, length-append log (e ∷ []))) in (
      keeps,
      e ∷ [],
      None,
      tt,
      record { words = ap (λ (k : ℕ). (k, true) ∷ (0, true) ∷ []) n; rising = rising' },
      inl (refl, refl),
      rw is (ap (λ w. w ++ e ∷ []) (sym same), rising'),
    )
appends_goes log v e old len may rising pre false is =
    let all : log ++ [] ≡ log = append-nil log in
    let rising' : HasRisingLengths (log ++ []) = subst HasRisingLengths (sym all) rising in
    let n : either (length log == old) (old + 1) (length log) ≡ length (log ++ []) = rw is (ap length (sym all)) in (
      keeps,
      [],
      None,
      tt,
      record { words = ap (λ (k : ℕ). (k, true) ∷ (0, true) ∷ []) n; rising = rising' },
      inl (refl, refl),
      rw is tt,
    )

-- whatever the book is, the exchange adds the item to all that was seen, or finds that the list is longer
pub appends_moves : (v : List Shown) (e : Shown) (old : ℕ) → length v ≡ old → MayFollow v e
    → Moves KeepsListRule shown_to_clients IsMove 0 (v, (no_nib, None)) (λ n. either (n == old) (old + 1) n) (AppendsItem (step 0 old (old + 1) e) (v, (no_nib, None)))
appends_moves v e old len may cs log kept pre away =
    let P : List Cell → Type 0 = λ c. (0 < length c) × ((cell c 0).1 ≡ true) × Goes KeepsListRule shown_to_clients IsMove 0 (v, (no_nib, None)) (λ n. either (n == old) (old + 1) n) (AppendsItem (step 0 old (old + 1) e) (v, (no_nib, None))) c log in
    subst P (sym kept.words) (omega arith, refl, appends_goes log v e old len may kept.rising pre (length log == old) refl)
