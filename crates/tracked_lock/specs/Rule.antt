-- What holds of the table between any two steps.
use Rattle.std.specs.Prelude.{◌≡◌, ℕ, ◌<◌, ◌≤◌, true, false, Option, Some, List, [], ◌∷◌, length}
use mathlib.Core.Option as maybe
use mathlib.Core.List.{IsPrefix}
use lib.ListN.{get_elem?}
use Rattle.atomic_table.specs.Table.{State, Me}
use Rattle.atomic_table.specs.Seated.{TableId}
use Rattle.tracked_lock.specs.declared.views.View.{View}
use Rattle.tracked_lock.specs.Views.{sum_of_values, HoldsForEach, AreEntriesByMaker, IsKnownOf, times, one_if_number_of_pass, fresh_to, view, turn_count}

module _
    {T O E : Type 0} (origin_of : T → O) (story_of : T → List E) (maker_of : E → ℕ)
    (origin : O) (passes : ℕ) where
  -- what a view says is so of a lock with this list
  pub record FitsLog (log : List E) (v : View O E) : Type 0 where
    -- a view with a number knows the origin of the lock
    pub origin_is : 0 < length v.made → v.origin ≡ origin ∷ []
    -- a view with a number knows how many passes the lock has
    pub passes_is : 0 < length v.made → v.passes ≡ passes
    -- the list begins with what the view has seen
    pub seen : IsPrefix v.seen log
    -- the list begins with what a pass that joined had seen, which is kept until the next look
    pub other : IsPrefix v.other log
    -- a view with the turn has seen the whole list
    pub whole : v.turn ≡ true → v.seen ≡ log
    -- under each number of the view stand the entries of the list with that maker, in order
    pub made : AreEntriesByMaker maker_of log v.made
    -- the entries under each number of the view stand in one of the two lists that it has seen
    pub known : IsKnownOf maker_of v.seen v.other v.made
    -- a view with the turn has a number
    pub maker : v.turn ≡ true → 0 < length v.made

  -- the lock's rule for its table: the words are the length of the list, the turn (0 free, 1 taken)
  -- and the passes; the value at home stands for the list; at most one view has the turn; each view
  -- fits the list; each number is given once, and each entry has the number of its maker
  pub record KeepsLockRule (s : State (Option T) (View O E)) : Type 0 where
    -- the list of all entries, in order
    pub log : List E
    -- the turn: 0 free, 1 taken
    pub busy : ℕ
    -- the words of the table: the length of the list, the turn and the number of passes
    pub words : s.words ≡ length log ∷ busy ∷ passes ∷ []
    -- while the turn is free, slot 0 has a value with the lock's origin that stands for the list
    pub home : busy ≡ 0
        → (x : T) × (get_elem? s.homes 0 ≡ maybe.some (maybe.some (Some x)))
        × (origin_of x ≡ origin) × (story_of x ≡ log)
    -- as many views have the turn as `busy` says
    pub turns : sum_of_values turn_count s.views ≡ busy
    -- at most one view has the turn
    pub one : busy < 2
    -- each view fits the list
    pub each : (id : ℕ) (v : View O E) → get_elem? s.views id ≡ maybe.some v → FitsLog log v
    -- each number from 1 to the number of passes is in exactly one view, and no other number in any
    pub numbers : (k : ℕ)
        → sum_of_values (λ v. times k v.made) s.views ≡ one_if_number_of_pass passes k
    -- the views have as many numbers together as the lock has passes
    pub counted : sum_of_values (λ v. length v.made) s.views ≡ passes
    -- the maker of each entry is a number from 1 to the number of passes
    pub makers : HoldsForEach (λ e. (0 < maker_of e) × (maker_of e ≤ passes)) log

-- the view of the first seat, which has all numbers
abbrev pub starting_view : {O E : Type 0} → O → ℕ → View O E
starting_view origin passes = view (origin ∷ []) passes false [] [] (fresh_to passes)

-- a lock's table has three words, and one slot
abbrev pub IsLockTable : TableId → Type 0
IsLockTable id = (id.words ≡ 3) × (id.slots ≡ 1)

-- a seat with one number, which has seen and made nothing, and no slot
abbrev pub IsFreshSeat :
    {T O E : Type 0} → O → (passes number : ℕ) → Me (Option T) (View O E) → Type 0
IsFreshSeat origin passes number m =
    m ≡ (view (origin ∷ []) passes false [] [] (record { number = number; entries = [] } ∷ []), [])

-- the first seat: all numbers, and no slot
abbrev pub IsFirstSeat : {T O E : Type 0} → O → (passes : ℕ) → Me (Option T) (View O E) → Type 0
IsFirstSeat origin passes m = m ≡ (starting_view origin passes, [])
