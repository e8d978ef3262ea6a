-- What contracts see of a lock and of a pass.
use Rattle.std.specs.Prelude.{◌≡◌, ◌⊎◌, ℕ, zero, suc, ◌+◌, ◌<◌, ◌≤◌, Bool, false, cond, nat_eq, Option, None, List, [], ◌∷◌, ◌++◌, length, drop}
use mathlib.Core.List.{IsPrefix}
use Rattle.atomic_table.specs.Seated.{TableId}
use Rattle.tracked_lock.specs.declared.views.Made.{Made}
use Rattle.tracked_lock.specs.Views.{AreEntriesByMaker, times, one_if_number_of_pass, own_number, numbers_with_more_made, longer, HoldsForEach}
use Rattle.tracked_lock.specs.declared.views.View.{View}
use Rattle.atomic_table.specs.Table.{Me}

-- what contracts see of a lock: its table, the origin of its value as a list of one, and how many
-- passes it has
pub record LockView (O : Type 0) : Type 0 where
  -- the table of the lock
  pub table : TableId
  -- the origin of the value that the lock was made with, as a list of one
  pub origin : List O
  -- how many passes the lock has, numbered from 1
  pub passes : ℕ

-- what contracts see of a pass: its lock, its number, whether a value is out with it, the list that
-- it has seen, and the entries under each of its numbers, its own first
pub record PassView (O E : Type 0) : Type 0 where
  -- the lock of the pass
  pub lock : LockView O
  -- the own number of the pass, from 1
  pub number : ℕ
  -- whether a value is out with the pass
  pub out : Bool
  -- the list that the pass has seen
  pub seen : List E
  -- the entries made under each number of the pass, its own number first
  pub made : List (Made E)

-- how many of the numbers from 1 to n aren't among those of the pass
abbrev pub missing_number_count : {E : Type 0} → ℕ → List (Made E) → ℕ
missing_number_count zero made = 0
missing_number_count (suc n) made =
    cond (nat_eq (times (suc n) made) 0) 1 0 + missing_number_count n made

-- a lock by its table, the origin of its first value and its number of passes
abbrev pub lock_of : {O : Type 0} → TableId → O → (passes : ℕ) → LockView O
lock_of table origin passes = record { table = table; origin = origin ∷ []; passes = passes }

-- a value that is out, and the pass that it is out with, as the take left it
pub record LentValue (T O E : Type 0) : Type 0 where
  -- the value that is out of the lock
  pub value : T
  -- the pass that the value is out with, as the take left it
  pub pass : PassView O E

-- a lent value with another value, and with the same pass
abbrev pub with_value : {T O E : Type 0} → LentValue T O E → T → LentValue T O E
with_value lent value = record lent { value = value }

-- a list is another one, or that one with one entry more, which is of this maker
abbrev pub IsOneStep : {E : Type 0} → (E → ℕ) → ℕ → List E → List E → Type 0
IsOneStep {E} maker k xs ys = (ys ≡ xs) ⊎ ((e : E) × (ys ≡ xs ++ e ∷ []) × (maker e ≡ k))

module _ {O E : Type 0} where
  -- a pass as its seat at the table shows it
  abbrev pub pass_of_seat : TableId → View O E → (number : ℕ) → PassView O E
  pass_of_seat table v number = record {
    lock = record { table = table; origin = v.origin; passes = v.passes };
    number = number;
    out = v.turn;
    seen = v.seen;
    made = v.made;
  }

  -- the pass after a put: it has seen the list that was given back, and made the entries
  -- that are new in it
  abbrev pub pass_after_put : PassView O E → List E → PassView O E
  pass_after_put p list =
      record p {
        out = false;
        seen = list;
        made = numbers_with_more_made p.made (drop (length p.seen) list);
      }

  -- a pass that took over the numbers of another
  abbrev pub joined_pass : PassView O E → PassView O E → PassView O E
  joined_pass p q = record p { seen = longer p.seen q.seen; made = p.made ++ q.made }

  -- `count` of the lock's numbers aren't the pass's, and it is 1 at least
  abbrev pub IsCountOut : LockView O → PassView O E → (count : ℕ) → Type 0
  IsCountOut lock p count = (0 < count) × (count ≡ missing_number_count lock.passes p.made)

  -- a pass with one number, which has seen and made nothing
  abbrev pub fresh_pass : LockView O → ℕ → PassView O E
  fresh_pass lock n = record {
    lock = lock;
    number = n;
    out = false;
    seen = [];
    made = record { number = n; entries = [] } ∷ [];
  }

  -- the passes with the numbers after n, up to n + m
  abbrev pub fresh_passes : LockView O → ℕ → ℕ → List (PassView O E)
  fresh_passes lock n zero = []
  fresh_passes lock n (suc m) = fresh_pass lock (suc n) ∷ fresh_passes lock (suc n) m

-- The value of a lock that a pass has closed: all numbers were the pass's, the value has the lock's
-- origin, and its list continues what the pass had seen and is made of the entries made under these
-- numbers.
module _ {T O E : Type 0} (origin_of : T → O) (story_of : T → List E) (maker_of : E → ℕ) where
  pub record IsClosed (lock : LockView O) (p : PassView O E) (value : T) : Type 0 where
    -- every number from 1 to the number of passes is one of the pass
    pub numbers : missing_number_count lock.passes p.made ≡ 0
    -- the value has the origin of the lock
    pub origin : origin_of value ∷ [] ≡ lock.origin
    -- the value's list begins with all that the pass has seen
    pub seen : IsPrefix p.seen (story_of value)
    -- under each number of the pass stand the entries of the value's list with that maker, in order
    pub made : AreEntriesByMaker maker_of (story_of value) p.made
    -- the maker of each entry of the value's list is a number of the pass
    pub no_others : HoldsForEach (λ e. 0 < times (maker_of e) p.made) (story_of value)

-- what is true of the parts of a pass between any two calls
module _ {T O E : Type 0} (maker_of : E → ℕ) where
  pub record IsPass (m : Me (Option T) (View O E)) (number seen numbers : ℕ) : Type 0 where
    -- a seat with the turn has slot 0, whose value is out; without the turn it has none
    pub slots : m.1 ≡ cond m.0.turn ((0, None) ∷ []) []
    -- no list of a pass that joined waits for a look
    pub other : m.0.other ≡ []
    -- `number` is the own number, the first of the numbers
    pub number_is : number ≡ own_number m.0.made
    -- `seen` is the length of the list that the pass has seen
    pub seen_is : seen ≡ length m.0.seen
    -- `numbers` counts the numbers of the pass
    pub numbers_is : numbers ≡ length m.0.made
    -- the pass has one number at least
    pub one_number : 0 < length m.0.made
    -- under each number of the pass stand the entries seen with that maker, in order
    pub made : AreEntriesByMaker maker_of m.0.seen m.0.made
    -- the pass has each number from 1 to the number of passes at most once, and no other number
    pub once : (k : ℕ) → times k m.0.made ≤ one_if_number_of_pass m.0.passes k
