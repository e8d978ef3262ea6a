-- What each kind of step tells: of the seat before, the word found and the seat after.
use Rattle.std.specs.Prelude.{◌≡◌, ◌≢◌, ℕ, ◌<◌, ◌≤◌, true, false, Option, Some, None, List, [], ◌∷◌, length, drop}
use mathlib.Core.List.{IsPrefix}
use Rattle.atomic_table.specs.Table.{Me, rest}
use Rattle.tracked_lock.specs.declared.views.View.{View}
use Rattle.tracked_lock.specs.Views.{AreEntriesByMaker, IsAdded, times, one_if_number_of_pass, numbers_with_more_made, longer, own_number}

module _ {O E : Type 0} where
  -- the view with the turn, which knows the whole list
  abbrev pub with_turn : View O E → List E → View O E
  with_turn v log = record v { turn = true; seen = log }

  -- the view after a look at the list: of its two lists it keeps the longer one
  abbrev pub view_after_look : View O E → View O E
  view_after_look v = record v { seen = longer v.seen v.other; other = [] }

  -- the view whose list has grown to this one, with what is new under its own number
  abbrev pub view_with_list : View O E → List E → View O E
  view_with_list v log =
      record v {
        seen = log;
        made = numbers_with_more_made v.made (drop (length v.seen) log);
      }

  -- the view of a seat that has given its turn back
  abbrev pub without_turn : View O E → View O E
  without_turn v = record v { turn = false }

module _ {T O E : Type 0} where
  -- a seat took the turn: the value is out with it, and it knows the list that the value stands for
  abbrev pub Took :
      (T → O) → (T → List E) → (E → ℕ) → Me (Option T) (View O E) → Me (Option T) (View O E)
      → Type 0
  Took origin_of story_of maker_of m n =
      (x : T) × (n ≡ (with_turn m.0 (story_of x), (0, Some x) ∷ m.1))
      × (origin_of x ∷ [] ≡ m.0.origin) × IsPrefix m.0.seen (story_of x)
      × AreEntriesByMaker maker_of (story_of x) m.0.made

  -- a try to take the turn, by the busy word that was found: at 0 the value is out with the seat,
  -- else the seat is as it was
  abbrev pub Takes :
      (T → O) → (T → List E) → (E → ℕ) → Me (Option T) (View O E) → ℕ → Me (Option T) (View O E)
      → Type 0
  Takes origin_of story_of maker_of m found n =
      (found ≡ 0 → Took origin_of story_of maker_of m n) × (found ≢ 0 → n ≡ m)

  -- a look at the count that was found: both lists that the seat has seen are beginnings of the
  -- longer one, which it keeps; with the turn it knows as many entries as were found
  abbrev pub Reads : (E → ℕ) → Me (Option T) (View O E) → ℕ → Me (Option T) (View O E) → Type 0
  Reads maker_of m found n =
      (n ≡ (view_after_look m.0, m.1)) × IsPrefix m.0.seen (longer m.0.seen m.0.other)
      × IsPrefix m.0.other (longer m.0.seen m.0.other)
      × AreEntriesByMaker maker_of (longer m.0.seen m.0.other) m.0.made
      × ((k : ℕ) → times k m.0.made ≤ one_if_number_of_pass m.0.passes k)
      × (m.0.turn ≡ true → length m.0.seen ≡ found)

  -- the list is counted: the seat whose value is out knows the whole list that it stands for, and
  -- what is new of it as its own
  abbrev pub Counts : (T → List E) → Me (Option T) (View O E) → Me (Option T) (View O E) → Type 0
  Counts story_of m n =
      (x : T) → m.1 ≡ (0, Some x) ∷ [] → n ≡ (view_with_list m.0 (story_of x), m.1)

  -- a seat gives the turn back, and the slot with the value
  abbrev pub Releases : Me (Option T) (View O E) → Me (Option T) (View O E) → Type 0
  Releases m n = n ≡ (without_turn m.0, rest m.1)

  -- the value has left the slot of a seat that took the turn; the seat knows the list that it
  -- stands for
  abbrev pub TookOut :
      (T → O) → (T → List E) → (E → ℕ) → Me (Option T) (View O E) → Me (Option T) (View O E) → T
      → Type 0
  TookOut origin_of story_of maker_of m n x =
      (n ≡ (with_turn m.0 (story_of x), (0, None) ∷ [])) × (origin_of x ∷ [] ≡ m.0.origin)
      × IsPrefix m.0.seen (story_of x) × AreEntriesByMaker maker_of (story_of x) m.0.made

  -- the seat has the turn, and has looked at the list since it joined another
  abbrev pub HasTurn : Me (Option T) (View O E) → Type 0
  HasTurn m = (0 < length m.0.made) × (m.0.turn ≡ true) × (m.0.other ≡ [])

  -- the value that is out with the seat stands for the list that was seen, or for that list with
  -- entries of the seat's own number; the list has so many entries
  abbrev pub IsCounted : (T → List E) → (E → ℕ) → Me (Option T) (View O E) → (len : ℕ) → Type 0
  IsCounted story_of maker_of m len =
      (x : T) × (m.1 ≡ (0, Some x) ∷ [])
      × IsAdded maker_of (own_number m.0.made) m.0.seen (story_of x) × (len ≡ length (story_of x))

  -- the value that is out with the seat has the lock's origin, and stands for the list that was
  -- seen
  abbrev pub IsSettled : (T → O) → (T → List E) → Me (Option T) (View O E) → Type 0
  IsSettled origin_of story_of m =
      (x : T) × (m.1 ≡ (0, Some x) ∷ []) × (origin_of x ∷ [] ≡ m.0.origin) × (story_of x ≡ m.0.seen)

module _ {O E : Type 0} where
  -- two seats can be joined: under the numbers of each stand the entries that it has seen, the
  -- other is without the turn, and the first has a number and no list to look at
  abbrev pub CanJoin : (E → ℕ) → (mine other : View O E) → Type 0
  CanJoin maker_of mine other =
      (other.turn ≡ false) × (mine.other ≡ []) × (0 < length mine.made)
      × AreEntriesByMaker maker_of mine.seen mine.made
      × AreEntriesByMaker maker_of other.seen other.made
