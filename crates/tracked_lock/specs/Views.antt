-- What a pass knows, and how the kinds of step change it.
use Rattle.std.specs.Prelude.{◌≡◌, ◌⊎◌, ℕ, zero, suc, ◌+◌, ◌-◌, Bool, false, cond, nat_eq, nat_lt, ◌&&◌, List, [], ◌∷◌, ◌++◌, length, take, drop, filter}
use Rattle.tracked_lock.specs.declared.views.Made.{Made}
use Rattle.tracked_lock.specs.declared.views.View.{View}

-- `P` holds of each member of a list
abbrev pub HoldsForEach : {A : Type 0} → (A → Type 0) → List A → Type 0
HoldsForEach P [] = Unit {0}
HoldsForEach P (x ∷ xs) = P x × HoldsForEach P xs

module _ {E : Type 0} where
  -- the entries of the list with this maker, in order
  abbrev pub entries_by : (E → ℕ) → ℕ → List E → List E
  entries_by maker k es = filter (λ e. nat_eq (maker e) k) es

  -- under each number of a pass stand the entries of the list with that maker, in order
  abbrev pub AreEntriesByMaker : (E → ℕ) → List E → List (Made E) → Type 0
  AreEntriesByMaker maker log [] = Unit {0}
  AreEntriesByMaker maker log (x ∷ xs) =
      (entries_by maker x.number log ≡ x.entries) × AreEntriesByMaker maker log xs

  -- under each number of a pass stand the entries with that maker of one of the two lists
  abbrev pub IsKnownOf : (E → ℕ) → List E → List E → List (Made E) → Type 0
  IsKnownOf maker xs ys [] = Unit {0}
  IsKnownOf maker xs ys (m ∷ ms) =
      ((entries_by maker m.number xs ≡ m.entries) ⊎ (entries_by maker m.number ys ≡ m.entries))
      × IsKnownOf maker xs ys ms

  -- how often a number stands among the numbers of a pass
  abbrev pub times : ℕ → List (Made E) → ℕ
  times k [] = 0
  times k (x ∷ xs) = cond (nat_eq x.number k) 1 0 + times k xs

  -- the numbers from 1 to n, each with no entry
  abbrev pub fresh_to : ℕ → List (Made E)
  fresh_to zero = []
  fresh_to (suc n) = fresh_to n ++ record { number = suc n; entries = [] } ∷ []

  -- the numbers of a pass, with further entries under the first, its own
  abbrev pub numbers_with_more_made : List (Made E) → List E → List (Made E)
  numbers_with_more_made [] added = []
  numbers_with_more_made (x ∷ xs) added = record x { entries = x.entries ++ added } ∷ xs

  -- the list, or the list with more entries of this maker
  abbrev pub IsAdded : (E → ℕ) → ℕ → List E → List E → Type 0
  IsAdded maker k xs ys =
      (added : List E) × (ys ≡ xs ++ added) × HoldsForEach (λ e. maker e ≡ k) added

  -- the longer of two lists; the first where they are as long
  abbrev pub longer : List E → List E → List E
  longer xs ys = cond (nat_lt (length xs) (length ys)) ys xs

  -- the own number of a pass, the first of its numbers; 0 where there is none
  abbrev pub own_number : List (Made E) → ℕ
  own_number [] = 0
  own_number (x ∷ xs) = x.number

-- 1 where k is a number from 1 to n, those of the passes, else 0
abbrev pub one_if_number_of_pass : ℕ → ℕ → ℕ
one_if_number_of_pass n k = cond (nat_lt 0 k && nat_lt k (suc n)) 1 0

module _ {O E : Type 0} where
  -- the view with these parts
  abbrev pub view : List O → ℕ → Bool → List E → List E → List (Made E) → View O E
  view origin passes turn seen other made = record {
    origin = origin;
    passes = passes;
    turn = turn;
    seen = seen;
    other = other;
    made = made;
  }

  -- a view without its last number
  abbrev pub without_last : View O E → View O E
  without_last v = record v { made = take (length v.made - 1) v.made }

  -- a view with its last number alone, without the turn
  abbrev pub only_last : View O E → View O E
  only_last v = record v { turn = false; made = drop (length v.made - 1) v.made }

  -- the view that took over the numbers of another: it keeps both lists until the next look
  abbrev pub joined_view : View O E → View O E → View O E
  joined_view v w = record v { other = w.seen; made = v.made ++ w.made }

  -- the view that is left of a pass whose numbers another took over
  abbrev pub spent_view : View O E
  spent_view = view [] 0 false [] [] []

  -- how many turns a view has: 1 or 0, so that they can be added up
  abbrev pub turn_count : View O E → ℕ
  turn_count v = cond v.turn 1 0

-- the values of a list, added up
abbrev pub sum_of_values : {A : Type 0} → (A → ℕ) → List A → ℕ
sum_of_values f [] = 0
sum_of_values f (x ∷ xs) = f x + sum_of_values f xs
