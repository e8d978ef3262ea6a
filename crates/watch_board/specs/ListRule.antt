-- What holds of a board's list between any two steps, and what the one step tells.
use Rattle.std.specs.Prelude.{ℕ, ◌≡◌, ◌==◌, true, List, [], ◌∷◌, ◌++◌, length, MatchBool}
use Rattle.logbook.specs.Pages.{Cell, Step, View, Book, Named}
use Rattle.watch_board.specs.declared.shown.Shown.{Shown}
use Rattle.watch_board.specs.BoardList.{HasRisingLengths}

-- the rule of a board's list: the first word counts the items of the list, whose lengths rise; the
-- second word, which a book has from the start, stays 0
pub record KeepsListRule (cells : List Cell) (list : List Shown) : Type 0 where
  -- the first word counts the items of the list, and the second stays 0
  pub words : cells ≡ (length list, true) ∷ (0, true) ∷ []
  -- the lengths rise from each item to the next
  pub rising : HasRisingLengths list

-- the word of the board that counts the items
abbrev pub item_count_word : Book → Named
item_count_word b = record { tracked = true; key = 0; book = b }

-- the step that adds an item: where the word was as expected, the list is what had been seen and
-- the item behind it, and its lengths rise; else nothing is said
abbrev pub AppendsItem : Step Shown → View Shown ℕ → ℕ → View Shown ℕ → Type 0
AppendsItem s v found w =
    MatchBool (found == s.old) ((w.0 ≡ v.0 ++ s.ask ∷ []) × HasRisingLengths w.0) (Unit {0})
