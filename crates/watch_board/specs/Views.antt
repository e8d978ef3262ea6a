-- What those who read and write a board's copies know of the board.
use Rattle.std.specs.Prelude.{◌≡◌, ℕ, List, [], ◌∷◌}
use mathlib.Core.Option.{some}
use lib.ListN.{get_elem?}
use Rattle.logbook.specs.Pages.{Book}
use Rattle.watch_board.specs.declared.last_items.LastItem.{LastItem}
use Rattle.watch_board.specs.BoardList.{KnownBoard}

-- each of the lists that are known is one of this board
abbrev pub AreOfBoard : Book → List KnownBoard → Type 0
AreOfBoard board [] = Unit {0}
AreOfBoard board (k ∷ ks) = (k.board ≡ board) × AreOfBoard board ks

-- the rule of the copies: each list that any seat knows is one of the board
abbrev pub AreAllOfBoard : Book → List (List KnownBoard) → Type 0
AreAllOfBoard board views =
    (seat : ℕ) (v : List KnownBoard) → get_elem? views seat ≡ some v → AreOfBoard board v

-- a list was read: it is of the board that was known before, and is known now
abbrev pub ReadsBoardList : List KnownBoard → KnownBoard → List KnownBoard → Type 0
ReadsBoardList v seen w = AreOfBoard seen.board v × (w ≡ seen ∷ [])

-- the first list that is known is one of this board, and there is one
abbrev pub KnowsOneBoard : Book → List KnownBoard → Type 0
KnowsOneBoard board [] = ⊥
KnowsOneBoard board (k ∷ ks) = k.board ≡ board

-- exactly one item waits to be shown, of this board
abbrev pub HasOnePendingItem : Book → List LastItem → Type 0
HasOnePendingItem board [] = ⊥
HasOnePendingItem board (x ∷ []) = x.prefix.board ≡ board
HasOnePendingItem board (x ∷ y ∷ ys) = ⊥
