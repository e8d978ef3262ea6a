-- The list of a board.
use Rattle.std.specs.Prelude.{◌<◌, Bool, List, [], ◌∷◌, MatchBool, Option, None, IfSome}
use Rattle.std.specs.List.{last_or}
use mathlib.Core.List.{IsPrefix}
use Rattle.logbook.specs.Pages.{Book}
use Rattle.watch_board.specs.declared.shown.Shown.{Shown}

-- what a board shows at first: no entry, no reply
abbrev pub initial_item : Shown
initial_item = record { length = 0; reply = None }

-- lengths rise from each item to the next
abbrev pub HasRisingLengths : List Shown → Type 0
HasRisingLengths [] = Unit {0}
HasRisingLengths (x ∷ []) = Unit {0}
HasRisingLengths (x ∷ y ∷ ys) = (x.length < y.length) × HasRisingLengths (y ∷ ys)

-- the last item, if there is one
abbrev pub last_item_of : List Shown → Option Shown
last_item_of list = last_or None list

-- an item may be published behind a list: its length is above that of the list's last item
abbrev pub MayFollow : List Shown → Shown → Type 0
MayFollow list item = IfSome (last_item_of list) (λ last. last.length < item.length)

-- of two lists the shorter is a prefix of the longer; `is_shorter` says that this is the first one
abbrev pub ShorterBegins : Bool → (list other : List Shown) → Type 0
ShorterBegins is_shorter list other =
    MatchBool is_shorter (IsPrefix list other) (IsPrefix other list)

-- what contracts see of a publisher, a viewer or a note: which board, and a list of what was
-- published on it, the opening item first
pub record KnownBoard : Type 0 where
  -- the book that the board is kept in
  pub board : Book
  -- the items that are known to be published on the board, the opening item first
  pub list : List Shown
