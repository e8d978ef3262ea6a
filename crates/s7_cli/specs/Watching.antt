-- What the publisher of a watch shows of a station's history, and what the viewer sees of it.
use Rattle.std.specs.Prelude.{◌≡◌, ◌⊎◌, ◌≤◌, ℕ, ◌+◌, ◌-◌, List, [], ◌∷◌, ◌++◌, length, replicate, false, Some, Result, Ok, IfErr, IfOk, IsOk, OnOk, IfSome}
use Rattle.std.specs.List.{AllByRecursion}
use mathlib.Core.List.{IsPrefix}
use Rattle.var_access.specs.declared.Entry.{Entry}
use Rattle.var_access.specs.declared.What.TheVariants.{Ask}
use Rattle.var_access.specs.declared.Request.TheVariants.{ReadVars}
use Rattle.var_access.specs.declared.Var.{Var}
use Rattle.tracked_lock.specs.Passes.{PassView, LockView}
use Rattle.station.specs.Openings.{reply_at, the_opening}
use Rattle.station.specs.Turns.{HasMade, HasMadeNone}
use Rattle.station.specs.declared.shared.Opening.{Opening}
use Rattle.station.specs.declared.shared.StationFault.{StationFault}
use Rattle.station.specs.declared.shared.StationFault.TheVariants.{NoMemory}
use Rattle.s7_cli.specs.Working.{HasBegun, IsFaultAt}
use Rattle.watch_board.specs.BoardList.{KnownBoard, last_item_of, initial_item}
use Rattle.watch_board.specs.declared.shown.Shown.{Shown}

-- the entry of a worker that reads these variables
abbrev pub read_entry_of : (who : ℕ) → List Var → Entry
read_entry_of who vars = record { who = who; what = Ask (ReadVars vars) }

-- the lists of the four operators of a watch: its scripts, none for an operator without one, and so
-- many reads by the last operator
abbrev pub watch_lists : (reads : ℕ) → List (List Entry) → List Var → List (List Entry)
watch_lists reads scripts vars =
    (scripts ++ replicate (3 - length scripts) []) ++ replicate reads (read_entry_of 6 vars) ∷ []

-- the item is the reply to this entry at a place of the history, with the number of the place, from
-- 1
pub record IsReplyTo (e : Entry) (o : Opening) (story : List Entry) (item : Shown) : Type 0 where
  -- the history before the entry
  pub before : List Entry
  -- the history behind it
  pub after : List Entry
  -- the entry stands at this place of the history
  pub is : story ≡ before ++ e ∷ after
  -- the number is that of the place, from 1
  pub number : item.length ≡ length before + 1
  -- the reply is that to the entry at this place
  pub reply : item.reply ≡ Some (reply_at o before e)

-- an item of a board is the opening item, or the reply to this entry at a place of the history
abbrev pub IsShownOf : (e : Entry) → Opening → (story : List Entry) → Shown → Type 0
IsShownOf e o story item = (item ≡ initial_item) ⊎ IsReplyTo e o story item

-- each item of a list is the opening item of a board, or the reply to this entry at a place of
-- the history
abbrev pub AreShownOf : (e : Entry) → Opening → (story : List Entry) → List Shown → Type 0
AreShownOf e o story items = AllByRecursion (IsShownOf e o story) items

-- the last item of a board stands for an entry of what is known of the history
abbrev pub IsLastWithinHistory : List Shown → (story : List Entry) → Type 0
IsLastWithinHistory list story = IfSome (last_item_of list) (λ last. last.length ≤ length story)

-- the last item of a board has this number
abbrev pub IsLastAt : List Shown → (number : ℕ) → Type 0
IsLastAt list number = (last : Shown) × (last_item_of list ≡ Some last) × (last.length ≡ number)

-- a pass made an entry, and its reply was put on the board, with the number of its place
pub record HasPublished
    (old new : PassView Opening Entry) (was now : KnownBoard) (e : Entry)
    : Type 0 where
  -- the story before the entry
  pub before : List Entry
  -- the pass made the entry behind it
  pub made : HasMade old new before e
  -- the board has one item more: the reply, by the length of the story with the entry
  pub shown : now.list
      ≡ was.list
      ++ record
      { length = length new.seen; reply = Some (reply_at (the_opening old.lock.origin) before e) } ∷
      []

-- nothing was put on the board: no entry was made, or memory was wanting behind it
abbrev pub HasPublishedNone :
    (old new : PassView Opening Entry) (was now : KnownBoard) → Entry → StationFault → Type 0
HasPublishedNone old new was now e fault =
    (now ≡ was)
    × (HasMadeNone old new fault
    ⊎ ((fault ≡ NoMemory) × (before : List Entry) × HasMade old new before e))

-- what a publisher leaves that wasn't refused: it made the entry `e` `count` times, and its board's
-- list is made of the opening item and replies to `e`
pub record HasShown
    (s : LockView Opening) (e : Entry) (count : ℕ) (p : PassView Opening Entry) (list : List Shown)
    : Type 0 where
  -- the pass is one of this station
  pub lock : p.lock ≡ s
  -- no value is out with it
  pub out : p.out ≡ false
  -- its number is that of the entry's worker
  pub number : p.number ≡ e.who
  -- it made this entry so many times, and nothing else
  pub made : p.made ≡ record { number = e.who; entries = replicate count e } ∷ []
  -- each item is the opening item or the reply to such an entry of the story
  pub shown : AreShownOf e (the_opening s.origin) p.seen list
  -- the number of the last item is no greater than the length of the story that it has seen
  pub last : IsLastWithinHistory list p.seen

-- what a publisher leaves that was to make the entry `e` `count` times and to put each reply on the
-- board: it has begun, and where it wasn't refused it made all of them, and the last item of the
-- board stands at the end of the story that it knows
pub record PublishesReplies
    (s : LockView Opening) (e : Entry) (count : ℕ) (p : PassView Opening Entry)
    (was now : KnownBoard) (noted : Result KnownBoard StationFault)
    : Type 0 where
  -- it made the entry at most so many times, and nothing else
  pub begun : HasBegun s e.who (replicate count e) p
  -- the board is the same one as before
  pub board : now.board ≡ was.board
  -- where it was refused, the fault is one that the station can have
  pub fault : IfErr noted (IsFaultAt s p.seen)
  -- where it wasn't refused, the last note is what it leaves of the board
  pub note : IfOk noted (λ note. note ≡ now)
  -- where it wasn't refused, the board has the replies of its entries, the last one at the end
  -- of the story that it knows
  pub shown : OnOk noted (HasShown s e count p now.list × IsLastAt now.list (length p.seen))

-- the numbers of items never fall
abbrev pub NeverFall : List Shown → Type 0
NeverFall [] = Unit {0}
NeverFall (x ∷ []) = Unit {0}
NeverFall (x ∷ y ∷ ys) = (x.length ≤ y.length) × NeverFall (y ∷ ys)

-- the item is the last one of a front of the list
abbrev pub IsSeenIn : List Shown → Shown → Type 0
IsSeenIn list item = (front : List Shown) × IsPrefix front list × (last_item_of front ≡ Some item)

-- the items were seen on a board with this list, none of them older than the one before
pub record AreSeenIn (list seen : List Shown) : Type 0 where
  -- each is the last item of some front of the list
  pub each : AllByRecursion (IsSeenIn list) seen
  -- the numbers of the items never fall
  pub never_fall : NeverFall seen

-- what a viewer leaves that was to view so many times
pub record ViewsBoard
    {E : Type 0} (count : ℕ) (was now : KnownBoard) (seen : List Shown) (viewed : Result Unit E)
    : Type 0 where
  -- the board is the same one as before
  pub board : now.board ≡ was.board
  -- where it wasn't refused, there were as many views as it was to make
  pub many : OnOk viewed (length seen ≡ count)
  -- where it wasn't refused, the items were seen on the board, none older than the one before
  pub each : OnOk viewed (AreSeenIn now.list seen)

-- all was published and viewed, and the viewer has come to the list of the publisher's last note
pub record HasEnded
    {E : Type 0} (noted : Result KnownBoard StationFault) (viewed : Result Unit E)
    (viewer : KnownBoard)
    : Type 0 where
  -- no view was refused
  pub viewed_all : IsOk viewed
  -- the publisher's last note
  pub note : KnownBoard
  -- the publisher wasn't refused
  pub noted_all : noted ≡ Ok note
  -- the viewer's list is the one of this note
  pub list : viewer.list ≡ note.list

-- this many items of a board were seen: each is the opening item or a reply to this entry, and
-- their numbers never fall
pub record AreViews
    (e : Entry) (o : Opening) (story : List Entry) (count : ℕ) (seen : List Shown)
    : Type 0 where
  -- as many items were seen as the count says
  pub many : length seen ≡ count
  -- each is the opening item or a reply to the entry
  pub each : AreShownOf e o story seen
  -- their numbers never fall
  pub never_fall : NeverFall seen
