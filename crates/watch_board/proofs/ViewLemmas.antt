-- Each step on the copies keeps their rule.
use Rattle.std.proofs.Common.{◌≡◌, ℕ, List, [], ◌∷◌, set, fold, refl, sym, ap, ◌∙◌, subst, ⊎_elim}
use Rattle.logbook.specs.Pages.{Book}
use Rattle.atomic_table.proofs.Lists.{at_set, at_snoc}
use Rattle.crossbeam_utils.specs.Register.{Admits, TurnsAt, Forks, Merges}
use Rattle.watch_board.specs.declared.last_items.LastItem.{LastItem}
use Rattle.watch_board.specs.BoardList.{KnownBoard}
use Rattle.watch_board.specs.Views.{AreOfBoard, AreAllOfBoard, ReadsBoardList, HasOnePendingItem}

-- the rule, as the copies have it
abbrev Holds : LastItem → List (List KnownBoard) → Type 0
Holds item views = AreAllOfBoard item.prefix.board views

-- a view that is replaced
set_on : (board : Book) (views : List (List KnownBoard)) (seat : ℕ) (v : List KnownBoard) → AreAllOfBoard board views → AreOfBoard board v → AreAllOfBoard board (set views seat v)
set_on board views seat v h on j u e = ⊎_elim (λ t. subst (AreOfBoard board) t.1 on) (λ t. h j u t.1) (at_set views seat j v u e)

-- a new reader knows nothing
pub admits : Admits Holds []
admits x views h seat v at = ⊎_elim (h seat v) (λ (e : [] ≡ v). subst (AreOfBoard x.prefix.board) e tt) (at_snoc views [] v seat at)

-- a read leaves what is shown, and knows it
pub reads : (seat : ℕ) (v : List KnownBoard) (x : LastItem) → TurnsAt Holds seat v x x (λ v x y w. ReadsBoardList v y.prefix w)
reads seat v x views h at = (x.prefix ∷ [], set_on x.prefix.board views seat (x.prefix ∷ []) h (refl, tt), (h seat v at, refl))

-- the writer knows what it shows
abbrev Shows : List KnownBoard → LastItem → LastItem → List KnownBoard → Type 0
Shows v x y w = w ≡ y.prefix ∷ []

shows : (seat : ℕ) (v : List KnownBoard) (x y : LastItem) → y.prefix.board ≡ x.prefix.board → TurnsAt Holds seat v x y Shows
shows seat v x y same views h at =
    (y.prefix ∷ [], subst (λ b. AreAllOfBoard b (set views seat (y.prefix ∷ []))) (sym same) (set_on x.prefix.board views seat (y.prefix ∷ []) h (same, tt)), refl)

-- what is shown next is the one item that was noted, of the same board
pub last_shown : (now next : LastItem) (noted : List LastItem) → HasOnePendingItem now.prefix.board noted
    → next ≡ fold (λ (_ : LastItem) (x : LastItem). x) now noted → next.prefix.board ≡ now.prefix.board
last_shown now next [] one is = absurd one
last_shown now next (x ∷ []) one is = ap (λ (x : LastItem). x.prefix.board) is ∙ one
last_shown now next (x ∷ y ∷ ys) one is = absurd one

pub next_shows : (seat : ℕ) (v : List KnownBoard) (now next : LastItem) (noted : List LastItem) → HasOnePendingItem now.prefix.board noted
    → next ≡ fold (λ (_ : LastItem) (x : LastItem). x) now noted → TurnsAt Holds seat v now next Shows
next_shows seat v now next noted one is = shows seat v now next (last_shown now next noted one is)

-- what the writer tells it knows as well
pub forks : (seat : ℕ) (v : List KnownBoard) → Forks Holds seat v v v
forks seat v x views h at j u e =
    ⊎_elim (set_on x.prefix.board views seat v h (h seat v at) j u) (λ (same : v ≡ u). subst (AreOfBoard x.prefix.board) same (h seat v at)) (at_snoc (set views seat v) v u j e)

-- a reader knows what it was told
pub merges : (seat : ℕ) (v : List KnownBoard) (other : ℕ) (w : List KnownBoard) → Merges Holds seat v other w w []
merges seat v other w x views h at apart there =
    let on : AreOfBoard x.prefix.board w = ⊎_elim (λ t. absurd (apart t.0)) (λ t. h other w t.1) (at_set views seat other w w there) in
    set_on x.prefix.board (set views seat w) other [] (set_on x.prefix.board views seat w h on) tt
