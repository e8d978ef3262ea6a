-- What a publisher and a viewer have made of a station's history.
use Rattle.std.proofs.Common.{◌≡◌, ◌⊎◌, inl, inr, ⊎_elim, ◌≤◌, ◌<◌, ℕ, zero, suc, ◌+◌, ◌-◌, Bool, true, true≢false, List, [], ◌∷◌, ◌++◌, length, replicate, Option, Some, None, Result, Ok, Err, OnOk, IsOk, is_ok, refl, sym, ◌∙◌, ap, subst, arith, append_assoc, length-append}
use Rattle.std.specs.Prelude.{IfErr, IfOk, IfSome}
use mathlib.Core.List.{IsPrefix}
use Rattle.var_access.specs.declared.Entry.{Entry}
use Rattle.var_access.specs.declared.Var.{Var}
use Rattle.tracked_lock.specs.Passes.{PassView, LockView}
use Rattle.tracked_lock.specs.Views.{AreEntriesByMaker, numbers_with_more_made}
use Rattle.tracked_lock.specs.declared.views.Made.{Made}
use Rattle.tracked_lock.proofs.Prefixes.{prefix_self, prefix_trans}
use Rattle.station.specs.Openings.{reply_at, the_opening}
use Rattle.station.specs.Turns.{HasMade, HasMadeNone, MayFail}
use Rattle.station.specs.declared.shared.Opening.{Opening}
use Rattle.station.specs.declared.shared.StationFault.{StationFault}
use Rattle.station.specs.declared.shared.StationFault.TheVariants.{NoMemory, Full}
use Rattle.watch_board.specs.BoardList.{KnownBoard, MayFollow, last_item_of, initial_item}
use Rattle.watch_board.specs.declared.shown.Shown.{Shown}
use Rattle.s7_cli.specs.Working.{HasBegun, HasWorked, HaveBegun, IsFaultAt, IsFresh, KnowsFault, RunsBefore, EndsInStop, entries_of_worker, passes_made_whole, step_entry_by}
use Rattle.s7_cli.specs.Watching.{AreSeenIn, AreShownOf, AreViews, HasEnded, HasPublished, HasPublishedNone, HasShown, IsLastAt, IsReplyTo, IsShownOf, IsLastWithinHistory, PublishesReplies, ViewsBoard, read_entry_of}
use Rattle.s7_cli.proofs.BoardLemmas.{all_mapped, all_more, all_seen_hold, last_more, seen_on}
use Rattle.s7_cli.proofs.StepperLemmas.{ends_on, none_came, one_more, runs_on}

abbrev P : Type 0
P = PassView Opening Entry

-- ---- an entry and its reply

abbrev last_within : Option Shown → (story : List Entry) → Type 0
last_within o story = IfSome o (λ last. last.length ≤ length story)

follows : (o : Option Shown) (old new before : List Entry) (e : Entry) (item : Shown) → last_within o old → IsPrefix old before → new ≡ before ++ e ∷ []
    → item.length ≡ length new → IfSome o (λ last. last.length < item.length)
follows None old new before e item within begins ends is = tt
follows (Some last) old new before e item within begins ends is =
    omega (arith, within, is, ap length ends, length-append before (e ∷ []), ap length begins.1, length-append old begins.0)

-- the item of a new entry may be published
pub may_follow : (list : List Shown) (p q : P) (before : List Entry) (e : Entry) (item : Shown) → IsLastWithinHistory list p.seen → HasMade p q before e
    → item.length ≡ length q.seen → MayFollow list item
may_follow list p q before e item within made is = follows (last_item_of list) p.seen q.seen before e item within made.begins made.ends is

-- what is shown of a history is shown of a longer one
shown_on : (e : Entry) (o : Opening) (story more : List Entry) (x : Shown) → IsPrefix story more → IsShownOf e o story x → IsShownOf e o more x
shown_on e o story more x begins (inl first) = inl first
shown_on e o story more x begins (inr r) = inr (record {
  before = r.before;
  after = r.after ++ begins.0;
  is = sym begins.1 ∙ ap (λ (l : List Entry). l ++ begins.0) r.is ∙ append_assoc r.before (e ∷ r.after) begins.0;
  number = r.number;
  reply = r.reply;
})

pub all_shown_on : (e : Entry) (o : Opening) (story more : List Entry) (list : List Shown) → IsPrefix story more → AreShownOf e o story list → AreShownOf e o more list
all_shown_on e o story more list begins all = all_mapped (IsShownOf e o story) (IsShownOf e o more) list (λ x. shown_on e o story more x begins) all

-- what a pass had seen begins what it knows behind a new entry
made_begins : (p q : P) (before : List Entry) (e : Entry) → HasMade p q before e → IsPrefix p.seen q.seen
made_begins p q before e made = prefix_trans p.seen before q.seen made.begins (e ∷ [], sym made.ends)

-- ---- the publisher

-- nothing was published yet
pub shown_none : (s : LockView Opening) (p : P) (vars : List Var) (list : List Shown) → IsFresh s p → list ≡ initial_item ∷ [] → HasShown s (read_entry_of p.number vars) 0 p list
shown_none s p vars list fresh is = record {
  lock = fresh.lock;
  out = fresh.out;
  number = refl;
  made = fresh.made;
  shown = subst (AreShownOf (read_entry_of p.number vars) (the_opening s.origin) p.seen) (sym is) (inl refl, tt);
  last = subst (λ (l : List Shown). IsLastWithinHistory l p.seen) (sym is) (omega arith);
}

made_on : (s : LockView Opening) (e : Entry) (count : ℕ) (p q : P) (before : List Entry) (list : List Shown) → HasShown s e count p list → HasMade p q before e
    → q.made ≡ record { number = e.who; entries = replicate (count + 1) e } ∷ []
made_on s e count p q before list so_far made =
    made.made ∙ ap (λ (ms : List (Made Entry)). numbers_with_more_made ms (e ∷ [])) so_far.made
    ∙ ap (λ (es : List Entry). record { number = e.who; entries = es } ∷ []) (one_more count e)

-- one more was
pub shown_next : (s : LockView Opening) (e : Entry) (count next : ℕ) (p q : P) (was now : KnownBoard) → next ≡ count + 1 → HasShown s e count p was.list
    → HasPublished p q was now e → q ≡ record p { seen = q.seen; made = q.made } → HasShown s e next q now.list
shown_next s e count next p q was now is so_far done stays =
    let o : Opening = the_opening s.origin in
    let same : the_opening p.lock.origin ≡ o = ap (λ (l : LockView Opening). the_opening l.origin) so_far.lock in
    let item : Shown = record { length = length q.seen; reply = Some (reply_at (the_opening p.lock.origin) done.before e) } in
    let reply : IsReplyTo e o q.seen item = record {
      before = done.before;
      after = [];
      is = done.made.ends;
      number = ap length done.made.ends ∙ length-append done.before (e ∷ []);
      reply = ap (λ (x : Opening). Some (reply_at x done.before e)) same;
    } in
    subst (λ (n : ℕ). HasShown s e n q now.list) (sym is) record {
      lock = ap (λ (r : P). r.lock) stays ∙ so_far.lock;
      out = ap (λ (r : P). r.out) stays ∙ so_far.out;
      number = ap (λ (r : P). r.number) stays ∙ so_far.number;
      made = made_on s e count p q done.before was.list so_far done.made;
      shown = subst (AreShownOf e o q.seen) (sym done.shown)
          (all_more (IsShownOf e o q.seen) was.list item (all_shown_on e o p.seen q.seen was.list (made_begins p q done.before e done.made) so_far.shown) (inr reply));
      last = subst (λ (l : List Shown). IsLastWithinHistory l q.seen) (sym done.shown) (subst (λ (v : Option Shown). last_within v q.seen) (sym (last_more was.list item)) (omega arith));
    }

-- the last item has the number of the last entry
pub last_is : (p q : P) (was now : KnownBoard) (e : Entry) → HasPublished p q was now e → IsLastAt now.list (length q.seen)
last_is p q was now e done =
    let item : Shown = record { length = length q.seen; reply = Some (reply_at (the_opening p.lock.origin) done.before e) } in
    (item, ap last_item_of done.shown ∙ last_more was.list item, refl)

replicate_begins : (n more : ℕ) (e : Entry) → IsPrefix (replicate n e) (replicate (n + more) e)
replicate_begins zero more e = let k : more ≡ zero + more = omega arith in (replicate more e, ap (λ (m : ℕ). replicate m e) k)
replicate_begins (suc n) more e =
    let rest = replicate_begins n more e in
    let k : suc (n + more) ≡ suc n + more = omega arith in (rest.0, ap (λ (l : List Entry). e ∷ l) rest.1 ∙ ap (λ (m : ℕ). replicate m e) k)

fewer_begin : (n count : ℕ) (e : Entry) → n ≤ count → IsPrefix (replicate n e) (replicate count e)
fewer_begin n count e few =
    let k : n + (count - n) ≡ count = omega (arith, few) in subst (λ (m : ℕ). IsPrefix (replicate n e) (replicate m e)) k (replicate_begins n (count - n) e)

-- it has made some of its entries
begun_some : (s : LockView Opening) (e : Entry) (n count : ℕ) (p q : P) (list : List Shown) → HasShown s e n p list → q ≡ record p { seen = q.seen; made = q.made }
    → (m : ℕ) → m ≤ count → q.made ≡ record { number = e.who; entries = replicate m e } ∷ [] → HasBegun s e.who (replicate count e) q
begun_some s e n count p q list so_far stays m few made = record {
  lock = ap (λ (r : P). r.lock) stays ∙ so_far.lock;
  out = ap (λ (r : P). r.out) stays ∙ so_far.out;
  done = replicate m e;
  begins = fewer_begin m count e few;
  made = made;
}

fault_known : (s : LockView Opening) (p q : P) (fault : StationFault) → p.lock ≡ s → MayFail fault (length (the_opening p.lock.origin).first + length q.seen)
    → IsFaultAt s q.seen fault
fault_known s p q NoMemory is may = tt
fault_known s p q Full is may = omega (arith, may, ap (λ (l : LockView Opening). length (the_opening l.origin).first) is)

-- it was refused behind so many
pub publishes_cut : (s : LockView Opening) (e : Entry) (n count : ℕ) (p q : P) (start was now : KnownBoard) (fault : StationFault) (r : Result KnownBoard StationFault)
    → r ≡ Err fault → HasShown s e n p was.list → n < count → HasPublishedNone p q was now e fault → q ≡ record p { seen = q.seen; made = q.made }
    → was.board ≡ start.board → PublishesReplies s e count q start now r
publishes_cut s e n count p q start was now fault r is so_far few none stays board =
    subst (PublishesReplies s e count q start now) (sym is) record {
      begun = ⊎_elim (λ (m : HasMadeNone p q fault). begun_some s e n count p q was.list so_far stays n (omega (arith, few)) (m.made ∙ so_far.made))
          (λ m. begun_some s e n count p q was.list so_far stays (n + 1) (omega (arith, few)) (made_on s e n p q m.1 was.list so_far m.2)) none.1;
      board = ap (λ (k : KnownBoard). k.board) none.0 ∙ board;
      fault = ⊎_elim (λ (m : HasMadeNone p q fault). fault_known s p q fault so_far.lock m.why) (λ m. subst (IsFaultAt s q.seen) (sym m.0) tt) none.1;
      note = tt;
      shown = tt;
    }

-- it has published all
pub publishes_all : (s : LockView Opening) (e : Entry) (count : ℕ) (p : P) (start now note : KnownBoard) → HasShown s e count p now.list → IsLastAt now.list (length p.seen)
    → note ≡ now → now.board ≡ start.board → PublishesReplies s e count p start now (Ok note)
publishes_all s e count p start now note done last same board = record {
  begun = record { lock = done.lock; out = done.out; done = replicate count e; begins = prefix_self (replicate count e); made = done.made };
  board = board;
  fault = tt;
  note = same;
  shown = (done, last);
}

-- one entry more of a publisher, by the number of its pass
pub shown_more : (s : LockView Opening) (number : ℕ) (vars : List Var) (count next : ℕ) (p q : P) (was now : KnownBoard) → next ≡ count + 1
    → HasShown s (read_entry_of number vars) count p was.list → HasPublished p q was now (read_entry_of p.number vars) → q ≡ record p { seen = q.seen; made = q.made }
    → HasShown s (read_entry_of number vars) next q now.list
shown_more s number vars count next p q was now is so_far done stays =
    shown_next s (read_entry_of number vars) count next p q was now is so_far
    (subst (λ (n : ℕ). HasPublished p q was now (read_entry_of n vars)) so_far.number done) stays

pub cut_short : (s : LockView Opening) (number : ℕ) (vars : List Var) (n count : ℕ) (p q : P) (start was now : KnownBoard) (fault : StationFault) (r : Result KnownBoard StationFault)
    → r ≡ Err fault → HasShown s (read_entry_of number vars) n p was.list → n < count → HasPublishedNone p q was now (read_entry_of p.number vars) fault
    → q ≡ record p { seen = q.seen; made = q.made } → was.board ≡ start.board → PublishesReplies s (read_entry_of number vars) count q start now r
cut_short s number vars n count p q start was now fault r is so_far few none stays board =
    publishes_cut s (read_entry_of number vars) n count p q start was now fault r is so_far few
    (subst (λ (k : ℕ). HasPublishedNone p q was now (read_entry_of k vars) fault) so_far.number none) stays board

-- ---- the workers with the publisher

begun_behind : (ps : List P) (xs : List (List Entry)) (ms : List (Made Entry)) (p : P) (x : List Entry) (m : Made Entry) → HaveBegun ps xs ms → m.number ≡ p.number
    → IsPrefix m.entries x → HaveBegun (ps ++ p ∷ []) (xs ++ x ∷ []) (ms ++ m ∷ [])
begun_behind [] [] [] p x m h number begins = (number, begins, tt)
begun_behind [] [] (n ∷ ms) p x m h number begins = absurd h
begun_behind [] (y ∷ xs) ms p x m h number begins = absurd h
begun_behind (q ∷ ps) [] ms p x m h number begins = absurd h
begun_behind (q ∷ ps) (y ∷ xs) [] p x m h number begins = absurd h
begun_behind (q ∷ ps) (y ∷ xs) (n ∷ ms) p x m h number begins = (h.0, h.1, begun_behind ps xs ms p x m h.2 number begins)

whole_behind : (ps : List P) (xs : List (List Entry)) (ms : List (Made Entry)) (p : P) (x : List Entry) → HaveBegun ps xs ms
    → passes_made_whole ps xs ++ record { number = p.number; entries = x } ∷ [] ≡ passes_made_whole (ps ++ p ∷ []) (xs ++ x ∷ [])
whole_behind [] [] [] p x h = refl
whole_behind [] [] (n ∷ ms) p x h = absurd h
whole_behind [] (y ∷ xs) ms p x h = absurd h
whole_behind (q ∷ ps) [] ms p x h = absurd h
whole_behind (q ∷ ps) (y ∷ xs) [] p x h = absurd h
whole_behind (q ∷ ps) (y ∷ xs) (n ∷ ms) p x h =
    ap (λ (l : List (Made Entry)). record { number = q.number; entries = y } ∷ l) (whole_behind ps xs ms p x h.2)

-- one worker more has worked with one pass more
pub worked_behind : (s : LockView Opening) (ps : List P) (p a b r : P) (steps : ℕ) (stimuli : List Entry) (scripts : List (List Entry)) (x : List Entry) (first second whole : Bool)
    → HasWorked s ps steps stimuli scripts a first → AreEntriesByMaker (λ e. e.who) a.seen a.made → HasBegun s p.number x b
    → (second ≡ true → b.made ≡ record { number = p.number; entries = x } ∷ []) → r.made ≡ a.made ++ b.made → IsPrefix a.seen r.seen
    → AreEntriesByMaker (λ e. e.who) r.seen r.made → (whole ≡ true → (first ≡ true) × (second ≡ true))
    → HasWorked s (ps ++ p ∷ []) steps stimuli (scripts ++ x ∷ []) r whole
worked_behind s [] p a b r steps stimuli scripts x first second whole h known begun full both begins agrees done = absurd h
worked_behind s (q ∷ ps) p a b r steps stimuli scripts x first second whole h known begun full both begins agrees done =
    let who : ℕ = q.number in
    let z : List Entry = begins.0 in
    let o : Opening = the_opening s.origin in
    let own : List (Made Entry) = record { number = p.number; entries = begun.done } ∷ [] in
    let made : ◌≡◌ {A = List (Made Entry)} r.made (record { number = who; entries = replicate h.count (step_entry_by who) } ∷ (h.others ++ own)) =
    both ∙ ap (λ (l : List (Made Entry)). l ++ b.made) h.made ∙ ap (λ (l : List (Made Entry)). record { number = who; entries = replicate h.count (step_entry_by who) } ∷ (h.others ++ l)) begun.made in
    let now : entries_of_worker who r.seen ≡ replicate h.count (step_entry_by who) = (subst (AreEntriesByMaker (λ (e : Entry). e.who) r.seen) made agrees).0 in
    let was : entries_of_worker who a.seen ≡ replicate h.count (step_entry_by who) = (subst (AreEntriesByMaker (λ (e : Entry). e.who) a.seen) h.made known).0 in
    let none : entries_of_worker who z ≡ [] = none_came who a.seen z r.seen begins.1 (omega (arith, ap length now, ap length was)) in record {
      count = h.count;
      few = h.few;
      others = h.others ++ own;
      made = made;
      begun = begun_behind ps (stimuli ∷ scripts) h.others p x (record { number = p.number; entries = begun.done }) h.begun refl begun.begins;
      runs = subst (RunsBefore 1 o who) begins.1 (runs_on 1 o who a.seen z none h.runs);
      all = λ w. ap (λ (l : List (Made Entry)). h.others ++ l) (sym begun.made ∙ full (done w).1)
          ∙ ap (λ (l : List (Made Entry)). l ++ record { number = p.number; entries = x } ∷ []) (h.all (done w).0)
          ∙ whole_behind ps (stimuli ∷ scripts) h.others p x h.begun;
      ends = λ w. ⊎_elim (λ t. inl t) (λ t. inr (subst (EndsInStop o who) begins.1 (ends_on o who a.seen z none t))) (h.ends (done w).0);
    }

-- the note of the last item is of the viewer's board, and has the number of the last entry
pub note_last : (s : LockView Opening) (e : Entry) (count : ℕ) (p : P) (start now viewer : KnownBoard) (noted : Result KnownBoard StationFault) → PublishesReplies s e count p start now noted
    → viewer.board ≡ start.board → IfOk noted (λ note. (note.board ≡ viewer.board) × IsLastAt note.list (length p.seen))
note_last s e count p start now viewer (Err fault) done same = tt
note_last s e count p start now viewer (Ok note) done same =
    (ap (λ (k : KnownBoard). k.board) done.note ∙ done.board ∙ sym same, subst (λ (k : KnownBoard). IsLastAt k.list (length p.seen)) (sym done.note) done.shown.1)

-- the refusal of a worker that ended so
pub ended_fault : (s : LockView Opening) (story : List Entry) (noted : Result KnownBoard StationFault) (ended : Result Unit StationFault) → IfErr noted (IsFaultAt s story)
    → IfErr ended (λ f. (noted ≡ Err f) ⊎ (f ≡ NoMemory)) → KnowsFault s story ended
ended_fault s story noted (Ok done) known why = tt
ended_fault s story noted (Err fault) known why =
    ⊎_elim (λ (is : noted ≡ Err fault). subst (λ (r : Result KnownBoard StationFault). IfErr r (IsFaultAt s story)) is known)
    (λ (is : fault ≡ NoMemory). subst (IsFaultAt s story) (sym is) tt) why

-- where all was published and viewed
of_note : (s : LockView Opening) (e : Entry) (count : ℕ) (p : P) (start now note : KnownBoard) (noted : Result KnownBoard StationFault) → noted ≡ Ok note
    → PublishesReplies s e count p start now noted → (note ≡ now) × HasShown s e count p now.list
of_note s e count p start now note noted is done =
    let d : PublishesReplies s e count p start now (Ok note) = subst (PublishesReplies s e count p start now) is done in (d.note, d.shown.0)

of_viewed : {E : Type 0} (r : Result Unit E) (X : Type 0) → IsOk r → OnOk r X → X
of_viewed (Ok x) X is h = h
of_viewed (Err e) X is h = absurd (true≢false (sym is))

-- each view is the opening item or a reply
pub are_views : {E : Type 0} (s : LockView Opening) (e : Entry) (count views : ℕ) (p r : P) (start now before after last : KnownBoard) (seen : List Shown)
    (noted : Result KnownBoard StationFault) (viewed : Result Unit E) → PublishesReplies s e count p start now noted → ViewsBoard views before after seen viewed
    → HasEnded noted viewed last → IsPrefix after.list last.list → IsPrefix p.seen r.seen → AreViews e (the_opening s.origin) r.seen views seen
are_views s e count views p r start now before after last seen noted viewed published seen_so ended begins longer =
    let o : Opening = the_opening s.origin in
    let of = of_note s e count p start now ended.note noted ended.noted_all published in
    let list : last.list ≡ now.list = ended.list ∙ ap (λ (k : KnownBoard). k.list) of.0 in
    let shown : AreShownOf e o r.seen last.list = subst (AreShownOf e o r.seen) (sym list) (all_shown_on e o p.seen r.seen now.list longer of.1.shown) in
    let each : AreSeenIn after.list seen = of_viewed viewed (AreSeenIn after.list seen) ended.viewed_all seen_so.each in record {
      many = of_viewed viewed (length seen ≡ views) ended.viewed_all seen_so.many;
      each = all_seen_hold (IsShownOf e o r.seen) last.list seen shown (seen_on after.list last.list seen begins each.each);
      never_fall = each.never_fall;
    }

-- a worker that wasn't refused has published all
pub whole_published : {E : Type 0} (s : LockView Opening) (e : Entry) (count : ℕ) (p : P) (start now last : KnownBoard) (noted : Result KnownBoard StationFault) (viewed : Result Unit E)
    (ended : Result Unit StationFault) → PublishesReplies s e count p start now noted → OnOk ended (HasEnded noted viewed last) → is_ok ended ≡ true
    → p.made ≡ record { number = e.who; entries = replicate count e } ∷ []
whole_published s e count p start now last noted viewed (Ok done) published ended ok = (of_note s e count p start now ended.note noted ended.noted_all published).1.made
whole_published s e count p start now last noted viewed (Err fault) published ended ok = absurd (true≢false (sym ok))

pub whole_views : {E : Type 0} (s : LockView Opening) (e : Entry) (count views : ℕ) (p r : P) (start now before after last : KnownBoard) (seen : List Shown)
    (noted : Result KnownBoard StationFault) (viewed : Result Unit E) (worked ended outcome : Result Unit StationFault) → OnOk outcome (IsOk worked × IsOk ended)
    → OnOk ended (HasEnded noted viewed last) → PublishesReplies s e count p start now noted → ViewsBoard views before after seen viewed → IsPrefix after.list last.list
    → IsPrefix p.seen r.seen → OnOk outcome (AreViews e (the_opening s.origin) r.seen views seen)
whole_views s e count views p r start now before after last seen noted viewed worked ended (Ok done) both ends published seen_so begins longer =
    are_views s e count views p r start now before after last seen noted viewed published seen_so (of_viewed ended (HasEnded noted viewed last) both.1 ends) begins longer
whole_views s e count views p r start now before after last seen noted viewed worked ended (Err fault) both ends published seen_so begins longer = tt
