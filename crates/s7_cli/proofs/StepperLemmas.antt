-- A story grows: what is known of a worker's steps.
use Rattle.std.proofs.Common.{◌≡◌, ◌⊎◌, ℕ, zero, suc, ◌+◌, ◌≤◌, eqb, cond, Bool, true, false, true≢false, List, [], ◌∷◌, ◌++◌, length, replicate, sym, refl, ap, ◌∙◌, subst, inl, inr, ⊎_elim, arith, eq-eqb, length-append, append_assoc, append-nil}
use Rattle.std.proofs.lemmas.List.{length-replicate}
use Rattle.std.proofs.lemmas.List.Elements.{filter-append}
use Rattle.plc_base.specs.declared.Mode.{Mode}
use Rattle.var_access.specs.declared.Entry.{Entry}
use Rattle.controller.specs.State.{is_stop}
use Rattle.tracked_lock.specs.Passes.{PassView, LockView}
use Rattle.tracked_lock.specs.Views.{AreEntriesByMaker, numbers_with_more_made}
use Rattle.tracked_lock.specs.declared.views.Made.{Made}
use Rattle.station.specs.Openings.{mode_at, the_opening}
use Rattle.station.specs.Turns.{HasMade, HasMadeNone}
use Rattle.station.specs.declared.shared.Opening.{Opening}
use Rattle.station.specs.declared.shared.StationFault.{StationFault}
use Rattle.s7_cli.specs.Working.{EndsInStop, HasStepped, IsFresh, RunsBefore, entries_of_worker, step_entry_by}

-- the worker's entries of two lists, one behind the other
pub of_both : (who : ℕ) (xs ys : List Entry) → entries_of_worker who (xs ++ ys) ≡ entries_of_worker who xs ++ entries_of_worker who ys
of_both who xs ys = filter-append (λ (e : Entry). eqb e.who who) xs ys

count_both : (who : ℕ) (xs ys : List Entry) → length (entries_of_worker who (xs ++ ys)) ≡ length (entries_of_worker who xs) + length (entries_of_worker who ys)
count_both who xs ys = ap length (of_both who xs ys) ∙ length-append (entries_of_worker who xs) (entries_of_worker who ys)

empty_is : (l : List Entry) → length l ≡ 0 → l ≡ []
empty_is [] h = refl
empty_is (x ∷ xs) h = absurd (omega arith)

-- where a longer list has no more of the worker's entries, none came
pub none_came : (who : ℕ) (xs r ys : List Entry) → xs ++ r ≡ ys → length (entries_of_worker who ys) ≤ length (entries_of_worker who xs) → entries_of_worker who r ≡ []
none_came who xs r ys is few =
    empty_is (entries_of_worker who r) (omega (arith, few, count_both who xs r, ap (λ l. length (entries_of_worker who l)) is))

-- an element of two lists stands in the first or in the second
stands_in : (before after xs ys : List Entry) (x : Entry) → before ++ x ∷ after ≡ xs ++ ys
    → ((r : List Entry) × (xs ≡ before ++ x ∷ r) × (after ≡ r ++ ys)) ⊎ ((r : List Entry) × (ys ≡ r ++ x ∷ after) × (before ≡ xs ++ r))
stands_in before after [] ys x e = inr (before, sym e, refl)
stands_in [] after (z ∷ xs) ys x e = inl (xs, cc e, cc e)
stands_in (c ∷ before) after (z ∷ xs) ys x e =
    ⊎_elim (λ (t : (r : List Entry) × (xs ≡ before ++ x ∷ r) × (after ≡ r ++ ys)). inl (t.0, cc (e, t.1), t.2))
    (λ (t : (r : List Entry) × (ys ≡ r ++ x ∷ after) × (before ≡ xs ++ r)). inr (t.0, t.1, cc (e, t.2))) (stands_in before after xs ys x (cc e))

own_counts : (who : ℕ) (before after : List Entry) (x : Entry) → x.who ≡ who
    → 1 + length (entries_of_worker who after) ≤ length (entries_of_worker who (before ++ x ∷ after))
own_counts who before after x own =
    let here : entries_of_worker who (x ∷ after) ≡ x ∷ entries_of_worker who after = ap (λ t. cond t (x ∷ entries_of_worker who after) (entries_of_worker who after)) (eq-eqb x.who who own) in
    omega (arith, count_both who before (x ∷ after), ap length here)

-- entries of others come
pub runs_on : (last : ℕ) (o : Opening) (who : ℕ) (xs ys : List Entry) → entries_of_worker who ys ≡ [] → RunsBefore last o who xs → RunsBefore last o who (xs ++ ys)
runs_on last o who xs ys none h before after e is own many =
    ⊎_elim (λ t. h before t.0 e t.1 own (omega (arith, many, ap (λ l. length (entries_of_worker who l)) t.2, count_both who t.0 ys, ap length none)))
    (λ t. absurd (omega (arith, own_counts who t.0 after e own, ap (λ l. length (entries_of_worker who l)) t.1, ap length none))) (stands_in before after xs ys e (sym is))

pub ends_on : (o : Opening) (who : ℕ) (xs ys : List Entry) → entries_of_worker who ys ≡ [] → EndsInStop o who xs → EndsInStop o who (xs ++ ys)
ends_on o who xs ys none h = record {
  before = h.before;
  last = h.last;
  after = h.after ++ ys;
  is = ap (λ l. l ++ ys) h.is ∙ append_assoc h.before (h.last ∷ h.after) ys;
  own = h.own;
  none = of_both who h.after ys ∙ (λ i. h.none i ++ none i);
  stops = h.stops;
}

-- an entry of the worker comes
at_most : (b : Bool) (e : Entry) → length (cond b (e ∷ []) []) ≤ 1
at_most true e = omega arith
at_most false e = omega arith

one_at_most : (who : ℕ) (e : Entry) → length (entries_of_worker who (e ∷ [])) ≤ 1
one_at_most who e = at_most (eqb e.who who) e

runs_more : (o : Opening) (who : ℕ) (xs : List Entry) (e : Entry) → RunsBefore 0 o who xs → RunsBefore 1 o who (xs ++ e ∷ [])
runs_more o who xs e h before after x is mine many =
    ⊎_elim (λ t. h before t.0 x t.1 mine (omega arith))
    (λ t. absurd (omega (arith, own_counts who t.0 after x mine, ap (λ l. length (entries_of_worker who l)) t.1, one_at_most who e, many))) (stands_in before after xs (e ∷ []) x (sym is))

only_one : (r after : List Entry) (x e : Entry) → e ∷ [] ≡ r ++ x ∷ after → (r ≡ []) × (e ≡ x)
only_one [] after x e is = (refl, cc is)
only_one (y ∷ r) after x e is = absurd (omega (arith, ap length is, length-append r (x ∷ after)))

runs_all : (o : Opening) (who : ℕ) (xs : List Entry) (e : Entry) → RunsBefore 0 o who xs → is_stop (mode_at o xs e) ≡ false → RunsBefore 0 o who (xs ++ e ∷ [])
runs_all o who xs e h runs before after x is mine many =
    ⊎_elim (λ t. h before t.0 x t.1 mine (omega arith))
    (λ (t : (r : List Entry) × (e ∷ [] ≡ r ++ x ∷ after) × (before ≡ xs ++ r)). let c = only_one t.0 after x e t.1 in
    let back : before ≡ xs = t.2 ∙ ap (λ r. xs ++ r) c.0 ∙ append-nil xs in
    ap (λ (l : List Entry). is_stop (mode_at o l x)) back ∙ ap (λ (y : Entry). is_stop (mode_at o xs y)) (sym c.1) ∙ runs) (stands_in before after xs (e ∷ []) x (sym is))

runs_none : (o : Opening) (who : ℕ) → RunsBefore 0 o who []
runs_none o who before after e is own many = absurd (omega (arith, ap length is, length-append before (e ∷ after)))

runs_fewer : (o : Opening) (who : ℕ) (xs : List Entry) → RunsBefore 0 o who xs → RunsBefore 1 o who xs
runs_fewer o who xs h before after e is own many = h before after e is own (omega arith)

pub one_more : (n : ℕ) (e : Entry) → replicate n e ++ e ∷ [] ≡ replicate (n + 1) e
one_more zero e = refl
one_more (suc n) e = let k : suc (n + 1) ≡ suc n + 1 = omega arith in ap (λ l. e ∷ l) (one_more n e) ∙ ap (λ m. replicate m e) k

-- after so many steps of its own, each of which leaves another mode than STOP
pub record StillRuns (s : LockView Opening) (who count : ℕ) (p : PassView Opening Entry) : Type 0 where
  pub lock : p.lock ≡ s
  pub out : p.out ≡ false
  pub number_is : p.number ≡ who
  pub made : p.made ≡ record { number = who; entries = replicate count (step_entry_by who) } ∷ []
  pub agrees : AreEntriesByMaker (λ e. e.who) p.seen p.made
  pub runs : RunsBefore 0 (the_opening s.origin) who p.seen

pub runs_first : (s : LockView Opening) (p : PassView Opening Entry) → IsFresh s p → StillRuns s p.number 0 p
runs_first s p h = record {
  lock = h.lock;
  out = h.out;
  number_is = refl;
  made = h.made;
  agrees = h.agrees;
  runs = runs_on 0 (the_opening s.origin) p.number [] p.seen (subst (AreEntriesByMaker (λ (e : Entry). e.who) p.seen) h.made h.agrees).0 (runs_none (the_opening s.origin) p.number);
}

pub stepped_whole : (s : LockView Opening) (who count : ℕ) (p : PassView Opening Entry) → StillRuns s who count p → HasStepped s who count p true
stepped_whole s who count p h = record {
  lock = h.lock;
  out = h.out;
  agrees = h.agrees;
  count = count;
  few = omega arith;
  made = h.made;
  runs = runs_fewer (the_opening s.origin) who p.seen h.runs;
  ends = λ whole. inl refl;
}

-- what stays of a pass in a turn
abbrev SamePass : PassView Opening Entry → PassView Opening Entry → Type 0
SamePass p q = q ≡ record p { seen = q.seen; made = q.made }

-- a turn
module _ (s : LockView Opening) (who count : ℕ) (p q : PassView Opening Entry) (h : StillRuns s who count p) (same : SamePass p q) (knows : AreEntriesByMaker (λ (e : Entry). e.who) q.seen q.made) where
  abbrev o : Opening
  o = the_opening s.origin

  abbrev made : List Entry
  made = replicate count (step_entry_by who)

  was : entries_of_worker who p.seen ≡ made
  was = (subst (AreEntriesByMaker (λ (e : Entry). e.who) p.seen) h.made h.agrees).0

  lock : q.lock ≡ s
  lock = ap (λ (r : PassView Opening Entry). r.lock) same ∙ h.lock

  out : q.out ≡ false
  out = ap (λ (r : PassView Opening Entry). r.out) same ∙ h.out

  -- it was refused
  pub stepped_till : (steps : ℕ) (f : StationFault) → HasMadeNone p q f → count ≤ steps → HasStepped s who steps q false
  stepped_till steps f t few =
      let is : entries_of_worker who q.seen ≡ made = (subst (AreEntriesByMaker (λ (e : Entry). e.who) q.seen) (t.made ∙ h.made) knows).0 in
      let none = none_came who p.seen t.begins.0 q.seen t.begins.1 (omega (arith, ap length is, ap length was)) in
      record {
        lock = lock;
        out = out;
        agrees = knows;
        count = count;
        few = few;
        made = t.made ∙ h.made;
        runs = runs_fewer o who q.seen (subst (RunsBefore 0 o who) t.begins.1 (runs_on 0 o who p.seen t.begins.0 none h.runs));
        ends = λ whole. absurd (true≢false (sym whole));
      }

  -- it made a step
  module _ (before : List Entry) (mode : Mode) (by : HasMade p q before (step_entry_by p.number)) (after : mode ≡ mode_at (the_opening p.lock.origin) before (step_entry_by p.number)) where
    turn : HasMade p q before (step_entry_by who)
    turn = subst (λ k. HasMade p q before (step_entry_by k)) h.number_is by

    left : is_stop mode ≡ is_stop (mode_at o before (step_entry_by who))
    left = ap is_stop after ∙ ap (λ (l : LockView Opening). is_stop (mode_at (the_opening l.origin) before (step_entry_by p.number))) h.lock ∙ ap (λ k. is_stop (mode_at o before (step_entry_by k))) h.number_is

    made_now : q.made ≡ record { number = who; entries = replicate (count + 1) (step_entry_by who) } ∷ []
    made_now = turn.made ∙ ap (λ (m : List (Made Entry)). numbers_with_more_made m (step_entry_by who ∷ [])) h.made ∙ ap (λ (es : List Entry). record { number = who; entries = es } ∷ []) (one_more count (step_entry_by who))

    runs_till : RunsBefore 0 o who before
    runs_till =
        let e : Entry = step_entry_by who in
        let is : entries_of_worker who q.seen ≡ replicate (count + 1) e = (subst (AreEntriesByMaker (λ (e : Entry). e.who) q.seen) made_now knows).0 in
        let none = none_came who p.seen turn.begins.0 before turn.begins.1
        (omega (arith, ap length is, ap length was, ap (λ l. length (entries_of_worker who l)) turn.ends, count_both who before (e ∷ []), length-replicate (count + 1) e, length-replicate count e, own_counts who [] [] e refl)) in
        subst (RunsBefore 0 o who) turn.begins.1 (runs_on 0 o who p.seen turn.begins.0 none h.runs)

    pub runs_next : is_stop mode ≡ false → StillRuns s who (count + 1) q
    runs_next goes = record {
      lock = lock;
      out = out;
      number_is = ap (λ (r : PassView Opening Entry). r.number) same ∙ h.number_is;
      made = made_now;
      agrees = knows;
      runs = subst (RunsBefore 0 o who) (sym turn.ends) (runs_all o who before (step_entry_by who) runs_till (sym left ∙ goes));
    }

    pub stepped_stopped : (steps : ℕ) → count + 1 ≤ steps → is_stop mode ≡ true → HasStepped s who steps q true
    stepped_stopped steps few stops = record {
      lock = lock;
      out = out;
      agrees = knows;
      count = count + 1;
      few = few;
      made = made_now;
      runs = subst (RunsBefore 1 o who) (sym turn.ends) (runs_more o who before (step_entry_by who) runs_till);
      ends = λ whole. inr (record { before = before; last = step_entry_by who; after = []; is = turn.ends; own = refl; none = refl; stops = sym left ∙ stops });
    }
