-- Each kind of step keeps the rule.
use Rattle.std.proofs.Common.{◌≡◌, ℕ, ◌+◌, ◌-◌, ◌<◌, ◌≤◌, ◌≢◌, eqb, Bool, true≢false, true, false, Option, Some, None, List, [], ◌∷◌, ◌++◌, length, drop, get_or, set, sym, refl, ap, ◌∙◌, subst, ⊎_elim, arith, length-append}
use mathlib.Core.Option.{some, none, some-injective, some-ne-none}
use mathlib.Core.Option as maybe
use mathlib.Core.List.{IsPrefix}
use lib.ListN.{get_elem?}
use lib.Seq.{set-get_or}
use prog.Atomic.{either}
use Rattle.atomic_table.specs.Table.{State, Me, Act, keeps, takes as taking, gives, Valid, carried_after, homes_after, rest, stepped, opening, Allows, Splits, Joins, Final, Seen}
use Rattle.atomic_table.proofs.Lists.{at_set, at_snoc, set_here, set_else, exchanged}
use Rattle.tracked_lock.specs.declared.views.View.{View}
use Rattle.tracked_lock.specs.Views.{sum_of_values, HoldsForEach, AreEntriesByMaker, times, one_if_number_of_pass, own_number, IsAdded, numbers_with_more_made, longer, turn_count, without_last, only_last, joined_view, spent_view, fresh_to}
use Rattle.tracked_lock.specs.declared.views.Made.{Made}
use Rattle.tracked_lock.specs.Rule.{FitsLog, KeepsLockRule, starting_view}
use Rattle.tracked_lock.specs.Plays.{Takes, Reads, Counts, Releases, with_turn, view_after_look, view_with_list, without_turn}
use Rattle.tracked_lock.proofs.Prefixes.{prefix_self, prefix_trans, prefix_shorter, prefix_length, drop_prefix, longer_either}
use Rattle.tracked_lock.proofs.Totals.{total-append, total-set, term_le, terms_le, totals_le}
use Rattle.tracked_lock.proofs.Numbers.{flag, made_between, known_first, made_grown, made_unchanged, times_more, length_more, own_there, stands_range, stands_in, stands_one, made-append, known-append, known_second, times-append, times_le, made-take, made-drop, known-take, known-drop, times_cut, length_cut, made_fresh, times_fresh, length_fresh}

pub some_same : {O : Type 0} (x y : O) → Some x ≡ Some y → x ≡ y
some_same x y e = cc e

one_same : {O : Type 0} (x y : O) → x ∷ [] ≡ y ∷ [] → x ≡ y
one_same x y e = cc e

in_range-append : {E : Type 0} (maker_of : E → ℕ) (passes : ℕ) (log added : List E) (k : ℕ) → (0 < k) × (k ≤ passes) → HoldsForEach (λ e. (0 < maker_of e) × (maker_of e ≤ passes)) log → HoldsForEach (λ e. maker_of e ≡ k) added
    → HoldsForEach (λ e. (0 < maker_of e) × (maker_of e ≤ passes)) (log ++ added)
in_range-append maker_of passes [] [] k r h a = tt
in_range-append maker_of passes [] (e ∷ es) k r h a = ((omega (arith, a.0, r.0), omega (arith, a.0, r.1)), in_range-append maker_of passes [] es k r tt a.1)
in_range-append maker_of passes (e ∷ es) added k r h a = (h.0, in_range-append maker_of passes es added k r h.1 a)

module _ {T O E : Type 0} (story_of : T → List E) where
  same_slot : (m : Me (Option T) (View O E)) (x y : T) → m.1 ≡ (0, Some x) ∷ [] → m.1 ≡ (0, Some y) ∷ [] → ◌≡◌ {A = Me (Option T) (View O E)} (view_with_list m.0 (story_of x), m.1) (view_with_list m.0 (story_of y), m.1)
  same_slot m x y e d = let pair : ◌≡◌ {A = ℕ × Option T} (0, Some x) (0, Some y) = cc (e, d) in let same : x ≡ y = some_same x y (ap (λ (t : ℕ × Option T). t.1) pair) in ap {B = Me (Option T) (View O E)} (λ z. (view_with_list m.0 (story_of z), m.1)) same

by_turn : (b : Bool) (n : ℕ) → (b ≡ true → 0 < n) → flag b ≤ n
by_turn true n h = omega (arith, h refl)
by_turn false n h = omega arith

turn_le : {O E : Type 0} (u : View O E) → (u.turn ≡ true → 0 < length u.made) → turn_count u ≤ length u.made
turn_le u h = by_turn u.turn (length u.made) h

module _ {T O E : Type 0} (origin_of : T → O) (story_of : T → List E) (maker_of : E → ℕ) (origin : O) (passes : ℕ) where
  abbrev St : Type 0
  St = State (Option T) (View O E)

  abbrev K : St → Type 0
  K = KeepsLockRule origin_of story_of maker_of origin passes

  abbrev F : List E → View O E → Type 0
  F = FitsLog origin_of story_of maker_of origin passes

  abbrev InRange : E → Type 0
  InRange e = (0 < maker_of e) × (maker_of e ≤ passes)

  -- one seat's view changes, which keeps its numbers
  keeps_with_view : (s : St) (g : K s) (id : ℕ) (v w : View O E) (log : List E) (busy : ℕ) (ws : List ℕ) (hs : List (maybe.Option (Option T))) → get_elem? s.views id ≡ some v
      → ws ≡ length log ∷ busy ∷ passes ∷ []
      → (busy ≡ 0 → (x : T) × (get_elem? hs 0 ≡ some (some (Some x))) × (origin_of x ≡ origin) × (story_of x ≡ log))
      → turn_count w + g.busy ≡ busy + turn_count v → busy < 2
      → ((k : ℕ) → times k w.made ≡ times k v.made) → length w.made ≡ length v.made
      → F log w → ((j : ℕ) (u : View O E) → j ≢ id → get_elem? s.views j ≡ some u → F log u)
      → HoldsForEach InRange log → K (record { words = ws; homes = hs; views = set s.views id w })
  keeps_with_view s g id v w log busy ws hs me words home turn one numbers counted mine others makers = record {
    log = log;
    busy = busy;
    words = words;
    home = home;
    turns = omega (arith, total-set turn_count s.views id v w me, g.turns);
    one = one;
    each = λ j u e. ⊎_elim (λ t. subst (F log) t.1 mine) (λ t. others j u t.0 t.1) (at_set s.views id j w u e);
    numbers = λ k. omega (arith, total-set (λ (u : View O E). times k u.made) s.views id v w me, g.numbers k, numbers k);
    counted = omega (arith, total-set (λ (u : View O E). length u.made) s.views id v w me, g.counted);
    makers = makers;
  }

  pub takes : (slots id : ℕ) (m : Me (Option T) (View O E)) → 0 < length m.0.made → Allows K slots id m 1 (λ n. either (eqb n 0) 1 n) (Takes origin_of story_of maker_of m)
  takes slots id m has s g wide me small =
      let found : get_or s.words 1 0 ≡ g.busy = ap (λ (ws : List ℕ). get_or ws 1 0) g.words in
      let mine = g.each id m.0 me in
      let G : ℕ → Type 0 = λ k. (w : View O E) × (a : Act (Option T)) × Valid s.homes m.1 a × K (stepped s 1 k id m.1 w a) × Takes origin_of story_of maker_of m (get_or s.words 1 0) (w, carried_after m.1 a) in
      exchanged (get_or s.words 1 0) 0 1 G
      (λ hit. let free : g.busy ≡ 0 = sym found ∙ hit in let t = g.home free in let x : T = t.0 in
      let made : AreEntriesByMaker maker_of (story_of x) m.0.made = subst (λ l. AreEntriesByMaker maker_of l m.0.made) (sym t.3) mine.made in (
        with_turn m.0 (story_of x),
        taking 0 (Some x),
        t.1,
        keeps_with_view s g id m.0 (with_turn m.0 (story_of x)) g.log 1 (set s.words 1 1) (set s.homes 0 none) me (ap (λ (ws : List ℕ). set ws 1 1) g.words) (λ e. absurd (omega arith))
            (omega (arith, term_le turn_count s.views id m.0 me, g.turns)) (omega arith) (λ k. refl) refl
            record {
              origin_is = mine.origin_is;
              passes_is = mine.passes_is;
              seen = subst (λ l. IsPrefix l g.log) (sym t.3) (prefix_self g.log);
              other = mine.other;
              whole = λ _. t.3;
              made = mine.made;
              known = known_first maker_of (story_of x) m.0.other m.0.made made;
              maker = λ _. has;
            }
            (λ j u ne at. g.each j u at) g.makers,
        ((λ _. (x, refl, ap (λ o. o ∷ []) t.2 ∙ sym (mine.origin_is has), subst (λ l. IsPrefix m.0.seen l) (sym t.3) mine.seen, made)), λ ne. absurd (ne hit)),
      ))
      (λ miss. (
        m.0,
        keeps,
        tt,
        keeps_with_view s g id m.0 m.0 g.log g.busy (set s.words 1 (get_or s.words 1 0)) s.homes me (set-get_or s.words 1 0 ∙ g.words) g.home (omega arith) g.one (λ k. refl) refl mine (λ j u ne at. g.each j u at) g.makers,
        ((λ hit. absurd (miss hit)), λ _. refl),
      ))

  pub reads : (slots id : ℕ) (m : Me (Option T) (View O E)) → 0 < length m.0.made → Allows K slots id m 0 (λ n. n) (Reads maker_of m)
  reads slots id m has s g wide me small =
      let found : get_or s.words 0 0 ≡ length g.log = ap (λ (ws : List ℕ). get_or ws 0 0) g.words in
      let mine = g.each id m.0 me in
      let xs : List E = m.0.seen in let ys : List E = m.0.other in let zs : List E = longer xs ys in
      let all : IsPrefix zs g.log = longer_either (λ l. IsPrefix l g.log) xs ys (λ _. mine.other) (λ _. mine.seen) in
      let this : IsPrefix xs zs = longer_either (λ l. IsPrefix xs l) xs ys (λ h. prefix_shorter xs ys g.log mine.seen mine.other (omega arith)) (λ _. prefix_self xs) in
      let that : IsPrefix ys zs = longer_either (λ l. IsPrefix ys l) xs ys (λ _. prefix_self ys) (λ h. prefix_shorter ys xs g.log mine.other mine.seen h) in
      let made : AreEntriesByMaker maker_of zs m.0.made = made_between maker_of xs ys g.log m.0.made zs mine.made mine.known this that all in (
        view_after_look m.0,
        keeps,
        tt,
        keeps_with_view s g id m.0 (view_after_look m.0) g.log g.busy (set s.words 0 (get_or s.words 0 0)) s.homes me (set-get_or s.words 0 0 ∙ g.words) g.home (omega arith) g.one (λ k. refl) refl
            record {
              origin_is = mine.origin_is;
              passes_is = mine.passes_is;
              seen = all;
              other = (g.log, refl);
              whole = λ t. longer_either (λ l. l ≡ g.log) xs ys (λ h. absurd (omega (arith, ap length (mine.whole t), prefix_length ys g.log mine.other))) (λ _. mine.whole t);
              made = mine.made;
              known = known_first maker_of zs [] m.0.made made;
              maker = mine.maker;
            }
            (λ j u ne at. g.each j u at) g.makers,
        (
          refl,
          this,
          that,
          made,
          (λ k. subst (λ n. times k m.0.made ≤ one_if_number_of_pass n k) (sym (mine.passes_is has)) (omega (arith, term_le (λ (u : View O E). times k u.made) s.views id m.0 me, g.numbers k))),
          (λ t. ap length (mine.whole t) ∙ sym found),
        ),
      )

  pub counts : (slots id : ℕ) (m : Me (Option T) (View O E)) (x : T) (new : ℕ) → 0 < length m.0.made → m.0.turn ≡ true → m.0.other ≡ [] → m.1 ≡ (0, Some x) ∷ []
      → IsAdded maker_of (own_number m.0.made) m.0.seen (story_of x) → new ≡ length (story_of x)
      → Allows K slots id m 0 (λ _. new) (λ _. Counts story_of m)
  counts slots id m x new has turn alone slot more len s g wide me small =
      let mine = g.each id m.0 me in
      let xs : List E = m.0.seen in let zs : List E = story_of x in let added : List E = more.0 in let k : ℕ = own_number m.0.made in
      let is : zs ≡ xs ++ added = more.1 in
      let whole : xs ≡ g.log = mine.whole turn in
      let now : g.log ++ added ≡ zs = ap (λ l. l ++ added) (sym whole) ∙ sym is in
      let before : IsPrefix g.log zs = (added, now) in
      let rest : drop (length xs) zs ≡ added = ap (drop (length xs)) is ∙ drop_prefix xs added in
      let own = own_there m.0.made has in
      let times_all = λ (j : ℕ). term_le (λ (u : View O E). times j u.made) s.views id m.0 me in
      let range = stands_range passes k (omega (arith, times_all k, g.numbers k)) in
      let w : View O E = view_with_list m.0 zs in
      let on : turn_count m.0 ≡ 1 = ap flag turn in
      let made : AreEntriesByMaker maker_of zs w.made = subst (λ a. AreEntriesByMaker maker_of zs (numbers_with_more_made m.0.made a)) (sym rest)
      (subst (λ l. AreEntriesByMaker maker_of l (numbers_with_more_made m.0.made added)) now (made_grown maker_of g.log added m.0.made more.2 (omega (arith, times_all k, g.numbers k, stands_one passes k)) mine.made)) in (
        w,
        keeps,
        tt,
        keeps_with_view s g id m.0 w zs g.busy (set s.words 0 new) s.homes me (ap (λ (ws : List ℕ). set ws 0 new) g.words ∙ ap (λ (n : ℕ). n ∷ g.busy ∷ passes ∷ []) len)
            (λ e. absurd (omega (arith, term_le turn_count s.views id m.0 me, g.turns))) (omega arith) g.one (λ j. times_more j m.0.made (drop (length xs) zs)) (length_more m.0.made (drop (length xs) zs))
            record {
              origin_is = λ h. mine.origin_is has;
              passes_is = λ h. mine.passes_is has;
              seen = prefix_self zs;
              other = subst (λ l. IsPrefix l zs) (sym alone) (zs, refl);
              whole = λ _. refl;
              made = made;
              known = known_first maker_of zs m.0.other w.made made;
              maker = λ _. omega (arith, length_more m.0.made (drop (length xs) zs));
            }
            (λ j u ne at. let theirs = g.each j u at in
            let idle : u.turn ≡ true → ⊥ = λ t. omega (arith, terms_le turn_count s.views id j m.0 u ne me at, g.turns, g.one, ap flag t) in
            record {
              origin_is = theirs.origin_is;
              passes_is = theirs.passes_is;
              seen = prefix_trans u.seen g.log zs theirs.seen before;
              other = prefix_trans u.other g.log zs theirs.other before;
              whole = λ t. absurd (idle t);
              made = subst (λ l. AreEntriesByMaker maker_of l u.made) now
                  (made_unchanged maker_of k g.log added u.made more.2 (omega (arith, terms_le (λ (v : View O E). times k v.made) s.views id j m.0 u ne me at, g.numbers k, stands_one passes k)) theirs.made);
              known = theirs.known;
              maker = theirs.maker;
            })
            (subst (HoldsForEach InRange) now (in_range-append maker_of passes g.log added k range g.makers more.2)),
        (λ y e. same_slot story_of m x y slot e),
      )

  pub releases : (id : ℕ) (m : Me (Option T) (View O E)) (x : T) → 0 < length m.0.made → m.0.turn ≡ true → m.1 ≡ (0, Some x) ∷ [] → origin_of x ∷ [] ≡ m.0.origin → story_of x ≡ m.0.seen
      → Allows K 1 id m 1 (λ _. 0) (λ _. Releases m)
  releases id m x has turn slot from story s g wide me small =
      let mine = g.each id m.0 me in
      let on : turn_count m.0 ≡ 1 = ap flag turn in
      let w : View O E = without_turn m.0 in
      let back : (cs : List (ℕ × Option T)) → cs ≡ (0, Some x) ∷ [] → get_elem? (homes_after s.homes cs gives) 0 ≡ some (some (Some x)) =
      λ cs e. subst (λ (l : List (ℕ × Option T)). get_elem? (homes_after s.homes l gives) 0 ≡ some (some (Some x))) (sym e) (set_here s.homes 0 (some (Some x)) (omega arith)) in (
        w,
        gives,
        tt,
        keeps_with_view s g id m.0 w g.log 0 (set s.words 1 0) (homes_after s.homes m.1 gives) me (ap (λ (ws : List ℕ). set ws 1 0) g.words)
            (λ _. (x, back m.1 slot, one_same (origin_of x) origin (from ∙ mine.origin_is has), story ∙ mine.whole turn))
            (omega (arith, term_le turn_count s.views id m.0 me, g.turns, g.one)) (omega arith) (λ k. refl) refl
            record {
              origin_is = mine.origin_is;
              passes_is = mine.passes_is;
              seen = mine.seen;
              other = mine.other;
              whole = λ t. absurd (true≢false (sym t));
              made = mine.made;
              known = mine.known;
              maker = λ _. has;
            }
            (λ j u ne at. g.each j u at) g.makers,
        refl,
      )

  pub counts_at : (slots id : ℕ) (m : Me (Option T) (View O E)) (v : View O E) (x : T) (new : ℕ) → m ≡ (v, (0, Some x) ∷ []) → 0 < length v.made → v.turn ≡ true → v.other ≡ []
      → IsAdded maker_of (own_number v.made) v.seen (story_of x) → new ≡ length (story_of x) → Allows K slots id m 0 (λ _. new) (λ _. Counts story_of m)
  counts_at slots id m v x new e has turn alone more len =
      subst (λ (y : Me (Option T) (View O E)). Allows K slots id y 0 (λ _. new) (λ _. Counts story_of y)) (sym e) (counts slots id (v, (0, Some x) ∷ []) x new has turn alone refl more len)

  pub releases_at : (slots id : ℕ) (m : Me (Option T) (View O E)) (v : View O E) (x : T) → slots ≡ 1 → m ≡ (v, (0, Some x) ∷ []) → 0 < length v.made → v.turn ≡ true → origin_of x ∷ [] ≡ v.origin → story_of x ≡ v.seen
      → Allows K slots id m 1 (λ _. 0) (λ _. Releases m)
  releases_at slots id m v x one e has turn from story =
      subst (λ (y : Me (Option T) (View O E)). Allows K slots id y 1 (λ _. 0) (λ _. Releases y)) (sym e)
      (subst (λ n. Allows K n id (v, (0, Some x) ∷ []) 1 (λ _. 0) (λ _. Releases (v, (0, Some x) ∷ []))) (sym one) (releases id (v, (0, Some x) ∷ []) x has turn refl from story))

  pub joins : (id : ℕ) (v : View O E) (other : ℕ) (w : View O E) → w.turn ≡ false → v.other ≡ [] → 0 < length v.made → AreEntriesByMaker maker_of v.seen v.made → AreEntriesByMaker maker_of w.seen w.made
      → Joins K id v other w (joined_view v w) spent_view
  joins id v other w free alone has made_v made_w s g me apart them =
      let u : View O E = joined_view v w in let vs : List (View O E) = set s.views id u in
      let both : (f : View O E → ℕ) → sum_of_values f (set vs other spent_view) + f w + f v ≡ sum_of_values f s.views + f u + f spent_view =
      λ f. omega (arith, total-set f s.views id v u me, total-set f vs other w spent_view them) in
      let there : get_elem? s.views other ≡ some w = sym (set_else s.views id other u apart) ∙ them in
      let mine = g.each id v me in let theirs = g.each other w there in
      let off : turn_count w ≡ 0 = ap flag free in
      let nothing : F g.log spent_view = record { origin_is = λ h. absurd (omega arith); passes_is = λ h. absurd (omega arith); seen = (g.log, refl); other = (g.log, refl); whole = λ t. absurd (true≢false (sym t)); made = tt; known = tt; maker = λ t. absurd (true≢false (sym t)) } in
      let all : F g.log u = record {
        origin_is = λ _. mine.origin_is has;
        passes_is = λ _. mine.passes_is has;
        seen = mine.seen;
        other = theirs.seen;
        whole = mine.whole;
        made = made-append maker_of g.log v.made w.made mine.made theirs.made;
        known = known-append maker_of v.seen w.seen v.made w.made (known_first maker_of v.seen w.seen v.made made_v) (known_second maker_of v.seen w.seen w.made made_w);
        maker = λ t. omega (arith, length-append v.made w.made, has);
      } in
      record {
        log = g.log;
        busy = g.busy;
        words = g.words;
        home = g.home;
        turns = omega (arith, both turn_count, g.turns);
        one = g.one;
        each = λ j x e. ⊎_elim (λ t. subst (F g.log) t.1 nothing) (λ t. ⊎_elim (λ q. subst (F g.log) q.1 all) (λ q. g.each j x q.1) (at_set s.views id j u x t.1)) (at_set vs other j spent_view x e);
        numbers = λ k. omega (arith, both (λ (x : View O E). times k x.made), g.numbers k, times-append k v.made w.made);
        counted = omega (arith, both (λ (x : View O E). length x.made), g.counted, length-append v.made w.made);
        makers = g.makers;
      }

  pub splits : (id : ℕ) (v : View O E) → 1 < length v.made → v.turn ≡ false → Splits K id v (without_last v) (only_last v)
  splits id v two free s g me =
      let l : View O E = without_last v in let r : View O E = only_last v in let vs : List (View O E) = set s.views id l in let n : ℕ = length v.made - 1 in
      let both : (f : View O E → ℕ) → sum_of_values f (vs ++ r ∷ []) + f v ≡ sum_of_values f s.views + f l + f r =
      λ f. omega (arith, total-set f s.views id v l me, total-append f vs (r ∷ [])) in
      let mine = g.each id v me in
      let left : F g.log l = record {
        origin_is = λ _. mine.origin_is (omega arith);
        passes_is = λ _. mine.passes_is (omega arith);
        seen = mine.seen;
        other = mine.other;
        whole = mine.whole;
        made = made-take maker_of g.log n v.made mine.made;
        known = known-take maker_of v.seen v.other n v.made mine.known;
        maker = λ t. absurd (true≢false (sym t ∙ free));
      } in
      let right : F g.log r = record {
        origin_is = λ _. mine.origin_is (omega arith);
        passes_is = λ _. mine.passes_is (omega arith);
        seen = mine.seen;
        other = mine.other;
        whole = λ t. absurd (true≢false (sym t));
        made = made-drop maker_of g.log n v.made mine.made;
        known = known-drop maker_of v.seen v.other n v.made mine.known;
        maker = λ t. absurd (true≢false (sym t));
      } in
      record {
        log = g.log;
        busy = g.busy;
        words = g.words;
        home = g.home;
        turns = omega (arith, both turn_count, g.turns);
        one = g.one;
        each = λ j x e. ⊎_elim (λ t. ⊎_elim (λ q. subst (F g.log) q.1 left) (λ q. g.each j x q.1) (at_set s.views id j l x t)) (λ t. subst (F g.log) t right) (at_snoc vs r x j e);
        numbers = λ k. omega (arith, both (λ (x : View O E). times k x.made), g.numbers k, times_cut k n v.made);
        counted = omega (arith, both (λ (x : View O E). length x.made), g.counted, length_cut n v.made);
        makers = g.makers;
      }

  pub starts : (x : T) → origin_of x ≡ origin → story_of x ≡ [] → K (opening (0 ∷ 0 ∷ passes ∷ []) (Some x ∷ []) (starting_view origin passes))
  starts x from empty = record {
    log = [];
    busy = 0;
    words = refl;
    home = λ _. (x, refl, from, empty);
    turns = refl;
    one = omega arith;
    each = λ j v e. ⊎_elim (λ (t : get_elem? [] j ≡ some v). absurd (some-ne-none v (sym t))) (λ t. subst (F []) t record {
      origin_is = λ _. refl;
      passes_is = λ _. refl;
      seen = ([], refl);
      other = ([], refl);
      whole = λ t. absurd (true≢false (sym t));
      made = made_fresh maker_of passes;
      known = known_first maker_of [] [] (fresh_to passes) (made_fresh maker_of passes);
      maker = λ t. absurd (true≢false (sym t));
    }) (at_snoc [] (starting_view origin passes) v j e);
    numbers = λ k. omega (arith, times_fresh E passes k);
    counted = omega (arith, length_fresh E passes);
    makers = tt;
  }

  within : (log : List E) (made : List (Made E)) → ((k : ℕ) → one_if_number_of_pass passes k ≤ times k made) → HoldsForEach InRange log → HoldsForEach (λ e. 0 < times (maker_of e) made) log
  within [] made h r = tt
  within (e ∷ es) made h r = (omega (arith, h (maker_of e), stands_in passes (maker_of e) r.0.0 r.0.1), within es made h r.1)

  pub closes : (id : ℕ) (v : View O E) (ws : List ℕ) (xs : List (Option T)) → Final (Seen K id v) ws xs → length v.made ≡ passes → v.turn ≡ false
      → (x : T) × (get_elem? xs 0 ≡ some (Some x)) × (origin_of x ≡ origin) × IsPrefix v.seen (story_of x) × AreEntriesByMaker maker_of (story_of x) v.made × HoldsForEach (λ e. 0 < times (maker_of e) v.made) (story_of x)
  closes id v ws xs f all free =
      let s : St = f.0 in let g : K s = f.1.0 in let me = f.1.1 in let mine = g.each id v me in
      let off : turn_count v ≡ 0 = ap flag free in
      let quiet = totals_le turn_count (λ (u : View O E). length u.made) s.views id v me (λ j u e. turn_le u (g.each j u e).maker) in
      let mine_all : (k : ℕ) → one_if_number_of_pass passes k ≤ times k v.made = λ k.
      omega (arith, totals_le (λ (u : View O E). times k u.made) (λ (u : View O E). length u.made) s.views id v me (λ j u e. times_le k u.made), g.numbers k, g.counted) in
      let t = g.home (omega (arith, g.turns, g.counted)) in let x : T = t.0 in (
        x,
        f.4 0 (Some x) t.1,
        t.2,
        subst (λ l. IsPrefix v.seen l) (sym t.3) mine.seen,
        subst (λ l. AreEntriesByMaker maker_of l v.made) (sym t.3) mine.made,
        subst (HoldsForEach (λ e. 0 < times (maker_of e) v.made)) (sym t.3) (within g.log v.made mine_all g.makers),
      )

-- the seat, with the value in its slot
pub slot_filled : {T V : Type 0} (m n : Me (Option T) V) (x : T) → m.1 ≡ (0, None) ∷ [] → n ≡ (m.0, (0, Some x) ∷ rest m.1) → n ≡ (m.0, (0, Some x) ∷ [])
slot_filled m n x e f = f ∙ ap (λ (l : List (ℕ × Option _)). (m.0, (0, Some x) ∷ rest l)) e

-- a seat's view beside the slots that it holds
pub with_slots : {T V : Type 0} (m : Me T V) (l : List (ℕ × T)) → m.1 ≡ l → m ≡ (m.0, l)
with_slots m l e = ap (λ (t : List (ℕ × _)). (m.0, t)) e
