-- Marking blocks step by step finds those to which uses of data types lead.
use Rattle.std.proofs.Common.{ℕ, zero, suc, ◌≡◌, ◌<◌, ◌≤◌, ◌+◌, ◌⊎◌, inl, inr, ⊎_elim, true≢false, List, [], ◌∷◌, Some, Bool, true, false, ◌||◌, nat_eq, nat_lt, refl, sym, ◌∙◌, ap, arith, length, map, get_or, replicate, slice_set, Vec, ◌++◌, ◌-◌, append_assoc, drop, subst, take}
use Rattle.std.specs.Prelude.{◌&&◌, not}
use Rattle.std.proofs.lemmas.Bool.{and_from, and_parts, cases_eq, cond_both, eq-eqb, eqb-true, not_from_false, or_cases, or_left, or_right, true_from_ne_false}
use Rattle.std.proofs.lemmas.Bool.Decides.{nat_tests}
use Rattle.std.proofs.lemmas.List.{drop_more, get_or-set_other, get_or-set_same, length-map, length-replicate, length-set}
use Rattle.std.proofs.Math.Seq.{take-append_seam}
use Rattle.std.specs.List.{list_any, slice_get}
use Rattle.plc_base.specs.Kinds.{is_data_type}
use Rattle.stl_ast.specs.declared.blocks.Block.{Block}
use Rattle.block_layout.specs.Rule43.{contains_itself, leads_to, uses_of}
use Rattle.block_layout.specs.Heads.{breach_flags}
use Rattle.block_layout.specs.Cycles.{Marks, is_new, with_uses_marked, uses_of_all, with_mark, with_marks}
use Rattle.block_layout.specs.Types.{Types}

-- ---- a number among others

abbrev Among : ℕ → List ℕ → Type 0
Among x [] = ⊥
Among x (y ∷ ys) = (x ≡ y) ⊎ Among x ys

any_out : (f : ℕ → Bool) (xs : List ℕ) → list_any f xs ≡ true → (u : ℕ) × Among u xs × (f u ≡ true)
any_out f [] none = absurd (true≢false (sym none))
any_out f (x ∷ xs) is =
    ⊎_elim
    (λ here. (x, inl refl, here))
    (λ later. let r = any_out f xs later in (r.0, inr r.1, r.2))
    (or_cases (f x) (list_any f xs) is)

any_in : (f : ℕ → Bool) (xs : List ℕ) (u : ℕ) → Among u xs → f u ≡ true → list_any f xs ≡ true
any_in f [] u among is = absurd among
any_in f (x ∷ xs) u among is =
    ⊎_elim
    (λ same. or_left (f x) (list_any f xs) (ap f (sym same) ∙ is))
    (λ later. or_right (f x) (list_any f xs) (any_in f xs u later is))
    among

-- ---- uses that lead from a block, in so many steps

abbrev uses_at : Types → List Block → ℕ → List ℕ
uses_at y blocks from = uses_of y (slice_get blocks from)

abbrev Leads : Types → List Block → (steps from to : ℕ) → Type 0
Leads y blocks steps from to = leads_to y blocks steps from to ≡ true

leads_out : (y : Types) (blocks : List Block) (s a x : ℕ) → Leads y blocks (suc s) a x →
    (u : ℕ) × Among u (uses_at y blocks a) × ((u ≡ x) ⊎ Leads y blocks s u x)
leads_out y blocks s a x leads =
    let r = any_out (λ u. nat_eq u x || leads_to y blocks s u x) (uses_at y blocks a) leads in (
      r.0,
      r.1,
      ⊎_elim (λ e. inl (eqb-true r.0 x e)) (λ l. inr l) (or_cases (nat_eq r.0 x) (leads_to y blocks s r.0 x) r.2),
    )

leads_in : (y : Types) (blocks : List Block) (s a u x : ℕ) → Among u (uses_at y blocks a) →
    ((u ≡ x) ⊎ Leads y blocks s u x) → Leads y blocks (suc s) a x
leads_in y blocks s a u x among how =
    any_in (λ v. nat_eq v x || leads_to y blocks s v x) (uses_at y blocks a) u among
    (⊎_elim
    (λ e. or_left (nat_eq u x) (leads_to y blocks s u x) (eq-eqb u x e))
    (λ l. or_right (nat_eq u x) (leads_to y blocks s u x) l)
    how)

-- a last step in place of a first one
abbrev LastStep : Types → List Block → (s a x : ℕ) → Type 0
LastStep y blocks s a x =
    Among x (uses_at y blocks a)
    ⊎ ((m : ℕ) × Leads y blocks s a m × Among x (uses_at y blocks m))

by_first : (y : Types) (blocks : List Block) (s a u x : ℕ) → Among u (uses_at y blocks a) →
    LastStep y blocks s u x → LastStep y blocks (suc s) a x
by_first y blocks s a u x among last =
    ⊎_elim
    (λ used. inr (u, leads_in y blocks s a u u among (inl refl), used))
    (λ more. inr (more.0, leads_in y blocks s a u more.0 among (inr more.1), more.2))
    last

last_step : (y : Types) (blocks : List Block) (s a x : ℕ) → Leads y blocks (suc s) a x → LastStep y blocks s a x
last_step y blocks zero a x leads =
    let r = leads_out y blocks 0 a x leads in
    ⊎_elim (λ e. inl (subst (λ (n : ℕ). Among n (uses_at y blocks a)) e r.1)) (λ never. absurd (true≢false (sym never))) r.2
last_step y blocks (suc s) a x leads =
    let r = leads_out y blocks (suc s) a x leads in
    ⊎_elim
    (λ e. inl (subst (λ (n : ℕ). Among n (uses_at y blocks a)) e r.1))
    (λ later. by_first y blocks s a r.0 x r.1 (last_step y blocks s r.0 x later))
    r.2

one_step : (y : Types) (blocks : List Block) (s a x : ℕ) → Among x (uses_at y blocks a) → Leads y blocks (suc s) a x
one_step y blocks s a x among = leads_in y blocks s a x x among (inl refl)

one_more : (y : Types) (blocks : List Block) (s a m x : ℕ) → Leads y blocks s a m →
    Among x (uses_at y blocks m) → Leads y blocks (suc s) a x
one_more y blocks zero a m x leads among = absurd (true≢false (sym leads))
one_more y blocks (suc s) a m x leads among =
    let r = leads_out y blocks s a m leads in
    leads_in y blocks (suc s) a r.0 x r.1
    (inr (⊎_elim
    (λ e. one_step y blocks s r.0 x (subst (λ (n : ℕ). Among x (uses_at y blocks n)) (sym e) among))
    (λ later. one_more y blocks s r.0 m x later among)
    r.2))

longer : (y : Types) (blocks : List Block) (s a x : ℕ) → Leads y blocks s a x → Leads y blocks (suc s) a x
longer y blocks zero a x leads = absurd (true≢false (sym leads))
longer y blocks (suc s) a x leads =
    let r = leads_out y blocks s a x leads in
    leads_in y blocks (suc s) a r.0 x r.1
    (⊎_elim (λ e. inl e) (λ later. inr (longer y blocks s r.0 x later)) r.2)

much_longer : (y : Types) (blocks : List Block) (more s a x : ℕ) → Leads y blocks s a x → Leads y blocks (more + s) a x
much_longer y blocks zero s a x leads = subst (λ (n : ℕ). Leads y blocks n a x) (let e : s ≡ 0 + s = omega arith in e) leads
much_longer y blocks (suc more) s a x leads =
    subst (λ (n : ℕ). Leads y blocks n a x) (let e : suc (more + s) ≡ suc more + s = omega arith in e)
    (longer y blocks (more + s) a x (much_longer y blocks more s a x leads))

-- where a step adds nothing, none does
stays : (y : Types) (blocks : List Block) (a s more : ℕ) →
    ((x : ℕ) → Leads y blocks (suc (suc s)) a x → Leads y blocks (suc s) a x) →
    (x : ℕ) → Leads y blocks (more + suc s) a x → Leads y blocks (suc s) a x
stays y blocks a s zero same x leads = subst (λ (n : ℕ). Leads y blocks n a x) (let e : 0 + suc s ≡ suc s = omega arith in e) leads
stays y blocks a s (suc more) same x leads =
    ⊎_elim
    (λ used. one_step y blocks s a x used)
    (λ last. same x (one_more y blocks (suc s) a last.0 x (stays y blocks a s more same last.0 last.1) last.2))
    (last_step y blocks (more + suc s) a x (subst (λ (n : ℕ). Leads y blocks n a x) (let e : suc more + suc s ≡ suc (more + suc s) = omega arith in e) leads))

-- ---- marks

-- what marks have become by blocks of a list: each of them is marked, and what was found is marked now and wasn't
record Marked (among : ℕ → Type 0) (old new : Marks) : Type 0 where
  size : length new.0 ≡ length old.0
  kept : (x : ℕ) → get_or old.0 x false ≡ true → get_or new.0 x false ≡ true
  marked : (x : ℕ) → among x → x < length old.0 → get_or new.0 x false ≡ true
  only : (x : ℕ) → get_or new.0 x false ≡ true → (get_or old.0 x false ≡ true) ⊎ among x
  found : (x : ℕ) → get_or new.0 x false ≡ true → (get_or old.0 x false ≡ true) ⊎ Among x new.1
  known : (x : ℕ) → Among x old.1 → Among x new.1
  are : (x : ℕ) → Among x new.1 → Among x old.1 ⊎ (get_or new.0 x false ≡ true)

last_among : (xs : List ℕ) (x b : ℕ) → x ≡ b → Among x (xs ++ b ∷ [])
last_among [] x b e = inl e
last_among (y ∷ ys) x b e = inr (last_among ys x b e)

still_among : (xs ys : List ℕ) (x : ℕ) → Among x xs → Among x (xs ++ ys)
still_among [] ys x among = absurd among
still_among (z ∷ zs) ys x among = ⊎_elim (λ e. inl e) (λ later. inr (still_among zs ys x later)) among

either_among : (xs ys : List ℕ) (x : ℕ) → Among x (xs ++ ys) → Among x xs ⊎ Among x ys
either_among [] ys x among = inr among
either_among (z ∷ zs) ys x among =
    ⊎_elim
    (λ e. inl (inl e))
    (λ later. ⊎_elim (λ l. inl (inr l)) (λ r. inr r) (either_among zs ys x later))
    among

-- what isn't new is marked, where there is such a block
marked_then : (m : Marks) (b : ℕ) → is_new m.0 b ≡ false → b < length m.0 → get_or m.0 b false ≡ true
marked_then m b isnt within =
    true_from_ne_false (get_or m.0 b false)
    (λ unmarked.
    let low : nat_lt b (length m.0) ≡ true = grind (arith, nat_tests, within) in
    true≢false (sym (and_from (nat_lt b (length m.0)) (not (get_or m.0 b false)) low (not_from_false (get_or m.0 b false) unmarked)) ∙ isnt))

put_in : (m : Marks) (b : ℕ) → is_new m.0 b ≡ true →
    Marked (λ x. x ≡ b) m (slice_set m.0 b true, m.1 ++ b ∷ [])
put_in m b is =
    let parts = and_parts (nat_lt b (length m.0)) (not (get_or m.0 b false)) is in
    let below : b < length m.0 = grind (arith, nat_tests, parts.0) in
    let here : get_or (slice_set m.0 b true) b false ≡ true = get_or-set_same m.0 b true false below in
    record {
      size = length-set m.0 b true;
      kept = λ x old. ⊎_elim
          (λ e. subst (λ (n : ℕ). get_or (slice_set m.0 b true) n false ≡ true) (sym e) here)
          (λ apart. get_or-set_other m.0 b x true false apart ∙ old)
          (cases_eq x b);
      marked = λ x e within. subst (λ (n : ℕ). get_or (slice_set m.0 b true) n false ≡ true) (sym e) here;
      only = λ x new. ⊎_elim
          (λ e. inr e)
          (λ apart. inl (sym (get_or-set_other m.0 b x true false apart) ∙ new))
          (cases_eq x b);
      found = λ x new. ⊎_elim
          (λ e. inr (last_among m.1 x b e))
          (λ apart. inl (sym (get_or-set_other m.0 b x true false apart) ∙ new))
          (cases_eq x b);
      known = λ x among. still_among m.1 (b ∷ []) x among;
      are = λ x among. ⊎_elim
          (λ before. inl before)
          (λ last. inr (⊎_elim
          (λ e. subst (λ (n : ℕ). get_or (slice_set m.0 b true) n false ≡ true) (sym e) here)
          (λ never. absurd never)
          last))
          (either_among m.1 (b ∷ []) x among);
    }

left_out : (m : Marks) (b : ℕ) → is_new m.0 b ≡ false → Marked (λ x. x ≡ b) m m
left_out m b isnt = record {
  size = refl;
  kept = λ x old. old;
  marked = λ x e within.
      subst (λ (n : ℕ). get_or m.0 n false ≡ true) (sym e) (marked_then m b isnt (subst (λ (n : ℕ). n < length m.0) e within));
  only = λ x new. inl new;
  found = λ x new. inl new;
  known = λ x among. among;
  are = λ x among. inl among;
}

marked_one : (m : Marks) (b : ℕ) → Marked (λ x. x ≡ b) m (with_mark m b)
marked_one m b =
    cond_both (is_new m.0 b) (slice_set m.0 b true, m.1 ++ b ∷ []) m (λ (n : Marks). Marked (λ x. x ≡ b) m n)
    (put_in m b) (left_out m b)

-- one after the other
then : (A B C : ℕ → Type 0) (m n k : Marks) → ((x : ℕ) → A x → C x) → ((x : ℕ) → B x → C x) →
    ((x : ℕ) → C x → A x ⊎ B x) → Marked A m n → Marked B n k → Marked C m k
then A B C m n k from_a from_b out f s = record {
  size = s.size ∙ f.size;
  kept = λ x old. s.kept x (f.kept x old);
  marked = λ x c within. ⊎_elim
      (λ a. s.kept x (f.marked x a within))
      (λ b. s.marked x b (subst (λ (l : ℕ). x < l) (sym f.size) within))
      (out x c);
  only = λ x new. ⊎_elim
      (λ mid. ⊎_elim (λ old. inl old) (λ a. inr (from_a x a)) (f.only x mid))
      (λ b. inr (from_b x b))
      (s.only x new);
  found = λ x new. ⊎_elim
      (λ mid. ⊎_elim (λ old. inl old) (λ among. inr (s.known x among)) (f.found x mid))
      (λ among. inr among)
      (s.found x new);
  known = λ x among. s.known x (f.known x among);
  are = λ x among. ⊎_elim
      (λ mid. ⊎_elim (λ old. inl old) (λ new. inr (s.kept x new)) (f.are x mid))
      (λ new. inr new)
      (s.are x among);
}

marks_same : (m : Marks) → Marked (λ x. ⊥) m m
marks_same m = record {
  size = refl;
  kept = λ x old. old;
  marked = λ x never within. absurd never;
  only = λ x new. inl new;
  found = λ x new. inl new;
  known = λ x among. among;
  are = λ x among. inl among;
}

marked_all : (m : Marks) (bs : List ℕ) → Marked (λ x. Among x bs) m (with_marks m bs)
marked_all m [] = marks_same m
marked_all m (b ∷ bs) =
    then (λ x. x ≡ b) (λ x. Among x bs) (λ x. Among x (b ∷ bs)) m (with_mark m b) (with_marks (with_mark m b) bs)
    (λ x e. inl e) (λ x among. inr among) (λ x among. among) (marked_one m b) (marked_all (with_mark m b) bs)

-- what one of some blocks uses
abbrev UsedBy : List (List ℕ) → List ℕ → ℕ → Type 0
UsedBy uses bs x = (f : ℕ) × Among f bs × Among x (get_or uses f [])

first_uses : (uses : List (List ℕ)) (b : ℕ) (bs : List ℕ) (x : ℕ) → UsedBy uses (b ∷ bs) x →
    Among x (get_or uses b []) ⊎ UsedBy uses bs x
first_uses uses b bs x used =
    ⊎_elim
    (λ e. inl (subst (λ (n : ℕ). Among x (get_or uses n [])) e used.2))
    (λ later. inr (used.0, later, used.2))
    used.1

marked_spread : (uses : List (List ℕ)) (m : Marks) (bs : List ℕ) → Marked (UsedBy uses bs) m (with_uses_marked uses m bs)
marked_spread uses m [] = record {
  size = refl;
  kept = λ x old. old;
  marked = λ x used within. absurd used.1;
  only = λ x new. inl new;
  found = λ x new. inl new;
  known = λ x among. among;
  are = λ x among. inl among;
}
marked_spread uses m (b ∷ bs) =
    let own = get_or uses b [] in
    then (λ x. Among x own) (UsedBy uses bs) (UsedBy uses (b ∷ bs)) m (with_marks m own) (with_uses_marked uses (with_marks m own) bs)
    (λ x among. (b, inl refl, among)) (λ x used. (used.0, inr used.1, used.2)) (first_uses uses b bs)
    (marked_all m own) (marked_spread uses (with_marks m own) bs)

-- ---- step by step

-- after so many steps from a block: the blocks to which uses lead in them are marked, and what a step more leads to is
-- used by those found last
pub record IsRound (y : Types) (blocks : List Block) (a s : ℕ) (reached : List Bool) (found : List ℕ) : Type 0 where
  pub size : length reached ≡ length blocks
  pub here : (x : ℕ) → get_or reached x false ≡ true → Leads y blocks s a x
  pub back : (x : ℕ) → x < length blocks → Leads y blocks s a x → get_or reached x false ≡ true
  pub next : (x : ℕ) → Leads y blocks (suc s) a x → Leads y blocks s a x ⊎ ((f : ℕ) × Among f found × Among x (uses_at y blocks f))
  pub front : (f : ℕ) → Among f found → (f ≡ a) ⊎ Leads y blocks s a f

uses_all_at : (y : Types) (bs : List Block) (from : ℕ) → get_or (uses_of_all y bs) from [] ≡ uses_at y bs from
uses_all_at y [] from = refl
uses_all_at y (b ∷ bs) zero = refl
uses_all_at y (b ∷ bs) (suc from) = uses_all_at y bs from

-- no uses at a place behind the last block
used_within : (y : Types) (bs : List Block) (from x : ℕ) → Among x (uses_at y bs from) → from < length bs
used_within y [] from x among = absurd among
used_within y (b ∷ bs) zero x among = omega arith
used_within y (b ∷ bs) (suc from) x among = let r = used_within y bs from x among in omega arith

none_marked : (n x : ℕ) → get_or (replicate n false) x false ≡ false
none_marked zero x = refl
none_marked (suc n) zero = refl
none_marked (suc n) (suc x) = none_marked n x

pub first_round : (y : Types) (blocks : List Block) (a : ℕ) (reached : List Bool) (found : List ℕ) → reached ≡ replicate (length blocks) false →
    found ≡ a ∷ [] → IsRound y blocks a 0 reached found
first_round y blocks a reached found none only = subst (λ (l : List Bool). IsRound y blocks a 0 l found) (sym none) (subst (λ (l : List ℕ). IsRound y blocks a 0 (replicate (length blocks) false) l) (sym only)
    (record {
      size = length-replicate (length blocks) false;
      here = λ x is. absurd (true≢false (sym is ∙ none_marked (length blocks) x));
      back = λ x within leads. absurd (true≢false (sym leads));
      next = λ x leads. ⊎_elim
          (λ used. inr (a, inl refl, used))
          (λ last. inl (absurd (true≢false (sym last.1))))
          (last_step y blocks 0 a x leads);
      front = λ f among. ⊎_elim (λ e. inl e) (λ never. absurd never) among;
    }))

pub next_round : (y : Types) (blocks : List Block) (a s : ℕ) (uses : List (List ℕ)) (reached : List Bool) (found : List ℕ) (after : Marks) →
    uses ≡ uses_of_all y blocks → after ≡ with_uses_marked uses (reached, []) found → IsRound y blocks a s reached found →
    IsRound y blocks a (suc s) after.0 after.1
next_round y blocks a s uses reached found after are is_after r =
    let m : Marked (UsedBy uses found) (reached, []) after = subst (λ (k : Marks). Marked (UsedBy uses found) (reached, []) k) (sym is_after) (marked_spread uses (reached, []) found) in
    let of : (f x : ℕ) → Among x (get_or uses f []) → Among x (uses_at y blocks f) =
    λ f x among. subst (λ (l : List ℕ). Among x l) (ap (λ l. get_or l f []) are ∙ uses_all_at y blocks f) among in
    let to : (f x : ℕ) → Among x (uses_at y blocks f) → Among x (get_or uses f []) =
    λ f x among. subst (λ (l : List ℕ). Among x l) (sym (ap (λ l. get_or l f []) are ∙ uses_all_at y blocks f)) among in
    let here : (x : ℕ) → get_or after.0 x false ≡ true → Leads y blocks (suc s) a x =
    λ x new. ⊎_elim
    (λ old. longer y blocks s a x (r.here x old))
    (λ used. ⊎_elim
    (λ e. one_step y blocks s a x (subst (λ (n : ℕ). Among x (uses_at y blocks n)) e (of used.0 x used.2)))
    (λ leads. one_more y blocks s a used.0 x leads (of used.0 x used.2))
    (r.front used.0 used.1))
    (m.only x new) in
    let back : (x : ℕ) → x < length blocks → Leads y blocks (suc s) a x → get_or after.0 x false ≡ true =
    λ x within leads. ⊎_elim
    (λ sooner. m.kept x (r.back x within sooner))
    (λ used. m.marked x (used.0, used.1, to used.0 x used.2) (subst (λ (n : ℕ). x < n) (sym r.size) within))
    (r.next x leads) in
    record {
      size = m.size ∙ r.size;
      here = here;
      back = back;
      next = λ x leads. ⊎_elim
          (λ used. inl (one_step y blocks s a x used))
          (λ last. ⊎_elim
          (λ old. inl (one_more y blocks s a last.0 x (r.here last.0 old) last.2))
          (λ among. inr (last.0, among, last.2))
          (m.found last.0 (back last.0 (used_within y blocks last.0 x last.2) last.1)))
          (last_step y blocks (suc s) a x leads);
      front = λ f among. ⊎_elim (λ never. absurd never) (λ new. inr (here f new)) (m.are f among);
    }

pub later_round : (y : Types) (blocks : List Block) (a s : ℕ) (reached marks : List Bool) (found : List ℕ) → reached ≡ marks → IsRound y blocks a (suc s) marks found → IsRound y blocks a (s + 1) reached found
later_round y blocks a s reached marks found same r =
    let e : suc s ≡ s + 1 = omega arith in
    subst (λ (n : ℕ). IsRound y blocks a n reached found) e (subst (λ (l : List Bool). IsRound y blocks a (suc s) l found) (sym same) r)

-- a truth value that is true exactly where another one is
same_truth : (b c : Bool) → (b ≡ true → c ≡ true) → (c ≡ true → b ≡ true) → b ≡ c
same_truth true c to back = sym (to refl)
same_truth false true to back = back refl
same_truth false false to back = refl

-- uses lead from blocks alone
leads_within : (y : Types) (blocks : List Block) (n a x : ℕ) → Leads y blocks n a x → a < length blocks
leads_within y blocks zero a x leads = absurd (true≢false (sym leads))
leads_within y blocks (suc n) a x leads =
    let r = leads_out y blocks n a x leads in used_within y blocks a r.0 r.1

-- after as many steps as there are blocks
pub all_rounds : (y : Types) (blocks : List Block) (a s : ℕ) (reached : List Bool) (found : List ℕ) → IsRound y blocks a s reached found → s ≡ length blocks →
    get_or reached a false ≡ leads_to y blocks (length blocks) a a
all_rounds y blocks a s reached found r all =
    same_truth (get_or reached a false) (leads_to y blocks s a a) (r.here a)
    (λ leads. r.back a (leads_within y blocks s a a leads) leads)
    ∙ ap (λ (n : ℕ). leads_to y blocks n a a) all

-- where a step finds nothing more
pub found_none_more : (y : Types) (blocks : List Block) (a s : ℕ) (reached : List Bool) (found : List ℕ) → IsRound y blocks a (suc s) reached found → found ≡ [] → suc s ≤ length blocks →
    get_or reached a false ≡ leads_to y blocks (length blocks) a a
found_none_more y blocks a s reached found r none few =
    let more = length blocks - suc s in
    let n_is : more + suc s ≡ length blocks = omega arith in
    let same : (x : ℕ) → Leads y blocks (suc (suc s)) a x → Leads y blocks (suc s) a x =
    λ x leads. ⊎_elim
    (λ sooner. sooner)
    (λ used. absurd (let never : ⊥ = subst (λ (l : List ℕ). Among used.0 l) none used.1 in never))
    (r.next x leads) in
    same_truth (get_or reached a false) (leads_to y blocks (length blocks) a a)
    (λ is. subst (λ (n : ℕ). Leads y blocks n a a) n_is (much_longer y blocks more (suc s) a a (r.here a is)))
    (λ leads. r.back a (leads_within y blocks (length blocks) a a leads)
    (stays y blocks a s more same a (subst (λ (n : ℕ). Leads y blocks n a a) (sym n_is) leads)))

pub none_there : (xs : List ℕ) (n : ℕ) → nat_eq n 0 ≡ true → n ≡ length xs → xs ≡ []
none_there [] n is long = refl
none_there (x ∷ xs) n is long = absurd (let none = eqb-true n 0 is in let never : ⊥ = omega (arith, none, long) in never)

-- a list of a vector that was written whole through a slice of it
pub slice_written : (n : ℕ) (new old : List Bool) → length new ≡ n → take n (new ++ drop (length new) old) ≡ new
slice_written n new old long =
    ap (λ (k : ℕ). take k (new ++ drop (length new) old)) (sym long) ∙ take-append_seam new (drop (length new) old)

pub map_next : {X Z : Type 0} (f : X → Z) (xs : List X) (i : ℕ) (x : X) (done now whole : List Z) → i < length xs → x ≡ get_or xs i x → now ≡ done ++ f x ∷ [] →
    done ++ map f (drop i xs) ≡ whole → now ++ map f (drop (i + 1) xs) ≡ whole
map_next f xs i x done now whole within is_x is_now so_far =
    ap (λ l. l ++ map f (drop (i + 1) xs)) is_now ∙ append_assoc done (f x ∷ []) (map f (drop (i + 1) xs))
    ∙ ap (λ l. done ++ map f l) (sym (drop_more xs i x within ∙ ap (λ y. y ∷ drop (i + 1) xs) (sym is_x))) ∙ so_far

pub length-uses : {Y : Type 0} (y : Types) (blocks : List Block) (us : List (Vec ℕ Y)) → map (λ u. u.items) us ≡ uses_of_all y blocks → length us ≡ length blocks
length-uses y blocks us are = sym (length-map us (λ u. u.items)) ∙ ap length are ∙ length-map blocks (λ b. uses_of y (Some b))

pub contains_by : {Y : Type 0} (y : Types) (blocks before : List Block) (b : Block) (us : List (Vec ℕ Y)) (place : ℕ) (r : Bool) → map (λ u. u.items) us ≡ uses_of_all y blocks → length before ≡ place →
    is_data_type b.kind ≡ true → r ≡ leads_to y blocks (length us) place place → r ≡ contains_itself y blocks before b
contains_by y blocks before b us place r are here is_type is_r =
    rw is_type
    (is_r ∙ ap (λ (n : ℕ). leads_to y blocks n place place) (length-uses y blocks us are) ∙ ap (λ (n : ℕ). leads_to y blocks (length blocks) n n) (sym here))

pub flags_next : (breaks : List Block → Block → Bool) (bs : List Block) (i : ℕ) (b : Block) (before : List Block) (done now whole : List Bool) (flag : Bool) → i < length bs → b ≡ get_or bs i b →
    flag ≡ breaks before b → now ≡ done ++ flag ∷ [] → done ++ breach_flags breaks before (drop i bs) ≡ whole → now ++ breach_flags breaks (b ∷ before) (drop (i + 1) bs) ≡ whole
flags_next breaks bs i b before done now whole flag within is_b is_flag is_now so_far =
    ap (λ (l : List Bool). l ++ breach_flags breaks (b ∷ before) (drop (i + 1) bs)) (is_now ∙ ap (λ (f : Bool). done ++ f ∷ []) is_flag)
    ∙ append_assoc done (breaks before b ∷ []) (breach_flags breaks (b ∷ before) (drop (i + 1) bs))
    ∙ ap (λ (l : List Block). done ++ breach_flags breaks before l) (sym (drop_more bs i b within ∙ ap (λ (x : Block). x ∷ drop (i + 1) bs) (sym is_b))) ∙ so_far

-- one more block is marked, of those from a place on
pub marks_turn : (m n whole : Marks) (bs : List ℕ) (i b : ℕ) → i < length bs → b ≡ get_or bs i b → n ≡ with_mark m b →
    with_marks m (drop i bs) ≡ whole → with_marks n (drop (i + 1) bs) ≡ whole
marks_turn m n whole bs i b within is_b is_n so_far =
    ap (λ (k : Marks). with_marks k (drop (i + 1) bs)) is_n
    ∙ ap (λ (l : List ℕ). with_marks m l) (sym (drop_more bs i b within ∙ ap (λ (x : ℕ). x ∷ drop (i + 1) bs) (sym is_b))) ∙ so_far

-- what one more block uses is marked
pub spread_turn : (uses : List (List ℕ)) (m n whole : Marks) (bs : List ℕ) (i b : ℕ) → i < length bs → b ≡ get_or bs i b → n ≡ with_marks m (get_or uses b []) →
    with_uses_marked uses m (drop i bs) ≡ whole → with_uses_marked uses n (drop (i + 1) bs) ≡ whole
spread_turn uses m n whole bs i b within is_b is_n so_far =
    ap (λ (k : Marks). with_uses_marked uses k (drop (i + 1) bs)) is_n
    ∙ ap (λ (l : List ℕ). with_uses_marked uses m l) (sym (drop_more bs i b within ∙ ap (λ (x : ℕ). x ∷ drop (i + 1) bs) (sym is_b))) ∙ so_far
