-- What is true of the parts of a pass after each call.
use Rattle.std.proofs.Common.{◌≡◌, ℕ, ◌<◌, cond, true, false, None, List, [], ◌∷◌, ◌++◌, length, drop, subst, sym, refl, ap, ◌∙◌, ⊎_elim, arith, append-nil}
use Rattle.atomic_table.specs.Table.{Me}
use Rattle.std.proofs.Common.{Option}
use Rattle.tracked_lock.specs.declared.views.View.{View}
use Rattle.tracked_lock.specs.declared.views.Made.{Made}
use Rattle.tracked_lock.specs.Views.{HoldsForEach, AreEntriesByMaker, IsAdded, own_number, numbers_with_more_made, longer}
use Rattle.tracked_lock.specs.Plays.{view_with_list, without_turn}
use Rattle.tracked_lock.specs.Passes.{IsPass, IsOneStep}
use Rattle.tracked_lock.proofs.Prefixes.{drop_prefix, longer_either}
use Rattle.tracked_lock.proofs.Numbers.{made_grown, times_more, length_more, stands_one}

pub longer_nil : {E : Type 0} (xs : List E) → longer xs [] ≡ xs
longer_nil xs = longer_either (λ l. l ≡ xs) xs [] (λ h. absurd (omega arith)) (λ _. refl)

pub added_of : {E : Type 0} (maker : E → ℕ) (k : ℕ) (xs ys : List E) → IsOneStep maker k xs ys → IsAdded maker k xs ys
added_of maker k xs ys h = ⊎_elim (λ e. ([], e ∙ sym (append-nil xs), tt)) (λ s. (s.0 ∷ [], s.1, (s.2, tt))) h

pub added_as : {E : Type 0} (maker : E → ℕ) (k j : ℕ) (xs zs ys : List E) → k ≡ j → xs ≡ zs → IsAdded maker k xs ys → IsAdded maker j zs ys
added_as maker k j xs zs ys e d h = subst (λ l. IsAdded maker j l ys) d (subst (λ n. IsAdded maker n xs ys) e h)

own_more : {E : Type 0} (made : List (Made E)) (added : List E) → own_number (numbers_with_more_made made added) ≡ own_number made
own_more [] added = refl
own_more (x ∷ ms) added = refl

own_append : {E : Type 0} (a b : List (Made E)) → 0 < length a → own_number a ≡ own_number (a ++ b)
own_append [] b h = absurd (omega arith)
own_append (x ∷ a) b h = refl

module _ {T O E : Type 0} (story_of : T → List E) (maker_of : E → ℕ) where
  abbrev Is : Me (Option T) (View O E) → ℕ → ℕ → ℕ → Type 0
  Is = IsPass maker_of

  pub is_given : (m n : Me (Option T) (View O E)) (number seen numbers len : ℕ) (x : T) → Is m number seen numbers → IsAdded maker_of number m.0.seen (story_of x) → len ≡ length (story_of x)
      → n ≡ (without_turn (view_with_list m.0 (story_of x)), []) → Is n number len numbers
  is_given m n number seen numbers len x is more long e =
      let added : List E = more.0 in
      let rest : drop (length m.0.seen) (story_of x) ≡ added = ap (drop (length m.0.seen)) more.1 ∙ drop_prefix m.0.seen added in
      let own : HoldsForEach (λ y. maker_of y ≡ own_number m.0.made) added = subst (λ k. HoldsForEach (λ y. maker_of y ≡ k) added) is.number_is more.2 in
      subst (λ t. Is t number len numbers) (sym e) record {
        slots = refl;
        other = is.other;
        number_is = is.number_is ∙ sym (own_more m.0.made (drop (length m.0.seen) (story_of x)));
        seen_is = long;
        numbers_is = is.numbers_is ∙ sym (length_more m.0.made (drop (length m.0.seen) (story_of x)));
        one_number = omega (arith, length_more m.0.made (drop (length m.0.seen) (story_of x)), is.one_number);
        made = subst (λ l. AreEntriesByMaker maker_of l (numbers_with_more_made m.0.made (drop (length m.0.seen) (story_of x)))) (sym more.1)
            (subst (λ a. AreEntriesByMaker maker_of (m.0.seen ++ added) (numbers_with_more_made m.0.made a)) (sym rest) (made_grown maker_of m.0.seen added m.0.made own (omega (arith, is.once (own_number m.0.made), stands_one m.0.passes (own_number m.0.made))) is.made));
        once = λ k. omega (arith, times_more k m.0.made (drop (length m.0.seen) (story_of x)), is.once k);
      }

module _ {T O E : Type 0} (maker_of : E → ℕ) where
  abbrev Ours : Me (Option T) (View O E) → ℕ → ℕ → ℕ → Type 0
  Ours = IsPass maker_of

  pub no_slot : (m : Me (Option T) (View O E)) (number seen numbers : ℕ) → Ours m number seen numbers → m.0.turn ≡ false → m.1 ≡ []
  no_slot m number seen numbers is off = is.slots ∙ ap (λ b. cond b ((0, None) ∷ []) []) off

  pub one_slot : (m : Me (Option T) (View O E)) (number seen numbers : ℕ) → Ours m number seen numbers → m.0.turn ≡ true → m.1 ≡ (0, None) ∷ []
  one_slot m number seen numbers is on = is.slots ∙ ap (λ b. cond b ((0, None) ∷ []) []) on
