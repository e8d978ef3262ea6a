-- The least refusal along a list in which each member may change what is known, taken member by member.
use Rattle.std.proofs.Common.{ℕ, ◌≡◌, ◌<◌, ◌≤◌, ◌+◌, List, [], ◌∷◌, ◌++◌, Option, Bool, true, false, refl, sym, ◌∙◌, ap, length, drop, get_or}
use Rattle.std.proofs.Math.ListN.{drop_of_length-le}
use Rattle.std.proofs.lemmas.List.{drop_more}
use Rattle.plc_base.specs.declared.refusals.Refusal.{Refusal}
use Rattle.plc_base.specs.Least.{least, lesser}
use Rattle.plc_base.specs.RefusalsAlong.{refusals_along}
use Rattle.plc_base.proofs.LeastLemmas.{least-append, lesser_assoc, lesser_nothing}

module _ {S X : Type 0} (stops : X → Bool) (broken : S → X → List Refusal) (known : S → X → S) where
  -- a turn
  pub gathered_next : (s t : S) (xs : List X) (i : ℕ) (x : X) (found one next whole : Option Refusal) → i < length xs → x ≡ get_or xs i x → stops x ≡ false →
      one ≡ least (broken s x) → next ≡ lesser found one → t ≡ known s x →
      lesser found (least (refusals_along stops broken known s (drop i xs))) ≡ whole → lesser next (least (refusals_along stops broken known t (drop (i + 1) xs))) ≡ whole
  gathered_next s t xs i x found one next whole within is_x goes_on is_one is_next is_t so_far =
      let split : drop i xs ≡ x ∷ drop (i + 1) xs = drop_more xs i x within ∙ ap (λ (y : X). y ∷ drop (i + 1) xs) (sym is_x) in
      let step : refusals_along stops broken known s (x ∷ drop (i + 1) xs) ≡ broken s x ++ refusals_along stops broken known (known s x) (drop (i + 1) xs) = (rw goes_on refl) in
      ap (λ (u : S). lesser next (least (refusals_along stops broken known u (drop (i + 1) xs)))) is_t
      ∙ ap (λ (o : Option Refusal). lesser o (least (refusals_along stops broken known (known s x) (drop (i + 1) xs)))) (is_next ∙ ap (λ (o : Option Refusal). lesser found o) is_one)
      ∙ lesser_assoc found (least (broken s x)) (least (refusals_along stops broken known (known s x) (drop (i + 1) xs)))
      ∙ ap (λ (o : Option Refusal). lesser found o) (sym (least-append (broken s x) (refusals_along stops broken known (known s x) (drop (i + 1) xs))) ∙ ap (λ (l : List Refusal). least l) (sym step) ∙ ap (λ (l : List X). least (refusals_along stops broken known s l)) (sym split))
      ∙ so_far

  -- the end of the list
  pub gathered_done : (s : S) (xs : List X) (i : ℕ) (found whole : Option Refusal) → length xs ≤ i → lesser found (least (refusals_along stops broken known s (drop i xs))) ≡ whole → found ≡ whole
  gathered_done s xs i found whole over so_far =
      sym (lesser_nothing found) ∙ ap (λ (l : List X). lesser found (least (refusals_along stops broken known s l))) (sym (drop_of_length-le xs over)) ∙ so_far

  -- an element that stops the walk
  pub gathered_stops : (s : S) (xs : List X) (i : ℕ) (x : X) (found whole : Option Refusal) → i < length xs → x ≡ get_or xs i x → stops x ≡ true →
      lesser found (least (refusals_along stops broken known s (drop i xs))) ≡ whole → found ≡ whole
  gathered_stops s xs i x found whole within is_x ends so_far =
      let split : drop i xs ≡ x ∷ drop (i + 1) xs = drop_more xs i x within ∙ ap (λ (y : X). y ∷ drop (i + 1) xs) (sym is_x) in
      let none : refusals_along stops broken known s (x ∷ drop (i + 1) xs) ≡ [] = (rw ends refl) in
      sym (lesser_nothing found) ∙ ap (λ (l : List Refusal). lesser found (least l)) (sym none) ∙ ap (λ (l : List X). lesser found (least (refusals_along stops broken known s l))) (sym split) ∙ so_far
