-- Whether a path leaves an array, step by step.
use Rattle.std.proofs.Common.{ℕ, ◌≡◌, ◌<◌, ◌≤◌, ◌+◌, List, [], ◌∷◌, Bool, true, false, ◌||◌, refl, sym, ◌∙◌, ap, length, drop, get_or}
use Rattle.std.proofs.Math.ListN.{drop_of_length-le}
use Rattle.std.proofs.lemmas.List.{drop_more}
use Rattle.stl_ast.specs.declared.blocks.PathStep.{PathStep}
use Rattle.block_layout.specs.declared.blocks.BlockLayout.{BlockLayout}
use Rattle.block_layout.specs.declared.path_ends.ComponentAt.{ComponentAt}
use Rattle.block_layout.specs.declared.path_ends.PathEnd.{PathEnd}
use Rattle.block_layout.specs.declared.path_ends.PathEnd.TheVariants as path_end
use Rattle.block_layout.specs.Paths.{holds_where_reached, leaves_array, step_is_beyond, path_end_by_step}

no_further : (w : PathEnd) (next : ComponentAt → Bool) → ((to : ComponentAt) → w ≡ path_end.Reaches to → ⊥) → holds_where_reached w next ≡ false
no_further (path_end.Reaches to) next never = absurd (never to refl)
no_further path_end.Unknown next never = refl
no_further path_end.Unjudged next never = refl

module _ (l : List BlockLayout) (component : ComponentAt) (path : List PathStep) (i : ℕ) (s : PathStep) (whole : Bool) where
  at_step : i < length path → s ≡ get_or path i s → leaves_array l component (drop i path) ≡ (step_is_beyond l component s || holds_where_reached (path_end_by_step l component s) (λ to. leaves_array l to (drop (i + 1) path)))
  at_step within is_s =
      let split : drop i path ≡ s ∷ drop (i + 1) path = drop_more path i s within ∙ ap (λ (x : PathStep). x ∷ drop (i + 1) path) (sym is_s) in
      ap (λ (p : List PathStep). leaves_array l component p) split

  -- an index within its array
  at_inside : i < length path → s ≡ get_or path i s → step_is_beyond l component s ≡ false → leaves_array l component (drop i path) ≡ holds_where_reached (path_end_by_step l component s) (λ to. leaves_array l to (drop (i + 1) path))
  at_inside within is_s inside = at_step within is_s ∙ ap (λ (b : Bool). b || holds_where_reached (path_end_by_step l component s) (λ to. leaves_array l to (drop (i + 1) path))) inside

  pub leaves_next : (next : ComponentAt) (w : PathEnd) → i < length path → s ≡ get_or path i s → step_is_beyond l component s ≡ false → w ≡ path_end_by_step l component s → w ≡ path_end.Reaches next →
      leaves_array l component (drop i path) ≡ whole → leaves_array l next (drop (i + 1) path) ≡ whole
  leaves_next next w within is_s inside is_w reaches so_far =
      ap (λ (x : PathEnd). holds_where_reached x (λ to. leaves_array l to (drop (i + 1) path))) (sym reaches ∙ is_w) ∙ sym (at_inside within is_s inside) ∙ so_far

  pub leaves_here : i < length path → s ≡ get_or path i s → step_is_beyond l component s ≡ true → leaves_array l component (drop i path) ≡ whole → true ≡ whole
  leaves_here within is_s beyond so_far =
      ap (λ (b : Bool). b || holds_where_reached (path_end_by_step l component s) (λ to. leaves_array l to (drop (i + 1) path))) (sym beyond) ∙ sym (at_step within is_s) ∙ so_far

  pub leaves_ends : (w : PathEnd) → i < length path → s ≡ get_or path i s → step_is_beyond l component s ≡ false → w ≡ path_end_by_step l component s → ((to : ComponentAt) → w ≡ path_end.Reaches to → ⊥) →
      leaves_array l component (drop i path) ≡ whole → false ≡ whole
  leaves_ends w within is_s inside is_w never so_far =
      sym (no_further w (λ to. leaves_array l to (drop (i + 1) path)) never) ∙ ap (λ (x : PathEnd). holds_where_reached x (λ to. leaves_array l to (drop (i + 1) path))) is_w
      ∙ sym (at_inside within is_s inside) ∙ so_far

  pub leaves_done : length path ≤ i → leaves_array l component (drop i path) ≡ whole → false ≡ whole
  leaves_done over so_far = ap (λ (p : List PathStep). leaves_array l component p) (sym (drop_of_length-le path over)) ∙ so_far
