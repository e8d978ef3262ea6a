-- Where a name among the cells of a block leads, and what stands behind an elementary component.
use Rattle.std.proofs.Common.{◌≡◌, ℕ, ◌+◌, ◌≤◌, Bool, true, false, ◌&&◌, List, ◌∷◌, length, Some, None, refl, ap, ◌∙◌, arith}
use Rattle.std.specs.Prelude.{drop, if◌then◌else◌, nat_eq, slice_get}
use Rattle.std.specs.Str.{bytes_eq}
use Rattle.stl_ast.specs.declared.blocks.PathStep.{PathStep}
use Rattle.stl_ast.specs.declared.blocks.PathStep.TheVariants as step
use Rattle.stl_ast.specs.declared.declarations.Simple.{Simple}
use Rattle.block_layout.specs.ListedParameters.{IsElementary}
use Rattle.block_layout.specs.Members.{component_of_name}
use Rattle.block_layout.specs.Paths.{cells_at, elementary_at, path_end_at_cell, path_end_at_member, path_end_by_index, path_end_behind_index, kind_of, path_end_by_name, path_end_behind_name, path_end_in_component, plain_kind, path_end_by_step, path_end_in_bounds}
use Rattle.block_layout.specs.Sizes.{alignment, capped_size, largest_size, next_multiple}
use Rattle.block_layout.specs.declared.blocks.BlockLayout.{BlockLayout}
use Rattle.block_layout.specs.declared.cells.Cell.{Cell}
use Rattle.block_layout.specs.declared.members.Member.{Member}
use Rattle.block_layout.specs.declared.path_ends.ComponentAt.{ComponentAt}
use Rattle.block_layout.specs.declared.path_ends.PathEnd.TheVariants as path_end
use Rattle.sem_kept.proofs.accepted.RecordParams.{never_less}

pub named_here : (at place : ℕ) (name : List ℕ) (c : Cell) (cs : List Cell) → (nat_eq c.level 0 && bytes_eq name c.name) ≡ true
    → component_of_name 0 at place name (c ∷ cs) ≡ Some (record { place = place; offset = next_multiple at (alignment c) })
unfolding component_of_name
named_here at place name c cs is = let never = never_less c.level in rw never (rw is refl)

-- a component of a block that isn't one of a component
abbrev pub outer_component : (block place offset : ℕ) → ComponentAt
outer_component block place offset = record {
  block = block;
  temporary = false;
  place = place;
  depth = 0;
  offset = offset;
}

offset_uncapped : (n : ℕ) → n ≤ largest_size → capped_size (0 + capped_size n) ≡ n
offset_uncapped n h = omega (arith, h)

pub entered_sound : (cells : List Cell) (block place : ℕ) (m : Member) (c : Cell) → m.place ≡ place → slice_get cells place ≡ Some c → c.sound ≡ true → m.offset ≤ largest_size
    → path_end_at_member cells block false 0 0 (Some m) ≡ path_end.Reaches (outer_component block place m.offset)
entered_sound cells block place m c at there sound few =
    let same : 0 + m.place ≡ place = omega (arith, at) in
    (λ i. path_end_at_cell block false (same i) (offset_uncapped m.offset few i) (slice_get cells (same i)))
    ∙ ap (path_end_at_cell block false place m.offset) there
    ∙ ap (λ (t : Bool). if t then path_end.Reaches (outer_component block place m.offset) else path_end.Unjudged) sound

module _ (l : List BlockLayout) (component : ComponentAt) (c : Cell) (kind : Simple) (there : slice_get (cells_at l component.block component.temporary) component.place ≡ Some c) where
  -- no step leads on behind an elementary component
  pub no_step : IsElementary c kind → (s : PathStep) → path_end_by_step l component s ≡ path_end.Unknown
  unfolding path_end_by_step path_end_by_name path_end_by_index
  no_step h (step.Named name) = ap (path_end_behind_name l component name) there ∙ by (nat_eq component.depth (length c.bounds))
    where
      by : (t : Bool) → (if t then path_end_in_component l component name c c.of else path_end.Unknown) ≡ path_end.Unknown
      by true = ap (path_end_in_component l component name c) h.of
      by false = refl
  no_step h (step.Index at) =
      let cells = cells_at l component.block component.temporary in
      ap (path_end_behind_index component cells at) there ∙ ap (λ bounds. path_end_in_bounds component c (drop (component.place + 1) cells) at (slice_get bounds component.depth)) h.bounds

  pub kind_there : IsElementary c kind → component.depth ≡ 0 → elementary_at l component ≡ Some kind
  kind_there h depth =
      ap (kind_of component) there ∙ (λ i. if nat_eq (depth i) (length (h.bounds i)) then plain_kind c.of else None) ∙ ap plain_kind h.of
