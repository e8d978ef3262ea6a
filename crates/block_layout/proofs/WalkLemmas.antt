-- Where a path leads, step by step, through sound components alone.
use Rattle.std.proofs.Common.{ℕ, ◌≡◌, ◌<◌, ◌≤◌, ◌+◌, List, ◌∷◌, Option, Some, None, Bool, true, false, nat_eq, if◌then◌else◌, refl, sym, ◌∙◌, ap, subst, length, drop, get_or}
use Rattle.std.specs.Prelude.{ℤ}
use Rattle.std.specs.List.{slice_get}
use Rattle.std.proofs.Math.ListN.{drop_of_length-le}
use Rattle.std.proofs.lemmas.List.{drop_more}
use Rattle.stl_ast.specs.declared.blocks.PathStep.{PathStep}
use Rattle.stl_ast.specs.declared.blocks.PathStep.TheVariants as step
use Rattle.stl_ast.specs.declared.declarations.Bounds.{Bounds}
use Rattle.block_layout.specs.declared.blocks.BlockLayout.{BlockLayout}
use Rattle.block_layout.specs.declared.cells.Cell.{Cell}
use Rattle.block_layout.specs.declared.cells.Element.{Element}
use Rattle.block_layout.specs.declared.cells.Element.TheVariants.{Plain, Structure, DateAndTime, Udt, Unknown}
use Rattle.block_layout.specs.declared.members.Member.{Member}
use Rattle.block_layout.specs.declared.path_ends.ComponentAt.{ComponentAt}
use Rattle.block_layout.specs.declared.path_ends.PathEnd.{PathEnd}
use Rattle.block_layout.specs.declared.path_ends.PathEnd.TheVariants as path_end
use Rattle.block_layout.specs.Members.{component_of_name}
use Rattle.block_layout.specs.Paths.{IsSoundAt, ReachesSound, cells_at, path_end_at_cell, path_end_at_member, path_end_and_then, path_end_by_index, path_end_behind_index, is_beyond, path_end_by_name, path_end_behind_name, path_end_in_component, outermost_path_end, path_end_by_step, path_end_behind, path_end_in_bounds}

if_entered : (l : List BlockLayout) (block : ℕ) (temporary : Bool) (place offset : ℕ) (c : Cell) (sound : Bool) → c.sound ≡ sound → slice_get (cells_at l block temporary) place ≡ Some c →
    ReachesSound l (if sound then path_end.Reaches (record { block = block; temporary = temporary; place = place; depth = 0; offset = offset }) else path_end.Unjudged)
if_entered l block temporary place offset c true is there = λ d e. (let same : c ≡ d = cc in subst (λ (x : Cell). x.sound ≡ true) same is)
if_entered l block temporary place offset c false is there = tt

at_entered : (l : List BlockLayout) (block : ℕ) (temporary : Bool) (place offset : ℕ) (o : Option Cell) → slice_get (cells_at l block temporary) place ≡ o → ReachesSound l (path_end_at_cell block temporary place offset o)
at_entered l block temporary place offset None there = tt
at_entered l block temporary place offset (Some c) there = if_entered l block temporary place offset c c.sound refl there

found_sound : (l : List BlockLayout) (block : ℕ) (temporary : Bool) (first offset : ℕ) (o : Option Member) → ReachesSound l (path_end_at_member (cells_at l block temporary) block temporary first offset o)
found_sound l block temporary first offset None = tt
found_sound l block temporary first offset (Some m) = at_entered l block temporary (first + m.place) _ (slice_get (cells_at l block temporary) (first + m.place)) refl

pub outermost_sound : (l : List BlockLayout) (block : ℕ) (temporary : Bool) (offset : ℕ) (name : List ℕ) → ReachesSound l (outermost_path_end l block temporary offset name)
unfolding outermost_path_end
outermost_sound l block temporary offset name = found_sound l block temporary 0 offset (component_of_name 0 0 0 name (cells_at l block temporary))

pub outermost_reaches : (l : List BlockLayout) (block : ℕ) (temporary : Bool) (offset : ℕ) (name : List ℕ) (w : PathEnd) → w ≡ outermost_path_end l block temporary offset name → ReachesSound l w
outermost_reaches l block temporary offset name w is = subst (λ (x : PathEnd). ReachesSound l x) (sym is) (outermost_sound l block temporary offset name)

in_sound : (l : List BlockLayout) (component : ComponentAt) (name : List ℕ) (c : Cell) (of : Element) → ReachesSound l (path_end_in_component l component name c of)
in_sound l component name c (Plain kind) = tt
in_sound l component name c Structure = found_sound l component.block component.temporary (component.place + 1) component.offset _
in_sound l component name c DateAndTime = tt
in_sound l component name c (Udt block bits) = outermost_sound l block false component.offset name
in_sound l component name c Unknown = tt

if_sound : (l : List BlockLayout) (t : Bool) (v w : PathEnd) → ReachesSound l v → ReachesSound l w → ReachesSound l (if t then v else w)
if_sound l true v w a b = a
if_sound l false v w a b = b

behind_sound : (l : List BlockLayout) (component : ComponentAt) (name : List ℕ) (o : Option Cell) → ReachesSound l (path_end_behind_name l component name o)
behind_sound l component name None = tt
behind_sound l component name (Some c) = if_sound l (nat_eq component.depth (length c.bounds)) (path_end_in_component l component name c c.of) path_end.Unknown (in_sound l component name c c.of) tt

within_sound : (l : List BlockLayout) (component : ComponentAt) (c : Cell) (behind : List Cell) (at : ℤ) (o : Option Bounds) → IsSoundAt l component → ReachesSound l (path_end_in_bounds component c behind at o)
within_sound l component c behind at None sound = tt
within_sound l component c behind at (Some b) sound = if_sound l (is_beyond b at) _ _ sound sound

index_sound : (l : List BlockLayout) (component : ComponentAt) (cells : List Cell) (at : ℤ) (o : Option Cell) → IsSoundAt l component → ReachesSound l (path_end_behind_index component cells at o)
index_sound l component cells at None sound = tt
index_sound l component cells at (Some c) sound = within_sound l component c _ at _ sound

by_step : (l : List BlockLayout) (component : ComponentAt) (s : PathStep) → IsSoundAt l component → ReachesSound l (path_end_by_step l component s)
unfolding path_end_by_step path_end_by_name path_end_by_index
by_step l component (step.Named name) sound = behind_sound l component name _
by_step l component (step.Index at) sound = index_sound l component _ at _ sound

pub step_sound : (l : List BlockLayout) (component next : ComponentAt) (s : PathStep) (w : PathEnd) → IsSoundAt l component → w ≡ path_end_by_step l component s → w ≡ path_end.Reaches next → IsSoundAt l next
step_sound l component next s w sound is reaches = subst (λ (x : PathEnd). ReachesSound l x) (sym is ∙ reaches) (by_step l component s sound)

pub walk_next : (l : List BlockLayout) (component next : ComponentAt) (path : List PathStep) (i : ℕ) (s : PathStep) (w whole : PathEnd) → i < length path → s ≡ get_or path i s → w ≡ path_end_by_step l component s → w ≡ path_end.Reaches next →
    path_end_behind l component (drop i path) ≡ whole → path_end_behind l next (drop (i + 1) path) ≡ whole
walk_next l component next path i s w whole inside is_s is_w reaches so_far =
    let split : drop i path ≡ s ∷ drop (i + 1) path = drop_more path i s inside ∙ ap (λ (x : PathStep). x ∷ drop (i + 1) path) (sym is_s) in
    ap (λ (x : PathEnd). path_end_and_then x (λ to. path_end_behind l to (drop (i + 1) path))) (sym reaches ∙ is_w)
    ∙ ap (λ (p : List PathStep). path_end_behind l component p) (sym split) ∙ so_far

not_on : (w : PathEnd) (next : ComponentAt → PathEnd) → ((to : ComponentAt) → w ≡ path_end.Reaches to → ⊥) → path_end_and_then w next ≡ w
not_on (path_end.Reaches to) next never = absurd (never to refl)
not_on path_end.Unknown next never = refl
not_on path_end.Unjudged next never = refl

pub walk_ends : (l : List BlockLayout) (component : ComponentAt) (path : List PathStep) (i : ℕ) (s : PathStep) (w whole : PathEnd) → i < length path → s ≡ get_or path i s → w ≡ path_end_by_step l component s → ((to : ComponentAt) → w ≡ path_end.Reaches to → ⊥) →
    path_end_behind l component (drop i path) ≡ whole → w ≡ whole
walk_ends l component path i s w whole inside is_s is_w never so_far =
    let split : drop i path ≡ s ∷ drop (i + 1) path = drop_more path i s inside ∙ ap (λ (x : PathStep). x ∷ drop (i + 1) path) (sym is_s) in
    sym (not_on w (λ to. path_end_behind l to (drop (i + 1) path)) never)
    ∙ ap (λ (x : PathEnd). path_end_and_then x (λ to. path_end_behind l to (drop (i + 1) path))) is_w
    ∙ ap (λ (p : List PathStep). path_end_behind l component p) (sym split) ∙ so_far

pub walk_done : (l : List BlockLayout) (component : ComponentAt) (path : List PathStep) (i : ℕ) (whole : PathEnd) → length path ≤ i → path_end_behind l component (drop i path) ≡ whole → path_end.Reaches component ≡ whole
walk_done l component path i whole over so_far = ap (λ (p : List PathStep). path_end_behind l component p) (sym (drop_of_length-le path over)) ∙ so_far

pub goes_to : (w : PathEnd) (next : ComponentAt → PathEnd) (to : ComponentAt) → w ≡ path_end.Reaches to → path_end_and_then w next ≡ next to
goes_to w next to is = ap (λ (x : PathEnd). path_end_and_then x next) is
