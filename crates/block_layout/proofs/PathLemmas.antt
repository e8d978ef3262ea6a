-- Where a name behind a structure leads, found among the components that are kept of it.
use Rattle.std.proofs.Common.{ℕ, zero, suc, ◌≡◌, ◌+◌, List, [], ◌∷◌, Option, Some, refl, sym, ◌∙◌, ap, drop, get_or}
use Rattle.std.specs.List.{slice_get}
use Rattle.block_layout.specs.declared.cells.Cell.{Cell}
use Rattle.block_layout.specs.declared.members.Member.{Member}
use Rattle.block_layout.specs.Members.{component_of_name, members_of}
use Rattle.block_layout.specs.declared.blocks.BlockLayout.{BlockLayout}
use Rattle.block_layout.specs.declared.cells.Element.TheVariants.{Structure}
use Rattle.block_layout.specs.declared.path_ends.ComponentAt.{ComponentAt}
use Rattle.block_layout.specs.declared.path_ends.PathEnd.{PathEnd}
use Rattle.block_layout.specs.Paths.{cells_at, path_end_at_member, path_end_in_component}
use Rattle.block_layout.specs.NameLists.{IsNameList}
use Rattle.block_layout.specs.declared.members.NameList.{NameList}

pub members_from : (x y : Cell) (d behind : List Cell) (s t : NameList) → IsNameList y d t → s ≡ t → x ≡ y → behind ≡ d → s.members.items ≡ members_of (x.level + 1) 0 0 behind
members_from x y d behind s t name_list is_s is_x is_behind =
    ap (λ (z : NameList). z.members.items) is_s ∙ name_list.members ∙ ap (λ (c : Cell). members_of (c.level + 1) 0 0 d) (sym is_x) ∙ ap (λ (l : List Cell). members_of (x.level + 1) 0 0 l) (sym is_behind)

pub got : (xs : List Cell) (i : ℕ) (c : Cell) → slice_get xs i ≡ Some c → get_or xs i c ≡ c
got [] i c e = refl
got (x ∷ xs) zero c e = cc
got (x ∷ xs) (suc i) c e = got xs i c e

pub named_structure : (l : List BlockLayout) (component : ComponentAt) (name : List ℕ) (c : Cell) (cells : List Cell) (found : Option Member) (r : PathEnd) → cells ≡ cells_at l component.block component.temporary →
    slice_get cells component.place ≡ Some c → ((d : Cell) → found ≡ component_of_name ((get_or cells component.place d).level + 1) 0 0 name (drop (component.place + 1) cells)) →
    r ≡ path_end_at_member cells component.block component.temporary (component.place + 1) component.offset found → c.of ≡ Structure → r ≡ path_end_in_component l component name c c.of
named_structure l component name c cells found r are there is_found is_r is_structure =
    let found_is : found ≡ component_of_name (c.level + 1) 0 0 name (drop (component.place + 1) cells) =
    is_found c ∙ ap (λ (x : Cell). component_of_name (x.level + 1) 0 0 name (drop (component.place + 1) cells)) (got cells component.place c there) in
    rw is_structure
    (is_r ∙ ap (λ (m : Option Member). path_end_at_member cells component.block component.temporary (component.place + 1) component.offset m) found_is
    ∙ ap (λ (l : List Cell). path_end_at_member l component.block component.temporary (component.place + 1) component.offset (component_of_name (c.level + 1) 0 0 name (drop (component.place + 1) l))) are)
