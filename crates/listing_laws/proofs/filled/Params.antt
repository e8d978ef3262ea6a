-- Parameters that lie where the cells of a structure do, and what the source writes: within them, or behind them all.
use Rattle.std.proofs.Common.{◌≡◌, ℕ, suc, ◌+◌, ◌*◌, ◌/◌, ◌%◌, ◌<◌, ◌≤◌, ◌⊎◌, inl, inr, Bool, true, false, ◌&&◌, List, [], ◌∷◌, ◌++◌, append-nil, map, Option, Some, None, refl, sym, ap, subst, ◌∙◌, arith}
use Rattle.std.specs.Prelude.{if◌then◌else◌, nat_eq, nat_lt, slice_get}
use Rattle.std.specs.List.{AllByRecursion}
use Rattle.std.specs.Str.{bytes_eq}
use Rattle.std.proofs.lemmas.Bool.{eq-eqb}
use Rattle.plc_base.proofs.ListLemmas.{all_append}
use Rattle.plc_base.specs.Widths.{bit_count}
use Rattle.flat_code.specs.declared.programs.Param.{Param}
use Rattle.stl_ast.specs.declared.blocks.PathStep.{PathStep}
use Rattle.stl_ast.specs.declared.blocks.PathStep.TheVariants as step
use Rattle.stl_ast.specs.declared.declarations.Simple.{Simple}
use Rattle.stl_ast.specs.declared.literals.Literal.{Literal}
use Rattle.block_layout.specs.Fits.{bits_of}
use Rattle.block_layout.specs.InitialBytes.{Write, component_starts, cell_writes, component_writes, element_starts, preset_values, setting_write, type_writes, write_of, writes_at, writes_from}
use Rattle.block_layout.specs.ListedParameters.{AreAlike, CellNamesDiffer, IsElementary, offset_of_member}
use Rattle.block_layout.specs.Members.{component_of_name}
use Rattle.block_layout.specs.Paths.{cells_at, path_end_at_member, path_end_and_then, outermost_path_end, path_end_behind, path_end_in_block}
use Rattle.block_layout.specs.RebuiltBytes.{OneReaches, Reaches}
use Rattle.block_layout.specs.Sizes.{alignment, capped_size, cell_bits, element_of, components_end, largest_size, plain_bits, end_behind_cell, next_multiple}
use Rattle.block_layout.specs.declared.blocks.BlockLayout.{BlockLayout}
use Rattle.block_layout.specs.declared.cells.Cell.{Cell}
use Rattle.block_layout.specs.declared.cells.Element.TheVariants.{Plain}
use Rattle.block_layout.specs.declared.members.Member.{Member}
use Rattle.block_layout.specs.declared.path_ends.ComponentAt.{ComponentAt}
use Rattle.block_layout.specs.declared.path_ends.PathEnd.{PathEnd}
use Rattle.block_layout.specs.declared.path_ends.PathEnd.TheVariants as path_end
use Rattle.block_layout.proofs.AlignmentLemmas.{here_within}
use Rattle.sem_kept.proofs.accepted.RecordParams.{end_step, found_here, never_less, passed_by, past_behind}
use Rattle.listing_laws.proofs.declared.Placed.{AreSame, Finds, align, alignment_is, bits_is, finds_later, next, plain_width, stepped_is}
use Rattle.listing_laws.proofs.filled.Behind.{Behind, FirstBehind, LeadsBehind, entered_behind, path_behind, rest_component, rest_writes, write_behind}
use Rattle.listing_laws.proofs.filled.Reached.{reach_behind, same_reach}
use Rattle.listing_laws.proofs.filled.Components.{entered_sound, kind_there, named_here, no_step, outer_component}

some_same : (m n : Member) → Some m ≡ Some n → m ≡ n
some_same m n e = cc

plus_none : (n : ℕ) → n ≡ n + 0
plus_none n = omega arith

-- ---- parameters and cells

-- a parameter lies where a cell does that may begin at a place
pub record IsPlaced (at : ℕ) (c : Cell) (p : Param) : Type 0 where
  pub kind : Simple
  pub cell : IsElementary c kind
  pub width : plain_bits kind ≡ bit_count p.width
  pub offset : next_multiple at (alignment c) ≡ 8 * p.byte + p.bit
  pub bit : p.bit < 8

-- where the cell behind it may begin
abbrev pub past_cell : (at : ℕ) → Cell → ℕ
past_cell at c = end_behind_cell 0 at c (cell_bits c [])

abbrev pub ArePlaced : (at : ℕ) → List Cell → List Param → Type 0
ArePlaced at [] [] = Unit {0}
ArePlaced at (c ∷ cs) (p ∷ ps) = IsPlaced at c p × ArePlaced (past_cell at c) cs ps
ArePlaced at _ _ = ⊥

-- what stands behind an elementary cell doesn't move it
pub past_any : (at : ℕ) (c : Cell) (cs : List Cell) (kind : Simple) → IsElementary c kind → end_behind_cell 0 at c (cell_bits c cs) ≡ past_cell at c
past_any at c cs kind h = ap (end_behind_cell 0 at c) (bits_is c cs kind h ∙ sym (bits_is c [] kind h))

pub end_past : (at : ℕ) (c : Cell) (cs : List Cell) (kind : Simple) → IsElementary c kind → components_end 0 at (c ∷ cs) ≡ components_end 0 (past_cell at c) cs
end_past at c cs kind h = end_step at c cs ∙ ap (λ n. components_end 0 n cs) (past_any at c cs kind h)

pub past_near : (at : ℕ) (c : Cell) → at ≤ largest_size → past_cell at c ≤ largest_size
past_near at c near = (past_behind at c (cell_bits c []) near).1

-- an elementary cell begins before the end
begins_near : (at : ℕ) (c : Cell) (cs : List Cell) (kind : Simple) → IsElementary c kind → at ≤ largest_size → components_end 0 at (c ∷ cs) < largest_size → next_multiple at (alignment c) ≤ largest_size
begins_near at c cs kind h near short =
    let inside = here_within 0 at c cs near (never_less c.level) (eq-eqb c.level 0 h.level) h.sound short in
    sums (next_multiple at (alignment c)) (cell_bits c cs) (components_end 0 at (c ∷ cs)) inside short
  where
    sums : (offset bits end : ℕ) → offset + bits ≤ end → end < largest_size → offset ≤ largest_size
    sums offset bits end e f = omega (arith, e, f)

by_bits : (n byte bit : ℕ) → byte ≡ n / 8 → bit ≡ n % 8 → n ≡ 8 * byte + bit
by_bits n byte bit e f = omega (arith, e, f)

few_bits : (n bit : ℕ) → bit ≡ n % 8 → bit < 8
few_bits n bit e = omega (arith, e)

pub placed_from : (look : List ℕ → ℕ) (at place : ℕ) (cs vs : List Cell) (ps : List Param) (ds : List Cell) → CellNamesDiffer cs → AreSame look cs ps ds → Finds look at place (cs ++ vs) cs
    → ArePlaced at cs ps
placed_from look at place [] vs [] [] apart h found = tt
placed_from look at place [] vs [] (d ∷ ds) apart h found = absurd h
placed_from look at place [] vs (p ∷ ps) [] apart h found = absurd h
placed_from look at place [] vs (p ∷ ps) (d ∷ ds) apart h found = absurd h
placed_from look at place (c ∷ cs) vs [] [] apart h found = absurd h
placed_from look at place (c ∷ cs) vs [] (d ∷ ds) apart h found = absurd h
placed_from look at place (c ∷ cs) vs (p ∷ ps) [] apart h found = absurd h
placed_from look at place (c ∷ cs) vs (p ∷ ps) (d ∷ ds) apart (one, more) found =
    let is = one.alike.first in
    let offset : look c.name ≡ next_multiple at (alignment c) = found.0 ∙ ap offset_of_member (found_here at place c (cs ++ vs) is.level) in
    let n = next_multiple at (alignment c) in
    let byte : p.byte ≡ n / 8 = one.byte ∙ ap (λ k. k / 8) offset in
    let bit : p.bit ≡ n % 8 = one.bit ∙ ap (λ k. k % 8) offset in
    let further = placed_from look (next at c.opens (plain_bits one.alike.kind)) (place + 1) cs vs ps ds apart.1 more (finds_later look at place c one.alike.kind (cs ++ vs) cs is apart.0 found.1) in (
      record {
        kind = one.alike.kind;
        cell = is;
        width = one.alike.bits ∙ plain_width one.alike.other ∙ ap bit_count one.width;
        offset = by_bits n p.byte p.bit byte bit;
        bit = few_bits n p.bit bit;
      },
      subst (λ k. ArePlaced k cs ps) (sym (stepped_is at c [] one.alike.kind is)) further,
    )

-- those that are alike lie alike
pub placed_alike : (at : ℕ) (cs ds : List Cell) (ps : List Param) → AreAlike cs ds → ArePlaced at cs ps → ArePlaced at ds ps
placed_alike at [] [] [] alike h = tt
placed_alike at [] [] (p ∷ ps) alike h = absurd h
placed_alike at [] (d ∷ ds) ps alike h = absurd alike
placed_alike at (c ∷ cs) [] ps alike h = absurd alike
placed_alike at (c ∷ cs) (d ∷ ds) [] alike h = absurd h
placed_alike at (c ∷ cs) (d ∷ ds) (p ∷ ps) (one, others) (here, more) =
    let aligned : alignment d ≡ alignment c =
    alignment_is d one.other one.second ∙ (λ i. align (sym one.opens i) (sym one.bits i)) ∙ sym (alignment_is c one.kind one.first) in
    let step : past_cell at c ≡ past_cell at d =
    stepped_is at c [] one.kind one.first ∙ (λ i. next at (one.opens i) (one.bits i)) ∙ sym (stepped_is at d [] one.other one.second) in
    let same_kind : plain_bits one.kind ≡ plain_bits here.kind = sym (bits_is c [] one.kind one.first) ∙ bits_is c [] here.kind here.cell in (
      record {
        kind = one.other;
        cell = one.second;
        width = sym one.bits ∙ same_kind ∙ here.width;
        offset = ap (next_multiple at) aligned ∙ here.offset;
        bit = here.bit;
      },
      placed_alike (past_cell at d) cs ds ps others (subst (λ k. ArePlaced k cs ps) step more),
    )

-- a parameter ends within so many bits
pub record IsWithin (limit : ℕ) (p : Param) : Type 0 where
  pub within : 8 * p.byte + p.bit + bit_count p.width ≤ limit

pub placed_within : (limit at : ℕ) (cs : List Cell) (ps : List Param) → limit < largest_size → at ≤ largest_size → components_end 0 at cs ≤ limit → ArePlaced at cs ps → AllByRecursion (IsWithin limit) ps
placed_within limit at [] [] small near short h = tt
placed_within limit at [] (p ∷ ps) small near short h = absurd h
placed_within limit at (c ∷ cs) [] small near short h = absurd h
placed_within limit at (c ∷ cs) (p ∷ ps) small near short (one, more) =
    let inside = here_within 0 at c cs near (never_less c.level) (eq-eqb c.level 0 one.cell.level) one.cell.sound (omega (arith, small, short)) in
    let bits = bits_is c cs one.kind one.cell in (
      record { within = sums (next_multiple at (alignment c)) (cell_bits c cs) (8 * p.byte + p.bit) (bit_count p.width) (components_end 0 at (c ∷ cs)) one.offset (bits ∙ one.width) inside short },
      placed_within limit (past_cell at c) cs ps small (past_near at c near) (subst (λ n. n ≤ limit) (end_past at c cs one.kind one.cell) short) more,
    )
  where
    sums : (offset bits place width end : ℕ) → offset ≡ place → bits ≡ width → offset + bits ≤ end → end ≤ limit → place + width ≤ limit
    sums offset bits place width end e f g h = omega (arith, e, f, g, h)

-- ---- writes within parameters or behind them

-- a write of all bits of a parameter
abbrev pub bare : Param → Write
bare p = record { offset = 8 * p.byte + p.bit; width = bit_count p.width; value = 0 }

-- a write reaches only what a parameter does, or what lies from a byte on
abbrev pub IsIn : List Param → (start : ℕ) → Write → Type 0
IsIn ps start w = (j i : ℕ) → Reaches w j i → OneReaches (map bare ps) j i ⊎ (start ≤ j)

in_more : (p : Param) (ps : List Param) (start : ℕ) (w : Write) → IsIn ps start w → IsIn (p ∷ ps) start w
in_more p ps start w h j i r = by (h j i r)
  where
    by : OneReaches (map bare ps) j i ⊎ (start ≤ j) → OneReaches (map bare (p ∷ ps)) j i ⊎ (start ≤ j)
    by (inl one) = inl (inr one)
    by (inr behind) = inr behind

all_more : (p : Param) (ps : List Param) (start : ℕ) (ws : List Write) → AllByRecursion (IsIn ps start) ws → AllByRecursion (IsIn (p ∷ ps) start) ws
all_more p ps start [] h = tt
all_more p ps start (w ∷ ws) (one, more) = (in_more p ps start w one, all_more p ps start ws more)

pub all_behind : (ps : List Param) (start : ℕ) (ws : List Write) → Behind (8 * start) ws → AllByRecursion (IsIn ps start) ws
all_behind ps start [] h = tt
all_behind ps start (w ∷ ws) (one, more) = (λ j i r. inr (reach_behind w start j i one r), all_behind ps start ws more)

-- a write at the place of a parameter, as wide
in_parameter : (p : Param) (ps : List Param) (start : ℕ) (w : Write) → w.offset ≡ 8 * p.byte + p.bit → w.width ≡ bit_count p.width → IsIn (p ∷ ps) start w
in_parameter p ps start w offset width j i r = inl (inl (same_reach w (bare p) j i offset width r))

module _ (l : List BlockLayout) (start : ℕ) (near : 8 * start ≤ largest_size) where
  one_written : (of_type : ℕ → List ℕ → List Write) (at : ℕ) (c : Cell) (cs : List Cell) (p : Param) (ps : List Param) → IsPlaced at c p → next_multiple at (alignment c) ≤ largest_size
      → AllByRecursion (IsIn (p ∷ ps) start) (cell_writes (λ inner. writes_from of_type (c.level + 1) inner 0 cs) of_type 0 at (0 ∷ []) c (element_of c cs))
  one_written of_type at c cs p ps h few = by (c.sound && nat_eq c.level 0)
    where
      inside : List ℕ → List Write
      inside = λ inner. writes_from of_type (c.level + 1) inner 0 cs

      offset : capped_size (0 + next_multiple at (alignment c)) ≡ 8 * p.byte + p.bit
      offset = uncapped (next_multiple at (alignment c)) few ∙ h.offset
        where
          uncapped : (n : ℕ) → n ≤ largest_size → capped_size (0 + n) ≡ n
          uncapped n k = omega (arith, k)

      zipped : (s : ℕ) (values : List ℕ) → s ≡ 8 * p.byte + p.bit → AllByRecursion (IsIn (p ∷ ps) start) (writes_at (plain_bits h.kind) (s ∷ []) values)
      zipped s [] e = tt
      zipped s (v ∷ vs) e = (in_parameter p ps start (record { offset = s; width = plain_bits h.kind; value = v }) e h.width, tt)

      plain : AllByRecursion (IsIn (p ∷ ps) start) (component_writes inside of_type c (element_of c cs) (component_starts at c (0 ∷ [])) (Plain h.kind))
      plain =
          subst (AllByRecursion (IsIn (p ∷ ps) start))
          (sym (append-nil _ ∙ ap (λ bounds. writes_at (plain_bits h.kind) (element_starts bounds (element_of c cs) (capped_size (0 + next_multiple at (alignment c)) ∷ [])) (preset_values c.presets)) h.cell.bounds))
          (zipped (capped_size (0 + next_multiple at (alignment c))) (preset_values c.presets) offset)

      by : (t : Bool) → AllByRecursion (IsIn (p ∷ ps) start) (if t then component_writes inside of_type c (element_of c cs) (component_starts at c (0 ∷ [])) c.of else [])
      by true = subst (λ of. AllByRecursion (IsIn (p ∷ ps) start) (component_writes inside of_type c (element_of c cs) (component_starts at c (0 ∷ [])) of)) (sym h.cell.of) plain
      by false = tt

  -- what the parameters and the cells behind them write
  pub structure_in : (depth at : ℕ) (cs rest : List Cell) (ps : List Param) → ArePlaced at cs ps → at ≤ largest_size → components_end 0 at cs < largest_size → FirstBehind (8 * start) (components_end 0 at cs) rest
      → AllByRecursion (IsIn ps start) (writes_from (type_writes l depth) 0 (0 ∷ []) at (cs ++ rest))
  unfolding components_end
  structure_in depth at [] rest [] h few short first = all_behind [] start (writes_from (type_writes l depth) 0 (0 ∷ []) at rest) (rest_writes (8 * start) near l depth at rest few first)
  structure_in depth at [] rest (p ∷ ps) h few short first = absurd h
  structure_in depth at (c ∷ cs) rest [] h few short first = absurd h
  structure_in depth at (c ∷ cs) rest (p ∷ ps) (one, more) few short first =
      by (nat_lt c.level 0)
      (subst (λ n. AllByRecursion (IsIn ps start) (writes_from of_type 0 (0 ∷ []) n (cs ++ rest))) (sym (past_any at c (cs ++ rest) one.kind one.cell))
      (structure_in depth (past_cell at c) cs rest ps more (past_near at c few) (subst (λ n. n < largest_size) end short) (subst (λ n. FirstBehind (8 * start) n rest) end first)))
    where
      of_type : ℕ → List ℕ → List Write
      of_type = type_writes l depth

      end : components_end 0 at (c ∷ cs) ≡ components_end 0 (past_cell at c) cs
      end = end_past at c cs one.kind one.cell

      begins : next_multiple at (alignment c) ≤ largest_size
      begins = begins_near at c cs one.kind one.cell few short

      next_place : ℕ
      next_place = end_behind_cell 0 at c (cell_bits c (cs ++ rest))

      here : List Write
      here = cell_writes (λ inner. writes_from of_type (c.level + 1) inner 0 (cs ++ rest)) of_type 0 at (0 ∷ []) c (element_of c (cs ++ rest))

      by : (t : Bool) → AllByRecursion (IsIn ps start) (writes_from of_type 0 (0 ∷ []) next_place (cs ++ rest))
          → AllByRecursion (IsIn (p ∷ ps) start) (if t then [] else here ++ writes_from of_type 0 (0 ∷ []) next_place (cs ++ rest))
      by true k = tt
      by false k =
          all_append (IsIn (p ∷ ps) start) here (writes_from of_type 0 (0 ∷ []) next_place (cs ++ rest)) (one_written of_type at c (cs ++ rest) p ps one begins)
          (all_more p ps start (writes_from of_type 0 (0 ∷ []) next_place (cs ++ rest)) k)

  -- ---- settings of the source

  -- what a name finds: an elementary cell at the place of a parameter, or what lies behind
  data IsFound (ps : List Param) (place : ℕ) (cells : List Cell) (m : Member) : Type 0 where
    Parameter : (k : ℕ) (c : Cell) (kind : Simple) → m.place ≡ place + k → slice_get cells k ≡ Some c → IsElementary c kind → m.offset ≤ largest_size
        → ((w : Write) → w.offset ≡ m.offset → w.width ≡ plain_bits kind → IsIn ps start w) → IsFound ps place cells m
    Other : 8 * start ≤ m.offset → IsFound ps place cells m

  found_later : (p : Param) (ps : List Param) (place : ℕ) (c : Cell) (cells : List Cell) (m : Member) → IsFound ps (place + 1) cells m → IsFound (p ∷ ps) place (c ∷ cells) m
  found_later p ps place c cells m (Parameter k d kind at there is few each) =
      Parameter (suc k) d kind (omega (arith, at)) there is few (λ w offset width. in_more p ps start w (each w offset width))
  found_later p ps place c cells m (Other low) = Other low

  name_found : (at place : ℕ) (cs rest : List Cell) (ps : List Param) (name : List ℕ) (m : Member) → ArePlaced at cs ps → at ≤ largest_size → components_end 0 at cs < largest_size
      → FirstBehind (8 * start) (components_end 0 at cs) rest → component_of_name 0 at place name (cs ++ rest) ≡ Some m → IsFound ps place (cs ++ rest) m
  unfolding components_end
  name_found at place [] rest [] name m h few short first e = Other (rest_component (8 * start) near at place name rest m few first e)
  name_found at place [] rest (p ∷ ps) name m h few short first e = absurd h
  name_found at place (c ∷ cs) rest [] name m h few short first e = absurd h
  name_found at place (c ∷ cs) rest (p ∷ ps) name m (one, more) few short first e =
      by (nat_eq c.level 0 && bytes_eq name c.name) refl
      (λ k. name_found (past_cell at c) (place + 1) cs rest ps name m more (past_near at c few) (subst (λ n. n < largest_size) end short) (subst (λ n. FirstBehind (8 * start) n rest) end first) k)
    where
      end : components_end 0 at (c ∷ cs) ≡ components_end 0 (past_cell at c) cs
      end = end_past at c cs one.kind one.cell

      begins : next_multiple at (alignment c) ≤ largest_size
      begins = begins_near at c cs one.kind one.cell few short

      by : (t : Bool) → (nat_eq c.level 0 && bytes_eq name c.name) ≡ t → (component_of_name 0 (past_cell at c) (place + 1) name (cs ++ rest) ≡ Some m → IsFound ps (place + 1) (cs ++ rest) m)
          → IsFound (p ∷ ps) place (c ∷ cs ++ rest) m
      by true is later =
          let here : component_of_name 0 at place name (c ∷ cs ++ rest) ≡ Some (record { place = place; offset = next_multiple at (alignment c) }) = named_here at place name c (cs ++ rest) is in
          let same : record { place = place; offset = next_multiple at (alignment c) } ≡ m = some_same _ m (sym here ∙ e) in
          let offset : m.offset ≡ next_multiple at (alignment c) = sym (ap (λ (x : Member). x.offset) same) in
          Parameter 0 c one.kind (sym (ap (λ (x : Member). x.place) same) ∙ plus_none place) refl one.cell (subst (λ n. n ≤ largest_size) (sym offset) begins)
          (λ w at_ width. in_parameter p ps start w (at_ ∙ offset ∙ one.offset) (width ∙ one.width))
      by false other later =
          found_later p ps place c (cs ++ rest) m
          (later (ap (λ n. component_of_name 0 n (place + 1) name (cs ++ rest)) (sym (past_any at c (cs ++ rest) one.kind one.cell)) ∙ sym (passed_by at place name c (cs ++ rest) other) ∙ e))

  -- a path of the source
  pub path_in : (block : ℕ) (cs rest : List Cell) (ps : List Param) (value : Literal) (path : List PathStep) → cells_at l block false ≡ cs ++ rest → ArePlaced 0 cs ps → components_end 0 0 cs < largest_size
      → FirstBehind (8 * start) (components_end 0 0 cs) rest → AllByRecursion (IsIn ps start) (setting_write l value (path_end_in_block l block false path))
  unfolding outermost_path_end
  path_in block cs rest ps value [] are h short first = tt
  path_in block cs rest ps value (step.Index at ∷ ss) are h short first = tt
  path_in block cs rest ps value (step.Named name ∷ ss) are h short first = by (component_of_name 0 0 0 name cells) refl
    where
      cells : List Cell
      cells = cells_at l block false

      behind : (e : PathEnd) → LeadsBehind (8 * start) e → AllByRecursion (IsIn ps start) (setting_write l value (path_end_and_then e (λ component. path_end_behind l component ss)))
      behind (path_end.Reaches component) k = all_behind ps start (setting_write l value (path_end_behind l component ss)) (write_behind (8 * start) near l value (path_end_behind l component ss) (path_behind (8 * start) near l component ss k))
      behind path_end.Unknown k = tt
      behind path_end.Unjudged k = tt

      low : (m : Member) → 8 * start ≤ m.offset → 8 * start ≤ capped_size (0 + capped_size m.offset)
      low m k = omega (arith, near, k)

      at_parameter : (component : ComponentAt) (c : Cell) (kind : Simple) → slice_get (cells_at l component.block component.temporary) component.place ≡ Some c → component.depth ≡ 0 → IsElementary c kind
          → ((w : Write) → w.offset ≡ component.offset → w.width ≡ plain_bits kind → IsIn ps start w) → (steps : List PathStep)
          → AllByRecursion (IsIn ps start) (setting_write l value (path_end_behind l component steps))
      at_parameter component c kind there depth is each [] =
          subst (λ o. AllByRecursion (IsIn ps start) (write_of component.offset (bits_of value) o)) (sym (kind_there l component c kind there is depth))
          (each (record { offset = component.offset; width = plain_bits kind; value = bits_of value }) refl refl, tt)
      at_parameter component c kind there depth is each (s ∷ steps) =
          subst (λ e. AllByRecursion (IsIn ps start) (setting_write l value (path_end_and_then e (λ next. path_end_behind l next steps)))) (sym (no_step l component c kind there is s)) tt

      lies : (m : Member) → IsFound ps 0 (cs ++ rest) m → AllByRecursion (IsIn ps start) (setting_write l value (path_end_and_then (path_end_at_member cells block false 0 0 (Some m)) (λ component. path_end_behind l component ss)))
      lies m (Other k) = behind (path_end_at_member cells block false 0 0 (Some m)) (entered_behind (8 * start) near block false (0 + m.place) (capped_size (0 + capped_size m.offset)) (slice_get cells (0 + m.place)) (low m k))
      lies m (Parameter k c kind at there is few each) =
          let here : slice_get cells k ≡ Some c = ap (λ cells. slice_get cells k) are ∙ there in
          let place : m.place ≡ k = omega (arith, at) in
          subst (λ e. AllByRecursion (IsIn ps start) (setting_write l value (path_end_and_then e (λ component. path_end_behind l component ss)))) (sym (entered_sound cells block k m c place here is.sound few))
          (at_parameter (outer_component block k m.offset) c kind here refl is each ss)

      by : (o : Option Member) → component_of_name 0 0 0 name cells ≡ o → AllByRecursion (IsIn ps start) (setting_write l value (path_end_and_then (path_end_at_member cells block false 0 0 o) (λ component. path_end_behind l component ss)))
      by None e = tt
      by (Some m) e = lies m (name_found 0 0 cs rest ps name m h (omega arith) short first (ap (component_of_name 0 0 0 name) (sym are) ∙ e))
