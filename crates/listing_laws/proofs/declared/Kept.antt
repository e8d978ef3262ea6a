-- The declarations of a listed code block come to its parameters and lengths.
use Rattle.std.proofs.Common.{◌≡◌, ℕ, ◌+◌, ◌-◌, ◌*◌, ◌/◌, ◌%◌, ◌≤◌, ◌<◌, ◌^◌, Bool, true, false, max, List, [], ◌∷◌, ◌++◌, append-nil, append_assoc, length, length-append, map, flat_map, pos, None, refl, sym, ap, subst, ◌∙◌, arith}
use Rattle.std.specs.Prelude.{◌==◌, if◌then◌else◌}
use Rattle.std.specs.List.{AllByRecursion}
use Rattle.std.proofs.lemmas.Bool.{eqb-true}
use Rattle.std.proofs.lemmas.Bool.Decides.{nat_tests}
use Rattle.std.proofs.lemmas.Grind.{flat_map-append}
use Rattle.plc_base.proofs.ListLemmas.{all_append}
use Rattle.plc_base.specs.Kinds.{is_code, is_function, is_function_block}
use Rattle.plc_base.specs.declared.blocks.BlockKind.{BlockKind}
use Rattle.plc_base.specs.declared.blocks.BlockKind.TheVariants as kinds
use Rattle.plc_base.specs.Folding.{upper_case_name}
use Rattle.flat_code.specs.Records.{section_in, section_in_out, section_out}
use Rattle.flat_code.specs.Programs.{CodeBlock}
use Rattle.flat_code.specs.declared.programs.Param.{Param}
use Rattle.stl_ast.specs.Blocks.{is_parameter}
use Rattle.stl_ast.specs.declared.blocks.Block.{Block}
use Rattle.stl_ast.specs.declared.blocks.PartKind.{PartKind}
use Rattle.stl_ast.specs.declared.blocks.PartKind.TheVariants as part
use Rattle.stl_ast.specs.declared.declarations.Simple.{Simple}
use Rattle.block_layout.specs.Cells.{components_of, returned_cells, temps_of}
use Rattle.block_layout.specs.Lengths.{farthest_operand_end, is_structured, least_local, length_of_block, local_len}
use Rattle.block_layout.specs.ListedParameters.{AreAlike, CellNamesDiffer}
use Rattle.block_layout.specs.Offsets.{width_of}
use Rattle.block_layout.specs.Sizes.{capped_size, cell_bits, element_of, components_end, largest_size, structure_bits, next_multiple}
use Rattle.block_layout.specs.Types.{Types}
use Rattle.block_layout.specs.declared.blocks.BlockLayout.{BlockLayout}
use Rattle.block_layout.specs.declared.cells.Cell.{Cell}
use Rattle.block_layout.specs.declared.cells.Element.TheVariants.{Plain}
use Rattle.block_layout.proofs.ListedLemmas.{length_stays, offsets_stay}
use Rattle.stl_codegen.specs.GeneratedProgram.{param_at_bits, param_here, params_of, section_number}
use Rattle.stl_codegen.specs.Instruction.{return_last}
use Rattle.stl_types.specs.declared.parameters.Formal.{Formal}
use Rattle.stl_list.specs.CodeBlocks.{listed_block}
use Rattle.stl_list.specs.Sections.{static_bytes, static_len, static_name, static_start, temporary_name}
use Rattle.stl_list.specs.Signatures.{Signature, formals_of_block}
use Rattle.sem_kept.proofs.accepted.RecordParams.{end_behind, end_step}
use Rattle.listing_laws.specs.ListedDeclarations.{AreWide}
use Rattle.listing_laws.proofs.declared.Cells.{byte_cell, byte_cells, bytes_count, plain_cell, plain_cells}
use Rattle.listing_laws.proofs.declared.Groups.{AreListed, AreOf, Ends, HasGroups}
use Rattle.listing_laws.proofs.declared.Placed.{AreNamed, AreSame, alike_of, end_alike, end_append, end_near, look_in, named_append, named_apart, named_section, params_made, plain_length, same_append, same_section, static_is}
use Rattle.listing_laws.proofs.declared.Sections.{AreGrouped, IsLast, Nothing as NoLast, Returned as LastReturned, last_result, listed_cells, result_is}
use Rattle.listing_laws.proofs.declared.Sources.{Begins, HasSections, section_params}

-- ---- a block that is no function block

abbrev pub IsPlain : Param → Type 0
IsPlain p = (p.byte ≡ 0) × (p.bit ≡ 0)

plain_param : (kind : PartKind) (opens : Bool) (all : List Cell) (p : Param) (f : Formal) → is_parameter kind ≡ true → p.section ≡ section_number kind → IsPlain p → width_of f.kind ≡ p.width
    → param_here false all (plain_cell opens kind f) ≡ p ∷ []
plain_param kind opens all p f is section (byte, bit) wide =
    let s = sym section in
    let b = sym byte in
    let c = sym bit in
    ap (λ (t : Bool). if t then param_at_bits (section_number kind) (width_of f.kind) 0 ∷ [] else []) is
    ∙ (λ i. record { section = s i; width = wide i; byte = b i; bit = c i } ∷ [])

plain_later : (kind : PartKind) (all : List Cell) (ps : List Param) (fs : List Formal) → is_parameter kind ≡ true → AreOf (section_number kind) ps → AllByRecursion IsPlain ps → AreWide ps fs
    → flat_map (λ c. param_here false all c) (map (plain_cell false kind) fs) ≡ ps
plain_later kind all [] [] is h plain wide = refl
plain_later kind all [] (f ∷ fs) is h plain wide = absurd wide
plain_later kind all (p ∷ ps) [] is h plain wide = absurd wide
plain_later kind all (p ∷ ps) (f ∷ fs) is (one, more) (a, b) (w, ws) =
    let here = plain_param kind false all p f is one a w in
    let rest = plain_later kind all ps fs is more b ws in
    λ i. here i ++ rest i

plain_section : (kind : PartKind) (all : List Cell) (ps : List Param) (fs : List Formal) → is_parameter kind ≡ true → AreOf (section_number kind) ps → AllByRecursion IsPlain ps → AreWide ps fs
    → flat_map (λ c. param_here false all c) (plain_cells kind fs) ≡ ps
plain_section kind all [] [] is h plain wide = refl
plain_section kind all [] (f ∷ fs) is h plain wide = absurd wide
plain_section kind all (p ∷ ps) [] is h plain wide = absurd wide
plain_section kind all (p ∷ ps) (f ∷ fs) is (one, more) (a, b) (w, ws) =
    let here = plain_param kind true all p f is one a w in
    let rest = plain_later kind all ps fs is more b ws in
    λ i. here i ++ rest i

all_front : {A : Type 0} (P : A → Type 0) (xs ys : List A) → AllByRecursion P (xs ++ ys) → AllByRecursion P xs
all_front P [] ys h = tt
all_front P (x ∷ xs) ys (one, more) = (one, all_front P xs ys more)

all_back : {A : Type 0} (P : A → Type 0) (xs ys : List A) → AllByRecursion P (xs ++ ys) → AllByRecursion P ys
all_back P [] ys h = h
all_back P (x ∷ xs) ys (one, more) = all_back P xs ys more

-- the return value is declared first, and is the last parameter
last_made : (all rest : List Cell) (last : List Param) (fs : List Formal) (made_rest : List Param) → flat_map (λ c. param_here false all c) rest ≡ made_rest
    → AreOf 2 last → AllByRecursion IsPlain last → AreWide last fs → length last ≤ 1
    → return_last (last_result fs) (flat_map (λ c. param_here false all c) (returned_cells (last_result fs) ++ rest)) ≡ made_rest ++ last
last_made all rest [] [] made_rest e h plain wide few = e ∙ sym (append-nil made_rest)
last_made all rest [] (f ∷ fs) made_rest e h plain wide few = absurd wide
last_made all rest (r ∷ rs) [] made_rest e h plain wide few = absurd wide
last_made all rest (r ∷ q ∷ rs) (f ∷ fs) made_rest e h plain wide few = absurd (omega (arith, few))
last_made all rest (r ∷ []) (f ∷ fs) made_rest e (section, none) ((byte, bit), nothing) (w, ws) few =
    let s = sym section in
    let b = sym byte in
    let c = sym bit in
    let whole : param_at_bits 2 (width_of f.kind) 0 ≡ r = λ i. record { section = s i; width = w i; byte = b i; bit = c i } in
    λ i. e i ++ whole i ∷ []

-- one at most is behind
few_last : (fs : List Formal) (g : AreGrouped fs) (last : List Param) → AreWide last g.last → length last ≤ 1
few_last fs g last wide = by g.ends
  where
    one : (gs : List Formal) (f : Formal) (ps : List Param) → gs ≡ f ∷ [] → AreWide ps gs → length ps ≤ 1
    one gs f [] e w = omega arith
    one gs f (p ∷ []) e w = omega arith
    one gs f (p ∷ q ∷ ps) e w = absurd ((subst (AreWide (p ∷ q ∷ ps)) e w).1)

    none : (gs : List Formal) (ps : List Param) → gs ≡ [] → AreWide ps gs → length ps ≤ 1
    none gs [] e w = omega arith
    none gs (p ∷ ps) e w = absurd (subst (AreWide (p ∷ ps)) e w)

    by : IsLast g.last → length last ≤ 1
    by (NoLast e) = none g.last last e wide
    by (LastReturned f name e) = one g.last f last e wide

pub plain_params : (y : Types) (ss : List Signature) (reached : ℕ) (b : CodeBlock) (p : HasGroups (is_function b.id.kind) b.params) → is_function_block b.id.kind ≡ false
    → AllByRecursion IsPlain b.params → AreOf 2 p.last → (a : AreListed (is_function b.id.kind) b.params p (formals_of_block ss b.id))
    → (l : BlockLayout) → l.components ≡ components_of y (listed_block ss reached b) → params_of (listed_block ss reached b) l ≡ b.params
unfolding params_of
plain_params y ss reached b p other plain last a l e =
    let g = a.groups in
    let all = l.components in
    let f = λ (c : Cell). param_here false all c in
    let no_bytes : static_bytes b ≡ 0 = ap (λ (t : Bool). if t then static_len b.instance_len b.params else 0) other in
    let rest = plain_cells part.Input g.ins ++ (plain_cells part.Output g.outs ++ (plain_cells part.InOut g.both ++ [])) in
    let cells : all ≡ returned_cells (last_result g.last) ++ rest =
    e ∙ (listed_cells y ss reached b g).0
    ∙ ap (λ n. returned_cells (last_result g.last) ++ (plain_cells part.Input g.ins ++ (plain_cells part.Output g.outs ++ (plain_cells part.InOut g.both ++ byte_cells part.Static static_name n)))) no_bytes in
    let sound : AllByRecursion IsPlain (p.ins ++ (p.outs ++ (p.both ++ p.last))) = subst (AllByRecursion IsPlain) p.are plain in
    let sound_outs = all_back IsPlain p.ins (p.outs ++ (p.both ++ p.last)) sound in
    let sound_both = all_back IsPlain p.outs (p.both ++ p.last) sound_outs in
    let first = plain_section part.Input all p.ins g.ins refl p.input (all_front IsPlain p.ins (p.outs ++ (p.both ++ p.last)) sound) a.wide_ins in
    let second = plain_section part.Output all p.outs g.outs refl p.output (all_front IsPlain p.outs (p.both ++ p.last) sound_outs) a.wide_outs in
    let third = plain_section part.InOut all p.both g.both refl p.in_out (all_front IsPlain p.both p.last sound_both) a.wide_both in
    let parts : flat_map f rest ≡ p.ins ++ (p.outs ++ (p.both ++ [])) =
    flat_map-append f (plain_cells part.Input g.ins) (plain_cells part.Output g.outs ++ (plain_cells part.InOut g.both ++ []))
    ∙ ap (λ z. flat_map f (plain_cells part.Input g.ins) ++ z)
    (flat_map-append f (plain_cells part.Output g.outs) (plain_cells part.InOut g.both ++ [])
    ∙ ap (λ z. flat_map f (plain_cells part.Output g.outs) ++ z) (flat_map-append f (plain_cells part.InOut g.both) []))
    ∙ (λ i. first i ++ (second i ++ (third i ++ []))) in
    let back : (p.ins ++ (p.outs ++ (p.both ++ []))) ++ p.last ≡ b.params =
    ap (λ z. (p.ins ++ (p.outs ++ z)) ++ p.last) (append-nil p.both) ∙ append_assoc p.ins (p.outs ++ p.both) p.last
    ∙ ap (λ z. p.ins ++ z) (append_assoc p.outs p.both p.last) ∙ sym p.are in
    (λ i. return_last (result_is (formals_of_block ss b.id) g i) (flat_map (λ c. param_here (other i) all c) all))
    ∙ ap (λ z. return_last (last_result g.last) (flat_map f z)) cells
    ∙ last_made all rest p.last g.last (p.ins ++ (p.outs ++ (p.both ++ []))) parts last (all_back IsPlain p.both p.last sound_both) a.wide_last
    (few_last (formals_of_block ss b.id) g p.last a.wide_last)
    ∙ back

-- ---- local data

pub even : (n : ℕ) → n % 2 ≡ 0 → next_multiple (8 * n) 16 ≡ 8 * n
unfolding next_multiple
even n h = omega (arith, h)

pub size_uncapped : (n : ℕ) → n ≤ 131072 → capped_size n ≡ n
size_uncapped n h = grind (arith, nat_tests)

bytes_bits : (kind : PartKind) (name : List ℕ) (n : ℕ) → 0 < n → n % 2 ≡ 0 → n ≤ 16384 → cell_bits (byte_cell kind name n) [] ≡ 8 * n
unfolding element_of
bytes_bits kind name n some is_even short =
    let size = bytes_count n some in
    let whole : n * 8 ≡ 8 * n = omega arith in
    rw (size, whole, size_uncapped (8 * n) (omega (arith, short)), even n is_even, size_uncapped (8 * n) (omega (arith, short))) refl

pub up_from : (n : ℕ) → next_multiple 0 16 + n ≡ n
unfolding next_multiple
up_from n = omega arith

pub no_bytes_end : (n : ℕ) → n ≡ 0 → capped_size (next_multiple (components_end 0 0 []) 16) ≡ 8 * n
unfolding components_end next_multiple
no_bytes_end n z = omega (arith, z)

pub last_step : (at : ℕ) → components_end 0 at [] ≡ at
unfolding components_end
last_step at = refl

bytes_long : (kind : PartKind) (name : List ℕ) (n : ℕ) → n % 2 ≡ 0 → n ≤ 16384 → structure_bits (byte_cells kind name n) ≡ 8 * n
unfolding structure_bits
bytes_long kind name n is_even short = by (n == 0) refl
  where
    by : (t : Bool) → (n == 0) ≡ t → capped_size (next_multiple (components_end 0 0 (if t then [] else byte_cell kind name n ∷ [])) 16) ≡ 8 * n
    by true e = no_bytes_end n (eqb-true n 0 e)
    by false e =
        let some : 0 < n = grind (arith, nat_tests) in
        let end : components_end 0 0 (byte_cell kind name n ∷ []) ≡ 8 * n =
        end_step 0 (byte_cell kind name n) [] ∙ last_step (capped_size (next_multiple 0 16 + cell_bits (byte_cell kind name n) []))
        ∙ ap (λ m. capped_size (next_multiple 0 16 + m)) (bytes_bits kind name n some is_even short) ∙ ap capped_size (up_from (8 * n)) ∙ size_uncapped (8 * n) (omega (arith, short)) in
        ap (λ m. capped_size (next_multiple m 16)) end ∙ ap capped_size (even n is_even) ∙ size_uncapped (8 * n) (omega (arith, short))

up_even : (n far least : ℕ) → n % 2 ≡ 0 → far ≤ n → least ≤ n → max least (next_multiple (max (8 * n / 8) far) 2) ≡ n
unfolding next_multiple
up_even n far least is_even h k = omega (arith, is_even, h, k)

-- the local data are as long, where no direct operand lies behind them
pub local_kept : (y : Types) (ss : List Signature) (reached : ℕ) (b : CodeBlock) (g : AreGrouped (formals_of_block ss b.id)) → is_code b.id.kind ≡ true → b.local_len % 2 ≡ 0 → b.local_len ≤ 16384
    → least_local b.id.kind ≤ b.local_len → farthest_operand_end (listed_block ss reached b).body ≤ b.local_len → local_len y (listed_block ss reached b) ≡ b.local_len
unfolding local_len
local_kept y ss reached b g code is_even short least far =
    ap (λ (t : Bool). if t then max (least_local b.id.kind) (next_multiple (max (structure_bits (temps_of y (listed_block ss reached b)) / 8) (farthest_operand_end (listed_block ss reached b).body)) 2) else 0) code
    ∙ ap (λ cells. max (least_local b.id.kind) (next_multiple (max (structure_bits cells / 8) (farthest_operand_end (listed_block ss reached b).body)) 2)) (listed_cells y ss reached b g).1
    ∙ ap (λ n. max (least_local b.id.kind) (next_multiple (max (n / 8) (farthest_operand_end (listed_block ss reached b).body)) 2)) (bytes_long part.Temp temporary_name b.local_len is_even short)
    ∙ up_even b.local_len (farthest_operand_end (listed_block ss reached b).body) (least_local b.id.kind) is_even far least

-- ---- a function block

-- what the layout of the source says of the parameters and the instance
pub record IsInstance (b : CodeBlock) : Type 0 where
  pub cells : List Cell
  pub by_sections : HasSections cells
  pub apart : CellNamesDiffer (by_sections.ins ++ (by_sections.outs ++ by_sections.both))
  pub params : b.params ≡ section_params true cells section_in by_sections.ins ++ (section_params true cells section_out by_sections.outs ++ section_params true cells section_in_out by_sections.both)
  pub length : b.instance_len ≡ structure_bits cells / 8
  pub short : b.instance_len ≤ 16384

made_of : (all : List Cell) (section : ℕ) (cs : List Cell) → AreOf section (section_params true all section cs)
made_of all section [] = tt
made_of all section (c ∷ cs) = (refl, made_of all section cs)

pub instance_groups : (b : CodeBlock) (returns : Bool) → IsInstance b → length b.params ≤ 60 → HasGroups returns b.params
instance_groups b returns i few =
    let h = i.by_sections in
    let ins = section_params true i.cells section_in h.ins in
    let outs = section_params true i.cells section_out h.outs in
    let both = section_params true i.cells section_in_out h.both in
    let size = ap length i.params ∙ length-append ins (outs ++ both) in
    let more = length-append outs both in
    record {
      ins = ins;
      outs = outs;
      both = both;
      last = [];
      are = i.params ∙ ap (λ z. ins ++ (outs ++ z)) (sym (append-nil both));
      input = made_of i.cells 1 h.ins;
      output = made_of i.cells 2 h.outs;
      in_out = made_of i.cells 3 h.both;
      ends = Ends refl;
      short = omega (arith, size, more, few);
    }

-- the numbers of bits in an instance
record HasBits (whole end start len : ℕ) : Type 0 where
  bytes : ℕ
  are : bytes ≡ len - start
  total : whole ≡ 8 * bytes + next_multiple end 16
  is_even : bytes % 2 ≡ 0
  short : whole ≤ 131072

bits_in : (whole inner end start len : ℕ) → whole ≡ capped_size (next_multiple inner 16) → end ≤ inner → start ≡ next_multiple end 16 / 8 → len ≡ whole / 8 → len ≤ 16384 → HasBits whole end start len
unfolding next_multiple
bits_in whole inner end start len w behind s l short = record {
  bytes = len - start;
  are = refl;
  total = omega (arith, w, behind, s, l, short);
  is_even = omega (arith, w, behind, s, l, short);
  short = omega (arith, w, l, short);
}

short_end : (inner end len : ℕ) → len ≡ capped_size (next_multiple inner 16) / 8 → len ≤ 16384 → end ≤ inner → end < largest_size
unfolding next_multiple
short_end inner end len l short behind = omega (arith, l, short, behind)

whole_end : (cs vs ds : List Cell) → AreAlike cs ds → (structure_bits (cs ++ vs) ≡ capped_size (next_multiple (components_end 0 0 (cs ++ vs)) 16)) × (components_end 0 0 cs ≤ components_end 0 0 (cs ++ vs))
unfolding structure_bits
whole_end cs vs ds alike =
    let near = end_near 0 cs (omega arith) in
    (refl, subst (λ n. components_end 0 0 cs ≤ n) (sym (end_append 0 cs ds vs alike)) (end_behind (components_end 0 0 cs) vs near))

none_behind : (cs vs ds : List Cell) (bytes : ℕ) → AreAlike cs ds → structure_bits (cs ++ vs) ≡ 8 * bytes + next_multiple (components_end 0 0 cs) 16 → bytes ≡ 0 → structure_bits (cs ++ vs) ≤ 131072
    → structure_bits (ds ++ []) ≡ structure_bits (cs ++ vs)
unfolding structure_bits
none_behind cs vs ds bytes alike total none short =
    let same = ap (components_end 0 0) (append-nil ds) ∙ sym (end_alike 0 cs ds alike) in
    ap (λ n. capped_size (next_multiple n 16)) same ∙ bare total
  where
    bare : capped_size (next_multiple (components_end 0 0 (cs ++ vs)) 16) ≡ 8 * bytes + next_multiple (components_end 0 0 cs) 16 → capped_size (next_multiple (components_end 0 0 cs) 16) ≡ capped_size (next_multiple (components_end 0 0 (cs ++ vs)) 16)
    bare e = omega (arith, e, none, short)

length_again : (cs vs ds : List Cell) (bytes : ℕ) → AreAlike cs ds → structure_bits (cs ++ vs) ≡ 8 * bytes + next_multiple (components_end 0 0 cs) 16 → bytes % 2 ≡ 0 → structure_bits (cs ++ vs) ≤ 131072
    → structure_bits (ds ++ byte_cells part.Static static_name bytes) ≡ structure_bits (cs ++ vs)
length_again cs vs ds bytes alike total is_even short = by (bytes == 0) refl
  where
    by : (t : Bool) → (bytes == 0) ≡ t → structure_bits (ds ++ (if t then [] else byte_cell part.Static static_name bytes ∷ [])) ≡ structure_bits (cs ++ vs)
    by true e = none_behind cs vs ds bytes alike total (eqb-true bytes 0 e) short
    by false e =
        let some : 0 < bytes = grind (arith, nat_tests) in
        length_stays cs vs ds (byte_cell part.Static static_name bytes) bytes alike some total is_even
        (record { bounds = record { low = pos 0; high = pos (bytes - 1) }; level = refl; sound = refl; array = refl; size = bytes_count bytes some; of = refl; opens = refl }) short

-- cells with the names and the types of parameters
abbrev pub AreCellsOf : List Cell → List Formal → Type 0
AreCellsOf [] [] = Unit {0}
AreCellsOf (c ∷ cs) (f ∷ fs) = (c.name ≡ upper_case_name f.name) × (c.of ≡ Plain f.kind) × AreCellsOf cs fs
AreCellsOf _ _ = ⊥

later_cells : (kind : PartKind) (fs : List Formal) → AreCellsOf (map (plain_cell false kind) fs) fs
later_cells kind [] = tt
later_cells kind (f ∷ fs) = (refl, refl, later_cells kind fs)

section_cells_of : (kind : PartKind) (fs : List Formal) → AreCellsOf (plain_cells kind fs) fs
section_cells_of kind [] = tt
section_cells_of kind (f ∷ fs) = (refl, refl, later_cells kind fs)

cells_append : (cs ds : List Cell) (fs gs : List Formal) → AreCellsOf cs fs → AreCellsOf ds gs → AreCellsOf (cs ++ ds) (fs ++ gs)
cells_append [] ds [] gs h k = k
cells_append [] ds (f ∷ fs) gs h k = absurd h
cells_append (c ∷ cs) ds [] gs h k = absurd h
cells_append (c ∷ cs) ds (f ∷ fs) gs (name, of, more) k = (name, of, cells_append cs ds fs gs more k)

-- an elementary cell, or an array of such, with no initial values
pub record HasNoValues (c : Cell) : Type 0 where
  pub kind : Simple
  pub of : c.of ≡ Plain kind
  pub presets : c.presets ≡ []

later_bare : (kind : PartKind) (fs : List Formal) → AllByRecursion HasNoValues (map (plain_cell false kind) fs)
later_bare kind [] = tt
later_bare kind (f ∷ fs) = (record { kind = f.kind; of = refl; presets = refl }, later_bare kind fs)

section_bare : (kind : PartKind) (fs : List Formal) → AllByRecursion HasNoValues (plain_cells kind fs)
section_bare kind [] = tt
section_bare kind (f ∷ fs) = (record { kind = f.kind; of = refl; presets = refl }, later_bare kind fs)

-- the parameters of a function block in the source, with what stands behind them, and in the listing
pub record HasBoth (y : Types) (ss : List Signature) (reached : ℕ) (b : CodeBlock) (cells : List Cell) : Type 0 where
  pub first : List Cell
  pub rest : List Cell
  pub second : List Cell
  pub are : cells ≡ first ++ rest
  pub begins : Begins rest
  pub same : AreSame (look_in (first ++ rest)) first b.params second
  pub apart : CellNamesDiffer first
  pub start : static_start b.params ≡ next_multiple (components_end 0 0 first) 16 / 8
  pub ends : structure_bits (first ++ rest) ≡ 8 * (b.instance_len - static_start b.params) + next_multiple (components_end 0 0 first) 16
  pub short : components_end 0 0 first < largest_size
  pub listed : components_of y (listed_block ss reached b) ≡ second ++ byte_cells part.Static static_name (b.instance_len - static_start b.params)
  pub named : AreNamed 0 second
  pub again : CellNamesDiffer second
  pub formals : AreCellsOf second (formals_of_block ss b.id)
  pub bare : AllByRecursion HasNoValues second

-- of both kinds of what an instance has
pub record IsKeptInstance (y : Types) (ss : List Signature) (reached : ℕ) (b : CodeBlock) (cells : List Cell) : Type 0 where
  pub both : HasBoth y ss reached b cells
  pub params : (l : BlockLayout) → l.components ≡ components_of y (listed_block ss reached b) → params_of (listed_block ss reached b) l ≡ b.params
  pub length : (blocks : List Block) → length_of_block y blocks (listed_block ss reached b) ≡ b.instance_len

fb_kind : (k : BlockKind) → is_function_block k ≡ true → k ≡ kinds.Fb
fb_kind kinds.Ob e = absurd cc
fb_kind kinds.Fc e = absurd cc
fb_kind kinds.Fb e = refl
fb_kind kinds.Db e = absurd cc
fb_kind kinds.Udt e = absurd cc
fb_kind kinds.Sfc e = absurd cc

pub own_length : (y : Types) (ss : List Signature) (reached : ℕ) (b : CodeBlock) (blocks : List Block) → b.id.kind ≡ kinds.Fb
    → length_of_block y blocks (listed_block ss reached b) ≡ structure_bits (components_of y (listed_block ss reached b)) / 8
unfolding length_of_block
own_length y ss reached b blocks kind =
    ap (λ k. if is_structured k then structure_bits (components_of y (listed_block ss reached b)) / 8 else 0) kind

pub instance_kept : (y : Types) (ss : List Signature) (reached : ℕ) (b : CodeBlock) (returns : Bool) (i : IsInstance b) (few : length b.params ≤ 60) → is_function_block b.id.kind ≡ true
    → AreListed returns b.params (instance_groups b returns i few) (formals_of_block ss b.id) → IsKeptInstance y ss reached b i.cells
unfolding params_of instance_groups
instance_kept y ss reached b returns i few fb a = record {
  both = record {
    first = cs;
    rest = h.rest;
    second = ds;
    are = whole;
    begins = h.begins;
    same = subst (λ qs. AreSame (look_in (cs ++ h.rest)) cs qs ds) (sym i.params) same_whole;
    apart = i.apart;
    start = start;
    ends = bits.total ∙ ap (λ n. 8 * n + next_multiple (components_end 0 0 cs) 16) bits.are;
    short = short;
    listed = components ∙ ap (λ n. ds ++ byte_cells part.Static static_name n) bits.are;
    named = named;
    again = named_apart 0 ds few_cells named;
    formals = subst (AreCellsOf ds) (sym all_formals) own_cells;
    bare = all_append HasNoValues (plain_cells part.Input g.ins) (plain_cells part.Output g.outs ++ plain_cells part.InOut g.both) (section_bare part.Input g.ins)
        (all_append HasNoValues (plain_cells part.Output g.outs) (plain_cells part.InOut g.both) (section_bare part.Output g.outs) (section_bare part.InOut g.both));
  };
  params = λ l e. params_kept l (e ∙ components);
  length = λ blocks. own_length y ss reached b blocks (fb_kind b.id.kind fb) ∙ ap (λ cells. structure_bits cells / 8) components ∙ ap (λ n. n / 8) long ∙ ap (λ n. n / 8) (sym (ap structure_bits whole)) ∙ sym i.length;
}
  where
    h : HasSections i.cells
    h = i.by_sections

    g : AreGrouped (formals_of_block ss b.id)
    g = a.groups

    cs : List Cell
    cs = h.ins ++ (h.outs ++ h.both)

    ds : List Cell
    ds = plain_cells part.Input g.ins ++ (plain_cells part.Output g.outs ++ plain_cells part.InOut g.both)

    ps : List Param
    ps = section_params true i.cells section_in h.ins ++ (section_params true i.cells section_out h.outs ++ section_params true i.cells section_in_out h.both)

    whole : i.cells ≡ cs ++ h.rest
    whole = h.are ∙ sym (append_assoc h.ins (h.outs ++ h.both) h.rest ∙ ap (λ z. h.ins ++ z) (append_assoc h.outs h.both h.rest))

    same : AreSame (look_in i.cells) cs ps ds
    same =
        same_append (look_in i.cells) h.ins (section_params true i.cells section_in h.ins) (plain_cells part.Input g.ins) (h.outs ++ h.both) (section_params true i.cells section_out h.outs ++ section_params true i.cells section_in_out h.both)
        (plain_cells part.Output g.outs ++ plain_cells part.InOut g.both)
        (same_section i.cells part.Input h.ins g.ins refl h.input a.wide_ins)
        (same_append (look_in i.cells) h.outs (section_params true i.cells section_out h.outs) (plain_cells part.Output g.outs) h.both (section_params true i.cells section_in_out h.both) (plain_cells part.InOut g.both)
        (same_section i.cells part.Output h.outs g.outs refl h.output a.wide_outs) (same_section i.cells part.InOut h.both g.both refl h.in_out a.wide_both))

    same_whole : AreSame (look_in (cs ++ h.rest)) cs ps ds
    same_whole = subst (λ all. AreSame (look_in all) cs ps ds) whole same

    alike : AreAlike cs ds
    alike = alike_of (look_in i.cells) cs ps ds same

    ends : (structure_bits (cs ++ h.rest) ≡ capped_size (next_multiple (components_end 0 0 (cs ++ h.rest)) 16)) × (components_end 0 0 cs ≤ components_end 0 0 (cs ++ h.rest))
    ends = whole_end cs h.rest ds alike

    len : b.instance_len ≡ structure_bits (cs ++ h.rest) / 8
    len = i.length ∙ ap (λ cells. structure_bits cells / 8) whole

    short : components_end 0 0 cs < largest_size
    short = short_end (components_end 0 0 (cs ++ h.rest)) (components_end 0 0 cs) b.instance_len (len ∙ ap (λ n. n / 8) ends.0) i.short ends.1

    start : static_start b.params ≡ next_multiple (components_end 0 0 cs) 16 / 8
    start = ap static_start i.params ∙ static_is cs h.rest ps ds i.apart same_whole short

    bits : HasBits (structure_bits (cs ++ h.rest)) (components_end 0 0 cs) (static_start b.params) b.instance_len
    bits = bits_in (structure_bits (cs ++ h.rest)) (components_end 0 0 (cs ++ h.rest)) (components_end 0 0 cs) (static_start b.params) b.instance_len ends.0 ends.1 start len i.short

    bytes : static_bytes b ≡ bits.bytes
    bytes = ap (λ (t : Bool). if t then static_len b.instance_len b.params else 0) fb ∙ sym bits.are

    no_last : returned_cells (last_result g.last) ≡ []
    no_last = by g.last a.wide_last
      where
        by : (fs : List Formal) → AreWide [] fs → returned_cells (last_result fs) ≡ []
        by [] w = refl
        by (f ∷ fs) w = absurd w

    no_result : last_result g.last ≡ None
    no_result = by g.last a.wide_last
      where
        by : (fs : List Formal) → AreWide [] fs → last_result fs ≡ None
        by [] w = refl
        by (f ∷ fs) w = absurd w

    no_formals : g.last ≡ []
    no_formals = by g.last a.wide_last
      where
        by : (fs : List Formal) → AreWide [] fs → fs ≡ []
        by [] w = refl
        by (f ∷ fs) w = absurd w

    all_formals : formals_of_block ss b.id ≡ g.ins ++ (g.outs ++ g.both)
    all_formals = g.are ∙ ap (λ z. g.ins ++ (g.outs ++ (g.both ++ z))) no_formals ∙ ap (λ z. g.ins ++ (g.outs ++ z)) (append-nil g.both)

    own_cells : AreCellsOf ds (g.ins ++ (g.outs ++ g.both))
    own_cells =
        cells_append (plain_cells part.Input g.ins) (plain_cells part.Output g.outs ++ plain_cells part.InOut g.both) g.ins (g.outs ++ g.both)
        (section_cells_of part.Input g.ins)
        (cells_append (plain_cells part.Output g.outs) (plain_cells part.InOut g.both) g.outs g.both (section_cells_of part.Output g.outs) (section_cells_of part.InOut g.both))

    static_cells : List Cell
    static_cells = byte_cells part.Static static_name bits.bytes

    components : components_of y (listed_block ss reached b) ≡ ds ++ static_cells
    components =
        (listed_cells y ss reached b g).0
        ∙ (λ n. no_last n ++ (plain_cells part.Input g.ins ++ (plain_cells part.Output g.outs ++ (plain_cells part.InOut g.both ++ byte_cells part.Static static_name (bytes n)))))
        ∙ sym (append_assoc (plain_cells part.Input g.ins) (plain_cells part.Output g.outs ++ plain_cells part.InOut g.both) static_cells
        ∙ ap (λ z. plain_cells part.Input g.ins ++ z) (append_assoc (plain_cells part.Output g.outs) (plain_cells part.InOut g.both) static_cells))

    long : structure_bits (ds ++ static_cells) ≡ structure_bits (cs ++ h.rest)
    long = length_again cs h.rest ds bits.bytes alike bits.total bits.is_even bits.short

    size_ins : length (plain_cells part.Input g.ins) ≡ length g.ins
    size_ins = plain_length part.Input g.ins

    size_outs : length (plain_cells part.Output g.outs) ≡ length g.outs
    size_outs = plain_length part.Output g.outs

    size_both : length (plain_cells part.InOut g.both) ≡ length g.both
    size_both = plain_length part.InOut g.both

    named : AreNamed 0 ds
    named =
        named_append 0 (plain_cells part.Input g.ins) (plain_cells part.Output g.outs ++ plain_cells part.InOut g.both) (named_section part.Input 0 g.ins g.input.named)
        (named_append (0 + length (plain_cells part.Input g.ins)) (plain_cells part.Output g.outs) (plain_cells part.InOut g.both)
        (subst (λ n. AreNamed n (plain_cells part.Output g.outs)) first (named_section part.Output (length g.ins) g.outs g.output.named))
        (subst (λ n. AreNamed n (plain_cells part.InOut g.both)) second (named_section part.InOut (length g.ins + length g.outs) g.both g.in_out.named)))
      where
        first : length g.ins ≡ 0 + length (plain_cells part.Input g.ins)
        first = omega (arith, size_ins)

        second : length g.ins + length g.outs ≡ 0 + length (plain_cells part.Input g.ins) + length (plain_cells part.Output g.outs)
        second = omega (arith, size_ins, size_outs)

    few_cells : 0 + length ds < 2 ^ 64
    few_cells =
        let all = length-append (plain_cells part.Input g.ins) (plain_cells part.Output g.outs ++ plain_cells part.InOut g.both) in
        let more = length-append (plain_cells part.Output g.outs) (plain_cells part.InOut g.both) in
        omega (arith, all, more, size_ins, size_outs, size_both, g.short)

    offsets : map (λ c. look_in i.cells c.name) cs ≡ map (λ d. look_in (ds ++ static_cells) d.name) ds
    offsets =
        ap (λ all. map (λ c. look_in all c.name) cs) whole
        ∙ offsets_stay cs h.rest ds static_cells alike i.apart (named_apart 0 ds few_cells named)

    no_static : (all : List Cell) → flat_map (λ d. param_here true all d) static_cells ≡ []
    no_static all = by (bits.bytes == 0)
      where
        by : (t : Bool) → flat_map (λ d. param_here true all d) (if t then [] else byte_cell part.Static static_name bits.bytes ∷ []) ≡ []
        by true = refl
        by false = refl

    params_kept : (l : BlockLayout) → l.components ≡ ds ++ static_cells → params_of (listed_block ss reached b) l ≡ b.params
    params_kept l e =
        let all = ds ++ static_cells in
        let f = λ (d : Cell). param_here true all d in
        (λ n. return_last ((result_is (formals_of_block ss b.id) g ∙ no_result) n) (flat_map (λ d. param_here (fb n) (e n) d) (e n)))
        ∙ flat_map-append f ds static_cells ∙ ap (λ z. flat_map f ds ++ z) (no_static all) ∙ append-nil (flat_map f ds)
        ∙ params_made (look_in i.cells) all cs ps ds same offsets ∙ sym i.params
