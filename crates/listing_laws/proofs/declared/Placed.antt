-- The parameters of a function block lie where they lay, and its instance is as long.
use Rattle.std.proofs.Common.{◌≡◌, ℕ, suc, ◌+◌, ◌-◌, ◌/◌, ◌%◌, ◌≤◌, ◌<◌, ◌^◌, Bool, true, false, min, List, [], ◌∷◌, ◌++◌, length, map, flat_map, refl, sym, ap, subst, ◌∙◌, arith}
use Rattle.std.specs.Prelude.{if◌then◌else◌, nat_eq}
use Rattle.std.specs.List.{AllByRecursion}
use Rattle.std.specs.Str.{bytes_eq}
use Rattle.plc_base.specs.Folding.{upper_case_name}
use Rattle.plc_base.specs.Widths.{bit_count}
use Rattle.flat_code.specs.declared.programs.Param.{Param}
use Rattle.stl_ast.specs.Blocks.{is_parameter}
use Rattle.stl_ast.specs.declared.blocks.PartKind.{PartKind}
use Rattle.stl_ast.specs.declared.declarations.Simple.{Simple}
use Rattle.stl_ast.specs.declared.declarations.Simple.TheVariants as simple
use Rattle.block_layout.specs.ListedParameters.{AreAlike, CellNamesDiffer, IsAlike, IsElementary, offset_of_member}
use Rattle.block_layout.specs.Members.{component_of_name}
use Rattle.block_layout.specs.Offsets.{width_of}
use Rattle.block_layout.specs.Sizes.{alignment, capped_size, cell_bits, element_of, components_end, largest_size, plain_bits, end_behind_cell, next_multiple}
use Rattle.block_layout.specs.declared.cells.Cell.{Cell}
use Rattle.stl_codegen.specs.GeneratedProgram.{param_at_bits, param_here, param_of, section_number}
use Rattle.stl_types.specs.declared.parameters.Formal.{Formal}
use Rattle.stl_list.specs.Parameters.{parameter_name}
use Rattle.stl_list.specs.Sections.{even_end, static_start}
use Rattle.sem_kept.proofs.accepted.RecordParams.{end_step, found_here, not_both, passed_by, past_behind}
use Rattle.listing_laws.specs.ListedDeclarations.{AreWide}
use Rattle.listing_laws.proofs.declared.Apart.{parameters_apart}
use Rattle.listing_laws.proofs.declared.Cells.{AreNumbered, plain_cell, plain_cells}
use Rattle.listing_laws.proofs.declared.Sources.{AreParameters, IsSectionCell, cell_width, section_params}

-- ---- a parameter with its cell in a source and in the listing

-- `look`: the offset of the cell of a name in the source
pub record IsSame (look : List ℕ → ℕ) (c : Cell) (p : Param) (d : Cell) : Type 0 where
  pub alike : IsAlike c d
  pub section : section_number d.section ≡ p.section
  pub parameter : is_parameter d.section ≡ true
  pub width : width_of alike.other ≡ p.width
  pub byte : p.byte ≡ look c.name / 8
  pub bit : p.bit ≡ look c.name % 8

abbrev pub AreSame : (look : List ℕ → ℕ) → List Cell → List Param → List Cell → Type 0
AreSame look [] [] [] = Unit {0}
AreSame look (c ∷ cs) (p ∷ ps) (d ∷ ds) = IsSame look c p d × AreSame look cs ps ds
AreSame look _ _ _ = ⊥

abbrev pub look_in : List Cell → List ℕ → ℕ
look_in all name = offset_of_member (component_of_name 0 0 0 name all)

pub plain_width : (k : Simple) → plain_bits k ≡ bit_count (width_of k)
plain_width simple.Bool = refl
plain_width simple.Byte = refl
plain_width simple.Char = refl
plain_width simple.Word = refl
plain_width simple.Int = refl
plain_width simple.S5time = refl
plain_width simple.Dword = refl
plain_width simple.Dint = refl
plain_width simple.Time = refl

same_one : (all : List Cell) (kind : PartKind) (opens : Bool) (c : Cell) (f : Formal) → is_parameter kind ≡ true → IsSectionCell kind opens c → width_of f.kind ≡ cell_width c.of
    → IsSame (look_in all) c (param_at_bits (section_number kind) (cell_width c.of) (offset_of_member (component_of_name 0 0 0 c.name all))) (plain_cell opens kind f)
same_one all kind opens c f is h wide =
    let own : width_of h.simple ≡ width_of f.kind = sym (ap cell_width h.elementary.of) ∙ sym wide in
    record {
      alike = record {
        kind = h.simple;
        other = f.kind;
        first = h.elementary;
        second = record { level = refl; sound = refl; bounds = refl; of = refl };
        bits = plain_width h.simple ∙ ap bit_count own ∙ sym (plain_width f.kind);
        opens = h.begins;
      };
      section = refl;
      parameter = is;
      width = wide;
      byte = refl;
      bit = refl;
    }

same_later : (all : List Cell) (kind : PartKind) (cs : List Cell) (fs : List Formal) → is_parameter kind ≡ true → AreParameters kind false cs
    → AreWide (section_params true all (section_number kind) cs) fs → AreSame (look_in all) cs (section_params true all (section_number kind) cs) (map (plain_cell false kind) fs)
same_later all kind [] [] is h wide = tt
same_later all kind [] (f ∷ fs) is h wide = absurd wide
same_later all kind (c ∷ cs) [] is h wide = absurd wide
same_later all kind (c ∷ cs) (f ∷ fs) is (one, more) (w, ws) = (same_one all kind false c f is one w, same_later all kind cs fs is more ws)

pub same_section : (all : List Cell) (kind : PartKind) (cs : List Cell) (fs : List Formal) → is_parameter kind ≡ true → AreParameters kind true cs
    → AreWide (section_params true all (section_number kind) cs) fs → AreSame (look_in all) cs (section_params true all (section_number kind) cs) (plain_cells kind fs)
same_section all kind [] [] is h wide = tt
same_section all kind [] (f ∷ fs) is h wide = absurd wide
same_section all kind (c ∷ cs) [] is h wide = absurd wide
same_section all kind (c ∷ cs) (f ∷ fs) is (one, more) (w, ws) = (same_one all kind true c f is one w, same_later all kind cs fs is more ws)

pub same_append : (look : List ℕ → ℕ) (cs : List Cell) (ps : List Param) (ds cs' : List Cell) (ps' : List Param) (ds' : List Cell) → AreSame look cs ps ds → AreSame look cs' ps' ds'
    → AreSame look (cs ++ cs') (ps ++ ps') (ds ++ ds')
same_append look [] [] [] cs' ps' ds' h k = k
same_append look [] [] (d ∷ ds) cs' ps' ds' h k = absurd h
same_append look [] (p ∷ ps) [] cs' ps' ds' h k = absurd h
same_append look [] (p ∷ ps) (d ∷ ds) cs' ps' ds' h k = absurd h
same_append look (c ∷ cs) [] [] cs' ps' ds' h k = absurd h
same_append look (c ∷ cs) [] (d ∷ ds) cs' ps' ds' h k = absurd h
same_append look (c ∷ cs) (p ∷ ps) [] cs' ps' ds' h k = absurd h
same_append look (c ∷ cs) (p ∷ ps) (d ∷ ds) cs' ps' ds' (one, more) k = (one, same_append look cs ps ds cs' ps' ds' more k)

pub alike_of : (look : List ℕ → ℕ) (cs : List Cell) (ps : List Param) (ds : List Cell) → AreSame look cs ps ds → AreAlike cs ds
alike_of look [] [] [] h = tt
alike_of look [] [] (d ∷ ds) h = absurd h
alike_of look [] (p ∷ ps) [] h = absurd h
alike_of look [] (p ∷ ps) (d ∷ ds) h = absurd h
alike_of look (c ∷ cs) [] [] h = absurd h
alike_of look (c ∷ cs) [] (d ∷ ds) h = absurd h
alike_of look (c ∷ cs) (p ∷ ps) [] h = absurd h
alike_of look (c ∷ cs) (p ∷ ps) (d ∷ ds) (one, more) = (one.alike, alike_of look cs ps ds more)

-- ---- the parameters that the listing makes

first_or_0 : List ℕ → ℕ
first_or_0 [] = 0
first_or_0 (n ∷ ns) = n

behind_first : List ℕ → List ℕ
behind_first [] = []
behind_first (n ∷ ns) = ns

param_same : (look : List ℕ → ℕ) (c : Cell) (p : Param) (d : Cell) (n : ℕ) → (h : IsSame look c p d) → look c.name ≡ n → param_at_bits (section_number d.section) (width_of h.alike.other) n ≡ p
param_same look c p d n h e =
    let byte = ap (λ m. m / 8) (sym e) ∙ sym h.byte in
    let bit = ap (λ m. m % 8) (sym e) ∙ sym h.bit in
    λ i. record { section = h.section i; width = h.width i; byte = byte i; bit = bit i }

pub params_made : (look : List ℕ → ℕ) (all : List Cell) (cs : List Cell) (ps : List Param) (ds : List Cell) → AreSame look cs ps ds
    → map (λ c. look c.name) cs ≡ map (λ d. look_in all d.name) ds → flat_map (λ d. param_here true all d) ds ≡ ps
unfolding first_or_0 behind_first
params_made look all [] [] [] h e = refl
params_made look all [] [] (d ∷ ds) h e = absurd h
params_made look all [] (p ∷ ps) [] h e = absurd h
params_made look all [] (p ∷ ps) (d ∷ ds) h e = absurd h
params_made look all (c ∷ cs) [] [] h e = absurd h
params_made look all (c ∷ cs) [] (d ∷ ds) h e = absurd h
params_made look all (c ∷ cs) (p ∷ ps) [] h e = absurd h
params_made look all (c ∷ cs) (p ∷ ps) (d ∷ ds) (one, more) e =
    let offset : look c.name ≡ offset_of_member (component_of_name 0 0 0 d.name all) = ap first_or_0 e in
    let here : param_here true all d ≡ p ∷ [] =
    ap (λ (t : Bool). if t then param_of true all d d.of else []) one.parameter ∙ ap (param_of true all d) one.alike.second.of
    ∙ ap (λ q. q ∷ []) (param_same look c p d (offset_of_member (component_of_name 0 0 0 d.name all)) one offset) in
    let rest = params_made look all cs ps ds more (ap behind_first e) in
    λ i. here i ++ rest i

-- ---- names of the listing

abbrev pub AreNamed : ℕ → List Cell → Type 0
AreNamed i [] = Unit {0}
AreNamed i (c ∷ cs) = (c.name ≡ upper_case_name (parameter_name i)) × AreNamed (suc i) cs

named_later : (kind : PartKind) (i : ℕ) (fs : List Formal) → AreNumbered i fs → AreNamed i (map (plain_cell false kind) fs)
named_later kind i [] h = tt
named_later kind i (f ∷ fs) (name, more) = (ap upper_case_name name, named_later kind (suc i) fs more)

pub named_section : (kind : PartKind) (i : ℕ) (fs : List Formal) → AreNumbered i fs → AreNamed i (plain_cells kind fs)
named_section kind i [] h = tt
named_section kind i (f ∷ fs) (name, more) = (ap upper_case_name name, named_later kind (suc i) fs more)

pub named_append : (i : ℕ) (cs ds : List Cell) → AreNamed i cs → AreNamed (i + length cs) ds → AreNamed i (cs ++ ds)
named_append i [] ds h k = let e : i + 0 ≡ i = omega arith in subst (λ n. AreNamed n ds) e k
named_append i (c ∷ cs) ds (one, more) k =
    let e : i + suc (length cs) ≡ suc i + length cs = omega arith in
    (one, named_append (suc i) cs ds more (subst (λ n. AreNamed n ds) e k))

apart_later : (n i : ℕ) (name : List ℕ) (cs : List Cell) → name ≡ upper_case_name (parameter_name n) → n < i → i + length cs < 2 ^ 64 → AreNamed i cs → AllByRecursion (λ d. bytes_eq d.name name ≡ false) cs
apart_later n i name [] e less h named = tt
apart_later n i name (c ∷ cs) e less h (one, more) =
    ((λ j. bytes_eq (one j) (e j)) ∙ parameters_apart i n (omega (arith, h)) less, apart_later n (suc i) name cs e (omega (arith, less)) (omega (arith, h)) more)

pub named_apart : (i : ℕ) (cs : List Cell) → i + length cs < 2 ^ 64 → AreNamed i cs → CellNamesDiffer cs
named_apart i [] h named = tt
named_apart i (c ∷ cs) h (one, more) =
    (apart_later i (suc i) c.name cs one (omega arith) (omega (arith, h)) more, named_apart (suc i) cs (omega (arith, h)) more)

pub plain_length : (kind : PartKind) (fs : List Formal) → length (plain_cells kind fs) ≡ length fs
plain_length kind [] = refl
plain_length kind (f ∷ fs) = ap suc (later fs)
  where
    later : (gs : List Formal) → length (map (plain_cell false kind) gs) ≡ length gs
    later [] = refl
    later (g ∷ gs) = ap suc (later gs)

-- ---- where they end

-- what the layout takes from an elementary cell
pub align : Bool → ℕ → ℕ
align opens bits = if opens then 16 else min bits 16

pub next : (at : ℕ) → Bool → ℕ → ℕ
next at opens bits = capped_size (next_multiple at (align opens bits) + bits)

pub alignment_is : (c : Cell) (kind : Simple) → IsElementary c kind → alignment c ≡ align c.opens (plain_bits kind)
unfolding align
alignment_is c kind h = rw (h.bounds, h.of) refl

pub bits_is : (c : Cell) (cs : List Cell) (kind : Simple) → IsElementary c kind → cell_bits c cs ≡ plain_bits kind
unfolding element_of
bits_is c cs kind h = rw (h.bounds, h.of) refl

pub stepped_is : (at : ℕ) (c : Cell) (cs : List Cell) (kind : Simple) → IsElementary c kind → end_behind_cell 0 at c (cell_bits c cs) ≡ next at c.opens (plain_bits kind)
unfolding next
stepped_is at c cs kind h = rw (bits_is c cs kind h, h.level, h.sound, alignment_is c kind h) refl

end_first : (at : ℕ) (c : Cell) (cs : List Cell) (kind : Simple) → IsElementary c kind → components_end 0 at (c ∷ cs) ≡ components_end 0 (next at c.opens (plain_bits kind)) cs
end_first at c cs kind h = end_step at c cs ∙ ap (λ n. components_end 0 n cs) (stepped_is at c cs kind h)

pub end_alike : (at : ℕ) (cs ds : List Cell) → AreAlike cs ds → components_end 0 at cs ≡ components_end 0 at ds
unfolding components_end
end_alike at [] [] alike = refl
end_alike at [] (d ∷ ds) alike = absurd alike
end_alike at (c ∷ cs) [] alike = absurd alike
end_alike at (c ∷ cs) (d ∷ ds) (one, more) =
    let step : next at c.opens (plain_bits one.kind) ≡ next at d.opens (plain_bits one.other) = λ i. next at (one.opens i) (one.bits i) in
    end_first at c cs one.kind one.first ∙ end_alike (next at c.opens (plain_bits one.kind)) cs ds more ∙ ap (λ n. components_end 0 n ds) step
    ∙ sym (end_first at d ds one.other one.second)

pub end_append : (at : ℕ) (cs ds rest : List Cell) → AreAlike cs ds → components_end 0 at (cs ++ rest) ≡ components_end 0 (components_end 0 at cs) rest
unfolding components_end
end_append at [] [] rest alike = refl
end_append at [] (d ∷ ds) rest alike = absurd alike
end_append at (c ∷ cs) [] rest alike = absurd alike
end_append at (c ∷ cs) (d ∷ ds) rest (one, more) =
    end_first at c (cs ++ rest) one.kind one.first ∙ end_append (next at c.opens (plain_bits one.kind)) cs ds rest more
    ∙ ap (λ n. components_end 0 n rest) (sym (end_first at c cs one.kind one.first))

pub end_near : (at : ℕ) (cs : List Cell) → at ≤ largest_size → components_end 0 at cs ≤ largest_size
unfolding components_end
end_near at [] near = near
end_near at (c ∷ cs) near =
    let step = past_behind at c (cell_bits c cs) near in
    subst (λ n. n ≤ largest_size) (sym (end_step at c cs)) (end_near (end_behind_cell 0 at c (cell_bits c cs)) cs step.1)

-- the offsets of some cells, as those behind a place find them
abbrev pub Finds : (look : List ℕ → ℕ) → (at place : ℕ) → (all cs : List Cell) → Type 0
Finds look at place all cs = AllByRecursion (λ c. look c.name ≡ offset_of_member (component_of_name 0 at place c.name all)) cs

pub finds_later : (look : List ℕ → ℕ) (at place : ℕ) (c : Cell) (kind : Simple) (rest cs : List Cell) → IsElementary c kind → AllByRecursion (λ d. bytes_eq d.name c.name ≡ false) cs
    → Finds look at place (c ∷ rest) cs → Finds look (next at c.opens (plain_bits kind)) (place + 1) rest cs
finds_later look at place c kind rest [] is apart h = tt
finds_later look at place c kind rest (d ∷ ds) is (other, others) (one, more) =
    let passed = passed_by at place d.name c rest (not_both (nat_eq c.level 0) (bytes_eq d.name c.name) (λ e. other)) in
    (one ∙ ap offset_of_member (passed ∙ ap (λ n. component_of_name 0 n (place + 1) d.name rest) (stepped_is at c rest kind is)), finds_later look at place c kind rest ds is others more)

last_end : (p : Param) (at offset bits : ℕ) → p.byte ≡ offset / 8 → p.bit ≡ offset % 8 → bit_count p.width ≡ bits → at ≡ capped_size (offset + bits) → at < largest_size → even_end p ≡ next_multiple at 16 / 8
unfolding next_multiple
last_end p at offset bits byte bit width e short = omega (arith, byte, bit, width, e, short)

last_more : (p q : Param) (ps : List Param) → static_start (p ∷ q ∷ ps) ≡ static_start (q ∷ ps)
last_more p q ps = let e : length (p ∷ q ∷ ps) - 1 ≡ suc (length (q ∷ ps) - 1) = omega arith in rw e refl

start_is : (look : List ℕ → ℕ) (at place : ℕ) (c : Cell) (cs vs : List Cell) (p : Param) (ps : List Param) (d : Cell) (ds : List Cell) → CellNamesDiffer (c ∷ cs) → AreSame look (c ∷ cs) (p ∷ ps) (d ∷ ds)
    → Finds look at place (c ∷ cs ++ vs) (c ∷ cs) → components_end 0 at (c ∷ cs) < largest_size → static_start (p ∷ ps) ≡ next_multiple (components_end 0 at (c ∷ cs)) 16 / 8
unfolding next components_end
start_is look at place c [] vs p [] d [] apart (one, more) (found, founds) short =
    let is = one.alike.first in
    let end : components_end 0 at (c ∷ []) ≡ next at c.opens (plain_bits one.alike.kind) = end_first at c [] one.alike.kind is in
    let offset : look c.name ≡ next_multiple at (align c.opens (plain_bits one.alike.kind)) =
    found ∙ ap offset_of_member (found_here at place c vs is.level) ∙ ap (next_multiple at) (alignment_is c one.alike.kind is) in
    let bits : bit_count p.width ≡ plain_bits one.alike.kind = ap bit_count (sym one.width) ∙ sym (plain_width one.alike.other) ∙ sym one.alike.bits in
    last_end p (components_end 0 at (c ∷ [])) (next_multiple at (align c.opens (plain_bits one.alike.kind))) (plain_bits one.alike.kind)
    (one.byte ∙ ap (λ n. n / 8) offset) (one.bit ∙ ap (λ n. n % 8) offset) bits end short
start_is look at place c [] vs p [] d (x ∷ ds) apart (one, more) found short = absurd more
start_is look at place c [] vs p (q ∷ ps) d [] apart (one, more) found short = absurd more
start_is look at place c [] vs p (q ∷ ps) d (x ∷ ds) apart (one, more) found short = absurd more
start_is look at place c (c' ∷ cs) vs p [] d [] apart (one, more) found short = absurd more
start_is look at place c (c' ∷ cs) vs p [] d (x ∷ ds) apart (one, more) found short = absurd more
start_is look at place c (c' ∷ cs) vs p (q ∷ ps) d [] apart (one, more) found short = absurd more
start_is look at place c (c' ∷ cs) vs p (q ∷ ps) d (x ∷ ds) apart (one, more) found short =
    let is = one.alike.first in
    let end : components_end 0 at (c ∷ c' ∷ cs) ≡ components_end 0 (next at c.opens (plain_bits one.alike.kind)) (c' ∷ cs) = end_first at c (c' ∷ cs) one.alike.kind is in
    last_more p q ps
    ∙ start_is look (next at c.opens (plain_bits one.alike.kind)) (place + 1) c' cs vs q ps x ds apart.1 more
    (finds_later look at place c one.alike.kind (c' ∷ cs ++ vs) (c' ∷ cs) is apart.0 found.1) (subst (λ n. n < largest_size) end short)
    ∙ ap (λ n. next_multiple n 16 / 8) (sym end)

pub all_found : (all cs : List Cell) → Finds (look_in all) 0 0 all cs
all_found all [] = tt
all_found all (c ∷ cs) = (refl, all_found all cs)

pub static_is : (cs vs : List Cell) (ps : List Param) (ds : List Cell) → CellNamesDiffer cs → AreSame (look_in (cs ++ vs)) cs ps ds → components_end 0 0 cs < largest_size → static_start ps ≡ next_multiple (components_end 0 0 cs) 16 / 8
unfolding components_end next_multiple
static_is [] vs [] [] apart h short = refl
static_is [] vs [] (d ∷ ds) apart h short = absurd h
static_is [] vs (p ∷ ps) [] apart h short = absurd h
static_is [] vs (p ∷ ps) (d ∷ ds) apart h short = absurd h
static_is (c ∷ cs) vs [] [] apart h short = absurd h
static_is (c ∷ cs) vs [] (d ∷ ds) apart h short = absurd h
static_is (c ∷ cs) vs (p ∷ ps) [] apart h short = absurd h
static_is (c ∷ cs) vs (p ∷ ps) (d ∷ ds) apart h short = start_is (look_in (c ∷ cs ++ vs)) 0 0 c cs vs p ps d ds apart h (all_found (c ∷ cs ++ vs) (c ∷ cs)) short
