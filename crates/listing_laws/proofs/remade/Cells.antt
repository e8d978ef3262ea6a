-- The parameters of a listed block, as its body and its callers find them: those of its declarations.
use Rattle.std.proofs.Common.{◌≡◌, ℕ, Bool, true, false, ◌&&◌, List, [], ◌∷◌, ◌++◌, append-nil, append_assoc, map, Option, Some, None, refl, sym, ap, subst, ◌∙◌, if◌then◌else◌}
use Rattle.std.specs.Prelude.{◌==◌}
use Rattle.std.specs.List.{AllByRecursion, list_all}
use Rattle.std.proofs.lemmas.List.{map-append}
use Rattle.std.proofs.lemmas.Grind.{flat_map-append}
use Rattle.plc_base.proofs.ListLemmas.{all_append}
use Rattle.plc_base.specs.Folding.{upper_case_name}
use Rattle.plc_base.specs.Kinds.{is_function_block}
use Rattle.flat_code.specs.Programs.{CodeBlock}
use Rattle.stl_ast.specs.Blocks.{is_parameter}
use Rattle.stl_ast.specs.declared.blocks.PartKind.{PartKind}
use Rattle.stl_ast.specs.declared.blocks.PartKind.TheVariants as part
use Rattle.stl_ast.specs.declared.declarations.Simple.{Simple}
use Rattle.block_layout.specs.Cells.{components_of, returned_cells}
use Rattle.block_layout.specs.Types.{Types}
use Rattle.block_layout.specs.declared.cells.Cell.{Cell}
use Rattle.block_layout.specs.declared.cells.Element.TheVariants.{Plain}
use Rattle.stl_types.specs.Parameters.{formal_here, formals_of as formals_in, is_sound_formal}
use Rattle.stl_types.specs.declared.parameters.Formal.{Formal}
use Rattle.stl_codegen.specs.Instruction.{in_parameter_order, return_last}
use Rattle.stl_list.specs.CodeBlocks.{listed_block}
use Rattle.stl_list.specs.Parameters.{return_name}
use Rattle.stl_list.specs.Sections.{static_bytes, static_len, static_name}
use Rattle.stl_list.specs.Signatures.{Signature, formals_of_block}
use Rattle.listing_laws.specs.Passings.{in_upper_case}
use Rattle.listing_laws.proofs.declared.Cells.{byte_cell, byte_cells, plain_cell, plain_cells}
use Rattle.listing_laws.proofs.declared.Sections.{AreGrouped, IsLast, Nothing as NoLast, Returned as LastReturned, last_result, listed_cells, result_is}

-- ---- the parameters that the declarations make

abbrev pub AreIn : PartKind → List Formal → Type 0
AreIn kind fs = AllByRecursion (λ f. f.section ≡ kind) fs

plain_here : (kind : PartKind) (opens : Bool) (f : Formal) → is_parameter kind ≡ true → f.section ≡ kind → formal_here (plain_cell opens kind f) ≡ in_upper_case f ∷ []
plain_here kind opens f is section =
    let s = sym section in
    ap (λ (t : Bool). if t then record { name = upper_case_name f.name; section = kind; kind = f.kind } ∷ [] else []) is
    ∙ (λ i. record { name = upper_case_name f.name; section = s i; kind = f.kind } ∷ [])

plain_later : (kind : PartKind) (fs : List Formal) → is_parameter kind ≡ true → AreIn kind fs → formals_in (map (plain_cell false kind) fs) ≡ map in_upper_case fs
plain_later kind [] is h = refl
plain_later kind (f ∷ fs) is (one, more) =
    let here = plain_here kind false f is one in
    let rest = plain_later kind fs is more in
    λ i. here i ++ rest i

plain_all : (kind : PartKind) (fs : List Formal) → is_parameter kind ≡ true → AreIn kind fs → formals_in (plain_cells kind fs) ≡ map in_upper_case fs
plain_all kind [] is h = refl
plain_all kind (f ∷ fs) is (one, more) =
    let here = plain_here kind true f is one in
    let rest = plain_later kind fs is more in
    λ i. here i ++ rest i

no_parameters : (bytes : ℕ) → formals_in (byte_cells part.Static static_name bytes) ≡ []
no_parameters bytes = by (bytes == 0)
  where
    by : (t : Bool) → formals_in (if t then [] else byte_cell part.Static static_name bytes ∷ []) ≡ []
    by true = refl
    by false = refl

-- the return value is declared first, and is the last parameter
returned_last : (last : List Formal) (rest : List Cell) (fs : List Formal) → IsLast last → AreIn part.Output last → formals_in rest ≡ fs
    → return_last (last_result last) (formals_in (returned_cells (last_result last) ++ rest)) ≡ fs ++ map in_upper_case last
returned_last last rest fs (NoLast e) h made =
    ap (λ z. return_last (last_result z) (formals_in (returned_cells (last_result z) ++ rest))) e ∙ made ∙ sym (append-nil fs) ∙ ap (λ z. fs ++ map in_upper_case z) (sym e)
returned_last last rest fs (LastReturned f name e) h made =
    ap (λ z. return_last (last_result z) (formals_in (returned_cells (last_result z) ++ rest))) e
    ∙ (λ i. made i ++ record { name = upper_case_name (back i); section = section i; kind = f.kind } ∷ [])
    ∙ ap (λ z. fs ++ map in_upper_case z) (sym e)
  where
    back : return_name ≡ f.name
    back = sym name

    section : part.Output ≡ f.section
    section = sym ((subst (AreIn part.Output) e h).0)

pub order_again : (y : Types) (ss : List Signature) (reached : ℕ) (b : CodeBlock) (g : AreGrouped (formals_of_block ss b.id)) → AreIn part.Output g.last
    → in_parameter_order (Some (listed_block ss reached b)) (formals_in (components_of y (listed_block ss reached b))) ≡ map in_upper_case (formals_of_block ss b.id)
order_again y ss reached b g h =
    (λ i. return_last (result_is fs g i) (formals_in (cells i)))
    ∙ returned_last g.last (pi ++ (po ++ (pb ++ ps))) (map in_upper_case g.ins ++ (map in_upper_case g.outs ++ (map in_upper_case g.both ++ []))) g.ends h parts
    ∙ back
  where
    fs : List Formal
    fs = formals_of_block ss b.id

    pi : List Cell
    pi = plain_cells part.Input g.ins

    po : List Cell
    po = plain_cells part.Output g.outs

    pb : List Cell
    pb = plain_cells part.InOut g.both

    ps : List Cell
    ps = byte_cells part.Static static_name (static_bytes b)

    cells : components_of y (listed_block ss reached b) ≡ returned_cells (last_result g.last) ++ (pi ++ (po ++ (pb ++ ps)))
    cells = (listed_cells y ss reached b g).0

    parts : formals_in (pi ++ (po ++ (pb ++ ps))) ≡ map in_upper_case g.ins ++ (map in_upper_case g.outs ++ (map in_upper_case g.both ++ []))
    parts =
        flat_map-append formal_here pi (po ++ (pb ++ ps))
        ∙ ap (λ z. formals_in pi ++ z) (flat_map-append formal_here po (pb ++ ps) ∙ ap (λ z. formals_in po ++ z) (flat_map-append formal_here pb ps))
        ∙ (λ i. plain_all part.Input g.ins refl g.input.sections i
        ++ (plain_all part.Output g.outs refl g.output.sections i ++ (plain_all part.InOut g.both refl g.in_out.sections i ++ no_parameters (static_bytes b) i)))

    back : (map in_upper_case g.ins ++ (map in_upper_case g.outs ++ (map in_upper_case g.both ++ []))) ++ map in_upper_case g.last ≡ map in_upper_case fs
    back =
        append_assoc (map in_upper_case g.ins) (map in_upper_case g.outs ++ (map in_upper_case g.both ++ [])) (map in_upper_case g.last)
        ∙ ap (λ z. map in_upper_case g.ins ++ z)
        (append_assoc (map in_upper_case g.outs) (map in_upper_case g.both ++ []) (map in_upper_case g.last)
        ∙ ap (λ z. map in_upper_case g.outs ++ z) (ap (λ z. z ++ map in_upper_case g.last) (append-nil (map in_upper_case g.both)) ∙ sym (map-append in_upper_case g.both g.last))
        ∙ sym (map-append in_upper_case g.outs (g.both ++ g.last)))
        ∙ sym (map-append in_upper_case g.ins (g.outs ++ (g.both ++ g.last))) ∙ ap (map in_upper_case) (sym g.are)

-- ---- each of them is sound and of elementary type

-- a component that is a parameter
pub record IsPlainCell (c : Cell) : Type 0 where
  pub kind : Simple
  pub of_kind : c.of ≡ Plain kind
  pub sound : c.sound ≡ true
  pub bounds : c.bounds ≡ []
  pub level : c.level ≡ 0
  pub parameter : is_parameter c.section ≡ true

plain_is : (kind : PartKind) (opens : Bool) (f : Formal) → is_parameter kind ≡ true → IsPlainCell (plain_cell opens kind f)
plain_is kind opens f is = record { kind = f.kind; of_kind = refl; sound = refl; bounds = refl; level = refl; parameter = is }

later_are : (kind : PartKind) (fs : List Formal) → is_parameter kind ≡ true → AllByRecursion IsPlainCell (map (plain_cell false kind) fs)
later_are kind [] is = tt
later_are kind (f ∷ fs) is = (plain_is kind false f is, later_are kind fs is)

plains_are : (kind : PartKind) (fs : List Formal) → is_parameter kind ≡ true → AllByRecursion IsPlainCell (plain_cells kind fs)
plains_are kind [] is = tt
plains_are kind (f ∷ fs) is = (plain_is kind true f is, later_are kind fs is)

returned_are : (result : Option Simple) → AllByRecursion IsPlainCell (returned_cells result)
returned_are None = tt
returned_are (Some k) = (record { kind = k; of_kind = refl; sound = refl; bounds = refl; level = refl; parameter = refl }, tt)

-- all components of a block that is no function block
pub all_plain : (y : Types) (ss : List Signature) (reached : ℕ) (b : CodeBlock) → AreGrouped (formals_of_block ss b.id) → is_function_block b.id.kind ≡ false
    → AllByRecursion IsPlainCell (components_of y (listed_block ss reached b))
all_plain y ss reached b g other =
    subst (AllByRecursion IsPlainCell) (sym cells)
    (all_append IsPlainCell (returned_cells (last_result g.last)) _ (returned_are (last_result g.last))
    (all_append IsPlainCell (plain_cells part.Input g.ins) _ (plains_are part.Input g.ins refl)
    (all_append IsPlainCell (plain_cells part.Output g.outs) _ (plains_are part.Output g.outs refl)
    (all_append IsPlainCell (plain_cells part.InOut g.both) [] (plains_are part.InOut g.both refl) tt))))
  where
    none : static_bytes b ≡ 0
    none = ap (λ (t : Bool). if t then static_len b.instance_len b.params else 0) other

    cells : components_of y (listed_block ss reached b)
        ≡ returned_cells (last_result g.last) ++ (plain_cells part.Input g.ins ++ (plain_cells part.Output g.outs ++ (plain_cells part.InOut g.both ++ [])))
    cells =
        (listed_cells y ss reached b g).0
        ∙ ap (λ n. returned_cells (last_result g.last) ++ (plain_cells part.Input g.ins ++ (plain_cells part.Output g.outs ++ (plain_cells part.InOut g.both ++ byte_cells part.Static static_name n)))) none

-- whatever block it is, no parameter of it breaks a rule
abbrev IsSoundCell : Cell → Type 0
IsSoundCell c = is_sound_formal c ≡ true

plain_sound : (c : Cell) → IsPlainCell c → IsSoundCell c
plain_sound c h = by (is_parameter c.section)
  where
    by : (t : Bool) → (if t then c.sound else true) ≡ true
    by true = h.sound
    by false = refl

plains_sound : (cs : List Cell) → AllByRecursion IsPlainCell cs → AllByRecursion IsSoundCell cs
plains_sound [] h = tt
plains_sound (c ∷ cs) (one, more) = (plain_sound c one, plains_sound cs more)

bytes_sound : (bytes : ℕ) → AllByRecursion IsSoundCell (byte_cells part.Static static_name bytes)
bytes_sound bytes = by (bytes == 0)
  where
    by : (t : Bool) → AllByRecursion IsSoundCell (if t then [] else byte_cell part.Static static_name bytes ∷ [])
    by true = tt
    by false = (refl, tt)

all_listed : (cs : List Cell) → AllByRecursion IsSoundCell cs → list_all is_sound_formal cs ≡ true
all_listed [] h = refl
all_listed (c ∷ cs) (one, more) = ap (λ (t : Bool). t && list_all is_sound_formal cs) one ∙ all_listed cs more

pub all_sound : (y : Types) (ss : List Signature) (reached : ℕ) (b : CodeBlock) → AreGrouped (formals_of_block ss b.id) → list_all is_sound_formal (components_of y (listed_block ss reached b)) ≡ true
all_sound y ss reached b g =
    ap (list_all is_sound_formal) (listed_cells y ss reached b g).0
    ∙ all_listed _
    (all_append IsSoundCell (returned_cells (last_result g.last)) _ (plains_sound _ (returned_are (last_result g.last)))
    (all_append IsSoundCell (plain_cells part.Input g.ins) _ (plains_sound _ (plains_are part.Input g.ins refl))
    (all_append IsSoundCell (plain_cells part.Output g.outs) _ (plains_sound _ (plains_are part.Output g.outs refl))
    (all_append IsSoundCell (plain_cells part.InOut g.both) _ (plains_sound _ (plains_are part.InOut g.both refl)) (bytes_sound (static_bytes b))))))
