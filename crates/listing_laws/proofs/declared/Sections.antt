-- The sections of a listed code block, and the cells in them.
use Rattle.std.proofs.Common.{◌≡◌, ℕ, suc, ◌+◌, ◌<◌, ◌^◌, Bool, true, false, not, ◌&&◌, List, [], ◌∷◌, ◌++◌, append-nil, append_assoc, length, map, flat_map, Option, Some, None, refl, sym, ap, subst, ◌∙◌, arith}
use Rattle.std.specs.Prelude.{◌==◌, find, if◌then◌else◌, max, nat_eq}
use Rattle.std.specs.List.{AllByRecursion}
use Rattle.std.specs.Option.{option_map}
use Rattle.std.specs.Str.{bytes_eq}
use Rattle.std.proofs.lemmas.Bool.{and_from}
use Rattle.std.proofs.lemmas.Bool.Decides.{nat_tests}
use Rattle.std.proofs.lemmas.Grind.{flat_map-append}
use Rattle.plc_base.proofs.ListLemmas.{all_append}
use Rattle.plc_base.specs.Folding.{upper_case_name}
use Rattle.flat_code.specs.Programs.{CodeBlock}
use Rattle.stl_ast.specs.Blocks.{part_rank}
use Rattle.stl_ast.specs.declared.blocks.Part.{Part}
use Rattle.stl_ast.specs.declared.blocks.PartKind.{PartKind}
use Rattle.stl_ast.specs.declared.blocks.PartKind.TheVariants as part
use Rattle.stl_ast.specs.declared.declarations.Declaration.{Declaration}
use Rattle.stl_ast.specs.declared.declarations.Simple.{Simple}
use Rattle.block_layout.specs.Around.{Outside, of_sections, declarations_before_next, returned_names}
use Rattle.block_layout.specs.Cells.{cells_of, components_of, is_temp, with_first_cell_opening, returned_cells, section_cells, temps_of}
use Rattle.block_layout.specs.Rule21.{names_before}
use Rattle.block_layout.specs.Types.{Types}
use Rattle.block_layout.specs.declared.cells.Cell.{Cell}
use Rattle.stl_types.specs.declared.parameters.Formal.{Formal}
use Rattle.stl_list.specs.CodeBlocks.{listed_block, result_of}
use Rattle.stl_list.specs.Lines.{first_statement_line}
use Rattle.stl_list.specs.Parameters.{is_return, return_name}
use Rattle.stl_list.specs.Sections.{byte_array, bytes_here, declared_here, declarations_of_section, is_declared_in, plain_declaration, section_part, section_parts, static_bytes, static_name, temporary_name}
use Rattle.stl_list.specs.Signatures.{Signature, formals_of_block}
use Rattle.listing_laws.proofs.declared.Apart.{AreTaken, IsTaken, Returned as ReturnTaken, Static as StaticTaken, static_new, taken_static, temporary_new}
use Rattle.listing_laws.proofs.declared.Cells.{AreNumbered, byte_cells, bytes_listed, plain_cell, plain_cells, plain_listed, plain_opened}

pub some_items : (d : Declaration) (ds : List Declaration) → (length (d ∷ ds) == 0) ≡ false
some_items d ds = grind (arith, nat_tests)

-- a section without content is as one with none
section_here : (y : Types) (o : Outside) (wanted : PartKind → Bool) (before : List Declaration) (line : ℕ) (kind : PartKind) (items : List Declaration) (rest : List Part)
    → section_cells y o wanted before (section_part line kind items ++ rest) ≡ (if wanted kind then with_first_cell_opening (cells_of y o kind before items) else []) ++ section_cells y o wanted (declarations_before_next before items) rest
section_here y o wanted before line kind [] rest = by (wanted kind)
  where
    by : (t : Bool) → section_cells y o wanted before rest ≡ (if t then [] else []) ++ section_cells y o wanted before rest
    by true = refl
    by false = refl
section_here y o wanted before line kind (d ∷ ds) rest = let some = some_items d ds in rw some refl

section_then : (y : Types) (o : Outside) (wanted : PartKind → Bool) (before : List Declaration) (line : ℕ) (kind : PartKind) (items : List Declaration) (rest : List Part) (cells : List Cell)
    → section_cells y o wanted (declarations_before_next before items) rest ≡ cells
    → section_cells y o wanted before (section_part line kind items ++ rest) ≡ (if wanted kind then with_first_cell_opening (cells_of y o kind before items) else []) ++ cells
section_then y o wanted before line kind items rest cells e =
    section_here y o wanted before line kind items rest ∙ ap (λ z. (if wanted kind then with_first_cell_opening (cells_of y o kind before items) else []) ++ z) e

-- ---- parameters by their sections

-- parameters of a section, with names from a number on
pub record AreIn (kind : PartKind) (i : ℕ) (fs : List Formal) : Type 0 where
  pub named : AreNumbered i fs
  pub sections : AllByRecursion (λ f. f.section ≡ kind) fs

-- the return value, if there is one
pub data IsLast (fs : List Formal) : Type 0 where
  Nothing : fs ≡ [] → IsLast fs
  Returned : (f : Formal) → f.name ≡ return_name → fs ≡ f ∷ [] → IsLast fs

-- parameters in the order of an image
pub record AreGrouped (fs : List Formal) : Type 0 where
  pub ins : List Formal
  pub outs : List Formal
  pub both : List Formal
  pub last : List Formal
  pub are : fs ≡ ins ++ (outs ++ (both ++ last))
  pub input : AreIn part.Input 0 ins
  pub output : AreIn part.Output (length ins) outs
  pub in_out : AreIn part.InOut (length ins + length outs) both
  pub ends : IsLast last
  pub short : length ins + length outs + length both < 2 ^ 64

not_return : (i : ℕ) (fs : List Formal) → AreNumbered i fs → AllByRecursion (λ f. is_return f ≡ false) fs
not_return i [] h = tt
not_return i (f ∷ fs) (name, named) = (ap (λ n. bytes_eq n return_name) name, not_return (suc i) fs named)

same_rank : (kind : PartKind) → nat_eq (part_rank kind) (part_rank kind) ≡ true
same_rank part.Input = refl
same_rank part.Output = refl
same_rank part.InOut = refl
same_rank part.Static = refl
same_rank part.Temp = refl

declared_same : (line : ℕ) (kind : PartKind) (fs : List Formal) → AllByRecursion (λ f. f.section ≡ kind) fs → AllByRecursion (λ f. is_return f ≡ false) fs
    → declarations_of_section line fs kind ≡ map (plain_declaration line) fs
declared_same line kind [] h k = refl
declared_same line kind (f ∷ fs) (is, more) (other, others) =
    let here : is_declared_in kind f ≡ true = and_from _ _ (ap (λ s. nat_eq (part_rank s) (part_rank kind)) is ∙ same_rank kind) (ap not other) in
    rw here (ap (λ ds. plain_declaration line f ∷ ds) (declared_same line kind fs more others))

declared_other : (line : ℕ) (own kind : PartKind) (fs : List Formal) → nat_eq (part_rank own) (part_rank kind) ≡ false → AllByRecursion (λ f. f.section ≡ own) fs
    → declarations_of_section line fs kind ≡ []
declared_other line own kind [] apart h = refl
declared_other line own kind (f ∷ fs) apart (is, more) =
    let away : nat_eq (part_rank f.section) (part_rank kind) ≡ false = ap (λ s. nat_eq (part_rank s) (part_rank kind)) is ∙ apart in
    rw away (declared_other line own kind fs apart more)

declared_last : (line : ℕ) (kind : PartKind) (fs : List Formal) → IsLast fs → declarations_of_section line fs kind ≡ []
declared_last line kind fs (Nothing e) = ap (λ z. declarations_of_section line z kind) e
declared_last line kind fs (Returned f name e) = ap (λ z. declarations_of_section line z kind) e ∙ alone
  where
    is : is_return f ≡ true
    is = ap (λ n. bytes_eq n return_name) name

    alone : declarations_of_section line (f ∷ []) kind ≡ []
    alone = by (nat_eq (part_rank f.section) (part_rank kind)) (is_return f) is
      where
        by : (a t : Bool) → t ≡ true → (if a && not t then plain_declaration line f ∷ [] else []) ++ [] ≡ []
        by true true e = refl
        by true false e = absurd cc
        by false t e = refl

declared_groups : (line : ℕ) (kind : PartKind) (ps qs rs ts : List Formal)
    → declarations_of_section line (ps ++ (qs ++ (rs ++ ts))) kind ≡ declarations_of_section line ps kind ++ (declarations_of_section line qs kind ++ (declarations_of_section line rs kind ++ declarations_of_section line ts kind))
declared_groups line kind ps qs rs ts =
    let f = declared_here line kind in
    flat_map-append f ps (qs ++ (rs ++ ts))
    ∙ ap (λ z. flat_map f ps ++ z) (flat_map-append f qs (rs ++ ts) ∙ ap (λ z. flat_map f qs ++ z) (flat_map-append f rs ts))

four_joined : {A : Type 0} (ps qs rs ts ps' qs' rs' ts' : List A) → ps ≡ ps' → qs ≡ qs' → rs ≡ rs' → ts ≡ ts' → ps ++ (qs ++ (rs ++ ts)) ≡ ps' ++ (qs' ++ (rs' ++ ts'))
four_joined ps qs rs ts ps' qs' rs' ts' a b c d = λ i. a i ++ (b i ++ (c i ++ d i))

pub declared_input : (line : ℕ) (fs : List Formal) (g : AreGrouped fs) → declarations_of_section line fs part.Input ≡ map (plain_declaration line) g.ins
declared_input line fs g =
    ap (λ z. declarations_of_section line z part.Input) g.are ∙ declared_groups line part.Input g.ins g.outs g.both g.last
    ∙ four_joined _ _ _ _ (map (plain_declaration line) g.ins) [] [] []
    (declared_same line part.Input g.ins g.input.sections (not_return 0 g.ins g.input.named))
    (declared_other line part.Output part.Input g.outs refl g.output.sections)
    (declared_other line part.InOut part.Input g.both refl g.in_out.sections)
    (declared_last line part.Input g.last g.ends)
    ∙ append-nil (map (plain_declaration line) g.ins)

pub declared_output : (line : ℕ) (fs : List Formal) (g : AreGrouped fs) → declarations_of_section line fs part.Output ≡ map (plain_declaration line) g.outs
declared_output line fs g =
    ap (λ z. declarations_of_section line z part.Output) g.are ∙ declared_groups line part.Output g.ins g.outs g.both g.last
    ∙ four_joined _ _ _ _ [] (map (plain_declaration line) g.outs) [] []
    (declared_other line part.Input part.Output g.ins refl g.input.sections)
    (declared_same line part.Output g.outs g.output.sections (not_return (length g.ins) g.outs g.output.named))
    (declared_other line part.InOut part.Output g.both refl g.in_out.sections)
    (declared_last line part.Output g.last g.ends)
    ∙ append-nil (map (plain_declaration line) g.outs)

pub declared_in_out : (line : ℕ) (fs : List Formal) (g : AreGrouped fs) → declarations_of_section line fs part.InOut ≡ map (plain_declaration line) g.both
declared_in_out line fs g =
    ap (λ z. declarations_of_section line z part.InOut) g.are ∙ declared_groups line part.InOut g.ins g.outs g.both g.last
    ∙ four_joined _ _ _ _ [] [] (map (plain_declaration line) g.both) []
    (declared_other line part.Input part.InOut g.ins refl g.input.sections)
    (declared_other line part.Output part.InOut g.outs refl g.output.sections)
    (declared_same line part.InOut g.both g.in_out.sections (not_return (length g.ins + length g.outs) g.both g.in_out.named))
    (declared_last line part.InOut g.last g.ends)
    ∙ append-nil (map (plain_declaration line) g.both)

-- ---- the return value

abbrev pub last_result : List Formal → Option Simple
last_result [] = None
last_result (f ∷ fs) = Some f.kind

find_behind : (fs rest : List Formal) → AllByRecursion (λ f. is_return f ≡ false) fs → find is_return (fs ++ rest) ≡ find is_return rest
find_behind [] rest h = refl
find_behind (f ∷ fs) rest (other, others) = rw other (find_behind fs rest others)

find_last : (fs : List Formal) → IsLast fs → option_map (λ f. f.kind) (find is_return fs) ≡ last_result fs
find_last fs (Nothing e) = rw e refl
find_last fs (Returned f name e) =
    let is : is_return f ≡ true = ap (λ n. bytes_eq n return_name) name in
    ap (λ z. option_map (λ (f : Formal). f.kind) (find is_return z)) e ∙ ap (λ t. option_map (λ (f : Formal). f.kind) (if t then Some f else None)) is ∙ ap last_result (sym e)

pub result_is : (fs : List Formal) (g : AreGrouped fs) → result_of fs ≡ last_result g.last
result_is fs g =
    ap result_of g.are
    ∙ ap (option_map (λ (f : Formal). f.kind))
    (find_behind g.ins (g.outs ++ (g.both ++ g.last)) (not_return 0 g.ins g.input.named)
    ∙ find_behind g.outs (g.both ++ g.last) (not_return (length g.ins) g.outs g.output.named)
    ∙ find_behind g.both g.last (not_return (length g.ins + length g.outs) g.both g.in_out.named))
    ∙ find_last g.last g.ends

-- ---- the cells

five_sections : (y : Types) (o : Outside) (wanted : PartKind → Bool) (line : ℕ) (i q b s t : List Declaration)
    → section_cells y o wanted [] (section_part line part.Input i ++ section_part line part.Output q ++ section_part line part.InOut b ++ section_part line part.Static s ++ section_part line part.Temp t)
    ≡ (if wanted part.Input then with_first_cell_opening (cells_of y o part.Input [] i) else [])
    ++ ((if wanted part.Output then with_first_cell_opening (cells_of y o part.Output (declarations_before_next [] i) q) else [])
    ++ ((if wanted part.InOut then with_first_cell_opening (cells_of y o part.InOut (declarations_before_next (declarations_before_next [] i) q) b) else [])
    ++ ((if wanted part.Static then with_first_cell_opening (cells_of y o part.Static (declarations_before_next (declarations_before_next (declarations_before_next [] i) q) b) s) else [])
    ++ ((if wanted part.Temp then with_first_cell_opening (cells_of y o part.Temp (declarations_before_next (declarations_before_next (declarations_before_next (declarations_before_next [] i) q) b) s) t) else []) ++ []))))
five_sections y o wanted line i q b s t =
    ap (section_cells y o wanted []) right
    ∙ section_then y o wanted [] line part.Input i (sq ++ (sb ++ (ss ++ (st ++ [])))) _
    (section_then y o wanted (declarations_before_next [] i) line part.Output q (sb ++ (ss ++ (st ++ []))) _
    (section_then y o wanted (declarations_before_next (declarations_before_next [] i) q) line part.InOut b (ss ++ (st ++ [])) _
    (section_then y o wanted (declarations_before_next (declarations_before_next (declarations_before_next [] i) q) b) line part.Static s (st ++ []) _
    (section_here y o wanted (declarations_before_next (declarations_before_next (declarations_before_next (declarations_before_next [] i) q) b) s) line part.Temp t []))))
  where
    si : List Part
    si = section_part line part.Input i

    sq : List Part
    sq = section_part line part.Output q

    sb : List Part
    sb = section_part line part.InOut b

    ss : List Part
    ss = section_part line part.Static s

    st : List Part
    st = section_part line part.Temp t

    right : si ++ sq ++ sb ++ ss ++ st ≡ si ++ (sq ++ (sb ++ (ss ++ (st ++ []))))
    right =
        append_assoc (si ++ sq ++ sb) ss st ∙ append_assoc (si ++ sq) sb (ss ++ st) ∙ append_assoc si sq (sb ++ (ss ++ st))
        ∙ ap (λ z. si ++ (sq ++ (sb ++ (ss ++ z)))) (sym (append-nil st))

-- the cells of the sections of a listed block, and of VAR_TEMP
pub record HasCells (y : Types) (o : Outside) (line : ℕ) (fs : List Formal) (g : AreGrouped fs) (b : CodeBlock) : Type 0 where
  pub components : section_cells y o (λ k. not (is_temp k)) [] (section_parts line fs b)
      ≡ plain_cells part.Input g.ins ++ (plain_cells part.Output g.outs ++ (plain_cells part.InOut g.both ++ byte_cells part.Static static_name (static_bytes b)))
  pub temps : section_cells y o is_temp [] (section_parts line fs b) ≡ byte_cells part.Temp temporary_name b.local_len

pub sections_cells : (y : Types) (o : Outside) (line : ℕ) (fs : List Formal) (g : AreGrouped fs) (b : CodeBlock) → o.depth ≡ 0 → AreTaken 0 false o.names → HasCells y o line fs g b
unfolding section_parts
sections_cells y o line fs g b shallow taken = record {
  components = parts (λ k. not (is_temp k)) ∙ four_joined _ _ _ _ (plain_cells part.Input g.ins) (plain_cells part.Output g.outs) (plain_cells part.InOut g.both) static_ first second third last;
  temps = parts is_temp ∙ append-nil _ ∙ fifth;
}
  where
    i : List Declaration
    i = map (plain_declaration line) g.ins

    q : List Declaration
    q = map (plain_declaration line) g.outs

    both : List Declaration
    both = map (plain_declaration line) g.both

    s : List Declaration
    s = bytes_here line static_name (static_bytes b) []

    t : List Declaration
    t = bytes_here line temporary_name b.local_len []

    static_ : List Cell
    static_ = byte_cells part.Static static_name (static_bytes b)

    parts : (wanted : PartKind → Bool) → section_cells y o wanted [] (section_parts line fs b)
        ≡ (if wanted part.Input then with_first_cell_opening (cells_of y o part.Input [] i) else [])
        ++ ((if wanted part.Output then with_first_cell_opening (cells_of y o part.Output (declarations_before_next [] i) q) else [])
        ++ ((if wanted part.InOut then with_first_cell_opening (cells_of y o part.InOut (declarations_before_next (declarations_before_next [] i) q) both) else [])
        ++ ((if wanted part.Static then with_first_cell_opening (cells_of y o part.Static (declarations_before_next (declarations_before_next (declarations_before_next [] i) q) both) s) else [])
        ++ ((if wanted part.Temp then with_first_cell_opening (cells_of y o part.Temp (declarations_before_next (declarations_before_next (declarations_before_next (declarations_before_next [] i) q) both) s) t) else []) ++ []))))
    parts wanted =
        (λ n. section_cells y o wanted [] (section_part line part.Input (declared_input line fs g n) ++ section_part line part.Output (declared_output line fs g n)
        ++ section_part line part.InOut (declared_in_out line fs g n) ++ section_part line part.Static s ++ section_part line part.Temp t))
        ∙ five_sections y o wanted line i q both s t

    one : (cells_of y o part.Input [] i ≡ map (plain_cell false part.Input) g.ins) × AreTaken (0 + length g.ins) false (names_before o.names 0 (declarations_before_next [] i))
    one = plain_listed y o part.Input [] line 0 false g.ins shallow g.input.named (omega (arith, g.short)) taken

    from_first : 0 + length g.ins ≡ length g.ins
    from_first = omega arith

    two : (cells_of y o part.Output (declarations_before_next [] i) q ≡ map (plain_cell false part.Output) g.outs) × AreTaken (length g.ins + length g.outs) false (names_before o.names 0 (declarations_before_next (declarations_before_next [] i) q))
    two =
        plain_listed y o part.Output (declarations_before_next [] i) line (length g.ins) false g.outs shallow g.output.named (omega (arith, g.short))
        (subst (λ n. AreTaken n false (names_before o.names 0 (declarations_before_next [] i))) from_first one.1)

    three : (cells_of y o part.InOut (declarations_before_next (declarations_before_next [] i) q) both ≡ map (plain_cell false part.InOut) g.both)
        × AreTaken (length g.ins + length g.outs + length g.both) false (names_before o.names 0 (declarations_before_next (declarations_before_next (declarations_before_next [] i) q) both))
    three = plain_listed y o part.InOut (declarations_before_next (declarations_before_next [] i) q) line (length g.ins + length g.outs) false g.both shallow g.in_out.named (omega (arith, g.short)) two.1

    first : with_first_cell_opening (cells_of y o part.Input [] i) ≡ plain_cells part.Input g.ins
    first = ap with_first_cell_opening one.0 ∙ plain_opened part.Input g.ins

    second : with_first_cell_opening (cells_of y o part.Output (declarations_before_next [] i) q) ≡ plain_cells part.Output g.outs
    second = ap with_first_cell_opening two.0 ∙ plain_opened part.Output g.outs

    third : with_first_cell_opening (cells_of y o part.InOut (declarations_before_next (declarations_before_next [] i) q) both) ≡ plain_cells part.InOut g.both
    third = ap with_first_cell_opening three.0 ∙ plain_opened part.InOut g.both

    last : with_first_cell_opening (cells_of y o part.Static (declarations_before_next (declarations_before_next (declarations_before_next [] i) q) both) s) ++ ([] ++ []) ≡ static_
    last =
        append-nil _
        ∙ bytes_listed y o part.Static (declarations_before_next (declarations_before_next (declarations_before_next [] i) q) both) line static_name (static_bytes b) shallow
        (static_new (length g.ins + length g.outs + length g.both) _ three.1)

    behind : AreTaken (length g.ins + length g.outs + length g.both) true (names_before o.names 0 (declarations_before_next (declarations_before_next (declarations_before_next (declarations_before_next [] i) q) both) s))
    behind = by (static_bytes b == 0)
      where
        count : ℕ
        count = length g.ins + length g.outs + length g.both

        before : List Declaration
        before = declarations_before_next (declarations_before_next (declarations_before_next [] i) q) both

        by : (t : Bool) → AreTaken count true (names_before o.names 0 (declarations_before_next before (if t then [] else byte_array line static_name (static_bytes b) [] ∷ [])))
        by true = taken_static count (names_before o.names 0 before) three.1
        by false =
            all_append (IsTaken count true) (names_before o.names 0 before) (upper_case_name static_name ∷ []) (taken_static count (names_before o.names 0 before) three.1)
            (StaticTaken refl refl, tt)

    fifth : with_first_cell_opening (cells_of y o part.Temp (declarations_before_next (declarations_before_next (declarations_before_next (declarations_before_next [] i) q) both) s) t) ≡ byte_cells part.Temp temporary_name b.local_len
    fifth =
        bytes_listed y o part.Temp (declarations_before_next (declarations_before_next (declarations_before_next (declarations_before_next [] i) q) both) s) line temporary_name b.local_len shallow
        (temporary_new (length g.ins + length g.outs + length g.both) true _ behind)

-- ---- of a listed block

pub names_taken : (fs : List Formal) → AreTaken 0 false (returned_names (last_result fs))
names_taken [] = tt
names_taken (f ∷ fs) = (ReturnTaken refl, tt)

pub listed_cells : (y : Types) (ss : List Signature) (reached : ℕ) (b : CodeBlock) (g : AreGrouped (formals_of_block ss b.id))
    → (components_of y (listed_block ss reached b)
    ≡ returned_cells (last_result g.last) ++ (plain_cells part.Input g.ins ++ (plain_cells part.Output g.outs ++ (plain_cells part.InOut g.both ++ byte_cells part.Static static_name (static_bytes b)))))
    × (temps_of y (listed_block ss reached b) ≡ byte_cells part.Temp temporary_name b.local_len)
listed_cells y ss reached b g =
    let line = max reached (first_statement_line b) in
    let fs = formals_of_block ss b.id in
    let o : Outside = of_sections (listed_block ss reached b) in
    let result = result_is fs g in
    let taken : AreTaken 0 false o.names = subst (λ r. AreTaken 0 false (returned_names r)) (sym result) (names_taken g.last) in
    let cells = sections_cells y o line fs g b refl taken in
    (append-nil _ ∙ (λ n. returned_cells (result n) ++ cells.components n), cells.temps)
