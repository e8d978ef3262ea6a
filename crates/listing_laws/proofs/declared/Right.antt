-- The declarations of listed blocks break no rule.
use Rattle.std.proofs.Common.{◌≡◌, ℕ, suc, ◌+◌, ◌-◌, ◌<◌, ◌≤◌, ◌^◌, Bool, true, false, max, not, List, [], ◌∷◌, ◌++◌, append-nil, append_assoc, length, map, flat_map, pos, Option, Some, None, is_some, refl, sym, ap, subst, ◌∙◌, arith}
use Rattle.std.specs.Prelude.{◌==◌, ◌&&◌, if◌then◌else◌, int_lt, nat_le, nat_lt}
use Rattle.std.proofs.lemmas.Bool.Decides.{nat_tests}
use Rattle.plc_base.proofs.ListLemmas.{all_append}
use Rattle.plc_base.specs.Folding.{upper_case_name}
use Rattle.plc_base.specs.RefusalsAlong.{refusals_along}
use Rattle.plc_base.specs.Least.{broken_if}
use Rattle.flat_code.specs.Programs.{CodeBlock}
use Rattle.stl_ast.specs.declared.blocks.Block.{Block}
use Rattle.stl_ast.specs.declared.blocks.Part.{Part}
use Rattle.stl_ast.specs.declared.blocks.PartKind.{PartKind}
use Rattle.stl_ast.specs.declared.blocks.PartKind.TheVariants as part
use Rattle.stl_ast.specs.declared.declarations.Declaration.{Declaration}
use Rattle.stl_ast.specs.declared.declarations.Init.{Init}
use Rattle.stl_symbols.specs.Names.{name_place}
use Rattle.block_layout.specs.Around.{Outside, refusals_in_list, of_sections, of_structure, declarations_before_next, returned_names, section_declarations}
use Rattle.block_layout.specs.Cells.{cells_of}
use Rattle.block_layout.specs.Declarations.{has_upside_down, init_fits, is_unknown_type}
use Rattle.block_layout.specs.Rule21.{refusals_21, is_twice, names_before}
use Rattle.block_layout.specs.Rule23.{refusals_23}
use Rattle.block_layout.specs.Rule41.{refusals_41}
use Rattle.block_layout.specs.Rule42.{refusals_42}
use Rattle.block_layout.specs.Rule56.{refusals_56, is_too_deep}
use Rattle.block_layout.specs.Types.{Types}
use Rattle.stl_types.specs.declared.parameters.Formal.{Formal}
use Rattle.stl_list.specs.DataBlocks.{listed_data}
use Rattle.stl_list.specs.CodeBlocks.{listed_block}
use Rattle.stl_list.specs.Lines.{first_statement_line}
use Rattle.stl_list.specs.Sections.{byte_array, bytes_here, data_name, plain_declaration, section_part, section_parts, static_bytes, static_name, temporary_name}
use Rattle.stl_list.specs.Signatures.{Signature, formals_of_block}
use Rattle.stl_list.specs.Initial.{values_of}
use Rattle.sem_kept.proofs.accepted.RecordParams.{AllBefore, IsNew, none_around}
use Rattle.listing_laws.specs.Rules.{AreDeclarationsRight}
use Rattle.listing_laws.proofs.declared.Apart.{AreTaken, IsTaken, Static as StaticTaken, static_new, taken_static, temporary_new}
use Rattle.listing_laws.proofs.declared.Cells.{AreNumbered, plain_cell, plain_listed, plain_new, taken_next}
use Rattle.listing_laws.proofs.declared.Own.{values_fit}
use Rattle.listing_laws.proofs.declared.Sections.{AreGrouped, declared_in_out, declared_input, declared_output, names_taken, result_is, some_items}

-- ---- one declaration

-- an array inside so many structures opens the ninth one
abbrev is_deep : ℕ → Bool
is_deep m = nat_le (m + 0) 8 && nat_lt 8 (m + 0 + (1 + 0))

-- it breaks none of the rules of declarations, behind those before it
pub record IsRight (y : Types) (o : Outside) (before : List Declaration) (d : Declaration) : Type 0 where
  pub twice : is_twice o before d ≡ false
  pub known : is_unknown_type y d.of.of ≡ false
  pub fit : not (init_fits d) ≡ false
  pub upside : has_upside_down d ≡ false
  pub deep : is_too_deep y o before d ≡ false

pub plain_right : (y : Types) (o : Outside) (before : List Declaration) (line : ℕ) (f : Formal) → o.depth ≡ 0 → IsNew o before (plain_declaration line f) → IsRight y o before (plain_declaration line f)
plain_right y o before line f shallow new = record { twice = new.0; known = refl; fit = new.1; upside = refl; deep = deep }
  where
    deep : is_too_deep y o before (plain_declaration line f) ≡ false
    deep = let none = none_around before in rw none (rw shallow refl)

not_upside : (n : ℕ) → int_lt (pos n) (pos 0) ≡ false
not_upside n = grind arith

pub bytes_right : (y : Types) (o : Outside) (before : List Declaration) (line : ℕ) (name : List ℕ) (n : ℕ) (values : List Init) → (o.depth ≤ 1) → is_some (name_place (upper_case_name name) (names_before o.names 0 before)) ≡ false
    → init_fits (byte_array line name n values) ≡ true → IsRight y o before (byte_array line name n values)
bytes_right y o before line name n values shallow new fit = record { twice = new; known = refl; fit = ap not fit; upside = upside; deep = deep }
  where
    upside : has_upside_down (byte_array line name n values) ≡ false
    upside = let up = not_upside (n - 1) in rw up refl

    few : (m : ℕ) → m ≤ 1 → is_deep m ≡ false
    few m h = grind (arith, nat_tests)

    deep : is_too_deep y o before (byte_array line name n values) ≡ false
    deep = let none = none_around before in rw none (few o.depth shallow)

-- ---- lists of declarations

none_gathered : (breaks : List Declaration → Declaration → Bool) (rule : ℕ) (before ds : List Declaration) → AllBefore (λ before d. breaks before d ≡ false) before ds
    → refusals_along (λ d. false) (λ before d. broken_if (breaks before d) d.line rule) (λ before d. d ∷ before) before ds ≡ []
none_gathered breaks rule before [] h = refl
none_gathered breaks rule before (d ∷ ds) (one, more) = rw one (none_gathered breaks rule (d ∷ before) ds more)

before_weaker : (P Q : List Declaration → Declaration → Type 0) → ((before : List Declaration) (d : Declaration) → P before d → Q before d) → (before ds : List Declaration) → AllBefore P before ds → AllBefore Q before ds
before_weaker P Q f before [] h = tt
before_weaker P Q f before (d ∷ ds) (one, more) = (f before d one, before_weaker P Q f (d ∷ before) ds more)

pub before_append : (P : List Declaration → Declaration → Type 0) (before ds es : List Declaration) → AllBefore P before ds → AllBefore P (declarations_before_next before ds) es → AllBefore P before (ds ++ es)
before_append P before [] es h k = k
before_append P before (d ∷ ds) es (one, more) k = (one, before_append P (d ∷ before) ds es more k)

pub plains_right : (y : Types) (o : Outside) (before : List Declaration) (line i : ℕ) (static_ : Bool) (fs : List Formal) → o.depth ≡ 0 → AreNumbered i fs → i + length fs < 2 ^ 64
    → AreTaken i static_ (names_before o.names 0 before) → AllBefore (IsRight y o) before (map (plain_declaration line) fs)
plains_right y o before line i static_ [] shallow named h taken = tt
plains_right y o before line i static_ (f ∷ fs) shallow (name, named) h taken = (
  plain_right y o before line f shallow (plain_new o before line i static_ f name (omega (arith, h)) taken),
  plains_right y o (plain_declaration line f ∷ before) line (suc i) static_ fs shallow named (omega (arith, h)) (taken_next o.names before line i static_ f name (omega (arith, h)) taken),
)

pub bytes_here_right : (y : Types) (o : Outside) (before : List Declaration) (line : ℕ) (name : List ℕ) (n : ℕ) (values : List Init) → ((n == 0) ≡ false → IsRight y o before (byte_array line name n values))
    → AllBefore (IsRight y o) before (bytes_here line name n values)
bytes_here_right y o before line name n values h = by (n == 0) refl
  where
    by : (t : Bool) → (n == 0) ≡ t → AllBefore (IsRight y o) before (if t then [] else byte_array line name n values ∷ [])
    by true e = tt
    by false e = (h e, tt)

-- a list whose declarations are right has no refusal of these rules
pub list_right : (y : Types) (o : Outside) (ds : List Declaration) → AllBefore (IsRight y o) [] ds
    → (refusals_in_list (refusals_21 o) ds ≡ []) × (refusals_in_list (refusals_23 y o) ds ≡ []) × (refusals_in_list (refusals_41 o) ds ≡ []) × (refusals_in_list (refusals_42 o) ds ≡ []) × (refusals_in_list (refusals_56 y o) ds ≡ [])
list_right y o ds h = (
  none_gathered (is_twice o) 21 [] ds (before_weaker (IsRight y o) (λ before d. is_twice o before d ≡ false) (λ before d r. r.twice) [] ds h),
  none_gathered (λ before d. is_unknown_type y d.of.of) 23 [] ds (before_weaker (IsRight y o) (λ before d. is_unknown_type y d.of.of ≡ false) (λ before d r. r.known) [] ds h),
  none_gathered (λ before d. not (init_fits d)) 41 [] ds (before_weaker (IsRight y o) (λ before d. not (init_fits d) ≡ false) (λ before d r. r.fit) [] ds h),
  none_gathered (λ before d. has_upside_down d) 42 [] ds (before_weaker (IsRight y o) (λ before d. has_upside_down d ≡ false) (λ before d r. r.upside) [] ds h),
  none_gathered (is_too_deep y o) 56 [] ds (before_weaker (IsRight y o) (λ before d. is_too_deep y o before d ≡ false) (λ before d r. r.deep) [] ds h),
)

pub block_right : (y : Types) (b : Block) → AllBefore (IsRight y (of_sections b)) [] (section_declarations b) → AllBefore (IsRight y of_structure) [] b.components → AreDeclarationsRight y b
block_right y b h k =
    let s = list_right y (of_sections b) (section_declarations b) h in
    let c = list_right y of_structure b.components k in
    record {
      by_21 = λ i. s.0 i ++ c.0 i;
      by_23 = λ i. s.1 i ++ c.1 i;
      by_41 = λ i. s.2 i ++ c.2 i;
      by_42 = λ i. s.3 i ++ c.3 i;
      by_56 = λ i. s.4 i ++ c.4 i;
    }

-- ---- a listed code block

items_here : (line : ℕ) (kind : PartKind) (items : List Declaration) (rest : List Part) → flat_map (λ p. p.items) (section_part line kind items ++ rest) ≡ items ++ flat_map (λ p. p.items) rest
items_here line kind [] rest = refl
items_here line kind (d ∷ ds) rest = let some = some_items d ds in rw some refl

items_then : (line : ℕ) (kind : PartKind) (items : List Declaration) (rest : List Part) (others : List Declaration) → flat_map (λ p. p.items) rest ≡ others
    → flat_map (λ p. p.items) (section_part line kind items ++ rest) ≡ items ++ others
items_then line kind items rest others e = items_here line kind items rest ∙ ap (λ z. items ++ z) e

five_items : (line : ℕ) (i q b s t : List Declaration)
    → flat_map (λ (p : Part). p.items) (section_part line part.Input i ++ section_part line part.Output q ++ section_part line part.InOut b ++ section_part line part.Static s ++ section_part line part.Temp t)
    ≡ i ++ (q ++ (b ++ (s ++ t)))
five_items line i q b s t =
    ap (flat_map (λ (p : Part). p.items)) right
    ∙ items_then line part.Input i (sq ++ (sb ++ (ss ++ (st ++ [])))) _
    (items_then line part.Output q (sb ++ (ss ++ (st ++ []))) _
    (items_then line part.InOut b (ss ++ (st ++ [])) _
    (items_then line part.Static s (st ++ []) _
    (items_here line part.Temp t [] ∙ append-nil t))))
  where
    si : List Part
    si = section_part line part.Input i

    sq : List Part
    sq = section_part line part.Output q

    sb : List Part
    sb = section_part line part.InOut b

    ss : List Part
    ss = section_part line part.Static s

    st : List Part
    st = section_part line part.Temp t

    right : si ++ sq ++ sb ++ ss ++ st ≡ si ++ (sq ++ (sb ++ (ss ++ (st ++ []))))
    right =
        append_assoc (si ++ sq ++ sb) ss st ∙ append_assoc (si ++ sq) sb (ss ++ st) ∙ append_assoc si sq (sb ++ (ss ++ st))
        ∙ ap (λ z. si ++ (sq ++ (sb ++ (ss ++ z)))) (sym (append-nil st))

sections_right : (y : Types) (o : Outside) (line : ℕ) (fs : List Formal) (g : AreGrouped fs) (b : CodeBlock) → o.depth ≡ 0 → AreTaken 0 false o.names
    → AllBefore (IsRight y o) [] (flat_map (λ p. p.items) (section_parts line fs b))
unfolding section_parts
sections_right y o line fs g b shallow taken =
    subst (AllBefore (IsRight y o) []) (sym items)
    (before_append (IsRight y o) [] i (q ++ (both ++ (s ++ t))) (plains_right y o [] line 0 false g.ins shallow g.input.named (omega (arith, g.short)) taken)
    (before_append (IsRight y o) (declarations_before_next [] i) q (both ++ (s ++ t)) (plains_right y o (declarations_before_next [] i) line (length g.ins) false g.outs shallow g.output.named (omega (arith, g.short)) one_taken)
    (before_append (IsRight y o) (declarations_before_next (declarations_before_next [] i) q) both (s ++ t) (plains_right y o (declarations_before_next (declarations_before_next [] i) q) line (length g.ins + length g.outs) false g.both shallow g.in_out.named (omega (arith, g.short)) two.1)
    (before_append (IsRight y o) (declarations_before_next (declarations_before_next (declarations_before_next [] i) q) both) s t
    (bytes_here_right y o (declarations_before_next (declarations_before_next (declarations_before_next [] i) q) both) line static_name (static_bytes b) [] (λ e. bytes_right y o (declarations_before_next (declarations_before_next (declarations_before_next [] i) q) both) line static_name (static_bytes b) [] near
    (static_new (length g.ins + length g.outs + length g.both) _ three.1) refl))
    (bytes_here_right y o (declarations_before_next (declarations_before_next (declarations_before_next (declarations_before_next [] i) q) both) s) line temporary_name b.local_len [] (λ e. bytes_right y o (declarations_before_next (declarations_before_next (declarations_before_next (declarations_before_next [] i) q) both) s) line temporary_name b.local_len [] near
    (temporary_new (length g.ins + length g.outs + length g.both) true _ behind) refl))))))
  where
    i : List Declaration
    i = map (plain_declaration line) g.ins

    q : List Declaration
    q = map (plain_declaration line) g.outs

    both : List Declaration
    both = map (plain_declaration line) g.both

    s : List Declaration
    s = bytes_here line static_name (static_bytes b) []

    t : List Declaration
    t = bytes_here line temporary_name b.local_len []

    near : o.depth ≤ 1
    near = omega (arith, shallow)

    items : flat_map (λ (p : Part). p.items) (section_parts line fs b) ≡ i ++ (q ++ (both ++ (s ++ t)))
    items =
        (λ n. flat_map (λ (p : Part). p.items) (section_part line part.Input (declared_input line fs g n) ++ section_part line part.Output (declared_output line fs g n)
        ++ section_part line part.InOut (declared_in_out line fs g n) ++ section_part line part.Static s ++ section_part line part.Temp t))
        ∙ five_items line i q both s t

    one : AreTaken (0 + length g.ins) false (names_before o.names 0 (declarations_before_next [] i))
    one = (plain_listed y o part.Input [] line 0 false g.ins shallow g.input.named (omega (arith, g.short)) taken).1

    from_first : 0 + length g.ins ≡ length g.ins
    from_first = omega arith

    one_taken : AreTaken (length g.ins) false (names_before o.names 0 (declarations_before_next [] i))
    one_taken = subst (λ n. AreTaken n false (names_before o.names 0 (declarations_before_next [] i))) from_first one

    two : (cells_of y o part.Output (declarations_before_next [] i) q ≡ map (plain_cell false part.Output) g.outs) × AreTaken (length g.ins + length g.outs) false (names_before o.names 0 (declarations_before_next (declarations_before_next [] i) q))
    two = plain_listed y o part.Output (declarations_before_next [] i) line (length g.ins) false g.outs shallow g.output.named (omega (arith, g.short)) one_taken

    three : (cells_of y o part.InOut (declarations_before_next (declarations_before_next [] i) q) both ≡ map (plain_cell false part.InOut) g.both)
        × AreTaken (length g.ins + length g.outs + length g.both) false (names_before o.names 0 (declarations_before_next (declarations_before_next (declarations_before_next [] i) q) both))
    three = plain_listed y o part.InOut (declarations_before_next (declarations_before_next [] i) q) line (length g.ins + length g.outs) false g.both shallow g.in_out.named (omega (arith, g.short)) two.1

    behind : AreTaken (length g.ins + length g.outs + length g.both) true (names_before o.names 0 (declarations_before_next (declarations_before_next (declarations_before_next (declarations_before_next [] i) q) both) s))
    behind = by (static_bytes b == 0)
      where
        size : ℕ
        size = length g.ins + length g.outs + length g.both

        before : List Declaration
        before = declarations_before_next (declarations_before_next (declarations_before_next [] i) q) both

        by : (t : Bool) → AreTaken size true (names_before o.names 0 (declarations_before_next before (if t then [] else byte_array line static_name (static_bytes b) [] ∷ [])))
        by true = taken_static size (names_before o.names 0 before) three.1
        by false =
            all_append (IsTaken size true) (names_before o.names 0 before) (upper_case_name static_name ∷ []) (taken_static size (names_before o.names 0 before) three.1)
            (StaticTaken refl refl, tt)

pub code_right : (y : Types) (ss : List Signature) (reached : ℕ) (b : CodeBlock) (g : AreGrouped (formals_of_block ss b.id)) → AreDeclarationsRight y (listed_block ss reached b)
code_right y ss reached b g =
    let o : Outside = of_sections (listed_block ss reached b) in
    let result = result_is (formals_of_block ss b.id) g in
    let taken : AreTaken 0 false o.names = subst (λ r. AreTaken 0 false (returned_names r)) (sym result) (names_taken g.last) in
    block_right y (listed_block ss reached b) (sections_right y o (max reached (first_statement_line b)) (formals_of_block ss b.id) g b refl taken) tt

-- ---- a listed data block

own_right : (y : Types) (line : ℕ) (bytes : List ℕ) → AllBefore (IsRight y of_structure) [] (bytes_here line data_name (length bytes) (values_of bytes))
own_right y line [] = tt
own_right y line (b ∷ bs) =
    bytes_here_right y of_structure [] line data_name (length (b ∷ bs)) (values_of (b ∷ bs))
    (λ e. bytes_right y of_structure [] line data_name (length (b ∷ bs)) (values_of (b ∷ bs)) (omega arith) refl (values_fit line b bs))

pub data_right : (y : Types) (ss : List Signature) (line number : ℕ) (bytes : List ℕ) (of_ : Option ℕ) → AreDeclarationsRight y (listed_data ss line number bytes of_)
data_right y ss line number bytes None = block_right y (listed_data ss line number bytes None) tt (own_right y line bytes)
data_right y ss line number bytes (Some n) = block_right y (listed_data ss line number bytes (Some n)) tt tt
