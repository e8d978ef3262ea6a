-- The parameters of a called block as the source has them and as its code has them: the same, in the
-- same order, and no two with one name.
use Rattle.std.proofs.Common.{ℕ, suc, ◌≡◌, List, [], ◌∷◌, ◌++◌, append_assoc, Option, Some, None, is_some, Bool, true, false, ◌&&◌, ◌||◌, not, nat_eq, refl, sym, ◌∙◌, ap, subst, arith, map, find, bytes_eq, if◌then◌else◌, le-ltb, eq-eqb}
use Rattle.std.specs.List.{AllByRecursion, flat_map}
use Rattle.std.specs.Option.{IfSome, option_map}
use Rattle.std.proofs.lemmas.List.{append-nil, map-append}
use Rattle.std.proofs.lemmas.Grind.{flat_map-append}
use Rattle.std.proofs.lemmas.Slice.Eq.{bytes_eq-Decides}
use Rattle.plc_base.specs.Kinds.{is_function_block}
use Rattle.plc_base.specs.Widths.{width_number}
use Rattle.plc_base.specs.declared.places.Width.TheVariants as width
use Rattle.plc_base.specs.declared.blocks.BlockKind.{BlockKind}
use Rattle.flat_code.specs.Blocks.{in_record, out_record, system_params}
use Rattle.flat_code.specs.Image.{record_of_param}
use Rattle.flat_code.specs.declared.image_fields.ParameterRecord.{ParameterRecord}
use Rattle.flat_code.specs.declared.programs.Param.{Param}
use Rattle.stl_ast.specs.Blocks.{is_parameter}
use Rattle.stl_ast.specs.Declarations.{is_elementary_type}
use Rattle.stl_ast.specs.Outline.{IsOutline, level_behind}
use Rattle.stl_ast.specs.WellFormed.{AreDeclaredIn, IsBlock, IsSection}
use Rattle.stl_ast.specs.declared.blocks.Block.{Block}
use Rattle.stl_ast.specs.declared.blocks.Part.{Part}
use Rattle.stl_ast.specs.declared.blocks.PartKind.{PartKind}
use Rattle.stl_ast.specs.declared.blocks.PartKind.TheVariants as part
use Rattle.stl_ast.specs.declared.declarations.Bounds.{Bounds}
use Rattle.stl_ast.specs.declared.declarations.Declaration.{Declaration}
use Rattle.stl_ast.specs.declared.declarations.ElementType.{ElementType}
use Rattle.stl_ast.specs.declared.declarations.ElementType.TheVariants as element
use Rattle.stl_ast.specs.declared.declarations.Simple.{Simple}
use Rattle.stl_ast.specs.declared.declarations.Simple.TheVariants as simple
use Rattle.plc_base.specs.Folding.{upper_case_name}
use Rattle.plc_base.proofs.ListLemmas.{all_append}
use Rattle.stl_symbols.specs.Names.{name_place}
use Rattle.block_layout.specs.Around.{Outside, of_sections, of_structure, declarations_before_next, returned_names}
use Rattle.block_layout.specs.Cells.{breaks_rule, cell_of, cells_of, components_of, is_temp, layout_element, with_first_cell_opening, returned_cells, section_cells}
use Rattle.block_layout.specs.Offsets.{width_of}
use Rattle.block_layout.specs.Rule21.{is_twice, declaration_name_here, names_before}
use Rattle.block_layout.specs.Types.{Types}
use Rattle.block_layout.specs.declared.blocks.BlockLayout.{BlockLayout}
use Rattle.block_layout.specs.declared.cells.Cell.{Cell}
use Rattle.block_layout.specs.declared.cells.Element.{Element}
use Rattle.block_layout.specs.declared.cells.Element.TheVariants.{Plain, Structure, DateAndTime, Udt, Unknown}
use Rattle.stl_types.specs.Parameters.{dtime_formal, formal, formal_here, formal_of, formals_of, mode_formal, ob_nr_formal, return_value_formal, sign_formal, system_formals}
use Rattle.stl_types.specs.declared.parameters.Formal.{Formal}
use Rattle.stl_codegen.specs.GeneratedProgram.{param_here, param_of, params_of, section_number}
use Rattle.stl_codegen.specs.Instruction.{in_parameter_order, return_last}
use Rattle.sem_kept.proofs.accepted.Accepted.{all_both, all_mapped}
use Rattle.block_layout.proofs.SoundnessLemmas.{IsUnbroken, Unbroken}
use Rattle.block_layout.proofs.CommonLemmas.{or_first}

-- ---- as the source has them, and the code

abbrev pub IsRecordOf : Formal → ParameterRecord → Type 0
IsRecordOf f r =
    (r.section ≡ section_number f.section) × (r.width ≡ width_number (width_of f.kind))
    × (is_parameter f.section ≡ true)

abbrev pub Matched : List Formal → List ParameterRecord → Type 0
Matched [] [] = Unit {0}
Matched (f ∷ fs) (r ∷ rs) = IsRecordOf f r × Matched fs rs
Matched [] (r ∷ rs) = ⊥
Matched (f ∷ fs) [] = ⊥

matched_append : (fs gs : List Formal) (rs ss : List ParameterRecord) → Matched fs rs
    → Matched gs ss → Matched (fs ++ gs) (rs ++ ss)
matched_append [] gs [] ss h k = k
matched_append [] gs (r ∷ rs) ss h k = absurd h
matched_append (f ∷ fs) gs [] ss h k = absurd h
matched_append (f ∷ fs) gs (r ∷ rs) ss h k = (h.0, matched_append fs gs rs ss h.1 k)

cell_matched : (in_instance : Bool) (all : List Cell) (c : Cell)
    → Matched (formal_here c) (map record_of_param (param_here in_instance all c))
cell_matched in_instance all c = by (is_parameter c.section) refl
  where
    plain : (e : Element) → is_parameter c.section ≡ true
        → Matched (formal_of c e) (map record_of_param (param_of in_instance all c e))
    plain (Plain kind) is = ((refl, refl, is), tt)
    plain Structure is = tt
    plain DateAndTime is = tt
    plain (Udt block bits) is = tt
    plain Unknown is = tt

    by : (t : Bool) → is_parameter c.section ≡ t
        → Matched (if t then formal_of c c.of else []) (map record_of_param (if t then param_of in_instance all c c.of else []))
    by true is = plain c.of is
    by false is = tt

cells_matched : (in_instance : Bool) (all cells : List Cell)
    → Matched (flat_map formal_here cells) (map record_of_param (flat_map (λ c. param_here in_instance all c) cells))
cells_matched in_instance all [] = tt
cells_matched in_instance all (c ∷ cs) =
    subst (λ (rs : List ParameterRecord). Matched (formal_here c ++ flat_map formal_here cs) rs)
    (sym (map-append record_of_param (param_here in_instance all c) (flat_map (λ c. param_here in_instance all c) cs)))
    (matched_append (formal_here c) (flat_map formal_here cs)
    (map record_of_param (param_here in_instance all c))
    (map record_of_param (flat_map (λ c. param_here in_instance all c) cs))
    (cell_matched in_instance all c) (cells_matched in_instance all cs))

return_matched : (result : Option Simple) (fs : List Formal) (rs : List ParameterRecord)
    → Matched fs rs → Matched (return_last result fs) (return_last result rs)
return_matched None fs rs h = h
return_matched (Some kind) [] [] h = tt
return_matched (Some kind) [] (r ∷ rs) h = absurd h
return_matched (Some kind) (f ∷ fs) [] h = absurd h
return_matched (Some kind) (f ∷ fs) (r ∷ rs) h =
    matched_append fs (f ∷ []) rs (r ∷ []) h.1 (h.0, tt)

return_mapped : (result : Option Simple) (ps : List Param)
    → map record_of_param (return_last result ps) ≡ return_last result (map record_of_param ps)
return_mapped None ps = refl
return_mapped (Some kind) [] = refl
return_mapped (Some kind) (p ∷ ps) = map-append record_of_param ps (p ∷ [])

pub source_matched : (b : Block) (l : BlockLayout) (cells : List Cell) → l.components ≡ cells
    → Matched (in_parameter_order (Some b) (formals_of cells)) (map record_of_param (params_of b l))
unfolding params_of
source_matched b l cells same =
    subst (λ (cs : List Cell). Matched (return_last b.result (formals_of cells))
    (map record_of_param (return_last b.result (flat_map (λ c. param_here (is_function_block b.kind) cs c) cs)))) (sym same)
    (subst (λ (rs : List ParameterRecord). Matched (return_last b.result (formals_of cells)) rs)
    (sym (return_mapped b.result (flat_map (λ c. param_here (is_function_block b.kind) cells c) cells)))
    (return_matched b.result (formals_of cells)
    (map record_of_param (flat_map (λ c. param_here (is_function_block b.kind) cells c) cells))
    (cells_matched (is_function_block b.kind) cells cells)))

-- ---- no two have one name

-- each name stands neither among these nor among those before it
abbrev pub FreshFrom : List (List ℕ) → List Formal → Type 0
FreshFrom names [] = Unit {0}
FreshFrom names (f ∷ fs) = (name_place f.name names ≡ None) × FreshFrom (names ++ f.name ∷ []) fs

abbrev pub Distinct : List Formal → Type 0
Distinct [] = Unit {0}
Distinct (g ∷ gs) = AllByRecursion (λ (h : Formal). bytes_eq h.name g.name ≡ false) gs × Distinct gs

none_suc : (o : Option ℕ) → option_map (λ k. suc k) o ≡ None → o ≡ None
none_suc None h = refl
none_suc (Some m) h = absurd cc

absent : (name x : List ℕ) (pre post : List (List ℕ)) → name_place name (pre ++ x ∷ post) ≡ None
    → bytes_eq name x ≡ false
absent name x [] post e = by (bytes_eq name x) e
  where
    by : (t : Bool) → (if t then Some 0 else option_map (λ k. suc k) (name_place name post)) ≡ None
        → t ≡ false
    by true h = absurd cc
    by false h = refl
absent name x (p ∷ pre) post e = by (bytes_eq name p) e (absent name x pre post)
  where
    by : (t : Bool)
        → (if t then Some 0 else option_map (λ k. suc k) (name_place name (pre ++ x ∷ post))) ≡ None
        → (name_place name (pre ++ x ∷ post) ≡ None → bytes_eq name x ≡ false) → bytes_eq name x ≡ false
    by true h more = absurd cc
    by false h more = more (none_suc (name_place name (pre ++ x ∷ post)) h)

fresh_all : (x : List ℕ) (pre post : List (List ℕ)) (fs : List Formal) → FreshFrom (pre ++ x ∷ post) fs
    → AllByRecursion (λ (h : Formal). bytes_eq h.name x ≡ false) fs
fresh_all x pre post [] h = tt
fresh_all x pre post (f ∷ fs) h = (
  absent f.name x pre post h.0,
  fresh_all x pre (post ++ f.name ∷ []) fs
      (subst (λ (names : List (List ℕ)). FreshFrom names fs) (append_assoc pre (x ∷ post) (f.name ∷ [])) h.1),
)

pub fresh_distinct : (names : List (List ℕ)) (fs : List Formal) → FreshFrom names fs → Distinct fs
fresh_distinct names [] h = tt
fresh_distinct names (f ∷ fs) h =
    (fresh_all f.name names [] fs h.1, fresh_distinct (names ++ f.name ∷ []) fs h.1)

pub same_bytes : (xs ys : List ℕ) → bytes_eq xs ys ≡ true → xs ≡ ys
same_bytes xs ys e = (bytes_eq-Decides xs ys).0 e

pub bytes_itself : (xs : List ℕ) → bytes_eq xs xs ≡ true
bytes_itself [] = refl
bytes_itself (x ∷ xs) =
    ap (λ (t : Bool). t && bytes_eq xs xs) (eq-eqb x x refl) ∙ bytes_itself xs

-- a parameter is found by its name
abbrev pub IsFoundIn : List Formal → Formal → Type 0
IsFoundIn fs f = (name : List ℕ) → bytes_eq name f.name ≡ true
    → find (λ (g : Formal). bytes_eq name g.name) fs ≡ Some f

pub found_each : (fs : List Formal) → Distinct fs → AllByRecursion (IsFoundIn fs) fs
found_each [] h = tt
found_each (g ∷ gs) h = (
  λ name e. ap (λ (t : Bool). if t then Some g else find (λ (g : Formal). bytes_eq name g.name) gs) e,
  all_mapped (λ f. (bytes_eq f.name g.name ≡ false) × IsFoundIn gs f) (IsFoundIn (g ∷ gs)) later gs
      (all_both (λ (f : Formal). bytes_eq f.name g.name ≡ false) (IsFoundIn gs) gs h.0 (found_each gs h.1)),
)
  where
    later : (f : Formal) → (bytes_eq f.name g.name ≡ false) × IsFoundIn gs f → IsFoundIn (g ∷ gs) f
    later f k name e = by (bytes_eq name g.name) refl
      where
        by : (t : Bool) → bytes_eq name g.name ≡ t
            → (if t then Some g else find (λ (g : Formal). bytes_eq name g.name) gs) ≡ Some f
        by false is = k.1 name e
        by true is =
            let one : name ≡ f.name = same_bytes name f.name e in
            let two : name ≡ g.name = same_bytes name g.name is in
            let both : bytes_eq f.name g.name ≡ true
            = ap (λ (n : List ℕ). bytes_eq f.name n) (sym two ∙ one) ∙ bytes_itself f.name in
            let never = k.0 in
            absurd cc

pub return_all : (P : Formal → Type 0) (result : Option Simple) (fs : List Formal)
    → AllByRecursion P fs → AllByRecursion P (return_last result fs)
return_all P None fs h = h
return_all P (Some kind) [] h = tt
return_all P (Some kind) (f ∷ fs) h = all_append P fs (f ∷ []) h.1 (h.0, tt)

-- ---- names of declarations

-- what isn't among the names of the list isn't among the names so far
abbrev Within : (names outer : List (List ℕ)) → Type 0
Within names outer = (n : List ℕ) → name_place n outer ≡ None → name_place n names ≡ None

absent_front : (n : List ℕ) (xs ys : List (List ℕ)) → name_place n (xs ++ ys) ≡ None
    → name_place n xs ≡ None
absent_front n [] ys e = refl
absent_front n (x ∷ xs) ys e = by (bytes_eq n x) e (absent_front n xs ys)
  where
    by : (t : Bool) → (if t then Some 0 else option_map (λ k. suc k) (name_place n (xs ++ ys))) ≡ None
        → (name_place n (xs ++ ys) ≡ None → name_place n xs ≡ None)
        → (if t then Some 0 else option_map (λ k. suc k) (name_place n xs)) ≡ None
    by true h more = absurd cc
    by false h more = ap (λ (o : Option ℕ). option_map (λ k. suc k) o) (more (none_suc (name_place n (xs ++ ys)) h))

absent_both : (n : List ℕ) (xs : List (List ℕ)) (y : List ℕ) → name_place n xs ≡ None
    → bytes_eq n y ≡ false → name_place n (xs ++ y ∷ []) ≡ None
absent_both n [] y e f =
    ap (λ (t : Bool). if t then Some 0 else option_map (λ k. suc k) (name_place n [])) f
absent_both n (x ∷ xs) y e f = by (bytes_eq n x) e (λ h. absent_both n xs y h f)
  where
    by : (t : Bool) → (if t then Some 0 else option_map (λ k. suc k) (name_place n xs)) ≡ None
        → (name_place n xs ≡ None → name_place n (xs ++ y ∷ []) ≡ None)
        → (if t then Some 0 else option_map (λ k. suc k) (name_place n (xs ++ y ∷ []))) ≡ None
    by true h more = absurd cc
    by false h more = ap (λ (o : Option ℕ). option_map (λ k. suc k) o) (more (none_suc (name_place n xs) h))

names_more : (outer : List (List ℕ)) (d : Declaration) (ds : List Declaration)
    → names_before outer 0 (d ∷ ds) ≡ names_before outer 0 ds ++ declaration_name_here 0 d
names_more outer d ds =
    ap (λ (t : Bool). if t then [] else names_before outer 0 ds ++ declaration_name_here 0 d)
    (le-ltb d.level 0 (omega arith))

within_more : (names outer : List (List ℕ)) (d : Declaration) (before : List Declaration)
    → Within names (names_before outer 0 before) → Within names (names_before outer 0 (d ∷ before))
within_more names outer d before h n e =
    h n (absent_front n (names_before outer 0 before) (declaration_name_here 0 d)
    (ap (λ (ns : List (List ℕ)). name_place n ns) (sym (names_more outer d before)) ∙ e))

within_onto : (names outer : List (List ℕ)) (before ds : List Declaration)
    → Within names (names_before outer 0 before) → Within names (names_before outer 0 (declarations_before_next before ds))
within_onto names outer before [] h = h
within_onto names outer before (d ∷ ds) h =
    within_onto names outer (d ∷ before) ds (within_more names outer d before h)

within_here : (names outer : List (List ℕ)) (d : Declaration) (before : List Declaration)
    → d.level ≡ 0 → Within names (names_before outer 0 before)
    → Within (names ++ upper_case_name d.name ∷ []) (names_before outer 0 (d ∷ before))
within_here names outer d before lowest h n e =
    absent_both n names (upper_case_name d.name)
    (h n (absent_front n (names_before outer 0 before) (upper_case_name d.name ∷ []) there))
    (absent n (upper_case_name d.name) (names_before outer 0 before) [] there)
  where
    here : declaration_name_here 0 d ≡ upper_case_name d.name ∷ []
    here = ap (λ (t : Bool). if t then upper_case_name d.name ∷ [] else []) (eq-eqb d.level 0 lowest)

    there : name_place n (names_before outer 0 before ++ upper_case_name d.name ∷ []) ≡ None
    there =
        ap (λ (ns : List (List ℕ)). name_place n ns)
        (ap (λ (z : List (List ℕ)). names_before outer 0 before ++ z) (sym here) ∙ sym (names_more outer d before))
        ∙ e

-- ---- the parameters of a section

elementary_type : (arrays : List Bounds) (of : ElementType) → is_elementary_type arrays of ≡ true
    → (kind : Simple) × (of ≡ element.Plain kind)
elementary_type [] (element.Plain kind) e = (kind, refl)
elementary_type [] element.Structure e = absurd cc
elementary_type [] (element.Udt name) e = absurd cc
elementary_type [] element.DateAndTime e = absurd cc
elementary_type (b ∷ bs) of e = absurd cc

-- what a section of parameters leaves: their names are fresh, and known behind it
record AreFresh (names outer : List (List ℕ)) (before : List Declaration) (fs : List Formal) : Type 0 where
  fresh : FreshFrom names fs
  behind : List (List ℕ)
  named : behind ≡ names ++ map (λ (f : Formal). f.name) fs
  within : Within behind (names_before outer 0 before)

not_twice_before : (y : Types) (o : Outside) (before : List Declaration) (d : Declaration)
    → breaks_rule y o before d ≡ false → is_twice o before d ≡ false
not_twice_before y o before d e = or_first (is_twice o before d) _ (or_first _ _ (or_first _ _ (or_first _ _ e)))

not_there : (o : Option ℕ) → is_some o ≡ false → o ≡ None
not_there None e = refl
not_there (Some n) e = absurd cc

parameter_formal : (y : Types) (o : Outside) (section : PartKind) (before : List Declaration)
    (d : Declaration) (kind : Simple) → is_parameter section ≡ true → d.of.of ≡ element.Plain kind
    → formal_here (cell_of y o section before d) ≡ formal (upper_case_name d.name) section kind ∷ []
unfolding cell_of
parameter_formal y o section before d kind is plain =
    ap (λ (t : Bool). if t then formal_of (cell_of y o section before d) (layout_element y d.of.of) else []) is
    ∙ ap (λ (e : ElementType). formal_of (cell_of y o section before d) (layout_element y e)) plain

fresh_section : (y : Types) (o : Outside) (k : BlockKind) (section : PartKind)
    (names : List (List ℕ)) (before ds : List Declaration) → is_parameter section ≡ true
    → AreDeclaredIn k section ds → IsOutline 0 ds → Unbroken y o before ds
    → Within names (names_before o.names 0 before)
    → AreFresh names o.names (declarations_before_next before ds) (flat_map formal_here (cells_of y o section before ds))
fresh_section y o k section names before [] is declared outline h within =
    record { fresh = tt; behind = names; named = sym (append-nil names); within = within }
fresh_section y o k section names before (d ∷ ds) is declared outline h within =
    subst (λ (fs : List Formal). AreFresh names o.names (declarations_before_next (d ∷ before) ds) (fs ++ flat_map formal_here (cells_of y o section (d ∷ before) ds)))
    (sym (parameter_formal y o section before d type.0 is type.1))
    (joined (fresh_section y o k section (names ++ upper_case_name d.name ∷ []) (d ∷ before) ds is declared.1
    (subst (λ (n : ℕ). IsOutline n ds) behind outline.1) h.1 (within_here names o.names d before lowest within)))
  where
    type : (kind : Simple) × (d.of.of ≡ element.Plain kind)
    type = elementary_type d.of.arrays d.of.of (declared.0.2 is)

    lowest : d.level ≡ 0
    lowest = let few = outline.0 in omega (arith, few)

    behind : level_behind d.level d.of.of ≡ 0
    behind = ap (λ (e : ElementType). level_behind d.level e) type.1 ∙ lowest

    new : name_place (upper_case_name d.name) names ≡ None
    new = within (upper_case_name d.name)
        (not_there (name_place (upper_case_name d.name) (names_before o.names 0 before))
        (ap (λ (n : ℕ). is_some (name_place (upper_case_name d.name) (names_before o.names n before))) (sym lowest)
        ∙ not_twice_before y o before d h.0))

    joined : AreFresh (names ++ upper_case_name d.name ∷ []) o.names (declarations_before_next (d ∷ before) ds) (flat_map formal_here (cells_of y o section (d ∷ before) ds))
        → AreFresh names o.names (declarations_before_next (d ∷ before) ds) (formal (upper_case_name d.name) section type.0 ∷ flat_map formal_here (cells_of y o section (d ∷ before) ds))
    joined r = record {
      fresh = (new, r.fresh);
      behind = r.behind;
      named = r.named ∙ append_assoc names (upper_case_name d.name ∷ []) (map (λ (f : Formal). f.name) (flat_map formal_here (cells_of y o section (d ∷ before) ds)));
      within = r.within;
    }

-- ---- the parameters of a block

opened_formals : (cs : List Cell) → flat_map formal_here (with_first_cell_opening cs) ≡ flat_map formal_here cs
opened_formals [] = refl
opened_formals (c ∷ cs) = by c.sound (opened_formals cs)
  where
    by : (t : Bool) → flat_map formal_here (with_first_cell_opening cs) ≡ flat_map formal_here cs
        → flat_map formal_here (if t then record c { opens = true } ∷ cs else c ∷ with_first_cell_opening cs)
        ≡ formal_here c ++ flat_map formal_here cs
    by true same = refl
    by false same = ap (λ (fs : List Formal). formal_here c ++ fs) same

-- cells of a section that holds no parameters
none_here : (y : Types) (o : Outside) (section : PartKind) (before ds : List Declaration)
    → is_parameter section ≡ false → flat_map formal_here (cells_of y o section before ds) ≡ []
unfolding cell_of
none_here y o section before [] is = refl
none_here y o section before (d ∷ ds) is =
    ap (λ (t : Bool). (if t then formal_of (cell_of y o section before d) (layout_element y d.of.of) else []) ++ flat_map formal_here (cells_of y o section (d ∷ before) ds)) is
    ∙ none_here y o section (d ∷ before) ds is

temp_is_none : (p : PartKind) → not (is_temp p) ≡ false → is_parameter p ≡ false
temp_is_none part.Temp e = refl
temp_is_none _ e = absurd cc

unbroken_first : (y : Types) (o : Outside) (before xs ys : List Declaration)
    → Unbroken y o before (xs ++ ys) → Unbroken y o before xs
unbroken_first y o before [] ys h = tt
unbroken_first y o before (x ∷ xs) ys h = (h.0, unbroken_first y o (x ∷ before) xs ys h.1)

unbroken_rest : (y : Types) (o : Outside) (before xs ys : List Declaration)
    → Unbroken y o before (xs ++ ys) → Unbroken y o (declarations_before_next before xs) ys
unbroken_rest y o before [] ys h = h
unbroken_rest y o before (x ∷ xs) ys h = unbroken_rest y o (x ∷ before) xs ys h.1

-- the formals of a section, in the list of those that are wanted
part_formals : (y : Types) (o : Outside) (k : BlockKind) (names : List (List ℕ))
    (before : List Declaration) (p : Part) → IsSection k p → Unbroken y o before p.items
    → Within names (names_before o.names 0 before)
    → AreFresh names o.names (declarations_before_next before p.items)
    (flat_map formal_here (if not (is_temp p.kind) then with_first_cell_opening (cells_of y o p.kind before p.items) else []))
part_formals y o k names before p section h within =
    wanted (not (is_temp p.kind)) refl
  where
    empty : AreFresh names o.names (declarations_before_next before p.items) []
    empty = record {
      fresh = tt;
      behind = names;
      named = sym (append-nil names);
      within = within_onto names o.names before p.items within;
    }

    held : (t : Bool) → is_parameter p.kind ≡ t
        → AreFresh names o.names (declarations_before_next before p.items) (flat_map formal_here (cells_of y o p.kind before p.items))
    held true is = fresh_section y o k p.kind names before p.items is section.2 section.1 h within
    held false is =
        subst (λ (fs : List Formal). AreFresh names o.names (declarations_before_next before p.items) fs)
        (sym (none_here y o p.kind before p.items is)) empty

    wanted : (t : Bool) → not (is_temp p.kind) ≡ t
        → AreFresh names o.names (declarations_before_next before p.items)
        (flat_map formal_here (if t then with_first_cell_opening (cells_of y o p.kind before p.items) else []))
    wanted true is =
        subst (λ (fs : List Formal). AreFresh names o.names (declarations_before_next before p.items) fs)
        (sym (opened_formals (cells_of y o p.kind before p.items))) (held (is_parameter p.kind) refl)
    wanted false is = empty

fresh_append : (names : List (List ℕ)) (fs gs : List Formal) → FreshFrom names fs
    → FreshFrom (names ++ map (λ (f : Formal). f.name) fs) gs → FreshFrom names (fs ++ gs)
fresh_append names [] gs h k = subst (λ (ns : List (List ℕ)). FreshFrom ns gs) (append-nil names) k
fresh_append names (f ∷ fs) gs h k = (
  h.0,
  fresh_append (names ++ f.name ∷ []) fs gs h.1
      (subst (λ (ns : List (List ℕ)). FreshFrom ns gs)
      (sym (append_assoc names (f.name ∷ []) (map (λ (f : Formal). f.name) fs))) k),
)

sections_fresh : (y : Types) (o : Outside) (k : BlockKind) (names : List (List ℕ))
    (before : List Declaration) (ps : List Part) → AllByRecursion (IsSection k) ps
    → Unbroken y o before (flat_map (λ p. p.items) ps)
    → Within names (names_before o.names 0 before)
    → FreshFrom names (flat_map formal_here (section_cells y o (λ k. not (is_temp k)) before ps))
sections_fresh y o k names before [] sections h within = tt
sections_fresh y o k names before (p ∷ ps) sections h within =
    subst (λ (fs : List Formal). FreshFrom names fs)
    (sym (flat_map-append formal_here (if not (is_temp p.kind) then with_first_cell_opening (cells_of y o p.kind before p.items) else [])
    (section_cells y o (λ k. not (is_temp k)) (declarations_before_next before p.items) ps)))
    (fresh_append names
    (flat_map formal_here (if not (is_temp p.kind) then with_first_cell_opening (cells_of y o p.kind before p.items) else []))
    (flat_map formal_here (section_cells y o (λ k. not (is_temp k)) (declarations_before_next before p.items) ps)) one.fresh
    (subst (λ (ns : List (List ℕ)). FreshFrom ns (flat_map formal_here (section_cells y o (λ k. not (is_temp k)) (declarations_before_next before p.items) ps)))
    one.named
    (sections_fresh y o k one.behind (declarations_before_next before p.items) ps sections.1
    (unbroken_rest y o before p.items (flat_map (λ p. p.items) ps) h) one.within)))
  where
    one : AreFresh names o.names (declarations_before_next before p.items)
        (flat_map formal_here (if not (is_temp p.kind) then with_first_cell_opening (cells_of y o p.kind before p.items) else []))
    one = part_formals y o k names before p sections.0
        (unbroken_first y o before p.items (flat_map (λ p. p.items) ps) h) within

returned_fresh : (y : Types) (b : Block) (result : Option Simple) → b.result ≡ result
    → FreshFrom (returned_names result) (flat_map formal_here (section_cells y (of_sections b) (λ k. not (is_temp k)) [] b.parts))
    → FreshFrom [] (flat_map formal_here (returned_cells result ++ section_cells y (of_sections b) (λ k. not (is_temp k)) [] b.parts))
returned_fresh y b None e h = h
returned_fresh y b (Some kind) e h = (refl, h)

-- those of a block of the source
pub block_formals : (y : Types) (b : Block) → IsBlock b → IsUnbroken y b
    → FreshFrom [] (formals_of (components_of y b))
block_formals y b h unbroken =
    subst (λ (fs : List Formal). FreshFrom [] fs)
    (sym (flat_map-append formal_here
    (returned_cells b.result ++ section_cells y (of_sections b) (λ k. not (is_temp k)) [] b.parts)
    (cells_of y of_structure part.Static [] b.components)
    ∙ ap (λ (fs : List Formal). flat_map formal_here (returned_cells b.result ++ section_cells y (of_sections b) (λ k. not (is_temp k)) [] b.parts) ++ fs)
    (none_here y of_structure part.Static [] b.components refl)
    ∙ append-nil (flat_map formal_here (returned_cells b.result ++ section_cells y (of_sections b) (λ k. not (is_temp k)) [] b.parts))))
    (returned_fresh y b b.result refl
    (sections_fresh y (of_sections b) b.kind (returned_names b.result) [] b.parts h.sections.1
    unbroken.sections (λ n e. e)))

-- ---- system functions

-- the parameters of a system function of the nine
pub record IsSystem (n : ℕ) (formals : List Formal) : Type 0 where
  pub params : List ParameterRecord
  pub is : system_params n ≡ Some params
  pub matched : Matched formals params
  pub fresh : FreshFrom [] formals

abbrev formals_by : (a b c d e f g h i : Bool) → Option (List Formal)
formals_by a b c d e f g h i =
    if a then Some (ob_nr_formal ∷ dtime_formal ∷ sign_formal ∷ return_value_formal simple.Int ∷ [])
    else if b then Some (ob_nr_formal ∷ return_value_formal simple.Int ∷ [])
    else if (if c then true else if d then true else false) then Some (mode_formal ∷ ob_nr_formal ∷ return_value_formal simple.Int ∷ [])
    else if (if e then true else if f then true else false) then Some (return_value_formal simple.Int ∷ [])
    else if (if g then true else if h then true else false) then Some []
    else if i then Some (return_value_formal simple.Time ∷ [])
    else None

abbrev params_by : (a b c d e f g h i : Bool) → Option (List ParameterRecord)
params_by a b c d e f g h i =
    if a then Some (in_record width.Word ∷ in_record width.Dword ∷ in_record width.Word ∷ out_record width.Word ∷ [])
    else if b then Some (in_record width.Word ∷ out_record width.Word ∷ [])
    else if c || d then Some (in_record width.Byte ∷ in_record width.Word ∷ out_record width.Word ∷ [])
    else if e || f then Some (out_record width.Word ∷ [])
    else if g || h then Some []
    else if i then Some (out_record width.Dword ∷ [])
    else None

record IsSystemBy (o : Option (List ParameterRecord)) (formals : List Formal) : Type 0 where
  params : List ParameterRecord
  is : o ≡ Some params
  matched : Matched formals params
  fresh : FreshFrom [] formals

system_by : (a b c d e f g h i : Bool)
    → IfSome (formals_by a b c d e f g h i) (IsSystemBy (params_by a b c d e f g h i))
system_by true b c d e f g h i =
    record { params = _; is = refl; matched = ((refl, refl, refl), ((refl, refl, refl), ((refl, refl, refl), ((refl, refl, refl), tt)))); fresh = (refl, (refl, (refl, (refl, tt)))) }
system_by false true c d e f g h i =
    record { params = _; is = refl; matched = ((refl, refl, refl), ((refl, refl, refl), tt)); fresh = (refl, (refl, tt)) }
system_by false false true d e f g h i =
    record { params = _; is = refl; matched = ((refl, refl, refl), ((refl, refl, refl), ((refl, refl, refl), tt))); fresh = (refl, (refl, (refl, tt))) }
system_by false false false true e f g h i =
    record { params = _; is = refl; matched = ((refl, refl, refl), ((refl, refl, refl), ((refl, refl, refl), tt))); fresh = (refl, (refl, (refl, tt))) }
system_by false false false false true f g h i =
    record { params = _; is = refl; matched = ((refl, refl, refl), tt); fresh = (refl, tt) }
system_by false false false false false true g h i =
    record { params = _; is = refl; matched = ((refl, refl, refl), tt); fresh = (refl, tt) }
system_by false false false false false false true h i =
    record { params = _; is = refl; matched = tt; fresh = tt }
system_by false false false false false false false true i =
    record { params = _; is = refl; matched = tt; fresh = tt }
system_by false false false false false false false false true =
    record { params = _; is = refl; matched = ((refl, refl, refl), tt); fresh = (refl, tt) }
system_by false false false false false false false false false = tt

pub system_matched : (n : ℕ) (formals : List Formal) → system_formals n ≡ Some formals
    → IsSystem n formals
unfolding system_formals
system_matched n formals s =
    let params = params_by (nat_eq n 32) (nat_eq n 33) (nat_eq n 39) (nat_eq n 40) (nat_eq n 41) (nat_eq n 42) (nat_eq n 43)
    (nat_eq n 46) (nat_eq n 64) in
    let r : IsSystemBy params formals = subst (λ (o : Option (List Formal)). IfSome o (IsSystemBy params)) s
    (system_by (nat_eq n 32) (nat_eq n 33) (nat_eq n 39) (nat_eq n 40) (nat_eq n 41) (nat_eq n 42) (nat_eq n 43) (nat_eq n 46)
    (nat_eq n 64)) in
    record { params = r.params; is = r.is; matched = r.matched; fresh = r.fresh }
