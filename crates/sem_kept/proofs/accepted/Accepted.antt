-- What an accepted source keeps: each rule breaks nothing, at each block in its context and at each
-- statement. From `accepted` all else is drawn: `right_tree` gives each block, `sound_code_blocks`
-- and `sound_data_blocks` hand it to the blocks of the program.
use Rattle.std.proofs.Common.{◌≡◌, ℕ, zero, suc, ◌+◌, Bool, true, false, List, [], ◌∷◌, ◌++◌, length, map, append_assoc, Option, Some, None, refl, sym, ap, subst, ◌∙◌, add-one, arith}
use Rattle.std.specs.Prelude.{if◌then◌else◌, slice_get}
use Rattle.std.specs.List.{AllByRecursion, flat_map}
use Rattle.plc_base.specs.Kinds.{is_code, is_data_block}
use Rattle.plc_base.specs.declared.blocks.BlockId.{BlockId}
use Rattle.plc_base.specs.declared.refusals.Refusal.{Refusal}
use Rattle.stl_ast.specs.Statements.{IsStatement}
use Rattle.stl_ast.specs.WellFormed.{IsBlock, IsWellFormed}
use Rattle.stl_ast.specs.declared.blocks.Block.{Block}
use Rattle.stl_ast.specs.declared.blocks.Tree.{Tree}
use Rattle.stl_ast.specs.declared.operands.Operand.{Operand}
use Rattle.stl_ast.specs.declared.statements.Actual.{Actual}
use Rattle.stl_ast.specs.declared.statements.Statement.{Statement}
use Rattle.stl_parser.proofs.SizeLemmas.{well_formed}
use Rattle.plc_base.specs.Least.{broken_if}
use Rattle.stl_symbols.specs.Symbol.{Symbol}
use Rattle.plc_base.proofs.LeastLemmas.{least_none}
use Rattle.plc_base.proofs.ListLemmas.{all_append}
use Rattle.block_layout.specs.Around.{refusals_in_block}
use Rattle.block_layout.specs.ByPlace.{by_place}
use Rattle.block_layout.specs.Heads.{on_heads}
use Rattle.block_layout.specs.Layouts.{block_layout, layouts_from, layouts_of}
use Rattle.block_layout.specs.Measures.{types_of_source}
use Rattle.block_layout.specs.Operands.{OperandAtLine, in_body, operands_of}
use Rattle.block_layout.specs.Rule21.{refusals_21, rule_21}
use Rattle.block_layout.specs.Rule22.{is_block_twice, rule_22}
use Rattle.block_layout.specs.Rule23.{refusals_23, has_unknown_head, names_unknown, operand_23, rule_23}
use Rattle.block_layout.specs.Rule41.{refusals_41, rule_41, setting_misfits}
use Rattle.block_layout.specs.Rule42.{refusals_42, operand_42, operand_is_outside, rule_42, setting_is_outside}
use Rattle.block_layout.specs.Rule43.{contains_itself, rule_43}
use Rattle.block_layout.specs.Rule44.{has_wrong_number, rule_44}
use Rattle.block_layout.specs.Rule50.{has_too_much_local, rule_50}
use Rattle.block_layout.specs.Rule51.{is_too_long, rule_51}
use Rattle.block_layout.specs.Rule52.{has_too_many_parameters, rule_52}
use Rattle.block_layout.specs.Rule53.{is_one_too_many, rule_53}
use Rattle.block_layout.specs.Rule54.{exceeds_total, rule_54}
use Rattle.block_layout.specs.Rule55.{has_too_many_statements, rule_55}
use Rattle.block_layout.specs.Rule56.{refusals_56, rule_56}
use Rattle.block_layout.specs.Settings.{in_settings, on_settings}
use Rattle.block_layout.specs.Table.{layout_refusals, refusals_of_blocks as layout_refusals_by}
use Rattle.block_layout.specs.Types.{Types}
use Rattle.block_layout.specs.declared.blocks.BlockLayout.{BlockLayout}
use Rattle.stl_types.specs.Actuals.{formal_named}
use Rattle.stl_types.specs.Bodies.{first_context, in_contexts}
use Rattle.stl_types.specs.Brackets.{closes_no_bracket, is_eighth_bracket, brackets_left_open, rule_29, rule_30, rule_31, with_brackets}
use Rattle.stl_types.specs.Calls.{by_callee, call_37, calls_unknown, dates_in, has_wrong_instance, is_bare_call, lacks_actual, misfits_formal, names_no_formal, rule_24_of_actuals, rule_34, rule_35, rule_36, rule_37, rule_38, rule_40, rule_46, is_resolved_date, actuals_supplied_twice, actuals_without_formal}
use Rattle.stl_types.specs.Context.{Context}
use Rattle.stl_types.specs.Labels.{labels_of, labels_twice, rule_26, rule_27, unknown_labels}
use Rattle.stl_types.specs.Landings.{crossing_jumps, landings_at_labels, empty_nesting, rule_33}
use Rattle.stl_types.specs.Lists.{lists_from, rule_32}
use Rattle.stl_types.specs.Operands.{at_line, operands_24, rules_24_25_39, statement_rule}
use Rattle.stl_types.specs.Parameters.{Callee, callee_of}
use Rattle.stl_types.specs.Resolution.{resolution_of}
use Rattle.stl_types.specs.Table.{statement_refusals_by, statement_refusals}
use Rattle.stl_types.specs.Unknown.{is_unknown, operand_20, rule_20, sets_unknown}
use Rattle.stl_types.specs.Zones.{ends_no_zone, is_ninth_zone, rule_47, rule_48, rule_49, with_zones, zones_left_open}
use Rattle.stl_codegen.specs.CompiledBlock.{StatedBlock}
use Rattle.stl_codegen.specs.GeneratedProgram.{code_block, code_block_of, code_blocks_of, generated_data_block, data_block_of, data_blocks_of, each_block}
use Rattle.stl_codegen.specs.Order.{sorted_insertion, is_code_before, is_data_before, sorted_list}
use Rattle.flat_code.specs.Programs.{DataBlock}
use Rattle.block_layout.proofs.CommonLemmas.{none_left, none_right, not_broken}
use Rattle.block_layout.proofs.HeadLemmas.{AllHeads, heads_none}
use Rattle.block_layout.proofs.SoundnessLemmas.{AreSoundDeclarations}
use Rattle.block_layout.proofs.LayoutLemmas.{layouts_are}
use Rattle.sem_kept.specs.SettledStatements.{context_at}
use Rattle.sem_kept.specs.AcceptedSource.{IsAccepted}

-- ---- lists of which nothing is left

pub each_none : {A B : Type 0} (f : A → List B) (xs : List A) → flat_map f xs ≡ []
    → AllByRecursion (λ x. f x ≡ []) xs
each_none f [] e = tt
each_none f (x ∷ xs) e =
    (none_left (f x) (flat_map f xs) e, each_none f xs (none_right (f x) (flat_map f xs) e))

-- a test that is broken by no element
pub each_passes : {A : Type 0} (breaks : A → Bool) (line : A → ℕ) (rule : ℕ) (xs : List A)
    → flat_map (λ x. broken_if (breaks x) (line x) rule) xs ≡ []
    → AllByRecursion (λ x. breaks x ≡ false) xs
each_passes breaks line rule [] e = tt
each_passes breaks line rule (x ∷ xs) e = (
  not_broken (breaks x) (line x) rule
      (none_left (broken_if (breaks x) (line x) rule)
      (flat_map (λ x. broken_if (breaks x) (line x) rule) xs) e),
  each_passes breaks line rule xs
      (none_right (broken_if (breaks x) (line x) rule)
      (flat_map (λ x. broken_if (breaks x) (line x) rule) xs) e),
)

-- ---- what holds of each element

pub all_mapped : {A : Type 0} (P Q : A → Type 0) → ((x : A) → P x → Q x) → (xs : List A)
    → AllByRecursion P xs → AllByRecursion Q xs
all_mapped P Q f [] h = tt
all_mapped P Q f (x ∷ xs) h = (f x h.0, all_mapped P Q f xs h.1)

pub all_both : {A : Type 0} (P Q : A → Type 0) (xs : List A) → AllByRecursion P xs
    → AllByRecursion Q xs → AllByRecursion (λ x. P x × Q x) xs
all_both P Q [] h k = tt
all_both P Q (x ∷ xs) h k = ((h.0, k.0), all_both P Q xs h.1 k.1)

pub all_inserted : {A : Type 0} (P : A → Type 0) (before : A → A → Bool) (x : A) (ys : List A)
    → P x → AllByRecursion P ys → AllByRecursion P (sorted_insertion before x ys)
all_inserted P before x [] h k = (h, tt)
all_inserted P before x (y ∷ ys) h k = by (before y x) (all_inserted P before x ys h k.1)
  where
    by : (first : Bool) → AllByRecursion P (sorted_insertion before x ys)
        → AllByRecursion P (if first then y ∷ sorted_insertion before x ys else x ∷ y ∷ ys)
    by true more = (k.0, more)
    by false more = (h, k)

pub all_sorted : {A : Type 0} (P : A → Type 0) (before : A → A → Bool) (xs : List A)
    → AllByRecursion P xs → AllByRecursion P (sorted_list before xs)
unfolding sorted_list
all_sorted P before [] h = tt
all_sorted P before (x ∷ xs) h =
    all_inserted P before x (sorted_list before xs) h.0 (all_sorted P before xs h.1)

-- ---- each rule by itself

-- those of the layout
pub record LaysOutRight (y : Types) (l : List BlockLayout) (blocks : List Block) : Type 0 where
  pub by_21 : rule_21 blocks ≡ []
  pub by_22 : rule_22 y blocks ≡ []
  pub by_23 : rule_23 y blocks ≡ []
  pub by_41 : rule_41 l blocks ≡ []
  pub by_42 : rule_42 y l blocks ≡ []
  pub by_43 : rule_43 y blocks ≡ []
  pub by_44 : rule_44 y.symbols blocks ≡ []
  pub by_50 : rule_50 y blocks ≡ []
  pub by_51 : rule_51 y blocks ≡ []
  pub by_52 : rule_52 blocks ≡ []
  pub by_53 : rule_53 blocks ≡ []
  pub by_54 : rule_54 y blocks ≡ []
  pub by_55 : rule_55 blocks ≡ []
  pub by_56 : rule_56 y blocks ≡ []

-- those of statements
pub record StatesRight (c : Context) (blocks : List Block) : Type 0 where
  pub by_20 : rule_20 c blocks ≡ []
  pub by_24 : rules_24_25_39 c blocks ≡ []
  pub by_dates : rule_24_of_actuals c blocks ≡ []
  pub by_26 : rule_26 blocks ≡ []
  pub by_27 : rule_27 blocks ≡ []
  pub by_29 : rule_29 blocks ≡ []
  pub by_30 : rule_30 blocks ≡ []
  pub by_31 : rule_31 blocks ≡ []
  pub by_32 : rule_32 blocks ≡ []
  pub by_33 : rule_33 blocks ≡ []
  pub by_34 : rule_34 c blocks ≡ []
  pub by_35 : rule_35 c blocks ≡ []
  pub by_36 : rule_36 c blocks ≡ []
  pub by_37 : rule_37 c blocks ≡ []
  pub by_38 : rule_38 c blocks ≡ []
  pub by_40 : rule_40 c blocks ≡ []
  pub by_46 : rule_46 c blocks ≡ []
  pub by_47 : rule_47 blocks ≡ []
  pub by_48 : rule_48 blocks ≡ []
  pub by_49 : rule_49 blocks ≡ []

lays_out_right : (y : Types) (l : List BlockLayout) (blocks : List Block)
    → layout_refusals_by y l blocks ≡ [] → LaysOutRight y l blocks
unfolding layout_refusals_by
lays_out_right y l blocks e56 =
    let e55 = none_left _ (rule_56 y blocks) e56 in
    let e54 = none_left _ (rule_55 blocks) e55 in
    let e53 = none_left _ (rule_54 y blocks) e54 in
    let e52 = none_left _ (rule_53 blocks) e53 in
    let e51 = none_left _ (rule_52 blocks) e52 in
    let e50 = none_left _ (rule_51 y blocks) e51 in
    let e44 = none_left _ (rule_50 y blocks) e50 in
    let e43 = none_left _ (rule_44 y.symbols blocks) e44 in
    let e42 = none_left _ (rule_43 y blocks) e43 in
    let e41 = none_left _ (rule_42 y l blocks) e42 in
    let e23 = none_left _ (rule_41 l blocks) e41 in
    let e22 = none_left _ (rule_23 y blocks) e23 in
    record {
      by_21 = none_left (rule_21 blocks) (rule_22 y blocks) e22;
      by_22 = none_right (rule_21 blocks) (rule_22 y blocks) e22;
      by_23 = none_right _ (rule_23 y blocks) e23;
      by_41 = none_right _ (rule_41 l blocks) e41;
      by_42 = none_right _ (rule_42 y l blocks) e42;
      by_43 = none_right _ (rule_43 y blocks) e43;
      by_44 = none_right _ (rule_44 y.symbols blocks) e44;
      by_50 = none_right _ (rule_50 y blocks) e50;
      by_51 = none_right _ (rule_51 y blocks) e51;
      by_52 = none_right _ (rule_52 blocks) e52;
      by_53 = none_right _ (rule_53 blocks) e53;
      by_54 = none_right _ (rule_54 y blocks) e54;
      by_55 = none_right _ (rule_55 blocks) e55;
      by_56 = none_right _ (rule_56 y blocks) e56;
    }

states_right : (c : Context) (blocks : List Block) → statement_refusals_by c blocks ≡ []
    → StatesRight c blocks
unfolding statement_refusals_by
states_right c blocks e49 =
    let e48 = none_left _ (rule_49 blocks) e49 in
    let e47 = none_left _ (rule_48 blocks) e48 in
    let e46 = none_left _ (rule_47 blocks) e47 in
    let e40 = none_left _ (rule_46 c blocks) e46 in
    let e38 = none_left _ (rule_40 c blocks) e40 in
    let e37 = none_left _ (rule_38 c blocks) e38 in
    let e36 = none_left _ (rule_37 c blocks) e37 in
    let e35 = none_left _ (rule_36 c blocks) e36 in
    let e34 = none_left _ (rule_35 c blocks) e35 in
    let e33 = none_left _ (rule_34 c blocks) e34 in
    let e32 = none_left _ (rule_33 blocks) e33 in
    let e31 = none_left _ (rule_32 blocks) e32 in
    let e30 = none_left _ (rule_31 blocks) e31 in
    let e29 = none_left _ (rule_30 blocks) e30 in
    let e27 = none_left _ (rule_29 blocks) e29 in
    let e26 = none_left _ (rule_27 blocks) e27 in
    let edates = none_left _ (rule_26 blocks) e26 in
    let e24 = none_left _ (rule_24_of_actuals c blocks) edates in
    record {
      by_20 = none_left (rule_20 c blocks) (rules_24_25_39 c blocks) e24;
      by_24 = none_right (rule_20 c blocks) (rules_24_25_39 c blocks) e24;
      by_dates = none_right _ (rule_24_of_actuals c blocks) edates;
      by_26 = none_right _ (rule_26 blocks) e26;
      by_27 = none_right _ (rule_27 blocks) e27;
      by_29 = none_right _ (rule_29 blocks) e29;
      by_30 = none_right _ (rule_30 blocks) e30;
      by_31 = none_right _ (rule_31 blocks) e31;
      by_32 = none_right _ (rule_32 blocks) e32;
      by_33 = none_right _ (rule_33 blocks) e33;
      by_34 = none_right _ (rule_34 c blocks) e34;
      by_35 = none_right _ (rule_35 c blocks) e35;
      by_36 = none_right _ (rule_36 c blocks) e36;
      by_37 = none_right _ (rule_37 c blocks) e37;
      by_38 = none_right _ (rule_38 c blocks) e38;
      by_40 = none_right _ (rule_40 c blocks) e40;
      by_46 = none_right _ (rule_46 c blocks) e46;
      by_47 = none_right _ (rule_47 blocks) e47;
      by_48 = none_right _ (rule_48 blocks) e48;
      by_49 = none_right _ (rule_49 blocks) e49;
    }

-- ---- at each place of the source

-- what holds of each block with its place, from a place on
abbrev pub AllFrom : (ℕ → Block → Type 0) → ℕ → List Block → Type 0
AllFrom P k [] = Unit {0}
AllFrom P k (b ∷ bs) = P k b × AllFrom P (suc k) bs

-- what holds of each block with its place and its layout, from a place on
abbrev pub AllLaid : (ℕ → Block → BlockLayout → Type 0) → ℕ → List Block → List BlockLayout → Type 0
AllLaid P k [] ls = Unit {0}
AllLaid P k (b ∷ bs) [] = ⊥
AllLaid P k (b ∷ bs) (l ∷ ls) = P k b l × AllLaid P (suc k) bs ls

pub from_mapped : (P Q : ℕ → Block → Type 0) → ((k : ℕ) (b : Block) → P k b → Q k b) → (k : ℕ)
    (bs : List Block) → AllFrom P k bs → AllFrom Q k bs
from_mapped P Q f k [] h = tt
from_mapped P Q f k (b ∷ bs) h = (f k b h.0, from_mapped P Q f (suc k) bs h.1)

pub from_both : (P Q : ℕ → Block → Type 0) (k : ℕ) (bs : List Block) → AllFrom P k bs
    → AllFrom Q k bs → AllFrom (λ k b. P k b × Q k b) k bs
from_both P Q k [] h g = tt
from_both P Q k (b ∷ bs) h g = ((h.0, g.0), from_both P Q (suc k) bs h.1 g.1)

pub from_all : (P : Block → Type 0) (k : ℕ) (bs : List Block) → AllByRecursion P bs
    → AllFrom (λ k b. P b) k bs
from_all P k [] h = tt
from_all P k (b ∷ bs) h = (h.0, from_all P (suc k) bs h.1)

-- a rule in contexts
pub contexts_none : (broken : Context → List Statement → List Refusal) (symbols : List Symbol)
    (t : Tree) (k : ℕ) (bs : List Block) → in_contexts broken (context_at symbols t k) bs ≡ []
    → AllFrom (λ k b. broken (context_at symbols t k) b.body ≡ []) k bs
contexts_none broken symbols t k [] e = tt
contexts_none broken symbols t k (b ∷ bs) e = (
  none_left _ (in_contexts broken (context_at symbols t (k + 1)) bs) e,
  contexts_none broken symbols t (suc k) bs
      (ap (λ (n : ℕ). in_contexts broken (context_at symbols t n) bs) (sym (add-one k))
      ∙ none_right (broken (context_at symbols t k) b.body) _ e),
)

-- a rule of places
pub places_none : (broken : ℕ → Block → List Refusal) (k : ℕ) (bs : List Block)
    → by_place broken k bs ≡ [] → AllFrom (λ k b. broken k b ≡ []) k bs
places_none broken k [] e = tt
places_none broken k (b ∷ bs) e = (
  none_left (broken k b) (by_place broken (k + 1) bs) e,
  places_none broken (suc k) bs
      (ap (λ (n : ℕ). by_place broken n bs) (sym (add-one k))
      ∙ none_right (broken k b) (by_place broken (k + 1) bs) e),
)

-- ---- what holds of a statement, of the block at its place

-- an actual parameter
pub record IsSoundActual (y : Types) (c : Context) (a : Actual) : Type 0 where
  pub known : is_unknown (resolution_of c a.value) ≡ false  -- 20
  pub there : names_unknown y a.value ≡ false  -- 23
  pub inside : operand_is_outside y c.layouts c.block a.value ≡ false  -- 42
  pub undated : is_resolved_date (resolution_of c a.value) ≡ false  -- 24

-- a call of a block that is checked
pub record IsSoundCall (c : Context) (callee : Callee) (s : Statement) : Type 0 where
  pub named : AllByRecursion (λ a. names_no_formal callee.formals a ≡ false) s.actuals  -- 34
  pub once : actuals_supplied_twice callee.formals [] s.actuals ≡ []  -- 35
  pub complete : lacks_actual callee s ≡ false  -- 36
  pub fits : AllByRecursion (λ a. misfits_formal c a (formal_named callee.formals a.name) ≡ false) s.actuals  -- 37
  pub instance : has_wrong_instance c callee s.operand ≡ false  -- 38
  pub bare : is_bare_call callee s ≡ false  -- 40

-- a statement
pub record IsSoundStatement (y : Types) (c : Context) (s : Statement) : Type 0 where
  pub well_formed : IsStatement s
  pub known : is_unknown (resolution_of c s.operand) ≡ false  -- 20
  pub there : names_unknown y s.operand ≡ false  -- 23
  pub inside : operand_is_outside y c.layouts c.block s.operand ≡ false  -- 42
  pub allowed : statement_rule c s ≡ None  -- 24, 25, 39
  pub one_of_nine : calls_unknown c s.operand ≡ false  -- 46
  pub actuals : AllByRecursion (IsSoundActual y c) s.actuals
  pub calls : (callee : Callee) → callee_of c s.operand ≡ Some callee → IsSoundCall c callee s

-- a body, by its labels, brackets and zones: rules 26, 27, 29 to 33, 47 to 49
pub record IsSoundBody (body : List Statement) : Type 0 where
  pub by_26 : unknown_labels (labels_of body) body ≡ []
  pub by_27 : labels_twice [] body ≡ []
  pub by_29 : with_brackets (λ brackets s. broken_if (closes_no_bracket brackets s) s.line 29) [] body ≡ []
  pub by_30 : brackets_left_open body ≡ []
  pub by_31 : with_brackets (λ brackets s. broken_if (is_eighth_bracket brackets s) s.line 31) [] body ≡ []
  pub by_32 : lists_from [] body ≡ []
  pub by_33 : crossing_jumps (labels_of body) (landings_at_labels empty_nesting body) body ≡ []
  pub by_47 : with_zones (λ zones s. broken_if (ends_no_zone zones s) s.line 47) [] body ≡ []
  pub by_48 : zones_left_open body ≡ []
  pub by_49 : with_zones (λ zones s. broken_if (is_ninth_zone zones s) s.line 49) [] body ≡ []

-- the head of a block behind others, and the whole of it
pub record IsSoundHead (y : Types) (blocks before : List Block) (b : Block) : Type 0 where
  pub by_22 : is_block_twice y before b ≡ false
  pub by_23 : has_unknown_head y b ≡ false
  pub by_43 : contains_itself y blocks before b ≡ false
  pub by_44 : has_wrong_number y.symbols b ≡ false
  pub by_50 : has_too_much_local y b ≡ false
  pub by_51 : is_too_long y blocks b ≡ false
  pub by_52 : has_too_many_parameters b ≡ false
  pub by_53 : is_one_too_many before b ≡ false
  pub by_54 : exceeds_total y blocks before b ≡ false
  pub by_55 : has_too_many_statements b ≡ false

-- its settings
pub record AreSoundSettings (l : List BlockLayout) (k : ℕ) (b : Block) : Type 0 where
  pub by_20 : in_settings (sets_unknown l k) 20 b.settings ≡ []
  pub by_41 : in_settings (setting_misfits l k) 41 b.settings ≡ []
  pub by_42 : in_settings (setting_is_outside l k) 42 b.settings ≡ []

-- a block of the source at its place, with its layout
pub record IsSoundBlock (symbols : List Symbol) (t : Tree) (k : ℕ) (b : Block) (l : BlockLayout)
    : Type 0 where
  pub well_formed : IsBlock b
  pub before : List Block
  pub count : length before ≡ k
  pub layout : l ≡ block_layout (types_of_source symbols t.blocks) t.blocks before b
  pub whole : l.broken ≡ false
  pub block_there : slice_get t.blocks k ≡ Some b
  pub layout_there : slice_get (layouts_of t symbols) k ≡ Some l
  pub head : IsSoundHead (types_of_source symbols t.blocks) t.blocks before b
  pub declarations : AreSoundDeclarations (types_of_source symbols t.blocks) b
  pub settings : AreSoundSettings (layouts_of t symbols) k b
  pub body : IsSoundBody b.body
  pub statements : AllByRecursion
      (IsSoundStatement (types_of_source symbols t.blocks) (context_at symbols t k)) b.body

-- and all blocks of a tree
pub record IsSoundTree (symbols : List Symbol) (t : Tree) : Type 0 where
  pub well_formed : IsWellFormed t
  pub by_layout : LaysOutRight (types_of_source symbols t.blocks) (layouts_of t symbols) t.blocks
  pub by_statements : StatesRight (first_context symbols (layouts_of t symbols) t.blocks) t.blocks
  pub blocks : AllLaid (IsSoundBlock symbols t) 0 t.blocks (layouts_of t symbols)

-- ---- from the rules to each statement

actuals_pass : (breaks : Operand → Bool) (rule : ℕ) (actuals : List Actual)
    → flat_map (λ (o : OperandAtLine). broken_if (breaks o.operand) o.line rule)
    (map (λ (a : Actual). record { line = a.line; operand = a.value }) actuals) ≡ []
    → AllByRecursion (λ (a : Actual). breaks a.value ≡ false) actuals
actuals_pass breaks rule [] e = tt
actuals_pass breaks rule (a ∷ more) e = (
  not_broken (breaks a.value) a.line rule (none_left (broken_if (breaks a.value) a.line rule) _ e),
  actuals_pass breaks rule more (none_right (broken_if (breaks a.value) a.line rule) _ e),
)

-- of a statement, its operand and its actual parameters
record BreaksNowhere (breaks : Operand → Bool) (s : Statement) : Type 0 where
  own : breaks s.operand ≡ false
  actuals : AllByRecursion (λ (a : Actual). breaks a.value ≡ false) s.actuals

passes_of : (breaks : Operand → Bool) (rule : ℕ) (s : Statement)
    → flat_map (λ (o : OperandAtLine). broken_if (breaks o.operand) o.line rule) (operands_of s) ≡ []
    → BreaksNowhere breaks s
passes_of breaks rule s e = record {
  own = not_broken (breaks s.operand) s.line rule
      (none_left (broken_if (breaks s.operand) s.line rule) _ e);
  actuals = actuals_pass breaks rule s.actuals
      (none_right (broken_if (breaks s.operand) s.line rule) _ e);
}

no_rule : (line : ℕ) (rule : Option ℕ) → at_line line rule ≡ [] → rule ≡ None
no_rule line None e = refl
no_rule line (Some rule) e = absurd cc

actuals_sound : (y : Types) (c : Context) (actuals : List Actual)
    → AllByRecursion (λ (a : Actual). is_unknown (resolution_of c a.value) ≡ false) actuals
    → AllByRecursion (λ (a : Actual). names_unknown y a.value ≡ false) actuals
    → AllByRecursion (λ (a : Actual). operand_is_outside y c.layouts c.block a.value ≡ false) actuals
    → AllByRecursion (λ (a : Actual). is_resolved_date (resolution_of c a.value) ≡ false) actuals
    → AllByRecursion (IsSoundActual y c) actuals
actuals_sound y c [] h20 h23 h42 h24 = tt
actuals_sound y c (a ∷ more) h20 h23 h42 h24 = (
  record { known = h20.0; there = h23.0; inside = h42.0; undated = h24.0 },
  actuals_sound y c more h20.1 h23.1 h42.1 h24.1,
)

of_callee : (broken : Callee → Statement → List Refusal) (s : Statement) (found : Option Callee)
    (callee : Callee) → by_callee broken s found ≡ [] → found ≡ Some callee → broken callee s ≡ []
of_callee broken s found callee h e =
    ap (λ (o : Option Callee). by_callee broken s o) (sym e) ∙ h

-- nothing that is broken by the callee of a statement
abbrev CallsRight : (Context → Callee → Statement → List Refusal) → Context → Statement → Type 0
CallsRight broken c s = by_callee (broken c) s (callee_of c s.operand) ≡ []

abbrev calls_34 : Context → Callee → Statement → List Refusal
calls_34 c callee s = actuals_without_formal callee.formals s.actuals

abbrev calls_35 : Context → Callee → Statement → List Refusal
calls_35 c callee s = actuals_supplied_twice callee.formals [] s.actuals

abbrev calls_36 : Context → Callee → Statement → List Refusal
calls_36 c callee s = broken_if (lacks_actual callee s) s.line 36

abbrev calls_38 : Context → Callee → Statement → List Refusal
calls_38 c callee s = broken_if (has_wrong_instance c callee s.operand) s.line 38

abbrev calls_40 : Context → Callee → Statement → List Refusal
calls_40 c callee s = broken_if (is_bare_call callee s) s.line 40

-- a statement for which no rule finds anything
record KeepsRules (y : Types) (c : Context) (s : Statement) : Type 0 where
  well : IsStatement s
  by_20 : flat_map (operand_20 c) (operands_of s) ≡ []
  by_23 : flat_map (operand_23 y) (operands_of s) ≡ []
  by_42 : flat_map (operand_42 y c.layouts c.block) (operands_of s) ≡ []
  by_24 : at_line s.line (statement_rule c s) ≡ []
  by_dates : flat_map (λ (a : Actual). broken_if (is_resolved_date (resolution_of c a.value)) a.line 24) s.actuals ≡ []
  by_34 : CallsRight calls_34 c s
  by_35 : CallsRight calls_35 c s
  by_36 : CallsRight calls_36 c s
  by_37 : CallsRight call_37 c s
  by_38 : CallsRight calls_38 c s
  by_40 : CallsRight calls_40 c s
  by_46 : broken_if (calls_unknown c s.operand) s.line 46 ≡ []

call_sound : (y : Types) (c : Context) (s : Statement) → KeepsRules y c s → (callee : Callee)
    → callee_of c s.operand ≡ Some callee → IsSoundCall c callee s
call_sound y c s h callee e = record {
  named = each_passes (names_no_formal callee.formals) (λ a. a.line) 34 s.actuals
      (of_callee (calls_34 c) s (callee_of c s.operand) callee h.by_34 e);
  once = of_callee (calls_35 c) s (callee_of c s.operand) callee h.by_35 e;
  complete = not_broken (lacks_actual callee s) s.line 36
      (of_callee (calls_36 c) s (callee_of c s.operand) callee h.by_36 e);
  fits = each_passes (λ a. misfits_formal c a (formal_named callee.formals a.name)) (λ a. a.line) 37
      s.actuals (of_callee (call_37 c) s (callee_of c s.operand) callee h.by_37 e);
  instance = not_broken (has_wrong_instance c callee s.operand) s.line 38
      (of_callee (calls_38 c) s (callee_of c s.operand) callee h.by_38 e);
  bare = not_broken (is_bare_call callee s) s.line 40
      (of_callee (calls_40 c) s (callee_of c s.operand) callee h.by_40 e);
}

statement_sound : (y : Types) (c : Context) (s : Statement) → KeepsRules y c s → IsSoundStatement y c s
statement_sound y c s h = record {
  well_formed = h.well;
  known = pass_20.own;
  there = pass_23.own;
  inside = pass_42.own;
  allowed = no_rule s.line (statement_rule c s) h.by_24;
  one_of_nine = not_broken (calls_unknown c s.operand) s.line 46 h.by_46;
  actuals = actuals_sound y c s.actuals pass_20.actuals pass_23.actuals pass_42.actuals
      (each_passes (λ a. is_resolved_date (resolution_of c a.value)) (λ a. a.line) 24 s.actuals h.by_dates);
  calls = call_sound y c s h;
}
  where
    pass_20 : BreaksNowhere (λ o. is_unknown (resolution_of c o)) s
    pass_20 = passes_of (λ o. is_unknown (resolution_of c o)) 20 s h.by_20

    pass_23 : BreaksNowhere (names_unknown y) s
    pass_23 = passes_of (names_unknown y) 23 s h.by_23

    pass_42 : BreaksNowhere (operand_is_outside y c.layouts c.block) s
    pass_42 = passes_of (operand_is_outside y c.layouts c.block) 42 s h.by_42

-- the same of all statements of a body
record IsCleanBody (y : Types) (c : Context) (body : List Statement) : Type 0 where
  well : AllByRecursion IsStatement body
  by_20 : in_body (operand_20 c) body ≡ []
  by_23 : in_body (operand_23 y) body ≡ []
  by_42 : in_body (operand_42 y c.layouts c.block) body ≡ []
  by_24 : operands_24 c body ≡ []
  by_dates : dates_in c body ≡ []
  by_34 : flat_map (λ s. by_callee (calls_34 c) s (callee_of c s.operand)) body ≡ []
  by_35 : flat_map (λ s. by_callee (calls_35 c) s (callee_of c s.operand)) body ≡ []
  by_36 : flat_map (λ s. by_callee (calls_36 c) s (callee_of c s.operand)) body ≡ []
  by_37 : flat_map (λ s. by_callee (call_37 c) s (callee_of c s.operand)) body ≡ []
  by_38 : flat_map (λ s. by_callee (calls_38 c) s (callee_of c s.operand)) body ≡ []
  by_40 : flat_map (λ s. by_callee (calls_40 c) s (callee_of c s.operand)) body ≡ []
  by_46 : flat_map (λ s. broken_if (calls_unknown c s.operand) s.line 46) body ≡ []

first_clean : (y : Types) (c : Context) (s : Statement) (ss : List Statement)
    → IsCleanBody y c (s ∷ ss) → KeepsRules y c s
first_clean y c s ss h = record {
  well = h.well.0;
  by_20 = none_left _ _ h.by_20;
  by_23 = none_left _ _ h.by_23;
  by_42 = none_left _ _ h.by_42;
  by_24 = none_left _ _ h.by_24;
  by_dates = none_left _ _ h.by_dates;
  by_34 = none_left _ _ h.by_34;
  by_35 = none_left _ _ h.by_35;
  by_36 = none_left _ _ h.by_36;
  by_37 = none_left _ _ h.by_37;
  by_38 = none_left _ _ h.by_38;
  by_40 = none_left _ _ h.by_40;
  by_46 = none_left _ _ h.by_46;
}

rest_clean : (y : Types) (c : Context) (s : Statement) (ss : List Statement)
    → IsCleanBody y c (s ∷ ss) → IsCleanBody y c ss
rest_clean y c s ss h = record {
  well = h.well.1;
  by_20 = none_right _ _ h.by_20;
  by_23 = none_right _ _ h.by_23;
  by_42 = none_right _ _ h.by_42;
  by_24 = none_right _ _ h.by_24;
  by_dates = none_right _ _ h.by_dates;
  by_34 = none_right _ _ h.by_34;
  by_35 = none_right _ _ h.by_35;
  by_36 = none_right _ _ h.by_36;
  by_37 = none_right _ _ h.by_37;
  by_38 = none_right _ _ h.by_38;
  by_40 = none_right _ _ h.by_40;
  by_46 = none_right _ _ h.by_46;
}

statements_sound : (y : Types) (c : Context) (body : List Statement) → IsCleanBody y c body
    → AllByRecursion (IsSoundStatement y c) body
statements_sound y c [] h = tt
statements_sound y c (s ∷ ss) h = (
  statement_sound y c s (first_clean y c s ss h),
  statements_sound y c ss (rest_clean y c s ss h),
)

-- ---- from the rules to each block

heads_sound : (y : Types) (blocks before bs : List Block)
    → AllHeads (λ before b. is_block_twice y before b ≡ false) before bs
    → AllHeads (λ before b. has_unknown_head y b ≡ false) before bs
    → AllHeads (λ before b. contains_itself y blocks before b ≡ false) before bs
    → AllHeads (λ before b. has_wrong_number y.symbols b ≡ false) before bs
    → AllHeads (λ before b. has_too_much_local y b ≡ false) before bs
    → AllHeads (λ before b. is_too_long y blocks b ≡ false) before bs
    → AllHeads (λ before b. has_too_many_parameters b ≡ false) before bs
    → AllHeads (λ before b. is_one_too_many before b ≡ false) before bs
    → AllHeads (λ before b. exceeds_total y blocks before b ≡ false) before bs
    → AllHeads (λ before b. has_too_many_statements b ≡ false) before bs
    → AllHeads (IsSoundHead y blocks) before bs
heads_sound y blocks before [] h22 h23 h43 h44 h50 h51 h52 h53 h54 h55 = tt
heads_sound y blocks before (b ∷ bs) h22 h23 h43 h44 h50 h51 h52 h53 h54 h55 = (
  record {
    by_22 = h22.0;
    by_23 = h23.0;
    by_43 = h43.0;
    by_44 = h44.0;
    by_50 = h50.0;
    by_51 = h51.0;
    by_52 = h52.0;
    by_53 = h53.0;
    by_54 = h54.0;
    by_55 = h55.0;
  },
  heads_sound y blocks (b ∷ before) bs h22.1 h23.1 h43.1 h44.1 h50.1 h51.1 h52.1 h53.1 h54.1 h55.1,
)

-- what the rules of the layout and of statements leave of the blocks from a place on
record KeepRules (symbols : List Symbol) (t : Tree) (k : ℕ) (before bs : List Block) : Type 0 where
  well : AllByRecursion IsBlock bs
  heads : AllHeads (IsSoundHead (types_of_source symbols t.blocks) t.blocks) before bs
  by_21 : AllByRecursion (λ b. refusals_in_block refusals_21 b ≡ []) bs
  by_23 : AllByRecursion (λ b. refusals_in_block (refusals_23 (types_of_source symbols t.blocks)) b ≡ []) bs
  by_41 : AllByRecursion (λ b. refusals_in_block refusals_41 b ≡ []) bs
  by_42 : AllByRecursion (λ b. refusals_in_block refusals_42 b ≡ []) bs
  by_56 : AllByRecursion (λ b. refusals_in_block (refusals_56 (types_of_source symbols t.blocks)) b ≡ []) bs
  sets_20 : AllFrom (λ k b. in_settings (sets_unknown (layouts_of t symbols) k) 20 b.settings ≡ []) k bs
  sets_41 : AllFrom (λ k b. in_settings (setting_misfits (layouts_of t symbols) k) 41 b.settings ≡ []) k bs
  sets_42 : AllFrom (λ k b. in_settings (setting_is_outside (layouts_of t symbols) k) 42 b.settings ≡ []) k bs
  in_20 : AllFrom (λ k b. in_body (operand_20 (context_at symbols t k)) b.body ≡ []) k bs
  in_23 : AllByRecursion (λ b. in_body (operand_23 (types_of_source symbols t.blocks)) b.body ≡ []) bs
  in_42 : AllFrom (λ k b. in_body (operand_42 (types_of_source symbols t.blocks) (layouts_of t symbols) k) b.body ≡ []) k bs
  in_24 : AllFrom (λ k b. operands_24 (context_at symbols t k) b.body ≡ []) k bs
  in_dates : AllFrom (λ k b. dates_in (context_at symbols t k) b.body ≡ []) k bs
  in_34 : AllFrom (λ k b. flat_map (λ s. by_callee (calls_34 (context_at symbols t k)) s (callee_of (context_at symbols t k) s.operand)) b.body ≡ []) k bs
  in_35 : AllFrom (λ k b. flat_map (λ s. by_callee (calls_35 (context_at symbols t k)) s (callee_of (context_at symbols t k) s.operand)) b.body ≡ []) k bs
  in_36 : AllFrom (λ k b. flat_map (λ s. by_callee (calls_36 (context_at symbols t k)) s (callee_of (context_at symbols t k) s.operand)) b.body ≡ []) k bs
  in_37 : AllFrom (λ k b. flat_map (λ s. by_callee (call_37 (context_at symbols t k)) s (callee_of (context_at symbols t k) s.operand)) b.body ≡ []) k bs
  in_38 : AllFrom (λ k b. flat_map (λ s. by_callee (calls_38 (context_at symbols t k)) s (callee_of (context_at symbols t k) s.operand)) b.body ≡ []) k bs
  in_40 : AllFrom (λ k b. flat_map (λ s. by_callee (calls_40 (context_at symbols t k)) s (callee_of (context_at symbols t k) s.operand)) b.body ≡ []) k bs
  in_46 : AllFrom (λ k b. flat_map (λ s. broken_if (calls_unknown (context_at symbols t k) s.operand) s.line 46) b.body ≡ []) k bs
  by_26 : AllByRecursion (λ b. unknown_labels (labels_of b.body) b.body ≡ []) bs
  by_27 : AllByRecursion (λ b. labels_twice [] b.body ≡ []) bs
  by_29 : AllByRecursion (λ b. with_brackets (λ brackets s. broken_if (closes_no_bracket brackets s) s.line 29) [] b.body ≡ []) bs
  by_30 : AllByRecursion (λ b. brackets_left_open b.body ≡ []) bs
  by_31 : AllByRecursion (λ b. with_brackets (λ brackets s. broken_if (is_eighth_bracket brackets s) s.line 31) [] b.body ≡ []) bs
  by_32 : AllByRecursion (λ b. lists_from [] b.body ≡ []) bs
  by_33 : AllByRecursion
      (λ b. crossing_jumps (labels_of b.body) (landings_at_labels empty_nesting b.body) b.body ≡ []) bs
  by_47 : AllByRecursion
      (λ b. with_zones (λ zones s. broken_if (ends_no_zone zones s) s.line 47) [] b.body ≡ []) bs
  by_48 : AllByRecursion (λ b. zones_left_open b.body ≡ []) bs
  by_49 : AllByRecursion
      (λ b. with_zones (λ zones s. broken_if (is_ninth_zone zones s) s.line 49) [] b.body ≡ []) bs

rest_blocks : (symbols : List Symbol) (t : Tree) (k : ℕ) (before : List Block) (b : Block)
    (bs : List Block) → KeepRules symbols t k before (b ∷ bs)
    → KeepRules symbols t (suc k) (b ∷ before) bs
rest_blocks symbols t k before b bs h = record {
  well = h.well.1;
  heads = h.heads.1;
  by_21 = h.by_21.1;
  by_23 = h.by_23.1;
  by_41 = h.by_41.1;
  by_42 = h.by_42.1;
  by_56 = h.by_56.1;
  sets_20 = h.sets_20.1;
  sets_41 = h.sets_41.1;
  sets_42 = h.sets_42.1;
  in_20 = h.in_20.1;
  in_23 = h.in_23.1;
  in_42 = h.in_42.1;
  in_24 = h.in_24.1;
  in_dates = h.in_dates.1;
  in_34 = h.in_34.1;
  in_35 = h.in_35.1;
  in_36 = h.in_36.1;
  in_37 = h.in_37.1;
  in_38 = h.in_38.1;
  in_40 = h.in_40.1;
  in_46 = h.in_46.1;
  by_26 = h.by_26.1;
  by_27 = h.by_27.1;
  by_29 = h.by_29.1;
  by_30 = h.by_30.1;
  by_31 = h.by_31.1;
  by_32 = h.by_32.1;
  by_33 = h.by_33.1;
  by_47 = h.by_47.1;
  by_48 = h.by_48.1;
  by_49 = h.by_49.1;
}

-- an element behind a list
pub there : {A : Type 0} (front : List A) (x : A) (rest : List A)
    → slice_get (front ++ x ∷ rest) (length front) ≡ Some x
there [] x rest = refl
there (y ∷ front) x rest = there front x rest

there_at : {A : Type 0} (all front : List A) (x : A) (rest : List A) (k : ℕ)
    → all ≡ front ++ x ∷ rest → length front ≡ k → slice_get all k ≡ Some x
there_at all front x rest k e n =
    ap (λ z. slice_get z k) e ∙ ap (λ i. slice_get (front ++ x ∷ rest) i) (sym n)
    ∙ there front x rest

one_behind : {A : Type 0} (all front : List A) (x : A) (rest : List A)
    → all ≡ front ++ x ∷ rest → all ≡ (front ++ x ∷ []) ++ rest
one_behind all front x rest e = e ∙ sym (append_assoc front (x ∷ []) rest)

one_more : {A : Type 0} (front : List A) (x : A) (k : ℕ) → length front ≡ k
    → length (front ++ x ∷ []) ≡ suc k
one_more [] x k e = ap suc e
one_more (y ∷ front) x zero e = absurd (let bad = e in omega (arith, bad))
one_more (y ∷ front) x (suc k) e = ap suc (one_more front x k (let same = e in omega (arith, same)))

none_broken : (y : Types) (blocks before : List Block) (b : Block) → IsSoundHead y blocks before b
    → (block_layout y blocks before b).broken ≡ false
unfolding block_layout
none_broken y blocks before b h =
    let h22 = h.by_22 in let h23 = h.by_23 in let h43 = h.by_43 in let h44 = h.by_44 in
    let h50 = h.by_50 in let h51 = h.by_51 in let h52 = h.by_52 in let h53 = h.by_53 in
    let h54 = h.by_54 in let h55 = h.by_55 in
    rw h22 (rw h23 (rw h43 (rw h44 (rw h50 (rw h51 (rw h52 (rw h53 (rw h54 h55))))))))

block_sound : (symbols : List Symbol) (t : Tree) (k : ℕ) (before : List Block) (b : Block)
    (bs : List Block) → KeepRules symbols t k before (b ∷ bs) → length before ≡ k
    → slice_get t.blocks k ≡ Some b
    → slice_get (layouts_of t symbols) k
    ≡ Some (block_layout (types_of_source symbols t.blocks) t.blocks before b)
    → IsSoundBlock symbols t k b (block_layout (types_of_source symbols t.blocks) t.blocks before b)
block_sound symbols t k before b bs h n there laid = record {
  well_formed = h.well.0;
  before = before;
  count = n;
  layout = refl;
  whole = none_broken (types_of_source symbols t.blocks) t.blocks before b h.heads.0;
  block_there = there;
  layout_there = laid;
  head = h.heads.0;
  declarations = record {
    by_21 = h.by_21.0;
    by_23 = h.by_23.0;
    by_41 = h.by_41.0;
    by_42 = h.by_42.0;
    by_56 = h.by_56.0;
  };
  settings = record { by_20 = h.sets_20.0; by_41 = h.sets_41.0; by_42 = h.sets_42.0 };
  body = record {
    by_26 = h.by_26.0;
    by_27 = h.by_27.0;
    by_29 = h.by_29.0;
    by_30 = h.by_30.0;
    by_31 = h.by_31.0;
    by_32 = h.by_32.0;
    by_33 = h.by_33.0;
    by_47 = h.by_47.0;
    by_48 = h.by_48.0;
    by_49 = h.by_49.0;
  };
  statements = statements_sound (types_of_source symbols t.blocks) (context_at symbols t k) b.body (record {
    well = h.well.0.runs.0;
    by_20 = h.in_20.0;
    by_23 = h.in_23.0;
    by_42 = h.in_42.0;
    by_24 = h.in_24.0;
    by_dates = h.in_dates.0;
    by_34 = h.in_34.0;
    by_35 = h.in_35.0;
    by_36 = h.in_36.0;
    by_37 = h.in_37.0;
    by_38 = h.in_38.0;
    by_40 = h.in_40.0;
    by_46 = h.in_46.0;
  });
}

blocks_sound : (symbols : List Symbol) (t : Tree) (k : ℕ) (before front bs : List Block)
    (laid : List BlockLayout) → KeepRules symbols t k before bs → length before ≡ k
    → t.blocks ≡ front ++ bs → length front ≡ k
    → layouts_of t symbols
    ≡ laid ++ layouts_from (types_of_source symbols t.blocks) t.blocks before bs → length laid ≡ k
    → AllLaid (IsSoundBlock symbols t) k bs (layouts_from (types_of_source symbols t.blocks) t.blocks before bs)
blocks_sound symbols t k before front [] laid h n e m f o = tt
blocks_sound symbols t k before front (b ∷ bs) laid h n e m f o = (
  block_sound symbols t k before b bs h n (there_at t.blocks front b bs k e m)
      (there_at (layouts_of t symbols) laid one more k f o),
  blocks_sound symbols t (suc k) (b ∷ before) (front ++ b ∷ []) bs (laid ++ one ∷ [])
      (rest_blocks symbols t k before b bs h) (ap suc n)
      (one_behind t.blocks front b bs e) (one_more front b k m)
      (one_behind (layouts_of t symbols) laid one more f) (one_more laid one k o),
)
  where
    y : Types
    y = types_of_source symbols t.blocks

    one : BlockLayout
    one = block_layout y t.blocks before b

    more : List BlockLayout
    more = layouts_from y t.blocks (b ∷ before) bs

-- ---- the whole tree

-- the rules of declarations, settings and bodies, taken apart
record AreParts (symbols : List Symbol) (t : Tree) : Type 0 where
  declared_23 : flat_map (refusals_in_block (refusals_23 (types_of_source symbols t.blocks))) t.blocks ≡ []
  heads_23 : on_heads (λ before b. has_unknown_head (types_of_source symbols t.blocks) b) 23 t.blocks ≡ []
  bodies_23 : flat_map (λ b. in_body (operand_23 (types_of_source symbols t.blocks)) b.body) t.blocks ≡ []
  declared_41 : flat_map (refusals_in_block refusals_41) t.blocks ≡ []
  set_41 : on_settings (setting_misfits (layouts_of t symbols)) 41 0 t.blocks ≡ []
  declared_42 : flat_map (refusals_in_block refusals_42) t.blocks ≡ []
  set_42 : on_settings (setting_is_outside (layouts_of t symbols)) 42 0 t.blocks ≡ []
  bodies_42 : by_place (λ k b. in_body (operand_42 (types_of_source symbols t.blocks) (layouts_of t symbols) k) b.body) 0 t.blocks ≡ []
  set_20 : on_settings (sets_unknown (layouts_of t symbols)) 20 0 t.blocks ≡ []
  bodies_20 : in_contexts (λ c body. in_body (operand_20 c) body) (context_at symbols t 0) t.blocks ≡ []

parts_clean : (symbols : List Symbol) (t : Tree)
    → LaysOutRight (types_of_source symbols t.blocks) (layouts_of t symbols) t.blocks
    → StatesRight (context_at symbols t 0) t.blocks → AreParts symbols t
unfolding rule_23 rule_41 rule_42 rule_20
parts_clean symbols t l s = record {
  declared_23 = none_right _ (flat_map (refusals_in_block (refusals_23 (types_of_source symbols t.blocks))) t.blocks)
      (none_left _ (flat_map (λ b. in_body (operand_23 (types_of_source symbols t.blocks)) b.body) t.blocks) l.by_23);
  heads_23 = none_left _ (flat_map (refusals_in_block (refusals_23 (types_of_source symbols t.blocks))) t.blocks)
      (none_left _ (flat_map (λ b. in_body (operand_23 (types_of_source symbols t.blocks)) b.body) t.blocks) l.by_23);
  bodies_23 = none_right _ (flat_map (λ b. in_body (operand_23 (types_of_source symbols t.blocks)) b.body) t.blocks) l.by_23;
  declared_41 = none_left _ (on_settings (setting_misfits (layouts_of t symbols)) 41 0 t.blocks) l.by_41;
  set_41 = none_right _ (on_settings (setting_misfits (layouts_of t symbols)) 41 0 t.blocks) l.by_41;
  declared_42 = none_left _ (on_settings (setting_is_outside (layouts_of t symbols)) 42 0 t.blocks)
      (none_left _ (by_place (λ k b. in_body (operand_42 (types_of_source symbols t.blocks) (layouts_of t symbols) k) b.body) 0 t.blocks) l.by_42);
  set_42 = none_right _ (on_settings (setting_is_outside (layouts_of t symbols)) 42 0 t.blocks)
      (none_left _ (by_place (λ k b. in_body (operand_42 (types_of_source symbols t.blocks) (layouts_of t symbols) k) b.body) 0 t.blocks) l.by_42);
  bodies_42 = none_right _ (by_place (λ k b. in_body (operand_42 (types_of_source symbols t.blocks) (layouts_of t symbols) k) b.body) 0 t.blocks) l.by_42;
  set_20 = none_left _ (in_contexts (λ c body. in_body (operand_20 c) body) (context_at symbols t 0) t.blocks) s.by_20;
  bodies_20 = none_right _ (in_contexts (λ c body. in_body (operand_20 c) body) (context_at symbols t 0) t.blocks) s.by_20;
}

-- a rule of heads, from the first block on
head_rule : (breaks : List Block → Block → Bool) (rule : ℕ) (blocks : List Block)
    → on_heads breaks rule blocks ≡ [] → AllHeads (λ before b. breaks before b ≡ false) [] blocks
head_rule breaks rule blocks e = heads_none breaks rule [] blocks e

heads_clean : (symbols : List Symbol) (t : Tree)
    → LaysOutRight (types_of_source symbols t.blocks) (layouts_of t symbols) t.blocks
    → AreParts symbols t
    → AllHeads (IsSoundHead (types_of_source symbols t.blocks) t.blocks) [] t.blocks
unfolding rule_22 rule_43 rule_44 rule_50 rule_51 rule_52 rule_53 rule_54 rule_55
heads_clean symbols t l p =
    heads_sound y t.blocks [] t.blocks
    (head_rule (is_block_twice y) 22 t.blocks l.by_22)
    (head_rule (λ before b. has_unknown_head y b) 23 t.blocks p.heads_23)
    (head_rule (contains_itself y t.blocks) 43 t.blocks l.by_43)
    (head_rule (λ before b. has_wrong_number y.symbols b) 44 t.blocks l.by_44)
    (head_rule (λ before b. has_too_much_local y b) 50 t.blocks l.by_50)
    (head_rule (λ before b. is_too_long y t.blocks b) 51 t.blocks l.by_51)
    (head_rule (λ before b. has_too_many_parameters b) 52 t.blocks l.by_52)
    (head_rule is_one_too_many 53 t.blocks l.by_53)
    (head_rule (exceeds_total y t.blocks) 54 t.blocks l.by_54)
    (head_rule (λ before b. has_too_many_statements b) 55 t.blocks l.by_55)
  where
    y : Types
    y = types_of_source symbols t.blocks

blocks_clean : (symbols : List Symbol) (t : Tree) → IsWellFormed t
    → LaysOutRight (types_of_source symbols t.blocks) (layouts_of t symbols) t.blocks
    → StatesRight (context_at symbols t 0) t.blocks → KeepRules symbols t 0 [] t.blocks
unfolding rule_21 rule_56 rules_24_25_39 rule_24_of_actuals rule_26 rule_27 rule_29 rule_30 rule_31 rule_32 rule_33 rule_34 rule_35 rule_36 rule_37 rule_38 rule_40 rule_46 rule_47 rule_48 rule_49
blocks_clean symbols t well l s = record {
  well = well;
  heads = heads_clean symbols t l p;
  by_21 = each_none (refusals_in_block refusals_21) t.blocks l.by_21;
  by_23 = each_none (refusals_in_block (refusals_23 y)) t.blocks p.declared_23;
  by_41 = each_none (refusals_in_block refusals_41) t.blocks p.declared_41;
  by_42 = each_none (refusals_in_block refusals_42) t.blocks p.declared_42;
  by_56 = each_none (refusals_in_block (refusals_56 y)) t.blocks l.by_56;
  sets_20 = places_none (λ k b. in_settings (sets_unknown (layouts_of t symbols) k) 20 b.settings) 0 t.blocks p.set_20;
  sets_41 = places_none (λ k b. in_settings (setting_misfits (layouts_of t symbols) k) 41 b.settings) 0 t.blocks p.set_41;
  sets_42 = places_none (λ k b. in_settings (setting_is_outside (layouts_of t symbols) k) 42 b.settings) 0 t.blocks p.set_42;
  in_20 = contexts_none (λ c body. in_body (operand_20 c) body) symbols t 0 t.blocks p.bodies_20;
  in_23 = each_none (λ b. in_body (operand_23 y) b.body) t.blocks p.bodies_23;
  in_42 = places_none (λ k b. in_body (operand_42 y (layouts_of t symbols) k) b.body) 0 t.blocks p.bodies_42;
  in_24 = contexts_none operands_24 symbols t 0 t.blocks s.by_24;
  in_dates = contexts_none dates_in symbols t 0 t.blocks s.by_dates;
  in_34 = calls_none calls_34 s.by_34;
  in_35 = calls_none calls_35 s.by_35;
  in_36 = calls_none calls_36 s.by_36;
  in_37 = calls_none call_37 s.by_37;
  in_38 = calls_none calls_38 s.by_38;
  in_40 = calls_none calls_40 s.by_40;
  in_46 = contexts_none (λ c body. flat_map (λ s. broken_if (calls_unknown c s.operand) s.line 46) body) symbols t 0 t.blocks s.by_46;
  by_26 = each_none (λ b. unknown_labels (labels_of b.body) b.body) t.blocks s.by_26;
  by_27 = each_none (λ b. labels_twice [] b.body) t.blocks s.by_27;
  by_29 = each_none (λ b. with_brackets (λ brackets s. broken_if (closes_no_bracket brackets s) s.line 29) [] b.body) t.blocks s.by_29;
  by_30 = each_none (λ b. brackets_left_open b.body) t.blocks s.by_30;
  by_31 = each_none (λ b. with_brackets (λ brackets s. broken_if (is_eighth_bracket brackets s) s.line 31) [] b.body) t.blocks s.by_31;
  by_32 = each_none (λ b. lists_from [] b.body) t.blocks s.by_32;
  by_33 = each_none
      (λ b. crossing_jumps (labels_of b.body) (landings_at_labels empty_nesting b.body) b.body) t.blocks
      s.by_33;
  by_47 = each_none (λ b. with_zones (λ zones s. broken_if (ends_no_zone zones s) s.line 47) [] b.body)
      t.blocks s.by_47;
  by_48 = each_none (λ b. zones_left_open b.body) t.blocks s.by_48;
  by_49 = each_none (λ b. with_zones (λ zones s. broken_if (is_ninth_zone zones s) s.line 49) [] b.body)
      t.blocks s.by_49;
}
  where
    y : Types
    y = types_of_source symbols t.blocks

    p : AreParts symbols t
    p = parts_clean symbols t l s

    calls_none : (broken : Context → Callee → Statement → List Refusal)
        → in_contexts (λ c body. flat_map (λ s. by_callee (broken c) s (callee_of c s.operand)) body)
        (context_at symbols t 0) t.blocks ≡ []
        → AllFrom (λ k b. flat_map (λ s. by_callee (broken (context_at symbols t k)) s
        (callee_of (context_at symbols t k) s.operand)) b.body ≡ []) 0 t.blocks
    calls_none broken e =
        contexts_none (λ c body. flat_map (λ s. by_callee (broken c) s (callee_of c s.operand)) body)
        symbols t 0 t.blocks e

tree_sound : (symbols : List Symbol) (t : Tree) → IsWellFormed t
    → LaysOutRight (types_of_source symbols t.blocks) (layouts_of t symbols) t.blocks
    → StatesRight (context_at symbols t 0) t.blocks → IsSoundTree symbols t
tree_sound symbols t well l s = record {
  well_formed = well;
  by_layout = l;
  by_statements = s;
  blocks = subst (λ (ls : List BlockLayout). AllLaid (IsSoundBlock symbols t) 0 t.blocks ls)
      (sym (layouts_are symbols t))
      (blocks_sound symbols t 0 [] [] t.blocks [] (blocks_clean symbols t well l s) refl refl refl
      (layouts_are symbols t) refl);
}

-- the tree of an accepted source
pub right_tree : (source file : List ℕ) (symbols : List Symbol) (t : Tree)
    → IsAccepted source file symbols t → IsSoundTree symbols t
unfolding layout_refusals statement_refusals
right_tree source file symbols t a =
    tree_sound symbols t (well_formed source a.tokens t a.parsed)
    (lays_out_right (types_of_source symbols t.blocks) (layouts_of t symbols) t.blocks
    (least_none (layout_refusals t symbols) a.laid_out))
    (states_right (context_at symbols t 0) t.blocks
    (least_none (statement_refusals t symbols (layouts_of t symbols)) a.checked))

-- ---- the blocks of the program

-- a block of the source, with its layout, at a place
pub laid_at : (P : ℕ → Block → BlockLayout → Type 0) (k : ℕ) (bs : List Block)
    (ls : List BlockLayout) → AllLaid P k bs ls → (i : ℕ) (b : Block) (l : BlockLayout)
    → slice_get bs i ≡ Some b → slice_get ls i ≡ Some l → P (k + i) b l
laid_at P k [] ls h i b l e f = absurd cc
laid_at P k (x ∷ bs) [] h i b l e f = elim h [ ]
laid_at P k (x ∷ bs) (z ∷ ls) h zero b l e f =
    let same : x ≡ b = cc in
    let laid : z ≡ l = cc in
    let here : k + 0 ≡ k = omega arith in
    subst (λ n. P n b l) (sym here)
    (subst (λ m. P k b m) laid (subst (λ c. P k c z) same h.0))
laid_at P k (x ∷ bs) (z ∷ ls) h (suc i) b l e f =
    let further : suc k + i ≡ k + suc i = omega arith in
    subst (λ n. P n b l) further (laid_at P (suc k) bs ls h.1 i b l e f)

pub sound_at : (symbols : List Symbol) (t : Tree) → IsSoundTree symbols t → (k : ℕ) (b : Block)
    (l : BlockLayout) → slice_get t.blocks k ≡ Some b → slice_get (layouts_of t symbols) k ≡ Some l
    → IsSoundBlock symbols t k b l
sound_at symbols t h k b l e f =
    let from : 0 + k ≡ k = omega arith in
    subst (λ n. IsSoundBlock symbols t n b l) from
    (laid_at (IsSoundBlock symbols t) 0 t.blocks (layouts_of t symbols) h.blocks k b l e f)

-- what holds of the code block of each block that has one holds of all code blocks
each_code : (symbols : List Symbol) (t : Tree) (P : StatedBlock → Type 0)
    → ((k : ℕ) (b : Block) (l : BlockLayout) (id : BlockId) → IsSoundBlock symbols t k b l
    → l.id ≡ Some id → is_code id.kind ≡ true → P (code_block (context_at symbols t k) b l id))
    → (k : ℕ) (bs : List Block) (ls : List BlockLayout) → AllLaid (IsSoundBlock symbols t) k bs ls
    → AllByRecursion P (each_block (λ c b l. code_block_of c b l l.id) (context_at symbols t k) bs ls)
each_code symbols t P f k [] ls h = tt
each_code symbols t P f k (b ∷ bs) [] h = tt
each_code symbols t P f k (b ∷ bs) (l ∷ ls) h =
    all_append P (code_block_of (context_at symbols t k) b l l.id)
    (each_block (λ c b l. code_block_of c b l l.id) (context_at symbols t (suc k)) bs ls)
    (by l.id refl) (each_code symbols t P f (suc k) bs ls h.1)
  where
    by : (found : Option BlockId) → l.id ≡ found
        → AllByRecursion P (code_block_of (context_at symbols t k) b l found)
    by None e = tt
    by (Some id) e = whether (is_code id.kind) refl
      where
        whether : (is : Bool) → is_code id.kind ≡ is
            → AllByRecursion P (if is then code_block (context_at symbols t k) b l id ∷ [] else [])
        whether true g = (f k b l id h.0 e g, tt)
        whether false g = tt

pub sound_code_blocks : (symbols : List Symbol) (t : Tree) (P : StatedBlock → Type 0)
    → IsSoundTree symbols t
    → ((k : ℕ) (b : Block) (l : BlockLayout) (id : BlockId) → IsSoundBlock symbols t k b l
    → l.id ≡ Some id → is_code id.kind ≡ true → P (code_block (context_at symbols t k) b l id))
    → AllByRecursion P (code_blocks_of t symbols (layouts_of t symbols))
unfolding code_blocks_of
sound_code_blocks symbols t P h f =
    all_sorted P is_code_before
    (each_block (λ c b l. code_block_of c b l l.id) (context_at symbols t 0) t.blocks
    (layouts_of t symbols))
    (each_code symbols t P f 0 t.blocks (layouts_of t symbols) h.blocks)

each_data : (symbols : List Symbol) (t : Tree) (P : DataBlock → Type 0)
    → ((k : ℕ) (b : Block) (l : BlockLayout) (id : BlockId) → IsSoundBlock symbols t k b l
    → l.id ≡ Some id → is_data_block id.kind ≡ true → P (generated_data_block (context_at symbols t k) l id))
    → (k : ℕ) (bs : List Block) (ls : List BlockLayout) → AllLaid (IsSoundBlock symbols t) k bs ls
    → AllByRecursion P (each_block (λ c b l. data_block_of c l l.id) (context_at symbols t k) bs ls)
each_data symbols t P f k [] ls h = tt
each_data symbols t P f k (b ∷ bs) [] h = tt
each_data symbols t P f k (b ∷ bs) (l ∷ ls) h =
    all_append P (data_block_of (context_at symbols t k) l l.id)
    (each_block (λ c b l. data_block_of c l l.id) (context_at symbols t (suc k)) bs ls)
    (by l.id refl) (each_data symbols t P f (suc k) bs ls h.1)
  where
    by : (found : Option BlockId) → l.id ≡ found
        → AllByRecursion P (data_block_of (context_at symbols t k) l found)
    by None e = tt
    by (Some id) e = whether (is_data_block id.kind) refl
      where
        whether : (is : Bool) → is_data_block id.kind ≡ is
            → AllByRecursion P (if is then generated_data_block (context_at symbols t k) l id ∷ [] else [])
        whether true g = (f k b l id h.0 e g, tt)
        whether false g = tt

pub sound_data_blocks : (symbols : List Symbol) (t : Tree) (P : DataBlock → Type 0)
    → IsSoundTree symbols t
    → ((k : ℕ) (b : Block) (l : BlockLayout) (id : BlockId) → IsSoundBlock symbols t k b l
    → l.id ≡ Some id → is_data_block id.kind ≡ true → P (generated_data_block (context_at symbols t k) l id))
    → AllByRecursion P (data_blocks_of t symbols (layouts_of t symbols))
unfolding data_blocks_of
sound_data_blocks symbols t P h f =
    all_sorted P is_data_before
    (each_block (λ c b l. data_block_of c l l.id) (context_at symbols t 0) t.blocks
    (layouts_of t symbols))
    (each_data symbols t P f 0 t.blocks (layouts_of t symbols) h.blocks)
