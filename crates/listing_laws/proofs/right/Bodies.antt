-- A listed body breaks no rule.
use Rattle.std.proofs.Common.{◌≡◌, ℕ, suc, ◌≤◌, Bool, true, false, List, [], ◌∷◌, ◌++◌, length, map, Option, Some, None, if◌then◌else◌, refl, sym, ap, subst, ◌∙◌}
use Rattle.std.specs.List.{AllByRecursion, flat_map}
use Rattle.plc_base.specs.Least.{broken_if}
use Rattle.plc_base.specs.declared.blocks.BlockId.{BlockId}
use Rattle.plc_base.specs.declared.refusals.Refusal.{Refusal}
use Rattle.stl_ast.specs.Literals.{AreBytes}
use Rattle.stl_ast.specs.Statements.{is_empty_statement}
use Rattle.stl_ast.specs.declared.blocks.Block.{Block}
use Rattle.stl_ast.specs.declared.blocks.Tree.{Tree}
use Rattle.stl_ast.specs.declared.operands.Operand.{Operand}
use Rattle.stl_ast.specs.declared.statements.Actual.{Actual}
use Rattle.stl_ast.specs.declared.statements.Statement.{Statement}
use Rattle.stl_symbols.specs.Symbol.{Symbol}
use Rattle.block_layout.specs.Measures.{types_of_source}
use Rattle.block_layout.specs.Operands.{OperandAtLine, in_body, operands_of}
use Rattle.block_layout.specs.Rule23.{names_unknown, operand_23}
use Rattle.block_layout.specs.Rule42.{operand_42, operand_is_outside}
use Rattle.block_layout.specs.Types.{Types}
use Rattle.block_layout.specs.declared.blocks.BlockLayout.{BlockLayout}
use Rattle.stl_types.specs.Actuals.{formal_named}
use Rattle.stl_types.specs.Brackets.{closes_no_bracket, is_eighth_bracket, brackets_left_open, with_brackets}
use Rattle.stl_types.specs.Calls.{by_callee, call_37, calls_unknown, dates_in, has_wrong_instance, is_bare_call, lacks_actual, misfits_formal, names_no_formal, is_resolved_date, actuals_supplied_twice, actuals_without_formal}
use Rattle.stl_types.specs.Context.{Context}
use Rattle.stl_types.specs.Labels.{labels_of, labels_twice, unknown_labels}
use Rattle.stl_types.specs.Landings.{crossing_jumps, landings_at_labels, empty_nesting}
use Rattle.stl_types.specs.Lists.{lists_from}
use Rattle.stl_types.specs.Operands.{at_line, operands_24, statement_rule}
use Rattle.stl_types.specs.Parameters.{Callee, callee_of}
use Rattle.stl_types.specs.Resolution.{resolution_of}
use Rattle.stl_types.specs.Unknown.{is_unknown, operand_20}
use Rattle.stl_types.specs.Zones.{ends_no_zone, is_ninth_zone, with_zones, zones_left_open}
use Rattle.stl_types.specs.declared.parameters.Formal.{Formal}
use Rattle.stl_codegen.specs.CompiledBlock.{SourceInstruction, StatedBlock, compiled_block, lines_in}
use Rattle.stl_codegen.specs.GeneratedProgram.{code_block, statements_of}
use Rattle.stl_list.specs.Signatures.{Signature, formals_of_block}
use Rattle.stl_list.specs.Statements.{ListingContext, body_of, listing_context}
use Rattle.sem_kept.specs.AcceptedSource.{IsAccepted, program_in}
use Rattle.sem_kept.specs.SettledStatements.{IsResolvedStatement}
use Rattle.sem_kept.proofs.accepted.Accepted.{IsSoundActual, IsSoundBody, IsSoundCall, IsSoundStatement, IsSoundTree, right_tree}
use Rattle.listing_laws.specs.ListedSource.{IsMadeOf, again_at, source_context_at}
use Rattle.listing_laws.specs.ListedDeclarations.{signatures_in}
use Rattle.listing_laws.specs.Instructions.{HasAgain, IsRightOperand}
use Rattle.listing_laws.specs.LabelRules.{LeadsWithin}
use Rattle.listing_laws.specs.Nesting.{AreNestedAlike}
use Rattle.listing_laws.specs.CallsAgain.{IsCalledAgain}
use Rattle.listing_laws.specs.Statements.{statement_offset}
use Rattle.listing_laws.proofs.right.Instances.{instance_there}
use Rattle.listing_laws.proofs.right.Named.{AreTypesOf}
use Rattle.listing_laws.proofs.right.Numbered.{landings_kept, lists_kept, numbered_from}
use Rattle.listing_laws.proofs.right.Placed.{IsBodyOf, all_readable, body_in_listing, body_is, few_stated, listed_as, source_block, source_settled}
use Rattle.listing_laws.proofs.right.Statements.{IsInstanceKept, IsRightAgain, statement_right}
use Rattle.listing_laws.proofs.right.Words.{crossing_in, right_from}
use Rattle.listing_laws.proofs.ruled.Labels.{labels_once}
use Rattle.listing_laws.proofs.ruled.Marks.{listed_nestings_kept}
use Rattle.listing_laws.proofs.ruled.Reached.{labels_known}
use Rattle.listing_laws.proofs.ruled.Within.{jumps_within}

-- what the calls of a body break
abbrev pub by_calls : (Context → Callee → Statement → List Refusal) → Context → List Statement → List Refusal
by_calls broken c body = flat_map (λ s. by_callee (broken c) s (callee_of c s.operand)) body

-- a body breaks no rule at its place
pub record IsRightBody (y : Types) (c : Context) (body : List Statement) : Type 0 where
  pub by_20 : in_body (operand_20 c) body ≡ []
  pub by_23 : in_body (operand_23 y) body ≡ []
  pub by_24 : operands_24 c body ≡ []
  pub dates : dates_in c body ≡ []
  pub by_26 : unknown_labels (labels_of body) body ≡ []
  pub by_27 : labels_twice [] body ≡ []
  pub by_29 : with_brackets (λ brackets s. broken_if (closes_no_bracket brackets s) s.line 29) [] body ≡ []
  pub by_30 : brackets_left_open body ≡ []
  pub by_31 : with_brackets (λ brackets s. broken_if (is_eighth_bracket brackets s) s.line 31) [] body ≡ []
  pub by_32 : lists_from [] body ≡ []
  pub by_33 : crossing_jumps (labels_of body) (landings_at_labels empty_nesting body) body ≡ []
  pub by_34 : by_calls (λ c callee s. actuals_without_formal callee.formals s.actuals) c body ≡ []
  pub by_35 : by_calls (λ c callee s. actuals_supplied_twice callee.formals [] s.actuals) c body ≡ []
  pub by_36 : by_calls (λ c callee s. broken_if (lacks_actual callee s) s.line 36) c body ≡ []
  pub by_37 : by_calls call_37 c body ≡ []
  pub by_38 : by_calls (λ c callee s. broken_if (has_wrong_instance c callee s.operand) s.line 38) c body ≡ []
  pub by_40 : by_calls (λ c callee s. broken_if (is_bare_call callee s) s.line 40) c body ≡ []
  pub by_42 : in_body (operand_42 y c.layouts c.block) body ≡ []
  pub by_46 : flat_map (λ s. broken_if (calls_unknown c s.operand) s.line 46) body ≡ []
  pub by_47 : with_zones (λ zones s. broken_if (ends_no_zone zones s) s.line 47) [] body ≡ []
  pub by_48 : zones_left_open body ≡ []
  pub by_49 : with_zones (λ zones s. broken_if (is_ninth_zone zones s) s.line 49) [] body ≡ []

-- one without statements
pub none_right : (y : Types) (c : Context) → IsRightBody y c []
none_right y c = record {
  by_20 = refl;
  by_23 = refl;
  by_24 = refl;
  dates = refl;
  by_26 = refl;
  by_27 = refl;
  by_29 = refl;
  by_30 = refl;
  by_31 = refl;
  by_32 = refl;
  by_33 = refl;
  by_34 = refl;
  by_35 = refl;
  by_36 = refl;
  by_37 = refl;
  by_38 = refl;
  by_40 = refl;
  by_42 = refl;
  by_46 = refl;
  by_47 = refl;
  by_48 = refl;
  by_49 = refl;
}

-- ---- from each statement to the rules

empty_both : {A : Type 0} (xs ys : List A) → xs ≡ [] → ys ≡ [] → xs ++ ys ≡ []
empty_both xs ys e h = ap (λ (z : List _). z ++ ys) e ∙ h

each_empty : (P : Statement → Type 0) (f : Statement → List Refusal) → ((s : Statement) → P s → f s ≡ []) → (body : List Statement) → AllByRecursion P body → flat_map f body ≡ []
each_empty P f by [] h = refl
each_empty P f by (s ∷ ss) h = empty_both (f s) (flat_map f ss) (by s h.0) (each_empty P f by ss h.1)

rule_unbroken : (b : Bool) (line rule : ℕ) → b ≡ false → broken_if b line rule ≡ []
rule_unbroken b line rule e = ap (λ (t : Bool). broken_if t line rule) e

actual_operands_empty : (breaks : Operand → Bool) (rule : ℕ) (actuals : List Actual) → AllByRecursion (λ (a : Actual). breaks a.value ≡ false) actuals
    → flat_map (λ (o : OperandAtLine). broken_if (breaks o.operand) o.line rule) (map (λ (a : Actual). record { line = a.line; operand = a.value }) actuals) ≡ []
actual_operands_empty breaks rule [] h = refl
actual_operands_empty breaks rule (a ∷ more) h =
    empty_both (broken_if (breaks a.value) a.line rule) _ (rule_unbroken (breaks a.value) a.line rule h.0) (actual_operands_empty breaks rule more h.1)

operands_empty : (breaks : Operand → Bool) (rule : ℕ) (s : Statement) → breaks s.operand ≡ false → AllByRecursion (λ (a : Actual). breaks a.value ≡ false) s.actuals
    → flat_map (λ (o : OperandAtLine). broken_if (breaks o.operand) o.line rule) (operands_of s) ≡ []
operands_empty breaks rule s own more = empty_both (broken_if (breaks s.operand) s.line rule) _ (rule_unbroken (breaks s.operand) s.line rule own) (actual_operands_empty breaks rule s.actuals more)

actuals_empty : (breaks : Actual → Bool) (rule : ℕ) (actuals : List Actual) → AllByRecursion (λ (a : Actual). breaks a ≡ false) actuals → flat_map (λ (a : Actual). broken_if (breaks a) a.line rule) actuals ≡ []
actuals_empty breaks rule [] h = refl
actuals_empty breaks rule (a ∷ more) h = empty_both (broken_if (breaks a) a.line rule) _ (rule_unbroken (breaks a) a.line rule h.0) (actuals_empty breaks rule more h.1)

all_of : (P Q : Actual → Type 0) → ((a : Actual) → P a → Q a) → (actuals : List Actual) → AllByRecursion P actuals → AllByRecursion Q actuals
all_of P Q f [] h = tt
all_of P Q f (a ∷ more) h = (f a h.0, all_of P Q f more h.1)

called_empty : (y : Types) (c : Context) (broken : Callee → Statement → List Refusal) (s : Statement) → IsRightAgain y c s → ((callee : Callee) → IsSoundCall c callee s → broken callee s ≡ [])
    → by_callee broken s (callee_of c s.operand) ≡ []
called_empty y c broken s h sound = by (callee_of c s.operand) refl
  where
    by : (found : Option Callee) → callee_of c s.operand ≡ found → by_callee broken s found ≡ []
    by None e = refl
    by (Some callee) e = sound callee (h.calls callee e)

abbrev AreRight : Types → Context → List Statement → Type 0
AreRight y c body = AllByRecursion (IsRightAgain y c) body

module _ (y : Types) (c : Context) (body : List Statement) (h : AreRight y c body) where
  by_each : (f : Statement → List Refusal) → ((s : Statement) → IsRightAgain y c s → f s ≡ []) → flat_map f body ≡ []
  by_each f each = each_empty (IsRightAgain y c) f each body h

  by_call : (broken : Context → Callee → Statement → List Refusal) → ((callee : Callee) (s : Statement) → IsSoundCall c callee s → broken c callee s ≡ []) → by_calls broken c body ≡ []
  by_call broken each = by_each (λ s. by_callee (broken c) s (callee_of c s.operand)) (λ s r. called_empty y c (broken c) s r (λ callee k. each callee s k))

  right_20 : in_body (operand_20 c) body ≡ []
  right_20 = by_each (λ s. flat_map (operand_20 c) (operands_of s)) (λ s r. operands_empty (λ o. is_unknown (resolution_of c o)) 20 s r.known (all_of (IsSoundActual y c) (λ a. is_unknown (resolution_of c a.value) ≡ false) (λ a k. k.known) s.actuals r.actuals))

  right_23 : in_body (operand_23 y) body ≡ []
  right_23 = by_each (λ s. flat_map (operand_23 y) (operands_of s)) (λ s r. operands_empty (names_unknown y) 23 s r.there (all_of (IsSoundActual y c) (λ a. names_unknown y a.value ≡ false) (λ a k. k.there) s.actuals r.actuals))

  right_42 : in_body (operand_42 y c.layouts c.block) body ≡ []
  right_42 =
      by_each (λ s. flat_map (operand_42 y c.layouts c.block) (operands_of s))
      (λ s r. operands_empty (operand_is_outside y c.layouts c.block) 42 s r.inside (all_of (IsSoundActual y c) (λ a. operand_is_outside y c.layouts c.block a.value ≡ false) (λ a k. k.inside) s.actuals r.actuals))

  right_24 : operands_24 c body ≡ []
  right_24 = by_each (λ s. at_line s.line (statement_rule c s)) (λ s r. ap (at_line s.line) r.allowed)

  right_dates : dates_in c body ≡ []
  right_dates =
      by_each (λ s. flat_map (λ a. broken_if (is_resolved_date (resolution_of c a.value)) a.line 24) s.actuals)
      (λ s r. actuals_empty (λ a. is_resolved_date (resolution_of c a.value)) 24 s.actuals (all_of (IsSoundActual y c) (λ a. is_resolved_date (resolution_of c a.value) ≡ false) (λ a k. k.undated) s.actuals r.actuals))

  right_46 : flat_map (λ s. broken_if (calls_unknown c s.operand) s.line 46) body ≡ []
  right_46 = by_each (λ s. broken_if (calls_unknown c s.operand) s.line 46) (λ s r. rule_unbroken (calls_unknown c s.operand) s.line 46 r.one_of_nine)

  right_34 : by_calls (λ c callee s. actuals_without_formal callee.formals s.actuals) c body ≡ []
  right_34 = by_call (λ c callee s. actuals_without_formal callee.formals s.actuals) (λ callee s k. actuals_empty (names_no_formal callee.formals) 34 s.actuals k.named)

  right_35 : by_calls (λ c callee s. actuals_supplied_twice callee.formals [] s.actuals) c body ≡ []
  right_35 = by_call (λ c callee s. actuals_supplied_twice callee.formals [] s.actuals) (λ callee s k. k.once)

  right_36 : by_calls (λ c callee s. broken_if (lacks_actual callee s) s.line 36) c body ≡ []
  right_36 = by_call (λ c callee s. broken_if (lacks_actual callee s) s.line 36) (λ callee s k. rule_unbroken (lacks_actual callee s) s.line 36 k.complete)

  right_37 : by_calls call_37 c body ≡ []
  right_37 = by_call call_37 (λ callee s k. actuals_empty (λ a. misfits_formal c a (formal_named callee.formals a.name)) 37 s.actuals k.fits)

  right_38 : by_calls (λ c callee s. broken_if (has_wrong_instance c callee s.operand) s.line 38) c body ≡ []
  right_38 = by_call (λ c callee s. broken_if (has_wrong_instance c callee s.operand) s.line 38) (λ callee s k. rule_unbroken (has_wrong_instance c callee s.operand) s.line 38 k.instance)

  right_40 : by_calls (λ c callee s. broken_if (is_bare_call callee s) s.line 40) c body ≡ []
  right_40 = by_call (λ c callee s. broken_if (is_bare_call callee s) s.line 40) (λ callee s k. rule_unbroken (is_bare_call callee s) s.line 40 k.bare)

-- ---- each statement of a listed body

-- what the body of a block names and calls is there in the listing, at the block that was made of it
pub record IsBodyReady (c listed : Context) (signatures : List Signature) (own : List Formal) (body : List Statement) : Type 0 where
  pub has : HasAgain c listed own
  pub operands : AllByRecursion (λ s. IsRightOperand c.symbols s.operand) body
  pub calls : AllByRecursion (IsCalledAgain c listed signatures own) body

numbered_right : (y y' : Types) (c listed : Context) (sur : ListingContext) (f : ℕ → ℕ) (body : List Statement) (k : ℕ) (ss : List Statement)
    → AreTypesOf y listed → HasAgain c listed sur.formals → AllByRecursion (λ s. IsRightOperand c.symbols s.operand) ss → AllByRecursion (IsCalledAgain c listed sur.signatures sur.formals) ss → AllByRecursion (IsInstanceKept c listed) ss
    → AllByRecursion (IsResolvedStatement c body) ss → AllByRecursion (IsSoundStatement y' c) ss
    → AreRight y listed (numbered_from (listed_as sur f c body) k ss)
numbered_right y y' c listed sur f body k [] types has operands calls instances settled sound = tt
numbered_right y y' c listed sur f body k (s ∷ ss) types has operands calls instances settled sound =
    by (is_empty_statement s.code) refl (λ j. numbered_right y y' c listed sur f body j ss types has operands.1 calls.1 instances.1 settled.1 sound.1)
  where
    by : (none : Bool) → is_empty_statement s.code ≡ none → ((j : ℕ) → AreRight y listed (numbered_from (listed_as sur f c body) j ss))
        → AreRight y listed (if none then numbered_from (listed_as sur f c body) k ss else listed_as sur f c body k s ∷ numbered_from (listed_as sur f c body) (suc k) ss)
    by true w more = more k
    by false w more = (statement_right y y' c listed sur f body k s types has operands.0 calls.0 instances.0 settled.0 sound.0 w, more (suc k))

-- ---- the whole body

body_right : (signatures : List Signature) (stated : StatedBlock) (y y' : Types) (c listed : Context) (b : Block)
    → IsBodyOf c b signatures stated (body_of signatures (lines_in stated.statements) (compiled_block stated))
    → stated.statements ≡ statements_of c b → length stated.statements ≤ 93312
    → AllByRecursion (IsResolvedStatement c b.body) b.body → AllByRecursion (IsSoundStatement y' c) b.body → IsSoundBody b.body
    → AreTypesOf y listed → IsBodyReady c listed signatures (formals_of_block signatures stated.id) b.body → AllByRecursion (IsInstanceKept c listed) b.body
    → IsRightBody y listed (body_of signatures (lines_in stated.statements) (compiled_block stated))
body_right signatures stated y y' c listed b is e few settled sound source types ready instances = record {
  by_20 = right_20 y listed body each;
  by_23 = right_23 y listed body each;
  by_24 = right_24 y listed body each;
  dates = right_dates y listed body each;
  by_26 = labels_known signatures (lines_in stated.statements) stated
      (subst (λ (ss : List SourceInstruction). AllByRecursion (λ s. LeadsWithin (length ss) s.instr) ss) (sym e) (jumps_within c b));
  by_27 = labels_once signatures (lines_in stated.statements) stated few;
  by_29 = nested.closing ∙ source.by_29;
  by_30 = nested.brackets_left ∙ source.by_30;
  by_31 = nested.eighth ∙ source.by_31;
  by_32 = ap (lists_from []) is.is ∙ lists_kept b.body sur.targets (listed_as sur (statement_offset stated.statements) c b.body) (right_from b.body source) is.placed;
  by_33 = ap crossing_in is.is ∙ landings_kept b.body sur.targets (listed_as sur (statement_offset stated.statements) c b.body) is.placed source.by_33;
  by_34 = right_34 y listed body each;
  by_35 = right_35 y listed body each;
  by_36 = right_36 y listed body each;
  by_37 = right_37 y listed body each;
  by_38 = right_38 y listed body each;
  by_40 = right_40 y listed body each;
  by_42 = right_42 y listed body each;
  by_46 = right_46 y listed body each;
  by_47 = nested.ending ∙ source.by_47;
  by_48 = nested.zones_left ∙ source.by_48;
  by_49 = nested.ninth ∙ source.by_49;
}
  where
    sur : ListingContext
    sur = listing_context signatures (lines_in stated.statements) (compiled_block stated)

    body : List Statement
    body = body_of signatures (lines_in stated.statements) (compiled_block stated)

    nested : AreNestedAlike body b.body
    nested = listed_nestings_kept c b stated signatures (all_readable y' c b.body b.body settled sound) e

    each : AreRight y listed body
    each =
        subst (AreRight y listed) (sym is.is)
        (numbered_right y y' c listed sur (statement_offset stated.statements) b.body 0 b.body types ready.has ready.operands ready.calls instances settled sound)

instances_kept : (symbols : List Symbol) (t : Tree) → IsSoundTree symbols t → (k : ℕ) (ss : List Statement) → AllByRecursion (IsSoundStatement (types_of_source symbols t.blocks) (source_context_at symbols t k)) ss
    → (others : List Symbol) (again : ℕ) (own : List Formal) → HasAgain (source_context_at symbols t k) (again_at symbols t others again) own
    → AllByRecursion (IsInstanceKept (source_context_at symbols t k) (again_at symbols t others again)) ss
instances_kept symbols t tree k [] sound others again own has = tt
instances_kept symbols t tree k (s ∷ ss) sound others again own has = (instance_there symbols t tree k s sound.0 others again own has, instances_kept symbols t tree k ss sound.1 others again own has)

-- of an accepted source
pub made_right : (source file : List ℕ) (symbols : List Symbol) (t : Tree) → IsAccepted source file symbols t → AreBytes source → (again place : ℕ) (b : Block) (l : BlockLayout) (id : BlockId)
    → (made : IsMadeOf symbols t again place b l id) → (y : Types) (others : List Symbol) → AreTypesOf y (again_at symbols t others again)
    → IsBodyReady (source_context_at symbols t place) (again_at symbols t others again) (signatures_in (program_in symbols t)) (formals_of_block (signatures_in (program_in symbols t)) id) b.body
    → IsRightBody y (again_at symbols t others again) (body_in_listing symbols t again place b l id made)
made_right source file symbols t accepted bytes again place b l id made y others types ready =
    let c = source_context_at symbols t place in
    let listed = again_at symbols t others again in
    let tree = right_tree source file symbols t accepted in
    let stated = code_block c b l id in
    let signatures = signatures_in (program_in symbols t) in
    let sound = source_block source file symbols t accepted again place b l id made in
    subst (λ (ls : List ℕ). IsRightBody y listed (body_of signatures ls (compiled_block stated))) (sym made.stands.lines)
    (body_right signatures stated y (types_of_source symbols t.blocks) c listed b
    (subst (λ (ls : List ℕ). IsBodyOf c b signatures stated (body_of signatures ls (compiled_block stated))) made.stands.lines (body_is source file symbols t accepted bytes again place b l id made))
    refl (few_stated c b sound.head.by_55)
    (source_settled source file symbols t accepted bytes again place b l id made) sound.statements sound.body types ready
    (instances_kept symbols t tree place b.body sound.statements others again (formals_of_block signatures id) ready.has))
