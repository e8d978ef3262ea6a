-- The calls of a listing that pass nothing.
use Rattle.std.proofs.Common.{◌≡◌, ℕ, zero, suc, Bool, true, false, List, [], ◌∷◌, Option, Some, None, if◌then◌else◌, refl, sym, ap, ◌∙◌, arith}
use Rattle.std.proofs.lemmas.Bool.{ne_eqb}
use Rattle.plc_base.specs.Kinds.{is_callable, is_data_type, is_function_block, is_system_function, kind_number}
use Rattle.plc_base.specs.declared.blocks.BlockId.{BlockId}
use Rattle.plc_base.specs.declared.blocks.BlockKind.{BlockKind}
use Rattle.plc_base.specs.declared.blocks.BlockKind.TheVariants as kinds
use Rattle.flat_code.specs.Instr.{Calls, Passing}
use Rattle.flat_code.specs.declared.operations.CallOperation.{CallOperation}
use Rattle.stl_ast.specs.Statements.{names_called_block}
use Rattle.stl_ast.specs.declared.mnemonics.Mnemonic.{Mnemonic}
use Rattle.stl_ast.specs.declared.mnemonics.Mnemonic.TheVariants as code
use Rattle.stl_ast.specs.declared.names.BlockName.{BlockName}
use Rattle.stl_ast.specs.declared.names.BlockName.TheVariants as block
use Rattle.stl_ast.specs.declared.operands.Operand.{Operand}
use Rattle.stl_ast.specs.declared.operands.Operand.TheVariants as operand
use Rattle.stl_ast.specs.declared.statements.Actual.{Actual}
use Rattle.stl_ast.specs.declared.statements.Statement.{Statement}
use Rattle.block_layout.specs.Blocks.{named_block}
use Rattle.stl_types.specs.Context.{Context, data_number, whole_place}
use Rattle.stl_types.specs.OperandRules.{operand_rule_of}
use Rattle.stl_types.specs.Kinds.{is_operand_of_call as is_called_view}
use Rattle.stl_types.specs.Operands.{rule_of_operand, rule_of_resolved_operand, rule_of_resolution, statement_rule, takes_operand}
use Rattle.stl_types.specs.Parameters.{Callee, callee_of}
use Rattle.stl_types.specs.Resolution.{resolution_of_call, id_at, instance_number, resolution_of, whole_called_block}
use Rattle.stl_types.specs.ResolvedStatement.{resolved_operand}
use Rattle.stl_types.specs.declared.operand_rules.OperandRule.{OperandRule}
use Rattle.stl_types.specs.declared.parameters.Formal.{Formal}
use Rattle.stl_types.specs.declared.resolved_operands.Resolution.TheVariants.{Resolved}
use Rattle.stl_types.specs.declared.resolved_operands.ResolvedOperand.{ResolvedOperand}
use Rattle.stl_types.specs.declared.resolved_operands.ResolvedOperand.TheVariants as resolved
use Rattle.block_layout.specs.Fits.{number_or_zero as instance_of}
use Rattle.stl_codegen.specs.Instruction.{source_block_at, in_parameter_order, instr_by, instruction, passings_to, resolved_instr, operand_instr}
use Rattle.stl_codegen.specs.Operations.{call_operation_of, jump_operation_of}
use Rattle.stl_codegen.specs.PassedParameters.{passings_from}
use Rattle.stl_list.specs.Actuals.{actuals_by}
use Rattle.stl_list.specs.JoinedParameters.{called_id}
use Rattle.stl_parser.specs.Operands.{data_block_name}
use Rattle.stl_list.specs.Operands.{instance_name, operand_by, plain_operand}
use Rattle.stl_list.specs.Statements.{ListingContext, listed_statement}
use Rattle.listing_laws.specs.Calling.{AreCalledAgain, AreBareCallsKept}
use Rattle.listing_laws.specs.Instructions.{HasAgain, IsInstructionKept}
use Rattle.listing_laws.specs.Operands.{IsOpenedAgain}
use Rattle.listing_laws.specs.Statements.{run_of}
use Rattle.listing_laws.proofs.WordLemmas.{call_words_found}
use Rattle.listing_laws.proofs.ruled.Instructions.{resolves, rule_broken, what_seen}
use Rattle.listing_laws.proofs.ruled.Rules.{taken_view}

-- ---- nothing is passed

none_from : (c : Context) (index : ℕ) (fs : List Formal) → passings_from c [] index fs ≡ []
none_from c index [] = refl
none_from c index (f ∷ fs) = none_from c (suc index) fs

none_passed : (c : Context) (s : Statement) (callee : Option Callee) → s.actuals ≡ [] → passings_to c s callee ≡ []
none_passed c s None h = refl
none_passed c s (Some callee) h =
    let fs : List Formal = in_parameter_order (source_block_at c.blocks callee.place) callee.formals in
    ap (λ (actuals : List Actual). passings_from c actuals 0 fs) h ∙ none_from c 0 fs

pub no_jump : (m : Mnemonic) (how : CallOperation) → call_operation_of m ≡ Some how → jump_operation_of m ≡ None
no_jump code.Call how h = refl
no_jump code.Uc how h = refl
no_jump code.Cc how h = refl
no_jump _ how h = absurd cc

calls_to : (c : Context) (body : List Statement) (n : ℕ) (s : Statement) (how : CallOperation) (id : BlockId) (instance : Option ℕ) → call_operation_of s.code ≡ Some how → s.actuals ≡ [] → resolved_operand c s ≡ Some (resolved.Called id instance)
    → instruction c body n s ≡ Calls how id instance []
unfolding instruction
calls_to c body n s how id instance h none e =
    ap (instr_by c body n s) (no_jump s.code how h) ∙ ap (resolved_instr c s) e ∙ ap (operand_instr c s (resolved.Called id instance)) h
    ∙ ap (λ (ps : List Passing). Calls how id instance ps) (none_passed c s (callee_of c s.operand) none)

-- ---- the block that is called

pub same_kind : (m : Mnemonic) (how : CallOperation) (v : ResolvedOperand) → call_operation_of m ≡ Some how → takes_operand (operand_rule_of m) v ≡ true → is_called_view v ≡ true
unfolding takes_operand operand_rule_of
same_kind code.Call how v h e = e
same_kind code.Uc how v h e = e
same_kind code.Cc how v h e = e
same_kind _ how v h e = absurd cc

callable_again : (kind : BlockKind) (number : ℕ) → is_callable kind ≡ true → called_id (kind_number kind) number ≡ record { kind = kind; number = number }
callable_again kinds.Fc number h = refl
callable_again kinds.Fb number h = refl
callable_again kinds.Sfc number h = refl
callable_again kinds.Ob number h = refl
callable_again _ number h = absurd cc

block_again : (kind : BlockKind) (number : ℕ) → is_function_block kind ≡ true → called_id (kind_number kind) number ≡ record { kind = kind; number = number }
block_again kinds.Fb number h = refl
block_again _ number h = absurd cc

-- no user-defined data type is called
callable_plain : (kind : BlockKind) → is_callable kind ≡ true → is_data_type kind ≡ false
callable_plain kinds.Udt h = absurd cc
callable_plain _ h = refl

block_plain : (kind : BlockKind) → is_function_block kind ≡ true → is_data_type kind ≡ false
block_plain kinds.Udt h = absurd cc
block_plain _ h = refl

pub called_plain : (id : BlockId) (instance : Option ℕ) → is_called_view (resolved.Called id instance) ≡ true → is_data_type id.kind ≡ false
called_plain id None h = callable_plain id.kind h
called_plain id (Some number) h = block_plain id.kind h

id_again : (id : BlockId) (instance : Option ℕ) → is_called_view (resolved.Called id instance) ≡ true → called_id (kind_number id.kind) id.number ≡ id
id_again id None h = callable_again id.kind id.number h
id_again id (Some number) h = block_again id.kind id.number h

named_id : (i id : BlockId) (b : Bool) (place : Option ℕ) → (if b then Some i else id_at i place) ≡ Some id → i ≡ id
named_id i id true place e = cc
named_id i id false None e = absurd cc
named_id i id false (Some p) e = cc

whole_id : (c : Context) (x : Option BlockId) (id : BlockId) → whole_called_block c x ≡ Some id → whole_called_block c (Some id) ≡ Some id
whole_id c None id e = absurd cc
whole_id c (Some i) id e = ap (λ (y : BlockId). whole_called_block c (Some y)) (sym (named_id i id (is_system_function i.kind) (whole_place c i) e)) ∙ e

-- ---- its instance

-- no data block has the number 0
pub no_zero : (listed : Context) → data_number listed (data_block_name 0) ≡ Some 0 → ⊥
no_zero listed e = no e
  where
    no : None ≡ Some zero → ⊥
    no e = absurd cc

named_instance : (listed : Context) (number : ℕ) → data_number listed (data_block_name number) ≡ Some number → instance_name number ≡ Some (data_block_name number)
named_instance listed zero e = absurd (no_zero listed e)
named_instance listed (suc n) e = rw (ne_eqb (suc n) 0 (λ h. omega (arith, h))) refl

pub called_again : (listed : Context) (id : BlockId) (instance : Option ℕ) → whole_called_block listed (Some id) ≡ Some id → IsOpenedAgain listed instance
    → resolution_of listed (operand.Called (block.Number id) (instance_name (instance_of instance))) ≡ Resolved (resolved.Called id instance)
unfolding resolution_of
called_again listed id None h k = ap (λ (x : Option BlockId). resolution_of_call x None None) h
called_again listed id (Some number) h k =
    ap (λ (x : Option BlockName). resolution_of_call (whole_called_block listed (Some id)) x (instance_number listed x)) (named_instance listed number k)
    ∙ ap (λ (x : Option BlockId). resolution_of_call x (Some (data_block_name number)) (data_number listed (data_block_name number))) h
    ∙ ap (resolution_of_call (Some id) (Some (data_block_name number))) k

-- ---- the statement

-- what a call sees stands in the listing
pub record StandsCalled (listed : Context) (v : ResolvedOperand) : Type 0 where
  pub id : BlockId
  pub instance : Option ℕ
  pub is : v ≡ resolved.Called id instance
  pub whole : is_data_type id.kind ≡ false → whole_called_block listed (Some id) ≡ Some id
  pub again : IsOpenedAgain listed instance

view_is : (y w : ResolvedOperand) → Resolved y ≡ Resolved w → w ≡ y
view_is y w e = cc

found_called : (c listed : Context) (formals : List Formal) (x : Option BlockId) (named : Option BlockName) (v : ResolvedOperand) → HasAgain c listed formals → AreCalledAgain c listed
    → resolution_of_call (whole_called_block c x) named (instance_number c named) ≡ Resolved v → StandsCalled listed v
found_called c listed formals x named v has called e = by (whole_called_block c x) named (instance_number c named) refl refl e
  where
    by : (y : Option BlockId) (i : Option BlockName) (number : Option ℕ) → whole_called_block c x ≡ y → instance_number c i ≡ number → resolution_of_call y i number ≡ Resolved v → StandsCalled listed v
    by None i number g k e = absurd cc
    by (Some id) None number g k e = record { id = id; instance = None; is = view_is (resolved.Called id None) v e; whole = λ plain. called id plain (whole_id c x id g); again = tt }
    by (Some id) (Some name) None g k e = absurd cc
    by (Some id) (Some name) (Some number) g k e =
        record { id = id; instance = Some number; is = view_is (resolved.Called id (Some number)) v e; whole = λ plain. called id plain (whole_id c x id g); again = has.data_blocks name number k }

pub sees_called : (c listed : Context) (formals : List Formal) (o : Operand) (v : ResolvedOperand) → HasAgain c listed formals → AreCalledAgain c listed → names_called_block o ≡ true → resolution_of c o ≡ Resolved v → StandsCalled listed v
unfolding resolution_of
sees_called c listed formals (operand.Called name instance) v has called is e = found_called c listed formals (named_block c.symbols name) instance v has called e
sees_called c listed formals _ v has called is e = absurd cc

pub rule_called : (c : Context) (f : OperandRule) (o : Operand) (v : ResolvedOperand) → names_called_block o ≡ true → rule_of_operand c f o ≡ None → resolution_of c o ≡ Resolved v → rule_of_resolved_operand f v ≡ None
rule_called c f (operand.Called name instance) v is h e = sym (ap (rule_of_resolution f) e) ∙ h
rule_called c f _ v is h e = absurd cc

call_operand : (sur : ListingContext) (k : ℕ) (f : ℕ → ℕ) (how : CallOperation) (id : BlockId) (instance : Option ℕ) → is_called_view (resolved.Called id instance) ≡ true
    → (listed_statement sur k (run_of f (Calls how id instance []))).operand ≡ operand.Called (block.Number id) (instance_name (instance_of instance))
unfolding operand_by plain_operand
call_operand sur k f how id instance h = ap (λ (i : BlockId). operand.Called (block.Number i) (instance_name (instance_of instance))) (id_again id instance h)

no_actuals : (sur : ListingContext) (k : ℕ) (f : ℕ → ℕ) (how : CallOperation) (id : BlockId) (instance : Option ℕ) → (listed_statement sur k (run_of f (Calls how id instance []))).actuals ≡ []
unfolding actuals_by
no_actuals sur k f how id instance = refl

calls_again : (listed : Context) (sur : ListingContext) (f : ℕ → ℕ) (again : List Statement) (n k : ℕ) (m : Mnemonic) (how : CallOperation) (id : BlockId) (instance : Option ℕ)
    → call_operation_of m ≡ Some how → rule_of_resolved_operand (operand_rule_of m) (resolved.Called id instance) ≡ None → whole_called_block listed (Some id) ≡ Some id → IsOpenedAgain listed instance
    → IsInstructionKept listed again n m (Calls how id instance []) (listed_statement sur k (run_of f (Calls how id instance [])))
calls_again listed sur f again n k m how id instance h rule whole stands = record {
  word = word;
  right = right;
  instr = calls_to listed again n listing how id instance (ap call_operation_of word ∙ h) (no_actuals sur k f how id instance) (resolves listed listing (resolved.Called id instance) right (ap (resolution_of listed) is ∙ sees));
}
  where
    listing : Statement
    listing = listed_statement sur k (run_of f (Calls how id instance []))

    word : listing.code ≡ m
    word = call_words_found m how h

    is : listing.operand ≡ operand.Called (block.Number id) (instance_name (instance_of instance))
    is = call_operand sur k f how id instance (same_kind m how (resolved.Called id instance) h (taken_view (operand_rule_of m) (resolved.Called id instance) rule))

    sees : resolution_of listed (operand.Called (block.Number id) (instance_name (instance_of instance))) ≡ Resolved (resolved.Called id instance)
    sees = called_again listed id instance whole stands

    right : statement_rule listed listing ≡ None
    right = ap (λ (x : Mnemonic). rule_of_operand listed (operand_rule_of x) listing.operand) word ∙ ap (rule_of_operand listed (operand_rule_of m)) is ∙ ap (rule_of_resolution (operand_rule_of m)) sees ∙ rule

pub calls_kept : AreBareCallsKept
calls_kept c listed sur f body again n k s v how has called is none h e =
    by (sees_called c listed sur.formals s.operand v has called is (what_seen c s v e))
  where
    by : StandsCalled listed v → IsInstructionKept listed again n s.code (instruction c body n s) (listed_statement sur k (run_of f (instruction c body n s)))
    by st =
        let rule : rule_of_resolved_operand (operand_rule_of s.code) (resolved.Called st.id st.instance) ≡ None =
        ap (rule_of_resolved_operand (operand_rule_of s.code)) (sym st.is) ∙ rule_called c (operand_rule_of s.code) s.operand v is (rule_broken c s v e) (what_seen c s v e) in
        let plain = called_plain st.id st.instance (same_kind s.code how (resolved.Called st.id st.instance) h (taken_view (operand_rule_of s.code) (resolved.Called st.id st.instance) rule)) in
        rw (calls_to c body n s how st.id st.instance h none (e ∙ ap (λ (x : ResolvedOperand). Some x) st.is))
        (calls_again listed sur f again n k s.code how st.id st.instance h rule (st.whole plain) st.again)
