-- A statement in the place of one of the source breaks no rule by its operand or what it calls.
use Rattle.std.proofs.Common.{◌≡◌, ℕ, zero, Bool, true, false, ◌&&◌, not, List, [], Option, Some, None, option_map, if◌then◌else◌, refl, sym, ap, subst, ◌∙◌}
use Rattle.std.specs.Prelude.{slice_get, ◌==◌}
use Rattle.std.specs.List.{AllByRecursion}
use Rattle.std.specs.Option.{is_none, option_and_then}
use Rattle.std.proofs.lemmas.Option.{same_Some}
use Rattle.plc_base.specs.Kinds.{is_callable, is_function, is_function_block, is_system_function}
use Rattle.plc_base.specs.declared.blocks.BlockId.{BlockId}
use Rattle.flat_code.specs.Kinds.{timer_kind}
use Rattle.flat_code.specs.Instr.{Calls, Does, Instr, Jumps, JumpsByList, Passing, Returns}
use Rattle.flat_code.specs.Ops.{OpData}
use Rattle.flat_code.specs.declared.kinds.JumpOperation.{JumpOperation}
use Rattle.flat_code.specs.declared.kinds.JumpOperation.TheVariants as jump
use Rattle.flat_code.specs.declared.operands.Operand.{Operand as FlatOperand}
use Rattle.flat_code.specs.declared.operands.Operand.TheVariants as flat
use Rattle.flat_code.specs.declared.operands.Passed.{Passed}
use Rattle.flat_code.specs.declared.operations.AddConstant.TheVariants as add_constant
use Rattle.flat_code.specs.declared.operations.CallOperation.{CallOperation}
use Rattle.flat_code.specs.declared.operations.EndOperation.{EndOperation}
use Rattle.flat_code.specs.declared.operations.Logic.TheVariants as logic
use Rattle.flat_code.specs.declared.operations.Operation.{Operation}
use Rattle.flat_code.specs.declared.operations.Operation.TheVariants as operation
use Rattle.flat_code.specs.declared.operations.PointerOperation.TheVariants as pointers
use Rattle.stl_ast.specs.Statements.{has_actuals, names_called_block, is_empty_statement}
use Rattle.stl_ast.specs.declared.mnemonics.Mnemonic.{Mnemonic}
use Rattle.stl_ast.specs.declared.names.BlockName.{BlockName}
use Rattle.stl_ast.specs.declared.names.BlockName.TheVariants as block
use Rattle.stl_ast.specs.declared.operands.Numbered.TheVariants as numbered
use Rattle.stl_ast.specs.declared.operands.Operand.{Operand}
use Rattle.stl_ast.specs.declared.operands.Operand.TheVariants as operand
use Rattle.stl_ast.specs.declared.statements.Statement.{Statement}
use Rattle.block_layout.specs.Blocks.{named_block}
use Rattle.block_layout.specs.Rule23.{names_unknown}
use Rattle.block_layout.specs.Rule42.{operand_is_outside}
use Rattle.block_layout.specs.Types.{Types}
use Rattle.stl_types.specs.Calls.{calls_unknown, has_no_instance, has_wrong_instance, is_unknown_function, is_resolved_date}
use Rattle.stl_types.specs.Context.{Context, data_number, whole_place}
use Rattle.stl_types.specs.OperandRules.{operand_rule_of}
use Rattle.stl_types.specs.Operands.{rule_of_operand, rule_of_resolved_operand, rule_of_resolution, statement_rule}
use Rattle.stl_types.specs.Parameters.{Callee, callee_at, callee_by, callee_of, source_callee, system_callee, system_formals}
use Rattle.stl_types.specs.Resolution.{resolution_of_call, id_at, instance_number, resolution_of, whole_called_block}
use Rattle.stl_types.specs.ResolvedStatement.{resolved_operand}
use Rattle.stl_types.specs.Unknown.{is_unknown}
use Rattle.stl_types.specs.declared.parameters.Formal.{Formal}
use Rattle.stl_types.specs.declared.resolved_operands.Register.TheVariants as register
use Rattle.stl_types.specs.declared.resolved_operands.Resolution.{Resolution}
use Rattle.stl_types.specs.declared.resolved_operands.Resolution.TheVariants.{Resolved, Unknown, Unjudged}
use Rattle.stl_types.specs.declared.resolved_operands.ResolvedOperand.{ResolvedOperand}
use Rattle.stl_types.specs.declared.resolved_operands.ResolvedOperand.TheVariants as resolved
use Rattle.stl_codegen.specs.CompiledBlock.{operand_with_target}
use Rattle.stl_codegen.specs.EmittedOps.{pass_ops}
use Rattle.stl_codegen.specs.Instruction.{instruction, jump_instr, passings_to, target_of}
use Rattle.stl_codegen.specs.Operands.{flat_operand_of}
use Rattle.stl_codegen.specs.Operations.{call_operation_of, end_operation_of, jump_operation_of}
use Rattle.stl_codegen.specs.PassedParameters.{passed_resolution}
use Rattle.stl_list.specs.Actuals.{actual_of_passed, actuals_before, actuals_by, passed_operand}
use Rattle.stl_list.specs.Constants.{instruction_constant}
use Rattle.stl_list.specs.Labels.{label_of_number}
use Rattle.stl_parser.specs.Operands.{data_block_name}
use Rattle.stl_list.specs.Operands.{implied_operand, operand_by, plain_operand}
use Rattle.stl_list.specs.Runs.{statement_number_at}
use Rattle.stl_list.specs.Signatures.{called_formals}
use Rattle.stl_list.specs.Statements.{ListingContext, listed_statement}
use Rattle.sem_kept.specs.SettledStatements.{HasCalled, HasInstruction, HasOperand, IsResolvedStatement}
use Rattle.sem_kept.proofs.accepted.Accepted.{IsSoundActual, IsSoundCall, IsSoundStatement}
use Rattle.sem_kept.proofs.accepted.Shared.{callable_by}
use Rattle.listing_laws.specs.Calls.{IsInstanceAt}
use Rattle.listing_laws.specs.Instructions.{HasAgain, IsRightOperand}
use Rattle.listing_laws.specs.Operands.{operand_instruction}
use Rattle.listing_laws.specs.Passings.{BreaksNone, FitsListed, IsListedCall}
use Rattle.listing_laws.specs.CallsAgain.{IsCalledAgain, IsFoundAgain}
use Rattle.listing_laws.specs.Statements.{run_of}
use Rattle.listing_laws.proofs.called.Calls.{calls_listed, calls_whole, instances_right, statements_listed}
use Rattle.listing_laws.proofs.called.Passings.{actuals_right, all_actuals, calls_complete, sees, operand_undated}
use Rattle.listing_laws.proofs.right.Named.{AreTypesOf, IsBare, bare_inside, operand_bare, passed_bare, seen_there}
use Rattle.listing_laws.proofs.right.Placed.{labels_seen, listed_as, readable}
use Rattle.listing_laws.proofs.ruled.Calling.{rule_called, same_kind}
use Rattle.listing_laws.proofs.ruled.Instructions.{acting_word, comes_to, end_operand, end_taken, jump_taken, jump_instruction, leap_operand, nothing_seen, rule_broken, what_seen}
use Rattle.listing_laws.proofs.ruled.Marks.{call_comes, calls_block, word_is}
use Rattle.listing_laws.proofs.ruled.Operands.{operands_kept}
use Rattle.listing_laws.proofs.ruled.Rules.{taken_view}
use Rattle.listing_laws.proofs.ruled.Views.{stands}

-- a statement breaks no rule by what it names and calls
pub record IsRightAgain (y : Types) (c : Context) (s : Statement) : Type 0 where
  pub known : is_unknown (resolution_of c s.operand) ≡ false
  pub there : names_unknown y s.operand ≡ false
  pub inside : operand_is_outside y c.layouts c.block s.operand ≡ false
  pub allowed : statement_rule c s ≡ None
  pub one_of_nine : calls_unknown c s.operand ≡ false
  pub actuals : AllByRecursion (IsSoundActual y c) s.actuals
  pub calls : (callee : Callee) → callee_of c s.operand ≡ Some callee → IsSoundCall c callee s

known_by : (x : Resolution) (v : ResolvedOperand) → x ≡ Resolved v → is_unknown x ≡ false
known_by x v e = ap is_unknown e

-- ---- what calls nothing

not_unknown : (c : Context) (o : Operand) → names_called_block o ≡ false → calls_unknown c o ≡ false
not_unknown c (operand.Called name instance) e = absurd cc
not_unknown c _ e = refl

no_callee : (c : Context) (o : Operand) (callee : Callee) → names_called_block o ≡ false → callee_of c o ≡ Some callee → ⊥
unfolding callee_of
no_callee c (operand.Called name instance) callee e h = absurd cc
no_callee c _ callee e h = absurd cc

right_plain : (y : Types) (c : Context) (s : Statement) (v : ResolvedOperand) → AreTypesOf y c → resolution_of c s.operand ≡ Resolved v → IsBare s.operand → statement_rule c s ≡ None
    → names_called_block s.operand ≡ false → s.actuals ≡ [] → IsRightAgain y c s
right_plain y c s v types sees bare rule calls none = record {
  known = known_by (resolution_of c s.operand) v sees;
  there = seen_there y c s.operand v types sees;
  inside = bare_inside y c s.operand bare;
  allowed = rule;
  one_of_nine = not_unknown c s.operand calls;
  actuals = subst (AllByRecursion (IsSoundActual y c)) (sym none) tt;
  calls = λ callee e. absurd (no_callee c s.operand callee calls e);
}

-- instructions that call nothing
abbrev IsNoCalled : FlatOperand → Type 0
IsNoCalled (flat.Called kind number instance) = ⊥
IsNoCalled _ = Unit {0}

abbrev IsNoCall : Instr → Type 0
IsNoCall (Does u w o) = IsNoCalled o
IsNoCall (Calls how id instance ps) = ⊥
IsNoCall _ = Unit {0}

aimed_none : (f : ℕ → ℕ) (o : FlatOperand) → IsNoCalled o → IsNoCalled (operand_with_target f o)
aimed_none f (flat.Jump kind target) h = tt
aimed_none f (flat.Called kind number instance) h = h
aimed_none f _ h = tt

run_none : (f : ℕ → ℕ) (i : Instr) → IsNoCall i → IsNoCalled (run_of f i).op.operand
run_none f (Does u w o) h = aimed_none f o h
run_none f (Jumps how target) h = tt
run_none f (JumpsByList targets otherwise) h = tt
run_none f (Calls how id instance ps) h = absurd h
run_none f (Returns how) h = tt

implied_none : (w : Operation) → names_called_block (implied_operand w) ≡ false
implied_none operation.LoadStatus = refl
implied_none operation.TransferStatus = refl
implied_none (operation.Pointer pointers.Lar1Ar2) = refl
implied_none (operation.Pointer pointers.Tar1Ar2) = refl
implied_none _ = refl

constant_none : (w : Operation) (bits : ℕ) → names_called_block (instruction_constant w bits) ≡ false
constant_none operation.Load bits = refl
constant_none (operation.Logic logic.Ad) bits = refl
constant_none (operation.Logic logic.Od) bits = refl
constant_none (operation.Logic logic.Xod) bits = refl
constant_none (operation.Logic _) bits = refl
constant_none (operation.Pointer which) bits = refl
constant_none (operation.Add add_constant.Dword) bits = refl
constant_none operation.LoadOpenBlock bits = refl
constant_none _ bits = refl

timer_none : (b : Bool) (number : ℕ) → names_called_block (if b then operand.Timer number else operand.Counter number) ≡ false
timer_none true number = refl
timer_none false number = refl

operand_none : (formals : List Formal) (starts : List ℕ) (opened : Option ℕ) (w : Operation) (f : FlatOperand) → IsNoCalled f → names_called_block (operand_by formals starts opened w f) ≡ false
unfolding operand_by plain_operand
operand_none formals starts opened w flat.Nothing h = implied_none w
operand_none formals starts opened w (flat.Literal value) h = constant_none w value
operand_none formals starts opened w (flat.Numbered kind number) h = timer_none (kind == timer_kind) number
operand_none formals starts opened w (flat.Called kind number instance) h = absurd h
operand_none formals starts opened w _ h = refl

actuals_none : (sur : ListingContext) (line : ℕ) (before : List OpData) (f : FlatOperand) → IsNoCalled f → actuals_by sur.signatures line sur.formals before f ≡ []
unfolding actuals_by
actuals_none sur line before (flat.Called kind number instance) h = absurd h
actuals_none sur line before _ h = refl

jump_none : (how : JumpOperation) (k n : ℕ) → IsNoCall (jump_instr how k n)
jump_none jump.Jl k n = tt
jump_none _ k n = tt

acting_none : (o : Operand) (v : ResolvedOperand) → IsNoCalled (flat_operand_of o v)
unfolding flat_operand_of
acting_none o (resolved.NumberBy numbered.Timer from byte) = tt
acting_none o (resolved.NumberBy numbered.Counter from byte) = tt
acting_none o (resolved.NumberBy numbered.Db from byte) = tt
acting_none o (resolved.NumberBy numbered.Di from byte) = tt
acting_none o (resolved.Register register.Dblg) = tt
acting_none o (resolved.Register register.Dbno) = tt
acting_none o (resolved.Register register.Dilg) = tt
acting_none o (resolved.Register register.Dino) = tt
acting_none o (resolved.Register _) = tt
acting_none o _ = tt

-- by its instruction
abbrev IsShownAgain : Types → Context → ListingContext → (ℕ → ℕ) → (k : ℕ) → Instr → Type 0
IsShownAgain y listed sur f k i = IsRightAgain y listed (listed_statement sur k (run_of f i))

right_instr : (y : Types) (listed : Context) (sur : ListingContext) (f : ℕ → ℕ) (k : ℕ) (i : Instr) (v : ResolvedOperand) → AreTypesOf y listed → IsNoCall i
    → resolution_of listed (listed_statement sur k (run_of f i)).operand ≡ Resolved v → statement_rule listed (listed_statement sur k (run_of f i)) ≡ None → IsShownAgain y listed sur f k i
right_instr y listed sur f k i v types none sees rule =
    right_plain y listed (listed_statement sur k (run_of f i)) v types sees (operand_bare sur.formals sur.starts _ _ (run_of f i).op.operand) rule
    (operand_none sur.formals sur.starts _ _ (run_of f i).op.operand (run_none f i none))
    (actuals_none sur _ (run_of f i).before (run_of f i).op.operand (run_none f i none))

-- ---- jumps

jump_right : (y : Types) (c listed : Context) (sur : ListingContext) (f : ℕ → ℕ) (body : List Statement) (k : ℕ) (s : Statement) (how : JumpOperation)
    → AreTypesOf y listed → jump_operation_of s.code ≡ Some how → (listed_as sur f c body k s).code ≡ s.code → IsRightAgain y listed (listed_as sur f c body k s)
jump_right y c listed sur f body k s how types h word =
    subst (IsShownAgain y listed sur f k) (sym is)
    (right_instr y listed sur f k (jump_instr how k n) resolved.Label types (jump_none how k n) (ap (resolution_of listed) shown ∙ labels_seen listed name) rule)
  where
    n : ℕ
    n = target_of body s.operand

    name : List ℕ
    name = label_of_number (statement_number_at sur.starts (f (target_of body s.operand)))

    is : instruction c body k s ≡ jump_instr how k n
    is = jump_instruction c body k s how h

    shown : (listed_statement sur k (run_of f (jump_instr how k n))).operand ≡ operand.Label name
    shown = leap_operand sur k f how k n

    code_is : (listed_statement sur k (run_of f (jump_instr how k n))).code ≡ s.code
    code_is = ap (λ (i : Instr). (listed_statement sur k (run_of f i)).code) (sym is) ∙ word

    rule : statement_rule listed (listed_statement sur k (run_of f (jump_instr how k n))) ≡ None
    rule =
        ap (λ (m : Mnemonic). rule_of_operand listed (operand_rule_of m) (listed_statement sur k (run_of f (jump_instr how k n))).operand) code_is
        ∙ ap (rule_of_operand listed (operand_rule_of s.code)) shown
        ∙ jump_taken listed s.code how name h

-- ---- what goes on, and the ends of blocks

does_right : (y : Types) (c listed : Context) (sur : ListingContext) (f : ℕ → ℕ) (k : ℕ) (s : Statement) (v : ResolvedOperand)
    → AreTypesOf y listed → HasAgain c listed sur.formals → IsRightOperand c.symbols s.operand
    → is_empty_statement s.code ≡ false → jump_operation_of s.code ≡ None → call_operation_of s.code ≡ None → end_operation_of s.code ≡ None → resolved_operand c s ≡ Some v
    → IsShownAgain y listed sur f k (operand_instruction s.code s.operand v)
does_right y c listed sur f k s v types has right some jumps calls ends e =
    let sees = what_seen c s v e in
    let both = stands c listed sur.formals s.operand v has right sees in
    let acted = operands_kept c listed sur.formals sur.starts f s.code s.operand v (record { some = some; jumps = jumps; calls = calls; ends = ends }) (rule_broken c s v e) sees both.1 both.0 in
    right_instr y listed sur f k (operand_instruction s.code s.operand v) acted.found types (acting_none s.operand v) acted.resolves
    (ap (λ (m : Mnemonic). rule_of_operand listed (operand_rule_of m) (listed_statement sur k (run_of f (operand_instruction s.code s.operand v))).operand) (acting_word f s.code s.operand v some jumps calls ends) ∙ acted.right)

end_right : (y : Types) (listed : Context) (sur : ListingContext) (f : ℕ → ℕ) (k : ℕ) (m : Mnemonic) (how : EndOperation)
    → AreTypesOf y listed → end_operation_of m ≡ Some how → (listed_statement sur k (run_of f (Returns how))).code ≡ m → IsShownAgain y listed sur f k (Returns how)
end_right y listed sur f k m how types ends word =
    right_instr y listed sur f k (Returns how) resolved.Nothing types tt (ap (resolution_of listed) (end_operand sur k f how) ∙ nothing_seen listed)
    (ap (λ (x : Mnemonic). rule_of_operand listed (operand_rule_of x) (listed_statement sur k (run_of f (Returns how))).operand) word
    ∙ ap (rule_of_operand listed (operand_rule_of m)) (end_operand sur k f how) ∙ end_taken listed m how ends)

other_right : (y : Types) (c listed : Context) (sur : ListingContext) (f : ℕ → ℕ) (body : List Statement) (k : ℕ) (s : Statement) (v : ResolvedOperand)
    → AreTypesOf y listed → HasAgain c listed sur.formals → IsRightOperand c.symbols s.operand
    → is_empty_statement s.code ≡ false → jump_operation_of s.code ≡ None → call_operation_of s.code ≡ None → resolved_operand c s ≡ Some v → (listed_as sur f c body k s).code ≡ s.code
    → IsRightAgain y listed (listed_as sur f c body k s)
other_right y c listed sur f body k s v types has right some jumps calls e word = by (end_operation_of s.code) refl
  where
    by : (ending : Option EndOperation) → end_operation_of s.code ≡ ending → IsRightAgain y listed (listed_as sur f c body k s)
    by None ends =
        subst (IsShownAgain y listed sur f k) (sym (comes_to c body k s v None jumps calls ends e))
        (does_right y c listed sur f k s v types has right some jumps calls ends e)
    by (Some how) ends =
        let is = comes_to c body k s v (Some how) jumps calls ends e in
        subst (IsShownAgain y listed sur f k) (sym is)
        (end_right y listed sur f k s.code how types ends (ap (λ (i : Instr). (listed_statement sur k (run_of f i)).code) (sym is) ∙ word))

-- ---- what a call calls

-- a block that is found by its parameters stands there as a whole, and is no unknown system function
found_whole : (c : Context) (id : BlockId) (place : Option ℕ) (callee : Callee) → option_and_then (callee_at c id) place ≡ Some callee → id_at id place ≡ Some id
found_whole c id None callee e = absurd cc
found_whole c id (Some place) callee e = refl

found_system : (id : BlockId) (o : Option (List Formal)) (callee : Callee) → option_map (λ (formals : List Formal). record { id = id; place = None; formals = formals }) o ≡ Some callee → is_none o ≡ false
found_system id None callee e = absurd cc
found_system id (Some formals) callee e = refl

record IsThere (c : Context) (id : BlockId) : Type 0 where
  whole : whole_called_block c (Some id) ≡ Some id
  known : is_unknown_function (Some id) ≡ false

callee_there : (c : Context) (id : BlockId) (callee : Callee) → callee_by c id id.kind ≡ Some callee → IsThere c id
callee_there c id callee e = by (is_system_function id.kind) refl (is_function id.kind) (is_function_block id.kind) e
  where
    in_source : is_system_function id.kind ≡ false → source_callee c id ≡ Some callee → IsThere c id
    in_source is e = record {
      whole = ap (λ (b : Bool). if b then Some id else id_at id (whole_place c id)) is ∙ found_whole c id (whole_place c id) callee e;
      known = ap (λ (b : Bool). b && is_none (system_formals id.number)) is;
    }

    by : (system : Bool) → is_system_function id.kind ≡ system → (function block : Bool)
        → (if system then system_callee id else if function then source_callee c id else if block then source_callee c id else None) ≡ Some callee → IsThere c id
    by true is function block e = record {
      whole = ap (λ (b : Bool). if b then Some id else id_at id (whole_place c id)) is;
      known = ap (λ (b : Bool). b && is_none (system_formals id.number)) is ∙ found_system id (system_formals id.number) callee e;
    }
    by false is true block e = in_source is e
    by false is false true e = in_source is e
    by false is false false e = absurd cc

callee_is : (c : Context) (id : BlockId) (instance : Option BlockName) (callee : Callee) → callee_of c (operand.Called (block.Number id) instance) ≡ Some callee → callee_by c id id.kind ≡ Some callee
unfolding callee_of
callee_is c id instance callee e = e

-- the instance that a call of the source names
record NamesInstance (c : Context) (o : Operand) (instance : Option ℕ) : Type 0 where
  none : has_no_instance o ≡ is_none instance
  number : (n : ℕ) → instance ≡ Some n → (name : BlockName) × (data_number c name ≡ Some n)

called_views : (x y : BlockId) (i j : Option ℕ) → Resolved (resolved.Called x i) ≡ Resolved (resolved.Called y j) → i ≡ j
called_views x y i j e = cc

no_number : (n : ℕ) → None ≡ Some n → ⊥
no_number n e = absurd cc

names_by : (c : Context) (name : BlockName) (w : Option BlockId) (i : Option BlockName) (id : BlockId) (instance : Option ℕ) → resolution_of_call w i (instance_number c i) ≡ Resolved (resolved.Called id instance)
    → NamesInstance c (operand.Called name i) instance
names_by c name None i id instance e = absurd cc
names_by c name (Some x) None id instance e =
    let is : None ≡ instance = called_views x id None instance e in
    record { none = ap is_none is; number = λ n at. absurd (no_number n (is ∙ at)) }
names_by c name (Some x) (Some i) id instance e = by (data_number c i) refl e
  where
    by : (n : Option ℕ) → data_number c i ≡ n → resolution_of_call (Some x) (Some i) n ≡ Resolved (resolved.Called id instance) → NamesInstance c (operand.Called name (Some i)) instance
    by None is e = absurd cc
    by (Some m) is e =
        let same : Some m ≡ instance = called_views x id (Some m) instance e in
        record { none = ap is_none same; number = λ n at. (i, is ∙ same ∙ at) }

names_instance : (c : Context) (o : Operand) (id : BlockId) (instance : Option ℕ) → names_called_block o ≡ true → resolution_of c o ≡ Resolved (resolved.Called id instance) → NamesInstance c o instance
unfolding resolution_of
names_instance c (operand.Called name i) id instance is e = names_by c name (whole_called_block c (named_block c.symbols name)) i id instance e
names_instance c _ id instance is e = absurd cc

-- and it stands in the listing
abbrev IsInstanceThere : Context → Option ℕ → Type 0
IsInstanceThere listed instance = (n : ℕ) → instance ≡ Some n → data_number listed (data_block_name n) ≡ Some n

zero_none : (listed : Context) → data_number listed (data_block_name 0) ≡ Some 0 → ⊥
zero_none listed e = no e
  where
    no : None ≡ Some zero → ⊥
    no e = absurd cc

called_seen_again : (listed : Context) (id : BlockId) (instance : Option ℕ) → whole_called_block listed (Some id) ≡ Some id → IsInstanceThere listed instance
    → resolution_of listed (operand.Called (block.Number id) (option_map data_block_name instance)) ≡ Resolved (resolved.Called id instance)
unfolding resolution_of
called_seen_again listed id None h k = ap (λ (x : Option BlockId). resolution_of_call x None None) h
called_seen_again listed id (Some number) h k =
    ap (λ (x : Option BlockId). resolution_of_call x (Some (data_block_name number)) (data_number listed (data_block_name number))) h
    ∙ ap (resolution_of_call (Some id) (Some (data_block_name number))) (k number refl)

lacks_again : (id : BlockId) (instance : Option ℕ) → has_no_instance (operand.Called (block.Number id) (option_map data_block_name instance)) ≡ is_none instance
lacks_again id None = refl
lacks_again id (Some n) = refl

-- ---- what is passed

passed_known : (o : Operand) (x : Resolution) (p : Passed) → passed_resolution o x ≡ Some p → (v : ResolvedOperand) × (x ≡ Resolved v)
passed_known o (Resolved v) p e = (v, refl)
passed_known o Unknown p e = absurd cc
passed_known o Unjudged p e = absurd cc

actual_sound : (y : Types) (c : Context) (own : List Formal) (line : ℕ) (f : Formal) (p : Passed) → AreTypesOf y c → FitsListed c own f p → is_resolved_date (resolution_of c (passed_operand own f p)) ≡ false → IsSoundActual y c (actual_of_passed line own f p)
actual_sound y c own line f p types fits undated =
    let found = passed_known (passed_operand own f p) (resolution_of c (passed_operand own f p)) p (sees c own f p fits) in
    record {
      known = known_by (resolution_of c (passed_operand own f p)) found.0 found.1;
      there = seen_there y c (passed_operand own f p) found.0 types found.1;
      inside = bare_inside y c (passed_operand own f p) (passed_bare own f p);
      undated = undated;
    }

-- ---- a call

-- the data block of a call is an instance of what is called, in the listing too
abbrev pub IsInstanceKept : (c listed : Context) → Statement → Type 0
IsInstanceKept c listed s =
    (how : CallOperation) (id : BlockId) (instance : Option ℕ) (callee found : Callee)
    → call_operation_of s.code ≡ Some how → names_called_block s.operand ≡ true → resolved_operand c s ≡ Some (resolved.Called id instance)
    → callee_of c s.operand ≡ Some callee → callee.id ≡ id
    → callee_of listed (operand.Called (block.Number id) (option_map data_block_name instance)) ≡ Some found
    → IsInstanceAt listed found.place (option_map data_block_name instance)

called_right : (y : Types) (c listed : Context) (sur : ListingContext) (f : ℕ → ℕ) (k : ℕ) (s : Statement) (how : CallOperation) (id : BlockId) (instance : Option ℕ) (callee : Callee)
    → AreTypesOf y listed → HasAgain c listed sur.formals → call_operation_of s.code ≡ Some how → resolved_operand c s ≡ Some (resolved.Called id instance) → names_called_block s.operand ≡ true
    → IsSoundCall c callee s → (q : IsFoundAgain c listed sur.formals (called_formals sur.signatures id) s id instance callee)
    → IsInstanceAt listed q.found.place (option_map data_block_name instance)
    → IsShownAgain y listed sur f k (Calls how id instance (passings_to c s (Some callee)))
called_right y c listed sur f k s how id instance callee types has h e is_call sound q instances = record {
  known = known_by (resolution_of listed again.operand) (resolved.Called id instance) sees_again;
  there = seen_there y listed again.operand (resolved.Called id instance) types sees_again;
  inside = ap (operand_is_outside y listed.layouts listed.block) shown;
  allowed =
      ap (λ (m : Mnemonic). rule_of_operand listed (operand_rule_of m) again.operand) word
      ∙ ap (rule_of_operand listed (operand_rule_of s.code)) shown
      ∙ ap (rule_of_resolution (operand_rule_of s.code)) sees_called
      ∙ rule;
  one_of_nine = ap (calls_unknown listed) shown ∙ there.known;
  actuals =
      subst (AllByRecursion (IsSoundActual y listed)) (sym is_listed.actuals)
      (all_actuals listed sur.formals called again.line (IsSoundActual y listed) (λ p g at fits. actual_sound y listed sur.formals again.line g p.actual types fits (undated_in p g at fits)) ps q.passable);
  calls = λ other at. subst (λ (x : Callee). IsSoundCall listed x again) (same_Some q.found other (sym (ap (callee_of listed) shown ∙ q.is) ∙ at)) sound_call;
}
  where
    ps : List Passing
    ps = passings_to c s (Some callee)

    called : List Formal
    called = called_formals sur.signatures id

    again : Statement
    again = listed_statement sur k (run_of f (Calls how id instance ps))

    sees_source : resolution_of c s.operand ≡ Resolved (resolved.Called id instance)
    sees_source = what_seen c s (resolved.Called id instance) e

    rule : rule_of_resolved_operand (operand_rule_of s.code) (resolved.Called id instance) ≡ None
    rule = rule_called c (operand_rule_of s.code) s.operand (resolved.Called id instance) is_call (rule_broken c s (resolved.Called id instance) e) sees_source

    callable : is_callable id.kind ≡ true
    callable = callable_by id instance (same_kind s.code how (resolved.Called id instance) h (taken_view (operand_rule_of s.code) (resolved.Called id instance) rule))

    names : NamesInstance c s.operand instance
    names = names_instance c s.operand id instance is_call sees_source

    instance_there : IsInstanceThere listed instance
    instance_there n at = let found = names.number n at in has.data_blocks found.0 n found.1

    listing : (again.code ≡ s.code) × (again.actuals ≡ actuals_before again.line sur.formals called (pass_ops ps))
    listing = statements_listed sur k f s.code how id instance ps callable h

    word : again.code ≡ s.code
    word = listing.0

    shown : again.operand ≡ operand.Called (block.Number id) (option_map data_block_name instance)
    shown = calls_listed sur.formals sur.starts f how id instance ps callable (λ at. zero_none listed (instance_there 0 at))

    there : IsThere listed id
    there = callee_there listed id q.found (callee_is listed id (option_map data_block_name instance) q.found q.is)

    sees_called : resolution_of listed (operand.Called (block.Number id) (option_map data_block_name instance)) ≡ Resolved (resolved.Called id instance)
    sees_called = called_seen_again listed id instance there.whole instance_there

    sees_again : resolution_of listed again.operand ≡ Resolved (resolved.Called id instance)
    sees_again = ap (resolution_of listed) shown ∙ sees_called

    is_listed : IsListedCall listed sur.formals called q.found ps again
    is_listed = record { actuals = listing.1; order = q.order; named = q.named; passable = q.passable; rising = q.rising }

    breaks : BreaksNone listed q.found again
    breaks = actuals_right listed sur.formals called q.found ps again is_listed

    undated_in : (p : Passing) (g : Formal) → slice_get called p.index ≡ Some g → FitsListed listed sur.formals g p.actual → is_resolved_date (resolution_of listed (passed_operand sur.formals g p.actual)) ≡ false
    undated_in p g at fits = operand_undated listed sur.formals g p.actual fits

    sound_call : IsSoundCall listed q.found again
    sound_call = record {
      named = breaks.by_34;
      once = breaks.by_35;
      complete =
          calls_complete listed sur.formals called q.found ps again is_listed
          (λ owed. q.complete (ap (λ (m : Mnemonic). has_actuals m && not (is_function_block callee.id.kind)) (sym word) ∙ ap (λ (i : BlockId). has_actuals again.code && not (is_function_block i.kind)) (sym q.same) ∙ owed));
      fits = breaks.by_37;
      instance =
          ap (has_wrong_instance listed q.found) shown
          ∙ instances_right listed q.found (block.Number id) (option_map data_block_name instance) instances;
      bare =
          calls_whole callee q.found s again word q.same
          (ap has_no_instance shown ∙ lacks_again id instance ∙ sym names.none) q.size sound.bare;
    }

call_right : (y y' : Types) (c listed : Context) (sur : ListingContext) (f : ℕ → ℕ) (body : List Statement) (k : ℕ) (s : Statement) (how : CallOperation)
    → AreTypesOf y listed → HasAgain c listed sur.formals → call_operation_of s.code ≡ Some how → HasCalled c s → IsSoundStatement y' c s → IsCalledAgain c listed sur.signatures sur.formals s → IsInstanceKept c listed s
    → IsRightAgain y listed (listed_as sur f c body k s)
call_right y y' c listed sur f body k s how types has h called sound kept instances =
    subst (IsShownAgain y listed sur f k) (sym is)
    (called_right y c listed sur f k s how called.id called.instance called.callee types has h called.called is_call (sound.calls called.callee called.found) q
    (instances how called.id called.instance called.callee q.found h is_call called.called called.found called.same q.is))
  where
    is_call : names_called_block s.operand ≡ true
    is_call = sound.well_formed.called ∙ calls_block s.code how h

    q : IsFoundAgain c listed sur.formals (called_formals sur.signatures called.id) s called.id called.instance called.callee
    q = kept called.id called.instance called.callee called.called called.found

    is : instruction c body k s ≡ Calls how called.id called.instance (passings_to c s (Some called.callee))
    is =
        call_comes c body k s (resolved.Called called.id called.instance) how h called.called
        ∙ ap (λ (x : Option Callee). Calls how called.id called.instance (passings_to c s x)) called.found

-- ---- any statement

pub statement_right : (y y' : Types) (c listed : Context) (sur : ListingContext) (f : ℕ → ℕ) (body : List Statement) (k : ℕ) (s : Statement)
    → AreTypesOf y listed → HasAgain c listed sur.formals → IsRightOperand c.symbols s.operand → IsCalledAgain c listed sur.signatures sur.formals s → IsInstanceKept c listed s
    → IsResolvedStatement c body s → IsSoundStatement y' c s → is_empty_statement s.code ≡ false
    → IsRightAgain y listed (listed_as sur f c body k s)
statement_right y y' c listed sur f body k s types has right kept instances settled sound some = by (jump_operation_of s.code) refl settled.instruction
  where
    word : (listed_as sur f c body k s).code ≡ s.code
    word = word_is c body k f s (readable y' c body s settled sound) some

    by_call : (how : Option CallOperation) → jump_operation_of s.code ≡ None → call_operation_of s.code ≡ how → HasOperand c s how → IsRightAgain y listed (listed_as sur f c body k s)
    by_call None jumps calls o = other_right y c listed sur f body k s o.0 types has right some jumps calls o.1 word
    by_call (Some how) jumps calls o = call_right y y' c listed sur f body k s how types has calls o sound kept instances

    by : (how : Option JumpOperation) → jump_operation_of s.code ≡ how → HasInstruction c body s how → IsRightAgain y listed (listed_as sur f c body k s)
    by None jumps o = by_call (call_operation_of s.code) jumps refl o
    by (Some how) jumps o = jump_right y c listed sur f body k s how types jumps word
