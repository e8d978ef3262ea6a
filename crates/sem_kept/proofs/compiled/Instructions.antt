-- What the instruction of a statement is in every source, whatever rule it breaks.
use Rattle.std.proofs.Common.{◌≡◌, ℕ, zero, suc, ◌-◌, ◌≤◌, Bool, true, false, if◌then◌else◌, List, [], ◌∷◌, map, slice_get, Option, Some, None, option_map, option_and_then, refl, sym, ap, ◌∙◌, arith}
use Rattle.std.specs.Option.{is_none}
use Rattle.std.proofs.lemmas.Bool.Decides.{nat_tests}
use Rattle.plc_base.specs.Kinds.{is_data_block, is_callable}
use Rattle.plc_base.specs.declared.blocks.BlockId.{BlockId}
use Rattle.plc_base.specs.declared.blocks.BlockKind.{BlockKind}
use Rattle.plc_base.specs.declared.blocks.BlockKind.TheVariants as kinds
use Rattle.plc_base.specs.declared.places.Area.{Area}
use Rattle.flat_code.specs.Instr.{Instr, Does, Jumps, JumpsByList, Calls, Returns}
use Rattle.flat_code.specs.declared.kinds.JumpOperation.{JumpOperation}
use Rattle.flat_code.specs.declared.kinds.JumpOperation.TheVariants as jump
use Rattle.flat_code.specs.declared.operations.CallOperation.{CallOperation}
use Rattle.flat_code.specs.declared.operations.EndOperation.{EndOperation}
use Rattle.machine.specs.Flat.{is_jl}
use Rattle.stl_ast.specs.declared.names.BlockName.{BlockName}
use Rattle.stl_ast.specs.declared.operands.Numbered.{Numbered}
use Rattle.stl_ast.specs.declared.operands.Numbered.TheVariants as numbered
use Rattle.stl_ast.specs.declared.operands.Operand.{Operand}
use Rattle.stl_ast.specs.declared.operands.Operand.TheVariants as operand
use Rattle.stl_ast.specs.declared.statements.Statement.{Statement}
use Rattle.block_layout.specs.Blocks.{is_id, is_block_number, place_of_block, known_block, of_kind, named_block}
use Rattle.block_layout.specs.Paths.{whole_at, whole_block}
use Rattle.block_layout.specs.declared.blocks.BlockLayout.{BlockLayout}
use Rattle.stl_types.specs.Context.{Context, source_block_ids, number_of_block, data_place, data_number}
use Rattle.stl_types.specs.OperandRules.{operand_rule_of}
use Rattle.stl_types.specs.Operands.{rule_of_resolved_operand, rule_of_resolution, rule_of_operand, statement_rule}
use Rattle.stl_types.specs.ResolvedStatement.{operand_if_resolved, resolved_operand}
use Rattle.stl_types.specs.Resolution.{resolution_of_path, resolution_of_address, resolution_of_opened_block, resolution_of_call, instance_number, whole_called_block as whole_called, resolution_of}
use Rattle.stl_types.specs.declared.operand_rules.OperandRule.{OperandRule}
use Rattle.stl_types.specs.declared.operand_rules.OperandRule.TheVariants as operand_rules
use Rattle.stl_types.specs.declared.resolved_operands.Register.{Register}
use Rattle.stl_types.specs.declared.resolved_operands.Register.TheVariants as register
use Rattle.stl_types.specs.declared.resolved_operands.Resolution.{Resolution}
use Rattle.stl_types.specs.declared.resolved_operands.Resolution.TheVariants.{Resolved, Unknown, Unjudged}
use Rattle.stl_types.specs.declared.resolved_operands.ResolvedOperand.{ResolvedOperand}
use Rattle.stl_types.specs.declared.resolved_operands.ResolvedOperand.TheVariants as resolved
use Rattle.stl_codegen.specs.Instruction.{numbers_from, jump_instr, target_of, call_instr, end_instr, operand_instr, resolved_instr, instr_by, instruction}
use Rattle.stl_codegen.specs.Operands.{numbered_operand, register_operand, flat_operand_of}
use Rattle.stl_codegen.specs.Operations.{jump_operation_of, call_operation_of, end_operation_of}
use Rattle.sem_kept.specs.Back.{goes_to_next_statement, is_target, IsInstanceNumber}
use Rattle.sem_kept.proofs.ReachedLemmas.{AnyNumber, IsReached, direct_reached, path_reached}
use Rattle.sem_kept.proofs.accepted.OperandsOperations.{operation_is}
use Rattle.sem_kept.proofs.accepted.Shared.{call_form, rule_callable}

abbrev pub IsMade : (n : ℕ) → Instr → Type 0
IsMade n (Does use_db w o) = (goes_to_next_statement w ≡ true) × (is_target o ≡ false)
IsMade n (Jumps how target) = is_jl how ≡ false
IsMade n (JumpsByList targets otherwise) = targets ≡ numbers_from (suc n) (otherwise - suc n)
IsMade n (Calls how block instance passings) =
    (is_callable block.kind ≡ true) × IsInstanceNumber instance
IsMade n (Returns how) = Unit {0}

-- ---- operations and operands of instructions that go on

by_number : (what : Numbered) (from : Area) (byte : ℕ)
    → is_target (numbered_operand what from byte) ≡ false
by_number numbered.Timer from byte = refl
by_number numbered.Counter from byte = refl
by_number numbered.Db from byte = refl
by_number numbered.Di from byte = refl

by_register : (which : Register) → is_target (register_operand which) ≡ false
by_register register.Dblg = refl
by_register register.Dbno = refl
by_register register.Dilg = refl
by_register register.Dino = refl
by_register _ = refl

pub no_target : (o : Operand) (v : ResolvedOperand) → is_target (flat_operand_of o v) ≡ false
unfolding flat_operand_of
no_target o (resolved.NumberBy what from byte) = by_number what from byte
no_target o (resolved.Register which) = by_register which
no_target o _ = refl

-- ---- what is called

-- what is resolved by a rule is a resolved operand, and breaks no rule
resolved_by_rule : (r : Option ℕ) (x : Resolution) (v : ResolvedOperand)
    → (if is_none r then operand_if_resolved x else None) ≡ Some v → (r ≡ None) × (x ≡ Resolved v)
resolved_by_rule None (Resolved w) v e = (refl, cc)
resolved_by_rule None Unknown v e = absurd cc
resolved_by_rule None Unjudged v e = absurd cc
resolved_by_rule (Some rule) x v e = absurd cc

-- an operand that names a called block breaks the rule of what it names
rule_none : (c : Context) (f : OperandRule) (o : Operand) (id : BlockId) (i : Option ℕ)
    → rule_of_operand c f o ≡ None → resolution_of c o ≡ Resolved (resolved.Called id i)
    → rule_of_resolved_operand f (resolved.Called id i) ≡ None
unfolding resolution_of
rule_none c f (operand.Constant value) id i e s = absurd cc
rule_none c f _ id i e s = ap (rule_of_resolution f) (sym s) ∙ e

-- ---- its instance

-- only an operand that calls a block names one
abbrev names_called : Resolution → Bool
names_called (Resolved (resolved.Called id instance)) = true
names_called _ = false

none_called : (x : Resolution) → IsReached AnyNumber x → names_called x ≡ false
none_called (Resolved (resolved.Called id instance)) h = absurd h
none_called (Resolved _) h = refl
none_called _ h = refl

of_opened : (di : Bool) (number : Option ℕ) → names_called (resolution_of_opened_block di number) ≡ false
of_opened di None = refl
of_opened di (Some number) = refl

-- a block that is found in its place has the kind and number that are looked for
first_id : (id : BlockId) (l : BlockLayout) (ls : List BlockLayout) (place : ℕ) (b : BlockLayout)
    → is_id id l.id ≡ true → Some 0 ≡ Some place → slice_get (l ∷ ls) place ≡ Some b
    → is_id id b.id ≡ true
first_id id l ls zero b is e g =
    let same : l ≡ b = cc in ap (λ (x : BlockLayout). is_id id x.id) (sym same) ∙ is
first_id id l ls (suc place) b is e g = absurd cc

placed_id : (id : BlockId) (ls : List BlockLayout) (place : ℕ) (b : BlockLayout)
    → place_of_block id (map (λ l. l.id) ls) ≡ Some place → slice_get ls place ≡ Some b
    → is_id id b.id ≡ true
placed_id id [] place b e g = absurd cc
placed_id id (l ∷ ls) place b e g =
    by (is_id id l.id) refl (place_of_block id (map (λ l. l.id) ls)) (placed_id id ls) refl place e g
  where
    by : (t : Bool) → is_id id l.id ≡ t → (found : Option ℕ)
        → ((place : ℕ) (b : BlockLayout) → place_of_block id (map (λ l. l.id) ls) ≡ Some place
        → slice_get ls place ≡ Some b → is_id id b.id ≡ true)
        → place_of_block id (map (λ l. l.id) ls) ≡ found → (place : ℕ)
        → (if t then Some 0 else option_map (λ k. suc k) found) ≡ Some place
        → slice_get (l ∷ ls) place ≡ Some b → is_id id b.id ≡ true
    by true is found more at place e g = first_id id l ls place b is e g
    by false is None more at place e g = absurd cc
    by false is (Some k) more at zero e g = absurd cc
    by false is (Some k) more at (suc place) e g =
        let same : k ≡ place = cc in more place b (at ∙ ap Some same) g

whole_is : (o : Option BlockLayout) (b : BlockLayout) → whole_block o ≡ Some b → o ≡ Some b
whole_is None b e = absurd cc
whole_is (Some l) b e = by l.broken e
  where
    by : (t : Bool) → (if t then None else Some l) ≡ Some b → Some l ≡ Some b
    by true h = absurd cc
    by false h = h

same_number : (id : BlockId) (i : Option BlockId) (number : ℕ)
    → is_id id i ≡ true → number_of_block i ≡ Some number → id.number ≡ number
same_number id None number is e = absurd cc
same_number id (Some other) number is e =
    let eq : other.number ≡ number = cc in
    grind (arith, nat_tests)

of_data_kind : (i : Option BlockId) (id : BlockId) → of_kind is_data_block i ≡ Some id
    → is_data_block id.kind ≡ true
of_data_kind None id e = absurd cc
of_data_kind (Some other) id e = by (is_data_block other.kind) refl e
  where
    by : (t : Bool) → is_data_block other.kind ≡ t → (if t then Some other else None) ≡ Some id
        → is_data_block id.kind ≡ true
    by true is h =
        let same : other ≡ id = cc in
        ap (λ (x : BlockId). is_data_block x.kind) (sym same) ∙ is
    by false is h = absurd cc

least_number : (k : BlockKind) (number : ℕ) → is_data_block k ≡ true
    → is_block_number k number ≡ true → 1 ≤ number
least_number kinds.Db number is e = grind (arith, nat_tests)
least_number kinds.Ob number is e = absurd cc
least_number kinds.Fc number is e = absurd cc
least_number kinds.Fb number is e = absurd cc
least_number kinds.Sfc number is e = absurd cc
least_number kinds.Udt number is e = absurd cc

known_is : (id : BlockId) (is : List (Option BlockId)) (place : ℕ)
    → known_block id is ≡ Some place
    → (is_block_number id.kind id.number ≡ true) × (place_of_block id is ≡ Some place)
known_is id is place e = by (is_block_number id.kind id.number) refl e
  where
    by : (t : Bool) → is_block_number id.kind id.number ≡ t
        → (if t then place_of_block id is else None) ≡ Some place
        → (is_block_number id.kind id.number ≡ true) × (place_of_block id is ≡ Some place)
    by true right h = (right, h)
    by false wrong h = absurd cc

-- no data block with the number 0 is known
known_number : (c : Context) (i : Option BlockId) (place : Option ℕ) (b : Option BlockLayout)
    (number : ℕ)
    → (id : Option BlockId) → of_kind is_data_block i ≡ id
    → option_and_then (λ x. known_block x (source_block_ids c)) id ≡ place
    → option_and_then (whole_at c.layouts) place ≡ b
    → option_and_then (λ x. number_of_block x.id) b ≡ Some number → 1 ≤ number
known_number c i None None number id is at there e = absurd cc
known_number c i None (Some b) number id is at there e = absurd cc
known_number c i (Some place) None number id is at there e = absurd cc
known_number c i (Some place) (Some b) number None is at there e = absurd cc
known_number c i (Some place) (Some b) number (Some id) is at there e =
    let known = known_is id (source_block_ids c) place at in
    let here : slice_get c.layouts place ≡ Some b =
    whole_is (slice_get c.layouts place) b there in
    let same : id.number ≡ number =
    same_number id b.id number (placed_id id c.layouts place b known.1 here) e in
    let least = least_number id.kind id.number (of_data_kind i id is) known.0 in
    omega (arith, same, least)

least_data_number : (c : Context) (name : BlockName) (number : ℕ)
    → data_number c name ≡ Some number → 1 ≤ number
least_data_number c name number e =
    known_number c (named_block c.symbols name) (data_place c name)
    (option_and_then (whole_at c.layouts) (data_place c name)) number
    (of_kind is_data_block (named_block c.symbols name)) refl refl refl e

called_instance : (c : Context) (b : Option BlockId) (named : Option BlockName) (id : BlockId)
    (number : ℕ)
    → resolution_of_call b named (instance_number c named) ≡ Resolved (resolved.Called id (Some number))
    → 1 ≤ number
called_instance c None named id number e = absurd cc
called_instance c (Some x) None id number e = absurd cc
called_instance c (Some x) (Some name) id number e = by (data_number c name) refl e
  where
    by : (i : Option ℕ) → data_number c name ≡ i
        → resolution_of_call (Some x) (Some name) i ≡ Resolved (resolved.Called id (Some number)) → 1 ≤ number
    by None is h = absurd cc
    by (Some k) is h =
        let same : k ≡ number = cc in least_data_number c name number (is ∙ ap Some same)

not_called : (x : Resolution) (id : BlockId) (i : Option ℕ) → names_called x ≡ false
    → x ≡ Resolved (resolved.Called id i) → ⊥
not_called x id i other e = let h : false ≡ true = sym other ∙ ap names_called e in cc

seen_instance : (c : Context) (o : Operand) (id : BlockId) (number : ℕ)
    → resolution_of c o ≡ Resolved (resolved.Called id (Some number)) → 1 ≤ number
unfolding resolution_of
seen_instance c (operand.Called name instance) id number e =
    called_instance c (whole_called c (named_block c.symbols name)) instance id number e
seen_instance c (operand.Direct name a width byte bit) id number e =
    absurd (not_called (resolution_of_address c name a width byte bit) id (Some number)
    (none_called _ (direct_reached c name a width byte bit)) e)
seen_instance c (operand.Named h steps) id number e =
    absurd (not_called (resolution_of_path c h steps) id (Some number) (none_called _ (path_reached c h steps)) e)
seen_instance c (operand.OpenBlock di name) id number e =
    absurd (not_called (resolution_of_opened_block di (data_number c name)) id (Some number)
    (of_opened di (data_number c name)) e)
seen_instance c _ id number e = absurd cc

instance_is : (c : Context) (o : Operand) (id : BlockId) (i : Option ℕ)
    → resolution_of c o ≡ Resolved (resolved.Called id i) → IsInstanceNumber i
instance_is c o id None e = tt
instance_is c o id (Some number) e = seen_instance c o id number e

-- ---- instructions

called_made : (c : Context) (n : ℕ) (s : Statement) (how : CallOperation) (v : ResolvedOperand)
    → resolved_operand c s ≡ Some v → call_operation_of s.code ≡ Some how → IsMade n (call_instr c s how v)
unfolding resolved_operand
called_made c n s how (resolved.Called id i) is e =
    let t = resolved_by_rule (statement_rule c s) (resolution_of c s.operand) (resolved.Called id i) is in
    let rule : rule_of_resolved_operand (operand_rule_of s.code) (resolved.Called id i) ≡ None =
    rule_none c (operand_rule_of s.code) s.operand id i t.0 t.1 in
    let calls_form : operand_rule_of s.code ≡ operand_rules.Calls = call_form s.code how e in (
      rule_callable id i (ap (λ (f : OperandRule). rule_of_resolved_operand f (resolved.Called id i)) (sym calls_form) ∙ rule),
      instance_is c s.operand id i t.1,
    )
called_made c n s how _ is e = (refl, refl)

ended_made : (n : ℕ) (s : Statement) (v : ResolvedOperand) (e : Option EndOperation)
    → IsMade n (end_instr s v e)
ended_made n s v None = ((operation_is s.code s.operand v).goes_on, no_target s.operand v)
ended_made n s v (Some how) = tt

seen_made : (c : Context) (n : ℕ) (s : Statement) (v : ResolvedOperand) → resolved_operand c s ≡ Some v
    → (h : Option CallOperation) → call_operation_of s.code ≡ h → IsMade n (operand_instr c s v h)
seen_made c n s v is None e = ended_made n s v (end_operation_of s.code)
seen_made c n s v is (Some how) e = called_made c n s how v is e

resolved_made : (c : Context) (n : ℕ) (s : Statement) (v : Option ResolvedOperand) → resolved_operand c s ≡ v
    → IsMade n (resolved_instr c s v)
resolved_made c n s None is = (refl, refl)
resolved_made c n s (Some v) is = seen_made c n s v is (call_operation_of s.code) refl

jump_made : (n target : ℕ) (how : JumpOperation) → IsMade n (jump_instr how n target)
jump_made n target jump.Jl = refl
jump_made n target _ = refl

instr_made : (c : Context) (body : List Statement) (n : ℕ) (s : Statement) (j : Option JumpOperation)
    → IsMade n (instr_by c body n s j)
instr_made c body n s None = resolved_made c n s (resolved_operand c s) refl
instr_made c body n s (Some how) = jump_made n (target_of body s.operand) how

pub instruction_made : (c : Context) (body : List Statement) (n : ℕ) (s : Statement)
    → IsMade n (instruction c body n s)
unfolding instruction
instruction_made c body n s = instr_made c body n s (jump_operation_of s.code)
