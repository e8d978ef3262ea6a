-- The bytes of ops, and that those of a statement fit its size.
use Rattle.std.proofs.Common.{◌≡◌, ℕ, suc, ◌+◌, ◌*◌, ◌≤◌, Bool, true, false, not, ◌&&◌, List, [], ◌∷◌, ◌++◌, length, length-append, map, Option, Some, None, refl, sym, ap, subst, ◌∙◌, arith}
use Rattle.std.specs.Prelude.{is_some, nat_eq, if◌then◌else◌}
use Rattle.std.specs.List.{AllByRecursion, count_by, sum_by}
use Rattle.std.specs.Option.{IfSome}
use Rattle.std.proofs.lemmas.Grind.{flat_map-append}
use Rattle.std.proofs.lemmas.List.{length-map}
use Rattle.std.proofs.lemmas.List.Sums.{sum_by-cons}
use Rattle.plc_base.specs.Kinds.{is_code}
use Rattle.plc_base.specs.declared.blocks.BlockId.{BlockId}
use Rattle.plc_base.specs.declared.places.Area.{Area}
use Rattle.plc_base.specs.declared.places.Place.{Place}
use Rattle.plc_base.specs.declared.places.Width.{Width}
use Rattle.flat_code.specs.Codes.{code_bytes}
use Rattle.flat_code.specs.Forms.{passed_coding, direct_coding, payload}
use Rattle.flat_code.specs.Instr.{Calls, Does, Passing, Returns}
use Rattle.flat_code.specs.Ops.{OpData, op_bytes}
use Rattle.flat_code.specs.declared.kinds.JumpOperation.{JumpOperation}
use Rattle.flat_code.specs.declared.kinds.JumpOperation.TheVariants as jump
use Rattle.flat_code.specs.declared.operands.Operand.{Operand as FlatOperand}
use Rattle.flat_code.specs.declared.operands.Operand.TheVariants as flat
use Rattle.flat_code.specs.declared.operands.Passed.{Passed}
use Rattle.flat_code.specs.declared.operands.Passed.TheVariants as passed
use Rattle.flat_code.specs.declared.operations.CallOperation.{CallOperation}
use Rattle.flat_code.specs.declared.operations.EndOperation.{EndOperation}
use Rattle.flat_code.specs.declared.operations.EndOperation.TheVariants as ends
use Rattle.flat_code.specs.declared.operations.Operation.{Operation}
use Rattle.flat_code.specs.declared.operations.Operation.TheVariants as operation
use Rattle.stl_ast.specs.Sizes.{block_size, body_size, code_size, operand_ops_size, path_size, return_size, statement_size}
use Rattle.stl_ast.specs.Statements.{is_empty_statement}
use Rattle.stl_ast.specs.declared.blocks.Block.{Block}
use Rattle.stl_ast.specs.declared.blocks.PathStep.{PathStep}
use Rattle.stl_ast.specs.declared.mnemonics.Mnemonic.{Mnemonic}
use Rattle.stl_ast.specs.declared.mnemonics.Mnemonic.TheVariants as code
use Rattle.stl_ast.specs.declared.names.BlockName.{BlockName}
use Rattle.stl_ast.specs.declared.operands.Letters.{Letters}
use Rattle.stl_ast.specs.declared.operands.Numbered.{Numbered}
use Rattle.stl_ast.specs.declared.operands.Numbered.TheVariants as numbered
use Rattle.stl_ast.specs.declared.operands.Operand.{Operand}
use Rattle.stl_ast.specs.declared.operands.Operand.TheVariants as operand
use Rattle.stl_ast.specs.declared.operands.PathHead.{PathHead}
use Rattle.stl_ast.specs.declared.operands.PathHead.TheVariants as head
use Rattle.stl_ast.specs.declared.statements.Statement.{Statement}
use Rattle.stl_symbols.specs.Symbol.{Symbol, symbol_named}
use Rattle.stl_symbols.specs.declared.targets.Target.{Target}
use Rattle.stl_symbols.specs.declared.targets.Target.TheVariants as target
use Rattle.stl_types.specs.Addresses.{area_for_letters}
use Rattle.stl_types.specs.Context.{Context, data_number}
use Rattle.stl_types.specs.Kinds.{is_operand_of_call}
use Rattle.stl_types.specs.Operands.{rule_of_operand, rule_of_resolved_operand, statement_rule, takes_operand}
use Rattle.stl_types.specs.Parameters.{callee_of}
use Rattle.stl_types.specs.ResolvedStatement.{operand_if_resolved}
use Rattle.stl_types.specs.Resolution.{resolution_of_call, resolution_of_address, resolution_of_opened_block, resolution_of_path, register_for_word, resolution_of}
use Rattle.stl_types.specs.declared.operand_rules.OperandRule.{OperandRule}
use Rattle.stl_types.specs.declared.operand_rules.OperandRule.TheVariants as operand_rules
use Rattle.stl_types.specs.declared.resolved_operands.Register.{Register}
use Rattle.stl_types.specs.declared.resolved_operands.Register.TheVariants as register
use Rattle.stl_types.specs.declared.resolved_operands.Resolution.{Resolution}
use Rattle.stl_types.specs.declared.resolved_operands.Resolution.TheVariants.{Unjudged, Resolved, Unknown}
use Rattle.stl_types.specs.declared.resolved_operands.ResolvedOperand.{ResolvedOperand}
use Rattle.stl_types.specs.declared.resolved_operands.ResolvedOperand.TheVariants as resolved
use Rattle.stl_codegen.specs.CompiledBlock.{SourceInstruction, operand_with_target, op_with_target, code_in, lines_in, ops_in, placed_ops}
use Rattle.stl_codegen.specs.EmittedOps.{call_op, op_with_end_mark, use_db_ops, ops_of, pass_ops, preparing_op}
use Rattle.stl_codegen.specs.GeneratedProgram.{return_statement, instructions_from, statements_of}
use Rattle.stl_codegen.specs.Instruction.{call_instr, end_instr, filler_instruction, instr_by, instruction, jump_instr, passings_to, resolved_instr, target_of, operand_instr}
use Rattle.stl_codegen.specs.Operands.{is_db, is_in_named_block, numbered_operand, block_opened_by_operand, block_opened_by_place, flat_operand_of, register_operand}
use Rattle.stl_codegen.specs.Operations.{call_operation_of, end_operation_of, jump_operation_of, operation_for}
use Rattle.sem_kept.proofs.accepted.OperandsInstr.{resolved_is}
use Rattle.sem_kept.proofs.ReachedLemmas.{AnyNumber, HasNumber, IsReached, data_path_reached, direct_reached, own_reached, symbol_reached}
use Rattle.sem_kept.proofs.accepted.OperandsSymbols.{named_has}
use Rattle.sem_kept.proofs.accepted.Shared.{call_form, calls_called, jump_form, no_call_constant, no_jump_constant, rule_there, stated_count}
use Rattle.sem_kept.proofs.accepted.SizesNames.{IsApart, IsShortSymbol}

-- ---- the bytes of ops

abbrev pub bytes_in : List OpData → ℕ
bytes_in ops = length (code_bytes ops)

abbrev passed_size : Passed → ℕ
passed_size (passed.Literal value) = 5
passed_size (passed.Direct area width byte bit) = 6
passed_size (passed.Parameter index width) = 3
passed_size (passed.InBlock number area width byte bit) = 8

-- of an op by its operand
abbrev flat_size : FlatOperand → ℕ
flat_size flat.Nothing = 2
flat_size (flat.Literal value) = 6
flat_size (flat.Direct area width byte bit) = 7
flat_size (flat.ByMemory area width from byte) = 7
flat_size (flat.ByRegister area width register bits) = 9
flat_size (flat.Parameter index width) = 4
flat_size (flat.Numbered kind number) = 5
flat_size (flat.NumberedBy kind from byte) = 6
flat_size (flat.Jump kind target) = 7
flat_size (flat.OfStatus condition) = 3
flat_size (flat.UseDb number) = 4
flat_size (flat.Pass index passed) = 3 + passed_size passed
flat_size (flat.Called kind number instance) = 7
flat_size (flat.OpenBlock register number) = 5
flat_size (flat.OpenBy register from byte) = 6

pass_sized : (index : ℕ) (p : Passed)
    → suc (suc (length (payload (flat.Pass index p)))) ≡ flat_size (flat.Pass index p)
unfolding passed_coding direct_coding
pass_sized index (passed.Literal value) = refl
pass_sized index _ = refl

payload_sized : (o : FlatOperand) → suc (suc (length (payload o))) ≡ flat_size o
unfolding direct_coding
payload_sized (flat.Pass index passed) = pass_sized index passed
payload_sized _ = refl

op_sized : (op : OpData) → length (op_bytes op) ≡ flat_size op.operand
unfolding op_bytes
op_sized op = payload_sized op.operand

one_sized : (op : OpData) → bytes_in (op ∷ []) ≡ flat_size op.operand
one_sized op = omega (arith, length-append (op_bytes op) [], op_sized op)

pub bytes_both : (xs ys : List OpData) → bytes_in (xs ++ ys) ≡ bytes_in xs + bytes_in ys
bytes_both [] ys = omega arith
bytes_both (x ∷ xs) ys =
    omega (
      arith,
      length-append (op_bytes x) (code_bytes (xs ++ ys)),
      length-append (op_bytes x) (code_bytes xs),
      bytes_both xs ys,
    )

-- targets as offsets take no other bytes
aimed_size : (f : ℕ → ℕ) (o : FlatOperand) → flat_size (operand_with_target f o) ≡ flat_size o
aimed_size f (flat.Jump kind target) = refl
aimed_size f _ = refl

aimed_bytes : (f : ℕ → ℕ) (ops : List OpData) → bytes_in (map (op_with_target f) ops) ≡ bytes_in ops
aimed_bytes f [] = refl
aimed_bytes f (op ∷ ops) =
    omega (
      arith,
      length-append (op_bytes (op_with_target f op)) (code_bytes (map (op_with_target f) ops)),
      length-append (op_bytes op) (code_bytes ops),
      aimed_bytes f ops,
      op_sized (op_with_target f op),
      op_sized op,
      aimed_size f op.operand,
    )

pub placed_bytes : (ops : List OpData) → bytes_in (placed_ops ops) ≡ bytes_in ops
unfolding placed_ops
placed_bytes ops = aimed_bytes _ ops

-- ---- of instructions

abbrev opened_size : Option ℕ → ℕ
opened_size None = 0
opened_size (Some number) = 4

does_sized : (use_db : Option ℕ) (w : Operation) (o : FlatOperand)
    → bytes_in (ops_of (Does use_db w o)) ≡ opened_size use_db + flat_size o
unfolding ops_of
does_sized None w o = omega (arith, one_sized (op_with_end_mark w o))
does_sized (Some number) w o =
    omega (
      arith,
      bytes_both (use_db_ops (Some number)) (op_with_end_mark w o ∷ []),
      one_sized (op_with_end_mark w o),
      one_sized (preparing_op operation.UseDb (flat.UseDb number)),
    )

passed_few : (index : ℕ) (p : Passed) → flat_size (flat.Pass index p) ≤ 11
passed_few index (passed.Literal value) = omega arith
passed_few index _ = omega arith

passing_sized : (ps : List Passing) → bytes_in (pass_ops ps) ≤ 11 * length ps
passing_sized [] = omega arith
passing_sized (p ∷ ps) =
    let op = preparing_op operation.Pass (flat.Pass p.index p.actual) in
    omega (
      arith,
      length-append (op_bytes op) (code_bytes (pass_ops ps)),
      op_sized op,
      passed_few p.index p.actual,
      passing_sized ps,
    )

calls_sized : (how : CallOperation) (id : BlockId) (instance : Option ℕ) (ps : List Passing)
    → bytes_in (ops_of (Calls how id instance ps)) ≤ 7 + 11 * length ps
unfolding ops_of
calls_sized how id instance ps =
    omega (
      arith,
      bytes_both (pass_ops ps) (call_op how id instance ∷ []),
      one_sized (call_op how id instance),
      passing_sized ps,
    )

jump_sized : (how : JumpOperation) (n target : ℕ) → bytes_in (ops_of (jump_instr how n target)) ≡ 7
unfolding ops_of
jump_sized how n target = by how
  where
    by : (how : JumpOperation) → bytes_in (ops_of (jump_instr how n target)) ≡ 7
    by jump.Jl = one_sized _
    by _ = one_sized _

returns_sized : (how : EndOperation) → bytes_in (ops_of (Returns how)) ≡ 2
unfolding ops_of
returns_sized how = one_sized _

-- ---- of what operands name

abbrev OpsFit : ℕ → Operand → ResolvedOperand → Type 0
OpsFit n o v = opened_size (block_opened_by_operand v) + flat_size (flat_operand_of o v) ≤ n

abbrev ResolvedOpsFit : ℕ → Operand → Resolution → Type 0
ResolvedOpsFit n o (Resolved v) = OpsFit n o v
ResolvedOpsFit n o _ = Unit {0}

-- a place in no data block that is named
none_opened : (b : Bool) (n m : ℕ) → n ≡ 0
    → (if b && not (nat_eq n 0) then Some m else None) ≡ None
none_opened true n m h = rw h refl
none_opened false n m h = refl

apart_fits : (place : Place) → place.number ≡ 0 → opened_size (block_opened_by_place place) ≤ 0
apart_fits place h = rw (none_opened (is_db place.area) place.number place.number h) (omega arith)

-- any place
place_fits : (place : Place) → Unit {0} → opened_size (block_opened_by_place place) ≤ 4
place_fits place h = by (is_in_named_block place)
  where
    by : (named : Bool) → opened_size (if named then Some place.number else None) ≤ 4
    by true = omega arith
    by false = omega arith

-- what is reached, with so many bytes at most for the op that opens its data block
reached_fits : (P : ℕ → Type 0) (n : ℕ) (o : Operand) → ((place : Place) → P place.number → opened_size (block_opened_by_place place) ≤ n)
    → (s : Resolution) → IsReached P s → ResolvedOpsFit (7 + n) o s
unfolding flat_operand_of
reached_fits P n o few (Resolved (resolved.Direct place w side declared)) h = omega (arith, few place h)
reached_fits P n o few (Resolved (resolved.ByRegister a w register bits)) h = absurd h
reached_fits P n o few (Resolved (resolved.NumberBy what from byte)) h = absurd h
reached_fits P n o few (Resolved (resolved.Register which)) h = absurd h
reached_fits P n o few (Resolved resolved.Constant) h = absurd h
reached_fits P n o few (Resolved _) h = omega arith
reached_fits P n o few _ h = tt

abbrev IsNone : ℕ → Type 0
IsNone number = number ≡ 0

fine_number : (t : Target) → IsApart t → HasNumber IsNone t
fine_number (target.Variable place width) h = h
fine_number (target.Timer number) h = tt
fine_number _ h = tt

symbol_number : (s : Option Symbol) → IfSome s IsShortSymbol → IfSome s (λ s. HasNumber IsNone s.target)
symbol_number None h = tt
symbol_number (Some s) h = fine_number s.target h.apart

path_fits : (c : Context) (o : Operand) (path : PathHead) (steps : List PathStep)
    → AllByRecursion IsShortSymbol c.symbols → ResolvedOpsFit (path_size path) o (resolution_of_path c path steps)
path_fits c o (head.Local name) steps h = reached_fits IsNone 0 o apart_fits _ (own_reached IsNone refl c _ _)
path_fits c o (head.InBlock name) steps h = reached_fits AnyNumber 4 o place_fits _ (data_path_reached c _ _ _)
path_fits c o (head.Symbol name) steps h =
    reached_fits IsNone 0 o apart_fits _
    (symbol_reached IsNone (symbol_named name c.symbols) (symbol_number _ (named_has IsShortSymbol name c.symbols h)))

direct_fits : (c : Context) (o : Operand) (name : Option BlockName) (a : Letters) (w : Width)
    (byte bit : ℕ) → ResolvedOpsFit (7 + block_size name) o (resolution_of_address c name a w byte bit)
direct_fits c o None a w byte bit = reached_fits IsNone 0 o apart_fits (resolution_of_address c None a w byte bit) refl
direct_fits c o (Some name) a w byte bit =
    reached_fits AnyNumber 4 o place_fits _ (direct_reached c (Some name) a w byte bit)

numbered_fits : (what : Numbered) (from : Area) (byte : ℕ)
    → flat_size (numbered_operand what from byte) ≤ 6
numbered_fits numbered.Timer from byte = omega arith
numbered_fits _ from byte = omega arith

register_fits : (r : Register) → flat_size (register_operand r) ≤ 6
register_fits register.Dblg = omega arith
register_fits register.Dbno = omega arith
register_fits register.Dilg = omega arith
register_fits register.Dino = omega arith
register_fits _ = omega arith

opened_fits : (o : Operand) (di : Bool) (number : Option ℕ) → ResolvedOpsFit 5 o (resolution_of_opened_block di number)
unfolding flat_operand_of
opened_fits o di None = tt
opened_fits o di (Some number) = omega arith

called_fits : (o : Operand) (id : Option BlockId) (name : Option BlockName) (instance : Option ℕ)
    → ResolvedOpsFit 7 o (resolution_of_call id name instance)
unfolding flat_operand_of
called_fits o None name instance = tt
called_fits o (Some id) None instance = omega arith
called_fits o (Some id) (Some name) None = tt
called_fits o (Some id) (Some name) (Some number) = omega arith

-- the op of an operand, and the one that opens its data block
seen_fits : (c : Context) (o : Operand) → AllByRecursion IsShortSymbol c.symbols
    → ResolvedOpsFit (operand_ops_size o) o (resolution_of c o)
unfolding resolution_of flat_operand_of
seen_fits c (operand.Direct name a w byte bit) h =
    direct_fits c (operand.Direct name a w byte bit) name a w byte bit
seen_fits c (operand.Named path steps) h = path_fits c (operand.Named path steps) path steps h
seen_fits c (operand.NumberBy what from byte) h =
    omega (arith, numbered_fits what (area_for_letters from) byte)
seen_fits c (operand.Other name) h = omega (arith, register_fits (register_for_word name))
seen_fits c (operand.OpenBlock di name) h =
    opened_fits (operand.OpenBlock di name) di (data_number c name)
seen_fits c (operand.Called name instance) h =
    called_fits (operand.Called name instance) _ instance _
seen_fits c _ h = omega arith

-- ---- of statements

path_some : (path : PathHead) → 7 ≤ path_size path
path_some (head.Local name) = omega arith
path_some _ = omega arith

least_op : (o : Operand) → 2 ≤ operand_ops_size o
least_op (operand.Named path steps) = omega (arith, path_some path)
least_op _ = omega arith

-- what isn't resolved, a label and what is called: an operand of seven bytes
abbrev IsWide : ℕ → Resolution → Type 0
IsWide n (Resolved resolved.Label) = 7 ≤ n
IsWide n (Resolved (resolved.Called id instance)) = 7 ≤ n
IsWide n (Resolved _) = Unit {0}
IsWide n _ = 7 ≤ n

any_wide : (n : ℕ) (s : Resolution) → 7 ≤ n → IsWide n s
any_wide n (Resolved resolved.Label) h = h
any_wide n (Resolved (resolved.Called id instance)) h = h
any_wide n (Resolved _) h = tt
any_wide n _ h = h

-- a data block that is opened is there
abbrev pub Opens : Context → Operand → Type 0
Opens c (operand.OpenBlock di name) = is_some (data_number c name) ≡ true
Opens c _ = Unit {0}

opened_wide : (n : ℕ) (di : Bool) (number : Option ℕ) → is_some number ≡ true → IsWide n (resolution_of_opened_block di number)
opened_wide n di None h = absurd cc
opened_wide n di (Some number) h = tt

operand_wide : (c : Context) (o : Operand) → Opens c o → IsWide (operand_ops_size o) (resolution_of c o)
unfolding resolution_of
operand_wide c (operand.Direct name a w byte bit) h = any_wide _ _ (omega arith)
operand_wide c (operand.Named path steps) h = any_wide _ _ (path_some path)
operand_wide c (operand.Label name) h = omega arith
operand_wide c (operand.OpenBlock di name) h = opened_wide _ di (data_number c name) h
operand_wide c (operand.Called name instance) h = any_wide _ _ (omega arith)
operand_wide c _ h = tt

-- what a jump takes
jump_wide : (n : ℕ) (v : ResolvedOperand) → rule_of_resolved_operand operand_rules.Jumps v ≡ None → IsWide n (Resolved v) → 7 ≤ n
unfolding rule_of_resolved_operand takes_operand
jump_wide n resolved.Label h wide = wide
jump_wide n _ h wide = absurd cc

view_holds : (n : ℕ) (o : Operand) (s : Resolution) (v : ResolvedOperand) → s ≡ Resolved v → ResolvedOpsFit n o s
    → OpsFit n o v
view_holds n o s v e h = subst (λ (s : Resolution). ResolvedOpsFit n o s) e h

-- what a statement passes is no more than it has
abbrev pub PassesFew : Context → Statement → Type 0
PassesFew c s = length (passings_to c s (callee_of c s.operand)) ≤ length s.actuals

-- a statement that breaks no rule by its operand, and opens what is there
pub record IsTaken (c : Context) (s : Statement) : Type 0 where
  pub allowed : statement_rule c s ≡ None
  pub opens : Opens c s.operand
  pub few : PassesFew c s

jump_fits : (c : Context) (n : ℕ) (s : Statement) (how : JumpOperation) → IsTaken c s
    → jump_operation_of s.code ≡ Some how → (target : ℕ)
    → bytes_in (ops_of (jump_instr how n target)) ≤ operand_ops_size s.operand
jump_fits c n s how is jumps target =
    omega (
      arith,
      jump_sized how n target,
      by (resolution_of c s.operand) refl (operand_wide c s.operand is.opens),
    )
  where
    by : (x : Resolution) → resolution_of c s.operand ≡ x → IsWide (operand_ops_size s.operand) x → 7 ≤ operand_ops_size s.operand
    by (Resolved v) e wide =
        jump_wide (operand_ops_size s.operand) v (rule_there c operand_rules.Jumps s.operand v no_jump_constant
        (ap (λ (f : OperandRule). rule_of_operand c f s.operand) (sym (jump_form s.code how jumps)) ∙ is.allowed) e)
        wide
    by _ e wide = wide

called_view_fits : (c : Context) (s : Statement) (how : CallOperation) (v : ResolvedOperand)
    → is_operand_of_call v ≡ true → IsWide (operand_ops_size s.operand) (Resolved v) → PassesFew c s
    → bytes_in (ops_of (call_instr c s how v)) ≤ operand_ops_size s.operand + 11 * length s.actuals
called_view_fits c s how (resolved.Called id instance) h wide few =
    omega (arith, calls_sized how id instance (passings_to c s (callee_of c s.operand)), wide, few)
called_view_fits c s how _ h wide few = absurd cc

end_fits : (c : Context) (s : Statement) (v : ResolvedOperand) (how : Option EndOperation)
    → AllByRecursion IsShortSymbol c.symbols → resolution_of c s.operand ≡ Resolved v
    → bytes_in (ops_of (end_instr s v how)) ≤ operand_ops_size s.operand
end_fits c s v None fine e =
    omega (
      arith,
      does_sized (block_opened_by_operand v) (operation_for s.code s.operand v) (flat_operand_of s.operand v),
      view_holds (operand_ops_size s.operand) s.operand (resolution_of c s.operand) v e (seen_fits c s.operand fine),
    )
end_fits c s v (Some how) fine e = omega (arith, returns_sized how, least_op s.operand)

operand_instr_fits : (c : Context) (s : Statement) (v : ResolvedOperand) (how : Option CallOperation)
    → call_operation_of s.code ≡ how → AllByRecursion IsShortSymbol c.symbols → IsTaken c s
    → resolution_of c s.operand ≡ Resolved v → IsWide (operand_ops_size s.operand) (Resolved v)
    → bytes_in (ops_of (operand_instr c s v how)) ≤ operand_ops_size s.operand + 11 * length s.actuals
operand_instr_fits c s v None calls fine is e wide =
    omega (arith, end_fits c s v (end_operation_of s.code) fine e)
operand_instr_fits c s v (Some how) calls fine is e wide =
    called_view_fits c s how v (calls_called v (rule_there c operand_rules.Calls s.operand v no_call_constant
    (ap (λ (f : OperandRule). rule_of_operand c f s.operand) (sym (call_form s.code how calls)) ∙ is.allowed) e)) wide is.few

filler_sized : bytes_in (ops_of filler_instruction) ≡ 6
unfolding ops_of
filler_sized = one_sized _

-- an instruction that isn't a jump
view_fits : (c : Context) (s : Statement) (found : Resolution) → AllByRecursion IsShortSymbol c.symbols
    → IsTaken c s → resolution_of c s.operand ≡ found → IsWide (operand_ops_size s.operand) found
    → bytes_in (ops_of (resolved_instr c s (operand_if_resolved found)))
    ≤ operand_ops_size s.operand + 11 * length s.actuals
view_fits c s (Resolved v) fine is e wide =
    operand_instr_fits c s v (call_operation_of s.code) refl fine is e wide
view_fits c s Unknown fine is e wide = omega (arith, wide, filler_sized)
view_fits c s Unjudged fine is e wide = omega (arith, wide, filler_sized)

instr_fits : (c : Context) (body : List Statement) (n : ℕ) (s : Statement) (how : Option JumpOperation)
    → jump_operation_of s.code ≡ how → AllByRecursion IsShortSymbol c.symbols → IsTaken c s
    → bytes_in (ops_of (instr_by c body n s how)) ≤ operand_ops_size s.operand + 11 * length s.actuals
instr_fits c body n s None jumps fine is =
    rw (resolved_is c s is.allowed)
    (view_fits c s (resolution_of c s.operand) fine is refl (operand_wide c s.operand is.opens))
instr_fits c body n s (Some how) jumps fine is =
    omega (arith, jump_fits c n s how is jumps (target_of body s.operand))

statement_fits : (c : Context) (body : List Statement) (n : ℕ) (s : Statement)
    → AllByRecursion IsShortSymbol c.symbols → IsTaken c s
    → bytes_in (ops_of (instruction c body n s)) ≤ operand_ops_size s.operand + 11 * length s.actuals
unfolding instruction
statement_fits c body n s fine is = instr_fits c body n s (jump_operation_of s.code) refl fine is

code_sized : (m : Mnemonic) (o : Operand) (n : ℕ) → is_empty_statement m ≡ false
    → code_size m o n ≡ 4 + operand_ops_size o + 11 * n
code_sized code.Empty o n h = absurd cc
code_sized _ o n h = refl

-- ---- of bodies

-- the ops of statements and the entries of their lines
abbrev pub stated_size : List SourceInstruction → ℕ
stated_size ss = bytes_in (ops_in ss) + 4 * length ss

pub body_fits : (c : Context) (body : List Statement) (n : ℕ) (ss : List Statement)
    → AllByRecursion IsShortSymbol c.symbols → AllByRecursion (IsTaken c) ss
    → stated_size (instructions_from c body n ss) ≤ sum_by statement_size ss
body_fits c body n [] fine h = omega arith
body_fits c body n (s ∷ ss) fine h =
    omega (
      arith,
      sum_by-cons statement_size s ss,
      by (is_empty_statement s.code) refl (body_fits c body n ss fine h.1)
          (body_fits c body (suc n) ss fine h.1),
    )
  where
    by : (empty : Bool) → is_empty_statement s.code ≡ empty
        → stated_size (instructions_from c body n ss) ≤ sum_by statement_size ss
        → stated_size (instructions_from c body (suc n) ss) ≤ sum_by statement_size ss
        → stated_size (if empty then instructions_from c body n ss
        else record { instr = instruction c body n s; line = s.line } ∷ instructions_from c body (suc n) ss)
        ≤ statement_size s + sum_by statement_size ss
    by true e same next = omega (arith, same)
    by false e same next =
        let one : SourceInstruction = record { instr = instruction c body n s; line = s.line } in
        omega (
          arith,
          next,
          statement_fits c body n s fine h.0,
          code_sized s.code s.operand (length s.actuals) e,
          bytes_both (ops_of one.instr) (ops_in (instructions_from c body (suc n) ss)),
        )

-- with the statement that returns
one_returns : (b : Block) → bytes_in (ops_in (return_statement b ∷ [])) ≡ 2
one_returns b = omega (arith, returns_sized ends.Be, bytes_both (ops_of (Returns ends.Be)) [])

pub whole_fits : (c : Context) (b : Block) → AllByRecursion IsShortSymbol c.symbols
    → AllByRecursion (IsTaken c) b.body → is_code b.kind ≡ true
    → bytes_in (code_in (statements_of c b)) + 4 * length (lines_in (statements_of c b))
    ≤ body_size b
unfolding statements_of
whole_fits c b fine h has =
    let ss = instructions_from c b.body 0 b.body in
    let all = ss ++ return_statement b ∷ [] in
    omega (
      arith,
      placed_bytes (ops_in all),
      ap bytes_in (flat_map-append (λ (s : SourceInstruction). ops_of s.instr) ss (return_statement b ∷ [])),
      bytes_both (ops_in ss) (ops_in (return_statement b ∷ [])),
      one_returns b,
      length-map all (λ s. s.line),
      length-append ss (return_statement b ∷ []),
      body_fits c b.body 0 b.body fine h,
      returned,
    )
  where
    returned : return_size b.kind ≡ 6
    returned = rw has refl

pub whole_count : (c : Context) (b : Block)
    → length (lines_in (statements_of c b)) ≡ count_by (λ s. not (is_empty_statement s.code)) b.body + 1
unfolding statements_of
whole_count c b =
    let ss = instructions_from c b.body 0 b.body in
    omega (
      arith,
      length-map (ss ++ return_statement b ∷ []) (λ s. s.line),
      length-append ss (return_statement b ∷ []),
      stated_count c b.body 0 b.body,
    )
