-- What the instruction of a statement does to open brackets and zones, and where it jumps.
use Rattle.std.proofs.Common.{◌≡◌, ℕ, zero, suc, ◌+◌, ◌-◌, Bool, true, false, ◌&&◌, if◌then◌else◌, List, [], ◌∷◌, ◌++◌, length, map, take, Option, Some, None, refl, sym, ap, subst, ◌∙◌}
use Rattle.std.specs.Prelude.{◌==◌, is_some, nat_le, nat_eq}
use Rattle.std.specs.List.{AllByRecursion}
use Rattle.std.specs.Option.{is_none}
use Rattle.std.proofs.lemmas.List.{length-map}
use Rattle.flat_code.specs.Instr.{Instr, Passing, Does, Calls}
use Rattle.flat_code.specs.Kinds.{jump_number}
use Rattle.flat_code.specs.OpCodes.{op_code_of}
use Rattle.flat_code.specs.Ops.{OpData}
use Rattle.flat_code.specs.PlacedOps.{is_empty_list}
use Rattle.flat_code.specs.declared.kinds.JumpOperation.{JumpOperation}
use Rattle.flat_code.specs.declared.kinds.JumpOperation.TheVariants as jump
use Rattle.flat_code.specs.declared.operands.Operand.{Operand as FlatOperand}
use Rattle.flat_code.specs.declared.operands.Operand.TheVariants as flat
use Rattle.flat_code.specs.declared.operations.CallOperation.{CallOperation}
use Rattle.flat_code.specs.declared.operations.CallOperation.TheVariants as calls
use Rattle.flat_code.specs.declared.operations.EndOperation.{EndOperation}
use Rattle.flat_code.specs.declared.operations.EndOperation.TheVariants as ends
use Rattle.flat_code.specs.declared.operations.Operation.TheVariants as operation
use Rattle.plc_base.specs.declared.instructions.Check.TheVariants as check
use Rattle.stl_ast.specs.Statements.{is_call}
use Rattle.stl_ast.specs.declared.mnemonics.Mnemonic.{Mnemonic}
use Rattle.stl_ast.specs.declared.mnemonics.Mnemonic.TheVariants as code
use Rattle.stl_ast.specs.declared.operands.Operand.{Operand}
use Rattle.stl_ast.specs.declared.operands.Operand.TheVariants as operand
use Rattle.stl_ast.specs.declared.statements.Statement.{Statement}
use Rattle.stl_types.specs.Brackets.{brackets_behind, is_closing_bracket, closes_no_bracket, is_eighth_bracket, brackets_after_opening, bracket_function}
use Rattle.stl_types.specs.Context.{Context}
use Rattle.stl_types.specs.OperandRules.{operand_rule_of}
use Rattle.stl_types.specs.Operands.{rule_of_operand, rule_of_resolved_operand, takes_operand}
use Rattle.stl_types.specs.ResolvedStatement.{resolved_operand, operand_if_resolved}
use Rattle.stl_types.specs.Resolution.{resolution_of}
use Rattle.stl_types.specs.Zones.{ends_no_zone, ends_zone, is_ninth_zone, opens_zone, zones_behind}
use Rattle.stl_types.specs.declared.brackets.SourceBracket.{SourceBracket}
use Rattle.stl_types.specs.declared.operand_rules.OperandRule.{OperandRule}
use Rattle.stl_types.specs.declared.operand_rules.OperandRule.TheVariants as operand_rules
use Rattle.stl_types.specs.declared.resolved_operands.ResolvedOperand.{ResolvedOperand}
use Rattle.stl_types.specs.declared.resolved_operands.ResolvedOperand.TheVariants as resolved
use Rattle.stl_codegen.specs.EmittedOps.{use_db_ops as opening_op, pass_ops}
use Rattle.stl_codegen.specs.Instruction.{call_instr, end_instr, instr_by, instruction, jump_instr, resolved_instr, target_of, operand_instr}
use Rattle.stl_codegen.specs.Operations.{call_operation_of, end_operation_of, jump_operation_of}
use Rattle.sem_kept.specs.Back.{is_target}
use Rattle.sem_kept.proofs.compiled.Instructions.{no_target}
use Rattle.sem_kept.proofs.compiled.Reading.{parts_of_instr}
use Rattle.sem_kept.proofs.accepted.OperandsOperations.{IsCodeBy, IsCodeOf, IsOtherCode, IsZoneCodeBy, operation_is}
use Rattle.sem_kept.proofs.accepted.JumpsCode.{IsQuiet}
use Rattle.flat_code.proofs.BracketLemmas.{codes_behind, codes_fault, count_behind, count_ended, count_fault, count_opened}

-- ---- the operands of jumps, of brackets and of zones

-- an instruction that opens or closes a bracket or a zone
abbrev pub nests : Mnemonic → Bool
nests m =
    if is_some (bracket_function m) then true else if is_closing_bracket m then true
    else if opens_zone m then true else ends_zone m

-- a jump has a label, and a bracket or a zone nothing
pub record TakesRight (s : Statement) : Type 0 where
  pub jumps : (how : JumpOperation) → jump_operation_of s.code ≡ Some how
      → (name : List ℕ) × (s.operand ≡ operand.Label name)
  pub bare : nests s.code ≡ true → s.operand ≡ operand.Nothing

-- ---- op codes

-- another code, of an instruction that is neither bracket nor zone
other_code : (m : Mnemonic) (code : ℕ) → nests m ≡ false → IsOtherCode code → IsCodeOf m code
other_code m code none other = by (bracket_function m) (is_closing_bracket m) (opens_zone m) (ends_zone m) none
  where
    by : (o : Option ℕ) (c opened ended : Bool)
        → (if is_some o then true else if c then true else if opened then true else ended) ≡ false
        → IsCodeBy o c code × IsZoneCodeBy opened ended code
    by (Some function) c opened ended h = absurd cc
    by None true opened ended h = absurd cc
    by None false true ended h = absurd cc
    by None false false true h = absurd cc
    by None false false false h = other

-- what opens or closes a bracket or a zone takes nothing, and neither jumps nor calls nor ends
pub record IsNesting (m : Mnemonic) : Type 0 where
  pub form : operand_rule_of m ≡ operand_rules.Bare
  pub jump : jump_operation_of m ≡ None
  pub call : call_operation_of m ≡ None
  pub end : end_operation_of m ≡ None
  pub no_call : is_call m ≡ false

pub nesting : (m : Mnemonic) → nests m ≡ true → IsNesting m
unfolding bracket_function is_closing_bracket opens_zone ends_zone operand_rule_of
nesting code.AOpen e = record { form = refl; jump = refl; call = refl; end = refl; no_call = refl }
nesting code.AnOpen e = record { form = refl; jump = refl; call = refl; end = refl; no_call = refl }
nesting code.OOpen e = record { form = refl; jump = refl; call = refl; end = refl; no_call = refl }
nesting code.OnOpen e = record { form = refl; jump = refl; call = refl; end = refl; no_call = refl }
nesting code.XOpen e = record { form = refl; jump = refl; call = refl; end = refl; no_call = refl }
nesting code.XnOpen e = record { form = refl; jump = refl; call = refl; end = refl; no_call = refl }
nesting code.Close e = record { form = refl; jump = refl; call = refl; end = refl; no_call = refl }
nesting code.McrOpen e = record { form = refl; jump = refl; call = refl; end = refl; no_call = refl }
nesting code.McrClose e = record { form = refl; jump = refl; call = refl; end = refl; no_call = refl }
nesting _ e = absurd cc

-- so what does one of these has nothing to do with brackets and zones
apart : {A : Type 0} (m : Mnemonic) (o : Option A) (how : A) → o ≡ Some how → (IsNesting m → o ≡ None) → nests m ≡ false
apart m o how e none = by (nests m) refl
  where
    by : (t : Bool) → nests m ≡ t → t ≡ false
    by false is = refl
    by true is = let never = none (nesting m is) in absurd cc

call_code : (how : CallOperation) → IsOtherCode (op_code_of (operation.Call how))
call_code calls.Call = ((refl, refl), (refl, refl))
call_code _ = ((refl, refl), (refl, refl))

end_code : (how : EndOperation) → IsOtherCode (op_code_of (operation.End how))
end_code ends.Be = ((refl, refl), (refl, refl))
end_code _ = ((refl, refl), (refl, refl))

-- ---- the last op of a statement

abbrev pub last_op_of_instr : Instr → OpData
last_op_of_instr i = (parts_of_instr i).end

-- what is known of the last op of a statement that doesn't jump
record IsLast (m : Mnemonic) (op : OpData) : Type 0 where
  code : IsCodeOf m op.code
  stays : is_target op.operand ≡ false

last_end : (s : Statement) (v : ResolvedOperand) (e : Option EndOperation) → end_operation_of s.code ≡ e
    → IsLast s.code (last_op_of_instr (end_instr s v e))
last_end s v None is =
    record { code = (operation_is s.code s.operand v).code; stays = no_target s.operand v }
last_end s v (Some how) is = record {
  code = other_code s.code (op_code_of (operation.End how)) (apart s.code _ how is (λ n. n.end)) (end_code how);
  stays = refl;
}

last_call : (c : Context) (s : Statement) (how : CallOperation) (v : ResolvedOperand) → call_operation_of s.code ≡ Some how
    → IsLast s.code (last_op_of_instr (call_instr c s how v))
last_call c s how (resolved.Called id instance) is = record {
  code = other_code s.code (op_code_of (operation.Call how)) (apart s.code _ how is (λ n. n.call)) (call_code how);
  stays = refl;
}
last_call c s how _ is = record {
  code = other_code s.code (op_code_of operation.Nop) (apart s.code _ how is (λ n. n.call))
      ((refl, refl), (refl, refl));
  stays = refl;
}

last_view : (c : Context) (s : Statement) (v : ResolvedOperand) (call : Option CallOperation) → call_operation_of s.code ≡ call
    → IsLast s.code (last_op_of_instr (operand_instr c s v call))
last_view c s v None is = last_end s v (end_operation_of s.code) refl
last_view c s v (Some how) is = last_call c s how v is

abbrev resolved_by : Context → OperandRule → Operand → Option ResolvedOperand
resolved_by c f o = if is_none (rule_of_operand c f o) then operand_if_resolved (resolution_of c o) else None

bare_resolved : (c : Context) → resolved_by c operand_rules.Bare operand.Nothing ≡ Some resolved.Nothing
unfolding resolution_of rule_of_resolved_operand takes_operand
bare_resolved c = refl

nests_resolved : (c : Context) (s : Statement) → TakesRight s → nests s.code ≡ true
    → resolved_operand c s ≡ Some resolved.Nothing
unfolding resolved_operand
nests_resolved c s h is =
    ap (λ (f : OperandRule). resolved_by c f s.operand) (nesting s.code is).form
    ∙ ap (resolved_by c operand_rules.Bare) (h.bare is) ∙ bare_resolved c

last_resolved : (c : Context) (s : Statement) (v : Option ResolvedOperand) → TakesRight s → resolved_operand c s ≡ v
    → IsLast s.code (last_op_of_instr (resolved_instr c s v))
last_resolved c s (Some v) h is = last_view c s v (call_operation_of s.code) refl
last_resolved c s None h is = by (nests s.code) refl
  where
    by : (b : Bool) → nests s.code ≡ b → IsLast s.code (last_op_of_instr (resolved_instr c s None))
    by true nested = let found = nests_resolved c s h nested in absurd cc
    by false other = record {
      code = other_code s.code (op_code_of operation.Nop) other ((refl, refl), (refl, refl));
      stays = refl;
    }

jump_code : (how : JumpOperation) (n target : ℕ) → (last_op_of_instr (jump_instr how n target)).code ≡ op_code_of operation.Jump
jump_code jump.Jl n target = refl
jump_code _ n target = refl

-- where the last op of a statement jumps, if it does
abbrev pub leads_to_label : List Statement → Statement → Option JumpOperation → FlatOperand → Type 0
leads_to_label body s None o = is_target o ≡ false
leads_to_label body s (Some how) o = o ≡ flat.Jump (jump_number how) (target_of body s.operand)

pub record IsLastOf (body : List Statement) (s : Statement) (op : OpData) : Type 0 where
  code : IsCodeOf s.code op.code
  pub jumps : leads_to_label body s (jump_operation_of s.code) op.operand

jump_operand : (how : JumpOperation) (n target : ℕ)
    → (last_op_of_instr (jump_instr how n target)).operand ≡ flat.Jump (jump_number how) target
jump_operand jump.Jl n target = refl
jump_operand _ n target = refl

pub last_of : (c : Context) (body : List Statement) (n : ℕ) (s : Statement) → TakesRight s
    → IsLastOf body s (last_op_of_instr (instruction c body n s))
unfolding instruction
last_of c body n s h =
    let r = by (jump_operation_of s.code) refl in record { code = r.0; jumps = r.1 }
  where
    by : (j : Option JumpOperation) → jump_operation_of s.code ≡ j
        → IsCodeOf s.code (last_op_of_instr (instr_by c body n s j)).code
        × leads_to_label body s j (last_op_of_instr (instr_by c body n s j)).operand
    by None is =
        let r = last_resolved c s (resolved_operand c s) h refl in (r.code, r.stays)
    by (Some how) is = (
      subst (IsCodeOf s.code) (sym (jump_code how n (target_of body s.operand)))
          (other_code s.code (op_code_of operation.Jump) (apart s.code _ how is (λ n. n.jump)) ((refl, refl), (refl, refl))),
      jump_operand how n (target_of body s.operand),
    )

-- ---- brackets

-- the codes of brackets
abbrev pub codes_of_source_brackets : List SourceBracket → List ℕ
codes_of_source_brackets bs = map (λ b. op_code_of (operation.Nest check.A) + b.function) bs

codes_one : (bs : List SourceBracket) (b : SourceBracket)
    → codes_of_source_brackets (bs ++ b ∷ []) ≡ codes_of_source_brackets bs ++ (op_code_of (operation.Nest check.A) + b.function) ∷ []
codes_one [] b = refl
codes_one (x ∷ bs) b = ap (λ (z : List ℕ). (op_code_of (operation.Nest check.A) + x.function) ∷ z) (codes_one bs b)

codes_take : (n : ℕ) (bs : List SourceBracket) → codes_of_source_brackets (take n bs) ≡ take n (codes_of_source_brackets bs)
codes_take zero bs = refl
codes_take (suc n) [] = refl
codes_take (suc n) (b ∷ bs) = ap (λ (z : List ℕ). (op_code_of (operation.Nest check.A) + b.function) ∷ z) (codes_take n bs)

codes_count : (bs : List SourceBracket) → length (codes_of_source_brackets bs) ≡ length bs
codes_count bs = length-map bs (λ b. op_code_of (operation.Nest check.A) + b.function)

-- the brackets behind a statement, by what it is
abbrev behind_by : List SourceBracket → (line : ℕ) → Option ℕ → Bool → List SourceBracket
behind_by bs line None c = if c then take (length bs - 1) bs else bs
behind_by bs line (Some function) c = bs ++ record { function = function; line = line } ∷ []

behind_is : (bs : List SourceBracket) (s : Statement)
    → brackets_behind bs s ≡ behind_by bs s.line (bracket_function s.code) (is_closing_bracket s.code)
behind_is bs s = by (bracket_function s.code)
  where
    by : (o : Option ℕ) → brackets_after_opening bs s o ≡ behind_by bs s.line o (is_closing_bracket s.code)
    by None = refl
    by (Some function) = refl

pub behind_codes : (bs : List SourceBracket) (body : List Statement) (s : Statement) (op : OpData)
    → IsLastOf body s op → codes_behind op.code (codes_of_source_brackets bs) ≡ codes_of_source_brackets (brackets_behind bs s)
behind_codes bs body s op h =
    by (bracket_function s.code) (is_closing_bracket s.code) h.code.0 ∙ ap codes_of_source_brackets (sym (behind_is bs s))
  where
    by : (o : Option ℕ) (c : Bool) → IsCodeBy o c op.code
        → codes_behind op.code (codes_of_source_brackets bs) ≡ codes_of_source_brackets (behind_by bs s.line o c)
    by (Some function) c g =
        ap (λ (t : Bool). if t then codes_of_source_brackets bs ++ op.code ∷ []
        else if op.code == op_code_of operation.Unnest then take (length (codes_of_source_brackets bs) - 1) (codes_of_source_brackets bs)
        else codes_of_source_brackets bs) g.1
        ∙ ap (λ (k : ℕ). codes_of_source_brackets bs ++ k ∷ []) g.0
        ∙ sym (codes_one bs (record { function = function; line = s.line }))
    by None true g =
        ap (λ (k : ℕ). codes_behind k (codes_of_source_brackets bs)) g
        ∙ ap (λ (k : ℕ). take (k - 1) (codes_of_source_brackets bs)) (codes_count bs)
        ∙ sym (codes_take (length bs - 1) bs)
    by None false g = rw g.0 (rw g.1 refl)

none_there : (bs : List SourceBracket) → nat_eq (length bs) 0 ≡ false → is_empty_list (codes_of_source_brackets bs) ≡ false
none_there [] e = absurd cc
none_there (b ∷ bs) e = refl

pub bracket_right : (bs : List SourceBracket) (body : List Statement) (s : Statement) (op : OpData)
    → IsLastOf body s op → closes_no_bracket bs s ≡ false → is_eighth_bracket bs s ≡ false
    → codes_fault op.code (codes_of_source_brackets bs) ≡ None
bracket_right bs body s op h shut eighth = by (bracket_function s.code) (is_closing_bracket s.code) h.code.0 shut eighth
  where
    by : (o : Option ℕ) (c : Bool) → IsCodeBy o c op.code
        → (c && nat_eq (length bs) 0) ≡ false → (is_some o && nat_le 7 (length bs)) ≡ false
        → codes_fault op.code (codes_of_source_brackets bs) ≡ None
    by (Some function) c g one more =
        let few : nat_le 7 (length (codes_of_source_brackets bs)) ≡ false = ap (nat_le 7) (codes_count bs) ∙ more in
        rw g.1 (rw few refl)
    by None true g one more =
        ap (λ (k : ℕ). codes_fault k (codes_of_source_brackets bs)) g
        ∙ ap (λ (t : Bool). if t then Some 8 else None) (none_there bs one)
    by None false g one more = rw g.0 (rw g.1 refl)

-- ---- zones

pub behind_count : (zones : List ℕ) (body : List Statement) (s : Statement) (op : OpData)
    → IsLastOf body s op → count_behind op.code (length zones) ≡ length (zones_behind zones s)
behind_count zones body s op h = by (opens_zone s.code) (ends_zone s.code) h.code.1
  where
    by : (opened ended : Bool) → IsZoneCodeBy opened ended op.code
        → count_behind op.code (length zones)
        ≡ length (if opened then zones ++ s.line ∷ []
        else if ended then take (length zones - 1) zones
        else zones)
    by true ended g =
        ap (λ (k : ℕ). count_behind k (length zones)) g ∙ sym (count_opened s.line zones)
    by false true g =
        ap (λ (k : ℕ). count_behind k (length zones)) g ∙ sym (count_ended zones)
    by false false g = rw g.0 (rw g.1 refl)

pub zone_right : (zones : List ℕ) (body : List Statement) (s : Statement) (op : OpData)
    → IsLastOf body s op → ends_no_zone zones s ≡ false → is_ninth_zone zones s ≡ false
    → count_fault op.code (length zones) ≡ None
zone_right zones body s op h none ninth =
    by (opens_zone s.code) (ends_zone s.code) h.code.1 none ninth
  where
    by : (opened ended : Bool) → IsZoneCodeBy opened ended op.code
        → (ended && nat_eq (length zones) 0) ≡ false → (opened && nat_le 8 (length zones)) ≡ false
        → count_fault op.code (length zones) ≡ None
    by true ended g none more =
        ap (λ (k : ℕ). count_fault k (length zones)) g
        ∙ ap (λ (t : Bool). if t then Some 8 else None) more
    by false true g none more =
        ap (λ (k : ℕ). count_fault k (length zones)) g
        ∙ ap (λ (t : Bool). if t then Some 8 else None) none
    by false false g none more = rw g.0 (rw g.1 refl)

-- ---- ops that prepare

passing_quiet : (ps : List Passing) → AllByRecursion IsQuiet (pass_ops ps)
passing_quiet [] = tt
passing_quiet (p ∷ ps) = (
  record { opens = refl; closes = refl; opens_zone = refl; ends_zone = refl; stays = refl },
  passing_quiet ps,
)

opening_quiet : (use_db : Option ℕ) → AllByRecursion IsQuiet (opening_op use_db)
opening_quiet None = tt
opening_quiet (Some number) =
    (record { opens = refl; closes = refl; opens_zone = refl; ends_zone = refl; stays = refl }, tt)

pub front_quiet : (i : Instr) → AllByRecursion IsQuiet (parts_of_instr i).front
front_quiet (Does use_db w o) = opening_quiet use_db
front_quiet (Calls how block instance passings) = passing_quiet passings
front_quiet _ = tt
