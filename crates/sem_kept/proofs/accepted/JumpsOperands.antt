-- In an accepted source a jump has a label, and a bracket or a zone no operand.
use Rattle.std.proofs.Common.{◌≡◌, ℕ, Bool, true, false, List, Option, Some, None, refl, sym, ap, ◌∙◌}
use Rattle.flat_code.specs.declared.kinds.JumpOperation.{JumpOperation}
use Rattle.stl_ast.specs.Statements.{is_call, names_called_block}
use Rattle.stl_ast.specs.declared.mnemonics.Mnemonic.{Mnemonic}
use Rattle.stl_ast.specs.declared.mnemonics.Mnemonic.TheVariants as code
use Rattle.stl_ast.specs.declared.operands.Operand.{Operand}
use Rattle.stl_ast.specs.declared.operands.Operand.TheVariants as operand
use Rattle.stl_ast.specs.declared.statements.Statement.{Statement}
use Rattle.block_layout.specs.Types.{Types}
use Rattle.stl_types.specs.Constants.{takes_constant}
use Rattle.stl_types.specs.Context.{Context, data_number}
use Rattle.stl_types.specs.Operands.{rule_of_operand, rule_of_resolved_operand, rule_of_resolution, takes_operand}
use Rattle.stl_types.specs.Resolution.{resolution_of_address, resolution_of_opened_block, resolution_of_path, resolution_of}
use Rattle.stl_types.specs.Unknown.{is_unknown}
use Rattle.stl_types.specs.declared.operand_rules.OperandRule.{OperandRule}
use Rattle.stl_types.specs.declared.operand_rules.OperandRule.TheVariants as operand_rules
use Rattle.stl_types.specs.declared.resolved_operands.Resolution.{Resolution}
use Rattle.stl_types.specs.declared.resolved_operands.Resolution.TheVariants.{Resolved, Unknown, Unjudged}
use Rattle.stl_types.specs.declared.resolved_operands.ResolvedOperand.{ResolvedOperand}
use Rattle.stl_types.specs.declared.resolved_operands.ResolvedOperand.TheVariants as resolved
use Rattle.stl_codegen.specs.Operations.{jump_operation_of}
use Rattle.sem_kept.proofs.ReachedLemmas.{AnyNumber, IsReached, direct_reached, path_reached}
use Rattle.sem_kept.proofs.accepted.Accepted.{IsSoundStatement}
use Rattle.sem_kept.proofs.accepted.JumpsOperations.{TakesRight, nesting}
use Rattle.sem_kept.proofs.accepted.Shared.{jump_form}

-- what an operand comes to is settled: it stands on nothing that breaks a rule itself or is absent
abbrev pub Settles : Resolution → Type 0
Settles Unjudged = ⊥
Settles _ = Unit {0}

-- ---- what is resolved to nothing or to a label

-- only nothing and a label come to these
abbrev is_bare : Resolution → Bool
is_bare (Resolved resolved.Nothing) = true
is_bare (Resolved resolved.Label) = true
is_bare _ = false

not_bare : (x : Resolution) → IsReached AnyNumber x → is_bare x ≡ false
not_bare (Resolved resolved.Nothing) h = absurd h
not_bare (Resolved resolved.Label) h = absurd h
not_bare (Resolved _) h = refl
not_bare _ h = refl

of_opened : (di : Bool) (number : Option ℕ) → is_bare (resolution_of_opened_block di number) ≡ false
of_opened di None = refl
of_opened di (Some number) = refl

-- ---- what a form takes

jump_view : (v : ResolvedOperand) → rule_of_resolved_operand operand_rules.Jumps v ≡ None → is_bare (Resolved v) ≡ true
unfolding rule_of_resolved_operand takes_operand
jump_view resolved.Label e = refl
jump_view _ e = absurd cc

bare_view : (v : ResolvedOperand) → rule_of_resolved_operand operand_rules.Bare v ≡ None → is_bare (Resolved v) ≡ true
unfolding rule_of_resolved_operand takes_operand
bare_view resolved.Nothing e = refl
bare_view _ e = absurd cc

-- what comes to another operand breaks a rule
none_other : (f : OperandRule) → ((v : ResolvedOperand) → rule_of_resolved_operand f v ≡ None → is_bare (Resolved v) ≡ true)
    → (x : Resolution) → is_bare x ≡ false → Settles x → is_unknown x ≡ false → rule_of_resolution f x ≡ None → ⊥
none_other f takes (Resolved v) other h known e = let bare = takes v e in cc
none_other f takes Unknown other h known e = cc
none_other f takes Unjudged other h known e = h

label_of_jump : (c : Context) (o : Operand) → names_called_block o ≡ false
    → (names_called_block o ≡ false → Settles (resolution_of c o)) → is_unknown (resolution_of c o) ≡ false
    → rule_of_operand c operand_rules.Jumps o ≡ None → (name : List ℕ) × (o ≡ operand.Label name)
unfolding resolution_of rule_of_resolved_operand takes_operand takes_constant
label_of_jump c (operand.Label name) none h known e = (name, refl)
label_of_jump c operand.Nothing none h known e = absurd cc
label_of_jump c (operand.Constant value) none h known e = absurd cc
label_of_jump c (operand.Direct name a width byte bit) none h known e =
    absurd (none_other operand_rules.Jumps jump_view (resolution_of_address c name a width byte bit)
    (not_bare _ (direct_reached c name a width byte bit)) (h none) known e)
label_of_jump c (operand.Named path steps) none h known e =
    absurd (none_other operand_rules.Jumps jump_view (resolution_of_path c path steps) (not_bare _ (path_reached c path steps)) (h none) known e)
label_of_jump c (operand.OpenBlock di name) none h known e =
    absurd (none_other operand_rules.Jumps jump_view (resolution_of_opened_block di (data_number c name))
    (of_opened di (data_number c name)) (h none) known e)
label_of_jump c (operand.Called name instance) none h known e = absurd cc
label_of_jump c _ none h known e = absurd cc

nothing_of_bare : (c : Context) (o : Operand) → names_called_block o ≡ false
    → (names_called_block o ≡ false → Settles (resolution_of c o)) → is_unknown (resolution_of c o) ≡ false
    → rule_of_operand c operand_rules.Bare o ≡ None → o ≡ operand.Nothing
unfolding resolution_of rule_of_resolved_operand takes_operand takes_constant
nothing_of_bare c operand.Nothing none h known e = refl
nothing_of_bare c (operand.Label name) none h known e = absurd cc
nothing_of_bare c (operand.Constant value) none h known e = absurd cc
nothing_of_bare c (operand.Direct name a width byte bit) none h known e =
    absurd (none_other operand_rules.Bare bare_view (resolution_of_address c name a width byte bit)
    (not_bare _ (direct_reached c name a width byte bit)) (h none) known e)
nothing_of_bare c (operand.Named path steps) none h known e =
    absurd (none_other operand_rules.Bare bare_view (resolution_of_path c path steps) (not_bare _ (path_reached c path steps)) (h none) known e)
nothing_of_bare c (operand.OpenBlock di name) none h known e =
    absurd (none_other operand_rules.Bare bare_view (resolution_of_opened_block di (data_number c name))
    (of_opened di (data_number c name)) (h none) known e)
nothing_of_bare c (operand.Called name instance) none h known e = absurd cc
nothing_of_bare c _ none h known e = absurd cc

-- ---- a statement

jump_calls : (m : Mnemonic) (how : JumpOperation) → jump_operation_of m ≡ Some how → is_call m ≡ false
jump_calls code.Call how e = absurd cc
jump_calls code.Uc how e = absurd cc
jump_calls code.Cc how e = absurd cc
jump_calls _ how e = refl

pub takes_right : (y : Types) (c : Context) (s : Statement) → IsSoundStatement y c s
    → (names_called_block s.operand ≡ false → Settles (resolution_of c s.operand)) → TakesRight s
takes_right y c s sound h = record {
  jumps = λ how is.
      label_of_jump c s.operand (sound.well_formed.called ∙ jump_calls s.code how is) h sound.known
      (ap (λ (f : OperandRule). rule_of_operand c f s.operand) (sym (jump_form s.code how is)) ∙ sound.allowed);
  bare = λ is.
      nothing_of_bare c s.operand (sound.well_formed.called ∙ (nesting s.code is).no_call) h sound.known
      (ap (λ (f : OperandRule). rule_of_operand c f s.operand) (sym (nesting s.code is).form) ∙ sound.allowed);
}
