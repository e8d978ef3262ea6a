-- The statements of a listing come to the instructions of the source.
use Rattle.std.proofs.Common.{◌≡◌, ℕ, false, List, Option, Some, None, if◌then◌else◌, refl, ap, ◌∙◌}
use Rattle.std.specs.Option.{is_none}
use Rattle.flat_code.proofs.CodeLemmas.{operation_again}
use Rattle.flat_code.specs.Instr.{Does, Instr, Returns}
use Rattle.flat_code.specs.OpCodes.{op_code_of}
use Rattle.flat_code.specs.declared.kinds.JumpOperation.{JumpOperation}
use Rattle.flat_code.specs.declared.kinds.JumpOperation.TheVariants as jump
use Rattle.flat_code.specs.declared.operands.Operand.{Operand as FlatOperand}
use Rattle.flat_code.specs.declared.operations.EndOperation.{EndOperation}
use Rattle.flat_code.specs.declared.operations.Operation.{Operation}
use Rattle.flat_code.specs.declared.operations.Operation.TheVariants as operation
use Rattle.stl_ast.specs.Statements.{is_empty_statement}
use Rattle.stl_ast.specs.declared.mnemonics.Mnemonic.{Mnemonic}
use Rattle.stl_ast.specs.declared.mnemonics.Mnemonic.TheVariants as code
use Rattle.stl_ast.specs.declared.operands.Operand.{Operand}
use Rattle.stl_ast.specs.declared.operands.Operand.TheVariants as operand
use Rattle.stl_ast.specs.declared.statements.Statement.{Statement}
use Rattle.stl_types.specs.Context.{Context}
use Rattle.stl_types.specs.OperandRules.{operand_rule_of}
use Rattle.stl_types.specs.Operands.{rule_of_operand, rule_of_resolved_operand, statement_rule, takes_operand, takes_width}
use Rattle.stl_types.specs.Resolution.{resolution_of}
use Rattle.stl_types.specs.ResolvedStatement.{resolved_operand, operand_if_resolved}
use Rattle.stl_types.specs.declared.resolved_operands.Resolution.{Resolution}
use Rattle.stl_types.specs.declared.resolved_operands.Resolution.TheVariants.{Resolved, Unjudged, Unknown}
use Rattle.stl_types.specs.declared.resolved_operands.ResolvedOperand.{ResolvedOperand}
use Rattle.stl_types.specs.declared.resolved_operands.ResolvedOperand.TheVariants as resolved
use Rattle.stl_codegen.specs.Instruction.{end_instr, instr_by, instruction, jump_instr, resolved_instr, target_in, target_of, operand_instr}
use Rattle.stl_codegen.specs.Operands.{block_opened_by_operand, flat_operand_of}
use Rattle.stl_codegen.specs.Operations.{call_operation_of, end_operation_of, jump_operation_of, operation_for}
use Rattle.stl_list.specs.Labels.{label_of_number}
use Rattle.stl_list.specs.Mnemonics.{mnemonic_of, mnemonic_by}
use Rattle.stl_list.specs.Operands.{implied_operand, operand_by}
use Rattle.stl_list.specs.Runs.{statement_number_at}
use Rattle.stl_list.specs.Statements.{ListingContext, listed_statement}
use Rattle.listing_laws.specs.Instructions.{AreInstructionsKept, AreJumpsKept, HasAgain, IsInstructionKept, IsRightOperand}
use Rattle.listing_laws.specs.Operands.{IsActedAgain, operand_instruction}
use Rattle.listing_laws.specs.Statements.{run_of}
use Rattle.listing_laws.proofs.LabelLemmas.{same_word}
use Rattle.listing_laws.proofs.RunLemmas.{same_target}
use Rattle.listing_laws.proofs.WordLemmas.{end_words_found, jump_words_found, operand_plain, words_found}
use Rattle.listing_laws.proofs.ruled.Operands.{operands_kept}
use Rattle.listing_laws.proofs.ruled.Views.{stands}

-- ---- what a statement resolves to

abbrev view_if : Option ℕ → Resolution → Option ResolvedOperand
view_if rule r = if is_none rule then operand_if_resolved r else None

no_rule : (rule : Option ℕ) (r : Resolution) (v : ResolvedOperand) → view_if rule r ≡ Some v → rule ≡ None
no_rule None r v e = refl
no_rule (Some n) r v e = absurd cc

view_seen : (rule : Option ℕ) (r : Resolution) (v : ResolvedOperand) → view_if rule r ≡ Some v → r ≡ Resolved v
view_seen None (Resolved w) v e = ap (λ (x : ResolvedOperand). Resolved x) (is w v e)
  where
    is : (x y : ResolvedOperand) → Some x ≡ Some y → x ≡ y
    is x y e = cc
view_seen None Unknown v e = absurd cc
view_seen None Unjudged v e = absurd cc
view_seen (Some n) r v e = absurd cc

pub rule_broken : (c : Context) (s : Statement) (v : ResolvedOperand) → resolved_operand c s ≡ Some v → statement_rule c s ≡ None
unfolding resolved_operand
rule_broken c s v e = no_rule (statement_rule c s) (resolution_of c s.operand) v e

pub what_seen : (c : Context) (s : Statement) (v : ResolvedOperand) → resolved_operand c s ≡ Some v → resolution_of c s.operand ≡ Resolved v
unfolding resolved_operand
what_seen c s v e = view_seen (statement_rule c s) (resolution_of c s.operand) v e

pub resolves : (c : Context) (s : Statement) (v : ResolvedOperand) → statement_rule c s ≡ None → resolution_of c s.operand ≡ Resolved v → resolved_operand c s ≡ Some v
unfolding resolved_operand
resolves c s v h e = ap (λ (rule : Option ℕ). view_if rule (resolution_of c s.operand)) h ∙ ap operand_if_resolved e

-- the instruction of a statement that calls nothing and doesn't jump
pub comes_to : (c : Context) (body : List Statement) (n : ℕ) (s : Statement) (v : ResolvedOperand) (ending : Option EndOperation) → jump_operation_of s.code ≡ None → call_operation_of s.code ≡ None → end_operation_of s.code ≡ ending
    → resolved_operand c s ≡ Some v → instruction c body n s ≡ end_instr s v ending
unfolding instruction
comes_to c body n s v ending jumps calls ends e =
    ap (instr_by c body n s) jumps ∙ ap (resolved_instr c s) e ∙ ap (operand_instr c s v) calls ∙ ap (end_instr s v) ends

-- ---- words

pub acting_word : (f : ℕ → ℕ) (m : Mnemonic) (o : Operand) (v : ResolvedOperand) → is_empty_statement m ≡ false → jump_operation_of m ≡ None → call_operation_of m ≡ None → end_operation_of m ≡ None
    → mnemonic_of (run_of f (operand_instruction m o v)).op ≡ m
acting_word f m o v some jumps calls ends =
    same_word f (operand_instruction m o v)
    ∙ ap (mnemonic_by (op_code_of (operation_for m o v))) (same_target (flat_operand_of o v))
    ∙ operand_plain o v (op_code_of (operation_for m o v))
    ∙ words_found m o v (record { some = some; jumps = jumps; calls = calls; ends = ends })

-- ---- a statement that goes on

does_again : (c listed : Context) (sur : ListingContext) (f : ℕ → ℕ) (again : List Statement) (n k : ℕ) (s : Statement) (v : ResolvedOperand)
    → HasAgain c listed sur.formals → IsRightOperand c.symbols s.operand
    → is_empty_statement s.code ≡ false → jump_operation_of s.code ≡ None → call_operation_of s.code ≡ None → end_operation_of s.code ≡ None → resolved_operand c s ≡ Some v
    → IsInstructionKept listed again n s.code (operand_instruction s.code s.operand v) (listed_statement sur k (run_of f (operand_instruction s.code s.operand v)))
does_again c listed sur f again n k s v has right some jumps calls ends e =
    let sees = what_seen c s v e in
    let both = stands c listed sur.formals s.operand v has right sees in
    let acted = operands_kept c listed sur.formals sur.starts f s.code s.operand v (record { some = some; jumps = jumps; calls = calls; ends = ends }) (rule_broken c s v e) sees both.1 both.0 in
    by acted
  where
    listing : Statement
    listing = listed_statement sur k (run_of f (operand_instruction s.code s.operand v))

    word : listing.code ≡ s.code
    word = acting_word f s.code s.operand v some jumps calls ends

    by : IsActedAgain listed s.code s.operand listing.operand v → IsInstructionKept listed again n s.code (operand_instruction s.code s.operand v) listing
    by acted =
        let rule : statement_rule listed listing ≡ None = ap (λ (m : Mnemonic). rule_of_operand listed (operand_rule_of m) listing.operand) word ∙ acted.right in
        record {
          word = word;
          right = rule;
          instr =
              comes_to listed again n listing acted.found None (ap jump_operation_of word ∙ jumps) (ap call_operation_of word ∙ calls) (ap end_operation_of word ∙ ends) (resolves listed listing acted.found rule acted.resolves)
              ∙ ap (λ (m : Mnemonic). operand_instruction m listing.operand acted.found) word
              ∙ ap (λ (x : Option ℕ). Does x (operation_for s.code listing.operand acted.found) (flat_operand_of listing.operand acted.found)) acted.opened
              ∙ ap (λ (w : Operation). Does (block_opened_by_operand v) w (flat_operand_of listing.operand acted.found)) acted.operation
              ∙ ap (λ (o : FlatOperand). Does (block_opened_by_operand v) (operation_for s.code s.operand v) o) acted.operand;
        }

-- ---- the end of a block

pub end_taken : (listed : Context) (m : Mnemonic) (how : EndOperation) → end_operation_of m ≡ Some how → rule_of_operand listed (operand_rule_of m) operand.Nothing ≡ None
unfolding operand_rule_of takes_operand rule_of_resolved_operand takes_width resolution_of
end_taken listed code.Be how h = refl
end_taken listed code.Bec how h = refl
end_taken listed code.Beu how h = refl
end_taken listed _ how h = absurd cc

pub end_operand : (sur : ListingContext) (k : ℕ) (f : ℕ → ℕ) (how : EndOperation) → (listed_statement sur k (run_of f (Returns how))).operand ≡ operand.Nothing
unfolding operand_by
end_operand sur k f how = ap implied_operand (operation_again (operation.End how))

pub nothing_seen : (c : Context) → resolution_of c operand.Nothing ≡ Resolved resolved.Nothing
unfolding resolution_of
nothing_seen c = refl

ends_again : (listed : Context) (sur : ListingContext) (f : ℕ → ℕ) (again : List Statement) (n k : ℕ) (m : Mnemonic) (how : EndOperation)
    → jump_operation_of m ≡ None → call_operation_of m ≡ None → end_operation_of m ≡ Some how
    → IsInstructionKept listed again n m (Returns how) (listed_statement sur k (run_of f (Returns how)))
ends_again listed sur f again n k m how jumps calls ends = record {
  word = word;
  right = rule;
  instr = comes_to listed again n listing resolved.Nothing (Some how) (ap jump_operation_of word ∙ jumps) (ap call_operation_of word ∙ calls) (ap end_operation_of word ∙ ends)
      (resolves listed listing resolved.Nothing rule (ap (resolution_of listed) (end_operand sur k f how) ∙ nothing_seen listed));
}
  where
    listing : Statement
    listing = listed_statement sur k (run_of f (Returns how))

    word : listing.code ≡ m
    word = end_words_found m how ends

    rule : statement_rule listed listing ≡ None
    rule = ap (λ (x : Mnemonic). rule_of_operand listed (operand_rule_of x) listing.operand) word ∙ ap (rule_of_operand listed (operand_rule_of m)) (end_operand sur k f how) ∙ end_taken listed m how ends

-- ---- either

pub instructions_kept : AreInstructionsKept
instructions_kept c listed sur f body again n k s v has right some jumps calls e = by (end_operation_of s.code) refl
  where
    by : (ending : Option EndOperation) → end_operation_of s.code ≡ ending → IsInstructionKept listed again n s.code (instruction c body n s) (listed_statement sur k (run_of f (instruction c body n s)))
    by None ends = rw (comes_to c body n s v None jumps calls ends e) (does_again c listed sur f again n k s v has right some jumps calls ends e)
    by (Some how) ends = rw (comes_to c body n s v (Some how) jumps calls ends e) (ends_again listed sur f again n k s.code how jumps calls ends)

-- ---- jumps

pub jump_taken : (listed : Context) (m : Mnemonic) (how : JumpOperation) (name : List ℕ) → jump_operation_of m ≡ Some how → rule_of_operand listed (operand_rule_of m) (operand.Label name) ≡ None
unfolding operand_rule_of takes_operand rule_of_resolved_operand takes_width resolution_of
jump_taken listed code.Ju how name h = refl
jump_taken listed code.Jl how name h = refl
jump_taken listed code.Jc how name h = refl
jump_taken listed code.Jcn how name h = refl
jump_taken listed code.Jcb how name h = refl
jump_taken listed code.Jnb how name h = refl
jump_taken listed code.Jbi how name h = refl
jump_taken listed code.Jnbi how name h = refl
jump_taken listed code.Jo how name h = refl
jump_taken listed code.Jos how name h = refl
jump_taken listed code.Jz how name h = refl
jump_taken listed code.Jn how name h = refl
jump_taken listed code.Jp how name h = refl
jump_taken listed code.Jm how name h = refl
jump_taken listed code.Jpz how name h = refl
jump_taken listed code.Jmz how name h = refl
jump_taken listed code.Juo how name h = refl
jump_taken listed code.Loop how name h = refl
jump_taken listed _ how name h = absurd cc

-- a jump with its target among the ops
abbrev pub leap : JumpOperation → (n target : ℕ) → Instr
leap how n target = jump_instr how n target

pub leap_word : (f : ℕ → ℕ) (m : Mnemonic) (how : JumpOperation) (n target : ℕ) → jump_operation_of m ≡ Some how → mnemonic_of (run_of f (leap how n target)).op ≡ m
leap_word f m jump.Jl n target h = jump_words_found m jump.Jl h
leap_word f m jump.Ju n target h = jump_words_found m jump.Ju h
leap_word f m jump.Jc n target h = jump_words_found m jump.Jc h
leap_word f m jump.Jcn n target h = jump_words_found m jump.Jcn h
leap_word f m jump.Jcb n target h = jump_words_found m jump.Jcb h
leap_word f m jump.Jnb n target h = jump_words_found m jump.Jnb h
leap_word f m jump.Jbi n target h = jump_words_found m jump.Jbi h
leap_word f m jump.Jnbi n target h = jump_words_found m jump.Jnbi h
leap_word f m jump.Jo n target h = jump_words_found m jump.Jo h
leap_word f m jump.Jos n target h = jump_words_found m jump.Jos h
leap_word f m jump.Jz n target h = jump_words_found m jump.Jz h
leap_word f m jump.Jn n target h = jump_words_found m jump.Jn h
leap_word f m jump.Jp n target h = jump_words_found m jump.Jp h
leap_word f m jump.Jm n target h = jump_words_found m jump.Jm h
leap_word f m jump.Jpz n target h = jump_words_found m jump.Jpz h
leap_word f m jump.Jmz n target h = jump_words_found m jump.Jmz h
leap_word f m jump.Juo n target h = jump_words_found m jump.Juo h
leap_word f m jump.Loop n target h = jump_words_found m jump.Loop h

pub leap_operand : (sur : ListingContext) (k : ℕ) (f : ℕ → ℕ) (how : JumpOperation) (n target : ℕ) → (listed_statement sur k (run_of f (leap how n target))).operand ≡ operand.Label (label_of_number (statement_number_at sur.starts (f target)))
unfolding operand_by
leap_operand sur k f jump.Jl n target = refl
leap_operand sur k f _ n target = refl

pub jump_instruction : (c : Context) (body : List Statement) (n : ℕ) (s : Statement) (how : JumpOperation) → jump_operation_of s.code ≡ Some how → instruction c body n s ≡ jump_instr how n (target_of body s.operand)
unfolding instruction
jump_instruction c body n s how h = ap (instr_by c body n s) h

leaps_again : (listed : Context) (sur : ListingContext) (f : ℕ → ℕ) (again : List Statement) (n k : ℕ) (m : Mnemonic) (how : JumpOperation) (target : ℕ)
    → jump_operation_of m ≡ Some how → statement_number_at sur.starts (f target) ≡ target → target_in (label_of_number target) again ≡ target
    → IsInstructionKept listed again n m (leap how n target) (listed_statement sur k (run_of f (leap how n target)))
leaps_again listed sur f again n k m how target h found reached = record {
  word = word;
  right = ap (λ (x : Mnemonic). rule_of_operand listed (operand_rule_of x) listing.operand) word ∙ ap (rule_of_operand listed (operand_rule_of m)) label ∙ jump_taken listed m how (label_of_number target) h;
  instr = jump_instruction listed again n listing how (ap jump_operation_of word ∙ h) ∙ ap (λ (o : Operand). jump_instr how n (target_of again o)) label ∙ ap (jump_instr how n) reached;
}
  where
    listing : Statement
    listing = listed_statement sur k (run_of f (leap how n target))

    word : listing.code ≡ m
    word = leap_word f m how n target h

    label : listing.operand ≡ operand.Label (label_of_number target)
    label = leap_operand sur k f how n target ∙ ap (λ (x : ℕ). operand.Label (label_of_number x)) found

pub jumps_kept : AreJumpsKept
jumps_kept c listed sur f body again n k s jumps found reached = by (jump_operation_of s.code) refl
  where
    by : (how : Option JumpOperation) → jump_operation_of s.code ≡ how → IsInstructionKept listed again n s.code (instruction c body n s) (listed_statement sur k (run_of f (instruction c body n s)))
    by None e = absurd (jumps e)
    by (Some how) e = rw (jump_instruction c body n s how e) (leaps_again listed sur f again n k s.code how (target_of body s.operand) e found reached)
