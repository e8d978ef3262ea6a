-- The types of what a statement of a source passes.
use Rattle.std.proofs.Common.{◌≡◌, ℕ, suc, Bool, true, false, not, List, [], ◌∷◌, ◌++◌, length, map, append_assoc, find, bytes_eq, Option, Some, None, slice_get, refl, sym, ap, subst, ◌∙◌, cond, eqb-true, if◌then◌else◌}
use Rattle.std.specs.List.{AllByRecursion}
use Rattle.std.proofs.lemmas.Option.{same_Some}
use Rattle.plc_base.specs.Folding.{upper_case_name}
use Rattle.plc_base.proofs.ListLemmas.{all_append}
use Rattle.plc_base.proofs.TruthLemmas.{and_first}
use Rattle.plc_base.specs.declared.blocks.BlockId.{BlockId}
use Rattle.flat_code.specs.Instr.{Passing, Calls}
use Rattle.flat_code.specs.Programs.{CodeBlock}
use Rattle.flat_code.specs.declared.kinds.JumpOperation.{JumpOperation}
use Rattle.flat_code.specs.declared.kinds.JumpOperation.TheVariants as jump
use Rattle.flat_code.specs.declared.operations.CallOperation.{CallOperation}
use Rattle.flat_code.specs.declared.operations.EndOperation.{EndOperation}
use Rattle.flat_code.specs.declared.operands.Passed.TheVariants as passed
use Rattle.stl_ast.specs.declared.blocks.PartKind.{PartKind}
use Rattle.stl_ast.specs.declared.literals.Literal.{Literal}
use Rattle.stl_ast.specs.declared.declarations.Simple.{Simple}
use Rattle.stl_ast.specs.declared.declarations.Simple.TheVariants as simple
use Rattle.stl_ast.specs.declared.operands.Operand.{Operand}
use Rattle.stl_ast.specs.declared.operands.Operand.TheVariants as operand
use Rattle.stl_ast.specs.declared.statements.Actual.{Actual}
use Rattle.stl_ast.specs.declared.statements.Statement.{Statement}
use Rattle.stl_types.specs.Actuals.{fits_operand, fits_resolution, fits_resolved_operand, formal_named, is_same_type, takes_section, type_number}
use Rattle.stl_types.specs.Calls.{misfits_formal}
use Rattle.stl_types.specs.Context.{Context}
use Rattle.stl_types.specs.Parameters.{Callee, callee_of}
use Rattle.stl_types.specs.Resolution.{resolution_of}
use Rattle.stl_types.specs.ResolvedStatement.{resolved_operand}
use Rattle.stl_codegen.specs.Instruction.{end_instr, instr_by, instruction, jump_instr, passings_to, resolved_instr, target_of, operand_instr}
use Rattle.stl_codegen.specs.Operations.{call_operation_of, end_operation_of, jump_operation_of}
use Rattle.stl_types.specs.declared.parameters.Formal.{Formal}
use Rattle.stl_types.specs.declared.resolved_operands.Resolution.{Resolution}
use Rattle.stl_types.specs.declared.resolved_operands.Resolution.TheVariants.{Resolved, Unknown, Unjudged}
use Rattle.stl_types.specs.declared.resolved_operands.ResolvedOperand.{ResolvedOperand}
use Rattle.stl_types.specs.declared.resolved_operands.ResolvedOperand.TheVariants as resolved
use Rattle.stl_codegen.specs.Operands.{is_in_named_block}
use Rattle.stl_codegen.specs.PassedParameters.{passed_actual, passed_resolution, passed_by_operand, passings_from, actual_of_formal, with_index}
use Rattle.listing_laws.specs.HandedTypes.{ArePassedOn, AreStatementsHandedOn, HandsTypesOn, CallOwesTypes, IsFoundAmong, IsHandedOn, SeesOwn, formals_by_index}

same_types : (a b : Simple) → is_same_type a b ≡ true → a ≡ b
same_types a b e = by a b (eqb-true (type_number a) (type_number b) e)
  where
    by : (a b : Simple) → type_number a ≡ type_number b → a ≡ b
    by simple.Bool simple.Bool e = refl
    by simple.Byte simple.Byte e = refl
    by simple.Char simple.Char e = refl
    by simple.Word simple.Word e = refl
    by simple.Int simple.Int e = refl
    by simple.S5time simple.S5time e = refl
    by simple.Dword simple.Dword e = refl
    by simple.Dint simple.Dint e = refl
    by simple.Time simple.Time e = refl
    by simple.Bool _ e = absurd cc
    by simple.Byte _ e = absurd cc
    by simple.Char _ e = absurd cc
    by simple.Word _ e = absurd cc
    by simple.Int _ e = absurd cc
    by simple.S5time _ e = absurd cc
    by simple.Dword _ e = absurd cc
    by simple.Dint _ e = absurd cc
    by simple.Time _ e = absurd cc

-- a parameter that fits has the type that is asked for
constant_seen : (c : Context) (value : Literal) → resolution_of c (operand.Constant value) ≡ Resolved resolved.Constant
unfolding resolution_of
constant_seen c value = refl

no_parameter : (index : ℕ) (section : PartKind) (kind : Simple) → Resolved resolved.Constant ≡ Resolved (resolved.Parameter index section kind) → ⊥
no_parameter index section kind e = absurd cc

own_type : (c : Context) (f : Formal) (o : Operand) (index : ℕ) (section : PartKind) (kind : Simple)
    → resolution_of c o ≡ Resolved (resolved.Parameter index section kind) → fits_operand c f o ≡ true → kind ≡ f.kind
unfolding fits_operand fits_resolved_operand
own_type c f (operand.Constant value) index section kind e h = absurd (no_parameter index section kind (sym (constant_seen c value) ∙ e))
own_type c f o index section kind e h =
    same_types kind f.kind (and_first (is_same_type kind f.kind) (takes_section f.section section) (sym (ap (fits_resolution f) e) ∙ h))

not_not : (t : Bool) → not t ≡ false → t ≡ true
not_not true e = refl
not_not false e = absurd cc

-- the actual parameter that is found is one of the call, and has the name
found_fits : (test : Actual → Bool) (P : Actual → Type 0) (xs : List Actual) → AllByRecursion P xs → (a : Actual) → find test xs ≡ Some a
    → P a × (test a ≡ true)
found_fits test P [] h a e = absurd cc
found_fits test P (x ∷ xs) h a e = by (test x) refl (λ k. found_fits test P xs h.1 a k) e
  where
    by : (t : Bool) → test x ≡ t → (find test xs ≡ Some a → P a × (test a ≡ true)) → cond t (Some x) (find test xs) ≡ Some a → P a × (test a ≡ true)
    by true is more e = subst (λ (z : Actual). P z × (test z ≡ true)) (same_Some x a e) (h.0, is)
    by false is more e = more e

at_seam : (front : List Formal) (f : Formal) (fs : List Formal) (i : ℕ) → length front ≡ i
    → slice_get (map (λ (f : Formal). f.kind) (front ++ f ∷ fs)) i ≡ Some f.kind
at_seam front f fs i n = subst (λ (k : ℕ). slice_get (map (λ (f : Formal). f.kind) (front ++ f ∷ fs)) k ≡ Some f.kind) n (by front)
  where
    by : (front : List Formal) → slice_get (map (λ (f : Formal). f.kind) (front ++ f ∷ fs)) (length front) ≡ Some f.kind
    by [] = refl
    by (g ∷ front) = by front

module _ (c : Context) (own : List Simple) (own_seen : SeesOwn c own) (all : List Formal) where
  abbrev AreHanded : List Passing → Type 0
  AreHanded ps = AllByRecursion (λ (p : Passing). IsHandedOn own (map (λ (f : Formal). f.kind) all) p.index p.actual) ps

  -- what an operand that fits passes
  view_handed : (f : Formal) (i : ℕ) (o : Operand) (v : ResolvedOperand) → resolution_of c o ≡ Resolved v → fits_operand c f o ≡ true
      → slice_get (map (λ (f : Formal). f.kind) all) i ≡ Some f.kind → AreHanded (with_index i (passed_by_operand o v))
  view_handed f i o (resolved.Parameter index section kind) e h at =
      ((kind, own_seen o index section kind e, at ∙ ap Some (sym (own_type c f o index section kind e h))), tt)
  view_handed f i o (resolved.Direct place w side declared) e h at = by (is_in_named_block place)
    where
      by : (t : Bool) → AreHanded (with_index i (Some (if t then passed.InBlock place.number place.area w place.byte place.bit else passed.Direct place.area w place.byte place.bit)))
      by true = (tt, tt)
      by false = (tt, tt)
  view_handed f i o resolved.Constant e h at = (tt, tt)
  view_handed f i o _ e h at = tt

  seen_handed : (f : Formal) (i : ℕ) (o : Operand) (r : Resolution) → resolution_of c o ≡ r → fits_operand c f o ≡ true
      → slice_get (map (λ (f : Formal). f.kind) all) i ≡ Some f.kind → AreHanded (with_index i (passed_resolution o r))
  seen_handed f i o (Resolved v) e h at = view_handed f i o v e h at
  seen_handed f i o Unknown e h at = tt
  seen_handed f i o Unjudged e h at = tt

  handed_from : (formals : List Formal) (actuals : List Actual)
      → AllByRecursion (λ (a : Actual). misfits_formal c a (formal_named formals a.name) ≡ false) actuals
      → (front : List Formal) (i : ℕ) (fs : List Formal) → all ≡ front ++ fs → length front ≡ i → AllByRecursion (IsFoundAmong formals) fs
      → AreHanded (passings_from c actuals i fs)
  handed_from formals actuals fits front i [] e n found = tt
  handed_from formals actuals fits front i (f ∷ fs) e n found =
      all_append (λ (p : Passing). IsHandedOn own (map (λ (f : Formal). f.kind) all) p.index p.actual)
      (passed_actual c i (actual_of_formal actuals f)) (passings_from c actuals (suc i) fs)
      (one (actual_of_formal actuals f) refl)
      (handed_from formals actuals fits (front ++ f ∷ []) (suc i) fs (e ∙ sym (append_assoc front (f ∷ []) fs)) (longer front ∙ ap suc n) found.1)
    where
      longer : (xs : List Formal) → length (xs ++ f ∷ []) ≡ suc (length xs)
      longer [] = refl
      longer (x ∷ xs) = ap suc (longer xs)

      one : (o : Option Actual) → actual_of_formal actuals f ≡ o → AreHanded (passed_actual c i o)
      one None is = tt
      one (Some a) is =
          let k = found_fits (λ (a : Actual). bytes_eq (upper_case_name a.name) f.name) (λ (a : Actual). misfits_formal c a (formal_named formals a.name) ≡ false) actuals fits a is in
          seen_handed f i a.value (resolution_of c a.value) refl
          (not_not (fits_operand c f a.value) (ap (misfits_formal c a) (sym (found.0 (upper_case_name a.name) k.1)) ∙ k.0))
          (ap (λ (z : List Formal). slice_get (map (λ (f : Formal). f.kind) z) i) e ∙ at_seam front f fs i n)

pub passed_on : ArePassedOn
passed_on c own callee s own_seen found fits =
    handed_from c own own_seen (formals_by_index c callee) callee.formals s.actuals fits [] 0 (formals_by_index c callee) refl refl found

-- ---- statements

module _ (types : BlockId → List Simple) (blocks : List CodeBlock) (c : Context) (own : List Simple) (own_seen : SeesOwn c own) where
  callee_handed : (s : Statement) (how : CallOperation) (id : BlockId) (instance : Option ℕ) → CallOwesTypes types blocks c s id
      → (o : Option Callee) → callee_of c s.operand ≡ o → HandsTypesOn types blocks own (Calls how id instance (passings_to c s o))
  callee_handed s how id instance owes None e = (owes.0, tt)
  callee_handed s how id instance owes (Some callee) e =
      let k = owes.1 callee e in (
        owes.0,
        subst (λ (ks : List Simple). AllByRecursion (λ (p : Passing). IsHandedOn own ks p.index p.actual) (passings_to c s (Some callee))) (sym k.2)
            (passed_on c own callee s own_seen k.0 k.1),
      )

  view_handed_on : (s : Statement) (v : ResolvedOperand) (how : Option CallOperation)
      → ((id : BlockId) (instance : Option ℕ) → v ≡ resolved.Called id instance → CallOwesTypes types blocks c s id)
      → HandsTypesOn types blocks own (operand_instr c s v how)
  view_handed_on s v None owes = ended (end_operation_of s.code)
    where
      ended : (e : Option EndOperation) → HandsTypesOn types blocks own (end_instr s v e)
      ended None = tt
      ended (Some how) = tt
  view_handed_on s (resolved.Called id instance) (Some how) owes = callee_handed s how id instance (owes id instance refl) (callee_of c s.operand) refl
  view_handed_on s _ (Some how) owes = tt

  jump_handed : (how : JumpOperation) (n target : ℕ) → HandsTypesOn types blocks own (jump_instr how n target)
  jump_handed jump.Jl n target = tt
  jump_handed _ n target = tt

  statement_handed : (body : List Statement) (n : ℕ) (s : Statement)
      → ((id : BlockId) (instance : Option ℕ) → resolved_operand c s ≡ Some (resolved.Called id instance) → CallOwesTypes types blocks c s id)
      → HandsTypesOn types blocks own (instruction c body n s)
  unfolding instruction
  statement_handed body n s owes = by (jump_operation_of s.code)
    where
      at : (o : Option ResolvedOperand) → resolved_operand c s ≡ o → HandsTypesOn types blocks own (resolved_instr c s o)
      at None e = tt
      at (Some v) e = view_handed_on s v (call_operation_of s.code) (λ id instance same. owes id instance (e ∙ ap Some same))

      by : (o : Option JumpOperation) → HandsTypesOn types blocks own (instr_by c body n s o)
      by None = at (resolved_operand c s) refl
      by (Some how) = jump_handed how n (target_of body s.operand)

pub statements_handed_on : AreStatementsHandedOn
statements_handed_on types blocks c own body n s own_seen owes = statement_handed types blocks c own own_seen body n s owes
