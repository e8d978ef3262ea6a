-- What a statement of a source passes, as an image has it and as the listing names it.
use Rattle.std.proofs.Common.{◌≡◌, ℕ, zero, suc, ◌<◌, ◌≤◌, ◌+◌, Bool, true, false, ◌||◌, List, [], ◌∷◌, ◌++◌, length, Option, Some, None, refl, sym, subst, arith, if◌then◌else◌}
use Rattle.std.specs.Prelude.{◌==◌}
use Rattle.std.specs.List.{AllByRecursion, list_any}
use Rattle.std.specs.Option.{IfSome}
use Rattle.std.proofs.lemmas.Bool.{and_parts, ltb-true}
use Rattle.plc_base.proofs.ListLemmas.{all_append}
use Rattle.flat_code.specs.Blocks.{Environment, CalleeSignature, are_all_passed, is_above, is_bad_actual, is_passed, misfits_callee}
use Rattle.flat_code.specs.Forms.{passed_coding as actual_coding, actual_fits, payload_fits}
use Rattle.flat_code.specs.Instr.{Passing}
use Rattle.flat_code.specs.OpCodes.{op_code_of}
use Rattle.flat_code.specs.Ops.{is_op}
use Rattle.flat_code.specs.declared.image_fields.ParameterRecord.{ParameterRecord}
use Rattle.flat_code.specs.declared.operands.Operand.TheVariants as flat
use Rattle.flat_code.specs.declared.operands.Passed.{Passed}
use Rattle.flat_code.specs.declared.operands.Passed.TheVariants as passed
use Rattle.flat_code.specs.declared.operations.CallOperation.{CallOperation}
use Rattle.flat_code.specs.declared.operations.Operation.TheVariants as operation
use Rattle.plc_base.specs.declared.blocks.BlockId.{BlockId}
use Rattle.plc_base.specs.declared.places.Place.{Place}
use Rattle.plc_base.specs.declared.places.Width.{Width}
use Rattle.stl_ast.specs.declared.operands.Operand.{Operand}
use Rattle.stl_ast.specs.declared.statements.Actual.{Actual}
use Rattle.stl_types.specs.Context.{Context}
use Rattle.stl_types.specs.Resolution.{resolution_of}
use Rattle.stl_types.specs.declared.parameters.Formal.{Formal}
use Rattle.stl_types.specs.declared.resolved_operands.Resolution.{Resolution}
use Rattle.stl_types.specs.declared.resolved_operands.Resolution.TheVariants.{Resolved, Unknown, Unjudged}
use Rattle.stl_types.specs.declared.resolved_operands.ResolvedOperand.{ResolvedOperand}
use Rattle.stl_types.specs.declared.resolved_operands.ResolvedOperand.TheVariants as resolved
use Rattle.flat_code.specs.Instr.{Calls}
use Rattle.stl_codegen.specs.EmittedOps.{call_op, ops_of, pass_ops}
use Rattle.stl_codegen.specs.Operands.{is_in_named_block, block_opened_by_place}
use Rattle.stl_codegen.specs.PassedParameters.{passed_actual, passed_place, passed_resolution, passed_by_operand, passings_from, actual_of_formal, with_index}
use Rattle.sem_kept.specs.Operands.{ArePassed}
use Rattle.sem_kept.proofs.accepted.CodedOps.{IsGoodPart, IsGoodStatement}
use Rattle.sem_kept.proofs.accepted.CodedViews.{found_holds}
use Rattle.listing_laws.specs.Instructions.{HasAgain, IsRightOperand}
use Rattle.listing_laws.specs.Operands.{IsOpenedAgain, StandsAgain}
use Rattle.listing_laws.specs.Passings.{AreAllPassed, AreRising}
use Rattle.listing_laws.proofs.ruled.Views.{stands}

-- ---- data blocks that are named

-- the data block of what is passed stands in the listing
abbrev pub IsStored : Context → Passed → Type 0
IsStored listed (passed.InBlock number a w byte bit) = IsOpenedAgain listed (Some number)
IsStored listed _ = Unit {0}

abbrev pub AreStored : Context → List Passing → Type 0
AreStored listed ps = AllByRecursion (λ (p : Passing). IsStored listed p.actual) ps

place_stored : (listed : Context) (place : Place) (w : Width) → IsOpenedAgain listed (block_opened_by_place place) → IsStored listed (passed_place place w)
place_stored listed place w h = by (is_in_named_block place) h
  where
    by : (t : Bool) → IsOpenedAgain listed (if t then Some place.number else None)
        → IsStored listed (if t then passed.InBlock place.number place.area w place.byte place.bit else passed.Direct place.area w place.byte place.bit)
    by true k = k
    by false k = tt

module _ (c listed : Context) (formals : List Formal) (has : HasAgain c listed formals) where
  view_stored : (i : ℕ) (o : Operand) (v : ResolvedOperand) → StandsAgain listed formals v → AreStored listed (with_index i (passed_by_operand o v))
  view_stored i o (resolved.Direct place w side declared) h = (place_stored listed place w h, tt)
  view_stored i o (resolved.Parameter index section declared) h = (tt, tt)
  view_stored i o resolved.Constant h = (tt, tt)
  view_stored i o _ h = tt

  seen_stored : (i : ℕ) (o : Operand) → IsRightOperand c.symbols o → (r : Resolution) → resolution_of c o ≡ r → AreStored listed (with_index i (passed_resolution o r))
  seen_stored i o right (Resolved v) e = view_stored i o v (stands c listed formals o v has right e).0
  seen_stored i o right Unknown e = tt
  seen_stored i o right Unjudged e = tt

  pub from_stored : (actuals : List Actual) → AllByRecursion (λ (a : Actual). IsRightOperand c.symbols a.value) actuals → (i : ℕ) (fs : List Formal) → AreStored listed (passings_from c actuals i fs)
  from_stored actuals right i [] = tt
  from_stored actuals right i (f ∷ fs) =
      all_append (λ (p : Passing). IsStored listed p.actual) (passed_actual c i (actual_of_formal actuals f)) (passings_from c actuals (suc i) fs)
      (by (actual_of_formal actuals f) (found_holds (λ (a : Actual). IsRightOperand c.symbols a.value) _ actuals right)) (from_stored actuals right (suc i) fs)
    where
      by : (o : Option Actual) → IfSome o (λ (a : Actual). IsRightOperand c.symbols a.value) → AreStored listed (passed_actual c i o)
      by None h = tt
      by (Some a) h = seen_stored i a.value h (resolution_of c a.value) refl

-- ---- as an image has them

but_last : {A : Type 0} (xs ys : List A) (x y : A) → xs ++ x ∷ [] ≡ ys ++ y ∷ [] → xs ≡ ys
but_last [] [] x y e = refl
but_last [] (z ∷ []) x y e = absurd cc
but_last [] (z ∷ w ∷ ys) x y e = absurd cc
but_last (z ∷ []) [] x y e = absurd cc
but_last (z ∷ w ∷ xs) [] x y e = absurd cc
but_last (z ∷ xs) (w ∷ ys) x y e =
    let first : z ≡ w = cc in
    let rest : xs ++ x ∷ [] ≡ ys ++ y ∷ [] = cc in
    let more = but_last xs ys x y rest in
    λ i. first i ∷ more i

op_fits : (index : ℕ) (p : Passed) → is_op (op_code_of operation.Pass) (flat.Pass index p) ≡ true → actual_fits p ≡ true
unfolding is_op actual_coding
op_fits index p e = (and_parts _ (actual_fits p) (and_parts _ (payload_fits (flat.Pass index p)) e).1).1

parts_fit : (ps : List Passing) → AllByRecursion IsGoodPart (pass_ops ps) → AllByRecursion (λ (p : Passing). actual_fits p.actual ≡ true) ps
parts_fit [] h = tt
parts_fit (p ∷ ps) h = (op_fits p.index p.actual (h.0.good (λ n. 0) (λ n. omega arith)), parts_fit ps h.1)

pub passings_fit : (how : CallOperation) (id : BlockId) (instance : Option ℕ) (ps : List Passing) → IsGoodStatement (ops_of (Calls how id instance ps)) → AllByRecursion (λ (p : Passing). actual_fits p.actual ≡ true) ps
unfolding ops_of
passings_fit how id instance ps h =
    let same : pass_ops ps ≡ h.front = but_last (pass_ops ps) h.front (call_op how id instance) h.final h.whole in
    parts_fit ps (subst (AllByRecursion IsGoodPart) (sym same) h.parts)

-- ---- what has no fault

pub record IsFitting (a : Environment) (s : Option CalleeSignature) (p : Passing) : Type 0 where
  pub right : is_bad_actual a p.actual ≡ false
  pub fits : misfits_callee a s p.index p.actual ≡ false

pub passed_all : (a : Environment) (s : Option CalleeSignature) (before : Option ℕ) (ps : List Passing) → ArePassed a s before ps → AllByRecursion (IsFitting a s) ps
passed_all a s before [] h = tt
passed_all a s before (p ∷ ps) h = (record { right = h.1; fits = h.2 }, passed_all a s (Some p.index) ps h.3)

abbrev IsBehind : Option ℕ → ℕ → Type 0
IsBehind None from = from ≡ 0
IsBehind (Some n) from = from ≡ suc n

above_from : (before : Option ℕ) (from index : ℕ) → IsBehind before from → is_above index before ≡ true → from ≤ index
above_from None from index h e = omega (arith, h)
above_from (Some n) from index h e = let less = ltb-true n index e in omega (arith, h, less)

pub passings_rise : (a : Environment) (s : Option CalleeSignature) (before : Option ℕ) (from : ℕ) (ps : List Passing) → IsBehind before from → ArePassed a s before ps → AreRising from ps
passings_rise a s before from [] h k = tt
passings_rise a s before from (p ∷ ps) h k = (above_from before from p.index h k.0, passings_rise a s (Some p.index) (suc p.index) ps refl k.3)

-- ---- each is passed

passed_one : (index : ℕ) (ps : List Passing) → is_passed index (pass_ops ps) ≡ true → list_any (λ (p : Passing). p.index == index) ps ≡ true
passed_one index [] e = absurd cc
passed_one index (p ∷ ps) e = by (p.index == index) e (passed_one index ps)
  where
    by : (t : Bool) → (t || is_passed index (pass_ops ps)) ≡ true → (is_passed index (pass_ops ps) ≡ true → list_any (λ (p : Passing). p.index == index) ps ≡ true)
        → (t || list_any (λ (p : Passing). p.index == index) ps) ≡ true
    by true k more = refl
    by false k more = more k

passed_from : (first : ℕ) (params : List ParameterRecord) (ps : List Passing) → are_all_passed first params (pass_ops ps) ≡ true → (i : ℕ) → i < length params
    → list_any (λ (p : Passing). p.index == first + i) ps ≡ true
passed_from first [] ps e i low = absurd (omega (arith, low))
passed_from first (q ∷ params) ps e zero low =
    let here : first ≡ first + 0 = omega arith in
    subst (λ n. list_any (λ (p : Passing). p.index == n) ps ≡ true) here (passed_one first ps (and_parts (is_passed first (pass_ops ps)) (are_all_passed (suc first) params (pass_ops ps)) e).0)
passed_from first (q ∷ params) ps e (suc i) low =
    let further : suc first + i ≡ first + suc i = omega arith in
    subst (λ n. list_any (λ (p : Passing). p.index == n) ps ≡ true) further
    (passed_from (suc first) params ps (and_parts (is_passed first (pass_ops ps)) (are_all_passed (suc first) params (pass_ops ps)) e).1 i (omega (arith, low)))

pub all_passed : (called : List Formal) (params : List ParameterRecord) (ps : List Passing) → length called ≡ length params → are_all_passed 0 params (pass_ops ps) ≡ true → AreAllPassed called ps
all_passed called params ps size e i low =
    let here : 0 + i ≡ i = omega arith in
    subst (λ n. list_any (λ (p : Passing). p.index == n) ps ≡ true) here (passed_from 0 params ps e i (omega (arith, low, size)))
