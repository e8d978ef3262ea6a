-- The statements of a listing are printable.
use Rattle.std.proofs.Common.{◌≡◌, ℕ, suc, Bool, true, false, List, [], ◌∷◌, ◌++◌, length, Option, Some, None}
use Rattle.std.specs.Prelude.{MatchOption, ◌==◌, slice_get, unwrap_or}
use Rattle.std.specs.List.{AllByRecursion}
use Rattle.std.proofs.lemmas.Bool.{and_parts}
use Rattle.plc_base.proofs.ListLemmas.{all_append}
use Rattle.flat_code.specs.Forms.{passed_coding, actual_fits, payload_fits}
use Rattle.flat_code.specs.Operations.{operation_of}
use Rattle.flat_code.specs.Ops.{OpData}
use Rattle.flat_code.specs.Programs.{CodeBlock}
use Rattle.flat_code.specs.declared.operands.Operand.TheVariants as flat
use Rattle.flat_code.specs.declared.operands.Operand.{Operand as FlatOperand}
use Rattle.flat_code.specs.declared.operands.Passed.{Passed}
use Rattle.stl_types.specs.declared.parameters.Formal.{Formal}
use Rattle.stl_list.specs.Actuals.{actual_for, actual_here, actuals_by}
use Rattle.stl_list.specs.JoinedParameters.{called_id}
use Rattle.stl_list.specs.Labels.{label_of_number}
use Rattle.stl_list.specs.Lines.{line_of_statement}
use Rattle.stl_list.specs.Operands.{block_opened_by_ops}
use Rattle.stl_list.specs.Runs.{StatementOps, runs, runs_from}
use Rattle.stl_list.specs.Signatures.{Signature, called_formals}
use Rattle.stl_list.specs.Statements.{ListingContext, body_of, label_at, label_of_end, listed_statement, statement_at, statements_from, listing_context}
use Rattle.print_laws.specs.Standing.{IsNonTitleName, IsPrintableActual, IsPrintableLabel, IsPrintableStatement}
use Rattle.listing_laws.proofs.NameLemmas.{AreFormals, AreSignatures, all_joined, block_named, called_named, either_way, label_is}
use Rattle.listing_laws.proofs.OperandLemmas.{named_at, opened_is, operand_is, passed_is}
use Rattle.listing_laws.proofs.RangeLemmas.{IsListedOp}

-- ---- runs

-- the ops of a statement
abbrev IsListedRun : StatementOps → Type 0
IsListedRun r = AllByRecursion IsListedOp r.before × IsListedOp r.op

runs_listed : (before ops : List OpData) → AllByRecursion IsListedOp before → AllByRecursion IsListedOp ops → AllByRecursion IsListedRun (runs_from before ops)
runs_listed before [] h k = tt
runs_listed before (op ∷ ops) h (one, more) =
    either_way (λ rs. AllByRecursion IsListedRun rs) op.last (record { before = before; op = op } ∷ runs_from [] ops) (runs_from (before ++ op ∷ []) ops)
    ((h, one), runs_listed [] ops tt more) (runs_listed (before ++ op ∷ []) ops (all_append IsListedOp before (op ∷ []) h (one, tt)) more)

-- ---- actual parameters

for_is : (line : ℕ) (formals : List Formal) (o : Option Formal) (p : Passed) → AreFormals formals → MatchOption o (Unit {0}) (λ f. IsNonTitleName f.name) → actual_fits p ≡ true → AllByRecursion IsPrintableActual (actual_for line formals o p)
for_is line formals None p named f e = tt
for_is line formals (Some f) p named name e = ((name, passed_is formals f p named e), tt)

here_is : (line : ℕ) (formals called : List Formal) (o : FlatOperand) → AreFormals formals → AreFormals called → payload_fits o ≡ true → AllByRecursion IsPrintableActual (actual_here line formals called o)
unfolding passed_coding
here_is line formals called (flat.Pass index p) named others e = for_is line formals (slice_get called index) p named (named_at called index others) (and_parts _ (actual_fits p) e).1
here_is line formals called _ named others e = tt

actuals_are : (ss : List Signature) (line : ℕ) (formals : List Formal) (before : List OpData) (o : FlatOperand) → AreSignatures ss → AreFormals formals → AllByRecursion IsListedOp before
    → AllByRecursion IsPrintableActual (actuals_by ss line formals before o)
unfolding actuals_by
actuals_are ss line formals before (flat.Called kind number instance) known named h =
    let called = called_formals ss (called_id kind number) in
    all_joined IsListedOp IsPrintableActual (λ op. actual_here line formals called op.operand) before
    (λ op is. here_is line formals called op.operand named (called_named ss (called_id kind number) known) is.0) h
actuals_are ss line formals before _ known named h = tt

-- ---- statements

label_printable : (targets : List Bool) (n : ℕ) → IsPrintableLabel (label_at targets n)
label_printable targets n = either_way IsPrintableLabel (unwrap_or (slice_get targets n) false) (Some (label_of_number n)) None (label_is n) tt

end_printable : (line : ℕ) (label : Option (List ℕ)) → IsPrintableLabel label → AllByRecursion IsPrintableStatement (label_of_end line label)
end_printable line None h = tt
end_printable line (Some label) h = ((h, tt, tt), tt)

statement_printable : (s : ListingContext) (n : ℕ) (r : StatementOps) → AreSignatures s.signatures → AreFormals s.formals → IsListedRun r → IsPrintableStatement (listed_statement s n r)
statement_printable s n r known named (before, op) = (
  label_printable s.targets n,
  operand_is s.formals s.starts (block_opened_by_ops r.before) (operation_of r.op.code) r.op.operand named (opened_is r.before before) op.0 op.1,
  actuals_are s.signatures (line_of_statement s.lines n) s.formals r.before r.op.operand known named before,
)

at_printable : (s : ListingContext) (n : ℕ) (r : StatementOps) → AreSignatures s.signatures → AreFormals s.formals → IsListedRun r → AllByRecursion IsPrintableStatement (statement_at s n r)
unfolding statement_at
at_printable s n r known named h =
    either_way (λ l. AllByRecursion IsPrintableStatement l) (suc n == length s.lines) (label_of_end (line_of_statement s.lines n) (label_at s.targets n)) (listed_statement s n r ∷ [])
    (end_printable (line_of_statement s.lines n) (label_at s.targets n) (label_printable s.targets n)) (statement_printable s n r known named h, tt)

from_printable : (s : ListingContext) (n : ℕ) (rs : List StatementOps) → AreSignatures s.signatures → AreFormals s.formals → AllByRecursion IsListedRun rs → AllByRecursion IsPrintableStatement (statements_from s n rs)
from_printable s n [] known named h = tt
from_printable s n (r ∷ rs) known named (one, more) =
    all_append IsPrintableStatement (statement_at s n r) (statements_from s (suc n) rs) (at_printable s n r known named one) (from_printable s (suc n) rs known named more)

pub body_printable : (ss : List Signature) (lines : List ℕ) (b : CodeBlock) → AreSignatures ss → AllByRecursion IsListedOp b.code → AllByRecursion IsPrintableStatement (body_of ss lines b)
unfolding body_of runs
body_printable ss lines b known h =
    from_printable (listing_context ss lines b) 0 (runs b.code) known (block_named ss b.id known) (runs_listed [] b.code tt h)
