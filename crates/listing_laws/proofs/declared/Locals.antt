-- The direct operands of a listed block lie within its local data.
use Rattle.std.proofs.Common.{◌≡◌, ℕ, suc, ◌+◌, ◌≤◌, Bool, true, false, max, List, [], ◌∷◌, ◌++◌, length, Option, Some, None, refl, arith}
use Rattle.std.specs.Prelude.{◌==◌, ◌||◌, if◌then◌else◌, nat_lt, slice_get}
use Rattle.std.specs.List.{AllByRecursion, flat_map}
use Rattle.std.proofs.lemmas.Bool.{ltb-false}
use Rattle.plc_base.proofs.ListLemmas.{all_append}
use Rattle.plc_base.specs.Widths.{byte_count}
use Rattle.plc_base.specs.declared.places.Area.{Area}
use Rattle.plc_base.specs.declared.places.Area.TheVariants as area
use Rattle.plc_base.specs.declared.places.Width.{Width}
use Rattle.flat_code.specs.Kinds.{timer_kind}
use Rattle.flat_code.specs.Blocks.{Environment, at_offset, block_faults, faults_over, is_bad_actual, is_bad_place, is_odd_bit, is_stray_pass, lacks_width, op_faults, operand_fault, seven_if}
use Rattle.flat_code.specs.Operations.{operation_of}
use Rattle.flat_code.specs.Ops.{OpData}
use Rattle.flat_code.specs.Codes.{size_of_op}
use Rattle.flat_code.specs.PlacedOps.{PlacedOp, StatementStart, before_next, brackets_after, ops_placed, starts_of_statements, zones_behind_op}
use Rattle.flat_code.specs.declared.image_fields.OpenBracket.{OpenBracket}
use Rattle.flat_code.specs.Programs.{CodeBlock}
use Rattle.flat_code.specs.declared.operands.Operand.TheVariants as flat
use Rattle.flat_code.specs.declared.operands.Operand.{Operand as FlatOperand}
use Rattle.flat_code.specs.declared.operands.Passed.TheVariants as passed
use Rattle.flat_code.specs.declared.operands.Passed.{Passed}
use Rattle.flat_code.specs.declared.operations.AddConstant.TheVariants as add_constant
use Rattle.flat_code.specs.declared.operations.Logic.TheVariants as logic
use Rattle.flat_code.specs.declared.operations.Operation.TheVariants as operation
use Rattle.flat_code.specs.declared.operations.Operation.{Operation}
use Rattle.flat_code.specs.declared.operations.PointerOperation.TheVariants as pointers
use Rattle.stl_ast.specs.declared.operands.Operand.TheVariants as operand
use Rattle.stl_ast.specs.declared.statements.Actual.{Actual}
use Rattle.stl_ast.specs.declared.statements.Statement.{Statement}
use Rattle.block_layout.specs.Lengths.{farthest_actual_end, farthest_operand_end, is_local_data_letter, local_end}
use Rattle.stl_types.specs.declared.parameters.Formal.{Formal}
use Rattle.stl_list.specs.Actuals.{actual_for, actual_here, actuals_by, is_written, passed_operand}
use Rattle.stl_list.specs.Constants.{instruction_constant, pointer_constant}
use Rattle.stl_list.specs.JoinedParameters.{called_id}
use Rattle.stl_list.specs.Lines.{line_of_statement}
use Rattle.stl_list.specs.Operands.{implied_operand, letters_for_area, block_opened_by_ops, operand_by, plain_operand, timer_or_counter, operation_writes_operand}
use Rattle.stl_list.specs.Runs.{StatementOps, runs, runs_from}
use Rattle.stl_list.specs.Signatures.{Signature, called_formals}
use Rattle.stl_list.specs.Statements.{ListingContext, body_of, label_at, label_of_end, listed_statement, statement_at, statements_from, listing_context}
use Rattle.block_layout.proofs.CommonLemmas.{none_left, none_right, or_second}
use Rattle.listing_laws.proofs.NameLemmas.{either_way}

-- ---- ops

-- a place, if it is one in the local data, ends within so many bytes
abbrev NearPlace : (most : ℕ) → Area → Width → (byte : ℕ) → Type 0
NearPlace most area.L w byte = byte + byte_count w ≤ most
NearPlace most a w byte = Unit {0}

abbrev NearPassed : (most : ℕ) → Passed → Type 0
NearPassed most (passed.Direct a w byte bit) = NearPlace most a w byte
NearPassed most (passed.InBlock number a w byte bit) = NearPlace most a w byte
NearPassed most _ = Unit {0}

abbrev NearOperand : (most : ℕ) → FlatOperand → Type 0
NearOperand most (flat.Direct a w byte bit) = NearPlace most a w byte
NearOperand most (flat.Pass index p) = NearPassed most p
NearOperand most _ = Unit {0}

abbrev NearOp : (most : ℕ) → OpData → Type 0
NearOp most op = NearOperand most op.operand

no_fault : (at : ℕ) (fault : Option ℕ) → at_offset at fault ≡ [] → fault ≡ None
no_fault at None e = refl
no_fault at (Some code) e = absurd cc

no_seven : (b : Bool) → seven_if b ≡ None → b ≡ false
no_seven true e = absurd cc
no_seven false e = refl

place_near : (around : Environment) (a : Area) (w : Width) (byte bit : ℕ) → is_bad_place around a w byte bit ≡ false → NearPlace around.local_len a w byte
place_near around area.L w byte bit e = ltb-false around.local_len (byte + byte_count w) (or_second (is_odd_bit w bit) (nat_lt around.local_len (byte + byte_count w)) e)
place_near around area.I w byte bit e = tt
place_near around area.Q w byte bit e = tt
place_near around area.M w byte bit e = tt
place_near around area.Db w byte bit e = tt
place_near around area.Di w byte bit e = tt
place_near around area.P w byte bit e = tt

actual_near : (around : Environment) (p : Passed) → is_bad_actual around p ≡ false → NearPassed around.local_len p
actual_near around (passed.Literal value) e = tt
actual_near around (passed.Direct a w byte bit) e = place_near around a w byte bit e
actual_near around (passed.Parameter index w) e = tt
actual_near around (passed.InBlock number area.Db w byte bit) e = tt
actual_near around (passed.InBlock number area.L w byte bit) e = absurd cc
actual_near around (passed.InBlock number area.I w byte bit) e = tt
actual_near around (passed.InBlock number area.Q w byte bit) e = tt
actual_near around (passed.InBlock number area.M w byte bit) e = tt
actual_near around (passed.InBlock number area.Di w byte bit) e = tt
actual_near around (passed.InBlock number area.P w byte bit) e = tt

operand_near : (around : Environment) (ss : List StatementStart) (p : PlacedOp) (o : FlatOperand) → operand_fault around ss p o ≡ None → NearOperand around.local_len o
operand_near around ss p (flat.Direct a w byte bit) e =
    place_near around a w byte bit (or_second (lacks_width p.op w) (is_bad_place around a w byte bit) (no_seven (lacks_width p.op w || is_bad_place around a w byte bit) e))
operand_near around ss p (flat.Pass index actual) e =
    actual_near around actual (or_second (is_stray_pass p index) (is_bad_actual around actual) (no_seven (is_stray_pass p index || is_bad_actual around actual) e))
operand_near around ss p _ e = tt

ops_near : (around : Environment) (ss : List StatementStart) (at : ℕ) (brackets : List OpenBracket) (zones : List ℕ) (before ops : List OpData)
    → faults_over around ss 0 (ops_placed at brackets zones before ops) ≡ [] → AllByRecursion (NearOp around.local_len) ops
unfolding op_faults
ops_near around ss at brackets zones before [] e = tt
ops_near around ss at brackets zones before (op ∷ ops) e =
    let p : PlacedOp = record { at = at; brackets = brackets; zones = zones; before = before; op = op; rest = ops } in
    let behind = faults_over around ss 0 (ops_placed (at + size_of_op op) (brackets_after at op.code brackets) (zones_behind_op at op.code zones) (before_next op before) ops) in
    let here = none_left (op_faults around ss 0 p) behind e in
    let first = none_left _ _ (none_left _ _ (none_left _ _ (none_left _ _ here))) in (
      operand_near around ss p op.operand (no_fault (0 + at) (operand_fault around ss p op.operand) first),
      ops_near around ss (at + size_of_op op) (brackets_after at op.code brackets) (zones_behind_op at op.code zones) (before_next op before) ops (none_right (op_faults around ss 0 p) behind e),
    )

pub code_near : (around : Environment) (ops : List OpData) → block_faults around 0 ops ≡ [] → AllByRecursion (NearOp around.local_len) ops
unfolding block_faults
code_near around ops e = ops_near around (starts_of_statements ops) 0 [] [] [] ops (none_left _ _ (none_left _ _ e))

-- ---- operands of the listing

local_letters : (most : ℕ) (written : Bool) (a : Area) (w : Width) (byte : ℕ) → NearPlace most a w byte → (if is_local_data_letter (letters_for_area written a) then byte + byte_count w else 0) ≤ most
local_letters most written area.L w byte h = h
local_letters most written area.I w byte h = omega arith
local_letters most written area.Q w byte h = omega arith
local_letters most written area.M w byte h = omega arith
local_letters most written area.Db w byte h = omega arith
local_letters most written area.Di w byte h = omega arith
local_letters most true area.P w byte h = omega arith
local_letters most false area.P w byte h = omega arith

pointer_end : (most bits : ℕ) → local_end (pointer_constant bits) ≤ most
pointer_end most bits = omega arith

literal_end : (most : ℕ) (o : Operation) (bits : ℕ) → local_end (instruction_constant o bits) ≤ most
literal_end most operation.Load bits = omega arith
literal_end most (operation.Logic logic.Ad) bits = omega arith
literal_end most (operation.Logic logic.Od) bits = omega arith
literal_end most (operation.Logic logic.Xod) bits = omega arith
literal_end most (operation.Logic _) bits = omega arith
literal_end most (operation.Pointer which) bits = omega arith
literal_end most (operation.Add add_constant.Dword) bits = omega arith
literal_end most operation.LoadOpenBlock bits = omega arith
literal_end most _ bits = omega arith

implied_end : (most : ℕ) (o : Operation) → local_end (implied_operand o) ≤ most
implied_end most operation.LoadStatus = omega arith
implied_end most operation.TransferStatus = omega arith
implied_end most (operation.Pointer pointers.Lar1Ar2) = omega arith
implied_end most (operation.Pointer pointers.Tar1Ar2) = omega arith
implied_end most _ = omega arith

numbered_end : (most kind number : ℕ) → local_end (timer_or_counter kind number) ≤ most
numbered_end most kind number = either_way (λ o. local_end o ≤ most) (kind == timer_kind) (operand.Timer number) (operand.Counter number) (omega arith) (omega arith)

operand_end : (most : ℕ) (formals : List Formal) (starts : List ℕ) (opened : Option ℕ) (o : Operation) (v : FlatOperand) → NearOperand most v
    → local_end (operand_by formals starts opened o v) ≤ most
unfolding operand_by plain_operand
operand_end most formals starts opened o flat.Nothing h = implied_end most o
operand_end most formals starts opened o (flat.Literal value) h = literal_end most o value
operand_end most formals starts opened o (flat.Direct a w byte bit) h = local_letters most (operation_writes_operand o) a w byte h
operand_end most formals starts opened o (flat.Numbered kind number) h = numbered_end most kind number
operand_end most formals starts opened o _ h = omega arith

passed_end : (most : ℕ) (formals : List Formal) (f : Formal) (p : Passed) → NearPassed most p → local_end (passed_operand formals f p) ≤ most
passed_end most formals f (passed.Literal value) h = omega arith
passed_end most formals f (passed.Direct a w byte bit) h = local_letters most (is_written f.section) a w byte h
passed_end most formals f (passed.Parameter index w) h = omega arith
passed_end most formals f (passed.InBlock number a w byte bit) h = local_letters most (is_written f.section) a w byte h

-- ---- statements

both_below : (a b most : ℕ) → a ≤ most → b ≤ most → max a b ≤ most
both_below a b most h k = omega (arith, h, k)

actuals_append : (most : ℕ) (xs ys : List Actual) → farthest_actual_end xs ≤ most → farthest_actual_end ys ≤ most → farthest_actual_end (xs ++ ys) ≤ most
actuals_append most [] ys h k = k
actuals_append most (x ∷ xs) ys h k =
    let more = actuals_append most xs ys (omega (arith, h)) k in
    omega (arith, h, more)

for_end : (most line : ℕ) (formals : List Formal) (o : Option Formal) (p : Passed) → NearPassed most p → farthest_actual_end (actual_for line formals o p) ≤ most
for_end most line formals None p h = omega arith
for_end most line formals (Some f) p h = both_below (local_end (passed_operand formals f p)) 0 most (passed_end most formals f p h) (omega arith)

here_end : (most line : ℕ) (formals called : List Formal) (v : FlatOperand) → NearOperand most v → farthest_actual_end (actual_here line formals called v) ≤ most
here_end most line formals called (flat.Pass index p) h = for_end most line formals (slice_get called index) p h
here_end most line formals called _ h = omega arith

before_end : (most line : ℕ) (formals called : List Formal) (before : List OpData) → AllByRecursion (NearOp most) before
    → farthest_actual_end (flat_map (λ op. actual_here line formals called op.operand) before) ≤ most
before_end most line formals called [] h = omega arith
before_end most line formals called (op ∷ ops) (one, more) =
    actuals_append most (actual_here line formals called op.operand) (flat_map (λ op. actual_here line formals called op.operand) ops)
    (here_end most line formals called op.operand one) (before_end most line formals called ops more)

actuals_near : (most : ℕ) (ss : List Signature) (line : ℕ) (formals : List Formal) (before : List OpData) (v : FlatOperand) → AllByRecursion (NearOp most) before
    → farthest_actual_end (actuals_by ss line formals before v) ≤ most
unfolding actuals_by
actuals_near most ss line formals before (flat.Called kind number instance) h = before_end most line formals (called_formals ss (called_id kind number)) before h
actuals_near most ss line formals before _ h = omega arith

farthest_append : (most : ℕ) (xs ys : List Statement) → farthest_operand_end xs ≤ most → farthest_operand_end ys ≤ most → farthest_operand_end (xs ++ ys) ≤ most
farthest_append most [] ys h k = k
farthest_append most (x ∷ xs) ys h k =
    let more = farthest_append most xs ys (omega (arith, h)) k in
    omega (arith, h, more)

NearRun : (most : ℕ) → StatementOps → Type 0
NearRun most r = AllByRecursion (NearOp most) r.before × NearOp most r.op

statement_near : (most : ℕ) (s : ListingContext) (n : ℕ) (r : StatementOps) → NearRun most r → farthest_operand_end (listed_statement s n r ∷ []) ≤ most
unfolding NearRun
statement_near most s n r (before, op) =
    let a = operand_end most s.formals s.starts (block_opened_by_ops r.before) (operation_of r.op.code) r.op.operand op in
    let b = actuals_near most s.signatures (line_of_statement s.lines n) s.formals r.before r.op.operand before in
    omega (arith, a, b)

end_near : (most line : ℕ) (label : Option (List ℕ)) → farthest_operand_end (label_of_end line label) ≤ most
end_near most line None = omega arith
end_near most line (Some label) = omega arith

at_near : (most : ℕ) (s : ListingContext) (n : ℕ) (r : StatementOps) → NearRun most r → farthest_operand_end (statement_at s n r) ≤ most
unfolding statement_at
at_near most s n r h =
    either_way (λ l. farthest_operand_end l ≤ most) (suc n == length s.lines) (label_of_end (line_of_statement s.lines n) (label_at s.targets n)) (listed_statement s n r ∷ [])
    (end_near most (line_of_statement s.lines n) (label_at s.targets n)) (statement_near most s n r h)

from_near : (most : ℕ) (s : ListingContext) (n : ℕ) (rs : List StatementOps) → AllByRecursion (NearRun most) rs → farthest_operand_end (statements_from s n rs) ≤ most
from_near most s n [] h = omega arith
from_near most s n (r ∷ rs) (one, more) =
    farthest_append most (statement_at s n r) (statements_from s (suc n) rs) (at_near most s n r one) (from_near most s (suc n) rs more)

runs_near : (most : ℕ) (before ops : List OpData) → AllByRecursion (NearOp most) before → AllByRecursion (NearOp most) ops → AllByRecursion (NearRun most) (runs_from before ops)
unfolding NearRun
runs_near most before [] h k = tt
runs_near most before (op ∷ ops) h (one, more) =
    either_way (λ rs. AllByRecursion (NearRun most) rs) op.last (record { before = before; op = op } ∷ runs_from [] ops) (runs_from (before ++ op ∷ []) ops)
    ((h, one), runs_near most [] ops tt more) (runs_near most (before ++ op ∷ []) ops (all_append (NearOp most) before (op ∷ []) h (one, tt)) more)

-- of a block whose ops have no fault
pub body_near : (around : Environment) (ss : List Signature) (lines : List ℕ) (b : CodeBlock) → block_faults around 0 b.code ≡ [] → farthest_operand_end (body_of ss lines b) ≤ around.local_len
unfolding body_of runs
body_near around ss lines b e =
    from_near around.local_len (listing_context ss lines b) 0 (runs b.code) (runs_near around.local_len [] b.code tt (code_near around b.code e))
