-- In a program that verifies both ends of each passing have one width.
use Rattle.std.proofs.Common.{◌≡◌, ℕ, zero, suc, ◌+◌, Bool, true, false, not, List, [], ◌∷◌, ◌++◌, append_assoc, length, length-append, map, Option, Some, None, refl, sym, ap, subst, ◌∙◌, arith}
use Rattle.std.proofs.lemmas.Option.{same_Some}
use Rattle.std.specs.Prelude.{◌==◌, ◌&&◌, ◌||◌, if◌then◌else◌, nat_eq, slice_get, unwrap_or}
use Rattle.std.specs.List.{AllByRecursion}
use Rattle.std.specs.Option.{option_map}
use Rattle.std.proofs.lemmas.Bool.{and_parts, eqb-true}
use Rattle.std.proofs.lemmas.Bool.Decides.{nat_tests}
use Rattle.std.proofs.lemmas.List.{length-map}
use Rattle.plc_base.proofs.ListLemmas.{all_append}
use Rattle.plc_base.specs.Kinds.{is_code, is_same_block, is_same_kind, is_system_function, kind_number}
use Rattle.plc_base.specs.Widths.{width_number}
use Rattle.plc_base.specs.declared.blocks.BlockId.{BlockId}
use Rattle.plc_base.specs.declared.blocks.BlockKind.{BlockKind}
use Rattle.plc_base.specs.declared.blocks.BlockKind.TheVariants as kinds
use Rattle.plc_base.specs.declared.places.Width.{Width}
use Rattle.plc_base.specs.declared.places.Width.TheVariants as width
use Rattle.flat_code.specs.Blocks.{Environment, CalleeSignature, at_offset, block_faults, block_with, call_fault, call_fault_among, callee_among, faults_over, is_bad_actual, is_bad_call, is_stray_pass, lacks_own_parameter, misfits_call, misfits_callee, misfits_index, op_faults, operand_fault, parameter_meant, seven_if, signature_of, callee_of_block, callee_of_system, system_params}
use Rattle.flat_code.specs.Codes.{size_of_op}
use Rattle.flat_code.specs.Image.{record_of_block, record_of_param}
use Rattle.flat_code.specs.Loading.{AreVerified, Verifies, environment_of_block, lens_of}
use Rattle.flat_code.specs.OpCodes.{op_code_of}
use Rattle.flat_code.specs.Ops.{OpData}
use Rattle.flat_code.specs.PlacedOps.{PlacedOp, StatementStart, before_next, ending_op, last_op, brackets_after, ops_placed, starts_of_statements, zones_behind_op}
use Rattle.flat_code.specs.Programs.{CodeBlock, Program}
use Rattle.flat_code.specs.declared.image_fields.OpenBracket.{OpenBracket}
use Rattle.flat_code.specs.declared.image_fields.ParameterRecord.{ParameterRecord}
use Rattle.flat_code.specs.declared.operands.Operand.TheVariants as flat
use Rattle.flat_code.specs.declared.operands.Operand.{Operand as FlatOperand}
use Rattle.flat_code.specs.declared.operands.Passed.TheVariants as passed
use Rattle.flat_code.specs.declared.operations.CallOperation.TheVariants as calls
use Rattle.flat_code.specs.declared.operations.Operation.TheVariants as operation
use Rattle.flat_code.specs.declared.programs.Param.{Param}
use Rattle.stl_types.specs.Parameters.{system_formals}
use Rattle.stl_types.specs.declared.parameters.Formal.{Formal}
use Rattle.block_layout.specs.Offsets.{width_of}
use Rattle.stl_list.specs.JoinedParameters.{block_links, call_links, called_id, called_kind, first_of, joined_link, joined_links, links, links_from, links_of_runs, passed_parameter, run_links, system_link, system_links, system_parameters, typed_link}
use Rattle.stl_list.specs.Runs.{StatementOps, runs, runs_from}
use Rattle.block_layout.proofs.CommonLemmas.{none_left, none_right, or_first, or_second}
use Rattle.sem_kept.proofs.accepted.OperandsFormals.{Matched, system_matched}
use Rattle.listing_laws.proofs.declared.Chains.{IsGoodLink, widths}

-- ---- what the check says of an op and of the one that ends its statement

-- a parameter is passed that is there, and fits what it is passed for
abbrev IsPassedRight : Environment → (last : FlatOperand) → FlatOperand → Type 0
IsPassedRight a last (flat.Pass index (passed.Parameter own w)) =
    (lacks_own_parameter (parameter_meant a own) w ≡ false) × (misfits_call a last index (passed.Parameter own w) ≡ false)
IsPassedRight a last _ = Unit {0}

-- a block that is called is there
abbrev IsCalledRight : Environment → FlatOperand → Type 0
IsCalledRight a (flat.Called kind number instance) = (s : CalleeSignature) × (callee_among a.blocks kind number ≡ Some s)
IsCalledRight a _ = Unit {0}

abbrev AreRight : Environment → List OpData → Type 0
AreRight a [] = Unit {0}
AreRight a (op ∷ ops) = (IsPassedRight a (ending_op op ops).operand op.operand × IsCalledRight a op.operand) × AreRight a ops

no_fault : (at : ℕ) (fault : Option ℕ) → at_offset at fault ≡ [] → fault ≡ None
no_fault at None e = refl
no_fault at (Some code) e = absurd cc

no_seven : (b : Bool) → seven_if b ≡ None → b ≡ false
no_seven true e = absurd cc
no_seven false e = refl

not_false : (b : Bool) → not b ≡ false → b ≡ true
not_false true e = refl
not_false false e = absurd cc

second_false : (a b : Bool) → a ≡ true → (a && b) ≡ false → b ≡ false
second_false true b e h = h
second_false false b e h = absurd cc

passed_right : (a : Environment) (ss : List StatementStart) (lens : List (ℕ × ℕ)) (p : PlacedOp) (o : FlatOperand) → a.data_lens ≡ Some lens → operand_fault a ss p o ≡ None
    → call_fault_among a lens p o ≡ None → IsPassedRight a (last_op p).operand o
passed_right a ss lens p (flat.Pass index (passed.Parameter own w)) e h k =
    let bad = no_seven (is_stray_pass p index || is_bad_actual a (passed.Parameter own w)) h in
    let stray = or_first (is_stray_pass p index) (is_bad_actual a (passed.Parameter own w)) bad in
    let call = not_false ((last_op p).code == op_code_of (operation.Call calls.Call)) (or_first (not ((last_op p).code == op_code_of (operation.Call calls.Call))) _ stray) in (
      or_second (is_stray_pass p index) (is_bad_actual a (passed.Parameter own w)) bad,
      second_false ((last_op p).code == op_code_of (operation.Call calls.Call)) (misfits_call a (last_op p).operand index (passed.Parameter own w)) call (no_seven _ k),
    )
passed_right a ss lens p (flat.Pass index (passed.Literal value)) e h k = tt
passed_right a ss lens p (flat.Pass index (passed.Direct x w byte bit)) e h k = tt
passed_right a ss lens p (flat.Pass index (passed.InBlock number x w byte bit)) e h k = tt
passed_right a ss lens p _ e h k = tt

called_right : (a : Environment) (lens : List (ℕ × ℕ)) (p : PlacedOp) (o : FlatOperand) → call_fault_among a lens p o ≡ None → IsCalledRight a o
called_right a lens p (flat.Called kind number instance) k = by (callee_among a.blocks kind number) refl (no_seven _ k)
  where
    by : (s : Option CalleeSignature) → callee_among a.blocks kind number ≡ s → is_bad_call lens s instance p.before ≡ false → (s : CalleeSignature) × (callee_among a.blocks kind number ≡ Some s)
    by None e h = absurd cc
    by (Some s) e h = (s, e)
called_right a lens p _ k = tt

ops_right : (a : Environment) (lens : List (ℕ × ℕ)) (ss : List StatementStart) (at : ℕ) (brackets : List OpenBracket) (zones : List ℕ) (before ops : List OpData) → a.data_lens ≡ Some lens
    → faults_over a ss 0 (ops_placed at brackets zones before ops) ≡ [] → AreRight a ops
unfolding op_faults
ops_right a lens ss at brackets zones before [] known e = tt
ops_right a lens ss at brackets zones before (op ∷ ops) known e =
    let p : PlacedOp = record { at = at; brackets = brackets; zones = zones; before = before; op = op; rest = ops } in
    let behind = faults_over a ss 0 (ops_placed (at + size_of_op op) (brackets_after at op.code brackets) (zones_behind_op at op.code zones) (before_next op before) ops) in
    let here = none_left (op_faults a ss 0 p) behind e in
    let two = none_left _ _ (none_left _ _ (none_left _ _ here)) in
    let first = no_fault (0 + at) (operand_fault a ss p op.operand) (none_left _ _ two) in
    let second = no_fault (0 + at) (call_fault a a.data_lens p) (none_right _ _ two) in
    let among : call_fault_among a lens p op.operand ≡ None = sym (ap (λ z. call_fault a z p) known) ∙ second in (
      (passed_right a ss lens p op.operand known first among, called_right a lens p op.operand among),
      ops_right a lens ss (at + size_of_op op) (brackets_after at op.code brackets) (zones_behind_op at op.code zones) (before_next op before) ops known (none_right (op_faults a ss 0 p) behind e),
    )

-- ---- statements

-- the ops of a statement
abbrev IsRightRun : Environment → StatementOps → Type 0
IsRightRun a r = AllByRecursion (λ op. IsPassedRight a r.op.operand op.operand) r.before × IsCalledRight a r.op.operand

-- the op that ends a statement, of which these are left
ends_here : (op : OpData) (ops : List OpData) → op.last ≡ true → ending_op op ops ≡ op
ends_here op [] e = refl
ends_here op (x ∷ ops) e = ap (λ (t : Bool). if t then op else ending_op x ops) e

ends_later : (op next : OpData) (ops : List OpData) → op.last ≡ false → ending_op op (next ∷ ops) ≡ ending_op next ops
ends_later op next ops e = ap (λ (t : Bool). if t then op else ending_op next ops) e

abbrev FitsNext : Environment → (before ops : List OpData) → Type 0
FitsNext a before [] = Unit {0}
FitsNext a before (op ∷ ops) = AllByRecursion (λ x. IsPassedRight a (ending_op op ops).operand x.operand) before

runs_right : (a : Environment) (before ops : List OpData) → FitsNext a before ops → AreRight a ops → AllByRecursion (IsRightRun a) (runs_from before ops)
runs_right a before [] fits h = tt
runs_right a before (op ∷ ops) fits ((passes, calls_), more) =
    by op.last refl (runs_right a [] ops (none_before ops) more) (λ f. runs_right a (before ++ op ∷ []) ops f more)
  where
    later : (ops : List OpData) → op.last ≡ false → AllByRecursion (λ x. IsPassedRight a (ending_op op ops).operand x.operand) before → IsPassedRight a (ending_op op ops).operand op.operand
        → FitsNext a (before ++ op ∷ []) ops
    later [] e fits one = tt
    later (next ∷ rest) e fits one =
        let same = ends_later op next rest e in
        all_append (λ x. IsPassedRight a (ending_op next rest).operand x.operand) before (op ∷ [])
        (subst (λ z. AllByRecursion (λ x. IsPassedRight a z.operand x.operand) before) same fits) (subst (λ z. IsPassedRight a z.operand op.operand) same one, tt)

    none_before : (ops : List OpData) → FitsNext a [] ops
    none_before [] = tt
    none_before (x ∷ xs) = tt

    by : (t : Bool) → op.last ≡ t → AllByRecursion (IsRightRun a) (runs_from [] ops) → (FitsNext a (before ++ op ∷ []) ops → AllByRecursion (IsRightRun a) (runs_from (before ++ op ∷ []) ops))
        → AllByRecursion (IsRightRun a) (if t then record { before = before; op = op } ∷ runs_from [] ops else runs_from (before ++ op ∷ []) ops)
    by true e rest further = ((subst (λ z. AllByRecursion (λ x. IsPassedRight a z.operand x.operand) before) (ends_here op ops e) fits, calls_), rest)
    by false e rest further = further (later ops e fits passes)

-- ---- widths

width_same : (v w : Width) → nat_eq (width_number v) (width_number w) ≡ true → v ≡ w
width_same width.Bit width.Bit e = refl
width_same width.Byte width.Byte e = refl
width_same width.Word width.Word e = refl
width_same width.Dword width.Dword e = refl
width_same v w e = absurd cc

own_there : (ps : List Param) (own : ℕ) (w : Width) → lacks_own_parameter (slice_get (map record_of_param ps) own) w ≡ false → slice_get (map (λ p. p.width) ps) own ≡ Some w
own_there [] own w e = absurd cc
own_there (p ∷ ps) zero w e = ap Some (width_same p.width w (not_false (nat_eq (width_number p.width) (width_number w)) e))
own_there (p ∷ ps) (suc own) w e = own_there ps own w e

-- what is at a place in front of others
there_front : (ws rest : List Width) (n : ℕ) (w : Width) → slice_get ws n ≡ Some w → slice_get (ws ++ rest) n ≡ Some w
there_front [] rest n w e = absurd cc
there_front (v ∷ ws) rest zero w e = e
there_front (v ∷ ws) rest (suc n) w e = there_front ws rest n w e

there_behind : (front ws : List Width) (n : ℕ) → slice_get (front ++ ws) (length front + n) ≡ slice_get ws n
there_behind [] ws n = let e : 0 + n ≡ n = omega arith in ap (slice_get ws) e
there_behind (v ∷ front) ws n =
    let e : suc (length front) + n ≡ suc (length front + n) = omega arith in
    ap (slice_get (v ∷ (front ++ ws))) e ∙ there_behind front ws n

-- what is passed fits a parameter
fits_width : (a : Environment) (q : Option ParameterRecord) (own : ℕ) (w : Width) → misfits_index a q (passed.Parameter own w) ≡ false → (r : ParameterRecord) × (q ≡ Some r) × (r.width ≡ width_number w)
fits_width a None own w e = absurd cc
fits_width a (Some r) own w e = (r, refl, eqb-true r.width (width_number w) (not_false _ (or_first (not (r.width == width_number w)) _ e)))

record_there : (ps : List Param) (n : ℕ) (r : ParameterRecord) (w : Width) → slice_get (map record_of_param ps) n ≡ Some r → r.width ≡ width_number w → slice_get (map (λ p. p.width) ps) n ≡ Some w
record_there [] n r w e f = absurd cc
record_there (p ∷ ps) zero r w e f =
    let same : record_of_param p ≡ r = cc in
    let number : width_number p.width ≡ width_number w = ap (λ (z : ParameterRecord). z.width) same ∙ f in
    ap Some (width_same p.width w (grind (arith, nat_tests)))
record_there (p ∷ ps) (suc n) r w e f = record_there ps n r w e f

-- ---- the blocks that are called

kind_same : (k : BlockKind) (kind : ℕ) → is_code k ≡ true → nat_eq (kind_number k) kind ≡ true → called_kind kind ≡ k
kind_same k kind code e = by k code (eqb-true (kind_number k) kind e)
  where
    by : (j : BlockKind) → is_code j ≡ true → kind_number j ≡ kind → called_kind kind ≡ j
    by kinds.Ob c f = ap called_kind (sym f)
    by kinds.Fc c f = ap called_kind (sym f)
    by kinds.Fb c f = ap called_kind (sym f)
    by kinds.Db c f = absurd cc
    by kinds.Udt c f = absurd cc
    by kinds.Sfc c f = absurd cc

same_kinds : (j k : BlockKind) → is_code j ≡ true → is_code k ≡ true → nat_eq (kind_number j) (kind_number k) ≡ is_same_kind j k
same_kinds kinds.Ob kinds.Ob c d = refl
same_kinds kinds.Ob kinds.Fc c d = refl
same_kinds kinds.Ob kinds.Fb c d = refl
same_kinds kinds.Fc kinds.Ob c d = refl
same_kinds kinds.Fc kinds.Fc c d = refl
same_kinds kinds.Fc kinds.Fb c d = refl
same_kinds kinds.Fb kinds.Ob c d = refl
same_kinds kinds.Fb kinds.Fc c d = refl
same_kinds kinds.Fb kinds.Fb c d = refl
same_kinds j k c d = absurd cc

-- the kind of a block that is found
found_kind : (kind number : ℕ) (bs : List CodeBlock) (s : CalleeSignature) → AllByRecursion (λ b. is_code b.id.kind ≡ true) bs → block_with kind number (map signature_of (map record_of_block bs)) ≡ Some s
    → (k : BlockKind) × (is_code k ≡ true) × (kind ≡ kind_number k)
found_kind kind number [] s codes e = absurd cc
found_kind kind number (b ∷ bs) s (code, codes) e = by (kind_number b.id.kind == kind && b.id.number == number) refl e (λ f. found_kind kind number bs s codes f)
  where
    by : (t : Bool) → (kind_number b.id.kind == kind && b.id.number == number) ≡ t
        → (if t then Some (callee_of_block (signature_of (record_of_block b))) else block_with kind number (map signature_of (map record_of_block bs))) ≡ Some s
        → (block_with kind number (map signature_of (map record_of_block bs)) ≡ Some s → (k : BlockKind) × (is_code k ≡ true) × (kind ≡ kind_number k))
        → (k : BlockKind) × (is_code k ≡ true) × (kind ≡ kind_number k)
    by true t f more = (b.id.kind, code, sym (eqb-true (kind_number b.id.kind) kind (and_parts _ _ t).0))
    by false t f more = more f

-- a parameter of the block that is found, among those of all blocks
found_there : (k : BlockKind) (number : ℕ) (bs : List CodeBlock) (s : CalleeSignature) (index : ℕ) (r : ParameterRecord) (w : Width) → is_code k ≡ true → AllByRecursion (λ b. is_code b.id.kind ≡ true) bs
    → block_with (kind_number k) number (map signature_of (map record_of_block bs)) ≡ Some s → slice_get s.params index ≡ Some r → r.width ≡ width_number w
    → slice_get (widths bs) (first_of bs (record { kind = k; number = number }) + index) ≡ Some w
found_there k number [] s index r w is codes e there wide = absurd cc
found_there k number (b ∷ bs) s index r w is (code, codes) e there wide =
    by (kind_number b.id.kind == kind_number k && b.id.number == number) (ap (λ t. t && nat_eq b.id.number number) (same_kinds b.id.kind k code is)) e (λ f. found_there k number bs s index r w is codes f there wide)
  where
    id : BlockId
    id = record { kind = k; number = number }

    own : List Width
    own = map (λ (p : Param). p.width) b.params

    by : (t : Bool) → t ≡ is_same_block b.id id
        → (if t then Some (callee_of_block (signature_of (record_of_block b))) else block_with (kind_number k) number (map signature_of (map record_of_block bs))) ≡ Some s
        → (block_with (kind_number k) number (map signature_of (map record_of_block bs)) ≡ Some s → slice_get (widths bs) (first_of bs id + index) ≡ Some w)
        → slice_get (own ++ widths bs) ((if is_same_block b.id id then 0 else length b.params + first_of bs id) + index) ≡ Some w
    by true same f more =
        let params : map record_of_param b.params ≡ s.params = ap (λ (c : CalleeSignature). c.params) (same_Some (callee_of_block (signature_of (record_of_block b))) s f) in
        let start : (if is_same_block b.id id then 0 else length b.params + first_of bs id) + index ≡ index =
        ap (λ (t : Bool). (if t then 0 else length b.params + first_of bs id) + index) (sym same) ∙ omega arith in
        ap (slice_get (own ++ widths bs)) start ∙ there_front own (widths bs) index w (record_there b.params index r w (ap (λ z. slice_get z index) params ∙ there) wide)
    by false same f more =
        let size = length-map b.params (λ (p : Param). p.width) in
        let start : (if is_same_block b.id id then 0 else length b.params + first_of bs id) + index ≡ length own + (first_of bs id + index) =
        ap (λ (t : Bool). (if t then 0 else length b.params + first_of bs id) + index) (sym same) ∙ omega (arith, size) in
        ap (slice_get (own ++ widths bs)) start ∙ there_behind own (widths bs) (first_of bs id + index) ∙ more f

-- ---- links

own_width : (a : Environment) (ps : List Param) (own : ℕ) (w : Width) → a.params ≡ map record_of_param ps → lacks_own_parameter (parameter_meant a own) w ≡ false → slice_get (map (λ p. p.width) ps) own ≡ Some w
own_width a ps own w params e = by (a.kind == kind_number kinds.Fc) e
  where
    by : (t : Bool) → lacks_own_parameter (if t then slice_get a.params own else None) w ≡ false → slice_get (map (λ (p : Param). p.width) ps) own ≡ Some w
    by true f = own_there ps own w (ap (λ z. lacks_own_parameter (slice_get z own) w) (sym params) ∙ f)
    by false f = absurd cc

-- each passing of a parameter is for one of the same width
abbrev PassingsJoinWidths : List Width → Environment → (last : FlatOperand) → (first other : ℕ) → Type 0
PassingsJoinWidths ws a last first other =
    (index own : ℕ) (w : Width) → lacks_own_parameter (parameter_meant a own) w ≡ false → misfits_call a last index (passed.Parameter own w) ≡ false
    → slice_get ws (first + own) ≡ slice_get ws (other + index)

joined_good : (ws : List Width) (a : Environment) (last : FlatOperand) (first other : ℕ) (v : FlatOperand) → PassingsJoinWidths ws a last first other → IsPassedRight a last v
    → AllByRecursion (IsGoodLink ws) (joined_link first other (passed_parameter v))
joined_good ws a last first other (flat.Pass index (passed.Parameter own w)) f (h, k) = (f index own w h k, tt)
joined_good ws a last first other (flat.Pass index (passed.Literal value)) f h = tt
joined_good ws a last first other (flat.Pass index (passed.Direct x w byte bit)) f h = tt
joined_good ws a last first other (flat.Pass index (passed.InBlock number x w byte bit)) f h = tt
joined_good ws a last first other _ f h = tt

all_joined : (ws : List Width) (a : Environment) (last : FlatOperand) (first other : ℕ) (before : List OpData) → PassingsJoinWidths ws a last first other
    → AllByRecursion (λ op. IsPassedRight a last op.operand) before → AllByRecursion (IsGoodLink ws) (joined_links first other before)
all_joined ws a last first other [] f h = tt
all_joined ws a last first other (op ∷ ops) f (one, more) =
    all_append (IsGoodLink ws) (joined_link first other (passed_parameter op.operand)) (joined_links first other ops) (joined_good ws a last first other op.operand f one)
    (all_joined ws a last first other ops f more)

-- each passing of a parameter to a system function has the width of the function's
abbrev PassingsHaveWidth : List Width → Environment → (last : FlatOperand) → (first : ℕ) → List Formal → Type 0
PassingsHaveWidth ws a last first formals =
    (index own : ℕ) (w : Width) (f : Formal) → lacks_own_parameter (parameter_meant a own) w ≡ false → misfits_call a last index (passed.Parameter own w) ≡ false → slice_get formals index ≡ Some f
    → slice_get ws (first + own) ≡ Some (width_of f.kind)

typed_good : (ws : List Width) (own : ℕ) (o : Option Formal) → ((f : Formal) → o ≡ Some f → slice_get ws own ≡ Some (width_of f.kind)) → AllByRecursion (IsGoodLink ws) (typed_link own o)
typed_good ws own None h = tt
typed_good ws own (Some f) h = (h f refl, tt)

system_good : (ws : List Width) (a : Environment) (last : FlatOperand) (first : ℕ) (formals : List Formal) (v : FlatOperand) → PassingsHaveWidth ws a last first formals → IsPassedRight a last v
    → AllByRecursion (IsGoodLink ws) (system_link formals first (passed_parameter v))
system_good ws a last first formals (flat.Pass index (passed.Parameter own w)) f (h, k) = typed_good ws (first + own) (slice_get formals index) (λ x e. f index own w x h k e)
system_good ws a last first formals (flat.Pass index (passed.Literal value)) f h = tt
system_good ws a last first formals (flat.Pass index (passed.Direct x w byte bit)) f h = tt
system_good ws a last first formals (flat.Pass index (passed.InBlock number x w byte bit)) f h = tt
system_good ws a last first formals _ f h = tt

all_typed : (ws : List Width) (a : Environment) (last : FlatOperand) (first : ℕ) (formals : List Formal) (before : List OpData) → PassingsHaveWidth ws a last first formals
    → AllByRecursion (λ op. IsPassedRight a last op.operand) before → AllByRecursion (IsGoodLink ws) (system_links formals first before)
all_typed ws a last first formals [] f h = tt
all_typed ws a last first formals (op ∷ ops) f (one, more) =
    all_append (IsGoodLink ws) (system_link formals first (passed_parameter op.operand)) (system_links formals first ops) (system_good ws a last first formals op.operand f one)
    (all_typed ws a last first formals ops f more)

matched_width : (formals : List Formal) (rs : List ParameterRecord) (index : ℕ) (f : Formal) (r : ParameterRecord) → Matched formals rs → slice_get formals index ≡ Some f → slice_get rs index ≡ Some r
    → r.width ≡ width_number (width_of f.kind)
matched_width [] [] index f r m e g = absurd cc
matched_width [] (x ∷ rs) index f r m e g = absurd m
matched_width (x ∷ fs) [] index f r m e g = absurd m
matched_width (x ∷ fs) (z ∷ rs) zero f r (one, more) e g =
    let formal : x ≡ f = cc in
    let row : z ≡ r = cc in
    sym (ap (λ (q : ParameterRecord). q.width) row) ∙ one.1 ∙ ap (λ (q : Formal). width_number (width_of q.kind)) formal
matched_width (x ∷ fs) (z ∷ rs) (suc index) f r (one, more) e g = matched_width fs rs index f r more e g

code_no_system : (k : BlockKind) → is_code k ≡ true → is_system_function k ≡ false
code_no_system kinds.Ob e = refl
code_no_system kinds.Fc e = refl
code_no_system kinds.Fb e = refl
code_no_system kinds.Db e = refl
code_no_system kinds.Udt e = refl
code_no_system kinds.Sfc e = absurd cc

-- a block of a program, of which so many parameters stand before its own
record IsAmong (a : Environment) (blocks : List CodeBlock) (first : ℕ) (b : CodeBlock) : Type 0 where
  params : a.params ≡ map record_of_param b.params
  others : a.blocks ≡ map signature_of (map record_of_block blocks)
  codes : AllByRecursion (λ x. is_code x.id.kind ≡ true) blocks
  own : (n : ℕ) (w : Width) → slice_get (map (λ p. p.width) b.params) n ≡ Some w → slice_get (widths blocks) (first + n) ≡ Some w

call_good : (a : Environment) (blocks : List CodeBlock) (first : ℕ) (b : CodeBlock) (kind number instance : ℕ) (before : List OpData) → IsAmong a blocks first b → IsCalledRight a (flat.Called kind number instance)
    → AllByRecursion (λ op. IsPassedRight a (flat.Called kind number instance) op.operand) before → AllByRecursion (IsGoodLink (widths blocks)) (call_links blocks (called_id kind number) first before)
unfolding callee_among
call_good a blocks first b kind number instance before among (s, found) h = by (nat_eq kind (kind_number kinds.Sfc)) refl found
  where
    ws : List Width
    ws = widths blocks

    last : FlatOperand
    last = flat.Called kind number instance

    by : (t : Bool) → nat_eq kind (kind_number kinds.Sfc) ≡ t → (if t then option_map callee_of_system (system_params number) else block_with kind number a.blocks) ≡ Some s
        → AllByRecursion (IsGoodLink ws) (call_links blocks (called_id kind number) first before)
    by true e f = system
      where
        is : is_system_function (called_kind kind) ≡ true
        is = ap (λ n. is_system_function (called_kind n)) (eqb-true kind 5 e)

        there : callee_among a.blocks kind number ≡ option_map callee_of_system (system_params number)
        there = ap (λ (t : Bool). if t then option_map callee_of_system (system_params number) else block_with kind number a.blocks) e

        typed : PassingsHaveWidth ws a last first (system_parameters number)
        typed index own w x lacks fits at = whether (system_formals number) refl at
          where
            whether : (o : Option (List Formal)) → system_formals number ≡ o → slice_get (unwrap_or o []) index ≡ Some x → slice_get ws (first + own) ≡ Some (width_of x.kind)
            whether None g k = absurd cc
            whether (Some formals) g k =
                let m = system_matched number formals g in
                let whole : callee_among a.blocks kind number ≡ Some (callee_of_system m.params) = there ∙ ap (option_map callee_of_system) m.is in
                let r = fits_width a (slice_get m.params index) own w (ap (λ z. misfits_callee a z index (passed.Parameter own w)) (sym whole) ∙ fits) in
                let same : width_number w ≡ width_number (width_of x.kind) = sym r.2 ∙ matched_width formals m.params index x r.0 m.matched k r.1 in
                among.own own w (own_width a b.params own w among.params lacks) ∙ ap Some (width_same w (width_of x.kind) (grind (arith, nat_tests)))

        system : AllByRecursion (IsGoodLink ws) (call_links blocks (called_id kind number) first before)
        system =
            subst (λ (t : Bool). AllByRecursion (IsGoodLink ws) (if t then system_links (system_parameters number) first before else joined_links first (first_of blocks (called_id kind number)) before)) (sym is)
            (all_typed ws a last first (system_parameters number) before typed h)
    by false e f = own_block
      where
        inside : block_with kind number (map signature_of (map record_of_block blocks)) ≡ Some s
        inside = ap (block_with kind number) (sym among.others) ∙ f

        k : (j : BlockKind) × (is_code j ≡ true) × (kind ≡ kind_number j)
        k = found_kind kind number blocks s among.codes inside

        same : called_kind kind ≡ k.0
        same = kind_same k.0 kind k.1 (grind (arith, nat_tests, k.2))

        no_system : is_system_function (called_kind kind) ≡ false
        no_system = ap is_system_function same ∙ code_no_system k.0 k.1

        there : callee_among a.blocks kind number ≡ Some s
        there = found

        other : ℕ
        other = first_of blocks (called_id kind number)

        joined : PassingsJoinWidths ws a last first other
        joined index own w lacks fits =
            let r = fits_width a (slice_get s.params index) own w (ap (λ z. misfits_callee a z index (passed.Parameter own w)) (sym there) ∙ fits) in
            among.own own w (own_width a b.params own w among.params lacks)
            ∙ sym (ap (λ j. slice_get ws (first_of blocks (record { kind = j; number = number }) + index)) same
            ∙ found_there k.0 number blocks s index r.0 w k.1 among.codes (ap (λ n. block_with n number (map signature_of (map record_of_block blocks))) (sym k.2) ∙ inside) r.1 r.2)

        own_block : AllByRecursion (IsGoodLink ws) (call_links blocks (called_id kind number) first before)
        own_block =
            subst (λ (t : Bool). AllByRecursion (IsGoodLink ws) (if t then system_links (system_parameters number) first before else joined_links first other before)) (sym no_system)
            (all_joined ws a last first other before joined h)

run_good : (a : Environment) (blocks : List CodeBlock) (first : ℕ) (b : CodeBlock) (before : List OpData) (v : FlatOperand) → IsAmong a blocks first b → IsCalledRight a v
    → AllByRecursion (λ op. IsPassedRight a v op.operand) before → AllByRecursion (IsGoodLink (widths blocks)) (run_links blocks first before v)
run_good a blocks first b before (flat.Called kind number instance) among called h = call_good a blocks first b kind number instance before among called h
run_good a blocks first b before _ among called h = tt

runs_good : (a : Environment) (blocks : List CodeBlock) (first : ℕ) (b : CodeBlock) (rs : List StatementOps) → IsAmong a blocks first b → AllByRecursion (IsRightRun a) rs
    → AllByRecursion (IsGoodLink (widths blocks)) (links_of_runs blocks first rs)
runs_good a blocks first b [] among h = tt
runs_good a blocks first b (r ∷ rs) among (one, more) =
    all_append (IsGoodLink (widths blocks)) (run_links blocks first r.before r.op.operand) (links_of_runs blocks first rs) (run_good a blocks first b r.before r.op.operand among one.1 one.0)
    (runs_good a blocks first b rs among more)

block_good : (a : Environment) (lens : List (ℕ × ℕ)) (blocks : List CodeBlock) (first : ℕ) (b : CodeBlock) → a.data_lens ≡ Some lens → IsAmong a blocks first b → block_faults a 0 b.code ≡ []
    → AllByRecursion (IsGoodLink (widths blocks)) (block_links blocks first b.code)
unfolding block_faults runs
block_good a lens blocks first b known among e =
    runs_good a blocks first b (runs b.code) among
    (runs_right a [] b.code (none b.code) (ops_right a lens (starts_of_statements b.code) 0 [] [] [] b.code known (none_left _ _ (none_left _ _ e))))
  where
    none : (ops : List OpData) → FitsNext a [] ops
    none [] = tt
    none (x ∷ xs) = tt

all_good : (lens : List (ℕ × ℕ)) (blocks : List CodeBlock) (first : ℕ) (front : List Width) (bs : List CodeBlock) → AllByRecursion (λ x. is_code x.id.kind ≡ true) blocks
    → AreVerified lens (map record_of_block blocks) (map record_of_block bs) → first ≡ length front → widths blocks ≡ front ++ widths bs
    → AllByRecursion (IsGoodLink (widths blocks)) (links_from blocks first bs)
all_good lens blocks first front [] codes h e are = tt
all_good lens blocks first front (b ∷ bs) codes (one, more) e are =
    all_append (IsGoodLink (widths blocks)) (block_links blocks first b.code) (links_from blocks (first + length b.params) bs)
    (block_good (environment_of_block (Some lens) (map record_of_block blocks) (record_of_block b)) lens blocks first b refl
    (record { params = refl; others = refl; codes = codes; own = own_place }) one)
    (all_good lens blocks (first + length b.params) (front ++ own) bs codes more (omega (arith, e, size, few)) (are ∙ sym (append_assoc front own (widths bs))))
  where
    own : List Width
    own = map (λ (p : Param). p.width) b.params

    size : length (front ++ own) ≡ length front + length own
    size = length-append front own

    few : length own ≡ length b.params
    few = length-map b.params (λ (p : Param). p.width)

    own_place : (n : ℕ) (w : Width) → slice_get own n ≡ Some w → slice_get (widths blocks) (first + n) ≡ Some w
    own_place n w k = (λ i. slice_get (are i) (e i + n)) ∙ there_behind front (own ++ widths bs) n ∙ there_front own (widths bs) n w k

-- the links of a program that verifies
pub program_good : (p : Program) → AllByRecursion (λ b. is_code b.id.kind ≡ true) p.code_blocks → Verifies p → AllByRecursion (IsGoodLink (widths p.code_blocks)) (links p.code_blocks)
unfolding links
program_good p codes v = all_good (lens_of p.data_blocks) p.code_blocks 0 [] p.code_blocks codes v.blocks refl refl
