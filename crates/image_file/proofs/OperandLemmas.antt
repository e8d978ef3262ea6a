-- What operands, prepared ops and calls of a program that verifies have.
use Rattle.std.proofs.Common.{◌≡◌, ◌⊎◌, ℕ, ◌+◌, Bool, true, false, cond, eqb, not, ◌&&◌, ◌||◌, List, [], ◌∷◌, map, slice_get, Option, Some, None, option_map, refl, sym, ap, subst, ◌∙◌, inl, inr}
use Rattle.std.proofs.lemmas.Bool.{and_parts, eqb-true, eq-eqb, ne_eqb, ltb-false, or_parts, not-false}
use Rattle.std.proofs.lemmas.Option.{same_Some, slice_get-map}
use Rattle.plc_base.specs.Kinds.{kind_number, kind_order}
use Rattle.plc_base.specs.declared.blocks.BlockId.{BlockId}
use Rattle.plc_base.specs.declared.blocks.BlockKind.{BlockKind}
use Rattle.plc_base.specs.declared.blocks.BlockKind.TheVariants as kinds
use Rattle.plc_base.specs.declared.places.Area.{Area}
use Rattle.plc_base.specs.declared.places.Area.TheVariants as area
use Rattle.plc_base.specs.declared.places.Width.{Width}
use Rattle.flat_code.specs.declared.programs.Param.{Param}
use Rattle.flat_code.specs.declared.image_fields.ParameterRecord.{ParameterRecord}
use Rattle.flat_code.specs.declared.operands.Operand.{Operand}
use Rattle.flat_code.specs.declared.operands.Operand.TheVariants as operand
use Rattle.flat_code.specs.declared.operands.Passed.{Passed}
use Rattle.flat_code.specs.declared.operands.Passed.TheVariants as passed
use Rattle.flat_code.specs.Forms.{width_of_number}
use Rattle.plc_base.specs.Widths.{byte_count, width_number}
use Rattle.flat_code.specs.Records.{section_in}
use Rattle.flat_code.specs.Programs.{CodeBlock, Program}
use Rattle.flat_code.specs.Image.{record_of_param, record_of_block}
use Rattle.flat_code.specs.Loading.{lens_of}
use Rattle.flat_code.specs.Table.{forms_of, has_memory_width}
use Rattle.flat_code.specs.PlacedOps.{PlacedOp, starts_of_statements, begins_its_statement, last_op}
use Rattle.flat_code.specs.Blocks.{signature_of, CalleeSignature, callee_of_block, block_with, callee_among, is_odd_bit, is_past_locals, is_bad_place, lacks_width, writes_operand, parameter_meant, lacks_own_parameter, is_in_parameter, is_in_db, is_above, pass_before, is_stray_pass, is_bad_actual, misfits_index, misfits_callee, misfits_call, are_all_passed, is_bad_instance, is_bad_call, seven_if, operand_fault, call_fault_among}
use Rattle.image_file.specs.Readers.{is_same_id, block_by_id}
use Rattle.image_file.specs.VerifiedProgram.{IsVerifiedOp, LiesWithin, HasParam, FitsOperand, FitsPassed, FitsPrepared, block_signatures, FitsCall, FitsParameter, IsCalledBlock}
use Rattle.image_file.proofs.ImageLemmas.{width_there}
use Rattle.image_file.proofs.VerifiedLemmas.{op_none, environment_in}

seven_none : (b : Bool) → seven_if b ≡ None → b ≡ false
seven_none true e = absurd cc
seven_none false e = refl

-- ---- places and parameters

within : (p : Program) (b : CodeBlock) (a : Area) (w : Width) (byte : ℕ) → is_past_locals (environment_in p b) a w byte ≡ false → LiesWithin b a w byte
within p b area.P w byte e = tt
within p b area.I w byte e = tt
within p b area.Q w byte e = tt
within p b area.M w byte e = tt
within p b area.Db w byte e = tt
within p b area.Di w byte e = tt
within p b area.L w byte e = ltb-false b.local_len (byte + byte_count w) e

fits_place : (p : Program) (b : CodeBlock) (a : Area) (w : Width) (byte bit : ℕ) → is_bad_place (environment_in p b) a w byte bit ≡ false → (is_odd_bit w bit ≡ false) × LiesWithin b a w byte
fits_place p b a w byte bit e = let o = or_parts (is_odd_bit w bit) (is_past_locals (environment_in p b) a w byte) e in (o.0, within p b a w byte o.1)

is_function : (k : BlockKind) → eqb (kind_number k) (kind_number kinds.Fc) ≡ true → k ≡ kinds.Fc
is_function kinds.Ob e = absurd cc
is_function kinds.Fc e = refl
is_function kinds.Fb e = absurd cc
is_function kinds.Db e = absurd cc
is_function kinds.Sfc e = absurd cc
is_function kinds.Udt e = absurd cc

-- a parameter as it stands in a block and in its record
record Has (b : CodeBlock) (index : ℕ) (w : Width) (own : Option ParameterRecord) : Type 0 where
  param : Param
  has : HasParam b index w param
  own_is : own ≡ Some (record_of_param param)

has_param : (p : Program) (b : CodeBlock) (index : ℕ) (w : Width) → lacks_own_parameter (parameter_meant (environment_in p b) index) w ≡ false → Has b index w (parameter_meant (environment_in p b) index)
has_param p b index w e = by_kind (eqb (kind_number b.id.kind) (kind_number kinds.Fc)) refl e
  where
    by_param : (o : Option Param) → slice_get b.params index ≡ o → eqb (kind_number b.id.kind) (kind_number kinds.Fc) ≡ true → lacks_own_parameter (option_map record_of_param o) w ≡ false → Has b index w (option_map record_of_param o)
    by_param None is kind l = absurd cc
    by_param (Some param) is kind l =
        let same = eqb-true (width_number param.width) (width_number w) (not-false (eqb (width_number param.width) (width_number w)) l) in
        record {
          param = param;
          has = record { kind = is_function b.id.kind kind; there = is; width = sym (width_there param.width) ∙ ap width_of_number same ∙ width_there w };
          own_is = refl;
        }

    by_kind : (k : Bool) → eqb (kind_number b.id.kind) (kind_number kinds.Fc) ≡ k → lacks_own_parameter (cond k (slice_get (map record_of_param b.params) index) None) w ≡ false → Has b index w (cond k (slice_get (map record_of_param b.params) index) None)
    by_kind false kind l = absurd cc
    by_kind true kind l =
        let there = slice_get-map record_of_param b.params index in
        subst (λ (z : Option ParameterRecord). Has b index w z) (sym there) (by_param (slice_get b.params index) refl kind (subst (λ (z : Option ParameterRecord). lacks_own_parameter z w ≡ false) there l))

not_written : (code section : ℕ) → (writes_operand code && eqb section section_in) ≡ false → writes_operand code ≡ true → section ≡ section_in → ⊥
not_written code section e w is = let f : true ≡ false = sym (rw (w, eq-eqb section section_in is) refl) ∙ e in absurd cc

fits_operand : (p : Program) (b : CodeBlock) (q : PlacedOp) (o : Operand) → operand_fault (environment_in p b) (starts_of_statements b.code) q o ≡ None → FitsOperand b q.op o
fits_operand p b q (operand.Direct a w byte bit) e =
    let s = or_parts (lacks_width q.op w) (is_bad_place (environment_in p b) a w byte bit) (seven_none _ e) in
    let f = fits_place p b a w byte bit s.1 in
    (not-false (has_memory_width (forms_of q.op.code) w) s.0, f.0, f.1)
fits_operand p b q (operand.ByMemory a w from byte) e = not-false (has_memory_width (forms_of q.op.code) w) (seven_none _ e)
fits_operand p b q (operand.ByRegister a w register bits) e = not-false (has_memory_width (forms_of q.op.code) w) (seven_none _ e)
fits_operand p b q (operand.Parameter index w) e =
    let own = parameter_meant (environment_in p b) index in
    let s = or_parts (lacks_width q.op w || lacks_own_parameter own w) (writes_operand q.op.code && is_in_parameter own) (seven_none _ e) in
    let t = or_parts (lacks_width q.op w) (lacks_own_parameter own w) s.0 in
    let h = has_param p b index w t.1 in
    (not-false (has_memory_width (forms_of q.op.code) w) t.0, h.param, h.has, not_written q.op.code h.param.section (ap (λ (z : Option ParameterRecord). writes_operand q.op.code && is_in_parameter z) (sym h.own_is) ∙ s.1))
fits_operand p b q operand.Nothing e = tt
fits_operand p b q (operand.Literal value) e = tt
fits_operand p b q (operand.Numbered kind number) e = tt
fits_operand p b q (operand.NumberedBy kind from byte) e = tt
fits_operand p b q (operand.Jump kind target) e = tt
fits_operand p b q (operand.OfStatus condition) e = tt
fits_operand p b q (operand.UseDb number) e = tt
fits_operand p b q (operand.Pass index actual) e = tt
fits_operand p b q (operand.Called kind number instance) e = tt
fits_operand p b q (operand.OpenBlock register number) e = tt
fits_operand p b q (operand.OpenBy register from byte) e = tt

pub operand_fits : (p : Program) (b : CodeBlock) (q : PlacedOp) → IsVerifiedOp p b q → FitsOperand b q.op q.op.operand
operand_fits p b q h = fits_operand p b q q.op.operand (op_none p b q h).operand

-- ---- USEDB and PASS

fits_passed : (p : Program) (b : CodeBlock) (actual : Passed) → is_bad_actual (environment_in p b) actual ≡ false → FitsPassed b actual
fits_passed p b (passed.Literal value) e = tt
fits_passed p b (passed.Direct a w byte bit) e = fits_place p b a w byte bit e
fits_passed p b (passed.Parameter index w) e = let h = has_param p b index w e in (h.param, h.has)
fits_passed p b (passed.InBlock number area.Db w byte bit) e = (refl, e)
fits_passed p b (passed.InBlock number area.P w byte bit) e = absurd cc
fits_passed p b (passed.InBlock number area.I w byte bit) e = absurd cc
fits_passed p b (passed.InBlock number area.Q w byte bit) e = absurd cc
fits_passed p b (passed.InBlock number area.M w byte bit) e = absurd cc
fits_passed p b (passed.InBlock number area.Di w byte bit) e = absurd cc
fits_passed p b (passed.InBlock number area.L w byte bit) e = absurd cc

fits_prepared : (p : Program) (b : CodeBlock) (q : PlacedOp) (o : Operand) → operand_fault (environment_in p b) (starts_of_statements b.code) q o ≡ None → FitsPrepared b q o
fits_prepared p b q (operand.UseDb number) e =
    let s = or_parts (not (begins_its_statement q)) (not (is_in_db (last_op q).operand)) (seven_none _ e) in
    (not-false (begins_its_statement q) s.0, not-false (is_in_db (last_op q).operand) s.1)
fits_prepared p b q (operand.Pass index actual) e =
    let s = or_parts (is_stray_pass q index) (is_bad_actual (environment_in p b) actual) (seven_none _ e) in
    let t = or_parts (not (eqb (last_op q).code 0x78)) (not (is_above index (pass_before None q.before))) s.0 in
    (eqb-true (last_op q).code 0x78 (not-false (eqb (last_op q).code 0x78) t.0), not-false (is_above index (pass_before None q.before)) t.1, fits_passed p b actual s.1)
fits_prepared p b q (operand.Direct a w byte bit) e = tt
fits_prepared p b q (operand.ByMemory a w from byte) e = tt
fits_prepared p b q (operand.ByRegister a w register bits) e = tt
fits_prepared p b q (operand.Parameter index w) e = tt
fits_prepared p b q operand.Nothing e = tt
fits_prepared p b q (operand.Literal value) e = tt
fits_prepared p b q (operand.Numbered kind number) e = tt
fits_prepared p b q (operand.NumberedBy kind from byte) e = tt
fits_prepared p b q (operand.Jump kind target) e = tt
fits_prepared p b q (operand.OfStatus condition) e = tt
fits_prepared p b q (operand.Called kind number instance) e = tt
fits_prepared p b q (operand.OpenBlock register number) e = tt
fits_prepared p b q (operand.OpenBy register from byte) e = tt

pub prepared_fits : (p : Program) (b : CodeBlock) (q : PlacedOp) → IsVerifiedOp p b q → FitsPrepared b q q.op.operand
prepared_fits p b q h = fits_prepared p b q q.op.operand (op_none p b q h).operand

-- ---- calls

among : (p : Program) (b : CodeBlock) (q : PlacedOp) (o : Operand) → IsVerifiedOp p b q → q.op.operand ≡ o → call_fault_among (environment_in p b) (lens_of p.data_blocks) q o ≡ None
among p b q o h is = subst (λ (z : Operand). call_fault_among (environment_in p b) (lens_of p.data_blocks) q z ≡ None) is (op_none p b q h).call

fits_call : (p : Program) (q : PlacedOp) (kind number instance : ℕ) (found : Option CalleeSignature) → callee_among (block_signatures p) kind number ≡ found → is_bad_call (lens_of p.data_blocks) found instance q.before ≡ false → FitsCall p q kind number instance
fits_call p q kind number instance None is e = absurd cc
fits_call p q kind number instance (Some s) is e =
    let o = or_parts (not (eqb s.kind 3) && not (are_all_passed 0 s.params q.before)) (is_bad_instance (lens_of p.data_blocks) s instance) e in
    record {
      called = s;
      there = is;
      all = λ other. passed_all (ne_eqb s.kind 3 other) o.0;
      instance_fits = o.1;
    }
  where
    passed_all : eqb s.kind 3 ≡ false → (not (eqb s.kind 3) && not (are_all_passed 0 s.params q.before)) ≡ false → are_all_passed 0 s.params q.before ≡ true
    passed_all f e = not-false (are_all_passed 0 s.params q.before) (rw f at e)

pub call_fits : (p : Program) (b : CodeBlock) (q : PlacedOp) (kind number instance : ℕ) → IsVerifiedOp p b q → q.op.operand ≡ operand.Called kind number instance → FitsCall p q kind number instance
call_fits p b q kind number instance h is = fits_call p q kind number instance (callee_among (block_signatures p) kind number) refl (seven_none _ (among p b q (operand.Called kind number instance) h is))

fits_index : (p : Program) (b : CodeBlock) (called : CalleeSignature) (index : ℕ) (actual : Passed) (o : Option ParameterRecord) → slice_get called.params index ≡ o → misfits_index (environment_in p b) o actual ≡ false → FitsParameter p b called index actual
fits_index p b called index actual None is e = absurd cc
fits_index p b called index actual (Some parameter) is e = record { parameter = parameter; there = is; fits = e }

pub passed_fits : (p : Program) (b : CodeBlock) (q : PlacedOp) (index : ℕ) (actual : Passed) (kind number instance : ℕ) (called : CalleeSignature) → IsVerifiedOp p b q → q.op.operand ≡ operand.Pass index actual → (last_op q).operand ≡ operand.Called kind number instance → callee_among (block_signatures p) kind number ≡ Some called → FitsParameter p b called index actual
passed_fits p b q index actual kind number instance called h is last there =
    let code = (fits_prepared p b q (operand.Pass index actual) (subst (λ (z : Operand). operand_fault (environment_in p b) (starts_of_statements b.code) q z ≡ None) is (op_none p b q h).operand)).0 in
    let bad = seven_none _ (among p b q (operand.Pass index actual) h is) in
    let here : misfits_call (environment_in p b) (last_op q).operand index actual ≡ false = rw (eq-eqb (last_op q).code 0x78 code) at bad in
    let whom : misfits_callee (environment_in p b) (callee_among (block_signatures p) kind number) index actual ≡ false = subst (λ (z : Operand). misfits_call (environment_in p b) z index actual ≡ false) last here in
    fits_index p b called index actual (slice_get called.params index) refl (subst (λ (z : Option CalleeSignature). misfits_callee (environment_in p b) z index actual ≡ false) there whom)

-- what is called among blocks
record IsCalleeBlock (bs : List CodeBlock) (id : BlockId) (kind : ℕ) (called : CalleeSignature) : Type 0 where
  block : CodeBlock
  there : block_by_id id bs ≡ Some block
  same : called ≡ record { kind = kind; instance_len = block.instance_len; params = map record_of_param block.params }

found_in : (bs : List CodeBlock) (id : BlockId) (kind : ℕ) (called : CalleeSignature) → ((k : BlockKind) → eqb (kind_number k) kind ≡ eqb (kind_order k) (kind_order id.kind)) → block_with kind id.number (map signature_of (map record_of_block bs)) ≡ Some called → IsCalleeBlock bs id kind called
found_in [] id kind called agree e = absurd cc
found_in (b ∷ bs) id kind called agree e =
    by (eqb (kind_number b.id.kind) kind && eqb b.id.number id.number) refl (ap (λ (z : Bool). z && eqb b.id.number id.number) (sym (agree b.id.kind))) e (λ h. found_in bs id kind called agree h)
  where
    by : (t : Bool) → (eqb (kind_number b.id.kind) kind && eqb b.id.number id.number) ≡ t → is_same_id b.id id ≡ (eqb (kind_number b.id.kind) kind && eqb b.id.number id.number)
        → cond t (Some (callee_of_block (signature_of (record_of_block b)))) (block_with kind id.number (map signature_of (map record_of_block bs))) ≡ Some called
        → (block_with kind id.number (map signature_of (map record_of_block bs)) ≡ Some called → IsCalleeBlock bs id kind called) → IsCalleeBlock (b ∷ bs) id kind called
    by true t s e more =
        let k = eqb-true (kind_number b.id.kind) kind (and_parts (eqb (kind_number b.id.kind) kind) (eqb b.id.number id.number) t).0 in
        record {
          block = b;
          there = rw (s ∙ t) refl;
          same = sym (same_Some (callee_of_block (signature_of (record_of_block b))) called e) ∙ ap (λ (n : ℕ). let c : CalleeSignature = record { kind = n; instance_len = b.instance_len; params = map record_of_param b.params } in c) k;
        }
    by false t s e more = let m = more e in record { block = m.block; there = rw (s ∙ t) m.there; same = m.same }

functions_agree : (k : BlockKind) → eqb (kind_number k) (kind_number kinds.Fc) ≡ eqb (kind_order k) (kind_order kinds.Fc)
functions_agree kinds.Ob = refl
functions_agree kinds.Fc = refl
functions_agree kinds.Fb = refl
functions_agree kinds.Db = refl
functions_agree kinds.Sfc = refl
functions_agree kinds.Udt = refl

function_blocks_agree : (k : BlockKind) → eqb (kind_number k) (kind_number kinds.Fb) ≡ eqb (kind_order k) (kind_order kinds.Fb)
function_blocks_agree kinds.Ob = refl
function_blocks_agree kinds.Fc = refl
function_blocks_agree kinds.Fb = refl
function_blocks_agree kinds.Db = refl
function_blocks_agree kinds.Sfc = refl
function_blocks_agree kinds.Udt = refl

function_there : (p : Program) (number : ℕ) (called : CalleeSignature) → callee_among (block_signatures p) (kind_number kinds.Fc) number ≡ Some called → IsCalledBlock p (kind_number kinds.Fc) number called
unfolding callee_among
function_there p number called e = let f = found_in p.code_blocks (record { kind = kinds.Fc; number = number }) (kind_number kinds.Fc) called functions_agree e in record { block = f.block; there = f.there; same = f.same }

function_block_there : (p : Program) (number : ℕ) (called : CalleeSignature) → callee_among (block_signatures p) (kind_number kinds.Fb) number ≡ Some called → IsCalledBlock p (kind_number kinds.Fb) number called
unfolding callee_among
function_block_there p number called e = let f = found_in p.code_blocks (record { kind = kinds.Fb; number = number }) (kind_number kinds.Fb) called function_blocks_agree e in record { block = f.block; there = f.there; same = f.same }

pub called_there : (p : Program) (kind number : ℕ) (called : CalleeSignature) → (kind ≡ kind_number kinds.Fc) ⊎ (kind ≡ kind_number kinds.Fb) → callee_among (block_signatures p) kind number ≡ Some called → IsCalledBlock p kind number called
called_there p kind number called (inl is) e = subst (λ (k : ℕ). IsCalledBlock p k number called) (sym is) (function_there p number called (subst (λ (k : ℕ). callee_among (block_signatures p) k number ≡ Some called) is e))
called_there p kind number called (inr is) e = subst (λ (k : ℕ). IsCalledBlock p k number called) (sym is) (function_block_there p number called (subst (λ (k : ℕ). callee_among (block_signatures p) k number ≡ Some called) is e))
