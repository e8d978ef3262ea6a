-- A call leaves an activation that fits: caller and called block.
use Rattle.std.proofs.Common.{◌≡◌, ◌∙◌, ◌+◌, ◌<◌, ◌^◌, ℕ, zero, suc, Bool, true, false, cond, eqb, leb, ltb, not, ◌&&◌, ◌||◌, List, [], ◌∷◌, length, map, slice_get, Option, Some, None, refl, sym, ap, subst, arith}
use Rattle.std.proofs.lemmas.Bool.{and_parts, eqb-true, leb-true, ltb-false, ltb-true, or_parts, not-false}
use Rattle.std.proofs.lemmas.Option.{same_Some}
use Rattle.std.specs.Option.{option_map}
use Rattle.std.specs.FinMap as finmap
use Rattle.std.specs.FinMap.{get-from_entries}
use Rattle.std.specs.FinMap.Entries.{find}
use Rattle.std.specs.Ordering.{nat_cmp, eq_by_cmp}
use Rattle.std.specs.Cmp.{nat_cmp_total}
use Rattle.plc_base.specs.declared.Width.{Width}
use Rattle.plc_base.specs.declared.Width.TheVariants as widths
use Rattle.plc_base.specs.Widths.{bit_count, width_number}
use Rattle.plc_base.specs.declared.Profile.{Profile}
use Rattle.plc_mem.specs.Areas.{Areas}
use Rattle.plc_mem.specs.Fresh.{initial_memory}
use Rattle.plc_mem.proofs.Runs.{tests_agree}
use Rattle.flat_code.specs.Records.{section_in}
use Rattle.flat_code.specs.declared.image_fields.ParameterRecord.{ParameterRecord}
use Rattle.flat_code.specs.declared.operands.Operand.{Operand}
use Rattle.flat_code.specs.declared.operands.Operand.TheVariants as operand
use Rattle.flat_code.specs.declared.operands.Passed.{Passed}
use Rattle.flat_code.specs.declared.operands.Passed.TheVariants as passed
use Rattle.flat_code.specs.declared.programs.Param.{Param}
use Rattle.flat_code.specs.Blocks.{Environment, CalleeSignature, callee_among, parameter_meant, literal_fits, misfits_parameter, is_index, pass_index, is_passed, are_all_passed, is_short_instance, length_of_data}
use Rattle.flat_code.specs.Forms.{payload_fits, passed_coding as flat_actual, width_of_number}
use Rattle.flat_code.specs.Image.{record_of_block, record_of_param, param_of_record}
use Rattle.flat_code.specs.Loading.{lens_of, environment_of_block}
use Rattle.flat_code.specs.Ops.{OpData, is_op}
use Rattle.flat_code.specs.PlacedOps.{PlacedOp, last_op}
use Rattle.flat_code.specs.Programs.{CodeBlock, DataBlock, Program}
use Rattle.flat_code.specs.Table.{admits, forms_of}
use Rattle.image_file.specs.VerifiedProgram.{IsVerifiedOp, HasParam, FitsPassed, FitsPrepared, block_signatures}
use Rattle.machine.specs.Flat.{passings_of, with_passing, numbered_bytes}
use Rattle.machine.specs.Fitting.{SameSizes, HasLength, len_in}
use Rattle.machine.specs.ImageLaws.{ImageLaws}
use Rattle.machine.proofs.BindingLemmas.{FitsActual, PassingsFit, is_among}
use Rattle.machine.proofs.Standing.{AllBefore}

-- ---- a parameter and its record

pub record IsParam (p : Param) (r : ParameterRecord) : Type 0 where
  pub section : p.section ≡ r.section
  pub width : (w : Width) → r.width ≡ width_number w → p.width ≡ w

same_code : (v w : Width) → width_number v ≡ width_number w → v ≡ w
same_code widths.Bit widths.Bit e = refl
same_code widths.Byte widths.Byte e = refl
same_code widths.Word widths.Word e = refl
same_code widths.Dword widths.Dword e = refl
same_code widths.Bit widths.Byte e = absurd (omega (arith, e))
same_code widths.Bit widths.Word e = absurd (omega (arith, e))
same_code widths.Bit widths.Dword e = absurd (omega (arith, e))
same_code widths.Byte widths.Bit e = absurd (omega (arith, e))
same_code widths.Byte widths.Word e = absurd (omega (arith, e))
same_code widths.Byte widths.Dword e = absurd (omega (arith, e))
same_code widths.Word widths.Bit e = absurd (omega (arith, e))
same_code widths.Word widths.Byte e = absurd (omega (arith, e))
same_code widths.Word widths.Dword e = absurd (omega (arith, e))
same_code widths.Dword widths.Bit e = absurd (omega (arith, e))
same_code widths.Dword widths.Byte e = absurd (omega (arith, e))
same_code widths.Dword widths.Word e = absurd (omega (arith, e))

pub of_block : (p : Param) → IsParam p (record_of_param p)
of_block p = record { section = refl; width = λ w e. same_code p.width w e }

code_back : (w : Width) → width_of_number (width_number w) ≡ w
code_back widths.Bit = refl
code_back widths.Byte = refl
code_back widths.Word = refl
code_back widths.Dword = refl

pub of_function : (r : ParameterRecord) → IsParam (param_of_record r) r
of_function r = record { section = refl; width = λ w e. ap width_of_number e ∙ code_back w }

-- each of one list stands for the one of the other
abbrev pub AreParams : List Param → List ParameterRecord → Type 0
AreParams ps rs =
    (index : ℕ) (r : ParameterRecord) → slice_get rs index ≡ Some r
    → (p : Param) × (slice_get ps index ≡ Some p) × IsParam p r

pub of_blocks : (ps : List Param) → AreParams ps (map record_of_param ps)
of_blocks [] index r found = absurd cc
of_blocks (p ∷ ps) zero r found = (p, refl, subst (λ (z : ParameterRecord). IsParam p z) (same_Some (record_of_param p) r found) (of_block p))
of_blocks (p ∷ ps) (suc index) r found = of_blocks ps index r found

pub of_functions : (rs : List ParameterRecord) → AreParams (map param_of_record rs) rs
of_functions [] index r found = absurd cc
of_functions (q ∷ rs) zero r found = (param_of_record q, refl, subst (λ (z : ParameterRecord). IsParam (param_of_record q) z) (same_Some q r found) (of_function q))
of_functions (q ∷ rs) (suc index) r found = of_functions rs index r found

-- ---- what is passed fits

literal_small : (p : Param) (r : ParameterRecord) (value : ℕ) → IsParam p r → literal_fits r.width value ≡ true → value < 4294967296 → value < 2 ^ bit_count p.width
literal_small p r value is fits small = one (eqb r.width 1) refl fits
  where
    at : (w : Width) → r.width ≡ width_number w → value < 2 ^ bit_count w → value < 2 ^ bit_count p.width
    at w e less = rw (is.width w e) less

    four : (t : Bool) → eqb r.width 4 ≡ t → t ≡ true → value < 2 ^ bit_count p.width
    four true e h = at widths.Dword (eqb-true r.width 4 e) small
    four false e h = absurd cc

    three : (t : Bool) → eqb r.width 3 ≡ t → cond t (leb value 0xFFFF) (eqb r.width 4) ≡ true → value < 2 ^ bit_count p.width
    three true e h = let le = leb-true value 0xFFFF h in at widths.Word (eqb-true r.width 3 e) (omega (arith, le))
    three false e h = four (eqb r.width 4) refl h

    two : (t : Bool) → eqb r.width 2 ≡ t → cond t (leb value 0xFF) (cond (eqb r.width 3) (leb value 0xFFFF) (eqb r.width 4)) ≡ true → value < 2 ^ bit_count p.width
    two true e h = let le = leb-true value 0xFF h in at widths.Byte (eqb-true r.width 2 e) (omega (arith, le))
    two false e h = three (eqb r.width 3) refl h

    one : (t : Bool) → eqb r.width 1 ≡ t → cond t (leb value 1) (cond (eqb r.width 2) (leb value 0xFF) (cond (eqb r.width 3) (leb value 0xFFFF) (eqb r.width 4))) ≡ true → value < 2 ^ bit_count p.width
    one true e h = let le = leb-true value 1 h in at widths.Bit (eqb-true r.width 1 e) (omega (arith, le))
    one false e h = two (eqb r.width 2) refl h

abbrev environment_in : Program → CodeBlock → Environment
environment_in p b = environment_of_block (Some (lens_of p.data_blocks)) (map record_of_block p.code_blocks) (record_of_block b)

record_at : (ps : List Param) (index : ℕ) (p : Param) → slice_get ps index ≡ Some p → slice_get (map record_of_param ps) index ≡ Some (record_of_param p)
record_at [] index p found = absurd cc
record_at (q ∷ ps) zero p found = ap (λ (z : Param). Some (record_of_param z)) (same_Some q p found)
record_at (q ∷ ps) (suc index) p found = record_at ps index p found

own_there : (p : Program) (b : CodeBlock) (index : ℕ) (w : Width) (own : Param) → HasParam b index w own → parameter_meant (environment_in p b) index ≡ Some (record_of_param own)
own_there p b index w own h = rw h.kind (record_at b.params index own h.there)

input_kept : (x y : ℕ) (wide : Bool) → (wide || (not (eqb y 1) && eqb x 1)) ≡ false → x ≡ 1 → y ≡ 1
input_kept x y wide h is = by (eqb y 1) refl (or_parts wide (not (eqb y 1) && eqb x 1) h).1
  where
    by : (t : Bool) → eqb y 1 ≡ t → (not t && eqb x 1) ≡ false → y ≡ 1
    by true e h = eqb-true y 1 e
    by false e h = let one : eqb x 1 ≡ true = rw is refl in absurd (let s : true ≡ false = sym one ∙ h in cc)

pub actual_fits :
    (p : Program) (b : CodeBlock) (q : Param) (r : ParameterRecord) (actual : Passed) → IsParam q r
    → FitsPassed b actual → misfits_parameter (environment_in p b) r actual ≡ false
    → ((value : ℕ) → actual ≡ passed.Literal value → value < 4294967296)
    → FitsActual b.id.kind b.params q actual
actual_fits p b q r (passed.Literal value) is by_itself fits small =
    let parts = or_parts (not (eqb r.section section_in)) (not (literal_fits r.width value)) fits in (
      is.section ∙ eqb-true r.section section_in (not-false (eqb r.section section_in) parts.0),
      literal_small q r value is (not-false (literal_fits r.width value) parts.1) (small value refl),
    )
actual_fits p b q r (passed.Direct a w byte bit) is by_itself fits small =
    sym (is.width w (eqb-true r.width (width_number w) (not-false (eqb r.width (width_number w)) fits)))
actual_fits p b q r (passed.Parameter index w) is by_itself fits small =
    let own = by_itself.0 in
    let has = by_itself.1 in
    let clear : (not (eqb r.width (width_number w)) || (not (eqb r.section section_in) && eqb own.section section_in)) ≡ false =
    rw (own_there p b index w own has) at fits in
    let wide = eqb-true r.width (width_number w) (not-false (eqb r.width (width_number w)) (or_parts (not (eqb r.width (width_number w))) (not (eqb r.section section_in) && eqb own.section section_in) clear).0) in (
      has.kind,
      own,
      has.there,
      has.width ∙ sym (is.width w wide),
      λ input. is.section ∙ input_kept own.section r.section (not (eqb r.width (width_number w))) clear input,
    )
actual_fits p b q r (passed.InBlock number a w byte bit) is by_itself fits small =
    sym (is.width w (eqb-true r.width (width_number w) (not-false (eqb r.width (width_number w)) fits)))

literal_of :
    (code index value : ℕ) (actual : Passed) → is_op code (operand.Pass index actual) ≡ true
    → actual ≡ passed.Literal value → value < 4294967296
unfolding is_op flat_actual
literal_of code index value actual right is =
    let taken = and_parts (ltb code 128 && admits (forms_of code) (operand.Pass index actual)) (payload_fits (operand.Pass index actual)) right in
    let fits = and_parts (ltb index 256) (flat_actual.fits actual) taken.1 in
    ltb-true value 4294967296 (rw is at fits.1)

-- ---- the passings of a statement

op_passing :
    (l : ImageLaws) (p : Program) (b : CodeBlock) (ps : List Param) (kind number instance : ℕ) (called : CalleeSignature) (last : OpData)
    (q : PlacedOp) (index : ℕ) (actual : Passed) → AreParams ps called.params → callee_among (block_signatures p) kind number ≡ Some called
    → last.operand ≡ operand.Called kind number instance → IsVerifiedOp p b q → last_op q ≡ last
    → q.op.operand ≡ operand.Pass index actual
    → (x : Param) × (slice_get ps index ≡ Some x) × FitsActual b.id.kind b.params x actual
op_passing l p b ps kind number instance called last q index actual params there calls h ends is =
    let fits = l.passed p b q index actual kind number instance called h is (ap (λ (z : OpData). z.operand) ends ∙ calls) there in
    let one = params index fits.parameter fits.there in
    let prepared : FitsPrepared b q (operand.Pass index actual) = subst (λ (z : Operand). FitsPrepared b q z) is (l.prepared p b q h) in
    let right : is_op q.op.code (operand.Pass index actual) ≡ true = subst (λ (z : Operand). is_op q.op.code z ≡ true) is (l.table p b q h) in
    (one.0, one.1, actual_fits p b one.0 fits.parameter actual one.2 prepared.2 fits.fits (λ value e. literal_of q.op.code index value actual right e))

pub passings_fit :
    (l : ImageLaws) (p : Program) (b : CodeBlock) (ps : List Param) (kind number instance : ℕ) (called : CalleeSignature) (last : OpData)
    (ops : List OpData) → AreParams ps called.params → callee_among (block_signatures p) kind number ≡ Some called
    → last.operand ≡ operand.Called kind number instance → AllBefore p b last ops
    → PassingsFit b.id.kind b.params ps (passings_of ops)
passings_fit l p b ps kind number instance called last [] params there calls all = tt
passings_fit l p b ps kind number instance called last (op ∷ ops) params there calls all =
    by op.operand (ap (λ (z : OpData). z.operand) all.0.2)
    (passings_fit l p b ps kind number instance called last ops params there calls all.1)
  where
    by : (o : Operand) → all.0.0.op.operand ≡ o → PassingsFit b.id.kind b.params ps (passings_of ops)
        → PassingsFit b.id.kind b.params ps (with_passing o (passings_of ops))
    by (operand.Pass index actual) is more =
        (op_passing l p b ps kind number instance called last all.0.0 index actual params there calls all.0.1 all.0.3 is, more)
    by _ is more = more

among_passed : (i : ℕ) (ops : List OpData) → is_passed i ops ≡ true → is_among i (passings_of ops) ≡ true
among_passed i [] h = absurd cc
among_passed i (op ∷ ops) h = by op.operand h (λ e. among_passed i ops e)
  where
    either : (x y z : Bool) → (x || y) ≡ true → (y ≡ true → z ≡ true) → (x || z) ≡ true
    either true y z e f = refl
    either false y z e f = f e

    by : (o : Operand) → (is_index i (pass_index o) || is_passed i ops) ≡ true → (is_passed i ops ≡ true → is_among i (passings_of ops) ≡ true)
        → is_among i (with_passing o (passings_of ops)) ≡ true
    by (operand.Pass index actual) e more = either (eqb index i) (is_passed i ops) (is_among i (passings_of ops)) e more
    by _ e more = more e

-- where each is passed, each index is among the passings
each_passed :
    (from i : ℕ) (rs : List ParameterRecord) (r : ParameterRecord) (ops : List OpData) → are_all_passed from rs ops ≡ true
    → slice_get rs i ≡ Some r → is_passed (from + i) ops ≡ true
each_passed from i [] r ops all found = absurd cc
each_passed from zero (q ∷ rs) r ops all found =
    let e : from + 0 ≡ from = omega arith in
    rw e (and_parts (is_passed from ops) (are_all_passed (suc from) rs ops) all).0
each_passed from (suc i) (q ∷ rs) r ops all found =
    let e : from + suc i ≡ suc from + i = omega arith in
    rw e (each_passed (suc from) i rs r ops (and_parts (is_passed from ops) (are_all_passed (suc from) rs ops) all).1 found)

pub all_among :
    (i : ℕ) (rs : List ParameterRecord) (r : ParameterRecord) (ops : List OpData) → are_all_passed 0 rs ops ≡ true
    → slice_get rs i ≡ Some r → is_among i (passings_of ops) ≡ true
all_among i rs r ops all found =
    let e : 0 + i ≡ i = omega arith in
    among_passed i ops (rw e at (each_passed 0 i rs r ops all found))

-- ---- instances

find_len : (ds : List DataBlock) (number : ℕ) → option_map length (find nat_cmp number (numbered_bytes ds)) ≡ length_of_data number (lens_of ds)
find_len [] number = refl
find_len (d ∷ ds) number =
    by (eqb d.number number) (eq_by_cmp nat_cmp number d.number) refl refl (tests_agree d.number number (eqb d.number number) (eq_by_cmp nat_cmp number d.number) refl refl) (find_len ds number)
  where
    by : (x y : Bool) → eqb d.number number ≡ x → eq_by_cmp nat_cmp number d.number ≡ y → eqb d.number number ≡ eq_by_cmp nat_cmp number d.number
        → option_map length (find nat_cmp number (numbered_bytes ds)) ≡ length_of_data number (lens_of ds)
        → option_map length (cond y (Some d.bytes) (find nat_cmp number (numbered_bytes ds))) ≡ cond x (Some (length d.bytes)) (length_of_data number (lens_of ds))
    by true true e f same more = refl
    by false false e f same more = more
    by true false e f same more = let s : true ≡ false = sym e ∙ same ∙ f in absurd cc
    by false true e f same more = let s : false ≡ true = sym e ∙ same ∙ f in absurd cc

fresh_len : (f : Profile) (ds : List DataBlock) (number : ℕ) → len_in (initial_memory f (numbered_bytes ds)) number ≡ length_of_data number (lens_of ds)
unfolding initial_memory
fresh_len f ds number = ap (λ (o : Option (List ℕ)). option_map length o) (get-from_entries nat_cmp_total (numbered_bytes ds) number) ∙ find_len ds number

long_by : (needed : ℕ) (o : Option (List ℕ)) (len : Option ℕ) → option_map length o ≡ len → is_short_instance needed len ≡ false → HasLength needed o
long_by needed None len is h = absurd (let e : is_short_instance needed None ≡ false = rw (sym is) at h in cc)
long_by needed (Some bytes) len is h = ltb-false (length bytes) needed (rw (sym is) at h)

pub instance_long :
    (f : Profile) (p : Program) (m : Areas) (number needed : ℕ) → SameSizes (initial_memory f (numbered_bytes p.data_blocks)) m
    → is_short_instance needed (length_of_data number (lens_of p.data_blocks)) ≡ false
    → HasLength needed (finmap.get m.data_blocks number)
instance_long f p m number needed sizes h =
    long_by needed (finmap.get m.data_blocks number) (length_of_data number (lens_of p.data_blocks))
    (sizes.data_blocks number ∙ fresh_len f p.data_blocks number) h
