-- What a CALL passes fits the parameters of the block that is called, and each that is owed is passed.
use Rattle.std.proofs.Common.{ℕ, suc, ◌≡◌, ◌≤◌, ◌+◌, ◌*◌, ◌-◌, pos, negsuc, List, [], ◌∷◌, ◌++◌, append_assoc, Option, Some, None, Bool, true, false, ◌&&◌, ◌||◌, not, nat_eq, nat_le, refl, sym, ◌∙◌, ap, subst, arith, length, find, bytes_eq, if◌then◌else◌, eqb-true, leb-true, le-leb, lt-ltb, eq-eqb}
use Rattle.std.specs.Prelude.{◌==◌}
use Rattle.std.specs.List.{AllByRecursion, slice_get}
use Rattle.std.proofs.lemmas.Bool.{or_from, not-false}
use Rattle.plc_base.specs.Widths.{width_number}
use Rattle.plc_base.specs.declared.places.Area.{Area}
use Rattle.plc_base.specs.declared.places.Area.TheVariants as area
use Rattle.plc_base.specs.declared.places.Width.{Width}
use Rattle.plc_base.specs.declared.places.Width.TheVariants as width
use Rattle.flat_code.specs.Records.{section_in}
use Rattle.flat_code.specs.Blocks.{CalleeSignature, Environment, is_above, is_bad_actual, is_bad_place, is_in_parameter as is_input_parameter, is_odd_bit, is_past_locals, literal_fits, misfits_index, misfits_parameter, parameter_meant}
use Rattle.flat_code.specs.declared.image_fields.ParameterRecord.{ParameterRecord}
use Rattle.flat_code.specs.declared.operands.Passed.{Passed}
use Rattle.flat_code.specs.declared.operands.Passed.TheVariants as passed
use Rattle.flat_code.specs.Table.{admits}
use Rattle.stl_ast.specs.Blocks.{is_parameter}
use Rattle.stl_ast.specs.Literals.{AreBytes, IsLiteral}
use Rattle.stl_ast.specs.Operands.{IsOperand}
use Rattle.stl_ast.specs.declared.blocks.PartKind.{PartKind}
use Rattle.stl_ast.specs.declared.blocks.PartKind.TheVariants as part
use Rattle.stl_ast.specs.declared.declarations.Simple.{Simple}
use Rattle.stl_ast.specs.declared.declarations.Simple.TheVariants as simple
use Rattle.stl_ast.specs.declared.literals.Literal.{Literal}
use Rattle.stl_ast.specs.declared.literals.Literal.TheVariants as literal
use Rattle.stl_ast.specs.declared.mnemonics.Mnemonic.TheVariants as code
use Rattle.stl_ast.specs.declared.operands.Operand.{Operand}
use Rattle.stl_ast.specs.declared.operands.Operand.TheVariants as operand
use Rattle.stl_ast.specs.declared.statements.Actual.{Actual}
use Rattle.plc_base.specs.Folding.{upper_case_name}
use Rattle.plc_base.proofs.TruthLemmas.{and_first, and_second}
use Rattle.block_layout.specs.Fits.{bits_of, fits_elementary_type}
use Rattle.block_layout.specs.Offsets.{width_of}
use Rattle.stl_types.specs.Actuals.{fits_operand, fits_resolution, fits_type, fits_resolved_operand, formal_named, is_input_section, is_same_type, is_same_width, takes_section, takes_side, type_number}
use Rattle.stl_types.specs.Calls.{misfits_formal}
use Rattle.stl_types.specs.Constants.{takes_constant}
use Rattle.stl_types.specs.Context.{Context}
use Rattle.stl_types.specs.OperandRules.{operand_rule_of}
use Rattle.stl_types.specs.Resolution.{resolution_of}
use Rattle.stl_types.specs.declared.parameters.Formal.{Formal}
use Rattle.stl_types.specs.declared.resolved_operands.Resolution.TheVariants.{Resolved}
use Rattle.stl_types.specs.declared.resolved_operands.ResolvedOperand.{ResolvedOperand}
use Rattle.stl_types.specs.declared.resolved_operands.ResolvedOperand.TheVariants as resolved
use Rattle.stl_codegen.specs.GeneratedProgram.{section_number}
use Rattle.stl_codegen.specs.PassedParameters.{passed_actual, passed_place, passed_resolution, passings_from, actual_of_formal, with_index}
use Rattle.stl_codegen.specs.Operations.{operation_for}
use Rattle.sem_kept.specs.CodedBlocks.{HasBytes, OperandHasBytes}
use Rattle.sem_kept.specs.Operands.{ArePassed}
use Rattle.sem_kept.proofs.accepted.Accepted.{there}
use Rattle.sem_kept.proofs.accepted.CodedBits.{constant_taken}
use Rattle.sem_kept.proofs.accepted.OperandsFormals.{IsFoundIn, IsRecordOf, Matched}
use Rattle.sem_kept.proofs.accepted.OperandsViews.{ResolvesRight}
use Rattle.sem_kept.proofs.accepted.OperandsOperations.{HasWidth, IsRightOperand}
use Rattle.block_layout.proofs.CommonLemmas.{or_first}

-- ---- literals

one_byte : (bytes : List ℕ) → nat_eq (length bytes) 1 ≡ true → AreBytes bytes
    → nat_le (bits_of (literal.Characters bytes)) 255 ≡ true
unfolding bits_of
one_byte [] e h = absurd cc
one_byte (b ∷ []) e h = le-leb (256 * 0 + b) 255 (let few = h.0 in omega (arith, few))
one_byte (b ∷ c ∷ bs) e h =
    let never = eqb-true (length (b ∷ c ∷ bs)) 1 e in absurd (omega (arith, never))

word_fits : (value : Literal) → IsLiteral value → HasBytes value → fits_elementary_type value simple.Word ≡ true
    → nat_le (bits_of value) 65535 ≡ true
unfolding operand_rule_of takes_constant admits operation_for
word_fits value is has h = constant_taken code.Aw value is has h

truth_fits : (value : Literal) → fits_elementary_type value simple.Bool ≡ true → nat_le (bits_of value) 1 ≡ true
unfolding bits_of fits_elementary_type
truth_fits (literal.Truth true) h = refl
truth_fits (literal.Truth false) h = refl
truth_fits (literal.Number (pos n)) h = absurd cc
truth_fits (literal.Number (negsuc n)) h = absurd cc
truth_fits _ h = absurd cc

byte_fits : (value : Literal) → IsLiteral value → fits_elementary_type value simple.Byte ≡ true
    → nat_le (bits_of value) 255 ≡ true
unfolding bits_of fits_elementary_type
byte_fits (literal.Number (pos n)) is h = h
byte_fits (literal.Number (negsuc n)) is h = absurd cc
byte_fits (literal.Binary n) is h = h
byte_fits (literal.Byte n) is h = le-leb n 255 is
byte_fits (literal.Word n) is h = h
byte_fits _ is h = absurd cc

char_fits : (value : Literal) → HasBytes value → fits_elementary_type value simple.Char ≡ true
    → nat_le (bits_of value) 255 ≡ true
unfolding fits_elementary_type
char_fits (literal.Characters bytes) has h = one_byte bytes h has
char_fits (literal.Number (pos n)) has h = absurd cc
char_fits (literal.Number (negsuc n)) has h = absurd cc
char_fits _ has h = absurd cc

int_fits : (value : Literal) → IsLiteral value → fits_elementary_type value simple.Int ≡ true
    → nat_le (bits_of value) 65535 ≡ true
unfolding bits_of fits_elementary_type
int_fits (literal.Number (pos n)) is h =
    let few = leb-true n 32767 h in le-leb n 65535 (omega (arith, few))
int_fits (literal.Number (negsuc n)) is h = le-leb (65536 - (n + 1)) 65535 (omega arith)
int_fits _ is h = absurd cc

time_fits : (value : Literal) → IsLiteral value → HasBytes value → fits_elementary_type value simple.S5time ≡ true
    → nat_le (bits_of value) 65535 ≡ true
unfolding fits_elementary_type
time_fits (literal.S5time ms) is has h = word_fits (literal.S5time ms) is has refl
time_fits (literal.Number (pos n)) is has h = absurd cc
time_fits (literal.Number (negsuc n)) is has h = absurd cc
time_fits _ is has h = absurd cc

literal_width : (value : Literal) (kind : Simple) → IsLiteral value → HasBytes value
    → fits_elementary_type value kind ≡ true → literal_fits (width_number (width_of kind)) (bits_of value) ≡ true
literal_width value simple.Word is has h = word_fits value is has h
literal_width value simple.Bool is has h = truth_fits value h
literal_width value simple.Byte is has h = byte_fits value is h
literal_width value simple.Char is has h = char_fits value has h
literal_width value simple.Int is has h = int_fits value is h
literal_width value simple.S5time is has h = time_fits value is has h
literal_width value _ is has h = refl

-- ---- what is passed for a parameter

-- an actual parameter that a parameter's record is passed
pub record Passes (a : Environment) (c : Context) (r : ParameterRecord) (o : Operand) : Type 0 where
  pub actual : Passed
  pub is : passed_resolution o (resolution_of c o) ≡ Some actual
  pub right : is_bad_actual a actual ≡ false
  pub fits : misfits_parameter a r actual ≡ false

same_widths : (a b : Width) → is_same_width a b ≡ true → a ≡ b
same_widths width.Bit width.Bit e = refl
same_widths width.Byte width.Byte e = refl
same_widths width.Word width.Word e = refl
same_widths width.Dword width.Dword e = refl
same_widths _ _ e = absurd cc

same_types : (a b : Simple) → is_same_type a b ≡ true → width_of a ≡ width_of b
same_types a b e = by a b (eqb-true (type_number a) (type_number b) e)
  where
    by : (a b : Simple) → type_number a ≡ type_number b → width_of a ≡ width_of b
    by simple.Bool simple.Bool e = refl
    by simple.Byte simple.Byte e = refl
    by simple.Char simple.Char e = refl
    by simple.Word simple.Word e = refl
    by simple.Int simple.Int e = refl
    by simple.S5time simple.S5time e = refl
    by simple.Dword simple.Dword e = refl
    by simple.Dint simple.Dint e = refl
    by simple.Time simple.Time e = refl
    by _ _ e = absurd (omega (arith, e))

typed_width : (f : Formal) (w : Width) (declared : Option Simple) → fits_type f w declared ≡ true
    → HasWidth w declared → w ≡ width_of f.kind
typed_width f w None e h = same_widths w (width_of f.kind) e
typed_width f w (Some kind) e h = h ∙ same_types kind f.kind e

width_same : (r : ParameterRecord) (f : Formal) (w : Width) → IsRecordOf f r → w ≡ width_of f.kind
    → not (r.width == width_number w) ≡ false
width_same r f w h e = ap not (eq-eqb r.width (width_number w) (h.1 ∙ ap width_number (sym e)))

-- a place
place_passes : (a : Environment) (r : ParameterRecord) (ar : Area) (number byte bit : ℕ) (w : Width)
    → is_bad_place a ar w byte bit ≡ false → not (r.width == width_number w) ≡ false
    → (is_bad_actual a (passed_place (record { area = ar; number = number; byte = byte; bit = bit }) w) ≡ false)
    × (misfits_parameter a r (passed_place (record { area = ar; number = number; byte = byte; bit = bit }) w) ≡ false)
place_passes a r area.Db number byte bit w fits same = by (nat_eq number 0)
  where
    by : (t : Bool)
        → (is_bad_actual a (if true && not t then passed.InBlock number area.Db w byte bit else passed.Direct area.Db w byte bit) ≡ false)
        × (misfits_parameter a r (if true && not t then passed.InBlock number area.Db w byte bit else passed.Direct area.Db w byte bit) ≡ false)
    by true = (fits, same)
    by false = (or_first (is_odd_bit w bit) (is_past_locals a area.Db w byte) fits, same)
place_passes a r _ number byte bit w fits same = (fits, same)

section_input : (f : Formal) (r : ParameterRecord) → IsRecordOf f r
    → (r.section == section_in) ≡ is_input_section f.section
section_input f r h = ap (λ (n : ℕ). n == section_in) h.0 ∙ by f.section h.2
  where
    by : (p : PartKind) → is_parameter p ≡ true → (section_number p == section_in) ≡ is_input_section p
    by part.Input e = refl
    by part.Output e = refl
    by part.InOut e = refl
    by part.Static e = absurd cc
    by part.Temp e = absurd cc

own_section : (s own : Bool) → (s || not own) ≡ true → (not s && own) ≡ false
own_section true own e = refl
own_section false true e = absurd cc
own_section false false e = refl

view_passes : (a : Environment) (c : Context) (f : Formal) (r : ParameterRecord) (o : Operand) (v : ResolvedOperand)
    → resolution_of c o ≡ Resolved v → IsRightOperand a v → IsRecordOf f r → fits_resolved_operand f v ≡ true → Passes a c r o
unfolding fits_resolved_operand
view_passes a c f r o (resolved.Direct place w side declared) e fits h taken = record {
  actual = passed_place place w;
  is = ap (passed_resolution o) e;
  right = (place_passes a r place.area place.number place.byte place.bit w fits.0 same).0;
  fits = (place_passes a r place.area place.number place.byte place.bit w fits.0 same).1;
}
  where
    same : not (r.width == width_number w) ≡ false
    same = width_same r f w h (typed_width f w declared
        (and_first (fits_type f w declared) (takes_side f.section side) taken) fits.1)
view_passes a c f r o (resolved.Parameter index own declared) e fits h taken = record {
  actual = passed.Parameter index (width_of declared);
  is = ap (passed_resolution o) e;
  right = fits.0;
  fits = or_from (not (r.width == width_number (width_of declared)))
      (not (r.section == section_in) && is_input_parameter (parameter_meant a index))
      (width_same r f (width_of declared) h
      (same_types declared f.kind (and_first (is_same_type declared f.kind) (takes_section f.section own) taken)))
      (ap (λ (t : Bool). not t && is_input_parameter (parameter_meant a index)) (section_input f r h)
      ∙ ap (λ (t : Bool). not (is_input_section f.section) && t) fits.1
      ∙ own_section (is_input_section f.section) (is_input_section own)
      (and_second (is_same_type declared f.kind) (takes_section f.section own) taken));
}
view_passes a c f r o _ e fits h taken = absurd cc

other_passes : (a : Environment) (c : Context) (f : Formal) (r : ParameterRecord) (o : Operand)
    → ResolvesRight a (resolution_of c o) → IsRecordOf f r → fits_resolution f (resolution_of c o) ≡ true → Passes a c r o
other_passes a c f r o s h taken =
    view_passes a c f r o s.operand s.is s.fits h (ap (fits_resolution f) (sym s.is) ∙ taken)

constant_is : (c : Context) (value : Literal)
    → passed_resolution (operand.Constant value) (resolution_of c (operand.Constant value))
    ≡ Some (passed.Literal (bits_of value))
unfolding resolution_of
constant_is c value = refl

constant_passes : (a : Environment) (c : Context) (f : Formal) (r : ParameterRecord) (value : Literal)
    → IsLiteral value → HasBytes value → IsRecordOf f r
    → (is_input_section f.section && fits_elementary_type value f.kind) ≡ true
    → Passes a c r (operand.Constant value)
constant_passes a c f r value is has h taken = record {
  actual = passed.Literal (bits_of value);
  is = constant_is c value;
  right = refl;
  fits = or_from (not (r.section == section_in)) (not (literal_fits r.width (bits_of value)))
      (ap not (section_input f r h ∙ and_first (is_input_section f.section) (fits_elementary_type value f.kind) taken))
      (ap not (ap (λ (n : ℕ). literal_fits n (bits_of value)) h.1
      ∙ literal_width value f.kind is has (and_second (is_input_section f.section) (fits_elementary_type value f.kind) taken)));
}

pub passes : (a : Environment) (c : Context) (f : Formal) (r : ParameterRecord) (o : Operand)
    → ResolvesRight a (resolution_of c o) → IsOperand o → OperandHasBytes o → IsRecordOf f r
    → fits_operand c f o ≡ true → Passes a c r o
unfolding fits_operand
passes a c f r (operand.Constant value) s is has h taken = constant_passes a c f r value is has h taken
passes a c f r o s is has h taken = other_passes a c f r o s h taken

-- ---- the actual parameters of a call

-- an actual parameter of a call, by the parameters of what is called
pub record IsGoodActual (a : Environment) (c : Context) (formals : List Formal) (x : Actual) : Type 0 where
  pub resolves : ResolvesRight a (resolution_of c x.value)
  pub well : IsOperand x.value
  pub bytes : OperandHasBytes x.value
  pub fits : misfits_formal c x (formal_named formals x.name) ≡ false

found_holds : {A : Type 0} (P : A → Type 0) (test : A → Bool) (xs : List A) (x : A)
    → AllByRecursion P xs → find test xs ≡ Some x → P x × (test x ≡ true)
found_holds P test [] x h e = absurd cc
found_holds P test (z ∷ zs) x h e = by (test z) refl e (found_holds P test zs x h.1)
  where
    some_same : (y : _) → Some z ≡ Some y → z ≡ y
    some_same y e = cc

    by : (t : Bool) → test z ≡ t → (if t then Some z else find test zs) ≡ Some x
        → (find test zs ≡ Some x → P x × (test x ≡ true)) → P x × (test x ≡ true)
    by true is k more =
        let same = some_same x k in
        (subst P same h.0, ap test (sym same) ∙ is)
    by false is k more = more k

-- what is supplied for a parameter is passed
pub supplied_passes : (a : Environment) (c : Context) (formals : List Formal) (actuals : List Actual)
    (f : Formal) (r : ParameterRecord) (x : Actual)
    → AllByRecursion (IsGoodActual a c formals) actuals → IsFoundIn formals f → IsRecordOf f r
    → actual_of_formal actuals f ≡ Some x → Passes a c r x.value
supplied_passes a c formals actuals f r x good found h e =
    passes a c f r x.value one.0.resolves one.0.well one.0.bytes h
    (not-false (fits_operand c f x.value)
    (ap (misfits_formal c x) (sym (found (upper_case_name x.name) one.1)) ∙ one.0.fits))
  where
    one : IsGoodActual a c formals x × (bytes_eq (upper_case_name x.name) f.name ≡ true)
    one = found_holds (IsGoodActual a c formals) (λ x. bytes_eq (upper_case_name x.name) f.name) actuals x good e

-- indices from one on are above what was passed before
abbrev Under : (before : Option ℕ) → ℕ → Type 0
Under before i = (n : ℕ) → i ≤ n → is_above n before ≡ true

under_next : (before : Option ℕ) (i : ℕ) → Under before i → Under before (suc i)
under_next before i h n e = h n (omega (arith, e))

under_some : (i : ℕ) → Under (Some i) (suc i)
under_some i n e = lt-ltb i n e

there_at : {all : List ParameterRecord} (front : List ParameterRecord) (r : ParameterRecord)
    (rs : List ParameterRecord) (i : ℕ) → all ≡ front ++ r ∷ rs → length front ≡ i
    → slice_get all i ≡ Some r
there_at front r rs i e n =
    ap (λ (z : List ParameterRecord). slice_get z i) e
    ∙ ap (λ (k : ℕ). slice_get (front ++ r ∷ rs) k) (sym n) ∙ there front r rs

module _ (a : Environment) (c : Context) (formals : List Formal) (actuals : List Actual)
    (good : AllByRecursion (IsGoodActual a c formals) actuals)
    (called : CalleeSignature) where
  pub passed_from : (before : Option ℕ) (i : ℕ) (fs : List Formal) (front rs : List ParameterRecord)
      → Under before i → Matched fs rs → AllByRecursion (IsFoundIn formals) fs
      → called.params ≡ front ++ rs → length front ≡ i
      → ArePassed a (Some called) before (passings_from c actuals i fs)
  passed_from before i [] front rs under matched found e n = tt
  passed_from before i (f ∷ fs) front [] under matched found e n = absurd matched
  passed_from before i (f ∷ fs) front (r ∷ rs) under matched found e n =
      by (actual_of_formal actuals f) refl
      (λ last under. passed_from last (suc i) fs (front ++ r ∷ []) rs under matched.1 found.1
      (e ∙ sym (append_assoc front (r ∷ []) rs)) (longer front ∙ ap suc n))
    where
      longer : (xs : List ParameterRecord) → length (xs ++ r ∷ []) ≡ suc (length xs)
      longer [] = refl
      longer (x ∷ xs) = ap suc (longer xs)

      one : (x : Actual) → Passes a c r x.value
          → ((last : Option ℕ) → Under last (suc i) → ArePassed a (Some called) last (passings_from c actuals (suc i) fs))
          → ArePassed a (Some called) before
          (with_index i (passed_resolution x.value (resolution_of c x.value)) ++ passings_from c actuals (suc i) fs)
      one x p more =
          subst (λ (o : Option Passed). ArePassed a (Some called) before (with_index i o ++ passings_from c actuals (suc i) fs))
          (sym p.is) (
            under i (omega arith),
            p.right,
            ap (λ (o : Option ParameterRecord). misfits_index a o p.actual) (there_at front r rs i e n) ∙ p.fits,
            more (Some i) (under_some i),
          )

      by : (o : Option Actual) → actual_of_formal actuals f ≡ o
          → ((last : Option ℕ) → Under last (suc i) → ArePassed a (Some called) last (passings_from c actuals (suc i) fs))
          → ArePassed a (Some called) before (passed_actual c i o ++ passings_from c actuals (suc i) fs)
      by None is more = more before (under_next before i under)
      by (Some x) is more =
          one x (supplied_passes a c formals actuals f r x good found.0 matched.0 is) more
