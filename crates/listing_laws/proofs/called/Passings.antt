-- Listed calls: what they pass, and the rules of their actual parameters.
use Rattle.std.proofs.Common.{◌≡◌, inl, inr, ℕ, zero, suc, ◌+◌, ◌%◌, ◌<◌, ◌≤◌, Bool, true, false, cond, not, ◌&&◌, ◌||◌, nat_eq, nat_le, nat_lt, is_some, List, [], ◌∷◌, ◌++◌, length, map, append_assoc, find, bytes_eq, Option, Some, None, option_map, slice_get, refl, sym, ap, ap₂, subst, ◌∙◌, arith, if◌then◌else◌, eq-eqb, eqb-true, ne_eqb, leb-true, lt-ltb, le-ltb, le-leb}
use Rattle.std.specs.Prelude.{◌==◌}
use Rattle.std.specs.List.{AllByRecursion, list_all, list_any}
use Rattle.std.proofs.lemmas.Bool.{cases_lt}
use Rattle.std.proofs.lemmas.Bool.Decides.{nat_tests}
use Rattle.std.proofs.lemmas.Option.{same_Some, slice_get_within}
use Rattle.plc_base.specs.Folding.{upper_case_name}
use Rattle.plc_base.specs.Kinds.{is_function_block}
use Rattle.plc_base.specs.Widths.{width_number}
use Rattle.plc_base.specs.declared.places.Area.{Area}
use Rattle.plc_base.specs.declared.places.Area.TheVariants as area
use Rattle.plc_base.specs.declared.places.Width.{Width}
use Rattle.flat_code.specs.Blocks.{literal_fits}
use Rattle.flat_code.specs.Instr.{Passing}
use Rattle.flat_code.specs.declared.operands.Passed.{Passed}
use Rattle.flat_code.specs.declared.operands.Passed.TheVariants as passed
use Rattle.stl_ast.specs.Statements.{has_actuals}
use Rattle.stl_ast.specs.declared.blocks.Block.{Block}
use Rattle.stl_ast.specs.declared.blocks.PartKind.{PartKind}
use Rattle.stl_ast.specs.declared.blocks.PartKind.TheVariants as part
use Rattle.stl_ast.specs.declared.declarations.Simple.{Simple}
use Rattle.stl_ast.specs.declared.declarations.Simple.TheVariants as simple
use Rattle.stl_ast.specs.declared.operands.Letters.TheVariants as letters
use Rattle.stl_ast.specs.declared.operands.Operand.TheVariants as operand
use Rattle.stl_ast.specs.declared.statements.Actual.{Actual}
use Rattle.stl_symbols.specs.Names.{name_place}
use Rattle.block_layout.specs.Fits.{bits_of, fits_elementary_type}
use Rattle.block_layout.specs.Offsets.{width_of}
use Rattle.stl_types.specs.Actuals.{fits_operand, fits_resolution, fits_resolved_operand, formal_named, is_input_section, is_same_type, is_same_width, takes_section, takes_side, type_number}
use Rattle.stl_types.specs.Addresses.{address_in_block, side_of}
use Rattle.stl_types.specs.Calls.{is_supplied, is_supplied_twice, misfits_formal, names_no_formal, is_resolved_date, supplied_names, actuals_supplied_twice}
use Rattle.stl_types.specs.Context.{Context, data_number}
use Rattle.stl_types.specs.Resolution.{resolution_of}
use Rattle.stl_types.specs.declared.parameters.Formal.{Formal}
use Rattle.stl_types.specs.declared.resolved_operands.Resolution.TheVariants.{Resolved}
use Rattle.stl_types.specs.declared.resolved_operands.ResolvedOperand.TheVariants as resolved
use Rattle.stl_types.specs.declared.resolved_operands.Side.TheVariants as side
use Rattle.stl_codegen.specs.EmittedOps.{pass_ops}
use Rattle.stl_codegen.specs.Instruction.{source_block_at, in_parameter_order, return_last}
use Rattle.stl_codegen.specs.PassedParameters.{passed_actual, passed_resolution, passings_from, actual_of_formal, with_index}
use Rattle.stl_list.specs.Actuals.{actual_of_passed, actual_for, actuals_before, is_written, passed_operand}
use Rattle.stl_list.specs.Constants.{typed_constant}
use Rattle.stl_parser.specs.Operands.{data_block_name}
use Rattle.stl_list.specs.Operands.{direct_operand, letters_for_area, own_parameter}
use Rattle.listing_laws.specs.Chains.{is_listed_type}
use Rattle.listing_laws.specs.Passings.{AreActualsRight, AreAllPassed, AreCallsComplete, AreNamedApart, ArePassingsKept, AreRising, FitsListed, IsPassable, in_upper_case}

-- ---- constants

few_word : (n : ℕ) → nat_le n 65535 ≡ true → n % 65536 ≡ n
few_word n h = let few = leb-true n 65535 h in omega (arith, few)

few_byte : (n : ℕ) → nat_le n 255 ≡ true → n % 256 ≡ n
few_byte n h = let few = leb-true n 255 h in omega (arith, few)

truth_bits : (n : ℕ) → nat_le n 1 ≡ true → (if nat_lt 0 n then 1 else 0) ≡ n
truth_bits zero h = refl
truth_bits (suc zero) h = refl
truth_bits (suc (suc n)) h = let few = leb-true (suc (suc n)) 1 h in absurd (omega (arith, few))

int_bits : (n : ℕ) → n < 65536 → bits_of (typed_constant simple.Int n) ≡ n % 65536
unfolding bits_of
int_bits n h = elim (cases_lt (n % 65536) 32768) as (λ _. bits_of (typed_constant simple.Int n) ≡ n % 65536) [
  | inl lt ↦ rw (lt-ltb (n % 65536) 32768 lt) refl
  | inr ge ↦ rw (le-ltb (n % 65536) 32768 ge) (omega (arith, ge, h))
]

time_bits : (n : ℕ) → n < 4294967296 → bits_of (typed_constant simple.Time n) ≡ n
unfolding bits_of
time_bits n h = elim (cases_lt n 2147483648) as (λ _. bits_of (typed_constant simple.Time n) ≡ n) [
  | inl lt ↦ rw (lt-ltb n 2147483648 lt) refl
  | inr ge ↦ rw (le-ltb n 2147483648 ge) (omega (arith, ge, h))
]

pub literal_bits : (k : Simple) (n : ℕ) → is_listed_type k ≡ true → literal_fits (width_number (width_of k)) n ≡ true → n < 4294967296
    → bits_of (typed_constant k n) ≡ n
unfolding bits_of
literal_bits simple.Bool n e h few = truth_bits n h
literal_bits simple.Byte n e h few = few_byte n h
literal_bits simple.Word n e h few = few_word n h
literal_bits simple.Int n e h few = int_bits n (let small = leb-true n 65535 h in omega (arith, small)) ∙ few_word n h
literal_bits simple.Dword n e h few = refl
literal_bits simple.Time n e h few = time_bits n few
literal_bits simple.Char n e h few = absurd cc
literal_bits simple.S5time n e h few = absurd cc
literal_bits simple.Dint n e h few = absurd cc

int_fits : (n : ℕ) → fits_elementary_type (typed_constant simple.Int n) simple.Int ≡ true
unfolding fits_elementary_type
int_fits n = elim (cases_lt (n % 65536) 32768) as (λ _. fits_elementary_type (typed_constant simple.Int n) simple.Int ≡ true) [
  | inl lt ↦ rw (lt-ltb (n % 65536) 32768 lt) (le-leb (n % 65536) 32767 (omega (arith, lt)))
  | inr ge ↦ rw (le-ltb (n % 65536) 32768 ge) (lt-ltb _ 32768 (omega (arith, ge)))
]

pub literal_kind : (k : Simple) (n : ℕ) → is_listed_type k ≡ true → fits_elementary_type (typed_constant k n) k ≡ true
unfolding fits_elementary_type
literal_kind simple.Bool n e = refl
literal_kind simple.Byte n e = refl
literal_kind simple.Word n e = refl
literal_kind simple.Int n e = int_fits n
literal_kind simple.Dword n e = refl
literal_kind simple.Time n e = refl
literal_kind simple.Char n e = absurd cc
literal_kind simple.S5time n e = absurd cc
literal_kind simple.Dint n e = absurd cc

-- ---- what a listed actual parameter names

literal_sees : (c : Context) (k : Simple) (n : ℕ)
    → passed_resolution (operand.Constant (typed_constant k n)) (resolution_of c (operand.Constant (typed_constant k n))) ≡ Some (passed.Literal (bits_of (typed_constant k n)))
unfolding resolution_of
literal_sees c k n = refl

direct_sees : (c : Context) (writes : Bool) (a : Area) (w : Width) (byte bit : ℕ)
    → passed_resolution (direct_operand None writes a w byte bit) (resolution_of c (direct_operand None writes a w byte bit)) ≡ Some (passed.Direct a w byte bit)
unfolding resolution_of
direct_sees c writes area.I w byte bit = refl
direct_sees c writes area.Q w byte bit = refl
direct_sees c writes area.M w byte bit = refl
direct_sees c writes area.Db w byte bit = refl
direct_sees c writes area.Di w byte bit = refl
direct_sees c writes area.L w byte bit = refl
direct_sees c true area.P w byte bit = refl
direct_sees c false area.P w byte bit = refl

in_block_seen : (c : Context) (writes : Bool) (number : ℕ) (w : Width) (byte bit : ℕ) → data_number c (data_block_name number) ≡ Some number
    → resolution_of c (direct_operand (Some number) writes area.Db w byte bit)
    ≡ Resolved (resolved.Direct (record { area = area.Db; number = number; byte = byte; bit = bit }) w side.Both None)
unfolding resolution_of
in_block_seen c writes number w byte bit e = ap (λ (o : Option ℕ). address_in_block o letters.Db w byte bit) e

in_block_sees : (c : Context) (writes : Bool) (number : ℕ) (w : Width) (byte bit : ℕ) → nat_eq number 0 ≡ false → data_number c (data_block_name number) ≡ Some number
    → passed_resolution (direct_operand (Some number) writes area.Db w byte bit) (resolution_of c (direct_operand (Some number) writes area.Db w byte bit))
    ≡ Some (passed.InBlock number area.Db w byte bit)
in_block_sees c writes number w byte bit some e =
    ap (passed_resolution (direct_operand (Some number) writes area.Db w byte bit)) (in_block_seen c writes number w byte bit e)
    ∙ ap (λ (t : Bool). Some (if true && not t then passed.InBlock number area.Db w byte bit else passed.Direct area.Db w byte bit)) some

-- an actual parameter passes what its op passes
pub sees : (c : Context) (own : List Formal) (f : Formal) (p : Passed) → FitsListed c own f p
    → passed_resolution (passed_operand own f p) (resolution_of c (passed_operand own f p)) ≡ Some p
sees c own f (passed.Literal value) h = literal_sees c f.kind value ∙ ap (λ (n : ℕ). Some (passed.Literal n)) (literal_bits f.kind value h.1 h.2 h.3)
sees c own f (passed.Direct a w byte bit) h = direct_sees c (is_written f.section) a w byte bit
sees c own f (passed.InBlock number a w byte bit) h =
    subst (λ (g : Area). passed_resolution (direct_operand (Some number) (is_written f.section) g w byte bit) (resolution_of c (direct_operand (Some number) (is_written f.section) g w byte bit)) ≡ Some (passed.InBlock number g w byte bit))
    (sym h.1) (in_block_sees c (is_written f.section) number w byte bit h.2 h.3)
sees c own f (passed.Parameter index w) h =
    ap (passed_resolution (own_parameter own index)) h.4 ∙ ap (λ (x : Width). Some (passed.Parameter index x)) (sym h.1)

-- and fits its parameter
same_width : (a b : Width) → a ≡ b → is_same_width a b ≡ true
same_width a b e = eq-eqb (width_number a) (width_number b) (ap width_number e)

same_type : (a b : Simple) → a ≡ b → is_same_type a b ≡ true
same_type a b e = eq-eqb (type_number a) (type_number b) (ap type_number e)

both : (s t : Bool) → s ≡ true → t ≡ true → (s && t) ≡ true
both s t e f = ap₂ (λ (x y : Bool). x && y) e f

side_taken : (section : PartKind) (a : Area) → takes_side section (side_of (letters_for_area (is_written section) a)) ≡ true
side_taken section area.I = refl
side_taken section area.Q = refl
side_taken section area.M = refl
side_taken section area.Db = refl
side_taken section area.Di = refl
side_taken section area.L = refl
side_taken part.Input area.P = refl
side_taken part.Output area.P = refl
side_taken part.InOut area.P = refl
side_taken part.Static area.P = refl
side_taken part.Temp area.P = refl

direct_fits : (c : Context) (f : Formal) (a : Area) (w : Width) (byte bit : ℕ) → w ≡ width_of f.kind
    → fits_operand c f (direct_operand None (is_written f.section) a w byte bit) ≡ true
unfolding fits_operand fits_resolved_operand resolution_of
direct_fits c f a w byte bit e =
    both (is_same_width w (width_of f.kind)) (takes_side f.section (side_of (letters_for_area (is_written f.section) a))) (same_width w (width_of f.kind) e) (side_taken f.section a)

in_block_fits : (c : Context) (f : Formal) (number : ℕ) (w : Width) (byte bit : ℕ) → w ≡ width_of f.kind → data_number c (data_block_name number) ≡ Some number
    → fits_operand c f (direct_operand (Some number) (is_written f.section) area.Db w byte bit) ≡ true
unfolding fits_operand fits_resolved_operand
in_block_fits c f number w byte bit e there =
    ap (fits_resolution f) (in_block_seen c (is_written f.section) number w byte bit there)
    ∙ both (is_same_width w (width_of f.kind)) true (same_width w (width_of f.kind) e) refl

own_fits : (c : Context) (own : List Formal) (f g : Formal) (index : ℕ) → resolution_of c (own_parameter own index) ≡ Resolved (resolved.Parameter index g.section g.kind)
    → g.kind ≡ f.kind → takes_section f.section g.section ≡ true → fits_operand c f (own_parameter own index) ≡ true
unfolding fits_operand fits_resolved_operand
own_fits c own f g index there kind section =
    ap (fits_resolution f) there ∙ both (is_same_type g.kind f.kind) (takes_section f.section g.section) (same_type g.kind f.kind kind) section

literal_fitted : (c : Context) (f : Formal) (n : ℕ) → is_input_section f.section ≡ true → is_listed_type f.kind ≡ true
    → fits_operand c f (operand.Constant (typed_constant f.kind n)) ≡ true
unfolding fits_operand
literal_fitted c f n section is_listed =
    both (is_input_section f.section) (fits_elementary_type (typed_constant f.kind n) f.kind) section (literal_kind f.kind n is_listed)

operand_fitted : (c : Context) (own : List Formal) (f : Formal) (p : Passed) → FitsListed c own f p → fits_operand c (in_upper_case f) (passed_operand own f p) ≡ true
operand_fitted c own f (passed.Literal value) h = literal_fitted c (in_upper_case f) value h.0 h.1
operand_fitted c own f (passed.Direct a w byte bit) h = direct_fits c (in_upper_case f) a w byte bit h
operand_fitted c own f (passed.InBlock number a w byte bit) h =
    subst (λ (g : Area). fits_operand c (in_upper_case f) (direct_operand (Some number) (is_written f.section) g w byte bit) ≡ true)
    (sym h.1) (in_block_fits c (in_upper_case f) number w byte bit h.0 h.3)
operand_fitted c own f (passed.Parameter index w) h = own_fits c own (in_upper_case f) h.0 index h.4 h.2 h.3

-- no DATE_AND_TIME among them
plain_dated : (c : Context) (k : Simple) (n : ℕ) → is_resolved_date (resolution_of c (operand.Constant (typed_constant k n))) ≡ false
unfolding resolution_of
plain_dated c k n = refl

direct_dated : (c : Context) (writes : Bool) (a : Area) (w : Width) (byte bit : ℕ) → is_resolved_date (resolution_of c (direct_operand None writes a w byte bit)) ≡ false
unfolding resolution_of
direct_dated c writes a w byte bit = refl

pub operand_undated : (c : Context) (own : List Formal) (f : Formal) (p : Passed) → FitsListed c own f p → is_resolved_date (resolution_of c (passed_operand own f p)) ≡ false
operand_undated c own f (passed.Literal value) h = plain_dated c f.kind value
operand_undated c own f (passed.Direct a w byte bit) h = direct_dated c (is_written f.section) a w byte bit
operand_undated c own f (passed.InBlock number a w byte bit) h =
    subst (λ (g : Area). is_resolved_date (resolution_of c (direct_operand (Some number) (is_written f.section) g w byte bit)) ≡ false)
    (sym h.1) (ap is_resolved_date (in_block_seen c (is_written f.section) number w byte bit h.3))
operand_undated c own f (passed.Parameter index w) h = ap is_resolved_date h.4

-- ---- lists

at_seam : {A : Type 0} (front : List A) (x : A) (xs : List A) → slice_get (front ++ x ∷ xs) (length front) ≡ Some x
at_seam [] x xs = refl
at_seam (y ∷ front) x xs = at_seam front x xs

got_front : {A : Type 0} (xs ys : List A) (i : ℕ) (x : A) → slice_get xs i ≡ Some x → slice_get (xs ++ ys) i ≡ Some x
got_front [] ys i x e = absurd cc
got_front (z ∷ xs) ys zero x e = e
got_front (z ∷ xs) ys (suc i) x e = got_front xs ys i x e

any_turned : (test : Formal → Bool) (f : Formal) (gs : List Formal) → list_any test (gs ++ f ∷ []) ≡ (test f || list_any test gs)
any_turned test f [] = refl
any_turned test f (g ∷ gs) = ap (λ (t : Bool). test g || t) (any_turned test f gs) ∙ by (test g) (test f) (list_any test gs)
  where
    by : (a b t : Bool) → (a || (b || t)) ≡ (b || (a || t))
    by true true t = refl
    by true false t = refl
    by false b t = refl

all_turned : (test : Formal → Bool) (f : Formal) (gs : List Formal) → list_all test (gs ++ f ∷ []) ≡ (test f && list_all test gs)
all_turned test f [] = refl
all_turned test f (g ∷ gs) = ap (λ (t : Bool). test g && t) (all_turned test f gs) ∙ by (test g) (test f) (list_all test gs)
  where
    by : (a b t : Bool) → (a && (b && t)) ≡ (b && (a && t))
    by true b t = refl
    by false true t = refl
    by false false t = refl

any_ordered : (test : Formal → Bool) (o : Option Block) (fs : List Formal) → list_any test (in_parameter_order o fs) ≡ list_any test fs
any_ordered test None fs = refl
any_ordered test (Some b) fs = by b.result fs
  where
    by : (r : Option Simple) (fs : List Formal) → list_any test (return_last r fs) ≡ list_any test fs
    by None fs = refl
    by (Some r) [] = refl
    by (Some r) (f ∷ fs) = any_turned test f fs

all_ordered : (test : Formal → Bool) (o : Option Block) (fs : List Formal) → list_all test (in_parameter_order o fs) ≡ list_all test fs
all_ordered test None fs = refl
all_ordered test (Some b) fs = by b.result fs
  where
    by : (r : Option Simple) (fs : List Formal) → list_all test (return_last r fs) ≡ list_all test fs
    by None fs = refl
    by (Some r) [] = refl
    by (Some r) (f ∷ fs) = all_turned test f fs

-- a parameter of the block stands among those by index
abbrev Stands : List Formal → Formal → Type 0
Stands fs f = (i : ℕ) × (slice_get fs i ≡ Some f)

stands_ordered : (o : Option Block) (fs : List Formal) (f : Formal) → Stands fs f → Stands (in_parameter_order o fs) f
stands_ordered None fs f h = h
stands_ordered (Some b) fs f h = by b.result fs h.0 h.1
  where
    by : (r : Option Simple) (fs : List Formal) (i : ℕ) → slice_get fs i ≡ Some f → Stands (return_last r fs) f
    by None fs i e = (i, e)
    by (Some r) [] i e = absurd cc
    by (Some r) (g ∷ gs) zero e = (length gs, at_seam gs g [] ∙ e)
    by (Some r) (g ∷ gs) (suc i) e = (i, got_front gs (g ∷ []) i f e)

found_stands : (test : Formal → Bool) (fs : List Formal) (f : Formal) → find test fs ≡ Some f → (test f ≡ true) × Stands fs f
found_stands test [] f e = absurd cc
found_stands test (g ∷ gs) f e = by (test g) refl (λ h. found_stands test gs f h) e
  where
    later : (test f ≡ true) × Stands gs f → (test f ≡ true) × Stands (g ∷ gs) f
    later h = (h.0, (suc h.1.0, h.1.1))

    by : (t : Bool) → test g ≡ t → (find test gs ≡ Some f → (test f ≡ true) × Stands gs f) → cond t (Some g) (find test gs) ≡ Some f
        → (test f ≡ true) × Stands (g ∷ gs) f
    by true is more h = let same : g ≡ f = same_Some g f h in (subst (λ (x : Formal). test x ≡ true) same is, (0, h))
    by false is more h = later (more h)

any_there : (test : Formal → Bool) (fs : List Formal) (i : ℕ) (f : Formal) → slice_get fs i ≡ Some f → test f ≡ true → list_any test fs ≡ true
any_there test [] i f e h = absurd cc
any_there test (g ∷ gs) zero f e h =
    ap (λ (t : Bool). t || list_any test gs) (ap test (same_Some g f e) ∙ h)
any_there test (g ∷ gs) (suc i) f e h = ap (λ (t : Bool). test g || t) (any_there test gs i f e h) ∙ by (test g)
  where
    by : (t : Bool) → (t || true) ≡ true
    by true = refl
    by false = refl

all_there : (test : Formal → Bool) (fs : List Formal) → ((i : ℕ) (f : Formal) → slice_get fs i ≡ Some f → test f ≡ true) → list_all test fs ≡ true
all_there test [] h = refl
all_there test (f ∷ fs) h = both (test f) (list_all test fs) (h 0 f refl) (all_there test fs (λ i g e. h (suc i) g e))

-- ---- names

itself : (n : ℕ) → (n == n) ≡ true
itself n = eq-eqb n n refl

-- parameters by their index, with names in upper case
at_upper : (fs : List Formal) (i : ℕ) (f : Formal) → slice_get fs i ≡ Some f → slice_get (map in_upper_case fs) i ≡ Some (in_upper_case f)
at_upper [] i f e = absurd cc
at_upper (g ∷ fs) zero f e = ap (λ (z : Formal). Some (in_upper_case z)) (same_Some g f e)
at_upper (g ∷ fs) (suc i) f e = at_upper fs i f e

from_upper : (fs : List Formal) (i : ℕ) (g : Formal) → slice_get (map in_upper_case fs) i ≡ Some g → (f : Formal) × (slice_get fs i ≡ Some f) × (in_upper_case f ≡ g)
from_upper [] i g e = absurd cc
from_upper (f ∷ fs) zero g e = (f, refl, same_Some (in_upper_case f) g e)
from_upper (f ∷ fs) (suc i) g e = from_upper fs i g e

-- ---- the actual parameters of a call

abbrev pub actuals_listed : (line : ℕ) (own called : List Formal) → List Passing → List Actual
actuals_listed line own called ps = actuals_before line own called (pass_ops ps)

one_more : (line : ℕ) (own called : List Formal) (p : Passing) (ps : List Passing) (f : Formal) → slice_get called p.index ≡ Some f
    → actuals_listed line own called (p ∷ ps) ≡ actual_of_passed line own f p.actual ∷ actuals_listed line own called ps
one_more line own called p ps f e = ap (λ (o : Option Formal). actual_for line own o p.actual ++ actuals_listed line own called ps) e

pub all_actuals : (c : Context) (own called : List Formal) (line : ℕ) (P : Actual → Type 0)
    → ((p : Passing) (f : Formal) → slice_get called p.index ≡ Some f → FitsListed c own f p.actual → P (actual_of_passed line own f p.actual))
    → (ps : List Passing) → AllByRecursion (IsPassable c own called) ps → AllByRecursion P (actuals_listed line own called ps)
all_actuals c own called line P each [] h = tt
all_actuals c own called line P each (p ∷ ps) h =
    subst (λ (xs : List Actual). AllByRecursion P xs) (sym (one_more line own called p ps h.0.formal h.0.there))
    (each p h.0.formal h.0.there h.0.fits, all_actuals c own called line P each ps h.1)

-- the one for the parameter of an index
abbrev passed_at : ℕ → List Passing → Option Passing
passed_at i ps = find (λ (p : Passing). p.index == i) ps

module _ (c : Context) (own called : List Formal) (line : ℕ) (named : AreNamedApart called) where
  supplied_is : (i : ℕ) (f : Formal) → slice_get called i ≡ Some f → (ps : List Passing) → AllByRecursion (IsPassable c own called) ps
      → actual_of_formal (actuals_listed line own called ps) (in_upper_case f) ≡ option_map (λ (p : Passing). actual_of_passed line own f p.actual) (passed_at i ps)
  supplied_is i f e [] h = refl
  supplied_is i f e (p ∷ ps) h =
      ap (λ (xs : List Actual). actual_of_formal xs (in_upper_case f)) (one_more line own called p ps h.0.formal h.0.there)
      ∙ ap (λ (t : Bool). cond t (Some (actual_of_passed line own h.0.formal p.actual)) (actual_of_formal (actuals_listed line own called ps) (in_upper_case f))) (named p.index i h.0.formal f h.0.there e)
      ∙ by (p.index == i) refl (supplied_is i f e ps h.1)
    where
      by : (t : Bool) → (p.index == i) ≡ t
          → actual_of_formal (actuals_listed line own called ps) (in_upper_case f) ≡ option_map (λ (p : Passing). actual_of_passed line own f p.actual) (passed_at i ps)
          → cond t (Some (actual_of_passed line own h.0.formal p.actual)) (actual_of_formal (actuals_listed line own called ps) (in_upper_case f))
          ≡ option_map (λ (p : Passing). actual_of_passed line own f p.actual) (cond t (Some p) (passed_at i ps))
      by true is more =
          let same : h.0.formal ≡ f = same_Some h.0.formal f (sym h.0.there ∙ ap (slice_get called) (eqb-true p.index i is) ∙ e) in
          ap (λ (g : Formal). Some (actual_of_passed line own g p.actual)) same
      by false is more = more

  -- what is passed for a parameter
  abbrev pick : Option Passing → List Passing
  pick None = []
  pick (Some p) = p ∷ []

  found_passing : (i : ℕ) (ps : List Passing) → AllByRecursion (IsPassable c own called) ps → (q : Passing) → passed_at i ps ≡ Some q
      → IsPassable c own called q × (q.index ≡ i)
  found_passing i [] h q e = absurd cc
  found_passing i (p ∷ ps) h q e = by (p.index == i) refl (λ k. found_passing i ps h.1 q k) e
    where
      by : (t : Bool) → (p.index == i) ≡ t → (passed_at i ps ≡ Some q → IsPassable c own called q × (q.index ≡ i))
          → cond t (Some p) (passed_at i ps) ≡ Some q → IsPassable c own called q × (q.index ≡ i)
      by true is more e =
          let same : p ≡ q = same_Some p q e in
          subst (λ (z : Passing). IsPassable c own called z × (z.index ≡ i)) same (h.0, eqb-true p.index i is)
      by false is more e = more e

  one_passed : (i : ℕ) (f : Formal) → slice_get called i ≡ Some f → (ps : List Passing) → AllByRecursion (IsPassable c own called) ps
      → passed_actual c i (actual_of_formal (actuals_listed line own called ps) (in_upper_case f)) ≡ pick (passed_at i ps)
  one_passed i f e ps h = ap (passed_actual c i) (supplied_is i f e ps h) ∙ by (passed_at i ps) refl
    where
      by : (o : Option Passing) → passed_at i ps ≡ o → passed_actual c i (option_map (λ (p : Passing). actual_of_passed line own f p.actual) o) ≡ pick o
      by None is = refl
      by (Some q) is =
          let found = found_passing i ps h q is in
          let same : found.0.formal ≡ f = same_Some found.0.formal f (sym found.0.there ∙ ap (slice_get called) found.1 ∙ e) in
          ap (with_index i) (sees c own f q.actual (subst (λ (g : Formal). FitsListed c own g q.actual) same found.0.fits))
          ∙ ap (λ (k : ℕ). record { index = k; actual = q.actual } ∷ []) (sym found.1)

  abbrev picks : List Passing → ℕ → List Formal → List Passing
  picks ps i [] = []
  picks ps i (f ∷ fs) = pick (passed_at i ps) ++ picks ps (suc i) fs

  picked_from : (ps : List Passing) → AllByRecursion (IsPassable c own called) ps → (front : List Formal) (i : ℕ) (fs : List Formal)
      → called ≡ front ++ fs → length front ≡ i → passings_from c (actuals_listed line own called ps) i (map in_upper_case fs) ≡ picks ps i fs
  picked_from ps h front i [] e n = refl
  picked_from ps h front i (f ∷ fs) e n =
      ap₂ (λ (xs ys : List Passing). xs ++ ys)
      (one_passed i f (ap (λ (z : List Formal). slice_get z i) e ∙ ap (slice_get (front ++ f ∷ fs)) (sym n) ∙ at_seam front f fs) ps h)
      (picked_from ps h (front ++ f ∷ []) (suc i) fs (e ∙ sym (append_assoc front (f ∷ []) fs)) (longer front ∙ ap suc n))
    where
      longer : (xs : List Formal) → length (xs ++ f ∷ []) ≡ suc (length xs)
      longer [] = refl
      longer (x ∷ xs) = ap suc (longer xs)

  none_passed : (i : ℕ) (ps : List Passing) → AreRising (suc i) ps → passed_at i ps ≡ None
  none_passed i [] h = refl
  none_passed i (p ∷ ps) h =
      ap (λ (t : Bool). cond t (Some p) (passed_at i ps)) (ne_eqb p.index i (λ e. let low = h.0 in omega (arith, e, low)))
      ∙ none_passed i ps (rising_on (suc p.index) (suc i) ps (let low = h.0 in omega (arith, low)) h.1)
    where
      rising_on : (k j : ℕ) (ps : List Passing) → j ≤ k → AreRising k ps → AreRising j ps
      rising_on k j [] le h = tt
      rising_on k j (p ∷ ps) le h = ((let low = h.0 in omega (arith, low, le)), h.1)

  skipped : (p : Passing) (ps : List Passing) (i : ℕ) (fs : List Formal) → p.index < i → picks (p ∷ ps) i fs ≡ picks ps i fs
  skipped p ps i [] h = refl
  skipped p ps i (f ∷ fs) h =
      ap₂ (λ (o : Option Passing) (ys : List Passing). pick o ++ ys)
      (ap (λ (t : Bool). cond t (Some p) (passed_at i ps)) (ne_eqb p.index i (λ e. omega (arith, e, h))))
      (skipped p ps (suc i) fs (omega (arith, h)))

  picked_all : (i : ℕ) (fs : List Formal) (ps : List Passing) → AreRising i ps → AllByRecursion (λ (p : Passing). p.index < i + length fs) ps
      → picks ps i fs ≡ ps
  picked_all i [] [] rising few = refl
  picked_all i [] (p ∷ ps) rising few = let low = rising.0 in let high = few.0 in absurd (omega (arith, low, high))
  picked_all i (f ∷ fs) [] rising few = picked_all (suc i) fs [] tt tt
  picked_all i (f ∷ fs) (p ∷ ps) rising few = by (p.index == i) refl (λ qs r k. picked_all (suc i) fs qs r k)
    where
      fewer : (qs : List Passing) → AllByRecursion (λ (p : Passing). p.index < i + length (f ∷ fs)) qs → AllByRecursion (λ (p : Passing). p.index < suc i + length fs) qs
      fewer [] h = tt
      fewer (q ∷ qs) h = ((let one = h.0 in omega (arith, one)), fewer qs h.1)

      by : (t : Bool) → (p.index == i) ≡ t
          → ((qs : List Passing) → AreRising (suc i) qs → AllByRecursion (λ (p : Passing). p.index < suc i + length fs) qs → picks qs (suc i) fs ≡ qs)
          → pick (cond t (Some p) (passed_at i ps)) ++ picks (p ∷ ps) (suc i) fs ≡ p ∷ ps
      by true is more =
          let same : p.index ≡ i = eqb-true p.index i is in
          ap (λ (ys : List Passing). p ∷ ys)
          (skipped p ps (suc i) fs (omega (arith, same))
          ∙ more ps (subst (λ (k : ℕ). AreRising (suc k) ps) same rising.1) (fewer ps few.1))
      by false is more =
          let low = rising.0 in
          let above : suc i ≤ p.index = past low is in
          let rest : AreRising (suc i) (p ∷ ps) = (above, rising.1) in
          ap (λ (o : Option Passing). pick o ++ picks (p ∷ ps) (suc i) fs)
          (ap (λ (t : Bool). cond t (Some p) (passed_at i ps)) (sym is) ∙ none_passed i (p ∷ ps) rest)
          ∙ more (p ∷ ps) rest (fewer (p ∷ ps) few)
        where
          past : i ≤ p.index → (p.index == i) ≡ false → suc i ≤ p.index
          past low e = grind (arith, nat_tests)

  few_passed : (ps : List Passing) → AllByRecursion (IsPassable c own called) ps → AllByRecursion (λ (p : Passing). p.index < 0 + length called) ps
  few_passed [] h = tt
  few_passed (p ∷ ps) h = ((let one = slice_get_within called p.index h.0.formal h.0.there in omega (arith, one)), few_passed ps h.1)

  all_passed : (ps : List Passing) → AllByRecursion (IsPassable c own called) ps → AreRising 0 ps → passings_from c (actuals_listed line own called ps) 0 (map in_upper_case called) ≡ ps
  all_passed ps h rising = picked_from ps h [] 0 called refl refl ∙ picked_all 0 called ps rising (few_passed ps h)

  -- ---- rules

  each_named : (fs : List Formal) (o : Option Block) → in_parameter_order o fs ≡ map in_upper_case called → (p : Passing) (f : Formal) → slice_get called p.index ≡ Some f
      → names_no_formal fs (actual_of_passed line own f p.actual) ≡ false
  each_named fs o order p f e =
      ap not (sym (any_ordered (λ (g : Formal). bytes_eq (upper_case_name f.name) g.name) o fs)
      ∙ ap (list_any (λ (g : Formal). bytes_eq (upper_case_name f.name) g.name)) order
      ∙ any_there (λ (g : Formal). bytes_eq (upper_case_name f.name) g.name) (map in_upper_case called) p.index (in_upper_case f) (at_upper called p.index f e) (named p.index p.index f f e e ∙ itself p.index))

  each_fits : (fs : List Formal) (o : Option Block) → in_parameter_order o fs ≡ map in_upper_case called → (p : Passing) (f : Formal) → slice_get called p.index ≡ Some f
      → FitsListed c own f p.actual → misfits_formal c (actual_of_passed line own f p.actual) (formal_named fs f.name) ≡ false
  each_fits fs o order p f e h = by (formal_named fs f.name) refl
    where
      is_own : (g : Formal) → (bytes_eq (upper_case_name f.name) g.name ≡ true) × Stands fs g → in_upper_case f ≡ g
      is_own g found =
          let there = subst (λ (z : List Formal). Stands z g) order (stands_ordered o fs g found.1) in
          let raw = from_upper called there.0 g there.1 in
          let test : bytes_eq (upper_case_name f.name) (upper_case_name raw.0.name) ≡ true = ap (λ (z : Formal). bytes_eq (upper_case_name f.name) z.name) raw.2 ∙ found.0 in
          let at : p.index ≡ there.0 = eqb-true p.index there.0 (sym (named p.index there.0 f raw.0 e raw.1) ∙ test) in
          ap in_upper_case (same_Some f raw.0 (sym e ∙ ap (slice_get called) at ∙ raw.1)) ∙ raw.2

      by : (x : Option Formal) → formal_named fs f.name ≡ x → misfits_formal c (actual_of_passed line own f p.actual) x ≡ false
      by None is = refl
      by (Some g) is =
          ap (λ (z : Formal). not (fits_operand c z (passed_operand own f p.actual))) (sym (is_own g (found_stands (λ (z : Formal). bytes_eq (upper_case_name f.name) z.name) fs g is)))
          ∙ ap not (operand_fitted c own f p.actual h)

  -- names that come later are new
  abbrev AreNew : ℕ → List (List ℕ) → Type 0
  AreNew i before = (j : ℕ) (g : Formal) → i ≤ j → slice_get called j ≡ Some g → name_place (upper_case_name g.name) before ≡ None

  absent_both : (n : List ℕ) (xs : List (List ℕ)) (y : List ℕ) → name_place n xs ≡ None → bytes_eq n y ≡ false → name_place n (xs ++ y ∷ []) ≡ None
  absent_both n [] y e f = ap (λ (t : Bool). if t then Some 0 else option_map (λ k. suc k) (name_place n [])) f
  absent_both n (x ∷ xs) y e f = by (bytes_eq n x) e (λ h. absent_both n xs y h f)
    where
      none_suc : (o : Option ℕ) → option_map (λ k. suc k) o ≡ None → o ≡ None
      none_suc None h = refl
      none_suc (Some m) h = absurd cc

      by : (t : Bool) → (if t then Some 0 else option_map (λ k. suc k) (name_place n xs)) ≡ None
          → (name_place n xs ≡ None → name_place n (xs ++ y ∷ []) ≡ None)
          → (if t then Some 0 else option_map (λ k. suc k) (name_place n (xs ++ y ∷ []))) ≡ None
      by true h more = absurd cc
      by false h more = ap (λ (o : Option ℕ). option_map (λ k. suc k) o) (more (none_suc (name_place n xs) h))

  new_more : (p : Passing) (f : Formal) (i : ℕ) (before : List (List ℕ)) → slice_get called p.index ≡ Some f → i ≤ p.index → AreNew i before
      → AreNew (suc p.index) (before ++ upper_case_name f.name ∷ [])
  new_more p f i before e low new j g le there =
      absent_both (upper_case_name g.name) before (upper_case_name f.name) (new j g (omega (arith, le, low)) there)
      (named j p.index g f there e ∙ ne_eqb j p.index (λ same. omega (arith, same, le)))

  once_from : (fs : List Formal) (i : ℕ) (before : List (List ℕ)) (ps : List Passing) → AllByRecursion (IsPassable c own called) ps → AreRising i ps
      → AreNew i before → actuals_supplied_twice fs before (actuals_listed line own called ps) ≡ []
  once_from fs i before [] h rising new = refl
  once_from fs i before (p ∷ ps) h rising new =
      ap (actuals_supplied_twice fs before) (one_more line own called p ps h.0.formal h.0.there)
      ∙ ap (λ (t : Bool). (if t then record { line = line; rule = 35 } ∷ [] else []) ++ actuals_supplied_twice fs (before ++ upper_case_name h.0.formal.name ∷ []) (actuals_listed line own called ps)) not_twice
      ∙ once_from fs (suc p.index) (before ++ upper_case_name h.0.formal.name ∷ []) ps h.1 rising.1 (new_more p h.0.formal i before h.0.there rising.0 new)
    where
      no_second : (t : Bool) → (t && false) ≡ false
      no_second true = refl
      no_second false = refl

      not_twice : is_supplied_twice fs before (actual_of_passed line own h.0.formal p.actual) ≡ false
      not_twice =
          ap (λ (o : Option ℕ). not (names_no_formal fs (actual_of_passed line own h.0.formal p.actual)) && is_some o) (new p.index h.0.formal rising.0 h.0.there)
          ∙ no_second (not (names_no_formal fs (actual_of_passed line own h.0.formal p.actual)))

  -- each parameter that is passed is supplied
  place_there : (i : ℕ) (f : Formal) → slice_get called i ≡ Some f → (ps : List Passing) → AllByRecursion (IsPassable c own called) ps
      → list_any (λ (p : Passing). p.index == i) ps ≡ true → is_some (name_place (upper_case_name f.name) (supplied_names (actuals_listed line own called ps))) ≡ true
  place_there i f e [] h passes = absurd cc
  place_there i f e (p ∷ ps) h passes =
      ap (λ (xs : List Actual). is_some (name_place (upper_case_name f.name) (supplied_names xs))) (one_more line own called p ps h.0.formal h.0.there)
      ∙ ap (λ (t : Bool). is_some (if t then Some 0 else option_map (λ k. suc k) (name_place (upper_case_name f.name) (supplied_names (actuals_listed line own called ps))))) test
      ∙ by (p.index == i) passes (place_there i f e ps h.1)
    where
      turned : (a b : ℕ) → (a == b) ≡ (b == a)
      turned a b = by (a == b) refl
        where
          by : (t : Bool) → (a == b) ≡ t → t ≡ (b == a)
          by true h = sym (eq-eqb b a (sym (eqb-true a b h)))
          by false h = sym (ne_eqb b a (λ same. let yes = eq-eqb a b (sym same) in absurd cc))

      test : bytes_eq (upper_case_name f.name) (upper_case_name h.0.formal.name) ≡ (p.index == i)
      test = named i p.index f h.0.formal e h.0.there ∙ turned i p.index

      some_suc : (o : Option ℕ) → is_some o ≡ true → is_some (option_map (λ k. suc k) o) ≡ true
      some_suc None h = absurd cc
      some_suc (Some m) h = refl

      by : (t : Bool) → (t || list_any (λ (p : Passing). p.index == i) ps) ≡ true
          → (list_any (λ (p : Passing). p.index == i) ps ≡ true → is_some (name_place (upper_case_name f.name) (supplied_names (actuals_listed line own called ps))) ≡ true)
          → is_some (if t then Some 0 else option_map (λ k. suc k) (name_place (upper_case_name f.name) (supplied_names (actuals_listed line own called ps)))) ≡ true
      by true any more = refl
      by false any more = some_suc (name_place (upper_case_name f.name) (supplied_names (actuals_listed line own called ps))) (more any)

  all_supplied : (fs : List Formal) (o : Option Block) → in_parameter_order o fs ≡ map in_upper_case called → (ps : List Passing) → AllByRecursion (IsPassable c own called) ps
      → AreAllPassed called ps → list_all (is_supplied (supplied_names (actuals_listed line own called ps))) fs ≡ true
  all_supplied fs o order ps h passes =
      sym (all_ordered (is_supplied (supplied_names (actuals_listed line own called ps))) o fs)
      ∙ ap (list_all (is_supplied (supplied_names (actuals_listed line own called ps)))) order
      ∙ all_there (is_supplied (supplied_names (actuals_listed line own called ps))) (map in_upper_case called)
      (λ i g e.
      let raw = from_upper called i g e in
      ap (is_supplied (supplied_names (actuals_listed line own called ps))) (sym raw.2)
      ∙ place_there i raw.0 raw.1 ps h (passes i (slice_get_within called i raw.0 raw.1)))

-- ---- the laws

pub passings_kept : ArePassingsKept
passings_kept c own called callee ps s h =
    ap₂ (λ (xs : List Actual) (fs : List Formal). passings_from c xs 0 fs) h.actuals h.order
    ∙ all_passed c own called s.line h.named ps h.passable h.rising

pub actuals_right : AreActualsRight
actuals_right c own called callee ps s h = record {
  by_24 = subst (λ (xs : List Actual). AllByRecursion (λ (a : Actual). is_resolved_date (resolution_of c a.value) ≡ false) xs) (sym h.actuals)
      (all_actuals c own called s.line (λ (a : Actual). is_resolved_date (resolution_of c a.value) ≡ false) (λ p f e k. operand_undated c own f p.actual k) ps h.passable);
  by_34 = subst (λ (xs : List Actual). AllByRecursion (λ (a : Actual). names_no_formal callee.formals a ≡ false) xs) (sym h.actuals)
      (all_actuals c own called s.line (λ (a : Actual). names_no_formal callee.formals a ≡ false)
      (λ p f e k. each_named c own called s.line h.named callee.formals (source_block_at c.blocks callee.place) h.order p f e) ps h.passable);
  by_35 = ap (actuals_supplied_twice callee.formals []) h.actuals
      ∙ once_from c own called s.line h.named callee.formals 0 [] ps h.passable h.rising (λ j g le there. refl);
  by_37 = subst (λ (xs : List Actual). AllByRecursion (λ (a : Actual). misfits_formal c a (formal_named callee.formals a.name) ≡ false) xs) (sym h.actuals)
      (all_actuals c own called s.line (λ (a : Actual). misfits_formal c a (formal_named callee.formals a.name) ≡ false)
      (λ p f e k. each_fits c own called s.line h.named callee.formals (source_block_at c.blocks callee.place) h.order p f e k) ps h.passable);
}

pub calls_complete : AreCallsComplete
calls_complete c own called callee ps s h all = by (has_actuals s.code && not (is_function_block callee.id.kind)) refl
  where
    by : (t : Bool) → (has_actuals s.code && not (is_function_block callee.id.kind)) ≡ t
        → (t && not (list_all (is_supplied (supplied_names s.actuals)) callee.formals)) ≡ false
    by false e = refl
    by true e =
        ap (λ (xs : List Actual). not (list_all (is_supplied (supplied_names xs)) callee.formals)) h.actuals
        ∙ ap not (all_supplied c own called s.line h.named callee.formals (source_block_at c.blocks callee.place) h.order ps h.passable (all e))
