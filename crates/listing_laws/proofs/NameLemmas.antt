-- The names and constants of a listing are printable.
use Rattle.std.proofs.Common.{◌≡◌, ℕ, suc, ◌+◌, ◌-◌, ◌/◌, ◌%◌, ◌<◌, ◌≤◌, ◌^◌, Bool, true, false, List, [], ◌∷◌, length, cond, decimal, Option, Some, None, refl, arith, inl, inr}
use Rattle.std.specs.Prelude.{if◌then◌else◌, nat_lt, nat_eq, ◌==◌, unwrap_or}
use Rattle.std.specs.Int.{cast_signed, w16, w32}
use Rattle.std.specs.List.{AllByRecursion, flat_map, list_all}
use Rattle.std.proofs.lemmas.Bool.{agree_below_at, and_from, cases_lt, lt-ltb, le-ltb}
use Rattle.plc_base.proofs.ListLemmas.{all_append}
use Rattle.plc_base.specs.Kinds.{is_function, is_same_block, is_system_function}
use Rattle.plc_base.specs.declared.blocks.BlockId.{BlockId}
use Rattle.flat_code.specs.Programs.{CodeBlock}
use Rattle.flat_code.specs.declared.operations.AddConstant.TheVariants as add_constant
use Rattle.flat_code.specs.declared.operations.Logic.TheVariants as logic
use Rattle.flat_code.specs.declared.operations.Operation.TheVariants as operation
use Rattle.flat_code.specs.declared.operations.Operation.{Operation}
use Rattle.flat_code.specs.declared.programs.Param.{Param}
use Rattle.stl_ast.specs.Literals.{IsDecimal, IsLong}
use Rattle.stl_ast.specs.declared.declarations.Simple.TheVariants as simple
use Rattle.stl_ast.specs.declared.declarations.Simple.{Simple}
use Rattle.stl_lexer.specs.Bytes.{is_word_byte, is_word_start}
use Rattle.stl_types.specs.Parameters.{dtime_formal, is_one_of, mode_formal, ob_nr_formal, return_value_formal, sign_formal, system_formals}
use Rattle.stl_types.specs.declared.parameters.Formal.{Formal}
use Rattle.stl_list.specs.Constants.{instruction_constant, open_block_name, typed_constant}
use Rattle.stl_list.specs.JoinedParameters.{PassingChains, system_parameters}
use Rattle.stl_list.specs.Labels.{base_36_digit, label_of_number, three_digits}
use Rattle.stl_list.specs.Parameters.{parameter_name, return_name}
use Rattle.stl_list.specs.Signatures.{Signature, called_formals, formals_from, formals_of_block, is_behind, signatures, signatures_from}
use Rattle.print_laws.specs.Standing.{IsNonTitleName, IsPrintableLiteral, IsPrintableOperand}
use Rattle.print_laws.proofs.lexing.Numerals.{digits_words, numeral}
use Rattle.listing_laws.proofs.RangeLemmas.{IsListedCode}

-- what holds of both holds of either
pub either_way : {A : Type 0} (P : A → Type 0) (b : Bool) (x y : A) → P x → P y → P (cond b x y)
either_way P true x y h k = h
either_way P false x y h k = k

pub all_joined : {A B : Type 0} (P : A → Type 0) (Q : B → Type 0) (f : A → List B) (xs : List A) → ((x : A) → P x → AllByRecursion Q (f x)) → AllByRecursion P xs → AllByRecursion Q (flat_map f xs)
all_joined P Q f [] h all = tt
all_joined P Q f (x ∷ xs) h (one, more) = all_append Q (f x) (flat_map f xs) (h x one) (all_joined P Q f xs h more)

-- ---- names

pub parameter_is : (index : ℕ) → index < 2 ^ 64 → IsNonTitleName (parameter_name index)
unfolding is_word_byte is_word_start
parameter_is index h = (digits_words (decimal index) (numeral index h).digits, refl)

pub return_is : IsNonTitleName return_name
unfolding is_word_byte is_word_start
return_is = (refl, refl)

label_digit : (n : ℕ) → is_word_byte (base_36_digit (n % 36)) ≡ true
unfolding is_word_byte is_word_start
label_digit n = agree_below_at (λ d. is_word_byte (base_36_digit d)) (λ d. true) 36 (n % 36) refl (omega arith)

digits_all : (n : ℕ) → list_all is_word_byte (three_digits n) ≡ true
digits_all n =
    and_from (is_word_byte (base_36_digit (n / 1296 % 36))) _ (label_digit (n / 1296))
    (and_from (is_word_byte (base_36_digit (n / 36 % 36))) _ (label_digit (n / 36)) (and_from (is_word_byte (base_36_digit (n % 36))) _ (label_digit n) refl))

low_label : (n : ℕ) → IsNonTitleName (95 ∷ three_digits n)
unfolding is_word_start
low_label n = (digits_all n, refl)

high_label : (n : ℕ) → IsNonTitleName (90 ∷ three_digits n)
unfolding is_word_start
high_label n = (digits_all n, refl)

pub label_is : (n : ℕ) → IsNonTitleName (label_of_number n)
unfolding label_of_number
label_is n = either_way IsNonTitleName (nat_lt n 46656) (95 ∷ three_digits n) (90 ∷ three_digits (n - 46656)) (low_label n) (high_label (n - 46656))

-- ---- parameters

abbrev pub AreFormals : List Formal → Type 0
AreFormals formals = AllByRecursion (λ f. IsNonTitleName f.name) formals

abbrev AreKnown : Option (List Formal) → Type 0
AreKnown o = AreFormals (unwrap_or o [])

ob_nr_name : IsNonTitleName ob_nr_formal.name
unfolding is_word_byte is_word_start
ob_nr_name = (refl, refl)

mode_name : IsNonTitleName mode_formal.name
unfolding is_word_byte is_word_start
mode_name = (refl, refl)

dtime_name : IsNonTitleName dtime_formal.name
unfolding is_word_byte is_word_start
dtime_name = (refl, refl)

sign_name : IsNonTitleName sign_formal.name
unfolding is_word_byte is_word_start
sign_name = (refl, refl)

-- the parameters of a system function, by the row of its number
formals_known : (b : Bool) (fs : List Formal) (o : Option (List Formal)) → AreFormals fs → AreKnown o → AreKnown (if b then Some fs else o)
formals_known b fs o h k = either_way AreKnown b (Some fs) o h k

pub system_named : (n : ℕ) → AreFormals (system_parameters n)
unfolding system_formals
system_named n =
    formals_known (nat_eq n 32) (ob_nr_formal ∷ dtime_formal ∷ sign_formal ∷ return_value_formal simple.Int ∷ []) _ (ob_nr_name, (dtime_name, (sign_name, (return_is, tt))))
    (formals_known (nat_eq n 33) (ob_nr_formal ∷ return_value_formal simple.Int ∷ []) _ (ob_nr_name, (return_is, tt))
    (formals_known (is_one_of (39 ∷ 40 ∷ []) n) (mode_formal ∷ ob_nr_formal ∷ return_value_formal simple.Int ∷ []) _ (mode_name, (ob_nr_name, (return_is, tt)))
    (formals_known (is_one_of (41 ∷ 42 ∷ []) n) (return_value_formal simple.Int ∷ []) _ (return_is, tt)
    (formals_known (is_one_of (43 ∷ 46 ∷ []) n) [] _ tt
    (formals_known (nat_eq n 64) (return_value_formal simple.Time ∷ []) None (return_is, tt) tt)))))

formals_named : (c : PassingChains) (returns behind : Bool) (index first : ℕ) (ps : List Param) → index + length ps < 2 ^ 64 → AreFormals (formals_from c returns behind index first ps)
formals_named c returns behind index first [] h = tt
formals_named c returns behind index first (p ∷ ps) h =
    (either_way IsNonTitleName _ return_name (parameter_name index) return_is (parameter_is index (omega (arith, h))), formals_named c returns (is_behind returns behind p) (suc index) (suc first) ps (omega (arith, h)))

-- what a block says of itself to calls and instances
abbrev pub IsSignature : Signature → Type 0
IsSignature s = AreFormals s.formals × (s.instance_len ≤ 65536)

abbrev pub AreSignatures : List Signature → Type 0
AreSignatures ss = AllByRecursion IsSignature ss

signatures_named : (c : PassingChains) (first : ℕ) (bs : List CodeBlock) → AllByRecursion IsListedCode bs → AreSignatures (signatures_from c first bs)
signatures_named c first [] h = tt
signatures_named c first (b ∷ bs) (one, more) =
    ((formals_named c (is_function b.id.kind) false 0 first b.params (omega (arith, one.params)), one.instance_len), signatures_named c (first + length b.params) bs more)

pub all_signatures : (c : PassingChains) (bs : List CodeBlock) → AllByRecursion IsListedCode bs → AreSignatures (signatures c bs)
unfolding signatures
all_signatures c bs h = signatures_named c 0 bs h

pub block_named : (ss : List Signature) (id : BlockId) → AreSignatures ss → AreFormals (formals_of_block ss id)
block_named [] id h = tt
block_named (s ∷ ss) id (one, more) = either_way AreFormals (is_same_block s.id id) s.formals (formals_of_block ss id) one.0 (block_named ss id more)

pub called_named : (ss : List Signature) (id : BlockId) → AreSignatures ss → AreFormals (called_formals ss id)
called_named ss id h = either_way AreFormals (is_system_function id.kind) (system_parameters id.number) (formals_of_block ss id) (system_named id.number) (block_named ss id h)

-- ---- constants

pub signed_long : (n : ℕ) → n < 4294967296 → IsLong (cast_signed w32 n)
signed_long n h = elim (cases_lt n 2147483648) as (λ _. IsLong (cast_signed w32 n)) [
  | inl lt ↦ rw (lt-ltb n 2147483648 lt) (omega (arith, lt))
  | inr ge ↦ rw (le-ltb n 2147483648 ge) (omega (arith, ge, h))
]

pub signed_int : (n : ℕ) → n < 65536 → IsDecimal (cast_signed w16 n)
signed_int n h = elim (cases_lt n 32768) as (λ _. IsDecimal (cast_signed w16 n)) [
  | inl lt ↦ rw (lt-ltb n 32768 lt) (omega (arith, lt))
  | inr ge ↦ rw (le-ltb n 32768 ge) (omega (arith, ge, h))
]

pub typed_printable : (k : Simple) (bits : ℕ) → bits < 4294967296 → IsPrintableLiteral (typed_constant k bits)
typed_printable simple.Int bits h = signed_int (bits % 2 ^ 16) (omega arith)
typed_printable simple.Time bits h = signed_long bits h
typed_printable _ bits h = tt

open_name : (which : ℕ) → IsNonTitleName (open_block_name which)
unfolding is_word_byte is_word_start
open_name which =
    either_way IsNonTitleName (which == 0) _ _ (refl, refl)
    (either_way IsNonTitleName (which == 1) _ _ (refl, refl)
    (either_way IsNonTitleName (which == 2) _ _ (refl, refl) (refl, refl)))

pub instruction_printable : (o : Operation) (bits : ℕ) → bits < 4294967296 → IsPrintableOperand (instruction_constant o bits)
instruction_printable operation.Load bits h = tt
instruction_printable (operation.Logic logic.Ad) bits h = tt
instruction_printable (operation.Logic logic.Od) bits h = tt
instruction_printable (operation.Logic logic.Xod) bits h = tt
instruction_printable (operation.Logic _) bits h = tt
instruction_printable (operation.Pointer which) bits h = (omega arith, omega arith)
instruction_printable (operation.Add add_constant.Dword) bits h = signed_long bits h
instruction_printable operation.LoadOpenBlock bits h = open_name bits
instruction_printable _ bits h = omega arith
