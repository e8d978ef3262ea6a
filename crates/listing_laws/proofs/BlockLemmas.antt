-- The blocks of a listing are printable.
use Rattle.std.proofs.Common.{ℕ, zero, suc, ◌+◌, ◌/◌, ◌%◌, ◌^◌, ◌<◌, ◌≤◌, Bool, ◌&&◌, List, [], ◌∷◌, ◌++◌, length, max, Option, Some, None, refl, arith}
use Rattle.std.specs.Prelude.{◌==◌, nat_lt, find}
use Rattle.std.specs.List.{AllByRecursion, list_all, range_with_len}
use Rattle.std.proofs.lemmas.Bool.{and_parts, cond_both, ltb-true}
use Rattle.plc_base.proofs.ListLemmas.{all_append}
use Rattle.plc_base.specs.Kinds.{is_function_block, is_same_block}
use Rattle.plc_base.specs.declared.places.Width.TheVariants as width
use Rattle.plc_base.specs.declared.places.Width.{Width}
use Rattle.flat_code.specs.Programs.{CodeBlock, DataBlock, Program}
use Rattle.flat_code.specs.declared.programs.Param.{Param}
use Rattle.stl_ast.specs.Declarations.{IsCount}
use Rattle.stl_ast.specs.Operands.{IsNumber}
use Rattle.stl_ast.specs.declared.blocks.PartKind.TheVariants as part
use Rattle.stl_ast.specs.declared.blocks.PartKind.{PartKind}
use Rattle.stl_ast.specs.declared.declarations.Declaration.{Declaration}
use Rattle.stl_ast.specs.declared.declarations.Init.{Init}
use Rattle.stl_codegen.specs.Order.{sorted_insertion, sorted_list}
use Rattle.stl_lexer.specs.Bytes.{is_word_byte, is_word_start}
use Rattle.stl_types.specs.declared.parameters.Formal.{Formal}
use Rattle.stl_list.specs.CodeBlocks.{in_lines, line_reached, listed_block, listed_blocks}
use Rattle.stl_list.specs.DataBlocks.{function_block, known_settings, listed_data, listed_data_blocks}
use Rattle.stl_list.specs.Initial.{byte_at, byte_here, byte_setting, byte_settings, initial_run, inits_from, inits_of, parameter_here, parameter_setting, parameter_settings, settings_of, value_in, values_of, word_in_bytes}
use Rattle.stl_list.specs.JoinedParameters.{chains_of}
use Rattle.stl_list.specs.Lines.{first_statement_line, line_behind_statements, lines_from, stands_before}
use Rattle.stl_list.specs.Listing.{listed_tree}
use Rattle.stl_list.specs.Sections.{byte_array, bytes_here, data_name, declared_here, declarations_of_section, is_declared_in, plain_declaration, section_part, section_parts, static_bytes, static_len, static_name, static_start, temporary_name}
use Rattle.stl_list.specs.Signatures.{Signature, formals_of_block, signatures}
use Rattle.print_laws.specs.Standing.{IsNonTitleName, HasPrintableTokens, IsPrintableBlock, IsPrintableDeclaration, IsPrintableInit, IsPrintablePart, IsPrintableSetting}
use Rattle.listing_laws.proofs.NameLemmas.{AreFormals, AreSignatures, IsSignature, all_joined, all_signatures, block_named, either_way, typed_printable}
use Rattle.listing_laws.proofs.StatementLemmas.{body_printable}
use Rattle.listing_laws.proofs.RangeLemmas.{IsNumberOrNone, IsListedCode, IsListedData, IsListed, program_listed}
use Rattle.listing_laws.specs.Ranges.{AreListedPrintable}

abbrev pub AreBytes : List ℕ → Type 0
AreBytes bytes = AllByRecursion (λ b. b < 256) bytes

-- ---- declarations and sections

static_is : IsNonTitleName static_name
unfolding is_word_byte is_word_start
static_is = (refl, refl)

temporary_is : IsNonTitleName temporary_name
unfolding is_word_byte is_word_start
temporary_is = (refl, refl)

data_is : IsNonTitleName data_name
unfolding is_word_byte is_word_start
data_is = (refl, refl)

bytes_printable : (line : ℕ) (name : List ℕ) (count : ℕ) (values : List Init) → IsNonTitleName name → count ≤ 65536 → AllByRecursion IsPrintableInit values → AllByRecursion IsPrintableDeclaration (bytes_here line name count values)
bytes_printable line name count values is h all =
    either_way (λ l. AllByRecursion IsPrintableDeclaration l) (count == 0) [] (byte_array line name count values ∷ []) tt
    ((is, ((omega arith, omega (arith, h)), tt), tt, all), tt)

here_printable : (line : ℕ) (kind : PartKind) (f : Formal) → IsNonTitleName f.name → AllByRecursion IsPrintableDeclaration (declared_here line kind f)
here_printable line kind f is =
    either_way (λ l. AllByRecursion IsPrintableDeclaration l) (is_declared_in kind f) (plain_declaration line f ∷ []) [] ((is, tt, tt, tt), tt) tt

section_printable : (line : ℕ) (kind : PartKind) (items : List Declaration) → AllByRecursion IsPrintableDeclaration items → AllByRecursion IsPrintablePart (section_part line kind items)
section_printable line kind items h =
    either_way (λ l. AllByRecursion IsPrintablePart l) (length items == 0) [] (record { line = line; kind = kind; items = items } ∷ []) tt (h, tt)

declared_printable : (line : ℕ) (formals : List Formal) (kind : PartKind) → AreFormals formals → AllByRecursion IsPrintablePart (section_part line kind (declarations_of_section line formals kind))
declared_printable line formals kind named =
    section_printable line kind (declarations_of_section line formals kind) (all_joined (λ f. IsNonTitleName f.name) IsPrintableDeclaration (declared_here line kind) formals (here_printable line kind) named)

static_short : (b : CodeBlock) → b.instance_len ≤ 65536 → static_bytes b ≤ 65536
static_short b h = either_way (λ n. n ≤ 65536) (is_function_block b.id.kind) (static_len b.instance_len b.params) 0 (omega (arith, h)) (omega arith)

sections_printable : (line : ℕ) (formals : List Formal) (b : CodeBlock) → AreFormals formals → b.local_len ≤ 65536 → b.instance_len ≤ 65536 → AllByRecursion IsPrintablePart (section_parts line formals b)
unfolding section_parts
sections_printable line formals b named local_ instance =
    let input = section_part line part.Input (declarations_of_section line formals part.Input) in
    let output = section_part line part.Output (declarations_of_section line formals part.Output) in
    let in_out = section_part line part.InOut (declarations_of_section line formals part.InOut) in
    let static_ = section_part line part.Static (bytes_here line static_name (static_bytes b) []) in
    let temporary = section_part line part.Temp (bytes_here line temporary_name b.local_len []) in
    all_append IsPrintablePart (((input ++ output) ++ in_out) ++ static_) temporary
    (all_append IsPrintablePart ((input ++ output) ++ in_out) static_
    (all_append IsPrintablePart (input ++ output) in_out
    (all_append IsPrintablePart input output (declared_printable line formals part.Input named) (declared_printable line formals part.Output named))
    (declared_printable line formals part.InOut named))
    (section_printable line part.Static (bytes_here line static_name (static_bytes b) []) (bytes_printable line static_name (static_bytes b) [] static_is (static_short b instance) tt)))
    (section_printable line part.Temp (bytes_here line temporary_name b.local_len []) (bytes_printable line temporary_name b.local_len [] temporary_is local_ tt))

-- ---- code blocks

block_printable : (ss : List Signature) (reached : ℕ) (b : CodeBlock) → AreSignatures ss → IsListedCode b → IsPrintableBlock (listed_block ss reached b)
block_printable ss reached b known h = record {
  name = h.number;
  parts = sections_printable (max reached (first_statement_line b)) (formals_of_block ss b.id) b (block_named ss b.id known) h.local_len h.instance_len;
  shape = tt;
  components = tt;
  instance_of = tt;
  settings = tt;
  body = body_printable ss (lines_from reached b.lines) b known h.code;
}

blocks_printable : (ss : List Signature) (reached : ℕ) (bs : List CodeBlock) → AreSignatures ss → AllByRecursion IsListedCode bs → AllByRecursion IsPrintableBlock (listed_blocks ss reached bs)
blocks_printable ss reached [] known h = tt
blocks_printable ss reached (b ∷ bs) known (one, more) = (block_printable ss reached b known one, blocks_printable ss (line_behind_statements reached b.lines) bs known more)

all_inserted : {A : Type 0} (P : A → Type 0) (before : A → A → Bool) (x : A) (ys : List A) → P x → AllByRecursion P ys → AllByRecursion P (sorted_insertion before x ys)
all_inserted P before x [] h k = (h, tt)
all_inserted P before x (y ∷ ys) h (one, more) =
    either_way (λ l. AllByRecursion P l) (before y x) (y ∷ sorted_insertion before x ys) (x ∷ y ∷ ys) (one, all_inserted P before x ys h more) (h, (one, more))

pub all_sorted : {A : Type 0} (P : A → Type 0) (before : A → A → Bool) (xs : List A) → AllByRecursion P xs → AllByRecursion P (sorted_list before xs)
unfolding sorted_list
all_sorted P before [] h = tt
all_sorted P before (x ∷ xs) (one, more) = all_inserted P before x (sorted_list before xs) one (all_sorted P before xs more)

-- ---- initial values

init_printable : (value count : ℕ) → count ≤ 65535 → IsPrintableInit (initial_run value count)
init_printable value count h = (either_way IsCount (count == 1) None (Some count) tt h, tt)

from_printable : (value count : ℕ) (bytes : List ℕ) → count ≤ 65535 → AllByRecursion IsPrintableInit (inits_from value count bytes)
from_printable value count [] h = (init_printable value count h, tt)
from_printable value count (b ∷ bs) h =
    cond_both (b == value && nat_lt count 65535) (inits_from value (suc count) bs) (initial_run value count ∷ inits_from b 1 bs) (λ l. AllByRecursion IsPrintableInit l)
    (λ e. from_printable value (suc count) bs (ltb-true count 65535 (and_parts (b == value) (nat_lt count 65535) e).1))
    (λ e. (init_printable value count h, from_printable b 1 bs (omega arith)))

inits_printable : (bytes : List ℕ) → AllByRecursion IsPrintableInit (inits_of bytes)
inits_printable [] = tt
inits_printable (b ∷ bs) = from_printable b 1 bs (omega arith)

values_printable : (bytes : List ℕ) → AllByRecursion IsPrintableInit (values_of bytes)
unfolding values_of
values_printable bytes = either_way (λ l. AllByRecursion IsPrintableInit l) (list_all (λ b. b == 0) bytes) [] (inits_of bytes) tt (inits_printable bytes)

-- ---- settings

pub byte_is : (bytes : List ℕ) (at : ℕ) → AreBytes bytes → byte_at bytes at < 256
byte_is [] at h = omega arith
byte_is (b ∷ bytes) zero (one, more) = one
byte_is (b ∷ bytes) (suc at) (one, more) = byte_is bytes at more

word_is : (bytes : List ℕ) (at : ℕ) → AreBytes bytes → word_in_bytes bytes at < 65536
word_is bytes at h = omega (arith, byte_is bytes at h, byte_is bytes (at + 1) h)

pub value_is : (bytes : List ℕ) (w : Width) (byte bit : ℕ) → AreBytes bytes → value_in bytes w byte bit < 4294967296
value_is bytes width.Bit byte bit h = omega (arith, bit_is (byte_at bytes byte / 2 ^ (bit % 8)))
  where
    bit_is : (n : ℕ) → n % 2 < 2
    bit_is n = omega arith
value_is bytes width.Byte byte bit h = omega (arith, byte_is bytes byte h)
value_is bytes width.Word byte bit h = omega (arith, word_is bytes byte h)
value_is bytes width.Dword byte bit h = omega (arith, word_is bytes byte h, word_is bytes (byte + 2) h)

parameter_printable : (line : ℕ) (f : Formal) (bits : ℕ) → IsNonTitleName f.name → bits < 4294967296 → AllByRecursion IsPrintableSetting (parameter_here line f bits)
parameter_printable line f bits is h =
    either_way (λ l. AllByRecursion IsPrintableSetting l) (bits == 0) [] (parameter_setting line f bits ∷ []) tt (((is, tt), typed_printable f.kind bits h), tt)

parameters_printable : (line : ℕ) (bytes : List ℕ) (fs : List Formal) (ps : List Param) → AreBytes bytes → AreFormals fs → AllByRecursion IsPrintableSetting (parameter_settings line bytes fs ps)
parameters_printable line bytes [] ps h named = tt
parameters_printable line bytes (f ∷ fs) [] h named = tt
parameters_printable line bytes (f ∷ fs) (p ∷ ps) h (one, more) =
    all_append IsPrintableSetting (parameter_here line f (value_in bytes p.width p.byte p.bit)) (parameter_settings line bytes fs ps)
    (parameter_printable line f (value_in bytes p.width p.byte p.bit) one (value_is bytes p.width p.byte p.bit h)) (parameters_printable line bytes fs ps h more)

byte_printable : (line index value : ℕ) → index ≤ 65535 → AllByRecursion IsPrintableSetting (byte_here line index value)
byte_printable line index value h =
    either_way (λ l. AllByRecursion IsPrintableSetting l) (value == 0) [] (byte_setting line index value ∷ []) tt (((static_is, (h, tt)), tt), tt)

pub range_below : (a n most : ℕ) → a + n ≤ most → AllByRecursion (λ i. i < most) (range_with_len a n)
range_below a zero most h = tt
range_below a (suc n) most h = (omega (arith, h), range_below (a + 1) n most (omega (arith, h)))

bytes_set : (line : ℕ) (bytes : List ℕ) (start count : ℕ) → count ≤ 65536 → AllByRecursion IsPrintableSetting (byte_settings line bytes start count)
bytes_set line bytes start count h =
    all_joined (λ i. i < 65536) IsPrintableSetting (λ i. byte_here line i (byte_at bytes (start + i))) (range_with_len 0 count)
    (λ i is. byte_printable line i (byte_at bytes (start + i)) (omega (arith, is))) (range_below 0 count 65536 (omega (arith, h)))

settings_printable : (line : ℕ) (bytes : List ℕ) (s : Signature) → AreBytes bytes → IsSignature s → AllByRecursion IsPrintableSetting (settings_of line bytes s)
unfolding settings_of
settings_printable line bytes s h (named, short) =
    all_append IsPrintableSetting (parameter_settings line bytes s.formals s.params) (byte_settings line bytes (static_start s.params) (static_len s.instance_len s.params))
    (parameters_printable line bytes s.formals s.params h named)
    (bytes_set line bytes (static_start s.params) (static_len s.instance_len s.params) (omega (arith, short)))

known_printable : (line : ℕ) (bytes : List ℕ) (test : Signature → Bool) (ss : List Signature) → AreBytes bytes → AreSignatures ss → AllByRecursion IsPrintableSetting (known_settings line bytes (find test ss))
known_printable line bytes test [] h known = tt
known_printable line bytes test (s ∷ ss) h (one, more) =
    either_way (λ o. AllByRecursion IsPrintableSetting (known_settings line bytes o)) (test s) (Some s) (find test ss) (settings_printable line bytes s h one) (known_printable line bytes test ss h more)

-- ---- data blocks

data_printable : (ss : List Signature) (line number : ℕ) (bytes : List ℕ) (of_ : Option ℕ) → AreSignatures ss → IsNumber number → IsNumberOrNone of_ → length bytes ≤ 65536 → AreBytes bytes
    → IsPrintableBlock (listed_data ss line number bytes of_)
data_printable ss line number bytes None known is instance short h = record {
  name = is;
  parts = tt;
  shape = tt;
  components = bytes_printable line data_name (length bytes) (values_of bytes) data_is short (values_printable bytes);
  instance_of = tt;
  settings = tt;
  body = tt;
}
data_printable ss line number bytes (Some of_) known is instance short h = record {
  name = is;
  parts = tt;
  shape = tt;
  components = tt;
  instance_of = instance;
  settings = known_printable line bytes (λ s. is_same_block s.id (function_block of_)) ss h known;
  body = tt;
}

all_data : (ss : List Signature) (line : ℕ) (ds : List DataBlock) → AreSignatures ss → AllByRecursion IsListedData ds → AllByRecursion IsPrintableBlock (listed_data_blocks ss line ds)
all_data ss line [] known h = tt
all_data ss line (d ∷ ds) known (one, more) =
    (data_printable ss line d.number d.bytes d.instance_of known one.number one.instance_of one.size one.bytes, all_data ss line ds known more)

-- ---- listings

listing_printable : (p : Program) → IsListed p → HasPrintableTokens (listed_tree p)
unfolding listed_tree in_lines
listing_printable p h =
    let ss = signatures (chains_of p.code_blocks) p.code_blocks in
    let known = all_signatures (chains_of p.code_blocks) p.code_blocks h.code_blocks in
    let blocks = sorted_list stands_before p.code_blocks in
    all_append IsPrintableBlock (listed_blocks ss 1 blocks) (listed_data_blocks ss (line_reached 1 blocks) p.data_blocks)
    (blocks_printable ss 1 blocks known (all_sorted IsListedCode stands_before p.code_blocks h.code_blocks))
    (all_data ss (line_reached 1 blocks) p.data_blocks known h.data_blocks)

pub listed_printable : AreListedPrintable
listed_printable p is w = listing_printable p (program_listed p is w)
