-- The data blocks of a listing, and its code blocks but for their statements, are of forms that are read back.
use Rattle.std.proofs.Common.{◌≡◌, ℕ, suc, ◌+◌, ◌-◌, ◌%◌, ◌^◌, ◌<◌, ◌≤◌, inr, max, Bool, true, false, eqb, leb, ltb, ◌&&◌, List, [], ◌∷◌, ◌++◌, length, Option, Some, None, refl, sym, ap, subst, ◌∙◌, arith}
use Rattle.std.specs.Prelude.{◌==◌, nat_lt, find, if◌then◌else◌, option_map}
use Rattle.std.specs.List.{AllByRecursion, list_all, range_with_len}
use Rattle.std.proofs.lemmas.Bool.{and_parts, cond_both, eqb-true, false≢true, ltb-true}
use Rattle.std.proofs.lemmas.List.{length-map}
use Rattle.plc_base.proofs.ListLemmas.{all_append}
use Rattle.plc_base.specs.Kinds.{is_code, is_function, is_function_block, is_organization_block, is_same_block, is_same_kind, kind_number}
use Rattle.plc_base.specs.declared.blocks.BlockId.{BlockId}
use Rattle.plc_base.specs.declared.blocks.BlockKind.{BlockKind}
use Rattle.plc_base.specs.declared.blocks.BlockKind.TheVariants as kinds
use Rattle.flat_code.proofs.PartLemmas.{all_of_blocks, chain_parts, good_block, good_head, unless_fine}
use Rattle.flat_code.specs.Codes.{are_ops}
use Rattle.flat_code.specs.Faults.{field_fault, fault_unless_met}
use Rattle.flat_code.specs.Image.{IsProgram, body_layout, body_rows, code_block_layout, code_blocks_layout, counts_layout, counts_of, data_blocks_layout, kind_field, names_layout, parameter_count_layout, parts_of_block, parts_of_records, plain_block, record_of_block, record_of_param, records_layout, records_of, row_of_body_parts}
use Rattle.flat_code.specs.Layout.{chain_layout, is_fine}
use Rattle.flat_code.specs.Programs.{CodeBlock, DataBlock, Program}
use Rattle.flat_code.specs.declared.programs.Param.{Param}
use Rattle.stl_ast.specs.Blocks.{is_parameter, may_declare, may_have_section, part_rank}
use Rattle.stl_ast.specs.Operands.{IsNumber}
use Rattle.stl_ast.specs.WellFormed.{AreSectionsInOrder, MayReturn}
use Rattle.stl_ast.specs.declared.blocks.Part.{Part}
use Rattle.stl_ast.specs.declared.blocks.PartKind.TheVariants as part
use Rattle.stl_ast.specs.declared.blocks.PartKind.{PartKind}
use Rattle.stl_ast.specs.declared.declarations.Declaration.{Declaration}
use Rattle.stl_ast.specs.declared.declarations.Init.{Init}
use Rattle.stl_ast.specs.declared.declarations.Simple.TheVariants as simple
use Rattle.stl_ast.specs.declared.declarations.Simple.{Simple}
use Rattle.stl_ast.specs.Declarations.{IsCount}
use Rattle.stl_codegen.specs.Order.{sorted_list}
use Rattle.stl_lexer.specs.Bytes.{is_word_byte, is_word_start}
use Rattle.stl_parser.proofs.FrameLemmas.{same_kind}
use Rattle.stl_parser.specs.Tables.{keywords, look_up}
use Rattle.stl_types.specs.declared.parameters.Formal.{Formal}
use Rattle.stl_list.specs.CodeBlocks.{in_lines, listed_block, listed_blocks, result_of}
use Rattle.stl_list.specs.Constants.{typed_constant}
use Rattle.stl_list.specs.DataBlocks.{function_block, known_settings, listed_data, listed_data_blocks}
use Rattle.stl_list.specs.Initial.{byte_at, byte_here, byte_setting, byte_settings, initial_run, inits_from, inits_of, parameter_here, parameter_setting, parameter_settings, settings_of, value_in, values_of}
use Rattle.stl_list.specs.JoinedParameters.{PassingChains, chains_of}
use Rattle.stl_list.specs.Labels.{label_of_number, three_digits}
use Rattle.stl_list.specs.Lines.{first_statement_line, line_behind_statements, stands_before}
use Rattle.stl_list.specs.Parameters.{is_return, parameter_name, return_name}
use Rattle.stl_list.specs.Sections.{byte_array, bytes_here, data_name, declared_here, declarations_of_section, is_declared_in, plain_declaration, section_part, section_parts, static_bytes, static_len, static_name, static_start, temporary_name}
use Rattle.stl_list.specs.Signatures.{Signature, formals_from, formals_of_block, is_behind, signatures, signatures_from}
use Rattle.print_laws.specs.Reading.{IsPrintedDeclarationIn, IsNonKeywordName, IsPrintedBlock, IsPrintedDeclaration, IsPrintedInit, IsPrintedLiteral, IsPrintedPart, IsPrintedSetting}
use Rattle.listing_laws.proofs.BlockLemmas.{AreBytes, all_sorted, range_below, value_is, byte_is}
use Rattle.listing_laws.proofs.IdLemmas.{same_order}
use Rattle.listing_laws.proofs.NameLemmas.{all_joined, either_way, label_is, parameter_is, signed_int, signed_long}
use Rattle.listing_laws.proofs.RangeLemmas.{IsNumberOrNone, IsListedCode, IsListedData, ops_fit, program_listed}
use Rattle.listing_laws.specs.Forms.{AreDataPrinted, AreFramesPrinted, AreLabelsPrinted, IsPrintedFrame}

-- ---- names

static_is : IsNonKeywordName static_name
unfolding is_word_byte is_word_start keywords look_up
static_is = record { word = refl; free = refl }

temporary_is : IsNonKeywordName temporary_name
unfolding is_word_byte is_word_start keywords look_up
temporary_is = record { word = refl; free = refl }

data_is : IsNonKeywordName data_name
unfolding is_word_byte is_word_start keywords look_up
data_is = record { word = refl; free = refl }

return_is : IsNonKeywordName return_name
unfolding is_word_byte is_word_start keywords look_up
return_is = record { word = refl; free = refl }

parameter_named : (index : ℕ) → index < 2 ^ 64 → IsNonKeywordName (parameter_name index)
unfolding is_word_byte is_word_start keywords look_up
parameter_named index h = record { word = (parameter_is index h).0; free = refl }

label_free : (n : ℕ) → look_up keywords (label_of_number n) ≡ None
unfolding label_of_number keywords look_up
label_free n = either_way (λ (s : List ℕ). look_up keywords s ≡ None) (nat_lt n 46656) (95 ∷ three_digits n) (90 ∷ three_digits (n - 46656)) refl refl

label_short : (n : ℕ) → length (label_of_number n) ≤ 4
unfolding label_of_number
label_short n = either_way (λ (s : List ℕ). length s ≤ 4) (nat_lt n 46656) (95 ∷ three_digits n) (90 ∷ three_digits (n - 46656)) (omega arith) (omega arith)

pub labels_printed : AreLabelsPrinted
labels_printed n = record { is_name = record { word = (label_is n).0; free = label_free n }; short = label_short n }

-- ---- heads of code blocks

-- a code block's kind, an organization block's parameters, and the ops
pub record IsHead (b : CodeBlock) : Type 0 where
  pub kind : is_code b.id.kind ≡ true
  pub none : is_organization_block b.id.kind ≡ true → length b.params ≡ 0
  pub code : are_ops b.code ≡ true

kind_is : (before : ℕ) (k : BlockKind) → (kind_field before).good (kind_number k) ≡ true → is_code k ≡ true
unfolding kind_field field_fault
kind_is before kinds.Ob good = refl
kind_is before kinds.Fc good = refl
kind_is before kinds.Fb good = refl
kind_is before kinds.Db good = absurd (false≢true good)
kind_is before kinds.Sfc good = absurd (false≢true good)
kind_is before kinds.Udt good = absurd (false≢true good)

count_is : (k : BlockKind) (count : ℕ) → (parameter_count_layout (kind_number k)).good count ≡ true → is_organization_block k ≡ true → count ≡ 0
unfolding parameter_count_layout field_fault
count_is kinds.Ob count good is =
    let few = leb count 60 in
    let none = eqb count 0 in
    let c = and_parts (ltb count 256) (is_fine (fault_unless_met (few && none) 4)) good in
    eqb-true count 0 (and_parts few none (unless_fine (few && none) 4 c.1)).1
count_is kinds.Fc count good is = absurd (false≢true is)
count_is kinds.Fb count good is = absurd (false≢true is)
count_is kinds.Db count good is = absurd (false≢true is)
count_is kinds.Sfc count good is = absurd (false≢true is)
count_is kinds.Udt count good is = absurd (false≢true is)

head_is : (before : ℕ × ℕ) (b : CodeBlock) → (code_block_layout false before).good (record_of_block b) ≡ true → IsHead b
unfolding code_block_layout plain_block
head_is before b good =
    let parts = parts_of_block (record_of_block b) in
    let whole = good_block false before 0 parts good in
    let fields = good_head before parts.head whole.head_good in
    record {
      kind = kind_is before.0 b.id.kind fields.kind_good;
      none = λ is. omega (arith, count_is b.id.kind parts.head.parameter_count fields.params_good is, length-map b.params record_of_param);
      code = ops_fit false parts.head.code_length b.code whole.code_good;
    }

pub program_heads : (p : Program) → IsProgram p → AllByRecursion IsHead p.code_blocks
unfolding body_layout records_layout body_rows
program_heads p is =
    let row = row_of_body_parts (parts_of_records (records_of p)) in
    let a = chain_parts counts_layout (λ c. chain_layout (code_blocks_layout false c.code_blocks) (λ blocks. chain_layout (data_blocks_layout c.data_blocks) (λ datas. names_layout c.names))) row is.good in
    let b = chain_parts (code_blocks_layout false (counts_of (records_of p)).code_blocks) (λ blocks. chain_layout (data_blocks_layout (counts_of (records_of p)).data_blocks) (λ datas. names_layout (counts_of (records_of p)).names)) row.1 a.1 in
    all_of_blocks false IsHead head_is (counts_of (records_of p)).code_blocks p.code_blocks b.0

-- ---- parameters

abbrev AreNamed : List Formal → Type 0
AreNamed formals = AllByRecursion (λ f. IsNonKeywordName f.name) formals

-- the parameters of a block of a kind: a function alone returns, and an organization block has none
record AreFormalsOf (k : BlockKind) (formals : List Formal) : Type 0 where
  named : AreNamed formals
  result : is_function k ≡ false → find is_return formals ≡ None
  none : is_organization_block k ≡ true → formals ≡ []

-- what a block says of itself to calls and instances
record IsFormed (s : Signature) : Type 0 where
  formals : AreFormalsOf s.id.kind s.formals
  instance_len : s.instance_len ≤ 65536

formals_named : (c : PassingChains) (returns behind : Bool) (index first : ℕ) (ps : List Param) → index + length ps < 2 ^ 64 → AreNamed (formals_from c returns behind index first ps)
formals_named c returns behind index first [] h = tt
formals_named c returns behind index first (p ∷ ps) h =
    (either_way IsNonKeywordName _ return_name (parameter_name index) return_is (parameter_named index (omega (arith, h))), formals_named c returns (is_behind returns behind p) (suc index) (suc first) ps (omega (arith, h)))

no_return : (c : PassingChains) (index first : ℕ) (ps : List Param) → find is_return (formals_from c false false index first ps) ≡ None
no_return c index first [] = refl
no_return c index first (p ∷ ps) = no_return c (suc index) (suc first) ps

no_formals : (c : PassingChains) (returns behind : Bool) (index first : ℕ) (ps : List Param) → length ps ≡ 0 → formals_from c returns behind index first ps ≡ []
no_formals c returns behind index first [] h = refl
no_formals c returns behind index first (p ∷ ps) h = absurd (omega (arith, h))

signature_formed : (c : PassingChains) (first : ℕ) (b : CodeBlock) → IsListedCode b → IsHead b → AreFormalsOf b.id.kind (formals_from c (is_function b.id.kind) false 0 first b.params)
signature_formed c first b is head = record {
  named = formals_named c (is_function b.id.kind) false 0 first b.params (omega (arith, is.params));
  result = λ e. rw e (no_return c 0 first b.params);
  none = λ e. no_formals c (is_function b.id.kind) false 0 first b.params (head.none e);
}

signatures_formed : (c : PassingChains) (first : ℕ) (bs : List CodeBlock) → AllByRecursion IsListedCode bs → AllByRecursion IsHead bs → AllByRecursion IsFormed (signatures_from c first bs)
signatures_formed c first [] h k = tt
signatures_formed c first (b ∷ bs) (one, more) (head, heads) =
    (record { formals = signature_formed c first b one head; instance_len = one.instance_len }, signatures_formed c (first + length b.params) bs more heads)

all_formed : (c : PassingChains) (bs : List CodeBlock) → AllByRecursion IsListedCode bs → AllByRecursion IsHead bs → AllByRecursion IsFormed (signatures c bs)
unfolding signatures
all_formed c bs h k = signatures_formed c 0 bs h k

same_block : (a b : BlockId) (formals : List Formal) → is_same_block a b ≡ true → AreFormalsOf a.kind formals → AreFormalsOf b.kind formals
same_block a b formals e h = subst (λ (k : BlockKind). AreFormalsOf k formals) (same_kind a.kind b.kind (sym (same_order a.kind b.kind) ∙ (and_parts (is_same_kind a.kind b.kind) _ e).0)) h

formals_formed : (ss : List Signature) (id : BlockId) → AllByRecursion IsFormed ss → AreFormalsOf id.kind (formals_of_block ss id)
formals_formed [] id h = record { named = tt; result = λ e. refl; none = λ e. refl }
formals_formed (s ∷ ss) id (one, more) =
    cond_both (is_same_block s.id id) s.formals (formals_of_block ss id) (λ formals. AreFormalsOf id.kind formals) (λ e. same_block s.id id s.formals e one.formals) (λ e. formals_formed ss id more)

-- ---- declarations and sections

bytes_printed : (line : ℕ) (name : List ℕ) (count : ℕ) (values : List Init) → IsNonKeywordName name → count ≤ 65536 → AllByRecursion IsPrintedInit values → AllByRecursion IsPrintedDeclaration (bytes_here line name count values)
bytes_printed line name count values is h all =
    either_way (λ l. AllByRecursion IsPrintedDeclaration l) (count == 0) [] (byte_array line name count values ∷ []) tt
    (record { name = is; level = refl; type = (omega arith, omega (arith, h), all) }, tt)

bytes_declared : (k : BlockKind) (kind : PartKind) (line : ℕ) (name : List ℕ) (count : ℕ) → is_parameter kind ≡ false → IsNonKeywordName name → count ≤ 65536 → AllByRecursion (IsPrintedDeclarationIn k kind) (bytes_here line name count [])
unfolding may_declare
bytes_declared k kind line name count other is h =
    either_way (λ l. AllByRecursion (IsPrintedDeclarationIn k kind) l) (count == 0) [] (byte_array line name count [] ∷ []) tt
    (record { printed = record { name = is; level = refl; type = (omega arith, omega (arith, h), tt) }; allowed = refl; elementary = λ e. absurd (false≢true (sym other ∙ e)) }, tt)

here_declared : (k : BlockKind) (kind : PartKind) (line : ℕ) (f : Formal) → IsNonKeywordName f.name → AllByRecursion (IsPrintedDeclarationIn k kind) (declared_here line kind f)
unfolding may_declare
here_declared k kind line f is =
    either_way (λ l. AllByRecursion (IsPrintedDeclarationIn k kind) l) (is_declared_in kind f) (plain_declaration line f ∷ []) []
    (record { printed = record { name = is; level = refl; type = refl }; allowed = refl; elementary = λ e. refl }, tt) tt

section_printed : (k : BlockKind) (line : ℕ) (kind : PartKind) (items : List Declaration) → ((length items == 0) ≡ false → may_have_section k kind ≡ true) → AllByRecursion (IsPrintedDeclarationIn k kind) items
    → AllByRecursion (IsPrintedPart k) (section_part line kind items)
section_printed k line kind items may h =
    cond_both (length items == 0) [] (record { line = line; kind = kind; items = items } ∷ []) (λ l. AllByRecursion (IsPrintedPart k) l) (λ e. tt) (λ e. (record { allowed = may e; items = h }, tt))

-- a function has such sections
function_has : (kind : PartKind) → is_parameter kind ≡ true → may_have_section kinds.Fc kind ≡ true
unfolding may_have_section
function_has part.Input is = refl
function_has part.Output is = refl
function_has part.InOut is = refl
function_has part.Static is = absurd (false≢true is)
function_has part.Temp is = absurd (false≢true is)

may_parameters : (k : BlockKind) (kind : PartKind) (line : ℕ) (formals : List Formal) → is_code k ≡ true → is_parameter kind ≡ true → (is_organization_block k ≡ true → formals ≡ [])
    → (length (declarations_of_section line formals kind) == 0) ≡ false → may_have_section k kind ≡ true
unfolding may_have_section
may_parameters kinds.Ob kind line formals code is none e = absurd (false≢true (sym e ∙ ap (λ (fs : List Formal). length (declarations_of_section line fs kind) == 0) (none refl)))
may_parameters kinds.Fc kind line formals code is none e = function_has kind is
may_parameters kinds.Fb kind line formals code is none e = refl
may_parameters kinds.Db kind line formals code is none e = absurd (false≢true code)
may_parameters kinds.Sfc kind line formals code is none e = absurd (false≢true code)
may_parameters kinds.Udt kind line formals code is none e = absurd (false≢true code)

may_static : (k : BlockKind) (line n : ℕ) → is_code k ≡ true → (length (bytes_here line static_name (if is_function_block k then n else 0) []) == 0) ≡ false → may_have_section k part.Static ≡ true
unfolding may_have_section
may_static kinds.Ob line n code e = absurd (false≢true (sym e))
may_static kinds.Fc line n code e = absurd (false≢true (sym e))
may_static kinds.Fb line n code e = refl
may_static kinds.Db line n code e = absurd (false≢true code)
may_static kinds.Sfc line n code e = absurd (false≢true code)
may_static kinds.Udt line n code e = absurd (false≢true code)

may_temporary : (k : BlockKind) → is_code k ≡ true → may_have_section k part.Temp ≡ true
unfolding may_have_section
may_temporary kinds.Ob code = refl
may_temporary kinds.Fc code = refl
may_temporary kinds.Fb code = refl
may_temporary kinds.Db code = absurd (false≢true code)
may_temporary kinds.Sfc code = absurd (false≢true code)
may_temporary kinds.Udt code = absurd (false≢true code)

parameters_printed : (k : BlockKind) (line : ℕ) (formals : List Formal) (kind : PartKind) → is_code k ≡ true → is_parameter kind ≡ true → AreFormalsOf k formals
    → AllByRecursion (IsPrintedPart k) (section_part line kind (declarations_of_section line formals kind))
parameters_printed k line formals kind code is h =
    section_printed k line kind (declarations_of_section line formals kind) (may_parameters k kind line formals code is h.none)
    (all_joined (λ f. IsNonKeywordName f.name) (IsPrintedDeclarationIn k kind) (declared_here line kind) formals (λ f named. here_declared k kind line f named) h.named)

static_short : (b : CodeBlock) → b.instance_len ≤ 65536 → static_bytes b ≤ 65536
static_short b h = either_way (λ n. n ≤ 65536) (is_function_block b.id.kind) (static_len b.instance_len b.params) 0 (omega (arith, h)) (omega arith)

sections_printed : (line : ℕ) (formals : List Formal) (b : CodeBlock) → is_code b.id.kind ≡ true → AreFormalsOf b.id.kind formals → b.local_len ≤ 65536 → b.instance_len ≤ 65536
    → AllByRecursion (IsPrintedPart b.id.kind) (section_parts line formals b)
unfolding section_parts
sections_printed line formals b code h local_ instance =
    let k = b.id.kind in
    let input = section_part line part.Input (declarations_of_section line formals part.Input) in
    let output = section_part line part.Output (declarations_of_section line formals part.Output) in
    let in_out = section_part line part.InOut (declarations_of_section line formals part.InOut) in
    let static_ = section_part line part.Static (bytes_here line static_name (static_bytes b) []) in
    let temporary = section_part line part.Temp (bytes_here line temporary_name b.local_len []) in
    all_append (IsPrintedPart k) (((input ++ output) ++ in_out) ++ static_) temporary
    (all_append (IsPrintedPart k) ((input ++ output) ++ in_out) static_
    (all_append (IsPrintedPart k) (input ++ output) in_out
    (all_append (IsPrintedPart k) input output (parameters_printed k line formals part.Input code refl h) (parameters_printed k line formals part.Output code refl h))
    (parameters_printed k line formals part.InOut code refl h))
    (section_printed k line part.Static (bytes_here line static_name (static_bytes b) []) (may_static k line (static_len b.instance_len b.params) code)
    (bytes_declared k part.Static line static_name (static_bytes b) refl static_is (static_short b instance))))
    (section_printed k line part.Temp (bytes_here line temporary_name b.local_len []) (λ e. may_temporary k code) (bytes_declared k part.Temp line temporary_name b.local_len refl temporary_is local_))

-- ---- the order of sections

abbrev AreBelow : ℕ → List Part → Type 0
AreBelow high ps = AllByRecursion (λ p. part_rank p.kind < high) ps

order_from : (low mid : ℕ) (ps : List Part) → low ≤ mid → AreSectionsInOrder mid ps → AreSectionsInOrder low ps
order_from low mid [] le h = tt
order_from low mid (p ∷ ps) le h = let first = h.0 in (omega (arith, le, first), h.1)

order_joined : (low mid : ℕ) (ps qs : List Part) → low ≤ mid → AreSectionsInOrder low ps → AreBelow mid ps → AreSectionsInOrder mid qs → AreSectionsInOrder low (ps ++ qs)
order_joined low mid [] qs le h below k = order_from low mid qs le k
order_joined low mid (p ∷ ps) qs le h below k = let here = below.0 in (h.0, order_joined (part_rank p.kind + 1) mid ps qs (omega (arith, here)) h.1 below.1 k)

section_order : (low line : ℕ) (kind : PartKind) (items : List Declaration) → low ≤ part_rank kind → AreSectionsInOrder low (section_part line kind items)
section_order low line kind items h = either_way (λ l. AreSectionsInOrder low l) (length items == 0) [] (record { line = line; kind = kind; items = items } ∷ []) tt (h, tt)

section_below : (high line : ℕ) (kind : PartKind) (items : List Declaration) → part_rank kind < high → AreBelow high (section_part line kind items)
section_below high line kind items h = either_way (λ l. AreBelow high l) (length items == 0) [] (record { line = line; kind = kind; items = items } ∷ []) tt (h, tt)

sections_order : (line : ℕ) (formals : List Formal) (b : CodeBlock) → AreSectionsInOrder 0 (section_parts line formals b)
unfolding section_parts
sections_order line formals b =
    let ins = declarations_of_section line formals part.Input in
    let outs = declarations_of_section line formals part.Output in
    let in_outs = declarations_of_section line formals part.InOut in
    let statics = bytes_here line static_name (static_bytes b) [] in
    let temporaries = bytes_here line temporary_name b.local_len [] in
    let input = section_part line part.Input ins in
    let output = section_part line part.Output outs in
    let in_out = section_part line part.InOut in_outs in
    let static_ = section_part line part.Static statics in
    let below = λ (high : ℕ) (ps qs : List Part) (h : AreBelow high ps) (k : AreBelow high qs). all_append (λ p. part_rank p.kind < high) ps qs h k in
    order_joined 0 4 (((input ++ output) ++ in_out) ++ static_) (section_part line part.Temp temporaries) (omega arith)
    (order_joined 0 3 ((input ++ output) ++ in_out) static_ (omega arith)
    (order_joined 0 2 (input ++ output) in_out (omega arith)
    (order_joined 0 1 input output (omega arith) (section_order 0 line part.Input ins (omega arith)) (section_below 1 line part.Input ins (omega arith)) (section_order 1 line part.Output outs (omega arith)))
    (below 2 input output (section_below 2 line part.Input ins (omega arith)) (section_below 2 line part.Output outs (omega arith)))
    (section_order 2 line part.InOut in_outs (omega arith)))
    (below 3 (input ++ output) in_out (below 3 input output (section_below 3 line part.Input ins (omega arith)) (section_below 3 line part.Output outs (omega arith))) (section_below 3 line part.InOut in_outs (omega arith)))
    (section_order 3 line part.Static statics (omega arith)))
    (below 4 ((input ++ output) ++ in_out) static_
    (below 4 (input ++ output) in_out (below 4 input output (section_below 4 line part.Input ins (omega arith)) (section_below 4 line part.Output outs (omega arith))) (section_below 4 line part.InOut in_outs (omega arith)))
    (section_below 4 line part.Static statics (omega arith)))
    (section_order 4 line part.Temp temporaries (omega arith))

-- ---- code blocks

result_is : (k : BlockKind) (formals : List Formal) → is_code k ≡ true → AreFormalsOf k formals → MayReturn k (result_of formals)
result_is kinds.Ob formals code h = ap (option_map (λ f. f.kind)) (h.result refl)
result_is kinds.Fc formals code h = tt
result_is kinds.Fb formals code h = ap (option_map (λ f. f.kind)) (h.result refl)
result_is kinds.Db formals code h = absurd (false≢true code)
result_is kinds.Sfc formals code h = absurd (false≢true code)
result_is kinds.Udt formals code h = absurd (false≢true code)

frame_printed : (ss : List Signature) (reached : ℕ) (b : CodeBlock) → AllByRecursion IsFormed ss → IsListedCode b → IsHead b → IsPrintedFrame (listed_block ss reached b)
frame_printed ss reached b known is head =
    let formals = formals_formed ss b.id known in
    record {
      name = (refl, is.number);
      kind = head.kind;
      result = result_is b.id.kind (formals_of_block ss b.id) head.kind formals;
      order = sections_order (max reached (first_statement_line b)) (formals_of_block ss b.id) b;
      parts = sections_printed (max reached (first_statement_line b)) (formals_of_block ss b.id) b head.kind formals is.local_len is.instance_len;
      shape = refl;
      components = refl;
      instance = refl;
      settings = refl;
    }

blocks_printed : (ss : List Signature) (reached : ℕ) (bs : List CodeBlock) → AllByRecursion IsFormed ss → AllByRecursion IsListedCode bs → AllByRecursion IsHead bs → AllByRecursion IsPrintedFrame (listed_blocks ss reached bs)
blocks_printed ss reached [] known h k = tt
blocks_printed ss reached (b ∷ bs) known (one, more) (head, heads) = (frame_printed ss reached b known one head, blocks_printed ss (line_behind_statements reached b.lines) bs known more heads)

pub frames_printed : AreFramesPrinted
unfolding in_lines
frames_printed p is w =
    let listed = program_listed p is w in
    let heads = program_heads p is in
    blocks_printed (signatures (chains_of p.code_blocks) p.code_blocks) 1 (sorted_list stands_before p.code_blocks) (all_formed (chains_of p.code_blocks) p.code_blocks listed.code_blocks heads)
    (all_sorted IsListedCode stands_before p.code_blocks listed.code_blocks) (all_sorted IsHead stands_before p.code_blocks heads)

-- ---- initial values

init_printed : (value count : ℕ) → value < 256 → count ≤ 65535 → IsPrintedInit (initial_run value count)
init_printed value count is h = (either_way IsCount (count == 1) None (Some count) tt h, omega (arith, is))

from_printed : (value count : ℕ) (bytes : List ℕ) → value < 256 → AreBytes bytes → count ≤ 65535 → AllByRecursion IsPrintedInit (inits_from value count bytes)
from_printed value count [] is all h = (init_printed value count is h, tt)
from_printed value count (b ∷ bs) is (one, more) h =
    cond_both (b == value && nat_lt count 65535) (inits_from value (suc count) bs) (initial_run value count ∷ inits_from b 1 bs) (λ l. AllByRecursion IsPrintedInit l)
    (λ e. from_printed value (suc count) bs is more (ltb-true count 65535 (and_parts (b == value) (nat_lt count 65535) e).1))
    (λ e. (init_printed value count is h, from_printed b 1 bs one more (omega arith)))

inits_printed : (bytes : List ℕ) → AreBytes bytes → AllByRecursion IsPrintedInit (inits_of bytes)
inits_printed [] h = tt
inits_printed (b ∷ bs) (one, more) = from_printed b 1 bs one more (omega arith)

values_printed : (bytes : List ℕ) → AreBytes bytes → AllByRecursion IsPrintedInit (values_of bytes)
unfolding values_of
values_printed bytes h = either_way (λ l. AllByRecursion IsPrintedInit l) (list_all (λ b. b == 0) bytes) [] (inits_of bytes) tt (inits_printed bytes h)

-- ---- settings

pub typed_printed : (k : Simple) (bits : ℕ) → bits < 4294967296 → IsPrintedLiteral (typed_constant k bits)
typed_printed simple.Bool bits h = tt
typed_printed simple.Byte bits h = omega arith
typed_printed simple.Word bits h = omega arith
typed_printed simple.Int bits h = signed_int (bits % 2 ^ 16) (omega arith)
typed_printed simple.Time bits h = signed_long bits h
typed_printed _ bits h = h

parameter_printed : (line : ℕ) (f : Formal) (bits : ℕ) → IsNonKeywordName f.name → bits < 4294967296 → AllByRecursion IsPrintedSetting (parameter_here line f bits)
parameter_printed line f bits is h =
    either_way (λ l. AllByRecursion IsPrintedSetting l) (bits == 0) [] (parameter_setting line f bits ∷ []) tt (record { path = is; value = typed_printed f.kind bits h }, tt)

settings_named : (line : ℕ) (bytes : List ℕ) (fs : List Formal) (ps : List Param) → AreBytes bytes → AreNamed fs → AllByRecursion IsPrintedSetting (parameter_settings line bytes fs ps)
settings_named line bytes [] ps h named = tt
settings_named line bytes (f ∷ fs) [] h named = tt
settings_named line bytes (f ∷ fs) (p ∷ ps) h (one, more) =
    all_append IsPrintedSetting (parameter_here line f (value_in bytes p.width p.byte p.bit)) (parameter_settings line bytes fs ps)
    (parameter_printed line f (value_in bytes p.width p.byte p.bit) one (value_is bytes p.width p.byte p.bit h)) (settings_named line bytes fs ps h more)

byte_printed : (line index value : ℕ) → index ≤ 65535 → value < 256 → AllByRecursion IsPrintedSetting (byte_here line index value)
byte_printed line index value h is =
    either_way (λ l. AllByRecursion IsPrintedSetting l) (value == 0) [] (byte_setting line index value ∷ []) tt (record { path = (static_is, h); value = omega (arith, is) }, tt)

bytes_set : (line : ℕ) (bytes : List ℕ) (start count : ℕ) → AreBytes bytes → count ≤ 65536 → AllByRecursion IsPrintedSetting (byte_settings line bytes start count)
bytes_set line bytes start count all h =
    all_joined (λ i. i < 65536) IsPrintedSetting (λ i. byte_here line i (byte_at bytes (start + i))) (range_with_len 0 count)
    (λ i is. byte_printed line i (byte_at bytes (start + i)) (omega (arith, is)) (byte_is bytes (start + i) all)) (range_below 0 count 65536 (omega (arith, h)))

settings_printed : (line : ℕ) (bytes : List ℕ) (s : Signature) → AreBytes bytes → IsFormed s → AllByRecursion IsPrintedSetting (settings_of line bytes s)
unfolding settings_of
settings_printed line bytes s h is =
    all_append IsPrintedSetting (parameter_settings line bytes s.formals s.params) (byte_settings line bytes (static_start s.params) (static_len s.instance_len s.params))
    (settings_named line bytes s.formals s.params h is.formals.named)
    (bytes_set line bytes (static_start s.params) (static_len s.instance_len s.params) h (omega (arith, is.instance_len)))

known_printed : (line : ℕ) (bytes : List ℕ) (test : Signature → Bool) (ss : List Signature) → AreBytes bytes → AllByRecursion IsFormed ss → AllByRecursion IsPrintedSetting (known_settings line bytes (find test ss))
known_printed line bytes test [] h known = tt
known_printed line bytes test (s ∷ ss) h (one, more) =
    either_way (λ o. AllByRecursion IsPrintedSetting (known_settings line bytes o)) (test s) (Some s) (find test ss) (settings_printed line bytes s h one) (known_printed line bytes test ss h more)

-- ---- data blocks

one_printed : (ss : List Signature) (line number : ℕ) (bytes : List ℕ) (of_ : Option ℕ) → AllByRecursion IsFormed ss → IsNumber number → IsNumberOrNone of_ → length bytes ≤ 65536 → AreBytes bytes
    → IsPrintedBlock (listed_data ss line number bytes of_)
one_printed ss line number bytes None known is instance short h =
    ((refl, is), inr (record { kind = refl; result = refl; parts = refl; body = refl; shape = (refl, bytes_printed line data_name (length bytes) (values_of bytes) data_is short (values_printed bytes h), refl) }))
one_printed ss line number bytes (Some of_) known is instance short h =
    ((refl, is), inr (record { kind = refl; result = refl; parts = refl; body = refl; shape = ((refl, instance), refl, known_printed line bytes (λ s. is_same_block s.id (function_block of_)) ss h known) }))

all_printed : (ss : List Signature) (line : ℕ) (ds : List DataBlock) → AllByRecursion IsFormed ss → AllByRecursion IsListedData ds → AllByRecursion IsPrintedBlock (listed_data_blocks ss line ds)
all_printed ss line [] known h = tt
all_printed ss line (d ∷ ds) known (one, more) =
    (one_printed ss line d.number d.bytes d.instance_of known one.number one.instance_of one.size one.bytes, all_printed ss line ds known more)

pub data_printed : AreDataPrinted
data_printed p line is w =
    let listed = program_listed p is w in
    all_printed (signatures (chains_of p.code_blocks) p.code_blocks) line p.data_blocks (all_formed (chains_of p.code_blocks) p.code_blocks listed.code_blocks (program_heads p is)) listed.data_blocks
