-- The text of a certificate, both ways: a line `KIND n DEPTH d BYTES b` for each bound.
use Rattle.std.specs.Prelude.{◌≡◌, ℕ, ◌==◌, ◌+◌, ◌&&◌, ◌||◌, Bool, true, false, bytes_eq, codes, decimal, is_some, length, nat_eq, if◌then◌else◌, List, [], ◌∷◌, ◌++◌, Option, Some, None, Result, Ok, Err}
use Rattle.std.specs.List.{flat_map, starts_with}
use Rattle.std.specs.Str.Lines.{lines}
use Rattle.plc_base.specs.declared.blocks.BlockId.{BlockId}
use Rattle.plc_base.specs.declared.blocks.BlockKind.{BlockKind}
use Rattle.plc_base.specs.declared.refusals.Refusal.{Refusal}
use Rattle.flat_code.specs.Programs.{Program}
use Rattle.image_file.specs.Readers.{block_by_id}
use Rattle.monitor.specs.LineText.{kind_text}
use Rattle.var_access.specs.Readings.{Reading, address_number, both_readings, no_line, reading_map, words_of}
use Rattle.var_access.specs.Requests.{kind_of_word}
use Rattle.stack_bound.specs.Order.{is_before}
use Rattle.stack_bound.specs.declared.certificates.Bound.{Bound}
use Rattle.stack_bound.specs.declared.texts.CertificateFault.{CertificateFault}
use Rattle.stack_bound.specs.declared.texts.CertificateFault.TheVariants.{BadLine, NoMemory}

-- ---- written

-- the line of a bound
unfoldable pub bound_text : Bound → List ℕ
bound_text b =
    kind_text b.block.kind ++ (codes " " ++ (decimal b.block.number
    ++ (codes " DEPTH " ++ (decimal b.depth
    ++ (codes " BYTES " ++ (decimal b.bytes ++ codes "\n"))))))

-- the lines of the bounds of a list, one behind the other
abbrev pub certificate_text : List Bound → List ℕ
certificate_text list = flat_map bound_text list

-- ---- read

-- the bound of these parts: kind and number of the block, depth, bytes
abbrev pub bound_of_parts : (BlockKind × ℕ) × (ℕ × ℕ) → Bound
bound_of_parts p = record {
  block = record { kind = p.0.0; number = p.0.1 };
  depth = p.1.0;
  bytes = p.1.1;
}

-- a block, and its two numbers; each number is one of 0 to 65,535, else it is out of
-- range
abbrev pub parts_read : (kind number depth bytes : List ℕ) → Reading ((BlockKind × ℕ) × (ℕ × ℕ))
parts_read kind number depth bytes =
    both_readings (both_readings (kind_of_word kind) (address_number number))
    (both_readings (address_number depth) (address_number bytes))

-- the bound of the four words that aren't fixed
abbrev pub bound_read : (kind number depth bytes : List ℕ) → Reading Bound
bound_read kind number depth bytes = reading_map bound_of_parts (parts_read kind number depth bytes)

-- the words of a line: all six, with DEPTH and BYTES in their places
unfoldable pub bound_words : List (List ℕ) → Reading Bound
bound_words (kind ∷ number ∷ first ∷ depth ∷ second ∷ bytes ∷ []) =
    if bytes_eq first (codes "DEPTH") && bytes_eq second (codes "BYTES")
    then bound_read kind number depth bytes
    else no_line
bound_words words = no_line

-- a block stands behind the one of the line before, if there is one
abbrev pub comes_behind : Option BlockId → BlockId → Bool
comes_behind None block = true
comes_behind (Some before) block = is_before before block

-- the number of the rule that a line breaks whose block isn't loaded, or doesn't come behind that of
-- the line before
abbrev pub not_in_order : ℕ
not_in_order = 3

-- the bound of a line behind one of a block; it is out of order where its block isn't loaded, or
-- doesn't come behind the one before
abbrev pub bound_in_order : Program → Option BlockId → Reading Bound → Reading Bound
bound_in_order p before (Err rule) = Err rule
bound_in_order p before (Ok b) =
    if is_some (block_by_id b.block p.code_blocks) && comes_behind before b.block then Ok b
    else Err not_in_order

-- the bound of a line behind one of a block
abbrev pub bound_line : Program → Option BlockId → (line : List ℕ) → Reading Bound
bound_line p before line = bound_in_order p before (bound_words (words_of line))

-- empty lines and lines that begin with `//` are skipped
abbrev pub is_line_skipped : (line : List ℕ) → Bool
is_line_skipped line = length line == 0 || starts_with nat_eq line (codes "//")

-- bounds in front of those that follow, or the refusal of these
abbrev pub bounds_in_front : List Bound → Result (List Bound) Refusal → Result (List Bound) Refusal
bounds_in_front list (Ok more) = Ok (list ++ more)
bounds_in_front list (Err refusal) = Err refusal

-- a line's bound in front of those that follow, or the line's refusal
abbrev pub bound_of_line_first :
    (line : ℕ) → Reading Bound → (Bound → Result (List Bound) Refusal) → Result (List Bound) Refusal
bound_of_line_first line (Err rule) more = Err (record { line = line; rule = rule })
bound_of_line_first line (Ok b) more = bounds_in_front (b ∷ []) (more b)

-- the bounds of lines, the first of which has this number and stands behind the line of a block
-- (None: none), or the first refusal
unfoldable pub bounds_of_lines :
    Program → (line : ℕ) → Option BlockId → List (List ℕ) → Result (List Bound) Refusal
bounds_of_lines p line before [] = Ok []
bounds_of_lines p line before (text ∷ more) =
    if is_line_skipped text then bounds_of_lines p (line + 1) before more
    else
    bound_of_line_first line (bound_line p before text)
    (λ b. bounds_of_lines p (line + 1) (Some b.block) more)

-- the bounds that a text spells, its lines counted from 1, or the refusal of its first bad line
unfoldable pub certificate_of : Program → List ℕ → Result (List Bound) Refusal
certificate_of p text = bounds_of_lines p 1 None (lines text)

-- a text spells bounds
abbrev pub SpellsCertificate : Program → List ℕ → List Bound → Type 0
SpellsCertificate p text list = certificate_of p text ≡ Ok list

-- the first bad line with the least rule that it breaks; want of memory says nothing of the text
abbrev pub IsCertificateTextFault : Result (List Bound) Refusal → CertificateFault → Type 0
IsCertificateTextFault reading (BadLine line rule) =
    reading ≡ Err (record { line = line; rule = rule })
IsCertificateTextFault reading NoMemory = Unit {0}

-- what a right line leaves: the block and the bounds as they were, or its own block and its bound behind
-- them
abbrev pub TakesBound : Reading Bound → (after : Option BlockId) → (old new : List Bound) → Type 0
TakesBound (Err rule) after old new = ⊥
TakesBound (Ok b) after old new = (after ≡ Some b.block) × (new ≡ old ++ b ∷ [])

-- a bound that was read comes behind those so far; where the line is skipped they stay as they are
abbrev pub TakesBoundUnlessSkipped :
    (skipped : Bool) → Reading Bound → (before after : Option BlockId)
    → (old new : List Bound) → Type 0
TakesBoundUnlessSkipped true reading before after old new = (after ≡ before) × (new ≡ old)
TakesBoundUnlessSkipped false reading before after old new = TakesBound reading after old new

-- the bound of a line of a program's certificate comes behind those so far; where the line is
-- skipped they stay as they are
abbrev pub TakesBoundLine :
    Program → (before after : Option BlockId) → (line : List ℕ)
    → (old new : List Bound) → Type 0
TakesBoundLine p before after line old new =
    TakesBoundUnlessSkipped (is_line_skipped line) (bound_line p before line) before after old new

-- a line with this number that breaks the rule, and no lesser one
abbrev pub IsCertificateLineFault :
    (number : ℕ) → Program → (before : Option BlockId) → (line : List ℕ)
    → CertificateFault → Type 0
IsCertificateLineFault number p before line (BadLine at rule) =
    (at ≡ number) × (is_line_skipped line ≡ false) × (bound_line p before line ≡ Err rule)
IsCertificateLineFault number p before line NoMemory = Unit {0}
