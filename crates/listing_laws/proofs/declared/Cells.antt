-- The cells of the declarations in a listed code block.
use Rattle.std.proofs.Common.{◌≡◌, ℕ, suc, ◌+◌, ◌-◌, ◌<◌, ◌^◌, Bool, true, false, List, [], ◌∷◌, length, map, pos, is_some, refl, ap, subst, ◌∙◌, arith}
use Rattle.std.specs.Prelude.{◌==◌, if◌then◌else◌, int_lt, unsigned_abs, ◌-ℤ◌}
use Rattle.plc_base.proofs.ListLemmas.{all_append}
use Rattle.plc_base.specs.Folding.{upper_case_name}
use Rattle.stl_ast.specs.declared.blocks.PartKind.{PartKind}
use Rattle.stl_ast.specs.declared.declarations.Declaration.{Declaration}
use Rattle.stl_ast.specs.declared.declarations.Simple.TheVariants as simple
use Rattle.stl_symbols.specs.Names.{name_place}
use Rattle.block_layout.specs.Around.{Outside, declarations_before_next}
use Rattle.block_layout.specs.Cells.{cell_of, cells_of, is_sound, with_first_cell_opening}
use Rattle.block_layout.specs.Declarations.{element_count}
use Rattle.block_layout.specs.Rule21.{names_before}
use Rattle.block_layout.specs.Types.{Types}
use Rattle.block_layout.specs.declared.cells.Cell.{Cell}
use Rattle.block_layout.specs.declared.cells.Element.TheVariants.{Plain}
use Rattle.stl_types.specs.declared.parameters.Formal.{Formal}
use Rattle.stl_list.specs.Parameters.{parameter_name}
use Rattle.stl_list.specs.Sections.{byte_array, bytes_here, plain_declaration, section_part}
use Rattle.sem_kept.proofs.accepted.RecordParams.{IsNew, none_around, parameter_sound}
use Rattle.listing_laws.proofs.declared.Apart.{AreTaken, IsTaken, Numbered, parameter_new, taken_more}

-- ---- parameters

-- the cell of a parameter that is declared in a section, the first of it or not
abbrev pub plain_cell : (opens : Bool) → PartKind → Formal → Cell
plain_cell opens section f = record {
  name = upper_case_name f.name;
  section = section;
  level = 0;
  opens = opens;
  sound = true;
  bounds = [];
  of = Plain f.kind;
  presets = [];
}

abbrev pub plain_cells : PartKind → List Formal → List Cell
plain_cells section [] = []
plain_cells section (f ∷ fs) = plain_cell true section f ∷ map (plain_cell false section) fs

-- their names are those of the parameters from a number on
abbrev pub AreNumbered : ℕ → List Formal → Type 0
AreNumbered i [] = Unit {0}
AreNumbered i (f ∷ fs) = (f.name ≡ parameter_name i) × AreNumbered (suc i) fs

pub plain_new : (o : Outside) (before : List Declaration) (line i : ℕ) (static_ : Bool) (f : Formal) → f.name ≡ parameter_name i → i < 2 ^ 64
    → AreTaken i static_ (names_before o.names 0 before) → IsNew o before (plain_declaration line f)
plain_new o before line i static_ f name h taken =
    (ap (λ n. is_some (name_place (upper_case_name n) (names_before o.names 0 before))) name ∙ parameter_new i static_ (names_before o.names 0 before) h taken, refl)

pub plain_sound : (y : Types) (o : Outside) (before : List Declaration) (line : ℕ) (f : Formal) → o.depth ≡ 0 → IsNew o before (plain_declaration line f)
    → is_sound y o before (plain_declaration line f) ≡ true
plain_sound y o before line f shallow new =
    parameter_sound y o before (plain_declaration line f) shallow refl (record { arrays = refl; kind = f.kind; of = refl }) new

pub taken_next : (outer : List (List ℕ)) (before : List Declaration) (line i : ℕ) (static_ : Bool) (f : Formal) → f.name ≡ parameter_name i → i < 2 ^ 64
    → AreTaken i static_ (names_before outer 0 before) → AreTaken (suc i) static_ (names_before outer 0 (plain_declaration line f ∷ before))
taken_next outer before line i static_ f name h taken =
    all_append (IsTaken (suc i) static_) (names_before outer 0 before) (upper_case_name f.name ∷ [])
    (taken_more i (suc i) static_ (names_before outer 0 before) (omega arith) taken)
    (Numbered i (omega arith) h (ap upper_case_name name), tt)

-- parameters that stand behind some declarations, of which they have the next numbers
pub plain_listed : (y : Types) (o : Outside) (section : PartKind) (before : List Declaration) (line i : ℕ) (static_ : Bool) (fs : List Formal) → o.depth ≡ 0
    → AreNumbered i fs → i + length fs < 2 ^ 64 → AreTaken i static_ (names_before o.names 0 before)
    → (cells_of y o section before (map (plain_declaration line) fs) ≡ map (plain_cell false section) fs)
    × AreTaken (i + length fs) static_ (names_before o.names 0 (declarations_before_next before (map (plain_declaration line) fs)))
unfolding cell_of
plain_listed y o section before line i static_ [] shallow named h taken = (refl, taken_more i (i + 0) static_ (names_before o.names 0 before) (omega arith) taken)
plain_listed y o section before line i static_ (f ∷ fs) shallow (name, named) h taken =
    let d = plain_declaration line f in
    let sound = plain_sound y o before line f shallow (plain_new o before line i static_ f name (omega (arith, h)) taken) in
    let more = plain_listed y o section (d ∷ before) line (suc i) static_ fs shallow named (omega (arith, h)) (taken_next o.names before line i static_ f name (omega (arith, h)) taken) in
    let further : suc i + length fs ≡ i + suc (length fs) = omega arith in (
      (λ j. record {
        name = upper_case_name f.name;
        section = section;
        level = 0;
        opens = false;
        sound = sound j;
        bounds = [];
        of = Plain f.kind;
        presets = [];
      } ∷ more.0 j),
      subst (λ n. AreTaken n static_ (names_before o.names 0 (declarations_before_next (d ∷ before) (map (plain_declaration line) fs)))) further more.1,
    )

pub plain_opened : (section : PartKind) (fs : List Formal) → with_first_cell_opening (map (plain_cell false section) fs) ≡ plain_cells section fs
plain_opened section [] = refl
plain_opened section (f ∷ fs) = refl

-- ---- bytes

-- the cell of an array of bytes
abbrev pub byte_cell : PartKind → (name : List ℕ) → (bytes : ℕ) → Cell
byte_cell section name bytes = record {
  name = upper_case_name name;
  section = section;
  level = 0;
  opens = true;
  sound = true;
  bounds = record { low = pos 0; high = pos (bytes - 1) } ∷ [];
  of = Plain simple.Byte;
  presets = [];
}

abbrev pub byte_cells : PartKind → (name : List ℕ) → (bytes : ℕ) → List Cell
byte_cells section name bytes = if bytes == 0 then [] else byte_cell section name bytes ∷ []

not_upside : (n : ℕ) → int_lt (pos n) (pos 0) ≡ false
not_upside n = grind arith

bytes_gap : (n : ℕ) → 0 < n → unsigned_abs (pos (n - 1) -ℤ pos 0) + 1 ≡ n
bytes_gap n h = grind arith

pub bytes_count : (n : ℕ) → 0 < n → element_count (record { low = pos 0; high = pos (n - 1) }) ≡ n
bytes_count n h = let up = not_upside (n - 1) in rw up (bytes_gap n h)

bytes_sound : (y : Types) (o : Outside) (before : List Declaration) (line : ℕ) (name : List ℕ) (bytes : ℕ) → o.depth ≡ 0 → is_some (name_place (upper_case_name name) (names_before o.names 0 before)) ≡ false
    → is_sound y o before (byte_array line name bytes []) ≡ true
bytes_sound y o before line name bytes shallow new =
    let up = not_upside (bytes - 1) in
    let none = none_around before in
    rw new (rw up (rw none (rw shallow refl)))

pub bytes_listed : (y : Types) (o : Outside) (section : PartKind) (before : List Declaration) (line : ℕ) (name : List ℕ) (bytes : ℕ) → o.depth ≡ 0
    → is_some (name_place (upper_case_name name) (names_before o.names 0 before)) ≡ false
    → with_first_cell_opening (cells_of y o section before (bytes_here line name bytes [])) ≡ byte_cells section name bytes
unfolding cell_of
bytes_listed y o section before line name bytes shallow new = by (bytes == 0)
  where
    sound : is_sound y o before (byte_array line name bytes []) ≡ true
    sound = bytes_sound y o before line name bytes shallow new

    by : (t : Bool) → with_first_cell_opening (cells_of y o section before (if t then [] else byte_array line name bytes [] ∷ [])) ≡ (if t then [] else byte_cell section name bytes ∷ [])
    by true = refl
    by false = rw sound refl
