-- A layout of values: their bytes, which of them are without fault, and what reading them from left
-- to right notes and finds.
use Rattle.std.specs.Prelude.{ℕ, zero, suc, ◌+◌, ◌-◌, Bool, true, false, ◌&&◌, List, [], ◌∷◌, ◌++◌, length, Option, Some, None}
use Rattle.flat_code.specs.Coding.{Coding}
use Rattle.flat_code.specs.Programs.{DataBlock}
use Rattle.flat_code.specs.Records.{BlockRecord}

-- what reading notes: a fault at an offset, by its code; a code block that was read whole, with the
-- offset at which its code begins; and that all code and data blocks were read
pub data ReadingNote : Type 0 where
  -- a fault at an offset in the image, by its code
  Faulty : (at : ℕ) (code : ℕ) → ReadingNote
  -- a code block that was read whole, with the offset in the image at which its code begins
  Whole : (start : ℕ) (block : BlockRecord) → ReadingNote
  -- all code blocks and these data blocks were read
  AllBlocks : (blocks : List DataBlock) → ReadingNote

-- a place in the bytes: its offset, and what is left from there
pub record Cursor : Type 0 where
  -- the offset in bytes from the image's first byte
  pub at : ℕ
  -- the bytes of the image from there on
  pub rest : List ℕ

-- what reading gives: notes, and the value found with the place behind it; None where it ended
pub record ReadResult (A : Type 0) : Type 0 where
  -- what was noted, in the order of reading
  pub notes : List ReadingNote
  -- the value and the place behind it; None where a fault ended the reading
  pub found : Option (A × Cursor)

-- how a value stands in an image: its bytes, whether it is without fault, and how it is read
pub record FieldLayout (A : Type 0) : Type 0 where
  -- the bytes of a value
  pub spell : A → List ℕ
  -- whether each field of a value fits its bytes and has no fault
  pub good : A → Bool
  -- what reading from a place on notes, and the value that it finds
  pub read : Cursor → ReadResult A

-- reading ends at a fault: the offset of the field, and the code of the fault
abbrev pub reading_ended : {A : Type 0} → ℕ → ℕ → ReadResult A
reading_ended at code = record { notes = Faulty at code ∷ []; found = None }

-- a value is found, and nothing is noted
abbrev pub reading_given : {A : Type 0} → A → Cursor → ReadResult A
reading_given x cur = record { notes = []; found = Some (x, cur) }

-- reading goes on with what was found and the place behind it; where nothing was found it ends
-- there
abbrev pub go_on :
    {A B : Type 0} → List ReadingNote → Option (A × Cursor) → (A → Cursor → ReadResult B)
    → ReadResult B
go_on notes None f = record { notes = notes; found = None }
go_on notes (Some x) f = record { notes = notes ++ (f x.0 x.1).notes; found = (f x.0 x.1).found }

-- a reading, and then `f` from the place behind what it found on; where it found nothing reading
-- ends
abbrev pub bind_reading : {A B : Type 0} → ReadResult A → (A → Cursor → ReadResult B) → ReadResult B
bind_reading r f = go_on r.notes r.found f

-- the note of a fault, if there is one
abbrev pub fault_note : ℕ → Option ℕ → List ReadingNote
fault_note at None = []
fault_note at (Some code) = Faulty at code ∷ []

-- whether a value has no fault (None)
abbrev pub is_fine : Option ℕ → Bool
is_fine None = true
is_fine (Some code) = false

-- a field by its coding, and the fault of a value; one that can't be read is fault 3 (bytes that
-- are missing, or that name no value) and ends the reading
abbrev pub field_of : {A : Type 0} → (A → Option ℕ) → Cursor → Option (A × List ℕ) → ReadResult A
field_of fault_in cur None = reading_ended cur.at 3
field_of fault_in cur (Some r) = record {
  notes = fault_note cur.at (fault_in r.0);
  found = Some (r.0, record { at = cur.at + (length cur.rest - length r.1); rest = r.1 });
}

-- a field is good where its value fits and has no fault; a fault is noted, and reading goes on
abbrev pub field_layout : {A : Type 0} → Coding A → (A → Option ℕ) → FieldLayout A
field_layout c fault_in = record {
  spell = c.spell;
  good = λ x. c.fits x && is_fine (fault_in x);
  read = λ cur. field_of fault_in cur (c.read cur.rest);
}

-- two values one behind the other; the layout of the second may depend on the first
abbrev pub chain_layout : {A B : Type 0} → FieldLayout A → (A → FieldLayout B) → FieldLayout (A × B)
chain_layout l m = record {
  spell = λ x. l.spell x.0 ++ (m x.0).spell x.1;
  good = λ x. l.good x.0 && (m x.0).good x.1;
  read = λ cur.
      bind_reading (l.read cur) (λ x next.
      bind_reading ((m x).read next) (λ y end. reading_given (x, y) end));
}

-- a layout with a fault at an earlier offset `at` that is found only now; None where there is none
abbrev pub checked_layout : {A : Type 0} → ℕ → Option ℕ → FieldLayout A → FieldLayout A
checked_layout at fault l = record {
  spell = l.spell;
  good = λ x. is_fine fault && l.good x;
  read = λ cur. record {
    notes = fault_note at fault ++ (l.read cur).notes;
    found = (l.read cur).found;
  };
}

-- a layout that depends on the offset at which its value begins; its bytes don't
abbrev pub located_layout : {A : Type 0} → (ℕ → FieldLayout A) → FieldLayout A
located_layout l = record {
  spell = (l 0).spell;
  good = (l 0).good;
  read = λ cur. (l cur.at).read cur;
}

-- the bytes of values one behind the other; the layout of each depends on a state of those before
-- it
abbrev pub spell_many : {S A : Type 0} → (S → FieldLayout A) → (S → A → S) → S → List A → List ℕ
spell_many l next s [] = []
spell_many l next s (x ∷ xs) = (l s).spell x ++ spell_many l next (next s x) xs

-- whether a list has exactly n values, each good by the state of those before it
abbrev pub good_many : {S A : Type 0} → (S → FieldLayout A) → (S → A → S) → S → ℕ → List A → Bool
good_many l next s zero [] = true
good_many l next s zero (x ∷ xs) = false
good_many l next s (suc n) [] = false
good_many l next s (suc n) (x ∷ xs) = (l s).good x && good_many l next (next s x) n xs

-- reading n values one behind the other; where reading one ends, no list is found
abbrev pub read_many :
    {S A : Type 0} → (S → FieldLayout A) → (S → A → S) → S → ℕ → Cursor → ReadResult (List A)
read_many l next s zero cur = reading_given [] cur
read_many l next s (suc n) cur =
    bind_reading ((l s).read cur) (λ x after.
    bind_reading (read_many l next (next s x) n after) (λ xs end. reading_given (x ∷ xs) end))

-- a list of n values one behind the other; `s` is the state before the first, `next` gives the one
-- behind a value, by which the layout of the next value is chosen
abbrev pub list_layout : {S A : Type 0} → (S → FieldLayout A) → (S → A → S) → S → ℕ
    → FieldLayout (List A)
list_layout l next s n = record {
  spell = spell_many l next s;
  good = good_many l next s n;
  read = read_many l next s n;
}

-- a layout whose values are of another type, with the bytes and faults of the layout `l`: `to`
-- makes such a value of one of `l`, `from` the one of `l` that is spelled
abbrev pub layout_seen_as : {A B : Type 0} → (A → B) → (B → A) → FieldLayout A → FieldLayout B
layout_seen_as to from l = record {
  spell = λ y. l.spell (from y);
  good = λ y. l.good (from y);
  read = λ cur. bind_reading (l.read cur) (λ x end. reading_given (to x) end);
}

-- a layout by which a value that was read whole is noted
abbrev pub noted_layout : {A : Type 0} → (A → ReadingNote) → FieldLayout A → FieldLayout A
noted_layout note l = record {
  spell = l.spell;
  good = l.good;
  read = λ cur.
      bind_reading (l.read cur) (λ x end. record { notes = note x ∷ []; found = Some (x, end) });
}

-- the faults among notes, each by its offset and its code
abbrev pub faults_in : List ReadingNote → List (ℕ × ℕ)
faults_in [] = []
faults_in (Faulty at code ∷ notes) = (at, code) ∷ faults_in notes
faults_in (Whole start block ∷ notes) = faults_in notes
faults_in (AllBlocks blocks ∷ notes) = faults_in notes
