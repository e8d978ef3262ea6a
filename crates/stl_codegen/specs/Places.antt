-- A table of the offsets of statements.
use Rattle.std.specs.Prelude.{◌≡◌, ◌≤◌, ℕ, Bool, true, false, List, [], ◌∷◌, ◌++◌, Option, Some, None, slice_get}
use Rattle.flat_code.specs.Codes.{first_found}
use Rattle.flat_code.specs.Ops.{OpData}
use Rattle.stl_codegen.specs.CompiledBlock.{offset_of_statement}

-- the offset of the statement of a number: its start, or where it has none the end of the code
abbrev pub offset_in_table : List ℕ → (end : Option ℕ) → ℕ → Option ℕ
offset_in_table starts end n = first_found (slice_get starts n) end

-- the starts with one more, where a statement begins
abbrev pub extended_starts : List ℕ → (at : ℕ) → (begins : Bool) → List ℕ
extended_starts starts at true = starts ++ at ∷ []
extended_starts starts at false = starts

-- what is found of an offset: the offset itself, or nothing where it doesn't fit 32 bits
abbrev pub IsOffset : Option ℕ → ℕ → Type 0
IsOffset (Some at) offset = at ≡ offset
IsOffset None offset = 4294967296 ≤ offset

-- the offsets at which the statements of ops begin, and the end of the code
pub record AreStatementOffsets (starts : List ℕ) (end : Option ℕ) (ops : List OpData) : Type 0 where
  -- of each statement number the table has the offset, or none where it doesn't fit 32 bits
  pub each : (n : ℕ) → IsOffset (offset_in_table starts end n) (offset_of_statement ops n)
