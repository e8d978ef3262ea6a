-- THE FAULTS OF A PROGRAM, block by block, as `verify` tells them: 5 to 9, by the offset in the
-- block's code.
use Rattle.std.specs.Prelude.{◌≡◌, ℕ, Bool, true, false, ◌&&◌, List, [], ◌∷◌, ◌++◌, length, map, Option, Some, None}
use Rattle.plc_base.specs.declared.blocks.BlockId.{BlockId}
use Rattle.flat_code.specs.declared.image_fields.Field.TheVariants as field
use Rattle.flat_code.specs.Codes.{code_fault}
use Rattle.flat_code.specs.Layout.{is_fine}
use Rattle.flat_code.specs.Blocks.{Environment, at_offset, block_faults}
use Rattle.flat_code.specs.Faults.{field_fault}
use Rattle.flat_code.specs.Image.{end_marks, record_of_block}
use Rattle.flat_code.specs.Loading.{lens_of, environment_of_block}
use Rattle.flat_code.specs.Programs.{CodeBlock, DataBlock, Program}
use Rattle.flat_code.specs.Records.{BlockRecord}
use Rattle.image_file.specs.declared.refusing.VerifyError.{VerifyError}
use Rattle.image_file.specs.declared.refusing.VerifyError.TheVariants as error
use Rattle.image_file.specs.declared.faults.VerifyFault.{VerifyFault}
use Rattle.image_file.specs.Least.{IsLeastFault}

-- the fault 9, at offset 0, of each line that is 0 or falls, behind the line `before` (0 for none)
abbrev pub line_faults : ℕ → List ℕ → List (ℕ × ℕ)
line_faults before [] = []
line_faults before (line ∷ lines) =
    at_offset 0 (field_fault (field.Line before line)) ++ line_faults line lines

-- the fault 9, at offset 0, of a block that has another number of statements than end marks
abbrev pub count_faults : BlockRecord → List (ℕ × ℕ)
count_faults b =
    at_offset 0 (field_fault (field.StatementCount (end_marks b.code) (length b.lines)))

-- the faults of a block by the offset of its fault 5: that alone, or where there is none (None) 9,
-- and those of the ops
abbrev pub faults_unless : Option ℕ → Environment → BlockRecord → List (ℕ × ℕ)
faults_unless (Some at) environment b = (at, 5) ∷ []
faults_unless None environment b =
    count_faults b ++ line_faults 0 b.lines ++ block_faults environment 0 b.code

-- the faults of a block: its fault 5 alone, or where its code has none all others
abbrev pub faults_of_block : Environment → BlockRecord → List (ℕ × ℕ)
faults_of_block environment b = faults_unless (code_fault b.code) environment b

-- whether no code block has a fault 5 in its code: only then are calls checked
abbrev pub are_whole : List BlockRecord → Bool
are_whole [] = true
are_whole (b ∷ bs) = is_fine (code_fault b.code) && are_whole bs

-- the numbers and lengths in bytes of data blocks where calls are checked (true); None where calls
-- aren't checked
abbrev pub lens_where : Bool → List DataBlock → Option (List (ℕ × ℕ))
lens_where true datas = Some (lens_of datas)
lens_where false datas = None

-- the numbers and lengths in bytes of a program's data blocks, where its calls are checked: where
-- no code of it has a fault 5; else None
abbrev pub lens_checked : Program → Option (List (ℕ × ℕ))
lens_checked p = lens_where (are_whole (map record_of_block p.code_blocks)) p.data_blocks

-- the faults of a block whose calls find the blocks of `all`
abbrev pub faults_among :
    Option (List (ℕ × ℕ)) → List BlockRecord → CodeBlock → List (ℕ × ℕ)
faults_among lens all b =
    faults_of_block (environment_of_block lens all (record_of_block b)) (record_of_block b)

-- the fault `f` is of the block `id` and the least of the faults of that block; where the block has
-- none, `Later` holds
abbrev pub DecidesFor : BlockId → VerifyFault → List (ℕ × ℕ) → Type 0 → Type 0
DecidesFor id f [] Later = Later
DecidesFor id f (g ∷ gs) Later =
    (f.block ≡ id) × IsLeastFault (record { at = f.at; code = f.code }) (g ∷ gs)

-- the fault `f` is the least one of the first of code blocks that has a fault; where none has one,
-- no fault is
abbrev pub IsFirstOf :
    Option (List (ℕ × ℕ)) → List BlockRecord → List CodeBlock → VerifyFault → Type 0
IsFirstOf lens all [] f = ⊥
IsFirstOf lens all (b ∷ bs) f =
    DecidesFor b.id f (faults_among lens all b) (IsFirstOf lens all bs f)

-- a fault is the one that `verify` answers of a program: the least of the first block that has one
unfoldable pub IsFaultOf : Program → VerifyFault → Type 0
IsFaultOf p f = IsFirstOf (lens_checked p) (map record_of_block p.code_blocks) p.code_blocks f

-- none of code blocks has a fault, where their calls find the blocks of `all`
abbrev pub AreClean : Option (List (ℕ × ℕ)) → List BlockRecord → List CodeBlock → Type 0
AreClean lens all [] = Unit {0}
AreClean lens all (b ∷ bs) = (faults_among lens all b ≡ []) × AreClean lens all bs

-- a program of which no block has a fault
abbrev pub IsClean : Program → Type 0
IsClean p = AreClean (lens_checked p) (map record_of_block p.code_blocks) p.code_blocks

-- the error with which `verify` refuses a program is its fault; nothing is said where memory is
-- wanting
abbrev pub IsUnverified : VerifyError → Program → Type 0
IsUnverified (error.Fault f) p = IsFaultOf p f
IsUnverified error.NoMemory p = Unit {0}
