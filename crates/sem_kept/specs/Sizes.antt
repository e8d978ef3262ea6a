-- That a program is small enough for an image.
use Rattle.std.specs.Prelude.{◌≡◌, ℕ, ◌≤◌, true, List, [], length}
use Rattle.std.specs.List.{AllByRecursion}
use Rattle.flat_code.specs.Checking.{good_blocks, good_counts, good_datas, good_names, image_size}
use Rattle.flat_code.specs.Image.{IsProgram}
use Rattle.flat_code.specs.Programs.{Program}
use Rattle.image_file.specs.Writing.{BlockFitsFields}
use Rattle.stl_ast.specs.declared.blocks.Tree.{Tree}
use Rattle.stl_symbols.specs.Symbol.{Symbol}
use Rattle.sem_kept.specs.AcceptedSource.{IsAccepted, program_in}

-- a program's counts and code blocks fit their fields, and its image has at most 8,388,608 bytes
pub record IsSmall (p : Program) : Type 0 where
  -- it has no more code blocks, data blocks and names than it may
  pub counts : good_counts (length p.code_blocks) (length p.data_blocks) (length p.names) ≡ true
  -- its image isn't too long
  pub short : image_size p ≤ 8388608
  -- the statements and code bytes of each code block fit their fields
  pub blocks : AllByRecursion BlockFitsFields p.code_blocks

-- the program of an accepted source is small enough for an image
abbrev pub AcceptedIsSmall : Type 0
AcceptedIsSmall =
    (source file : List ℕ) (symbols : List Symbol) (t : Tree)
    → IsAccepted source file symbols t → IsSmall (program_in symbols t)

-- a program that is small enough, and whose records of blocks, data blocks and names are right
-- too, has an image
abbrev pub SmallIsProgram : Type 0
SmallIsProgram =
    (p : Program) → IsSmall p → good_blocks (0, 0) p.code_blocks ≡ true
    → good_datas (0, 0) p.data_blocks ≡ true → good_names [] p.names ≡ true → IsProgram p
