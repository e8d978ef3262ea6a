-- The source that a number gives: a long OB 1, a statement or a pair of them for each draw, and a
-- short OB 35 that counts.
use Rattle.std.specs.Prelude.{ℕ, ◌*◌, ◌/◌, ◌%◌, ◌==◌, if◌then◌else◌, List, ◌++◌, codes, decimal}
use Rattle.std.specs.List.{flat_map}
use Rattle.generator.specs.Draws.{random_draws}

-- the word of bit memory that a draw's statement is about: an even byte from 0 to 198
abbrev pub drawn_memory_word : ℕ → ℕ
drawn_memory_word d = 2 * (d / 8 % 100)

-- the statements that a draw gives, on one line
unfoldable pub statement_line : ℕ → List ℕ
statement_line d =
    if d % 8 == 0 then codes "L MW " ++ decimal (drawn_memory_word d) ++ codes ";\n"
    else if d % 8 == 1 then codes "T MW " ++ decimal (drawn_memory_word d) ++ codes ";\n"
    else if d % 8 == 2 then codes "+I;\n"
    else if d % 8 == 3 then codes "-I;\n"
    else if d % 8 == 4 then codes "L " ++ decimal d ++ codes ";\n"
    else if d % 8 == 5 then codes "*I;\n"
    else if d % 8 == 6 then codes "XOW;\n"
    else codes "A M " ++ decimal (drawn_memory_word d) ++ codes ".1; = M "
    ++ decimal (drawn_memory_word d) ++ codes ".2;\n"

-- the beginning of the source: the head of OB 1
unfoldable pub source_head : List ℕ
source_head = codes "ORGANIZATION_BLOCK OB 1\nBEGIN\n"

-- the end of the source: the end of OB 1, and all of OB 35
unfoldable pub source_end : List ℕ
source_end =
    codes "END_ORGANIZATION_BLOCK\nORGANIZATION_BLOCK OB 35\nBEGIN\nL MW 0;\n+ 1;\nT MW 0;\nEND_ORGANIZATION_BLOCK\n"

-- the source of a number, with the lines of 2,000 draws in OB 1
unfoldable pub source_text : ℕ → List ℕ
source_text number = source_head ++ flat_map statement_line (random_draws 2000 number) ++ source_end
