-- Rule 21: a name declared twice in one list. The sections of a block are one list, each structure
-- is one; the line is that of the later declaration.
use Rattle.std.specs.Prelude.{ℕ, nat_lt, nat_eq, Bool, is_some, List, [], ◌∷◌, ◌++◌, if◌then◌else◌}
use Rattle.plc_base.specs.declared.refusals.Refusal.{Refusal}
use Rattle.stl_ast.specs.declared.blocks.Block.{Block}
use Rattle.stl_ast.specs.declared.declarations.Declaration.{Declaration}
use Rattle.plc_base.specs.Folding.{upper_case_name}
use Rattle.plc_base.specs.Least.{broken_if}
use Rattle.stl_symbols.specs.Names.{name_place}
use Rattle.block_layout.specs.Around.{Outside, refusals_in_blocks}

-- the name of a declaration at this level, without case; of one at another level none
abbrev pub declaration_name_here : ℕ → Declaration → List (List ℕ)
declaration_name_here level d = if nat_eq d.level level then upper_case_name d.name ∷ [] else []

-- the names of the list that a declaration at this level goes on: of those before it the ones at
-- this level, back to the structure that holds it
abbrev pub names_before : (outer : List (List ℕ)) → ℕ → List Declaration → List (List ℕ)
names_before outer level [] = outer
names_before outer level (d ∷ ds) =
    if nat_lt d.level level then []
    else names_before outer level ds ++ declaration_name_here level d

-- the name of a declaration stands before it in its list
abbrev pub is_twice : Outside → List Declaration → Declaration → Bool
is_twice o before d =
    is_some (name_place (upper_case_name d.name) (names_before o.names d.level before))

-- the refusal by rule 21 of a declaration whose name stands before it in its list, at its line
abbrev pub refusals_21 : Outside → List Declaration → Declaration → List Refusal
refusals_21 o before d = broken_if (is_twice o before d) d.line 21

-- rule 21: a name declared twice in one list
unfoldable pub rule_21 : List Block → List Refusal
rule_21 blocks = refusals_in_blocks refusals_21 blocks
