-- Declarations and what they stand in. Those before a declaration are listed with the nearest
-- first.
use Rattle.std.specs.Prelude.{ℕ, nat_lt, List, [], ◌∷◌, ◌++◌, false, Option, Some, None, codes, if◌then◌else◌}
use Rattle.std.specs.List.{flat_map}
use Rattle.plc_base.specs.declared.refusals.Refusal.{Refusal}
use Rattle.stl_ast.specs.declared.blocks.Block.{Block}
use Rattle.stl_ast.specs.declared.declarations.Declaration.{Declaration}
use Rattle.stl_ast.specs.declared.declarations.Simple.{Simple}
use Rattle.plc_base.specs.RefusalsAlong.{refusals_along}

-- a declaration with those before it, the nearest first
pub record Holder : Type 0 where
  -- the declaration itself
  pub declaration : Declaration
  -- the declarations before it, the nearest first
  pub before : List Declaration

-- the structures around a declaration at this level, the innermost first: of those before it the
-- nearest at a lower level, and those around that one
abbrev pub structures_around : ℕ → List Declaration → List Holder
structures_around level [] = []
structures_around level (d ∷ ds) =
    if nat_lt d.level level
    then record { declaration = d; before = ds } ∷ structures_around d.level ds
    else structures_around level ds

-- what stands before the declaration that follows these, the nearest first: these, and those in
-- `before`
abbrev pub declarations_before_next : (before : List Declaration) → List Declaration
    → List Declaration
declarations_before_next before [] = before
declarations_before_next before (d ∷ ds) = declarations_before_next (d ∷ before) ds

-- what the outermost declarations of a list stand in: names that the list has already, and open
-- structures
pub record Outside : Type 0 where
  -- the names that stand before the declarations in their list
  pub names : List (List ℕ)
  -- how many structures are open around the declarations
  pub depth : ℕ

-- the name of the return value of a function
abbrev pub ret_val : List ℕ
ret_val = codes "RET_VAL"

-- the names in a list of sections before its first declaration: RET_VAL of a function with a result
abbrev pub returned_names : Option Simple → List (List ℕ)
returned_names None = []
returned_names (Some kind) = ret_val ∷ []

-- what the declarations in the sections of a block stand in: one list, in which a function has its
-- return value
abbrev pub of_sections : Block → Outside
of_sections b = record { names = returned_names b.result; depth = 0 }

-- the declarations of all sections of a block in the order of the text, components among them
abbrev pub section_declarations : Block → List Declaration
section_declarations b = flat_map (λ p. p.items) b.parts

-- what the components of a data block or a data type stand in: its structure
abbrev pub of_structure : Outside
of_structure = record { names = []; depth = 1 }

-- the refusals by a rule of declarations, of all declarations that follow those in `before`
abbrev pub refusals_in_rest : (List Declaration → Declaration → List Refusal)
    → (before : List Declaration) → List Declaration → List Refusal
refusals_in_rest broken before ds =
    refusals_along (λ d. false) broken (λ before d. d ∷ before) before ds

-- the refusals by a rule of declarations, of all declarations that stand in a list
abbrev pub refusals_in_list : (List Declaration → Declaration → List Refusal) → List Declaration
    → List Refusal
refusals_in_list broken ds = refusals_in_rest broken [] ds

-- the refusals by a rule of declarations, of all declarations of a block: those of its sections,
-- then the components of its structure
abbrev pub refusals_in_block : (Outside → List Declaration → Declaration → List Refusal) → Block
    → List Refusal
refusals_in_block broken b =
    refusals_in_list (broken (of_sections b)) (section_declarations b)
    ++ refusals_in_list (broken of_structure) b.components

-- the refusals by a rule of declarations, of all declarations of a source, block by block
abbrev pub refusals_in_blocks : (Outside → List Declaration → Declaration → List Refusal)
    → List Block → List Refusal
refusals_in_blocks broken blocks = flat_map (refusals_in_block broken) blocks
