-- Rule 43: a user-defined data type contains itself: it uses itself, or one that leads to it. The
-- line is that of its head; a type that only uses one that contains itself doesn't break it.
use Rattle.std.specs.Prelude.{ℕ, zero, suc, nat_eq, Bool, false, ◌&&◌, ◌||◌, List, [], ◌∷◌, length, Option, Some, None}
use Rattle.std.specs.List.{flat_map, list_any, slice_get}
use Rattle.plc_base.specs.Kinds.{is_data_type}
use Rattle.plc_base.specs.declared.refusals.Refusal.{Refusal}
use Rattle.stl_ast.specs.declared.blocks.Block.{Block}
use Rattle.stl_ast.specs.declared.declarations.ElementType.{ElementType}
use Rattle.stl_ast.specs.declared.declarations.ElementType.TheVariants as element
use Rattle.block_layout.specs.Heads.{on_heads}
use Rattle.block_layout.specs.Types.{Types, data_type_place}

-- a list of the place, if there is one; else the empty list
abbrev pub if_some : Option ℕ → List ℕ
if_some None = []
if_some (Some n) = n ∷ []

-- the data types that an element type uses, by their places in the source
abbrev pub types_used_by : Types → ElementType → List ℕ
types_used_by y (element.Udt name) = if_some (data_type_place y name)
types_used_by y _ = []

-- the data types that the components of a block use, by their places; none where there is no block
abbrev pub uses_of : Types → Option Block → List ℕ
uses_of y None = []
uses_of y (Some b) = flat_map (λ d. types_used_by y d.of.of) b.components

-- from one data type uses lead to another one, in so many steps at most
abbrev pub leads_to : Types → List Block → (steps from to : ℕ) → Bool
leads_to y blocks zero from to = false
leads_to y blocks (suc steps) from to =
    list_any (λ used. nat_eq used to || leads_to y blocks steps used to)
    (uses_of y (slice_get blocks from))

-- uses lead from a data type back to itself; as many steps as there are blocks are enough. `before`
-- are the blocks before it
abbrev pub contains_itself : Types → List Block → (before : List Block) → Block → Bool
contains_itself y blocks before b =
    is_data_type b.kind && leads_to y blocks (length blocks) (length before) (length before)

-- rule 43: a user-defined data type contains itself
unfoldable pub rule_43 : Types → List Block → List Refusal
rule_43 y blocks = on_heads (contains_itself y blocks) 43 blocks
