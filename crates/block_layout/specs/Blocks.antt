-- The blocks of a source: their numbers, and which block a name means.
use Rattle.std.specs.Prelude.{ℕ, suc, nat_eq, nat_le, Bool, true, false, ◌&&◌, ◌||◌, List, [], ◌∷◌, map, Option, Some, None, if◌then◌else◌}
use Rattle.std.specs.Option.{option_map, option_and_then}
use Rattle.plc_base.specs.Kinds.{is_function_block, is_data_type, is_same_kind, is_same_block}
use Rattle.plc_base.specs.declared.blocks.BlockId.{BlockId}
use Rattle.plc_base.specs.declared.blocks.BlockKind.{BlockKind}
use Rattle.plc_base.specs.declared.blocks.BlockKind.TheVariants as kind
use Rattle.stl_ast.specs.declared.blocks.Block.{Block}
use Rattle.stl_ast.specs.declared.names.BlockName.{BlockName}
use Rattle.stl_ast.specs.declared.names.BlockName.TheVariants.{Number, Quoted}
use Rattle.stl_symbols.specs.Symbol.{Symbol, symbol_named}
use Rattle.stl_symbols.specs.declared.targets.Target.{Target}
use Rattle.stl_symbols.specs.declared.targets.Target.TheVariants as target

-- what a data block can be of: a function block, whose instance it is, or a user-defined data type
abbrev pub has_structure : BlockKind → Bool
has_structure k = is_function_block k || is_data_type k

-- a block of whatever kind
abbrev pub is_any : BlockKind → Bool
is_any k = true

-- a number lies between two others, both of them included
abbrev pub lies_within : (low high : ℕ) → ℕ → Bool
lies_within low high n = nat_le low n && nat_le n high

-- the numbers of the organization blocks of the profile: 1, 10 to 17, 20 to 23, 30 to 38, 40 to 47,
-- 80, 85, 100, 121, 122
abbrev pub is_ob_number : ℕ → Bool
is_ob_number n =
    nat_eq n 1 || lies_within 10 17 n || lies_within 20 23 n || lies_within 30 38 n
    || lies_within 40 47 n
    || nat_eq n 80 || nat_eq n 85 || nat_eq n 100 || nat_eq n 121 || nat_eq n 122

-- the numbers of blocks: 0 to 2047 of functions and function blocks, 1 to 2047 of data blocks and
-- data types; of organization blocks those of the profile, of system functions none
abbrev pub is_block_number : BlockKind → ℕ → Bool
is_block_number kind.Ob n = is_ob_number n
is_block_number kind.Fc n = lies_within 0 2047 n
is_block_number kind.Fb n = lies_within 0 2047 n
is_block_number kind.Db n = lies_within 1 2047 n
is_block_number kind.Udt n = lies_within 1 2047 n
is_block_number kind.Sfc n = false

-- the block that the target of a symbol is; none where it is something else
abbrev pub block_of_symbol_target : Option Target → Option BlockId
block_of_symbol_target (Some (target.Block id)) = Some id
block_of_symbol_target _ = None

-- the block that a name means: its number, or that of the symbol
abbrev pub named_block : List Symbol → BlockName → Option BlockId
named_block symbols (Number id) = Some id
named_block symbols (Quoted name) =
    block_of_symbol_target (option_map (λ s. s.target) (symbol_named name symbols))

-- a block, where it is of one of these kinds; none where it isn't
abbrev pub of_kind : (BlockKind → Bool) → Option BlockId → Option BlockId
of_kind kinds None = None
of_kind kinds (Some id) = if kinds id.kind then Some id else None

-- kind and number of a block of the source, by its head; a symbol of another kind gives it none
abbrev pub id_of : List Symbol → Block → Option BlockId
id_of symbols b = of_kind (is_same_kind b.kind) (named_block symbols b.name)

-- the blocks of the source in order, by kind and number
abbrev pub ids_of : List Symbol → List Block → List (Option BlockId)
ids_of symbols blocks = map (λ b. id_of symbols b) blocks

-- a block of the source is this one; one without kind and number is none
abbrev pub is_id : BlockId → Option BlockId → Bool
is_id id None = false
is_id id (Some other) = is_same_block id other

-- the first place of a block among these, counted from 0
abbrev pub place_of_block : BlockId → List (Option BlockId) → Option ℕ
place_of_block id [] = None
place_of_block id (i ∷ is) =
    if is_id id i then Some 0 else option_map (λ k. suc k) (place_of_block id is)

-- the block of the source that is meant: of several with one number the first; none that has a
-- number beyond the limits
abbrev pub known_block : BlockId → List (Option BlockId) → Option ℕ
known_block id ids = if is_block_number id.kind id.number then place_of_block id ids else None

-- the place of the block that a name means, of one of these kinds
abbrev pub found_block : List Symbol → List (Option BlockId) → (BlockKind → Bool) → BlockName
    → Option ℕ
found_block symbols ids kinds name =
    option_and_then (λ id. known_block id ids) (of_kind kinds (named_block symbols name))
