-- The parameters of the blocks of a listing, by those of the program.
use Rattle.std.specs.Prelude.{◌≡◌, ◌+◌, ◌<◌, ℕ, List, [], ◌∷◌, Some, slice_get, if◌then◌else◌}
use Rattle.plc_base.specs.Kinds.{is_same_block}
use Rattle.plc_base.specs.declared.blocks.BlockId.{BlockId}
use Rattle.flat_code.specs.Programs.{CodeBlock}
use Rattle.flat_code.specs.Image.{record_of_param}
use Rattle.flat_code.specs.declared.programs.Param.{Param}
use Rattle.stl_ast.specs.declared.declarations.Simple.{Simple}
use Rattle.block_layout.specs.Offsets.{width_of}
use Rattle.stl_types.specs.declared.parameters.Formal.{Formal}
use Rattle.stl_list.specs.JoinedParameters.{PassingChains, chains_of, first_of, kind_at, links, total_parameter_count}
use Rattle.stl_list.specs.Parameters.{section_of}
use Rattle.stl_list.specs.Signatures.{formals_of_block, signatures}
use Rattle.listing_laws.specs.Chains.{AreTypesAsDeclared, HasStep}
use Rattle.listing_laws.specs.Fitting.{IsListedAs}

-- the parameters of a block; none where there is no such block
abbrev pub params_of_block : List CodeBlock → BlockId → List Param
params_of_block [] id = []
params_of_block (b ∷ bs) id = if is_same_block b.id id then b.params else params_of_block bs id

-- a parameter of a block as a listing has it: the one of its index, of the type that chains give to
-- it
pub record IsParameterOf
    (c : PassingChains) (blocks : List CodeBlock) (id : BlockId) (index : ℕ) (f : Formal)
    : Type 0 where
  -- the parameter as the program has it
  pub param : Param
  -- the parameter of the program has this index in its block
  pub there : slice_get (params_of_block blocks id) index ≡ Some param
  -- the section in the listing is that of the program
  pub section : f.section ≡ section_of param.section
  -- the type in the listing is the one that chains of passings give
  pub kind : f.kind ≡ kind_at c (first_of blocks id + index) param.width
  -- its number, counted over all blocks, is one of a parameter of the program
  pub few : first_of blocks id + index < total_parameter_count blocks

-- each parameter that a listing has for a block is the one of its index in the program, of the type
-- that chains of passings give to it
abbrev pub AreParametersListed : Type 0
AreParametersListed =
    (c : PassingChains) (blocks : List CodeBlock) (id : BlockId) (index : ℕ) (f : Formal)
    → slice_get (formals_of_block (signatures c blocks) id) index ≡ Some f
    → IsParameterOf c blocks id index f

-- a parameter in a listing is the one that the record of the code has, where the source declared
-- one of its width
abbrev pub AreListedAs : Type 0
AreListedAs =
    (blocks : List CodeBlock) (declared : ℕ → Simple) (id : BlockId) (index : ℕ) (f : Formal)
    → AreTypesAsDeclared blocks declared
    → (h : IsParameterOf (chains_of blocks) blocks id index f)
    → h.param.width ≡ width_of (declared (first_of blocks id + index))
    → IsListedAs f (record_of_param h.param)

-- both ends of a passing have one type in the listing, where they have one width
abbrev pub AreEndsAlike : Type 0
AreEndsAlike =
    (blocks : List CodeBlock) (declared : ℕ → Simple) (id other : BlockId) (index place : ℕ)
    (f g : Formal)
    → AreTypesAsDeclared blocks declared
    → (h : IsParameterOf (chains_of blocks) blocks id index f)
    → (k : IsParameterOf (chains_of blocks) blocks other place g)
    → h.param.width ≡ k.param.width
    → HasStep (links blocks) (first_of blocks id + index) (first_of blocks other + place)
    → f.kind ≡ g.kind
