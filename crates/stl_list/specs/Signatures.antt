-- What a source says of a code block before its statements, as far as calls and instances need it.
use Rattle.std.specs.Prelude.{ℕ, suc, ◌+◌, ◌==◌, Bool, false, ◌&&◌, ◌||◌, List, [], ◌∷◌, length, if◌then◌else◌}
use Rattle.plc_base.specs.Kinds.{is_function, is_same_block, is_system_function}
use Rattle.plc_base.specs.declared.blocks.BlockId.{BlockId}
use Rattle.flat_code.specs.Programs.{CodeBlock}
use Rattle.flat_code.specs.Records.{section_out, section_in_out}
use Rattle.flat_code.specs.declared.programs.Param.{Param}
use Rattle.stl_types.specs.Parameters.{formal}
use Rattle.stl_types.specs.declared.parameters.Formal.{Formal}
use Rattle.stl_list.specs.JoinedParameters.{PassingChains, kind_at, system_parameters}
use Rattle.stl_list.specs.Parameters.{name_of, section_of}

-- a block by kind and number, the bytes of its instances, its parameters with their places, and the
-- same parameters by name, section and type
pub record Signature : Type 0 where
  -- kind and number of the block
  pub id : BlockId
  -- how many bytes an instance of the block has
  pub instance_len : ℕ
  -- the parameters with their places
  pub params : List Param
  -- the parameters in the order of `params`, by name, section and type
  pub formals : List Formal

-- whether an IN_OUT of a function stands here or before. `returns`: the block is a function
abbrev pub is_behind : (returns behind : Bool) → Param → Bool
is_behind returns behind p = behind || returns && p.section == section_in_out

-- a parameter of an index with its number among all; `behind`: an IN_OUT of a function stands
-- before it
abbrev pub formal_of_param : PassingChains → (behind : Bool) → (index parameter : ℕ) → Param
    → Formal
formal_of_param c behind index parameter p =
    formal (name_of (behind && p.section == section_out) index) (section_of p.section)
    (kind_at c parameter p.width)

-- parameters from an index on. `returns`: the block may have a return value; `behind`: an IN_OUT
-- stands before them; `first` is the number of the first of them
abbrev pub formals_from : PassingChains → (returns behind : Bool) → (index first : ℕ) → List Param
    → List Formal
formals_from c returns behind index first [] = []
formals_from c returns behind index first (p ∷ ps) =
    formal_of_param c behind index first p
    ∷ formals_from c returns (is_behind returns behind p) (suc index) (suc first) ps

-- the signature of a code block whose first parameter has this number among those of all blocks
abbrev pub signature : PassingChains → (first : ℕ) → CodeBlock → Signature
signature c first b = record {
  id = b.id;
  instance_len = b.instance_len;
  params = b.params;
  formals = formals_from c (is_function b.id.kind) false 0 first b.params;
}

-- the signatures of code blocks, of which the first has its parameters from the number `first` on
abbrev pub signatures_from : PassingChains → (first : ℕ) → List CodeBlock → List Signature
signatures_from c first [] = []
signatures_from c first (b ∷ bs) =
    signature c first b ∷ signatures_from c (first + length b.params) bs

-- the signatures of the code blocks of a program
unfoldable pub signatures : PassingChains → List CodeBlock → List Signature
signatures c blocks = signatures_from c 0 blocks

-- the parameters of a code block; none where there is no such block
abbrev pub formals_of_block : List Signature → BlockId → List Formal
formals_of_block [] id = []
formals_of_block (s ∷ ss) id = if is_same_block s.id id then s.formals else formals_of_block ss id

-- the parameters of a block that is called
abbrev pub called_formals : List Signature → BlockId → List Formal
called_formals signatures id =
    if is_system_function id.kind then system_parameters id.number
    else formals_of_block signatures id
