-- Each parameter that a program passes on is a link of its listing.
use Rattle.std.specs.Prelude.{◌≡◌, ◌+◌, ℕ, true, false, List, ◌∷◌, ◌++◌, map, Option, Some, slice_get}
use Rattle.std.specs.List.{AllByRecursion}
use Rattle.plc_base.specs.Kinds.{is_callable, is_same_block, is_system_function}
use Rattle.plc_base.specs.declared.blocks.BlockId.{BlockId}
use Rattle.plc_base.specs.declared.places.Width.{Width}
use Rattle.flat_code.specs.Instr.{Passing, Calls}
use Rattle.flat_code.specs.declared.operands.Passed.TheVariants as passed
use Rattle.flat_code.specs.declared.operations.CallOperation.{CallOperation}
use Rattle.stl_types.specs.declared.parameters.Formal.{Formal}
use Rattle.stl_codegen.specs.CompiledBlock.{SourceInstruction, StatedBlock, compiled_block}
use Rattle.stl_list.specs.JoinedParameters.{first_of, links, total_parameter_count, system_parameters}
use Rattle.listing_laws.specs.Chains.{HasStep, LinksHaveType}

-- a statement of a block, `b`, passes the parameter of index `own` of `b` to the block `id`, for
-- its parameter of an index
pub record PassesParameterOn (b : StatedBlock) (id : BlockId) (index own : ℕ) : Type 0 where
  -- how the block is called: by CALL, UC or CC
  pub how : CallOperation
  -- the number of the instance data block, where the call names one
  pub instance : Option ℕ
  -- the line of the call
  pub line : ℕ
  -- the width of the parameter that is passed on
  pub width : Width
  -- the statements of `b` in front of the call
  pub before : List SourceInstruction
  -- the statements of `b` behind the call
  pub after : List SourceInstruction
  -- what the call passes in front of this parameter
  pub lower : List Passing
  -- what the call passes behind this parameter
  pub higher : List Passing
  -- the block that is called is of a kind that can be called
  pub callable : is_callable id.kind ≡ true
  -- the statements of `b` are those in front, the call, and those behind
  pub statements : b.statements
      ≡ before
      ++ record {
        instr = Calls how id instance
            (lower ++ record { index = index; actual = passed.Parameter own width } ∷ higher);
        line = line;
      }
      ∷ after

-- a parameter that is passed on for one of a block of the program is a step of a chain
abbrev pub AreStepsFound : Type 0
AreStepsFound =
    (front back : List StatedBlock) (b : StatedBlock) (id : BlockId) (index own : ℕ)
    → PassesParameterOn b id index own → is_system_function id.kind ≡ false
    → HasStep (links (map compiled_block (front ++ b ∷ back)))
    (total_parameter_count (map compiled_block front) + own)
    (first_of (map compiled_block (front ++ b ∷ back)) id + index)

-- a parameter that is passed on for one of a system function has a link with the type that the
-- function asks for
abbrev pub AreSeedsFound : Type 0
AreSeedsFound =
    (front back : List StatedBlock) (b : StatedBlock) (id : BlockId) (index own : ℕ) (f : Formal)
    → PassesParameterOn b id index own → is_system_function id.kind ≡ true
    → slice_get (system_parameters id.number) index ≡ Some f
    → LinksHaveType (links (map compiled_block (front ++ b ∷ back)))
    (total_parameter_count (map compiled_block front) + own) f.kind

-- the parameters of a block begin behind those of the blocks in front of it
abbrev pub AreFirstFound : Type 0
AreFirstFound =
    (front back : List StatedBlock) (b : StatedBlock)
    → AllByRecursion (λ (a : StatedBlock). is_same_block a.id b.id ≡ false) front
    → first_of (map compiled_block (front ++ b ∷ back)) b.id
    ≡ total_parameter_count (map compiled_block front)
