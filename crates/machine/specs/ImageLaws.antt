-- What verifying a program gives the machine: the laws of image_file together.
use Rattle.image_file.specs.VerifiedProgram.{OpsArePlaced, OpsAreOfTable, BlocksAreRight, CodeGoesOn, StatementsAreRight, StatementsHaveLines, BracketsFit, ZonesFit, JumpsLand, ListsLead, OperandsFit, PreparedFit, CallsFit, PassedFit, CalledAreThere}

-- laws of each block and op of each program that verifies
pub record ImageLaws : Type 0 where
  -- the op read at an offset is the one placed there
  pub placed : OpsArePlaced
  -- each op is one of the table of operations
  pub table : OpsAreOfTable
  -- each code block begins with a statement, with its local bytes and parameters within the limits
  pub blocks : BlocksAreRight
  -- each op has one behind it, but BE at the end of its block
  pub goes_on : CodeGoesOn
  -- a statement has at most 64 ops, all but the last USEDB or PASS
  pub statements : StatementsAreRight
  -- each statement has a source line
  pub lines : StatementsHaveLines
  -- no bracket is an eighth open one, and no `)` lacks an open one
  pub brackets : BracketsFit
  -- no zone is a ninth open one, and no `)MCR` lacks an open one
  pub zones : ZonesFit
  -- each jump has as its target a statement of its block, where brackets of the same op codes and as
  -- many zones stand open
  pub targets : JumpsLand
  -- at most 255 JU and nothing else stand between a JL and its target
  pub lists : ListsLead
  -- each operand fits its instruction and its block
  pub operands : OperandsFit
  -- USEDB stands first before a place in DB, and PASS before a CALL
  pub prepared : PreparedFit
  -- each CALL, UC and CC has its block, what it passes, and its instance
  pub calls : CallsFit
  -- each PASS passes what fits the parameter of the called block
  pub passed : PassedFit
  -- the block that a call finds is one of the program, with the head that the call sees
  pub called : CalledAreThere
