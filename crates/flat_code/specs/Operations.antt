-- The operation of an op code, by the table that the code uses.
use Rattle.std.specs.Prelude.{ℕ, slice_index_or}
use Rattle.flat_code.specs.declared.operations.Operation.{Operation}
use Rattle.flat_code.specs.declared.operations.Operation.TheVariants as operation
use Rattle.flat_code.specs.declared.operations.TheConstants.{OPERATIONS}

-- the operation of an op code, by the table that the code uses; `NoOperation` where the table has
-- no such op code
unfoldable pub operation_of : ℕ → Operation
operation_of code = slice_index_or OPERATIONS code operation.NoOperation
